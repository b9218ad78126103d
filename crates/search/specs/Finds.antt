-- What the search of a route call answers and leaves.
-- Assumes nothing.
use Rattle.std.specs.Prelude.{ℕ, List, length, Option, Some, None}
use Rattle.std.proofs.Math.Option as Math
use Rattle.meaning.specs.Reach.{Route}
use Rattle.meaning.specs.Light.{Light, encode}
use Rattle.meaning.specs.Calls.{over, bytes_view, granted_light}
use Rattle.meaning.specs.Plan.{node}
use Rattle.site.specs.Halls.{site_in}
use Rattle.site.specs.declared.hall.Hall.{Hall}
use Rattle.site.specs.declared.Trip.{Trip}
use Rattle.answers.specs.declared.Granted.{Granted}

-- the light of the trip on the hall's board
abbrev pub light_on : Hall → ℕ → Trip → Light
light_on hall tug trip = granted_light (site_in hall) (bytes_view (site_in hall) hall.board.now) tug (node trip.start trip.tick) trip.goal trip.dwell

-- the answer: the light's length and its arrival
unfoldable pub found_of : Math.Option Route → Light → Option Granted
found_of Math.none l = None
found_of (Math.some r) l = Some (record { len = length (encode l); arrival = l.arrival })

-- the area: the light in front, and later bytes as before
unfoldable pub out_of : Math.Option Route → Light → List ℕ → List ℕ
out_of Math.none l out = out
out_of (Math.some r) l out = over (encode l) out
