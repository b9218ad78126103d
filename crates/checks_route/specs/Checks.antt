-- The later checks of a route call before its search.
-- Assumes nothing.
use Rattle.std.specs.Prelude.{ℕ, Bool, List, [], ◌∷◌, leb}
use Rattle.meaning.specs.Basics.{every}
use Rattle.meaning.specs.Answers.{Refusal}
use Rattle.meaning.specs.Site.{Site}
use Rattle.meaning.specs.Plan.{Node}
use Rattle.meaning.specs.Calls.{View, Room, light_room, words_needed, route_refusals}
use Rattle.checks.specs.Checks.{up_to_number}

-- 14: the areas hold a light, and the words of the search
unfoldable pub room_enough : Site → Room → Bool
room_enough site room = every (leb (light_room site) room.out ∷ leb (words_needed site) room.words ∷ [])

-- the refusals of route without 18
abbrev pub route_checks : Site → View → Room → ℕ → Node → ℕ → ℕ → List Refusal
route_checks site v room tug a goal dwell = up_to_number 14 (route_refusals site v room tug a goal dwell)
