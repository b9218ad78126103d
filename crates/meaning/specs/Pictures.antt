-- The moving picture of a light: where its tug is drawn at a frame of a step, and the draw call ('Moving picture' of docs/FORMATS.md).
-- Coordinates and shares are counted in sixteenths here, so that they are whole numbers.
-- Assumes nothing.
use Rattle.std.specs.Prelude.{ℕ, zero, suc, ◌+◌, ◌*◌, ◌-◌, ◌||◌, not, List, [], ◌∷◌, ◌++◌, ltb, eqb, length}
use Rattle.meaning.specs.Limits.{last_frame}
use Rattle.meaning.specs.Answers.{Refusal, ◌if◌, lowest, Answer, answer}
use Rattle.meaning.specs.Site.{Site, Centre, cell_of, motion_at, centre_at, site_of, site_refusals}
use Rattle.meaning.specs.Plan.{Step, wait, move}
use Rattle.meaning.specs.Light.{Light, light_of, is_light}
use Rattle.meaning.specs.Calls.{light_named}

-- a place, in sixteenths of a millimetre
pub record Place : Type 0 where
  pub x : ℕ
  pub y : ℕ

pub data Picture : Type 0 where
  off_floor : Picture
  standing_at : (place : Place) → Picture
  -- the share of the motion, in sixteenths
  rolling_at : (place : Place) (share : ℕ) → Picture

-- ---- places

-- the centre of a state's cell
abbrev pub state_centre : Site → ℕ → Centre
state_centre site s = centre_at site (cell_of site s)

abbrev pub place_on : Centre → Place
place_on c = record { x = last_frame * c.x; y = last_frame * c.y }

-- the coordinate at frame k between an old one and a new one
abbrev pub between : ℕ → ℕ → ℕ → ℕ
between k old new = (last_frame - k) * old + k * new

abbrev pub place_between : ℕ → Centre → Centre → Place
place_between k a b = record { x = between k a.x b.x; y = between k a.y b.y }

-- ---- the picture of a step

-- Step i of the steps from the state s on, at frame k. A wait stands in that state's cell, where the motion before it ended; a motion
-- rolls from its from state's cell to its to state's, whether or not the tug can be there.
abbrev pub picture_from : Site → ℕ → List Step → ℕ → ℕ → Picture
picture_from site s [] i k = off_floor
picture_from site s (wait n ∷ ps) zero k = standing_at (place_on (state_centre site s))
picture_from site s (move m ∷ ps) zero k =
    rolling_at (place_between k (state_centre site (motion_at site m).from) (state_centre site (motion_at site m).to)) k
picture_from site s (wait n ∷ ps) (suc i) k = picture_from site s ps i k
picture_from site s (move m ∷ ps) (suc i) k = picture_from site (motion_at site m).to ps i k

unfoldable pub picture_of : Site → Light → ℕ → ℕ → Picture
picture_of site l i k = picture_from site l.start l.steps i k

-- ---- the call

-- behind 1 to 6: no board is looked at, no tug's number, and no plan is walked
unfoldable pub picture_refusals : Site → List ℕ → ℕ → List Refusal
picture_refusals site light k =
    8 if not (is_light light)
    ∷ 10 if not (light_named site (light_of light))
    ∷ 20 if (ltb last_frame k || eqb (length site.centres) 0)
    ∷ []

unfoldable pub draw_refusals : List ℕ → List ℕ → ℕ → List Refusal
draw_refusals file light k = site_refusals file ++ picture_refusals (site_of file) light k

-- what the draw call answers, over any site file, light, step and frame
unfoldable pub draw_meant : List ℕ → List ℕ → ℕ → ℕ → Answer Picture
draw_meant file light i k = answer (picture_of (site_of file) (light_of light) i k) (lowest (draw_refusals file light k))
