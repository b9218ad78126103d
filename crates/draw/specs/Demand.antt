-- What is demanded of a draw call, as statements about any desk that draws. A wrong desk is a desk too, and a demand that it meets
-- would be too weak. `HasValue r false n 16` of lib.Ieee.Exact says that the float r is finite, not negative and exactly n / 16.
-- Assumes nothing.
use Rattle.std.specs.Prelude.{ℕ, suc, ◌≤◌, ◌≡◌, false, List, length, Result, Ok, Err}
use Rattle.std.specs.Float.Ieee.Exact.{HasValue}
use Rattle.meaning.specs.Basics.{Bytes}
use Rattle.meaning.specs.Answers.{lowest, accepted}
use Rattle.meaning.specs.Site.{Site, read_site}
use Rattle.meaning.specs.Light.{Light}
use Rattle.meaning.specs.Refusals.{Not, LightBytes, LightKnown}
use Rattle.meaning.specs.Pictures as Exact
use Rattle.meaning.specs.Pictures.{draw_refusals, draw_meant}
use Rattle.meaning.specs.DrawnPictures.{Shown as IsPicture}
use Rattle.draw_pictures.specs.declared.Place.{Place}
use Rattle.draw_pictures.specs.declared.Picture.{Picture}
use Rattle.draw_pictures.specs.declared.Picture.TheVariants.{OffFloor, Standing, Rolling}
use Rattle.draw.specs.Drawn.{drawn_of}

-- `desk file light step frame drawn`: with these the call may return this, where a refusal is its number
abbrev pub DrawDesk : Type 1
DrawDesk = (file light : List ℕ) (step frame : ℕ) → Result Picture ℕ → Type 0

abbrev pub DrawExact : DrawDesk → Type 0
DrawExact desk = (file light : List ℕ) (i k : ℕ) (d : Result Picture ℕ) → desk file light i k d → d ≡ drawn_of (draw_meant file light i k)

-- ---- the same in words

-- a place in floats is exactly one in sixteenths
abbrev pub ExactlyAt : Place → Exact.Place → Type 0
ExactlyAt q p = HasValue q.x false p.x 16 × HasValue q.y false p.y 16

-- and a picture, of the same case, with its share
abbrev pub Exactly : Picture → Exact.Picture → Type 0
Exactly OffFloor Exact.off_floor = Unit {0}
Exactly OffFloor (Exact.standing_at p) = ⊥
Exactly OffFloor (Exact.rolling_at p k) = ⊥
Exactly (Standing q) Exact.off_floor = ⊥
Exactly (Standing q) (Exact.standing_at p) = ExactlyAt q p
Exactly (Standing q) (Exact.rolling_at p k) = ⊥
Exactly (Rolling q s) Exact.off_floor = ⊥
Exactly (Rolling q s) (Exact.standing_at p) = ⊥
Exactly (Rolling q s) (Exact.rolling_at p k) = ExactlyAt q p × HasValue s false k 16

pub record DrawDemand (desk : DrawDesk) : Type 0 where
  -- of an accepted site with centres, a light of its states and motions and a frame up to 16, the picture of the step
  pub drawn : (file light : List ℕ) (i k : ℕ) (d : Result Picture ℕ) → desk file light i k d → Bytes file
      → (site : Site) → read_site file ≡ accepted site → (x : Light) → LightBytes light x → LightKnown site x → k ≤ 16 → Not (length site.centres ≡ 0)
      → (q : Picture) × (p : Exact.Picture) × IsPicture site x k i p × Exactly q p × (d ≡ Ok q)
  -- else the lowest number that applies
  pub refused : (file light : List ℕ) (i k : ℕ) (d : Result Picture ℕ) → desk file light i k d → (n : ℕ) → lowest (draw_refusals file light k) ≡ suc n → d ≡ Err (suc n)
  -- and never a picture where one applies
  pub only_drawn : (file light : List ℕ) (i k : ℕ) (d : Result Picture ℕ) → desk file light i k d → (q : Picture) → d ≡ Ok q → lowest (draw_refusals file light k) ≡ 0
