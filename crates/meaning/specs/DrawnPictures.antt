-- What the picture of a step is, in the words of 'Moving picture' of docs/FORMATS.md: by the step itself and the one before it, with no
-- walk. Coordinates and shares are in sixteenths.
-- Assumes nothing.
use Rattle.std.specs.Prelude.{ℕ, ◌+◌, ◌*◌, ◌-◌, ◌≤◌, ◌≡◌, List, [], ◌∷◌, ◌++◌, length, get_or}
use Rattle.meaning.specs.Site.{Site, Centre, no_centre, state_at, motion_at}
use Rattle.meaning.specs.Plan.{Step, wait, move}
use Rattle.meaning.specs.Light.{Light}
use Rattle.meaning.specs.Pictures.{Place, Picture, off_floor, standing_at, rolling_at}

-- the centre of the cell of a state, as the list has it in cell order
abbrev pub CentreOf : Site → ℕ → Centre
CentreOf site s = get_or site.centres (state_at site s).cell no_centre

-- "Sixteen times a drawn coordinate is exactly 16 times the old one plus k times the difference", which may be negative
pub record Drawn (k old new n : ℕ) : Type 0 where
  pub ahead : old ≤ new → n ≡ 16 * old + k * (new - old)
  pub back : new ≤ old → n + k * (old - new) ≡ 16 * old

pub record DrawnBetween (k : ℕ) (a b : Centre) (p : Place) : Type 0 where
  pub across : Drawn k a.x b.x p.x
  pub down : Drawn k a.y b.y p.y

-- a place that sits on a centre
abbrev pub OnCentre : Centre → Place → Type 0
OnCentre c p = (p.x ≡ 16 * c.x) × (p.y ≡ 16 * c.y)

-- the picture of step i of a light at frame k
pub data Shown (site : Site) (l : Light) (k : ℕ) : ℕ → Picture → Type 0 where
  -- a step past the last is off the floor
  past_last : {i : ℕ} → length l.steps ≤ i → Shown site l k i off_floor
  -- a wait stands at the start state's centre
  first_wait : {i : ℕ} {p : Place} (n : ℕ) (later : List Step) → i ≡ 0 → l.steps ≡ wait n ∷ later
      → OnCentre (CentreOf site l.start) p → Shown site l k i (standing_at p)
  -- or where the motion before it ends
  later_wait : {i : ℕ} {p : Place} (before : List Step) (m n : ℕ) (later : List Step) → i ≡ length before + 1
      → l.steps ≡ before ++ move m ∷ wait n ∷ later
      → OnCentre (CentreOf site (motion_at site m).to) p → Shown site l k i (standing_at p)
  -- a motion rolls from its from cell's centre to its to cell's, with its share k / 16
  motion : {i : ℕ} {p : Place} (before : List Step) (m : ℕ) (later : List Step) → i ≡ length before → l.steps ≡ before ++ move m ∷ later
      → DrawnBetween k (CentreOf site (motion_at site m).from) (CentreOf site (motion_at site m).to) p → Shown site l k i (rolling_at p k)
