-- Which site the arrays hold (see Arrays), and what is stored of a state and of a motion. The sweeps stay in the file.
-- Assumes nothing.
use Rattle.std.specs.Prelude.{ℕ, ◌+◌, ◌*◌, ◌≤◌, ◌<◌, ◌≡◌, List, length, set}
use Rattle.meaning.specs.Limits.{sweep_size}
use Rattle.meaning.specs.Site.{Site, Sweep, site_of, state_at, motion_at}
use Rattle.site_sweeps.specs.Places.{sweep_at, sweeps_at}
use Rattle.site_read.specs.Motions.{MotionIs}
use Rattle.site_read.specs.declared.Motion as ReadMotion
use Rattle.search_site.specs.Arrays.{cell_at, speed_at, from_at, to_at, span_at, place_at, count_at}

-- the sweeps of motion m
abbrev pub sweeps_of : List ℕ → List ℕ → ℕ → List Sweep
sweeps_of mv sw m = sweeps_at sw (place_at mv m) (count_at mv m)

-- ---- which site they hold

pub record Decoded (site : Site) (n k : ℕ) (st mv sw : List ℕ) : Type 0 where
  pub states : length site.states ≡ n
  pub motions : length site.motions ≡ k
  pub cell : (s : ℕ) → s < n → cell_at st s ≡ (state_at site s).cell
  pub speed : (s : ℕ) → s < n → speed_at st s ≡ (state_at site s).speed
  pub from : (m : ℕ) → m < k → from_at mv m ≡ (motion_at site m).from
  pub to : (m : ℕ) → m < k → to_at mv m ≡ (motion_at site m).to
  pub span : (m : ℕ) → m < k → span_at mv m ≡ (motion_at site m).span
  pub sweeps : (m : ℕ) → m < k → sweeps_of mv sw m ≡ (motion_at site m).sweeps

-- ---- what keeps each index of the sweeps in range

-- n sweeps from place p on: within the bytes, of known cells, none ends before it begins, and none past the span
pub record SweepsIn (cells span : ℕ) (sw : List ℕ) (p n : ℕ) : Type 0 where
  pub long : p + sweep_size * n ≤ length sw
  pub cell : (i : ℕ) → i < n → (sweep_at sw (p + sweep_size * i)).cell < cells
  pub order : (i : ℕ) → i < n → (sweep_at sw (p + sweep_size * i)).first ≤ (sweep_at sw (p + sweep_size * i)).last
  pub end : (i : ℕ) → i < n → (sweep_at sw (p + sweep_size * i)).last ≤ span

abbrev pub Sweeps : ℕ → ℕ → List ℕ → List ℕ → Type 0
Sweeps cells k mv sw = (m : ℕ) → m < k → SweepsIn cells (span_at mv m) sw (place_at mv m) (count_at mv m)

-- ---- the states, stored

-- the cell and the speed of state s
abbrev pub StateDecoded : List ℕ → ℕ → ℕ → ℕ → Type 0
StateDecoded file s cell speed = (cell ≡ (state_at (site_of file) s).cell) × (speed ≡ (state_at (site_of file) s).speed)

abbrev pub StatesDecoded : List ℕ → List ℕ → Type 0
StatesDecoded file st = (s : ℕ) → s < length (site_of file).states → StateDecoded file s (cell_at st s) (speed_at st s)

-- two numbers stored from place i on
abbrev pub set_two : List ℕ → ℕ → ℕ → ℕ → List ℕ
set_two xs i a b = set (set xs i a) (i + 1) b

-- ---- the motions, stored

-- its numbers fit 16 bits
pub record FitsU16 (r : ReadMotion.Motion) : Type 0 where
  pub from : r.from < 65536
  pub to : r.to < 65536
  pub first : r.first < 65536
  pub count : r.count < 65536

-- the five numbers of a motion stored from place i on
abbrev pub set_motion : List ℕ → ℕ → ReadMotion.Motion → List ℕ
set_motion xs i r = set (set (set (set_two xs i r.from r.to) (i + 2) r.span) (i + 3) r.first) (i + 4) r.count

-- and motion m read back
abbrev pub motion_in : List ℕ → ℕ → ReadMotion.Motion
motion_in mv m = record { from = from_at mv m; to = to_at mv m; span = span_at mv m; first = place_at mv m; count = count_at mv m }

-- r says motion m: its numbers, and where its sweeps stand in the file; a span has one byte
pub record MotionDecoded (file : List ℕ) (m : ℕ) (r : ReadMotion.Motion) : Type 0 where
  pub shows : MotionIs file (motion_at (site_of file) m) r
  pub span : r.span < 256

-- a span that a byte holds and that none of the first n motions exceeds
pub record LongestTo (file : List ℕ) (n span : ℕ) : Type 0 where
  pub some : 1 ≤ span
  pub small : span ≤ 255
  pub longest : (m : ℕ) → m < n → (motion_at (site_of file) m).span ≤ span

abbrev pub MotionsDecoded : List ℕ → List ℕ → Type 0
MotionsDecoded file mv = (m : ℕ) → m < length (site_of file).motions → MotionDecoded file m (motion_in mv m)
