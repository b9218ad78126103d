-- What follows from a file that is ready, and laws of a motion's sweeps by their number.
-- Assumes nothing.
use Prim.Native.Nat.{ℕ, ◌+◌, ◌*◌, ◌≤◌, ◌<◌}
use native.Mathlib.Omega.{arith}
use mathlib.Core.Path.{◌≡◌, sym, ap, ◌∙◌, subst}
use mathlib.Core.Bool.{Bool, true}
use mathlib.Core.List.{List}
use lib.ListN.{length}
use lib.Dec.{leb, ltb}
use Rattle.meaning.specs.Limits.{horizon_limit, sweep_size}
use Rattle.meaning.specs.Site.{Sweep, site_of, motion_at, cell_of, sweep_good}
use Rattle.meaning.specs.Board.{Free}
use Rattle.meaning.specs.Plan.{free_from_to}
use Rattle.meaning.proofs.BasicsLaws.{all_at, each_all}
use Rattle.meaning.proofs.MotionLaws.{and_three, Fits, true_fits, good_at, cell_known}
use Rattle.meaning.proofs.SiteLaws.{read_well}
use borrow.Author.Tests.{leb-true, ltb-true}
use Rattle.site_layout.specs.Laid.{Laid}
use Rattle.site_sweeps.specs.Places.{sweep_at, sweeps_at, SweepIs}
use Rattle.site_sweeps.specs.declared.Sweep as ReadSweep
use Rattle.site_sweeps.proofs.Laws.{sweeps_length, sweeps_at_lem}
use Rattle.site.specs.declared.Sizes.{Sizes}
use Rattle.site_read.specs.declared.Motion as ReadMotion
use Rattle.site_read.specs.Motions.{MotionIs}
use Rattle.site_read.proofs.Laws.{read_laid}
use Rattle.board_ticks.specs.Runs.{OnBoard}
use Rattle.plan_ticks.proofs.ReadyLaws.{ready_cell}
use Rattle.site.specs.Ready.{Ready}
use Rattle.plan_steps.specs.Sweeps.{Sweeps, Swept}

-- ---- a file that is ready

pub record Known (file : List ℕ) (room : ℕ) (l : Sizes) : Type 0 where
  pub laid : Laid file
  pub short : (site_of file).horizon ≤ horizon_limit
  pub horizon : (site_of file).horizon ≡ l.horizon
  pub margin : (site_of file).margin ≡ l.margin
  pub states : length (site_of file).states ≡ l.states
  pub motions : length (site_of file).motions ≡ l.motions
  pub cell : (s : ℕ) → s < length (site_of file).states → cell_of (site_of file) s < (site_of file).cells
  pub cell_on : (cell : ℕ) → cell < (site_of file).cells → OnBoard room l.horizon cell

pub known : {file : List ℕ} {room : ℕ} {l : Sizes} → Ready file room l → Known file room l
known {file} {room} {l} r =
    let well = read_well file _ r.read in
    record {
      laid = read_laid file _ r.read;
      short = well.horizon_range.1;
      horizon = ap (λ (x : Sizes). x.horizon) (sym r.sizes);
      margin = ap (λ (x : Sizes). x.margin) (sym r.sizes);
      states = ap (λ (x : Sizes). x.states) (sym r.sizes);
      motions = ap (λ (x : Sizes). x.motions) (sym r.sizes);
      cell = cell_known (site_of file) well;
      cell_on = ready_cell r;
    }

-- what is known of a motion that was read
pub record Read (file : List ℕ) (m : ReadMotion.Motion) : Type 0 where
  pub sweeps : Sweeps file m.first m.count m.span
  pub to : m.to < length (site_of file).states

pub read_motion : {file : List ℕ} {room : ℕ} {l : Sizes} {k : ℕ} {m : ReadMotion.Motion} → Ready file room l → k < length (site_of file).motions
    → MotionIs file (motion_at (site_of file) k) m → Read file m
read_motion {file} {k = k} {m = m} r h s =
    let site = site_of file in
    let x = motion_at site k in
    let good = good_at site (read_well file site r.read) k h in
    let below = good.to_below in
    let same = s.to in
    let each = each_all (Fits site.cells x.span) (sweep_good site.cells x.span) (true_fits site.cells x.span) x.sweeps good.sweeps_fit in
    record {
      sweeps = record { inside = s.inside; good = rw (s.sweeps, s.span) each };
      to = omega arith;
    }

-- ---- a motion's sweeps

-- the sweep's cell is free while a motion that starts at t uses it
abbrev pub use_free : Free → ℕ → Sweep → Bool
use_free f t w = free_from_to f w.cell (t + w.first) (t + w.last)

-- each keeps to the cells and to the span, so it ends by the horizon where its motion does
pub swept_at : (file : List ℕ) (at n d i t : ℕ) (w : ReadSweep.Sweep) → Sweeps file at n d → i < n → t + d ≤ (site_of file).horizon
    → SweepIs (sweep_at file (at + sweep_size * i)) w → Swept file w t
swept_at file at n d i t w s h in_time u =
    let cells = (site_of file).cells in
    let v = sweep_at file (at + sweep_size * i) in
    let size = sweeps_length n file at s.inside in
    let good : sweep_good cells d v ≡ true =
    subst (λ (x : Sweep). sweep_good cells d x ≡ true) (sweeps_at_lem i n file at v h s.inside)
    (all_at (sweep_good cells d) (sweeps_at file at n) v s.good i (omega arith)) in
    let (a, b, c) = and_three (ltb w.cell cells) (leb w.first w.last) (leb w.last d) (ap (sweep_good cells d) u.same ∙ good) in
    let known : w.cell < cells = ltb-true _ _ a in
    let order : w.first ≤ w.last = leb-true _ _ b in
    let span : w.last ≤ d = leb-true _ _ c in
    record { known = known; order = order; in_time = omega arith }
