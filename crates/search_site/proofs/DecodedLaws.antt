-- What the search may rely on: the arrays of an accepted file hold its site, and keep each index of the search in range.
-- Assumes nothing.
use Prim.Native.Nat.{ℕ, ◌+◌, ◌*◌, ◌≤◌, ◌<◌}
use mathlib.Core.Path.{◌≡◌, sym, ap, ◌∙◌, subst}
use mathlib.Core.List.{List}
use native.Mathlib.Omega.{arith}
use lib.ListN.{length, get_or}
use Rattle.meaning.specs.Limits.{sweep_size}
use Rattle.meaning.specs.Answers.{accepted}
use Rattle.meaning.specs.Site.{Sweep, Site, site_of, read_site, motion_at}
use Rattle.meaning.specs.WellFormed.{WellFormed}
use Rattle.meaning.proofs.BasicsLaws.{each_at}
use Rattle.meaning.proofs.SiteLaws.{read_well, read_passes}
use Rattle.meaning.proofs.MotionLaws.{good_at, cell_known}
use Rattle.site_sweeps.specs.Places.{sweep_at}
use Rattle.site_sweeps.proofs.Laws.{sweeps_length, sweeps_at_lem}
use Rattle.site_read.specs.declared.Motion as ReadMotion
use Rattle.site_read.specs.Motions.{MotionIs}
use Rattle.search_site.specs.Arrays.{States, Motions, CellsBelow, Leads}
use Rattle.search_site.specs.Decoded.{Decoded, SweepsIn, Sweeps, StatesDecoded, FitsU16, motion_in, MotionsDecoded}

module _ (file : List ℕ) (e : read_site file ≡ accepted (site_of file)) where
  abbrev site : Site
  site = site_of file

  pub well : WellFormed site
  well = read_well file site e

  -- ---- a motion, by what was read of it
  module _ (m : ℕ) (r : ReadMotion.Motion) (h : m < length site.motions) (shows : MotionIs file (motion_at site m) r) where
    sweeps_count : length (motion_at site m).sweeps ≡ r.count
    sweeps_count = ap length (sym shows.sweeps) ∙ sweeps_length r.count file r.first shows.inside

    pub motion_fits : FitsU16 r
    motion_fits =
        let good = good_at site well m h in
        let s = well.states_range in
        let c = sweeps_count in
        let f = shows.from in
        let t = shows.to in
        let i = shows.inside in
        let a = good.from_below in
        let b = good.to_below in
        let lo = good.some_sweeps in
        let hi = good.few_sweeps in
        let z = (read_passes file site e).short in
        record { from = omega arith; to = omega arith; first = omega arith; count = omega arith }

    -- each of its sweeps, where it stands in the file
    sweep_fits : (j : ℕ) → j < r.count → let w = sweep_at file (r.first + sweep_size * j) in (w.cell < site.cells) × ((w.first ≤ w.last) × (w.last ≤ r.span))
    sweep_fits j q =
        let ws = (motion_at site m).sweeps in
        let none : Sweep = record { cell = 0; first = 0; last = 0 } in
        let c = sweeps_count in
        let d = shows.span in
        let fit = each_at _ ws none (good_at site well m h).sweeps_fit j (omega arith) in
        let end : (get_or ws j none).last ≤ r.span = omega arith in
        let here = ap (λ (l : List Sweep). get_or l j none) (sym shows.sweeps) ∙ sweeps_at_lem j r.count file r.first none q shows.inside in
        subst (λ (w : Sweep). (w.cell < site.cells) × ((w.first ≤ w.last) × (w.last ≤ r.span))) here (fit.0, (fit.1, end))

    sweeps_in : SweepsIn site.cells r.span file r.first r.count
    sweeps_in = record { long = shows.inside; cell = λ j q. (sweep_fits j q).0; order = λ j q. (sweep_fits j q).1.0; end = λ j q. (sweep_fits j q).1.1 }

  -- ---- the arrays

  module _ (st : List ℕ) (held : StatesDecoded file st) where
    pub states_fit : (n : ℕ) → n ≡ length site.states → n * 2 ≤ length st → States n st
    states_fit n p l =
        let few = well.states_range.1 in
        let cells = well.cells_range.1 in
        record {
          few = omega arith;
          long = omega arith;
          cell = λ s h.
              let c = (held s (omega arith)).0 in
              let b = cell_known site well s (omega arith) in
              omega arith;
        }

    pub cells_below : (n : ℕ) → n ≡ length site.states → CellsBelow site.cells n st
    cells_below n p s h =
        let c = (held s (omega arith)).0 in
        let b = cell_known site well s (omega arith) in
        omega arith

  module _ (mv : List ℕ) (held : MotionsDecoded file mv) where
    pub motions_fit : (k : ℕ) → k ≡ length site.motions → k * 5 ≤ length mv → Motions k mv
    motions_fit k p l =
        let few = well.motions_range in
        let states = well.states_range.1 in
        record {
          few = omega arith;
          long = omega arith;
          from = λ m h. let x = (held m (omega arith)).shows.from in let b = (good_at site well m (omega arith)).from_below in omega arith;
          to = λ m h. let x = (held m (omega arith)).shows.to in let b = (good_at site well m (omega arith)).to_below in omega arith;
          span = λ m h.
              let x = held m (omega arith) in
              let d = x.shows.span in
              let s = x.span in
              let b = (good_at site well m (omega arith)).takes_time in
              (omega arith, omega arith);
        }

    pub motions_lead : (n k : ℕ) → n ≡ length site.states → k ≡ length site.motions → Leads n k mv
    motions_lead n k p q =
        record {
          from = λ m h. let x = (held m (omega arith)).shows.from in let b = (good_at site well m (omega arith)).from_below in omega arith;
          to = λ m h. let x = (held m (omega arith)).shows.to in let b = (good_at site well m (omega arith)).to_below in omega arith;
          apart = λ m h e. let x = (held m (omega arith)).shows in (good_at site well m (omega arith)).differ (sym x.from ∙ e ∙ x.to);
        }

    pub sweeps_fit : (k : ℕ) → k ≡ length site.motions → Sweeps site.cells k mv file
    sweeps_fit k p m h = let q : m < length site.motions = omega arith in sweeps_in m (motion_in mv m) q (held m q).shows

  pub decoded : (st mv : List ℕ) → StatesDecoded file st → MotionsDecoded file mv → (n k : ℕ) → n ≡ length site.states → k ≡ length site.motions
      → Decoded site n k st mv file
  decoded st mv states motions n k p q =
      record {
        states = sym p;
        motions = sym q;
        cell = λ s h. (states s (omega arith)).0;
        speed = λ s h. (states s (omega arith)).1;
        from = λ m h. (motions m (omega arith)).shows.from;
        to = λ m h. (motions m (omega arith)).shows.to;
        span = λ m h. (motions m (omega arith)).shows.span;
        sweeps = λ m h. (motions m (omega arith)).shows.sweeps;
      }
