-- The tests as the code makes them, and the sizes that it tells.
-- Assumes nothing.
use Prim.Native.Nat.{ℕ, ◌≤◌}
use mathlib.Core.Path.{◌≡◌, sym, ap, ◌∙◌}
use mathlib.Core.List.{List}
use mathlib.Core.Bool.{true}
use lib.ListN.{length, drop, length-map}
use Rattle.meaning.specs.Fields.{complete, listed}
use Rattle.meaning.specs.Site.{site_of, layout_good, state_count, later_of, from_centres}
use Rattle.fields.specs.Places.{fields_at}
use Rattle.site_layout.specs.Laid.{leading, state_place, LeadingIs, HeadIs, Laid}
use Rattle.site_layout.specs.declared.Head.{Head}
use Rattle.site_layout.specs.declared.Leading.{Leading}
use Rattle.site_layout.proofs.Laws.{HeadHere, laid_count, laid_cut, laid_motions, laid_centres}
use Rattle.site.specs.Check.{sizes_of}
use Rattle.site_read.proofs.Laws.{laid_start}

-- the test of the layout
pub layout_same : (file : List ℕ) (head : Head) → HeadHere file → HeadIs file head
    → layout_good (site_of file).cells (state_count file) (later_of file) ≡ layout_good head.cells head.states (listed (fields_at file head.start))
layout_same file head h e = rw (h.later, e.cells, e.states, e.start)

module _ (file : List ℕ) (d : Laid file) (head : Head) (e : HeadIs file head) where
  pub count_is : head.states ≡ length (site_of file).states
  count_is = e.states ∙ sym (laid_count file d)

  -- where the motions start, and the fields from there on
  place_is : (start : ℕ) → start ≡ state_place head.states → start ≡ state_place (state_count file)
  place_is start p = p ∙ ap state_place e.states

  pub motions_start : (start : ℕ) → start ≡ state_place head.states → (complete (fields_at file start) ≡ true) × (start ≤ length file)
  motions_start start p = let x = (laid_start file start d (p ∙ ap state_place count_is)).0 in (x.whole, x.inside)

  module _ (start : ℕ) (p : start ≡ state_place head.states) (r : Leading) (first : LeadingIs file start r) where
    motions_leading : r.count ≡ leading (listed (fields_at file (state_place (state_count file))))
    motions_leading = first.count ∙ ap (λ (k : ℕ). leading (listed (fields_at file k))) (place_is start p)

    pub motions_count : r.count ≡ length (site_of file).motions
    motions_count = motions_leading ∙ sym (laid_cut file d).count ∙ sym (ap length (laid_motions file d) ∙ simp length-map)

    pub centres_count : (n : ℕ) → n ≡ length (listed (fields_at file r.next)) → n ≡ length (site_of file).centres
    centres_count n q =
        let fs = listed (fields_at file (state_place (state_count file))) in
        let same : listed (fields_at file r.next) ≡ from_centres fs =
        first.rest ∙ ap (λ (k : ℕ). drop r.count (listed (fields_at file k))) (place_is start p) ∙ ap (λ (k : ℕ). drop k fs) motions_leading ∙ sym (laid_cut file d).centres in
        q ∙ ap length same ∙ sym (ap length (laid_centres file d) ∙ simp length-map)

    pub sizes_are : (n : ℕ) → n ≡ length (listed (fields_at file r.next)) →
        record { horizon = head.horizon; cells = head.cells; margin = head.margin; states = head.states; motions = r.count; start = start; centres = n }
        ≡ sizes_of (site_of file)
    sizes_are n q =
        let states = count_is in
        let motions = motions_count in
        let place : start ≡ state_place (length (site_of file).states) = p ∙ ap state_place count_is in
        let centres = centres_count n q in
        λ i. record { horizon = e.horizon i; cells = e.cells i; margin = e.margin i; states = states i; motions = motions i; start = place i; centres = centres i }
