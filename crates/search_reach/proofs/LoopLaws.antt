-- The blocks one after the other: which pairs are reached so far, and that the tug could not end in them.
-- Assumes nothing.
use Prim.Native.Nat.{ℕ, suc, ◌+◌, ◌*◌, ◌/◌, ◌≤◌, ◌<◌, min, max}
use native.Mathlib.Omega.{arith}
use mathlib.Core.Path.{◌≡◌, refl, sym, ap₂, ◌∙◌}
use mathlib.Core.Bool.{Bool, true, false, ◌&&◌, ◌||◌, false≢true, and_comm}
use mathlib.Core.List.{List}
use lib.Dec.{ltb, eqb}
use borrow.Author.Tests.{leb-true, ltb-true, ltb-false, eqb-true, eq-eqb}
use Rattle.meaning.specs.Site.{Site, cell_of}
use Rattle.meaning.specs.Board.{Free, free}
use Rattle.meaning.specs.Plan.{Node, node, can_unload}
use Rattle.meaning.proofs.BasicsLaws.{decide, and_left, and_right, every_at}
use Rattle.site.specs.declared.Sizes.{Sizes}
use Rattle.site.specs.declared.Trip.{Trip}
use Rattle.site.specs.Halls.{site_in, free_in}
use Rattle.search_sizes.specs.Sizes.{block_ticks, blocks, row_ticks}
use Rattle.search_ticks.specs.Rows.{at, has, Seeded}
use Rattle.search_runs.specs.Runs.{Tables, Ahead}
use Rattle.search_site.specs.Arrays.{span_at}
use Rattle.search_step.specs.Sets.{Pairs, Closed, Inside, Within, Kept}
use Rattle.search_step.proofs.StepLaws.{or_right}
use Rattle.search_ends.specs.Ends.{reached_at, ends_on, ends_in, First, EndsRight}
use Rattle.search_scene.specs.declared.Scene.{Scene}
use Rattle.search_reach.specs.Explored.{free_from}
use Rattle.search_reach.proofs.BlockLaws.{facts, tables_ahead, blank_ahead}
use Rattle.search_reach.proofs.RightLaws.{reached_right}

module _ (scene : Scene) (ends : List Bool) (tables : ℕ) (trip : Trip) where
  abbrev file : List ℕ
  file = scene.hall.file.bytes.now

  abbrev l : Sizes
  l = scene.hall.sizes

  abbrev start : ℕ
  start = trip.start

  abbrev tick : ℕ
  tick = trip.tick

  abbrev goal : ℕ
  goal = trip.goal

  abbrev site : Site
  site = site_in scene.hall

  abbrev f : Free
  f = free_in scene.hall

  abbrev a : Node
  a = node start tick

  abbrev first : ℕ
  first = tick / block_ticks

  abbrev g : ℕ → ℕ → Bool
  g = free_from f first

  abbrev ClosedIn : ℕ → Pairs → Type 0
  ClosedIn d = Closed l.states l.motions scene.states.now scene.motions.now file g d

  -- the pairs reached in the blocks below b
  pub record Reaching (b : ℕ) (tab re : List ℕ) : Type 0 where
    pub from : first ≤ b
    pub to : b ≤ blocks
    pub ahead : Ahead g l.cells tables b tab
    pub begun : has re start (block_ticks + tick) ≡ true
    pub closed : (d : ℕ) → first ≤ d → d < b → ClosedIn d (has re)
    pub least : (Q : Pairs) → ((d : ℕ) → first ≤ d → d < blocks → ClosedIn d Q) → Q start (block_ticks + tick) ≡ true → Inside re Q

  -- in which the tug could not end
  abbrev pub NoEnd : ℕ → Type 0
  NoEnd b = (dwell : ℕ) → EndsRight site f goal dwell tick ends → (t : ℕ) → tick ≤ t → t < block_ticks * b → t ≤ l.horizon → ends_on site f a goal dwell t ≡ false

  -- ---- at the start

  row_empty : (re : List ℕ) → ((j : ℕ) → at re j ≡ false) → (s u : ℕ) → has re s u ≡ false
  unfolding has
  row_empty re blank s u = blank (s * row_ticks + u)

  pub reaching_start : (tab re₀ re : List ℕ) → ((j : ℕ) → at tab j ≡ false) → ((j : ℕ) → at re₀ j ≡ false) → tick ≤ 1000 → Seeded re₀ re start tick → Reaching first tab re
  reaching_start tab re₀ re blank empty early seeded =
      record {
        from = omega arith;
        to = omega arith;
        ahead = blank_ahead f l.cells tables first tab blank;
        begun =
            seeded.bits start (block_ticks + tick) (omega arith)
            ∙ or_right (has re₀ start (block_ticks + tick)) _ (ap₂ (λ (x y : Bool). x && y) (eq-eqb start start refl) (eq-eqb (block_ticks + tick) (block_ticks + tick) refl));
        closed = λ d lo hi. absurd (omega arith);
        least = λ Q closed begun s u small i.
            let on : (eqb s start && eqb u (block_ticks + tick)) ≡ true =
            or_only (has re₀ s u) _ (row_empty re₀ empty s u) (sym (seeded.bits s u small) ∙ i) in
            let same : s ≡ start = eqb-true s start (and_left (eqb s start) _ on) in
            let same_tick : u ≡ block_ticks + tick = eqb-true u (block_ticks + tick) (and_right (eqb s start) _ on) in
            rw (same, same_tick) begun;
      }
    where
      or_only : (x y : Bool) → x ≡ false → (x || y) ≡ true → y ≡ true
      or_only true y e h = absurd (false≢true (sym e))
      or_only false y e h = h

  pub no_end_start : tick ≤ 1000 → NoEnd first
  no_end_start early dwell right t lo hi in_time = absurd (omega arith)

  -- ---- one more block

  closed_kept : (b d : ℕ) (re re' : List ℕ) → d < b → Kept b re re' → ClosedIn d (has re) → ClosedIn d (has re')
  closed_kept b d re re' lt kept closed = (
    λ s below stands u lo hi on now next.
        kept.early s (suc u) (omega arith) ∙ closed.0 s below stands u lo hi (sym (kept.early s u (omega arith)) ∙ on) now next,
    λ m below u lo hi on may.
        kept.early _ (u + span_at scene.motions.now m) (omega arith) ∙ closed.1 m below u lo hi (sym (kept.early _ u (omega arith)) ∙ on) may,
  )

  pub reaching_turn : (b : ℕ) (tab tab' re re' : List ℕ) → b < blocks → Kept b re re' → Tables g l.cells tables b tab' × (Within (ClosedIn b) re re' × ClosedIn b (has re'))
      → Reaching b tab re → Reaching (b + 1) tab' re'
  reaching_turn b tab tab' re re' few kept (right, (within, closed)) r =
      record {
        from = omega (arith, r.from);
        to = omega arith;
        ahead = tables_ahead g l.cells tables b tab' right;
        begun = kept.inside start (block_ticks + tick) (in_row r.from) r.begun;
        closed = λ d lo hi.
            decide (ltb d b)
            (λ e. closed_kept b d re re' (ltb-true d b e) kept (r.closed d lo (ltb-true d b e)))
            (λ e. let same : d ≡ b = omega (arith, ltb-false d b e) in rw same closed);
        least = λ Q all begun. within Q (all b r.from few) (r.least Q all begun);
      }
    where
      in_row : first ≤ b → block_ticks + tick < row_ticks
      in_row h = omega arith

  -- ---- what is reached

  module _ (known : start < l.states) (early : tick ≤ l.horizon) (free_start : f (cell_of site start) tick ≡ true) where
    in_hall : (c t : ℕ) → f c t ≡ true → t ≤ site.horizon
    unfolding free
    in_hall c t h = leb-true _ _ (every_at _ h 1)

    pub reached_so_far : (b : ℕ) (tab re : List ℕ) → Reaching b tab re → (s t : ℕ) → t < block_ticks * b → has re s (block_ticks + t) ≡ reached_at site f a s t
    reached_so_far b tab re r =
        let q = facts scene.hall.ready in
        reached_right site q.well l.states l.motions scene.states.now scene.motions.now file scene.arrays.decoded f in_hall start tick first known (omega (arith, q.horizon)) (omega arith) free_start
        re b r.to r.begun r.closed r.least

    -- the ends that are found in the goal's row are those of the search
    ends_same : (b : ℕ) (tab re : List ℕ) → Reaching b tab re → (dwell : ℕ) → EndsRight site f goal dwell tick ends
        → (t : ℕ) → tick ≤ t → t < block_ticks * b → t ≤ l.horizon → ends_in re ends goal t ≡ ends_on site f a goal dwell t
    ends_same b tab re r dwell right t late low in_time =
        let q = facts scene.hall.ready in
        ap₂ (λ (x y : Bool). x && y) (right t late (omega (arith, q.horizon))) (reached_so_far b tab re r goal t low)
        ∙ and_comm (can_unload site f (node goal t) dwell) (reached_at site f a goal t)

    module _ (b : ℕ) (tab re : List ℕ) (r : Reaching (b + 1) tab re) (before : NoEnd b) (low high x : ℕ)
        (is_low : low ≡ max (b * block_ticks) tick) (is_high : high ≡ min (b * block_ticks + block_ticks) (l.horizon + 1))
        (end : First (ends_in re ends goal) low high x) where
      none_below : (dwell : ℕ) → EndsRight site f goal dwell tick ends → (t : ℕ) → tick ≤ t → t < x → t < high → ends_on site f a goal dwell t ≡ false
      none_below dwell right t late lt in_block =
          let in_time : t ≤ l.horizon = omega arith in
          let in_row : t < block_ticks * (b + 1) = omega arith in
          decide (ltb t (block_ticks * b))
          (λ e. before dwell right t late (ltb-true t (block_ticks * b) e) in_time)
          (λ e.
          let past : block_ticks * b ≤ t = ltb-false t (block_ticks * b) e in
          let from : low ≤ t = omega arith in
          sym (ends_same (b + 1) tab re r dwell right t late in_row in_time) ∙ end.none t from lt)

      pub no_end_turn : high ≤ x → NoEnd (b + 1)
      no_end_turn past dwell right t late lt in_time = none_below dwell right t late (omega arith) (omega arith)

      pub end_found : x < high → (dwell : ℕ) → EndsRight site f goal dwell tick ends → First (ends_on site f a goal dwell) tick (l.horizon + 1) x
      end_found in_block dwell right =
          let from : low ≤ x = end.above in
          let late : tick ≤ x = omega arith in
          let in_time : x ≤ l.horizon = omega arith in
          let in_row : x < block_ticks * (b + 1) = omega arith in
          record {
            above = late;
            within = omega arith;
            none = λ t lo hi. none_below dwell right t lo hi (omega arith);
            hit = λ h. sym (ends_same (b + 1) tab re r dwell right x late in_row in_time) ∙ end.hit in_block;
          }

      pub reached_found : x < high → (s t : ℕ) → t ≤ x → has re s (block_ticks + t) ≡ reached_at site f a s t
      reached_found in_block s t le = reached_so_far (b + 1) tab re r s t (omega arith)

    pub no_end_left : (b : ℕ) → l.horizon < b * block_ticks → NoEnd b → (dwell : ℕ) → EndsRight site f goal dwell tick ends
        → First (ends_on site f a goal dwell) tick (l.horizon + 1) (l.horizon + 1)
    no_end_left b past none dwell right =
        record {
          above = omega arith;
          within = omega arith;
          none = λ t lo hi. none dwell right t lo (omega arith) (omega arith);
          hit = λ h. absurd (omega arith);
        }
