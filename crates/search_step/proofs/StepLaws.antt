-- What a wait and a motion set in a block.
-- Assumes nothing.
use Prim.Native.Nat.{ℕ, zero, suc, ◌+◌, ◌-◌, ◌*◌, ◌≤◌, ◌<◌}
use native.Mathlib.Omega.{arith}
use mathlib.Core.Path.{◌≡◌, refl, sym, ap, ap₂, ◌∙◌}
use mathlib.Core.Bool.{Bool, true, false, not, ◌&&◌, ◌||◌, and-true}
use mathlib.Core.List.{List}
use lib.Dec.{ltb, eqb}
use lib.ListN.{length, get_or}
use borrow.Author.Tests.{ltb-true, ltb-false, eqb-true, eqb-false}
use Rattle.std.proofs.lemmas.Bool.{not-true, not-false, or_left}
use Rattle.meaning.proofs.BasicsLaws.{decide, and_left, and_right}
use Rattle.search_sizes.specs.Sizes.{block_ticks, blocks, window_ticks, row_ticks, block_start, span_limit}
use Rattle.search_ticks.specs.Rows.{at, has, total, Grown, Changed, pushed, waited, filled}
use Rattle.search_runs.specs.Runs.{ended, run_length}
use Rattle.search_site.specs.Arrays.{cell_at, speed_at, from_at, to_at, span_at}
use Rattle.search_step.specs.Sets.{Pairs, WaitClosed, ends_at, MoveClosed, Inside, Within, Kept, RowSet, TablesRight, RowReady, RowsReady}

-- ---- tests

pub either : {X : Type 0} (a b : Bool) → (a || b) ≡ true → (a ≡ true → X) → (b ≡ true → X) → X
either true b e f g = f refl
either false b e f g = g e

pub or_right : (a b : Bool) → b ≡ true → (a || b) ≡ true
or_right true b e = refl
or_right false b e = e

-- ---- nothing is set

pub kept_start : (b : ℕ) (l : List ℕ) → Kept b l l
kept_start b l = record { inside = λ s u h e. e; early = λ s u h. refl; sized = refl }

-- ---- what was new, as a test of the bits that were new

grown_same : (l l' : List ℕ) (d : ℕ) → Grown l l' d → not (eqb d 0) ≡ false → l' ≡ l
grown_same l l' d grown e = grown.same (eqb-true d 0 (not-false (eqb d 0) e))

grown_more : (l l' : List ℕ) (d : ℕ) → Grown l l' d → not (eqb d 0) ≡ true → total l < total l'
grown_more l l' d grown e = let some : d ≡ 0 → ⊥ = eqb-false d 0 (not-true (eqb d 0) e) in grown.more (omega arith)

-- ---- a block of a row is set

module _ (l l' : List ℕ) (s b : ℕ) (test : ℕ → Bool) (small : b < blocks) (changed : Changed l l' s b test) where
  -- a position is as it was, or in the block
  by_place : {X : Type 0} (x u : ℕ) → u < row_ticks → (has l' x u ≡ has l x u → X) → ((i : ℕ) → i < block_ticks → x ≡ s → u ≡ block_start b + i → X) → X
  by_place x u h old here =
      decide (eqb x s)
      (λ r.
      let same : x ≡ s = eqb-true x s r in
      let moved : has l' s u ≡ has l s u → has l' x u ≡ has l x u = λ e. ap (λ (y : ℕ). has l' y u) same ∙ e ∙ sym (ap (λ (y : ℕ). has l y u) same) in
      decide (ltb u (block_start b))
      (λ e. old (moved (changed.early u (ltb-true u (block_start b) e))))
      (λ e.
      let ge : block_start b ≤ u = ltb-false u (block_start b) e in
      decide (ltb u (block_start b + block_ticks))
      (λ f. let lt : u < block_start b + block_ticks = ltb-true u (block_start b + block_ticks) f in here (u - block_start b) (omega arith) same (omega arith))
      (λ f. old (moved (changed.late u (ltb-false u (block_start b + block_ticks) f) h)))))
      (λ r. old (changed.others x u (eqb-false x s r) h))

  early_same : (x u : ℕ) → u < block_start b → has l' x u ≡ has l x u
  early_same x u h = by_place x u (omega arith) (λ e. e) (λ i lt same e. absurd (omega arith))

  block_within : (R : Pairs) → ((i : ℕ) → i < block_ticks → test i ≡ true → R s (block_start b + i) ≡ true) → Inside l R → Inside l' R
  block_within R new old x u h e =
      by_place x u h
      (λ same. old x u h (sym same ∙ e))
      (λ i lt row place. rw (row, place) (new i lt (sym (changed.here i lt) ∙ (rw (row, place) at e))))

  block_kept : ((i : ℕ) → i < block_ticks → has l s (block_start b + i) ≡ true → test i ≡ true) → Inside l (has l')
  block_kept keeps x u h e =
      by_place x u h
      (λ same. same ∙ e)
      (λ i lt row place. rw (row, place) (changed.here i lt ∙ keeps i lt (rw (row, place) at e)))

  block_set : (d : ℕ) → ((i : ℕ) → i < block_ticks → has l s (block_start b + i) ≡ true → test i ≡ true) → Grown l l' d → RowSet b s l l' (not (eqb d 0))
  block_set d keeps grown =
      record { kept = record { inside = block_kept keeps; early = early_same; sized = changed.sized }; others = changed.others; same = grown_same l l' d grown; more = grown_more l l' d grown }

-- ---- the free positions of a block

-- a run of one position
run_one : (g : ℕ → Bool) (u : ℕ) → ended g (run_length 0) u ≡ g u
unfolding ended run_length
run_one g u = let same : u - 0 ≡ u = omega arith in and-true (g (u - 0)) ∙ ap g same

-- the first rows have the free positions of each cell
pub free_row : {g : ℕ → ℕ → Bool} {cells n k b : ℕ} {st mv sw tab : List ℕ} → TablesRight g cells n k b st mv sw tab
    → (c j : ℕ) → c < cells → j < window_ticks → at tab (c * window_ticks + j) ≡ g c (block_ticks * b + j)
free_row {g = g} {cells = cells} {b = b} {tab = tab} r c j h lt =
    let row : c ≡ 0 * cells + c = omega arith in
    ap (λ (x : ℕ). at tab (x * window_ticks + j)) row ∙ r.right 0 c j r.some h lt ∙ run_one (g c) (block_ticks * b + j)

-- ---- a motion

module _ (mv sw : List ℕ) (g : ℕ → ℕ → Bool) (b m from to span : ℕ)
    (is_from : from ≡ from_at mv m) (is_to : to ≡ to_at mv m) (is_span : span ≡ span_at mv m) where
  -- the motion is closed, by its number in the block
  abbrev Ends : Pairs → Type 0
  Ends R = (i : ℕ) → i < block_ticks → R from (block_start b + i - span) ≡ true → ends_at mv sw g m (block_start b + i) ≡ true → R to (block_start b + i) ≡ true

  ends_closed : (R : Pairs) → Ends R → MoveClosed mv sw g b m R
  ends_closed R ends u lo hi on may =
      let i : ℕ = u + span_at mv m - block_start b in
      let place : u + span_at mv m ≡ block_start b + (u + span_at mv m - block_start b) = omega arith in
      let back : block_start b + (u + span_at mv m - block_start b) - span ≡ u = omega arith in
      ap₂ R (sym is_to) place
      ∙ ends i (omega arith) (ap₂ R is_from back ∙ on) (ap (ends_at mv sw g m) (sym place) ∙ may)

  closed_ends : span ≤ span_limit → (R : Pairs) → MoveClosed mv sw g b m R → Ends R
  closed_ends short R closed i lt on may =
      let place : block_start b + i - span + span_at mv m ≡ block_start b + i = omega arith in
      ap₂ R is_to (sym place)
      ∙ closed (block_start b + i - span) (omega arith) (omega arith) (ap (λ (x : ℕ). R x (block_start b + i - span)) (sym is_from) ∙ on) (ap (ends_at mv sw g m) place ∙ may)

module _ (mv l l' al : List ℕ) (b m from to span : ℕ) (small : b < blocks)
    (is_from : from ≡ from_at mv m) (is_to : to ≡ to_at mv m) (is_span : span ≡ span_at mv m) (short : span ≤ span_limit)
    (changed : Changed l l' to b (pushed l al from to m span b)) where
  -- what a push sets
  pub push_set : (d : ℕ) → Grown l l' d → RowSet b (to_at mv m) l l' (not (eqb d 0))
  push_set d grown =
      rw (← is_to) (block_set l l' to b (pushed l al from to m span b) small changed d
      (λ i lt e. or_left (has l to (block_start b + i)) (has l from (block_start b + i - span) && at al (m * block_ticks + i)) e) grown)

  module _ (sw : List ℕ) (g : ℕ → ℕ → Bool) (ready : RowReady g b mv sw al m) where
    pub push_within : Within (MoveClosed mv sw g b m) l l'
    push_within R closed inside =
        block_within l l' to b (pushed l al from to m span b) small changed R
        (λ i lt e.
        either (has l to (block_start b + i)) (has l from (block_start b + i - span) && at al (m * block_ticks + i)) e
        (λ o. inside to (block_start b + i) (omega arith) o)
        (λ o.
        closed_ends mv sw g b m from to span is_from is_to is_span short R closed i lt
        (inside from (block_start b + i - span) (omega arith) (and_left (has l from (block_start b + i - span)) (at al (m * block_ticks + i)) o))
        (sym (ready i lt) ∙ and_right (has l from (block_start b + i - span)) (at al (m * block_ticks + i)) o)))
        inside

    pub push_closed : (from ≡ to → ⊥) → MoveClosed mv sw g b m (has l')
    push_closed apart =
        ends_closed mv sw g b m from to span is_from is_to is_span (has l')
        (λ i lt on may.
        changed.here i lt
        ∙ or_right (has l to (block_start b + i)) (has l from (block_start b + i - span) && at al (m * block_ticks + i))
        (ap₂ (λ (x y : Bool). x && y) (sym (changed.others from (block_start b + i - span) apart (omega arith)) ∙ on) (ready i lt ∙ may)))

-- where no push could set anything new
pub quiet_closed : {g : ℕ → ℕ → Bool} {cells n k b : ℕ} {st mv sw tab : List ℕ} → TablesRight g cells n k b st mv sw tab
    → (l : List ℕ) (m from to span cell : ℕ) → m < k → from ≡ from_at mv m → to ≡ to_at mv m → span ≡ span_at mv m → cell ≡ cell_at st to → cell < cells
    → ((i : ℕ) → i < block_ticks → has l from (block_start b + i - span) ≡ true → at tab (cell * window_ticks + block_ticks + i) ≡ true → has l to (block_start b + i) ≡ true)
    → MoveClosed mv sw g b m (has l)
quiet_closed {g = g} {b = b} {st = st} {mv = mv} {sw = sw} {tab = tab} r l m from to span cell lt_k is_from is_to is_span is_cell known_cell old =
    ends_closed mv sw g b m from to span is_from is_to is_span (has l)
    (λ i lt on may.
    let place : cell * window_ticks + block_ticks + i ≡ cell * window_ticks + (block_ticks + i) = omega arith in
    let position : block_ticks * b + (block_ticks + i) ≡ block_start b + i = omega arith in
    let same : cell ≡ cell_at st (to_at mv m) = is_cell ∙ ap (cell_at st) is_to in
    old i lt on
    (ap (at tab) place ∙ free_row r cell (block_ticks + i) known_cell (omega arith) ∙ ap₂ g same position ∙ r.ends m (block_start b + i) lt_k may))

-- the row of motion m is right after al and known have changed to al' and known'
pub record Prepared (cells n k b m : ℕ) (st mv sw tab : List ℕ) (known : List Bool) (al : List ℕ) (known' : List Bool) (al' : List ℕ) : Type 0 where
  pub sized : (length al' ≡ length al) × (length known' ≡ length known)
  pub rows : (g : ℕ → ℕ → Bool) → TablesRight g cells n k b st mv sw tab → RowsReady g k b mv sw known al → RowsReady g k b mv sw known' al' × RowReady g b mv sw al' m

-- it was known before
pub prepared_known : (cells n k b m : ℕ) (st mv sw tab : List ℕ) (known : List Bool) (al : List ℕ) (known' : List Bool) (al' : List ℕ) → m < k → get_or known m false ≡ true → al' ≡ al → known' ≡ known
    → Prepared cells n k b m st mv sw tab known al known' al'
prepared_known cells n k b m st mv sw tab known al known' al' lt marked same_al same_known =
    rw (same_al, same_known) (record { sized = (refl, refl); rows = λ g right ready. (ready, ready m lt marked) })

-- ---- the waits of a state

module _ (l l' tab : List ℕ) (b s c : ℕ) (small : b < blocks) (changed : Changed l l' s b (filled l tab s c b)) where
  abbrev free : ℕ → Bool
  free j = at tab (c * window_ticks + 255 + j)

  abbrev held : ℕ → Bool
  held j = has l s (block_ticks * b + 255 + j)

  abbrev run : ℕ → Bool
  run j = waited free held j

  -- what a fill sets
  pub fill_set : (d : ℕ) → Grown l l' d → RowSet b s l l' (not (eqb d 0))
  fill_set d grown =
      block_set l l' s b (filled l tab s c b) small changed d (λ i lt e. or_left (has l s (block_start b + i)) (run (suc i)) e) grown

  run_free : (j : ℕ) → run j ≡ true → free j ≡ true
  unfolding waited
  run_free zero e = and_left (free 0) (held 0) e
  run_free (suc j) e = and_left (free (suc j)) (held (suc j) || run j) e

  run_here : (j : ℕ) → free j ≡ true → held j ≡ true → run j ≡ true
  unfolding waited
  run_here zero p e = rw (p, e)
  run_here (suc j) p e = rw (p, e)

  run_next : (j : ℕ) → free (suc j) ≡ true → run j ≡ true → run (suc j) ≡ true
  unfolding waited
  run_next j p e = rw p (or_right (held (suc j)) (run j) e)

  run_case : {X : Type 0} (j : ℕ) → run (suc j) ≡ true → (held (suc j) ≡ true → X) → (run j ≡ true → X) → X
  unfolding waited
  run_case j e f g = either (held (suc j)) (run j) (and_right (free (suc j)) (held (suc j) || run j) e) f g

  run_first : run 0 ≡ true → held 0 ≡ true
  unfolding waited
  run_first e = and_right (free 0) (held 0) e

  -- one wait, by its number
  abbrev Waits : Pairs → Type 0
  Waits R = (j : ℕ) → j < block_ticks → R s (block_ticks * b + 255 + j) ≡ true → free j ≡ true → free (suc j) ≡ true → R s (block_ticks * b + 255 + suc j) ≡ true

  run_within : (R : Pairs) → Waits R → Inside l R → (j : ℕ) → j ≤ block_ticks → run j ≡ true → R s (block_ticks * b + 255 + j) ≡ true
  run_within R w inside zero h e = inside s (block_ticks * b + 255 + 0) (omega arith) (run_first e)
  run_within R w inside (suc j) h e =
      run_case j e
      (λ o. inside s (block_ticks * b + 255 + suc j) (omega arith) o)
      (λ o. w j (omega arith) (run_within R w inside j (omega arith) o) (run_free j o) (run_free (suc j) e))

  next_place : (i : ℕ) → block_ticks * b + 255 + suc i ≡ block_start b + i
  next_place i = omega arith

  waits_within : (R : Pairs) → Waits R → Inside l R → Inside l' R
  waits_within R w inside =
      block_within l l' s b (filled l tab s c b) small changed R
      (λ i lt e.
      either (has l s (block_start b + i)) (run (suc i)) e
      (λ o. inside s (block_start b + i) (omega arith) o)
      (λ o. ap (R s) (sym (next_place i)) ∙ run_within R w inside (suc i) (omega arith) o))
      inside

  -- a free position that is set is reached by waits
  set_run : (j : ℕ) → j < block_ticks → has l' s (block_ticks * b + 255 + j) ≡ true → free j ≡ true → run j ≡ true
  set_run zero h e p = run_here 0 p (sym (changed.early (block_ticks * b + 255 + 0) (omega arith)) ∙ e)
  set_run (suc i) h e p =
      either (has l s (block_start b + i)) (run (suc i)) (sym (changed.here i (omega arith)) ∙ sym (ap (has l' s) (next_place i)) ∙ e)
      (λ o. run_here (suc i) p (ap (has l s) (next_place i) ∙ o))
      (λ o. o)

  waits_closed : Waits (has l')
  waits_closed j h e p q =
      ap (has l' s) (next_place j) ∙ changed.here j h
      ∙ or_right (has l s (block_start b + j)) (run (suc j)) (run_next j q (set_run j h e p))

  module _ (g : ℕ → ℕ → Bool) (cells n k : ℕ) (st mv sw : List ℕ) (right : TablesRight g cells n k b st mv sw tab)
      (is_cell : c ≡ cell_at st s) (known_cell : c < cells) (stands : speed_at st s ≡ 0) where
    free_at : (j : ℕ) → j ≤ block_ticks → free j ≡ g (cell_at st s) (block_ticks * b + 255 + j)
    free_at j h =
        let place : c * window_ticks + 255 + j ≡ c * window_ticks + (255 + j) = omega arith in
        let position : block_ticks * b + (255 + j) ≡ block_ticks * b + 255 + j = omega arith in
        ap (at tab) place ∙ free_row right c (255 + j) known_cell (omega arith) ∙ ap₂ g is_cell position

    pub fill_within : Within (WaitClosed st g b s) l l'
    fill_within R closed =
        waits_within R
        (λ j h e p q.
        let next : block_ticks * b + 255 + suc j ≡ suc (block_ticks * b + 255 + j) = omega arith in
        ap (R s) next
        ∙ closed stands (block_ticks * b + 255 + j) (omega arith) (omega arith) e (sym (free_at j (omega arith)) ∙ p)
        (ap (g (cell_at st s)) (sym next) ∙ sym (free_at (suc j) (omega arith)) ∙ q))

    pub fill_closed : WaitClosed st g b s (has l')
    fill_closed still u lo hi e now next =
        let j : ℕ = suc u - block_start b in
        let place : u ≡ block_ticks * b + 255 + (suc u - block_start b) = omega arith in
        let after : suc u ≡ block_ticks * b + 255 + suc (suc u - block_start b) = omega arith in
        ap (has l' s) after
        ∙ waits_closed j (omega arith) (ap (has l' s) (sym place) ∙ e)
        (free_at j (omega arith) ∙ ap (g (cell_at st s)) (sym place) ∙ now)
        (free_at (suc j) (omega arith) ∙ ap (g (cell_at st s)) (sym after) ∙ next)
