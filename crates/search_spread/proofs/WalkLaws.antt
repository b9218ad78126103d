-- What stays closed, and what the motions of one list close.
-- Assumes nothing.
use Prim.Native.Nat.{ℕ, suc, ◌+◌, ◌-◌, ◌*◌, ◌≤◌, ◌<◌}
use native.Mathlib.Omega.{arith}
use mathlib.Core.Path.{◌≡◌, refl, sym, ap, ◌∙◌, subst}
use mathlib.Core.Bool.{Bool, true, false, ◌||◌, false≢true}
use mathlib.Core.List.{List}
use lib.Dec.{eqb}
use lib.ListN.{length, get_or, set, length-set}
use lib.Seq.{get_or-set_same, get_or-set_other}
use borrow.Author.Tests.{eqb-true, eqb-false}
use Rattle.std.proofs.lemmas.Bool.{or_parts}
use Rattle.meaning.proofs.BasicsLaws.{decide}
use Rattle.search_sizes.specs.Sizes.{block_ticks, blocks, window_ticks, row_ticks}
use Rattle.search_ticks.specs.Rows.{has}
use Rattle.search_site.specs.Arrays.{from_at, to_at, span_at, Motions}
use Rattle.search_step.specs.Sets.{WaitClosed, MoveClosed, Below, Closed, Inside, Within, RowSet, TablesRight, RowsReady}
use Rattle.search_lists.specs.Lists.{Chain}
use Rattle.search_lists.proofs.ListLaws.{listed_on, end_from}
use Rattle.search_lists.proofs.WalkLaws.{Along, along_next, along_last, along_end}
use Rattle.search_spread.specs.Spread.{Stepped, MovesClosed, MovesTried, Tried, StillTried, Noted, Progress, Unnoted}
use Rattle.search_spread.proofs.StepsLaws.{stepped_start, stepped_map, stepped_then}
use Rattle.search_spread.proofs.ProgressLaws.{progress_then, progress_move}

-- row s is the same
abbrev SameRow : List ℕ → List ℕ → ℕ → Type 0
SameRow l l' s = (u : ℕ) → u < row_ticks → has l' s u ≡ has l s u

-- ---- what stays closed

module _ (n k : ℕ) (st mv sw : List ℕ) (g : ℕ → ℕ → Bool) (b : ℕ) (small : b < blocks) where
  move_kept : (m : ℕ) (l l' : List ℕ) → Inside l (has l') → SameRow l l' (from_at mv m) → MoveClosed mv sw g b m (has l) → MoveClosed mv sw g b m (has l')
  move_kept m l l' kept same c u lo hi e may = kept (to_at mv m) (u + span_at mv m) (omega arith) (c u lo hi (sym (same u (omega arith)) ∙ e) may)

  -- row s is that of the motion's start
  move_kept_from : (s m : ℕ) (l l' : List ℕ) → from_at mv m ≡ s → Inside l (has l') → SameRow l l' s → MoveClosed mv sw g b m (has l) → MoveClosed mv sw g b m (has l')
  move_kept_from s m l l' from kept same = move_kept m l l' kept (subst (SameRow l l') (sym from) same)

  waits_kept : (s : ℕ) (l l' : List ℕ) → SameRow l l' s → WaitClosed st g b s (has l) → WaitClosed st g b s (has l')
  waits_kept s l l' same c still u lo hi e now soon = same (suc u) (omega arith) ∙ c still u lo hi (sym (same u (omega arith)) ∙ e) now soon

  -- a row with nothing in the block and the one before it
  pub tried_empty : (noted : List Bool) (l : List ℕ) (s : ℕ) → Motions k mv → ((i : ℕ) → i < window_ticks → has l s (block_ticks * b + i) ≡ false) → Tried n k st mv sw g b noted (has l)
      → Tried n k st mv sw g b (set noted s false) (has l)
  tried_empty noted l s ranges none c x h e =
      decide (eqb x s)
      (λ r.
      let same : x ≡ s = eqb-true x s r in (
        λ still u lo hi on. absurd (empty x same u (omega arith) (omega arith) on),
        λ m lt from u lo hi on. absurd (empty (from_at mv m) (from ∙ same) u (omega (arith, ranges.span m lt)) (omega (arith, ranges.span m lt)) on),
      ))
      (λ r. c x h (sym (get_or-set_other noted s x false false (eqb-false x s r)) ∙ e))
    where
      empty : (y : ℕ) → y ≡ s → (u : ℕ) → block_ticks * b ≤ u → u < block_ticks * b + window_ticks → has l y u ≡ true → ⊥
      empty y same u lo hi on =
          let place : block_ticks * b + (u - block_ticks * b) ≡ u = omega arith in
          false≢true (sym (none (u - block_ticks * b) (omega arith)) ∙ ap (has l s) place ∙ ap (λ (z : ℕ). has l z u) (sym same) ∙ on)

  -- the waits and the motions of a state
  pub tried_state : (noted : List Bool) (l l₁ l₂ : List ℕ) (noted₂ : List Bool) (s : ℕ) (d : Bool) → RowSet b s l l₁ d → Inside l₁ (has l₂)
      → WaitClosed st g b s (has l₁) → Noted l₁ (set noted s false) l₂ noted₂ → (get_or noted₂ s false ≡ false → MovesClosed k mv sw g b s (has l₂))
      → Tried n k st mv sw g b noted (has l) → Tried n k st mv sw g b noted₂ (has l₂)
  tried_state noted l l₁ l₂ noted₂ s d waited kept₂ waits notes moves c x h e =
      let (was, same) = notes x e in
      decide (eqb x s)
      (λ r.
      let is : x ≡ s = eqb-true x s r in (
        waits_kept x l₁ l₂ same (subst (λ (y : ℕ). WaitClosed st g b y (has l₁)) (sym is) waits),
        subst (λ (y : ℕ). MovesClosed k mv sw g b y (has l₂)) (sym is) (moves (ap (λ (y : ℕ). get_or noted₂ y false) (sym is) ∙ e)),
      ))
      (λ r.
      let ne : x ≡ s → ⊥ = eqb-false x s r in
      let before = c x h (sym (get_or-set_other noted s x false false ne) ∙ was) in
      let row : SameRow l l₂ x = λ u lt. same u lt ∙ waited.others x u ne lt in (
        waits_kept x l l₂ row before.0,
        λ m lt from. move_kept_from x m l l₂ from (λ y u lt i. kept₂ y u lt (waited.kept.inside y u lt i)) row (before.1 m lt from),
      ))

-- ---- the notes of growth

noted_then : (l₀ : List ℕ) (noted₀ : List Bool) (l : List ℕ) (noted : List Bool) (l' : List ℕ) (noted' : List Bool) → Noted l₀ noted₀ l noted → Noted l noted l' noted' → Noted l₀ noted₀ l' noted'
noted_then l₀ noted₀ l noted l' noted' p q x e =
    let (was, same) = q x e in
    let (first, row) = p x was in
    (first, λ u lt. same u lt ∙ row u lt)

-- the notes after row `to` has grown, if it has
abbrev pub note : List Bool → ℕ → Bool → List Bool
note noted to new = set noted to (get_or noted to false || new)

noted_one : (b : ℕ) (l l' : List ℕ) (noted : List Bool) (to : ℕ) (new : Bool) → to < length noted → RowSet b to l l' new → Noted l noted l' (note noted to new)
noted_one b l l' noted to new room moved x e =
    decide (eqb x to)
    (λ r.
    let same : x ≡ to = eqb-true x to r in
    let none = or_parts (get_or noted to false) new (sym (get_or-set_same noted to _ false room) ∙ ap (λ (y : ℕ). get_or (note noted to new) y false) (sym same) ∙ e) in
    (ap (λ (y : ℕ). get_or noted y false) same ∙ none.0, λ u lt. ap (λ (z : List ℕ). has z x u) (moved.same none.1)))
    (λ r.
    let ne : x ≡ to → ⊥ = eqb-false x to r in
    (sym (get_or-set_other noted to x _ false ne) ∙ e, λ u lt. moved.others x u ne lt))

-- ---- the motions of one list

-- motion m is closed where no growth of s is noted
abbrev Done : List ℕ → List ℕ → ℕ → ℕ → (ℕ → ℕ → Bool) → List ℕ → List Bool → ℕ → Type 0
Done mv sw b s g l noted m = get_or noted s false ≡ false → MoveClosed mv sw g b m (has l)

-- the motions of the list of s before a are done
abbrev pub Walked : ℕ → List ℕ → List ℕ → List ℕ → ℕ → ℕ → List ℕ → List Bool → ℕ → (ℕ → ℕ → Bool) → Type 0
Walked k mv sw ls b s l noted a g =
    (m : ℕ) → Chain ls k (get_or ls (k + s) 0) m → from_at mv m ≡ s → Along ls k (Done mv sw b s g l noted) a m

module _ (k : ℕ) (mv sw ls : List ℕ) (b s : ℕ) (g : ℕ → ℕ → Bool) where
  -- what is on no list is none of the motions of s
  walked_all : (l : List ℕ) (noted : List Bool) → ((m : ℕ) → Chain ls k (get_or ls (k + s) 0) m → from_at mv m ≡ s → Done mv sw b s g l noted m)
      → MovesTried k mv sw ls b s l noted g
  walked_all l noted each all e m lt from = each m (listed_on 0 k mv ls s all m lt (end_from mv m ∙ from)) from e

  -- the list is at its end
  pub walked_end : (l : List ℕ) (noted : List Bool) (a : ℕ) → k ≤ a → Walked k mv sw ls b s l noted a g → MovesTried k mv sw ls b s l noted g
  walked_end l noted a past w = walked_all l noted (λ m c from. along_end ls k (Done mv sw b s g l noted) a m past (w m c from))

  module _ (l l' : List ℕ) (noted : List Bool) (a : ℕ) (new : Bool) (to : ℕ) (small : b < blocks) (room : to < length noted)
      (moved : RowSet b to l l' new) (closed : MoveClosed mv sw g b a (has l')) where
    still : (m : ℕ) → from_at mv m ≡ s → Done mv sw b s g l noted m → Done mv sw b s g l' (note noted to new) m
    still m from c e =
        let (was, same) = noted_one b l l' noted to new room moved s e in
        move_kept_from 0 k mv mv sw g b small s m l l' from moved.kept.inside same (c was)

    pub walked_more : (after : ℕ) → after ≡ get_or ls a 0 → Walked k mv sw ls b s l noted a g → Walked k mv sw ls b s l' (note noted to new) after g
    walked_more after e w m c from =
        along_next ls k (Done mv sw b s g l noted) (Done mv sw b s g l' (note noted to new)) a m (still m from) (λ none. closed) after e (w m c from)

    -- nothing stands behind a
    pub walked_last : get_or ls a 0 ≤ a → Walked k mv sw ls b s l noted a g → MovesTried k mv sw ls b s l' (note noted to new) g
    walked_last low w =
        walked_all l' (note noted to new)
        (λ m c from. along_last ls k (Done mv sw b s g l noted) (Done mv sw b s g l' (note noted to new)) a m (still m from) (λ none. closed) low (w m c from))

-- ---- what the walk of a list keeps

-- the motions tried so far, from the notes noted₀ to noted
pub record Walk (cells n k b : ℕ) (st mv sw tab : List ℕ) (known₀ : List Bool) (al₀ l₀ : List ℕ) (noted₀ known : List Bool) (al l : List ℕ) (noted : List Bool) (Q : (ℕ → ℕ → Bool) → Type 0) : Type 0 where
  pub steps : Stepped cells n k b st mv sw tab known₀ al₀ l₀ known al l (λ g. Below (MoveClosed mv sw g b) k) Q
  pub long : length noted ≡ length noted₀
  pub noted_growth : Noted l₀ noted₀ l noted
  pub progress : Progress l₀ l (Unnoted noted₀ noted)

module _ {cells n k b : ℕ} {st mv sw tab : List ℕ} where
  pub walk_end : {known₀ : List Bool} {al₀ l₀ : List ℕ} {noted₀ known : List Bool} {al l : List ℕ} {noted : List Bool} {P Q : (ℕ → ℕ → Bool) → Type 0} → ((g : ℕ → ℕ → Bool) → P g → Q g)
      → Walk cells n k b st mv sw tab known₀ al₀ l₀ noted₀ known al l noted P → Walk cells n k b st mv sw tab known₀ al₀ l₀ noted₀ known al l noted Q
  walk_end f w = record { steps = stepped_map (λ g R c. c) f w.steps; long = w.long; noted_growth = w.noted_growth; progress = w.progress }

  -- one more motion, a
  pub walk_more : {known₀ : List Bool} {al₀ l₀ : List ℕ} {noted₀ known : List Bool} {al l : List ℕ} {noted : List Bool} {P Q : (ℕ → ℕ → Bool) → Type 0} (known' : List Bool) (al' l' : List ℕ) (a to : ℕ) (new : Bool)
      → a < k → to ≡ to_at mv a → to < length noted₀ → RowSet b (to_at mv a) l l' new → (length al' ≡ length al) × (length known' ≡ length known)
      → ((g : ℕ → ℕ → Bool) → TablesRight g cells n k b st mv sw tab → RowsReady g k b mv sw known al
      → RowsReady g k b mv sw known' al' × (Within (MoveClosed mv sw g b a) l l' × MoveClosed mv sw g b a (has l')))
      → ((g : ℕ → ℕ → Bool) → RowSet b to l l' new → to < length noted → MoveClosed mv sw g b a (has l') → P g → Q g)
      → Walk cells n k b st mv sw tab known₀ al₀ l₀ noted₀ known al l noted P
      → Walk cells n k b st mv sw tab known₀ al₀ l₀ noted₀ known' al' l' (note noted to new) Q
  walk_more {l₀ = l₀} {noted₀ = noted₀} {l = l} {noted = noted} known' al' l' a to new lt is_to small moved sized right f w =
      let size = w.long in
      let room : to < length noted = omega arith in
      let row : RowSet b to l l' new = rw is_to moved in
      record {
        steps = stepped_then (λ g p c. f g row room c p) w.steps
            (stepped_map (λ g R c. c a lt) (λ g c. c) (record { kept = moved.kept; sized = sized; right = right }));
        long = length-set noted to _ ∙ size;
        noted_growth = noted_then l₀ noted₀ l noted l' (note noted to new) w.noted_growth (noted_one b l l' noted to new room row);
        progress = progress_then (λ p q x. q x ∙ p x) w.progress (progress_move l l' noted new to room moved.same moved.more);
      }

-- ---- one state

module _ {cells n k b : ℕ} {st mv sw tab : List ℕ} where
  -- there is nothing to set
  pub state_empty : (known : List Bool) (al l : List ℕ) (noted : List Bool) (ls : List ℕ) (s : ℕ) → b < blocks → Motions k mv → ((i : ℕ) → i < window_ticks → has l s (block_ticks * b + i) ≡ false)
      → Stepped cells n k b st mv sw tab known al l known al l (λ g. Closed n k st mv sw g b) (StillTried n k st mv sw ls b noted l (set noted s false) l)
  state_empty known al l noted ls s small ranges none = stepped_start known al l (λ g all. tried_empty n k st mv sw g b small noted l s ranges none)

  -- the waits, and then the motions
  pub state_steps : {known : List Bool} {al l : List ℕ} {known₂ : List Bool} {al₂ l₂ : List ℕ} (l₁ : List ℕ) (noted noted₂ : List Bool) (ls : List ℕ) (s : ℕ) (d : Bool) → b < blocks → s < n → RowSet b s l l₁ d
      → ((g : ℕ → ℕ → Bool) (k : ℕ) (mv sw : List ℕ) → TablesRight g cells n k b st mv sw tab → Within (WaitClosed st g b s) l l₁ × WaitClosed st g b s (has l₁))
      → Stepped cells n k b st mv sw tab known al l₁ known₂ al₂ l₂ (λ g. Below (MoveClosed mv sw g b) k) (MovesTried k mv sw ls b s l₂ noted₂)
      → Noted l₁ (set noted s false) l₂ noted₂
      → Stepped cells n k b st mv sw tab known al l known₂ al₂ l₂ (λ g. Closed n k st mv sw g b) (StillTried n k st mv sw ls b noted l noted₂ l₂)
  state_steps {known = known} {al = al} {l = l} {l₂ = l₂} l₁ noted noted₂ ls s d small lt waited waits moves notes =
      stepped_then
      (λ g wait move all. tried_state n k st mv sw g b small noted l l₁ l₂ noted₂ s d waited moves.kept.inside wait notes (move all))
      (stepped_map (λ g R c. c.0 s lt) (λ g c. c) waits_done)
      (stepped_map (λ g R c. c.1) (λ g c. c) moves)
    where
      waits_done : Stepped cells n k b st mv sw tab known al l known al l₁ (λ g. WaitClosed st g b s) (λ g. WaitClosed st g b s (has l₁))
      waits_done = record { kept = waited.kept; sized = (refl, refl); right = λ g right ready. (ready, waits g k mv sw right) }
