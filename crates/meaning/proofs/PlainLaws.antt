-- A board of bytes and a plain board that agree: they have equal views, and each accepted change keeps them in agreement.
-- Assumes nothing.
use Prim.Native.Nat.{ℕ, zero, suc, ◌+◌, ◌*◌, ◌-◌, ◌≤◌, ◌<◌}
use native.Mathlib.Nat.{suc-mul, not-suc-le-zero}
use native.Mathlib.Omega.{arith}
use mathlib.Core.Path.{◌≡◌, refl, sym, ap, ap₂, ◌∙◌, fun_ext}
use mathlib.Core.Bool.{Bool, true, false, cond, not, ◌&&◌, true≢false}
use mathlib.Core.List.{List, [], ◌∷◌, ◌++◌}
use mathlib.Core.Logic.{◌⊎◌, inl, inr}
use lib.Dec.{leb, ltb, eqb}
use borrow.Author.Tests.{leb-true, ltb-true, ltb-false, eqb-true, eq-eqb, ne_eqb, not-true}
use lib.ListN.{length, get_or, take, drop, length-append, length-drop, replicate, length-replicate, get_or-replicate, take-append-drop, get_or-append}
use lib.Seq.{get_or-drop, get_or-take, get_or-append-add, ext_get_or}
use Rattle.meaning.specs.Limits.{header, last_edition, last_closure}
use Rattle.meaning.specs.Basics.{every, any, tabulate, put32, here, there}
use Rattle.meaning.specs.Site.{Site}
use Rattle.meaning.specs.Board.{Free, sort_of, is_tug, free, closable, stands, is_holder, board_length, place, byte_at, edition, Pair, all_free, mark, clear, with_edition, next_edition}
use Rattle.meaning.specs.Calls.{bytes_view}
use Rattle.meaning.specs.PlainBoard.{Entry, Plain, empty_plain, has_pair, taken, holder_at, tug_taken, plain_free, plain_closable, has_entry, plain_view, without, with_entry, cells_from, bytes_of}
use Rattle.meaning.specs.Refusals.{Tug, Within}
use Rattle.meaning.specs.Demands.{Has}
use Rattle.meaning.proofs.BasicsLaws.{decide, every_at, every_nil, every_cons, all_head, all_tail, any_here, any_there, any_case, any_nil, same_test, u32_back, length_tabulate, tabulate_at, any_at, all_at}
use Rattle.meaning.proofs.HolderLaws.{holders_right}
use Rattle.meaning.proofs.BytesLaws.{tells_holder, tells_stands}
use Rattle.meaning.proofs.BoardLaws.{clear_at, clear_same, place_in, pair_at, length_edition, byte_edition, InSite, in_site, length_mark, byte_mark, length_clear, byte_clear}

-- ---- entries

-- an entry's holder is one, it has a pair, its pairs are of the site, and it shares none with the entries before it
pub record Entered (site : Site) (e : Entry) (es : List Entry) : Type 0 where
  pub known : is_holder e.holder ≡ true
  pub cell : ℕ
  pub tick : ℕ
  pub cell_in : cell < site.cells
  pub tick_in : tick ≤ site.horizon
  pub has : has_pair e.pairs cell tick ≡ true
  pub inside : InSite site e.pairs
  pub apart : (c t : ℕ) → has_pair e.pairs c t ≡ true → taken es c t ≡ false
  -- and none of its pairs is near another's in the same cell, if one of the two is a tug
  pub spaced : (k c t u : ℕ) → has_pair e.pairs c t ≡ true → Has es k c u → (is_tug e.holder ≡ true) ⊎ (is_tug k ≡ true) → Within site t u → ⊥

abbrev pub Clean : Site → List Entry → Type 0
Clean site [] = Unit {0}
Clean site (e ∷ es) = Entered site e es × Clean site es

holder_pos : (h : ℕ) → is_holder h ≡ true → 1 ≤ h
holder_pos h e = (holders_right.holders h e).0

-- the tests of one entry
abbrev has_here : ℕ → ℕ → Entry → Bool
has_here c t e = has_pair e.pairs c t

abbrev is_of : ℕ → Entry → Bool
is_of h e = eqb e.holder h

tug_taken_lem : (es : List Entry) (c t : ℕ) → tug_taken es c t ≡ true → taken es c t ≡ true
tug_taken_lem [] c t h = absurd (true≢false (sym h ∙ any_nil (λ (x : Entry). every (is_tug x.holder ∷ has_pair x.pairs c t ∷ []))))
tug_taken_lem (e ∷ es) c t h =
    any_case (λ (x : Entry). every (is_tug x.holder ∷ has_pair x.pairs c t ∷ [])) e es h
    (λ q. any_here (has_here c t) e es (every_at _ q 1))
    (λ q k. any_there (has_here c t) e es (tug_taken_lem es c t k))

not_not : (b : Bool) → not (not b) ≡ b
not_not true = refl
not_not false = refl

module _ (site : Site) where
  -- a pair is in no entry exactly when its holder is 0
  free_holder : (es : List Entry) (c t : ℕ) → Clean site es → eqb (holder_at es c t) 0 ≡ not (taken es c t)
  unfolding any
  free_holder [] c t h = refl
  free_holder (e ∷ es) c t (entered, clean) =
      let pos : 1 ≤ e.holder = holder_pos e.holder entered.known in
      decide (has_pair e.pairs c t)
      (λ q. simp (q, ne_eqb e.holder 0 (omega arith)))
      (λ q. simp q (free_holder es c t clean))

  -- and in one of a tug's exactly when its holder is a tug
  tug_holder : (es : List Entry) (c t : ℕ) → Clean site es → is_tug (holder_at es c t) ≡ tug_taken es c t
  unfolding any every is_tug sort_of
  tug_holder [] c t h = refl
  tug_holder (e ∷ es) c t (entered, clean) =
      decide (has_pair e.pairs c t)
      (λ q.
      let others : tug_taken es c t ≡ false = no_tug_taken es c t (entered.apart c t q) in
      decide (is_tug e.holder) (λ s. simp (q, s)) (λ s. simp (q, s, others)))
      (λ q. decide (is_tug e.holder) (λ s. simp (q, s) (tug_holder es c t clean)) (λ s. simp (q, s) (tug_holder es c t clean)))
    where
      no_tug_taken : (es : List Entry) (c t : ℕ) → taken es c t ≡ false → tug_taken es c t ≡ false
      no_tug_taken es c t h = decide (tug_taken es c t) (λ e. absurd (true≢false (sym (tug_taken_lem es c t e) ∙ h))) (λ e. e)

  holder_none : (es : List Entry) (c t : ℕ) → Clean site es → taken es c t ≡ false → holder_at es c t ≡ 0
  holder_none es c t clean h = eqb-true _ _ (free_holder es c t clean ∙ ap not h)

  taken_some : (es : List Entry) (c t : ℕ) → Clean site es → 1 ≤ holder_at es c t → taken es c t ≡ true
  taken_some es c t clean h =
      decide (taken es c t) (λ q. q) (λ q. let z : holder_at es c t ≡ 0 = holder_none es c t clean q in absurd (omega arith))

  -- a pair's holder has an entry, and who has an entry holds a pair
  holder_entry : (es : List Entry) (c t h : ℕ) → holder_at es c t ≡ h → 1 ≤ h → has_entry es h ≡ true
  holder_entry [] c t h e pos = absurd (omega arith)
  holder_entry (x ∷ es) c t h e pos =
      decide (has_pair x.pairs c t)
      (λ q. let same : x.holder ≡ h = simp q at e in any_here (is_of h) x es (eq-eqb x.holder h same))
      (λ q. any_there (is_of h) x es (holder_entry es c t h (simp q at e) pos))

  entry_holder : (es : List Entry) (h : ℕ) → Clean site es → 1 ≤ h → has_entry es h ≡ true
      → (c : ℕ) × (t : ℕ) × (c < site.cells) × (t ≤ site.horizon) × (holder_at es c t ≡ h)
  entry_holder [] h clean pos e = absurd (true≢false (sym e ∙ any_nil (is_of h)))
  entry_holder (x ∷ es) h (entered, clean) pos e =
      any_case (is_of h) x es e
      (λ q. (entered.cell, entered.tick, entered.cell_in, entered.tick_in, simp entered.has (eqb-true _ _ q)))
      (λ q k.
      let (c, t, hc, ht, same) = entry_holder es h clean pos k in
      let there_too : taken es c t ≡ true = taken_some es c t clean (rw same pos) in (
        c,
        t,
        hc,
        ht,
        decide (has_pair x.pairs c t)
            (λ s. absurd (true≢false (sym there_too ∙ entered.apart c t s)))
            (λ s. simp s same),
      ))

  -- whoever has an entry is a holder
  entry_known : (es : List Entry) (h : ℕ) → Clean site es → has_entry es h ≡ true → is_holder h ≡ true
  entry_known [] h clean e = absurd (true≢false (sym e ∙ any_nil (is_of h)))
  entry_known (x ∷ es) h (entered, clean) e =
      any_case (is_of h) x es e
      (λ q. ap is_holder (sym (eqb-true _ _ q)) ∙ entered.known)
      (λ q k. entry_known es h clean k)

-- ---- no two holders have the same cell on the same tick

has_taken : (es : List Entry) (h c t : ℕ) → Has es h c t → taken es c t ≡ true
has_taken [] h c t x' = elim x' [ ]
has_taken (e ∷ es) h c t (here (same, k)) = any_here (has_here c t) e es k
has_taken (e ∷ es) h c t (there s) = any_there (has_here c t) e es (has_taken es h c t s)

has_tug : (es : List Entry) (k c t : ℕ) → is_tug k ≡ true → Has es k c t → tug_taken es c t ≡ true
has_tug [] k c t tug x'' = elim x'' [ ]
has_tug (e ∷ es) k c t tug (here (same, p)) =
    any_here (λ (x : Entry). every (is_tug x.holder ∷ has_pair x.pairs c t ∷ [])) e es (every_cons _ _ (ap is_tug same ∙ tug) (every_cons _ _ p every_nil))
has_tug (e ∷ es) k c t tug (there s) = any_there (λ (x : Entry). every (is_tug x.holder ∷ has_pair x.pairs c t ∷ [])) e es (has_tug es k c t tug s)

pub no_two_in : (site : Site) (es : List Entry) → Clean site es → (h k c t : ℕ) → Has es h c t → Has es k c t → h ≡ k
no_two_in site [] _ h k c t x4 _ = elim x4 [ ]
no_two_in site (e ∷ es) (entered, clean) h k c t (here (same, p)) (here (same_too, q)) = sym same ∙ same_too
no_two_in site (e ∷ es) (entered, clean) h k c t (here (same, p)) (there s) = absurd (true≢false (sym (has_taken es k c t s) ∙ entered.apart c t p))
no_two_in site (e ∷ es) (entered, clean) h k c t (there s) (here (same, p)) = absurd (true≢false (sym (has_taken es h c t s) ∙ entered.apart c t p))
no_two_in site (e ∷ es) (entered, clean) h k c t (there s) (there r) = no_two_in site es clean h k c t s r

-- and each of them is a holder
pub known_in : (site : Site) (es : List Entry) → Clean site es → (h c t : ℕ) → Has es h c t → (1 ≤ h) × (h ≤ last_closure)
known_in site [] _ h c t x3 = elim x3 [ ]
known_in site (e ∷ es) (entered, clean) h c t (here (same, p)) = holders_right.holders h (ap is_holder (sym same) ∙ entered.known)
known_in site (e ∷ es) (entered, clean) h c t (there s) = known_in site es clean h c t s

-- an entry's pairs are of the site
pair_in : (site : Site) (ps : List Pair) (c t : ℕ) → InSite site ps → has_pair ps c t ≡ true → (c < site.cells) × (t ≤ site.horizon)
pair_in site [] c t inside h = absurd (true≢false (sym h ∙ any_nil (λ (p : Pair). every (eqb p.cell c ∷ eqb p.tick t ∷ []))))
pair_in site (q ∷ ps) c t inside h =
    let test : Pair → Bool = λ (x : Pair). every (ltb x.cell site.cells ∷ leb x.tick site.horizon ∷ []) in
    let this : every (ltb q.cell site.cells ∷ leb q.tick site.horizon ∷ []) ≡ true = all_head test q ps inside in
    any_case (λ (p : Pair). every (eqb p.cell c ∷ eqb p.tick t ∷ [])) q ps h
    (λ e.
    let same_cell : q.cell ≡ c = eqb-true _ _ (every_at _ e 0) in
    let same_tick : q.tick ≡ t = eqb-true _ _ (every_at _ e 1) in
    let lo : q.cell < site.cells = ltb-true _ _ (every_at _ this 0) in
    let hi : q.tick ≤ site.horizon = leb-true _ _ (every_at _ this 1) in
    (omega arith, omega arith))
    (λ e k. pair_in site ps c t (all_tail test q ps inside) k)

pub has_in : (site : Site) (es : List Entry) (h c t : ℕ) → Clean site es → Has es h c t → (c < site.cells) × (t ≤ site.horizon)
has_in site [] h c t _ x3 = elim x3 [ ]
has_in site (e ∷ es) h c t (entered, clean) (here (same, p)) = pair_in site e.pairs c t entered.inside p
has_in site (e ∷ es) h c t (entered, clean) (there s) = has_in site es h c t clean s

-- a tug's pairs and another holder's in the same cell are more than the margin apart
near_back : (site : Site) (t u : ℕ) → Within site t u → Within site u t
near_back site t u (lo, hi) = (hi, lo)

not_near : (site : Site) (es : List Entry) → Clean site es → (h k c t u : ℕ) → is_tug h ≡ true → (h ≡ k → ⊥) → Has es h c t → Has es k c u → Within site t u → ⊥
not_near site [] _ h k c t u tug other x7 _ near = elim x7 [ ]
not_near site (e ∷ es) (entered, clean) h k c t u tug other (here (same, p)) (here (same_too, q)) near = other (sym same ∙ same_too)
not_near site (e ∷ es) (entered, clean) h k c t u tug other (here (same, p)) (there s) near =
    entered.spaced k c t u p s (inl (ap is_tug same ∙ tug)) near
not_near site (e ∷ es) (entered, clean) h k c t u tug other (there s) (here (same, p)) near =
    entered.spaced h c u t p s (inr tug) (near_back site t u near)
not_near site (e ∷ es) (entered, clean) h k c t u tug other (there s) (there r) near = not_near site es clean h k c t u tug other s r near

pub spaced_in : (site : Site) (es : List Entry) → Clean site es → (h k c t u : ℕ) → Tug h → (h ≡ k → ⊥) → Has es h c t → Has es k c u
    → (t + site.margin < u) ⊎ (u + site.margin < t)
spaced_in site es clean h k c t u (lo, hi) other p q =
    decide (ltb (t + site.margin) u)
    (λ e. inl (ltb-true _ _ e))
    (λ e. decide (ltb (u + site.margin) t)
    (λ s. inr (ltb-true _ _ s))
    (λ s. absurd (not_near site es clean h k c t u (holders_right.all_tugs h lo hi) other p q (ltb-false _ _ s, ltb-false _ _ e))))

-- ---- a board of bytes and a plain board that agree

pub record Agree (site : Site) (board : List ℕ) (p : Plain) : Type 0 where
  pub sized : length board ≡ board_length site
  pub fits : p.edition ≤ last_edition
  pub front : take header board ≡ put32 p.edition
  pub same_bytes : (c t : ℕ) → c < site.cells → t ≤ site.horizon → byte_at site board c t ≡ holder_at p.entries c t
  pub clean : Clean site p.entries

module _ (site : Site) (board : List ℕ) (p : Plain) (agree : Agree site board p) where
  front_at : (i : ℕ) → i < header → get_or board i 0 ≡ get_or (put32 p.edition) i 0
  front_at i lt = sym (get_or-take header board i 0 lt) ∙ ap (λ (s : List ℕ). get_or s i 0) agree.front

  pub same_edition : edition board ≡ p.edition
  same_edition =
      simp (front_at 0 (omega arith), front_at 1 (omega arith), front_at 2 (omega arith), front_at 3 (omega arith))
      (u32_back p.edition (omega (arith, agree.fits)))

  -- in no entry is the same as a byte 0, in one of a tug's as a tug's byte, and having an entry as a byte of one's own
  same_free : free site board ≡ plain_free site p.entries
  unfolding free plain_free every
  same_free = fun_ext (λ c. fun_ext (λ t.
      decide (ltb c site.cells)
      (λ hc. decide (leb t site.horizon)
      (λ ht. simp (hc, ht) (ap (λ (b : Bool). b && true) (clear_same site _ _ t (λ x le.
      ap (λ (b : ℕ). not (eqb b 0)) (agree.same_bytes c x (ltb-true _ _ hc) le)
      ∙ ap not (free_holder site p.entries c x agree.clean) ∙ not_not (taken p.entries c x)))))
      (λ ht. simp (hc, ht)))
      (λ hc. simp hc)))

  same_closable : closable site board ≡ plain_closable site p.entries
  unfolding closable plain_closable every
  same_closable = fun_ext (λ c. fun_ext (λ t.
      decide (ltb c site.cells)
      (λ hc. decide (leb t site.horizon)
      (λ ht. simp (hc, ht) (ap₂ (λ (x y : Bool). x && (y && true))
      (ap (λ (b : ℕ). eqb b 0) (agree.same_bytes c t (ltb-true _ _ hc) (leb-true _ _ ht)) ∙ free_holder site p.entries c t agree.clean)
      (clear_same site _ _ t (λ x le.
      ap is_tug (agree.same_bytes c x (ltb-true _ _ hc) le) ∙ tug_holder site p.entries c x agree.clean))))
      (λ ht. simp (hc, ht)))
      (λ hc. simp hc)))

  same_stands : stands board ≡ has_entry p.entries
  same_stands = fun_ext (λ h. same_test _ _
      (λ e.
      let (known, (c, t, (hc, ht, byte))) = (tells_stands site board agree.sized h).then e in
      holder_entry site p.entries c t h (sym (agree.same_bytes c t hc ht) ∙ byte) known.0)
      (λ e.
      let known = (tells_holder h).then (entry_known site p.entries h agree.clean e) in
      let (c, t, hc, ht, same) = entry_holder site p.entries h agree.clean known.0 e in
      (tells_stands site board agree.sized h).back (known, (c, t, (hc, ht, agree.same_bytes c t hc ht ∙ same)))))

  rest_size : length (drop header board) ≡ site.cells * (site.horizon + 1)
  rest_size = length-drop header board ∙ ap (λ (n : ℕ). n - header) agree.sized ∙ omega arith

  -- so the refusals read the same of both
  pub same_view : bytes_view site board ≡ plain_view site p
  unfolding bytes_view plain_view
  same_view = λ i. record { edition = same_edition i; stands = same_stands i; free = same_free i; closable = same_closable i }

-- ---- the board's bytes are those of the plain board

module _ (site : Site) (es : List Entry) where
  length_cells : (c n : ℕ) → length (cells_from site es c n) ≡ n * (site.horizon + 1)
  length_cells c zero = omega arith
  length_cells c (suc n) =
      let ih : length (cells_from site es (suc c) n) ≡ n * (site.horizon + 1) = length_cells (suc c) n in
      let row : length (tabulate (holder_at es c) 0 (suc site.horizon)) ≡ suc site.horizon = length_tabulate (holder_at es c) 0 (suc site.horizon) in
      let more : suc n * (site.horizon + 1) ≡ n * (site.horizon + 1) + (site.horizon + 1) = suc-mul n (site.horizon + 1) in
      length-append (tabulate (holder_at es c) 0 (suc site.horizon)) (cells_from site es (suc c) n) ∙ omega arith

  cells_at : (c n j t : ℕ) → j < n → t ≤ site.horizon → get_or (cells_from site es c n) (j * (site.horizon + 1) + t) 0 ≡ holder_at es (c + j) t
  cells_at c zero j t lt le = absurd (not-suc-le-zero lt)
  cells_at c (suc n) zero t lt le =
      let row : List ℕ = tabulate (holder_at es c) 0 (suc site.horizon) in
      let size : length row ≡ suc site.horizon = length_tabulate (holder_at es c) 0 (suc site.horizon) in
      let index : zero * (site.horizon + 1) + t ≡ t = omega arith in
      let same : c ≡ c + zero = omega arith in
      ap (λ (i : ℕ). get_or (row ++ cells_from site es (suc c) n) i 0) index
      ∙ get_or-append row (cells_from site es (suc c) n) 0 t (omega arith)
      ∙ tabulate_at (holder_at es c) 0 (suc site.horizon) t (omega arith)
      ∙ ap (λ (x : ℕ). holder_at es x t) same
  cells_at c (suc n) (suc j) t lt le =
      let row : List ℕ = tabulate (holder_at es c) 0 (suc site.horizon) in
      let size : length row ≡ suc site.horizon = length_tabulate (holder_at es c) 0 (suc site.horizon) in
      let more : suc j * (site.horizon + 1) ≡ j * (site.horizon + 1) + (site.horizon + 1) = suc-mul j (site.horizon + 1) in
      let index : suc j * (site.horizon + 1) + t ≡ length row + (j * (site.horizon + 1) + t) = omega arith in
      let same : suc c + j ≡ c + suc j = omega arith in
      ap (λ (i : ℕ). get_or (row ++ cells_from site es (suc c) n) i 0) index
      ∙ get_or-append-add row (cells_from site es (suc c) n) (j * (site.horizon + 1) + t) 0
      ∙ cells_at (suc c) n j t (omega arith) le
      ∙ ap (λ (x : ℕ). holder_at es x t) same

module _ (site : Site) (board : List ℕ) (p : Plain) (agree : Agree site board p) where
  rest_cells : drop header board ≡ cells_from site p.entries 0 site.cells
  rest_cells =
      let size : length (drop header board) ≡ site.cells * (site.horizon + 1) = rest_size site board p agree in
      ext_get_or 0 (drop header board) (cells_from site p.entries 0 site.cells) (size ∙ sym (length_cells site p.entries 0 site.cells))
      (λ i lt.
      let (c, t, hc, ht, same) = pair_at site i (omega arith) in
      let index : i ≡ c * (site.horizon + 1) + t = omega arith in
      let from_0 : 0 + c ≡ c = omega arith in
      get_or-drop header board i 0
      ∙ ap (λ (j : ℕ). get_or board j 0) (sym same)
      ∙ agree.same_bytes c t hc ht
      ∙ sym (ap (λ (j : ℕ). get_or (cells_from site p.entries 0 site.cells) j 0) index
      ∙ cells_at site p.entries 0 site.cells c t hc ht
      ∙ ap (λ (x : ℕ). holder_at p.entries x t) from_0))

  pub board_bytes : board ≡ bytes_of site p
  unfolding bytes_of
  board_bytes = sym (take-append-drop header board) ∙ ap₂ {C = List ℕ} (λ x y. x ++ y) agree.front rest_cells

-- ---- an opened board

pub opened_agrees : (site : Site) (n : ℕ) → n ≡ board_length site → Agree site (replicate n 0) empty_plain
opened_agrees site n size = record {
  sized = length-replicate {A = ℕ} n 0 ∙ size;
  fits = omega arith;
  front = let four_more : n ≡ suc (suc (suc (suc (site.cells * (site.horizon + 1))))) = omega arith in rw four_more;
  same_bytes = λ c t hc ht. let inside : place site c t < board_length site = place_in site c t hc ht in get_or-replicate n (place site c t) 0 0 (omega arith);
  clean = tt;
}

-- ---- a new entry

module _ (site : Site) (es : List Entry) where
  free_in : (ps : List Pair) → all_free (plain_free site es) ps ≡ true → InSite site ps
  unfolding plain_free
  free_in ps h = in_site site (plain_free site es) (λ c t e. every_cons _ _ (every_at _ e 0) (every_cons _ _ (every_at _ e 1) every_nil)) ps h

  -- a free pair is near no entry's
  free_near : (c t u k : ℕ) → Clean site es → plain_free site es c t ≡ true → Has es k c u → Within site t u → ⊥
  unfolding plain_free
  free_near c t u k clean h has near =
      true≢false (sym (has_taken es k c u has) ∙ clear_at site (taken es c) t u (every_at _ h 2) (has_in site es k c u clean has).1 near)

  free_untaken : (c t : ℕ) → plain_free site es c t ≡ true → taken es c t ≡ false
  unfolding plain_free
  free_untaken c t h = clear_at site (taken es c) t t (every_at _ h 2) (leb-true _ _ (every_at _ h 1)) (omega arith, omega arith)

  -- a closable one is in no entry and near no tug's
  close_near : (c t u k : ℕ) → Clean site es → plain_closable site es c t ≡ true → Has es k c u → is_tug k ≡ true → Within site t u → ⊥
  unfolding plain_closable
  close_near c t u k clean h has tug near =
      true≢false (sym (has_tug es k c u tug has) ∙ clear_at site (tug_taken es c) t u (every_at _ h 3) (has_in site es k c u clean has).1 near)

  close_untaken : (c t : ℕ) → plain_closable site es c t ≡ true → taken es c t ≡ false
  unfolding plain_closable
  close_untaken c t h = not-true _ (every_at _ h 2)

  close_in : (ps : List Pair) → all_free (plain_closable site es) ps ≡ true → InSite site ps
  unfolding plain_closable
  close_in ps h = in_site site (plain_closable site es) (λ c t e. every_cons _ _ (every_at _ e 0) (every_cons _ _ (every_at _ e 1) every_nil)) ps h

-- a pair of a list that a test holds of
pub free_pair : (f : Free) (ps : List Pair) (c t : ℕ) → all_free f ps ≡ true → has_pair ps c t ≡ true → f c t ≡ true
free_pair f ps c t h k =
    let origin : Pair = record { cell = 0; tick = 0 } in
    let (i, lt, e) = any_at (λ (p : Pair). every (eqb p.cell c ∷ eqb p.tick t ∷ [])) ps origin k in
    let here : f (get_or ps i origin).cell (get_or ps i origin).tick ≡ true = all_at (λ (p : Pair). f p.cell p.tick) ps origin h i lt in
    sym (ap₂ f (eqb-true _ _ (every_at _ e 0)) (eqb-true _ _ (every_at _ e 1))) ∙ here

-- a board with the next edition, given its length and bytes
module _ (site : Site) (board : List ℕ) (p : Plain) (agree : Agree site board p) (early : edition board ≡ last_edition → ⊥) (new : List ℕ) (es : List Entry) where
  stepped : length new ≡ length board
      → ((c t : ℕ) → c < site.cells → t ≤ site.horizon → byte_at site new c t ≡ holder_at es c t)
      → Clean site es
      → Agree site (next_edition board new) (record { edition = p.edition + 1; entries = es })
  unfolding next_edition with_edition
  stepped size bytes clean =
      let now_edition : edition board ≡ p.edition = same_edition site board p agree in
      let most : p.edition ≤ last_edition = agree.fits in
      let sized : length new ≡ board_length site = size ∙ agree.sized in
      record {
        sized = length_edition site (edition board + 1) new sized ∙ sized;
        fits = omega arith;
        front = ap (λ (n : ℕ). put32 (n + 1)) now_edition;
        same_bytes = λ c t hc ht. byte_edition site (edition board + 1) new c t ∙ bytes c t hc ht;
        clean = clean;
      }

module _ (site : Site) (board : List ℕ) (p : Plain) (agree : Agree site board p) (early : edition board ≡ last_edition → ⊥) where
  entered : (h : ℕ) → is_holder h ≡ true → (q : Pair) (ps : List Pair) → InSite site (q ∷ ps)
      → ((c t : ℕ) → has_pair (q ∷ ps) c t ≡ true → taken p.entries c t ≡ false)
      → ((k c t u : ℕ) → has_pair (q ∷ ps) c t ≡ true → Has p.entries k c u → (is_tug h ≡ true) ⊎ (is_tug k ≡ true) → Within site t u → ⊥)
      → Agree site (next_edition board (mark site h (q ∷ ps) board)) (with_entry p h (q ∷ ps))
  entered h known q ps inside apart spaced =
      let marked : List ℕ = mark site h (q ∷ ps) board in
      let first_in : every (ltb q.cell site.cells ∷ leb q.tick site.horizon ∷ []) ≡ true =
      all_head (λ (x : Pair). every (ltb x.cell site.cells ∷ leb x.tick site.horizon ∷ [])) q ps inside in
      let entry : Entered site (record { holder = h; pairs = q ∷ ps }) p.entries = record {
        known = known;
        cell = q.cell;
        tick = q.tick;
        cell_in = ltb-true _ _ (every_at _ first_in 0);
        tick_in = leb-true _ _ (every_at _ first_in 1);
        has = any_here (λ (x : Pair). every (eqb x.cell q.cell ∷ eqb x.tick q.tick ∷ [])) q ps
            (every_cons _ _ (eq-eqb q.cell q.cell refl) (every_cons _ _ (eq-eqb q.tick q.tick refl) every_nil));
        inside = inside;
        apart = apart;
        spaced = spaced;
      } in
      stepped site board p agree early marked (record { holder = h; pairs = q ∷ ps } ∷ p.entries)
      (length_mark site h (q ∷ ps) board)
      (λ c t hc ht.
      byte_mark site h (q ∷ ps) board c t inside agree.sized hc ht
      ∙ ap (λ (n : ℕ). cond (has_pair (q ∷ ps) c t) h n) (agree.same_bytes c t hc ht))
      (entry, agree.clean)

  -- a tug's, of free pairs
  pub tug_entered : (h : ℕ) → is_holder h ≡ true → (q : Pair) (ps : List Pair) → all_free (plain_free site p.entries) (q ∷ ps) ≡ true
      → Agree site (next_edition board (mark site h (q ∷ ps) board)) (with_entry p h (q ∷ ps))
  tug_entered h known q ps ok =
      entered h known q ps (free_in site p.entries (q ∷ ps) ok)
      (λ c t e. free_untaken site p.entries c t (free_pair (plain_free site p.entries) (q ∷ ps) c t ok e))
      (λ k c t u e has tug near. free_near site p.entries c t u k agree.clean (free_pair (plain_free site p.entries) (q ∷ ps) c t ok e) has near)

  -- a closure's, of closable ones
  pub closure_entered : (h : ℕ) → is_holder h ≡ true → is_tug h ≡ false → (q : Pair) (ps : List Pair) → all_free (plain_closable site p.entries) (q ∷ ps) ≡ true
      → Agree site (next_edition board (mark site h (q ∷ ps) board)) (with_entry p h (q ∷ ps))
  closure_entered h known no_tug q ps ok =
      entered h known q ps (close_in site p.entries (q ∷ ps) ok)
      (λ c t e. close_untaken site p.entries c t (free_pair (plain_closable site p.entries) (q ∷ ps) c t ok e))
      (λ k c t u e has tug near. elim tug [
        | inl mine ↦ true≢false (sym mine ∙ no_tug)
        | inr its ↦ close_near site p.entries c t u k agree.clean (free_pair (plain_closable site p.entries) (q ∷ ps) c t ok e) has its near
      ])

-- ---- a holder's entries removed

module _ (site : Site) (h : ℕ) where
  taken_without : (es : List Entry) (c t : ℕ) → taken es c t ≡ false → taken (without h es) c t ≡ false
  unfolding any
  taken_without [] c t e = refl
  taken_without (x ∷ es) c t e =
      decide (has_pair x.pairs c t)
      (λ q. absurd (true≢false (simp q at e)))
      (λ q.
      let ih : taken (without h es) c t ≡ false = taken_without es c t (simp q at e) in
      decide (eqb x.holder h) (λ s. simp s ih) (λ s. simp (s, q) ih))

  has_without : (es : List Entry) (k c t : ℕ) → Has (without h es) k c t → Has es k c t
  has_without [] k c t s = s
  has_without (x ∷ es) k c t s =
      decide (eqb x.holder h) (λ q. there (has_without es k c t (rw q at s))) (λ q. kept (has_without es k c t) (rw q at s))
    where
      kept : (Has (without h es) k c t → Has es k c t) → Has (x ∷ without h es) k c t → Has (x ∷ es) k c t
      kept back (here p) = here p
      kept back (there r) = there (back r)

  clean_without : (es : List Entry) → Clean site es → Clean site (without h es)
  clean_without [] clean = tt
  clean_without (x ∷ es) (e, clean) =
      decide (eqb x.holder h)
      (λ s. simp s (clean_without es clean))
      (λ s. simp s (
        record {
          known = e.known;
          cell = e.cell;
          tick = e.tick;
          cell_in = e.cell_in;
          tick_in = e.tick_in;
          has = e.has;
          inside = e.inside;
          apart = λ c t q. taken_without es c t (e.apart c t q);
          spaced = λ k c t u q has tug near. e.spaced k c t u q (has_without es k c u has) tug near;
        },
        clean_without es clean,
      ))

  holder_without : (es : List Entry) (c t : ℕ) → Clean site es
      → holder_at (without h es) c t ≡ cond (eqb (holder_at es c t) h) 0 (holder_at es c t)
  holder_without [] c t clean = sym (cond_same (eqb 0 h))
    where
      cond_same : (b : Bool) → ◌≡◌ {A = ℕ} (cond b 0 0) 0
      cond_same true = refl
      cond_same false = refl
  holder_without (x ∷ es) c t (e, clean) =
      let ih : holder_at (without h es) c t ≡ cond (eqb (holder_at es c t) h) 0 (holder_at es c t) = holder_without es c t clean in
      decide (eqb x.holder h)
      (λ s. decide (has_pair x.pairs c t)
      (λ q.
      let gone : holder_at (without h es) c t ≡ 0 = holder_none site (without h es) c t (clean_without es clean) (taken_without es c t (e.apart c t q)) in
      simp (s, q) gone)
      (λ q. simp (s, q) ih))
      (λ s. decide (has_pair x.pairs c t)
      (λ q. simp (s, q))
      (λ q. simp (s, q) ih))

module _ (site : Site) (board : List ℕ) (p : Plain) (agree : Agree site board p) (early : edition board ≡ last_edition → ⊥) where
  pub released : (h : ℕ) → Agree site (next_edition board (clear h board)) (record { edition = p.edition + 1; entries = without h p.entries })
  released h =
      stepped site board p agree early (clear h board) (without h p.entries)
      (length_clear site h board)
      (λ c t hc ht.
      byte_clear site h board c t agree.sized
      ∙ ap (λ (n : ℕ). cond (eqb n h) 0 n) (agree.same_bytes c t hc ht)
      ∙ sym (holder_without site h p.entries c t agree.clean))
      (clean_without site h p.entries agree.clean)
