-- Laws of the board's bytes: where a pair's byte is, and what marking, clearing and a new edition do to it.
-- Assumes nothing.
use Prim.Native.Nat.{ℕ, suc, ◌+◌, ◌*◌, ◌-◌, ◌/◌, ◌%◌, ◌≤◌, ◌<◌}
use native.Mathlib.Nat.{div-lt_iff_lt-mul, div-add-mod', mod-lt}
use native.Mathlib.Omega.{arith}
use mathlib.Core.Path.{◌≡◌, refl, sym, ap, ap₂, ◌∙◌, subst}
use mathlib.Core.Bool.{Bool, true, false, cond, not, true≢false}
use mathlib.Core.List.{List, [], ◌∷◌, ◌++◌, map}
use lib.Dec.{leb, ltb, eqb}
use borrow.Author.Tests.{leb-true, le-leb, ltb-true, ltb-false, eqb-true, eq-eqb, not-true}
use lib.ListN.{length, get_or, take, drop, set, length-append, length-drop, length-set, length-map, get_or-map, take-append-drop}
use lib.Seq.{get_or-drop, get_or-set_same, get_or-set_other, get_or-append-add, length-take-le}
use lib.Arith.{digits_lt}
use Rattle.meaning.specs.Limits.{header, last_edition}
use Rattle.meaning.specs.Basics.{every, any, all}
use Rattle.meaning.specs.Site.{Site}
use Rattle.meaning.specs.Board.{Free, clear_from_to, clear_around, board_length, place, byte_at, edition, Pair, all_free, mark, clear, with_edition}
use Rattle.meaning.specs.PlainBoard.{has_pair}
use Rattle.meaning.specs.Refusals.{Within}
use Rattle.meaning.proofs.BasicsLaws.{every_at, every_nil, every_cons, every_fails, decide, same_test, all_from_in, all_from_true, all_nil, all_cons, all_head, all_tail, u32_back}

-- ---- the edition's bytes

-- boards that agree in them have one edition
pub same_edition : (b d : List ℕ) → ((i : ℕ) → i < 4 → get_or b i 0 ≡ get_or d i 0) → edition b ≡ edition d
same_edition b d h =
    simp (h 0 (omega arith), h 1 (omega arith), h 2 (omega arith), h 3 (omega arith))

-- an edition made of bytes has 32 bits
pub edition_small : (board : List ℕ) → ((i : ℕ) → get_or board i 0 < 256) → edition board ≤ last_edition
edition_small board bytes =
    let b0 = bytes 0 in
    let b1 = bytes 1 in
    let b2 = bytes 2 in
    let b3 = bytes 3 in
    omega arith

-- ---- within the margin

module _ (site : Site) where
  from_to_at : (bad : ℕ → Bool) (first last x : ℕ) → clear_from_to site bad first last ≡ true → first ≤ x → x ≤ last → x ≤ site.horizon → bad x ≡ false
  unfolding clear_from_to
  from_to_at bad first last x h lo hi in_time =
      let here : not (every (leb x site.horizon ∷ bad x ∷ [])) ≡ true =
      all_from_in (λ (y : ℕ). not (every (leb y site.horizon ∷ bad y ∷ []))) first (suc last - first) x h lo (omega arith) in
      decide (bad x) (λ e. absurd (true≢false (sym (every_cons _ _ (le-leb _ _ in_time) (every_cons _ _ e every_nil)) ∙ not-true _ here))) (λ e. e)

  from_to_made : (bad : ℕ → Bool) (first last : ℕ) → ((x : ℕ) → first ≤ x → x ≤ last → x ≤ site.horizon → bad x ≡ false)
      → clear_from_to site bad first last ≡ true
  unfolding clear_from_to
  from_to_made bad first last h =
      all_from_true (λ (y : ℕ). not (every (leb y site.horizon ∷ bad y ∷ []))) first (suc last - first)
      (λ x lo hi. decide (leb x site.horizon)
      (λ e. ap not (every_fails _ 1 (h x lo (omega arith) (leb-true _ _ e))))
      (λ e. ap not (every_fails _ 0 e)))

  pub clear_at : (bad : ℕ → Bool) (t x : ℕ) → clear_around site bad t ≡ true → x ≤ site.horizon → Within site t x → bad x ≡ false
  unfolding clear_around
  clear_at bad t x h in_time (lo, hi) = from_to_at bad _ _ x h (omega arith) (omega arith) in_time

  pub clear_made : (bad : ℕ → Bool) (t : ℕ) → ((x : ℕ) → x ≤ site.horizon → Within site t x → bad x ≡ false) → clear_around site bad t ≡ true
  unfolding clear_around
  clear_made bad t h = from_to_made bad _ _ (λ x lo hi in_time. h x in_time (omega arith, omega arith))

  -- two tests that agree up to the horizon
  pub clear_same : (bad worse : ℕ → Bool) (t : ℕ) → ((x : ℕ) → x ≤ site.horizon → bad x ≡ worse x) → clear_around site bad t ≡ clear_around site worse t
  clear_same bad worse t same =
      same_test _ _
      (λ h. clear_made worse t (λ x le near. sym (same x le) ∙ clear_at bad t x h le near))
      (λ h. clear_made bad t (λ x le near. same x le ∙ clear_at worse t x h le near))

-- ---- where a pair's byte is

module _ (site : Site) where
  pub place_in : (c t : ℕ) → c < site.cells → t ≤ site.horizon → place site c t < board_length site
  place_in c t hc ht =
      let below : c * (site.horizon + 1) + t < site.cells * (site.horizon + 1) = digits_lt hc (omega arith) in
      omega arith

  -- a row ends before the next begins
  place_below : (c t d u : ℕ) → t ≤ site.horizon → c < d → place site c t < place site d u
  place_below c t d u ht h =
      let below : c * (site.horizon + 1) + t < d * (site.horizon + 1) = digits_lt h (omega arith) in
      omega arith

  place_cell : (c t d u : ℕ) → t ≤ site.horizon → u ≤ site.horizon → place site c t ≡ place site d u → c ≡ d
  place_cell c t d u ht hu h =
      decide (ltb c d)
      (λ e. let lt : place site c t < place site d u = place_below c t d u ht (ltb-true _ _ e) in absurd (omega arith))
      (λ e. decide (ltb d c)
      (λ q. let gt : place site d u < place site c t = place_below d u c t hu (ltb-true _ _ q) in absurd (omega arith))
      (λ q.
      let le : d ≤ c = ltb-false _ _ e in
      let ge : c ≤ d = ltb-false _ _ q in
      omega arith))

  place_tick : (c t d u : ℕ) → c ≡ d → place site c t ≡ place site d u → t ≡ u
  place_tick c t d u same h = let there : place site d t ≡ place site d u = rw same at h in omega arith

  -- and each place after the edition is a pair's
  pub pair_at : (i : ℕ) → i < site.cells * (site.horizon + 1)
      → (c : ℕ) × (t : ℕ) × (c < site.cells) × (t ≤ site.horizon) × (place site c t ≡ 4 + i)
  pair_at i h =
      let w : ℕ = site.horizon + 1 in
      let pos : 0 < w = omega arith in
      let whole : i / w * w + i % w ≡ i = div-add-mod' i w in
      let low : i % w < w = mod-lt i pos in
      (i / w, i % w, (div-lt_iff_lt-mul pos).1 h, omega arith, omega arith)

  -- ---- a new edition

  pub edition_new : (n : ℕ) (board : List ℕ) → n < 4294967296 → edition (with_edition n board) ≡ n
  unfolding with_edition
  edition_new n board h = u32_back n h

  pub length_edition : (n : ℕ) (board : List ℕ) → length board ≡ board_length site → length (with_edition n board) ≡ length board
  unfolding with_edition
  length_edition n board h = let rest : length (drop 4 board) ≡ length board - 4 = length-drop 4 board in omega arith

  pub byte_edition : (n : ℕ) (board : List ℕ) (c t : ℕ) → byte_at site (with_edition n board) c t ≡ byte_at site board c t
  unfolding with_edition
  byte_edition n board c t =
      let i : ℕ = c * (site.horizon + 1) + t in
      let there : place site c t ≡ suc (suc (suc (suc i))) = omega arith in
      let back : 4 + i ≡ place site c t = omega arith in
      ap (λ (j : ℕ). get_or (with_edition n board) j 0) there ∙ get_or-drop 4 board i 0 ∙ ap (λ (j : ℕ). get_or board j 0) back

  -- ---- marking pairs

  -- every pair is of the site
  abbrev pub InSite : List Pair → Type 0
  InSite ps = all (λ (p : Pair). every (ltb p.cell site.cells ∷ leb p.tick site.horizon ∷ [])) ps ≡ true

  -- pairs that are free in a sense that is bounded by the site
  pub in_site : (f : Free) → ((c t : ℕ) → f c t ≡ true → every (ltb c site.cells ∷ leb t site.horizon ∷ []) ≡ true)
      → (ps : List Pair) → all_free f ps ≡ true → InSite ps
  in_site f bounded [] h = all_nil _
  in_site f bounded (q ∷ ps) h =
      all_cons (λ (x : Pair). every (ltb x.cell site.cells ∷ leb x.tick site.horizon ∷ [])) q ps
      (bounded q.cell q.tick (all_head (λ (x : Pair). f x.cell x.tick) q ps h))
      (in_site f bounded ps (all_tail (λ (x : Pair). f x.cell x.tick) q ps h))

  pub length_mark : (h : ℕ) (ps : List Pair) (board : List ℕ) → length (mark site h ps board) ≡ length board
  length_mark h [] board = refl
  length_mark h (p ∷ ps) board = length_mark h ps (set board (place site p.cell p.tick) h) ∙ length-set board (place site p.cell p.tick) h

  -- one list of pairs after the other
  pub mark_append : (h : ℕ) (ps qs : List Pair) (board : List ℕ) → mark site h (ps ++ qs) board ≡ mark site h qs (mark site h ps board)
  mark_append h [] qs board = refl
  mark_append h (p ∷ ps) qs board = mark_append h ps qs (set board (place site p.cell p.tick) h)

  mark_front : (h : ℕ) (ps : List Pair) (board : List ℕ) (i : ℕ) → i < 4 → get_or (mark site h ps board) i 0 ≡ get_or board i 0
  mark_front h [] board i lt = refl
  mark_front h (p ∷ ps) board i lt =
      mark_front h ps (set board (place site p.cell p.tick) h) i lt
      ∙ get_or-set_other board (place site p.cell p.tick) i h 0 (omega arith)

  pub edition_mark : (h : ℕ) (ps : List Pair) (board : List ℕ) → edition (mark site h ps board) ≡ edition board
  edition_mark h ps board = same_edition (mark site h ps board) board (mark_front h ps board)

  cond_same : (b : Bool) (h : ℕ) → cond b h h ≡ h
  cond_same true h = refl
  cond_same false h = refl

  pub byte_mark : (h : ℕ) (ps : List Pair) (board : List ℕ) (c t : ℕ) → InSite ps → length board ≡ board_length site → c < site.cells → t ≤ site.horizon
      → byte_at site (mark site h ps board) c t ≡ cond (has_pair ps c t) h (byte_at site board c t)
  unfolding any
  byte_mark h [] board c t hp hl hc ht = refl
  byte_mark h (p ∷ ps) board c t hp hl hc ht =
      let here : ℕ = place site p.cell p.tick in
      let inside_test : Pair → Bool = λ (q : Pair). every (ltb q.cell site.cells ∷ leb q.tick site.horizon ∷ []) in
      let this : every (ltb p.cell site.cells ∷ leb p.tick site.horizon ∷ []) ≡ true = all_head inside_test p ps hp in
      let ht' : p.tick ≤ site.horizon = leb-true _ _ (every_at _ this 1) in
      let ih : byte_at site (mark site h ps (set board here h)) c t ≡ cond (has_pair ps c t) h (byte_at site (set board here h) c t) =
      byte_mark h ps (set board here h) c t (all_tail inside_test p ps hp)
      (length-set board here h ∙ hl) hc ht in
      let inside : place site c t < length board = subst (λ (n : ℕ). place site c t < n) (sym hl) (place_in c t hc ht) in
      decide (every (eqb p.cell c ∷ eqb p.tick t ∷ []))
      (λ e.
      let same : here ≡ place site c t = ap₂ (place site) (eqb-true _ _ (every_at _ e 0)) (eqb-true _ _ (every_at _ e 1)) in
      let set_here : byte_at site (set board here h) c t ≡ h = rw same (get_or-set_same board (place site c t) h 0 inside) in
      ih ∙ ap (λ (n : ℕ). cond (has_pair ps c t) h n) set_here ∙ cond_same (has_pair ps c t) h ∙ sym (simp e))
      (λ e.
      let apart : place site c t ≡ here → ⊥ = λ q.
      let same_cell : p.cell ≡ c = sym (place_cell c t p.cell p.tick ht ht' q) in
      let same_tick : p.tick ≡ t = sym (place_tick c t p.cell p.tick (sym same_cell) q) in
      true≢false (sym (every_cons _ _ (eq-eqb _ _ same_cell) (every_cons _ _ (eq-eqb _ _ same_tick) every_nil)) ∙ e) in
      let as_before : byte_at site (set board here h) c t ≡ byte_at site board c t = get_or-set_other board here (place site c t) h 0 apart in
      ih ∙ ap (λ (n : ℕ). cond (has_pair ps c t) h n) as_before ∙ sym (simp e))

  -- ---- clearing a holder

  abbrev wipe : ℕ → ℕ → ℕ
  wipe h b = cond (eqb b h) 0 b

  pub length_clear : (h : ℕ) (board : List ℕ) → length (clear h board) ≡ length board
  unfolding clear
  length_clear h board =
      let back : length (take header board ++ drop header board) ≡ length board = ap length (take-append-drop header board) in
      length-append (take header board) (map (wipe h) (drop header board))
      ∙ ap (λ (n : ℕ). length (take header board) + n) (length-map (drop header board) (wipe h))
      ∙ sym (length-append (take header board) (drop header board))
      ∙ back

  pub byte_clear : (h : ℕ) (board : List ℕ) (c t : ℕ) → length board ≡ board_length site
      → byte_at site (clear h board) c t ≡ cond (eqb (byte_at site board c t) h) 0 (byte_at site board c t)
  unfolding clear
  byte_clear h board c t size =
      let i : ℕ = c * (site.horizon + 1) + t in
      let front : length (take header board) ≡ header = length-take-le header board (omega arith) in
      let there : place site c t ≡ length (take header board) + i = omega arith in
      let back : header + i ≡ place site c t = omega arith in
      let same : ◌≡◌ {A = ℕ} (wipe h 0) 0 = cond_same (eqb 0 h) 0 in
      ap (λ (j : ℕ). get_or (clear h board) j 0) there
      ∙ get_or-append-add (take header board) (map (wipe h) (drop header board)) i 0
      ∙ ap (λ (d : ℕ). get_or (map (wipe h) (drop header board)) i d) (sym same)
      ∙ get_or-map (wipe h) (drop header board) i 0
      ∙ ap (wipe h) (get_or-drop header board i 0 ∙ ap (λ (j : ℕ). get_or board j 0) back)
