-- What free, closable and standing mean of a board's bytes, and which numbers are holders.
-- Assumes nothing.
use Prim.Native.Nat.{ℕ, zero, suc, ◌+◌, ◌*◌, ◌-◌, ◌≤◌, ◌<◌}
use native.Mathlib.Omega.{arith}
use mathlib.Core.Path.{◌≡◌, refl, sym, ap, ◌∙◌}
use mathlib.Core.Bool.{Bool, true, not}
use mathlib.Core.List.{List}
use lib.Dec.{eqb}
use borrow.Author.Tests.{eqb-true, eq-eqb, not-false}
use lib.ListN.{length, get_or, drop, length-drop}
use lib.Seq.{get_or-drop}
use Rattle.meaning.specs.Limits.{header}
use Rattle.meaning.specs.Basics.{any}
use Rattle.meaning.specs.Site.{Site}
use Rattle.meaning.specs.Board.{clear_around, free, closable, stands, is_tug, is_closure, is_holder, board_length, place, byte_at}
use Rattle.meaning.specs.Refusals.{Not, Tug, Closure, Holder, HasByte, Stands, bytes_sight, Within, FreeFor, MayClose, ZeroAround, BytesRight}
use Rattle.meaning.proofs.BasicsLaws.{any_at, any_from_lem}
use Rattle.meaning.proofs.HolderLaws.{holders_right}
use Rattle.meaning.proofs.BoardLaws.{clear_at, clear_made, place_in, pair_at}
use Rattle.meaning.proofs.SentenceLaws.{Tells, misses, fails, tells_as, tells_le, tells_lt, tells_eq, tells_two, tells_three, tells_four}

-- ---- holders

pub tells_tug : (h : ℕ) → Tells (is_tug h) (Tug h)
tells_tug h = record { then = holders_right.tugs h; back = λ (lo, hi). holders_right.all_tugs h lo hi }

pub tells_closure : (h : ℕ) → Tells (is_closure h) (Closure h)
tells_closure h = record { then = holders_right.closures h; back = λ (lo, hi). holders_right.all_closures h lo hi }

pub tells_holder : (h : ℕ) → Tells (is_holder h) (Holder h)
tells_holder h = record { then = holders_right.holders h; back = λ (lo, hi). holders_right.all_holders h lo hi }

-- ---- within the margin

pub tells_clear : (site : Site) (bad : ℕ → Bool) (Bad : ℕ → Type 0) → ((x : ℕ) → Tells (bad x) (Bad x))
    → (t : ℕ) → Tells (clear_around site bad t) ((x : ℕ) → x ≤ site.horizon → Within site t x → Not (Bad x))
tells_clear site bad Bad tells t = record {
  then = λ h x le near. misses (tells x) (clear_at site bad t x h le near);
  back = λ none. clear_made site bad t (λ x le near. fails (tells x) (none x le near));
}

-- ---- bytes of a board

module _ (site : Site) (board : List ℕ) where
  pub tells_free : (c t : ℕ) → Tells (free site board c t) (ZeroAround site board c t)
  unfolding free
  tells_free c t =
      tells_three (tells_lt c site.cells) (tells_le t site.horizon) (record {
        then = λ h x le near. eqb-true _ 0 (not-false _ (clear_at site _ t x h le near));
        back = λ zeros. clear_made site _ t (λ x le near. ap not (eq-eqb _ 0 (zeros x le near)));
      })

  -- a byte is 0 exactly where nobody holds the pair
  zero_unheld : (c x : ℕ) → byte_at site board c x ≡ 0 → (h : ℕ) → Not ((1 ≤ h) × HasByte site board h c x)
  zero_unheld c x e h (pos, (hc, ht, same)) = omega arith

  unheld_zero : (c x : ℕ) → c < site.cells → x ≤ site.horizon → ((h : ℕ) → Not ((1 ≤ h) × HasByte site board h c x)) → byte_at site board c x ≡ 0
  unheld_zero c x hc ht none = of (byte_at site board c x) refl
    where
      of : (b : ℕ) → byte_at site board c x ≡ b → byte_at site board c x ≡ 0
      of zero e = e
      of (suc b) e = absurd (none (suc b) (omega arith, (hc, ht, e)))

  pub tells_free_for : (c t : ℕ) → Tells (free site board c t) (FreeFor site (bytes_sight site board) c t)
  tells_free_for c t =
      tells_as (tells_free c t)
      (λ (hc, ht, zeros). (hc, ht, λ h x le near. zero_unheld c x (zeros x le near) h))
      (λ (hc, ht, none). (hc, ht, λ x le near. unheld_zero c x hc le (λ h. none h x le near)))

  -- no tug's byte, and nobody who is a tug
  tug_byte : (c x : ℕ) → Not (Tug (byte_at site board c x)) → (h : ℕ) → Tug h → Not ((1 ≤ h) × HasByte site board h c x)
  tug_byte c x none h (lo, hi) (pos, (hc, ht, same)) = none (omega arith, omega arith)

  pub tells_bytes : (c t : ℕ) → Tells (closable site board c t)
      ((c < site.cells) × (t ≤ site.horizon) × (byte_at site board c t ≡ 0) × ((x : ℕ) → x ≤ site.horizon → Within site t x → Not (Tug (byte_at site board c x))))
  unfolding closable
  tells_bytes c t =
      tells_four (tells_lt c site.cells) (tells_le t site.horizon) (tells_eq (byte_at site board c t) 0) (record {
        then = λ h x le near. misses (tells_tug _) (clear_at site _ t x h le near);
        back = λ none. clear_made site _ t (λ x le near. fails (tells_tug _) (none x le near));
      })

  pub tells_closable : (c t : ℕ) → Tells (closable site board c t) (MayClose site (bytes_sight site board) c t)
  tells_closable c t =
      tells_as (tells_bytes c t)
      (λ (hc, ht, e, none). ((hc, ht, zero_unheld c t e), λ h x le near. tug_byte c x (none x le near) h))
      (λ ((hc, ht, free_there), none). (
        hc,
        ht,
        unheld_zero c t hc ht free_there,
        λ x le near (lo, hi). none (byte_at site board c x) x le near (lo, hi) (lo, (hc, le, refl)),
      ))

  no_margin : (c t : ℕ) → site.margin ≡ 0 → HasByte site board 0 c t → (free site board c t ≡ true) × (closable site board c t ≡ true)
  no_margin c t none (hc, ht, e) =
      let here : (x : ℕ) → Within site t x → byte_at site board c x ≡ 0 =
      λ x (lo, hi). let same : x ≡ t = omega arith in rw same e in (
        (tells_free c t).back (hc, ht, λ x le near. here x near),
        (tells_bytes c t).back (hc, ht, e, λ x le near (lo, hi). let zero_there = here x near in omega arith),
      )

  module _ (size : length board ≡ board_length site) where
    carried : (h : ℕ) → any (λ (b : ℕ). eqb b h) (drop header board) ≡ true → (c : ℕ) × (t : ℕ) × HasByte site board h c t
    carried h e =
        let (i, lt, found) = any_at (λ (b : ℕ). eqb b h) (drop header board) 0 e in
        let rest : length (drop header board) ≡ length board - header = length-drop header board in
        let (c, t, hc, ht, there) = pair_at site i (omega arith) in
        (c, t, (hc, ht, ap (λ (j : ℕ). get_or board j 0) there ∙ sym (get_or-drop header board i 0) ∙ eqb-true _ _ found))

    all_carried : (h c t : ℕ) → HasByte site board h c t → any (λ (b : ℕ). eqb b h) (drop header board) ≡ true
    all_carried h c t (hc, ht, e) =
        let i : ℕ = c * (site.horizon + 1) + t in
        let inside : place site c t < board_length site = place_in site c t hc ht in
        let there : header + i ≡ place site c t = omega arith in
        let rest : length (drop header board) ≡ length board - header = length-drop header board in
        any_from_lem (λ (b : ℕ). eqb b h) (drop header board) 0 i (omega arith)
        (eq-eqb _ h (get_or-drop header board i 0 ∙ ap (λ (j : ℕ). get_or board j 0) there ∙ e))

    pub tells_stands : (h : ℕ) → Tells (stands board h) (Stands site board h)
    unfolding stands
    tells_stands h = tells_two (tells_holder h) (record { then = carried h; back = λ (c, t, e). all_carried h c t e })

pub bytes_right : BytesRight
bytes_right = record {
  free_bytes = λ site board c t. (tells_free site board c t).then;
  all_free_bytes = λ site board c t. (tells_free site board c t).back;
  closable_pairs = λ site board c t. (tells_closable site board c t).then;
  all_closable_pairs = λ site board c t. (tells_closable site board c t).back;
  no_margin = no_margin;
  standing = λ site board size h. (tells_stands site board size h).then;
  all_standing = λ site board size h. (tells_stands site board size h).back;
}
