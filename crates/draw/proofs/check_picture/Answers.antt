-- `draw::check_picture` meets its contract: each return is the first check that applies, past those before it.
-- Assumes nothing.
use Prim.Native.Nat.{◌≤◌}
use mathlib.Core.Path.{◌≡◌, sym, ap, ◌∙◌}
use mathlib.Core.Bool.{true, false, not, ◌||◌}
use native.Mathlib.Omega.{arith}
use borrow.Author.Tests.{lt-ltb, le-ltb, eq-eqb, ne_eqb}
use lib.Dec.{ltb, eqb}
use lib.ListN.{length}
use Rattle.meaning.specs.Limits.{last_frame}
use Rattle.meaning.specs.Light.{is_light}
use Rattle.meaning.specs.Pictures.{picture_refusals}
use Rattle.meaning.proofs.CheckLaws.{hit, miss, none_left}
use Rattle.site.specs.declared.Sizes.{Sizes}
use Rattle.draw.proofs.check_picture.Goals.{then-k-gt-LAST_FRAME-via-then-k-gt-LAST_FRAME, then-k-gt-LAST_FRAME-via-else-k-gt-LAST_FRAME+then-sizes-eq0}
use Rattle.draw.proofs.check_picture.Goals as goal

pub returns-then-not-is_light : goal.returns-then-not-is_light
unfolding picture_refusals
returns-then-not-is_light c = λ site says. hit 8 _ _ (ap not (sym c.is_light.ensures ∙ c.if-not-is_light.true))

pub returns-then-not-light_named : goal.returns-then-not-light_named
unfolding picture_refusals
returns-then-not-light_named c =
    let is_lit : is_light c.args.light.now ≡ true = sym c.is_light.ensures ∙ c.if-not-is_light.false in
    λ site says.
    miss _ _ _ _ (ap not is_lit) (hit 10 _ _ (ap not (sym (c.light_named.ensures site says) ∙ c.if-not-light_named.true)))

pub returns-then-k-gt-LAST_FRAME : goal.returns-then-k-gt-LAST_FRAME
unfolding picture_refusals
returns-then-k-gt-LAST_FRAME c =
    let is_lit : is_light c.args.light.now ≡ true = sym c.is_light.ensures ∙ c.if-not-is_light.false in
    λ site says.
    let none : ltb last_frame c.args.k || eqb (length site.centres) 0 ≡ true = elim c.then-k-gt-LAST_FRAME.branch [
      | then-k-gt-LAST_FRAME-via-then-k-gt-LAST_FRAME w ↦ simp (lt-ltb last_frame _ w.if-k-gt-LAST_FRAME.true)
      | then-k-gt-LAST_FRAME-via-else-k-gt-LAST_FRAME+then-sizes-eq0 w ↦
          let frame : c.args.k ≤ last_frame = omega (arith, w.if-k-gt-LAST_FRAME.false) in
          simp (le-ltb last_frame _ frame, eq-eqb _ _ (sym (ap (λ (l : Sizes). l.centres) says) ∙ w.if-sizes-eq0.true))
    ] in
    miss _ _ _ _ (ap not is_lit)
    (miss _ _ _ _ (ap not (sym (c.light_named.ensures site says) ∙ c.if-not-light_named.false)) (hit 20 _ _ none))

pub returns : goal.returns
unfolding picture_refusals
returns c =
    let is_lit : is_light c.args.light.now ≡ true = sym c.is_light.ensures ∙ c.if-not-is_light.false in
    let few : ltb last_frame c.args.k ≡ false = let frame : c.args.k ≤ last_frame = omega (arith, c.if-k-gt-LAST_FRAME.false) in le-ltb last_frame _ frame in
    λ site says.
    let some : length site.centres ≡ 0 → ⊥ = λ e. c.if-sizes-eq0.false (ap (λ (l : Sizes). l.centres) says ∙ e) in
    miss _ _ _ _ (ap not is_lit)
    (miss _ _ _ _ (ap not (sym (c.light_named.ensures site says) ∙ c.if-not-light_named.false))
    (miss _ _ _ _ (simp (few, ne_eqb _ _ some)) none_left))
