-- Some steps after others.
-- Assumes nothing.
use Prim.Native.Nat.{ℕ}
use mathlib.Core.Path.{refl, ◌∙◌}
use mathlib.Core.Bool.{Bool}
use mathlib.Core.List.{List}
use Rattle.search_step.specs.Sets.{Pairs, Kept}
use Rattle.search_step.proofs.StepLaws.{kept_start}
use Rattle.search_spread.specs.Spread.{Stepped}

kept_then : (b : ℕ) (l₀ l l' : List ℕ) → Kept b l₀ l → Kept b l l' → Kept b l₀ l'
kept_then b l₀ l l' p q =
    record {
      inside = λ s u h e. q.inside s u h (p.inside s u h e);
      early = λ s u h. q.early s u h ∙ p.early s u h;
      sized = q.sized ∙ p.sized;
    }

module _ {cells n k b : ℕ} {st mv sw tab : List ℕ} where
  pub stepped_start : (known : List Bool) (al l : List ℕ) {C : (ℕ → ℕ → Bool) → Pairs → Type 0} {Q : (ℕ → ℕ → Bool) → Type 0} → ((g : ℕ → ℕ → Bool) → Q g)
      → Stepped cells n k b st mv sw tab known al l known al l C Q
  stepped_start known al l q = record { kept = kept_start b l; sized = (refl, refl); right = λ g right ready. (ready, (λ R c inside. inside, q g)) }

  -- closed under more, and what follows
  pub stepped_map : {known₀ : List Bool} {al₀ l₀ : List ℕ} {known : List Bool} {al l : List ℕ} {C D : (ℕ → ℕ → Bool) → Pairs → Type 0} {P Q : (ℕ → ℕ → Bool) → Type 0}
      → ((g : ℕ → ℕ → Bool) (R : Pairs) → D g R → C g R) → ((g : ℕ → ℕ → Bool) → P g → Q g)
      → Stepped cells n k b st mv sw tab known₀ al₀ l₀ known al l C P → Stepped cells n k b st mv sw tab known₀ al₀ l₀ known al l D Q
  stepped_map more f p =
      record {
        kept = p.kept;
        sized = p.sized;
        right = λ g right ready. let (now, (within, q)) = p.right g right ready in (now, (λ R d. within R (more g R d), f g q));
      }

  pub stepped_then : {known₀ : List Bool} {al₀ l₀ : List ℕ} {known₁ : List Bool} {al₁ l₁ : List ℕ} {known : List Bool} {al l : List ℕ} {C : (ℕ → ℕ → Bool) → Pairs → Type 0} {P Q S : (ℕ → ℕ → Bool) → Type 0}
      → ((g : ℕ → ℕ → Bool) → P g → Q g → S g)
      → Stepped cells n k b st mv sw tab known₀ al₀ l₀ known₁ al₁ l₁ C P → Stepped cells n k b st mv sw tab known₁ al₁ l₁ known al l C Q
      → Stepped cells n k b st mv sw tab known₀ al₀ l₀ known al l C S
  stepped_then f p q =
      record {
        kept = kept_then b _ _ _ p.kept q.kept;
        sized = (q.sized.0 ∙ p.sized.0, q.sized.1 ∙ p.sized.1);
        right = λ g right ready₀.
            let (ready₁, (within₁, done₁)) = p.right g right ready₀ in
            let (ready, (within, done)) = q.right g right ready₁ in
            (ready, (λ R c inside. within R c (within₁ R c inside), f g done₁ done));
      }
