-- Lists of the motions by state.
-- Assumes nothing.
use Rattle.std.specs.Prelude.{ℕ, ◌+◌, ◌<◌, ◌≡◌, cond, List, eqb, get_or}
use Rattle.search_site.specs.Arrays.{from_at, to_at}
use Rattle.search_lists.specs.declared.End.{End}
use Rattle.search_lists.specs.declared.End.TheVariants.{From, To}

-- an end of a motion, by its number
abbrev pub end_number : End → ℕ
end_number From = 0
end_number To = 1

-- the state from which (0) or to which (1) motion m leads
unfoldable pub end_at : List ℕ → ℕ → ℕ → ℕ
end_at mv which m = cond (eqb which 0) (from_at mv m) (to_at mv m)

-- the list that starts at a has the motion m: behind each motion of it stands the next, which is a later one
pub data Chain : List ℕ → ℕ → ℕ → ℕ → Type 0 where
  here : {ls : List ℕ} {k m : ℕ} → m < k → Chain ls k m m
  next : {ls : List ℕ} {k a m : ℕ} → a < k → a < get_or ls a 0 → Chain ls k (get_or ls a 0) m → Chain ls k a m

-- the first c numbers are v
abbrev pub FirstAre : ℕ → ℕ → List ℕ → Type 0
FirstAre c v l = (i : ℕ) → i < c → get_or l i 0 ≡ v

-- each of k motions is on the list of its state
abbrev pub Listed : ℕ → ℕ → List ℕ → List ℕ → Type 0
Listed which k mv ls = (m : ℕ) → m < k → Chain ls k (get_or ls (k + end_at mv which m) 0) m
