-- The notes of a search: their sizes, that they stay the same areas, and what steps in a block do to them and to the reached pairs (see Spread).
-- Assumes nothing.
use Rattle.std.specs.Prelude.{ℕ, ◌*◌, ◌≤◌, ◌≡◌, Bool, List, length}
use Rattle.search_sizes.specs.Sizes.{block_words}
use Rattle.search_step.specs.declared.block.Block.{Block}
use Rattle.search_step.specs.Sets.{Pairs}
use Rattle.search_spread.specs.declared.notes.Notes.{Notes}
use Rattle.search_spread.specs.Spread.{Stepped, MovesTried, StillTried}

-- room for k motions and n states
pub record Fit (k n : ℕ) (o : Notes) : Type 0 where
  pub allowed : k * block_words ≤ length o.allowed.now
  pub known : k ≤ length o.known.now
  pub grown : n ≤ length o.grown.now

-- they are the same areas
pub record Same (o₀ o : Notes) : Type 0 where
  pub allowed : o.allowed.ghost_name ≡ o₀.allowed.ghost_name
  pub known : o.known.ghost_name ≡ o₀.known.ghost_name
  pub grown : o.grown.ghost_name ≡ o₀.grown.ghost_name

-- some steps in the block from the notes o₀ and the pairs l₀ to o and l
abbrev pub Steps : Block → Notes → List ℕ → Notes → List ℕ → ((ℕ → ℕ → Bool) → Pairs → Type 0) → ((ℕ → ℕ → Bool) → Type 0) → Type 0
Steps b o₀ l₀ o l =
    Stepped b.network.cell_count b.network.state_count b.network.motion_count b.number b.network.states.now b.network.motions.now b.network.sweeps.now b.tab.now
    o₀.known.now o₀.allowed.now l₀ o.known.now o.allowed.now l

-- the motions from s are closed, where no growth of s is noted, if each motion is on the list of its state
abbrev pub FromTried : Block → List ℕ → ℕ → Notes → List ℕ → (ℕ → ℕ → Bool) → Type 0
FromTried b ls s o l = MovesTried b.network.motion_count b.network.motions.now b.network.sweeps.now ls b.number s l o.grown.now

-- that waits and motions are closed where no growth is noted is kept, if each motion is on the list of its state
abbrev pub AllStillTried : Block → List ℕ → Notes → List ℕ → Notes → List ℕ → (ℕ → ℕ → Bool) → Type 0
AllStillTried b ls o₀ l₀ o l =
    StillTried b.network.state_count b.network.motion_count b.network.states.now b.network.motions.now b.network.sweeps.now ls b.number o₀.grown.now l₀ o.grown.now l
