-- What Sets says, of a block: its tables are right, rows of its motions are worked out, and a set of pairs is closed in it.
-- Assumes nothing.
use Rattle.std.specs.Prelude.{ℕ, Bool, List}
use Rattle.search_step.specs.declared.block.Block.{Block}
use Rattle.search_step.specs.Sets.{Pairs, MoveClosed, Below, Closed, TablesRight, RowReady, RowsReady}

-- the tables of the block are right for g
abbrev pub BlockRight : (ℕ → ℕ → Bool) → Block → Type 0
BlockRight g b =
    TablesRight g b.network.cell_count b.network.state_count b.network.motion_count b.number b.network.states.now b.network.motions.now b.network.sweeps.now b.tab.now

-- row m of al has the positions of the block at which motion m may end
abbrev pub EndsReady : (ℕ → ℕ → Bool) → Block → List ℕ → ℕ → Type 0
EndsReady g b al m = RowReady g b.number b.network.motions.now b.network.sweeps.now al m

-- so have the rows of all motions that are known
abbrev pub KnownReady : (ℕ → ℕ → Bool) → Block → List Bool → List ℕ → Type 0
KnownReady g b known al = RowsReady g b.network.motion_count b.number b.network.motions.now b.network.sweeps.now known al

-- motion m that ends in the block leads to a pair of the set
abbrev pub MotionClosed : Block → ℕ → (ℕ → ℕ → Bool) → Pairs → Type 0
MotionClosed b m g = MoveClosed b.network.motions.now b.network.sweeps.now g b.number m

-- so does each motion
abbrev pub MotionsClosed : Block → (ℕ → ℕ → Bool) → Pairs → Type 0
MotionsClosed b g = Below (MoveClosed b.network.motions.now b.network.sweeps.now g b.number) b.network.motion_count

-- and each wait
abbrev pub BlockClosed : Block → (ℕ → ℕ → Bool) → Pairs → Type 0
BlockClosed b g = Closed b.network.state_count b.network.motion_count b.network.states.now b.network.motions.now b.network.sweeps.now g b.number
