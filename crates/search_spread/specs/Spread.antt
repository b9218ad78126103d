-- What steps of the search do to the reached pairs, and what is closed where no growth of a row is noted.
-- Assumes nothing.
use Rattle.std.specs.Prelude.{ℕ, ◌<◌, ◌≡◌, Bool, false, List, length, get_or}
use Rattle.search_sizes.specs.Sizes.{row_ticks}
use Rattle.search_ticks.specs.Rows.{has, total}
use Rattle.search_site.specs.Arrays.{from_at}
use Rattle.search_step.specs.Sets.{Pairs, WaitClosed, MoveClosed, Within, Kept, TablesRight, RowsReady}
use Rattle.search_lists.specs.Lists.{Listed}

-- Some steps from l₀ to l, which work out rows of motions where they need them: where the tables are right for g, the rows stay right, the
-- steps stay inside every set that is closed as C says and that they began in, and Q holds.
pub record Stepped (cells n k b : ℕ) (st mv sw tab : List ℕ) (known₀ : List Bool) (al₀ l₀ : List ℕ) (known : List Bool) (al l : List ℕ) (C : (ℕ → ℕ → Bool) → Pairs → Type 0) (Q : (ℕ → ℕ → Bool) → Type 0) : Type 0 where
  pub kept : Kept b l₀ l
  pub sized : (length al ≡ length al₀) × (length known ≡ length known₀)
  pub right : (g : ℕ → ℕ → Bool) → TablesRight g cells n k b st mv sw tab → RowsReady g k b mv sw known₀ al₀ → RowsReady g k b mv sw known al × (Within (C g) l₀ l × Q g)

-- the motions from s are closed
abbrev pub MovesClosed : ℕ → List ℕ → List ℕ → (ℕ → ℕ → Bool) → ℕ → ℕ → Pairs → Type 0
MovesClosed k mv sw g b s R = (m : ℕ) → m < k → from_at mv m ≡ s → MoveClosed mv sw g b m R

-- they are, where no growth of s is noted, if each motion is on the list of its state
abbrev pub MovesTried : ℕ → List ℕ → List ℕ → List ℕ → ℕ → ℕ → List ℕ → List Bool → (ℕ → ℕ → Bool) → Type 0
MovesTried k mv sw ls b s l noted g = Listed 0 k mv ls → get_or noted s false ≡ false → MovesClosed k mv sw g b s (has l)

-- where no growth is noted, waits and motions are closed
abbrev pub Tried : ℕ → ℕ → List ℕ → List ℕ → List ℕ → (ℕ → ℕ → Bool) → ℕ → List Bool → Pairs → Type 0
Tried n k st mv sw g b noted R = (s : ℕ) → s < n → get_or noted s false ≡ false → WaitClosed st g b s R × MovesClosed k mv sw g b s R

-- that is kept from noted₀ and l₀ to noted and l, if each motion is on the list of its state
abbrev pub StillTried : ℕ → ℕ → List ℕ → List ℕ → List ℕ → List ℕ → ℕ → List Bool → List ℕ → List Bool → List ℕ → (ℕ → ℕ → Bool) → Type 0
StillTried n k st mv sw ls b noted₀ l₀ noted l g = Listed 0 k mv ls → Tried n k st mv sw g b noted₀ (has l₀) → Tried n k st mv sw g b noted (has l)

-- where no growth is noted in g, none was noted in g₀, and the row is as it was
abbrev pub Noted : List ℕ → List Bool → List ℕ → List Bool → Type 0
Noted l₀ g₀ l g = (s : ℕ) → get_or g s false ≡ false → (get_or g₀ s false ≡ false) × ((u : ℕ) → u < row_ticks → has l s u ≡ has l₀ s u)

-- some steps from l₀ to l: the sum of the words has grown, or nothing has changed and Q holds
pub data Progress (l₀ l : List ℕ) (Q : Type 0) : Type 0 where
  more : total l₀ < total l → Progress l₀ l Q
  quiet : l ≡ l₀ → Q → Progress l₀ l Q

-- what is noted of each state in g is what g₀ has
abbrev pub Unnoted : List Bool → List Bool → Type 0
Unnoted g₀ g = (x : ℕ) → get_or g x false ≡ get_or g₀ x false

-- the same but for s, of which no growth is noted
pub record UnnotedBut (g₀ g : List Bool) (s : ℕ) : Type 0 where
  pub here : get_or g s false ≡ false
  pub others : (x : ℕ) → (x ≡ s → ⊥) → get_or g x false ≡ get_or g₀ x false
