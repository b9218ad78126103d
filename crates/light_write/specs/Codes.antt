-- The steps of a plan as a stack of codes: 1 to 1000 is a wait of so many ticks, 1001 + m the motion m.
-- Assumes nothing.
use Rattle.std.specs.Prelude.{ℕ, zero, suc, ◌-◌, cond, List, [], ◌∷◌, map, ltb, get_or}
use Rattle.meaning.specs.Plan.{Step, wait, move}
use Rattle.meaning.specs.Fields.{fields_bytes}
use Rattle.meaning.specs.Light.{step_field}

-- the code of motion 0
abbrev pub first_move : ℕ
first_move = 1001

-- how many codes a stack holds
abbrev pub code_limit : ℕ
code_limit = 1024

unfoldable pub step_of_code : ℕ → Step
step_of_code c = cond (ltb c first_move) (wait c) (move (c - first_move))

-- the steps of the first c codes: the top of the stack is the first step
unfoldable pub steps_in : List ℕ → ℕ → List Step
steps_in path zero = []
steps_in path (suc c) = step_of_code (get_or path c 0) ∷ steps_in path c

-- the bytes of their fields
abbrev pub step_bytes : List Step → List ℕ
step_bytes ps = fields_bytes (map step_field ps)
