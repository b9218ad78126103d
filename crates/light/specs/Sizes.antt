-- The places and lengths of a light's fields.
-- Assumes nothing.
use Rattle.std.specs.Prelude.{ℕ, ◌+◌, ◌*◌}
use Rattle.meaning.specs.Limits.{field_header, light_head_size, step_size}

-- where the first step's field starts, and its bytes
abbrev pub first_step : ℕ
first_step = field_header + light_head_size

abbrev pub step_length : ℕ
step_length = field_header + step_size

-- the bytes of a light with so many steps
abbrev pub light_length : ℕ → ℕ
light_length steps = first_step + step_length * steps
