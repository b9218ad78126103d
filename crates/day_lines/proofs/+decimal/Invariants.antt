-- `day_lines::decimal` ends: the number without its last digit is smaller.
-- Assumes nothing.
use Rattle.day_lines.proofs.+decimal.Given as goal

abbrev pub decreases-decimal : goal.decreases-decimal
decreases-decimal l = l.n
