-- The answer of the draw call for each answer that is meant, with the number in the refusal's place: `numbered` of the call's answer is
-- this (crates/answers/specs/Answers.antt).
-- Assumes nothing.
use Rattle.std.specs.Prelude.{ℕ, Result, Ok, Err}
use Rattle.meaning.specs.Answers.{Answer, accepted, refused}
use Rattle.meaning.specs.Pictures as Exact
use Rattle.draw_pictures.specs.declared.Picture.{Picture}
use Rattle.draw_pictures.specs.Floats.{shown}

abbrev pub drawn_of : Answer Exact.Picture → Result Picture ℕ
drawn_of (accepted p) = Ok (shown p)
drawn_of (refused n) = Err n
