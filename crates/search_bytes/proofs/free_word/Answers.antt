-- `search_bytes::free_word` meets its contract: where there are 64 bytes, the first 64 are all.
-- Assumes nothing.
use Rattle.std.proofs.Common.{◌≡◌, ◌≤◌, ℕ, List, length, sym, ◌∙◌, ap, fold, arith}
use Rattle.std.proofs.lemmas.List.{take_all}
use Rattle.std.specs.Array.{IsFirstChunk}
use lib.Bits.{bit_or}
use Rattle.search_bytes.specs.Words.{free_word}
use Rattle.search_bytes.proofs.WordLaws.{zero_full}
use Rattle.search_bytes.proofs.free_word.Goals as goal

all_bytes : (b x : List ℕ) → length b ≤ 64 → IsFirstChunk b x 64 → x ≡ b
all_bytes b x most h = h.same ∙ take_all 64 b most

pub returns-then-bytes_union-eq0 : goal.returns-then-bytes_union-eq0
returns-then-bytes_union-eq0 c =
    let chunk = c.in-Some.ensures.cases in
    zero_full _ (omega (arith, chunk.enough)) (ap (fold bit_or 0) (sym (all_bytes _ _ (omega arith) chunk)) ∙ sym c.bytes_union.ensures ∙ c.if-bytes_union-eq0.true)

pub returns : goal.returns
returns c = c.free_all.ensures ∙ ap free_word (all_bytes _ _ (omega arith) c.in-Some.ensures.cases)
