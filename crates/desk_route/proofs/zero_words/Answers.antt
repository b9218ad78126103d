-- `desk_route::zero_words` meets its contract: each word is as it is said to be.
-- Assumes nothing.
use Rattle.std.proofs.Common.{arith, rules}
use Rattle.std.proofs.lemmas.Grind.{common_steps}
use Rattle.desk_route.proofs.Laws.{cleared_over}
use Rattle.desk_route.proofs.zero_words.Goals as goal

pub returns : goal.returns
returns c =
    let zeros = c.fill.ensures.after (λ y same. search rules) in
    cleared_over c.args.needed c.args.work.now _ c.requires
    (record { sized = search rules; zeros = λ i lt. grind (arith, common_steps, zeros); kept = λ i le. grind (arith, common_steps, zeros) })
