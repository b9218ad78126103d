-- `search_ticks::fill` meets its contract: what is left of the loop gives the whole block; the carry is that of the words done.
-- Assumes nothing.
use Rattle.std.proofs.Common.{refl, arith, rules}
use Rattle.search_ticks.proofs.SetLaws.{filling_start, filling_turn, fill_done}
use Rattle.search_ticks.proofs.fill.Goals as goal

pub loop-i-init : goal.loop-i-init
loop-i-init c = filling_start _ _ _ _ _ refl

pub loop-i-preserved : goal.loop-i-preserved
loop-i-preserved c = filling_turn _ _ _ _ _ _ _ _ _ _ (omega arith) (omega (arith, c.loop-i.invariant.grown.sized)) c.fill_word-run.ensures (omega arith) c.loop-i.invariant

pub returns : goal.returns
returns c =
    let i = c.loop-i.invariant in
    record {
      changed = fill_done c.args.l.now _ c.args.f.now c.args.s c.args.c c.args.block _ _ _ _ _ (λ j. search rules)
          (omega arith) (omega arith) (omega arith) (omega arith) (omega arith) (omega arith) i;
      grown = i.grown;
    }
