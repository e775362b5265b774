use Rattle.body.proofs.Chains.{exits, fails, fail_last, last, nexts, start, whole}
use Rattle.body.proofs.held.Tuple2Held.take.Goals as goal

pub returns-in_err-first : goal.returns-in_err-first
returns-in_err-first g c = exits _ _ _ _ c.from_residual.ensures.1 (fails _ _ c.in_err-first.ensures (start _ _))

pub returns-in_err-second : goal.returns-in_err-second
returns-in_err-second g c = exits _ _ _ _ c.from_residual-in_err-second.ensures.1 (fail_last _ c.in_err-second.ensures (nexts c.in_ok-first.ensures (start _ _)))

pub returns : goal.returns
returns g c = whole (last c.in_ok-second.ensures (nexts c.in_ok-first.ensures (start _ _)))
