use Rattle.body.specs.Tails.{variables}
use Rattle.body.proofs.Chains.{exits, nexts, refuse_end, start}
use Rattle.content.proofs.read.read_link.Goals as goal

pub returns-in_err-variables : goal.returns-in_err-variables
returns-in_err-variables c = exits _ _ _ _ c.from_residual-in_err-variables.ensures.1 (refuse_end variables (nexts c.in_ok-channel.ensures (start _ _)) c.in_err-variables.ensures)
