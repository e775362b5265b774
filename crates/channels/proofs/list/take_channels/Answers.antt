use Rattle.body.specs.Tails.{nothing}
use Rattle.body.proofs.Chains.{exits, fail_last, last, refuse, refuse_end}
use Rattle.channels.proofs.Listing.{headed}
use Rattle.channels.proofs.list.take_channels.Goals as goal

pub returns-in_err-after : goal.returns-in_err-after
returns-in_err-after c = exits _ _ _ _ c.from_residual-in_err-after.ensures.1 (refuse nothing (fail_last _ c.in_err-after.ensures (headed _ _ _ _ c.in_ok-layout.ensures)))

pub returns-in_err-finish : goal.returns-in_err-finish
returns-in_err-finish c = exits _ _ _ _ c.from_residual-in_err-finish.ensures.1 (refuse_end nothing (last c.in_ok-after.ensures.1 (headed _ _ _ _ c.in_ok-layout.ensures)) c.in_err-finish.ensures)
