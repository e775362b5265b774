use Rattle.body.proofs.Chains.{exits}
use Rattle.message.proofs.Uniqueness.{refused_body}
use Rattle.message.proofs.read.read_at.Goals as goal

pub returns-in_err-message : goal.returns-in_err-message
returns-in_err-message c = exits _ _ _ _ c.from_residual-in_err-message.ensures.1 (refused_body _ _ _ _ _ _ c.in_ok-header.ensures c.row_for.ensures c.in_err-message.ensures)
