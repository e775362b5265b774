use Rattle.body.proofs.Chains.{denied, exits}
use Rattle.device.proofs.flags.take_flags.Goals as goal

pub returns-in_err-byte : goal.returns-in_err-byte
returns-in_err-byte g c = exits _ _ _ _ c.from_residual.ensures.1 (denied _ (rw (c.FROM.ensures, c.RESERVED.ensures) at c.in_err-byte.ensures))
