use Rattle.receiver.proofs.FalseStart.{false_start}
use Rattle.receiver.proofs.law.false_start.Goals as goal

pub returns : goal.returns
returns c = false_start
