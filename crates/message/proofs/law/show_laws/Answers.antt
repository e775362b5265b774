use Rattle.message.proofs.Uniqueness.{one_reading}
use Rattle.message.proofs.law.show_laws.Goals as goal

pub returns : goal.returns
returns c = one_reading
