use Rattle.packet.proofs.Unique.{one_reading}
use Rattle.packet.proofs.law.one_reading.Goals as goal

pub returns : goal.returns
returns g c = one_reading g.C.Check.WIDTH g.C.Check.meaning
