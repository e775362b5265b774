use Rattle.packet.specs.Packet.{Packet}
use Rattle.receiver.proofs.Standing.{stands}
use Rattle.receiver.proofs.Ours.{ours}
use Rattle.receiver.proofs.law.law.Goals as goal

pub returns : goal.returns
returns g c = stands (Packet g.C.Check.WIDTH g.C.Check.meaning) (ours g.C.Check.WIDTH g.C.Check.meaning)
