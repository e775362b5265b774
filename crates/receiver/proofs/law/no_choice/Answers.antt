use Rattle.packet.specs.Packet.{Packet}
use Rattle.receiver.proofs.Choiceless.{no_choice}
use Rattle.receiver.proofs.Ours.{ours}
use Rattle.receiver.proofs.law.no_choice.Goals as goal

pub returns : goal.returns
returns g c = no_choice (Packet g.C.Check.WIDTH g.C.Check.meaning) (ours g.C.Check.WIDTH g.C.Check.meaning)
