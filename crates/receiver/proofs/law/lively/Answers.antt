use Rattle.packet.specs.Packet.{Packet}
use Rattle.receiver.proofs.Alive.{received, awaited, fronts_possible}
use Rattle.receiver.proofs.Ours.{ours}
use Rattle.receiver.proofs.law.lively.Goals as goal

pub returns : goal.returns
returns g c =
    let P = Packet g.C.Check.WIDTH g.C.Check.meaning in
    let code = ours g.C.Check.WIDTH g.C.Check.meaning in
    record { answered = received P code; awaited = awaited P code; possible = fronts_possible P code }
