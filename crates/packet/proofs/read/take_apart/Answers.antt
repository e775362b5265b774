use Rattle.std.proofs.Common.{sym, subst}
use Rattle.packet.specs.Packet.{Reads}
use Rattle.packet.proofs.Judging.{message_part, reading}
use Rattle.packet.proofs.read.take_apart.Goals as goal

pub returns : goal.returns
returns g c =
    let m = c.args.front.now.measured in
    subst (λ x. Reads g.C.Check.WIDTH g.C.Check.meaning c.args.front.now.bytes.now c.read_header.result x) (sym (message_part m _ c.check_place.ensures))
    (reading g.C.Check.meaning m _ c.read_header.ensures.lawful c.read_header.ensures.bytes c.requires.ends c.requires.agrees c.read_header.ensures.written)
