use Rattle.std.proofs.Common.{arith}
use Rattle.packet.proofs.Bits.{ones_flags}
use Rattle.packet.proofs.flags.optional_fields.Goals as goal

pub returns : goal.returns
returns c =
    let e = ones_flags c.args.first c.args.second (omega arith) (omega arith) in
    record { is = e; few = omega arith }
