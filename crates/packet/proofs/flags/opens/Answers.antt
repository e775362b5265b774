use Rattle.std.proofs.Common.{eqb, arith}
use lib.Bits.{bit_and}
use Rattle.packet.specs.Faults.{Opens}
use Rattle.packet.proofs.Bits.{opens_from, opens_to, decided}
use Rattle.packet.proofs.flags.opens.Goals as goal

pub returns : goal.returns
returns c =
    let b = c.args.first in
    decided (eqb (bit_and b 0x77) 0x75) (Opens b) (opens_from b (omega arith)) (opens_to b)
