-- Flags as they are written.
use Rattle.std.proofs.Common.{◌<◌, Bool, true, false, arith}
use Rattle.basics.specs.Bits.{bit}

pub bit_low : (b : Bool) → bit b < 2
bit_low true = omega arith
bit_low false = omega arith
