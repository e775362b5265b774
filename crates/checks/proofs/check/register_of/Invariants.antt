use Rattle.std.proofs.Common.{◌≡◌, take}
use Rattle.checks.specs.Check.{fed}
use Rattle.checks.proofs.check.register_of.Given as goal

-- the register is that of the bytes so far
abbrev pub invariant-loop-byte : goal.invariant-loop-byte
invariant-loop-byte g l = l.register ≡ fed g.C.Check.after g.C.Check.empty (take l.byte-index l.bytes)
