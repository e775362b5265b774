use Rattle.std.proofs.Common.{drop}
use Rattle.basics.proofs.Littles.{Lowest}
use Rattle.basics.proofs.number.are_lowest_bytes.Given as goal

-- the bytes still to come are the lowest of what is left of the number exactly when all are of the whole number
abbrev pub invariant-loop-byte : goal.invariant-loop-byte
invariant-loop-byte l =
    (Lowest (drop l.byte-index l.bytes) l.rest → Lowest l.bytes l.number)
    × (Lowest l.bytes l.number → Lowest (drop l.byte-index l.bytes) l.rest)
