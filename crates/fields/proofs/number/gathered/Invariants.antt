use Rattle.fields.proofs.Numbers.{Gathered}
use Rattle.fields.proofs.number.gathered.Given as goal

abbrev pub invariant-loop-byte : goal.invariant-loop-byte
invariant-loop-byte g l =
    (goal.iterator-loop-byte g).can_next l.byte-iterator × (goal.iterator-loop-byte g).is_finite l.byte-iterator
    × Gathered l.bytes l.byte-iterator.iter.rest.now l.number
