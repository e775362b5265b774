-- What is wrong with bytes at whose front a field should stand.
use Rattle.std.specs.Prelude.{◌≡◌, ℕ, ◌<◌, List, length}
use Rattle.fields.specs.Numbers.{NumberFirst}
use Rattle.fields.specs.Parts.{PartCut, PartNoText}
use Rattle.value.specs.Readings.{Refused}
use Rattle.basics.specs.Bits.{bits}
use Rattle.body.specs.Fields.{Field, word, listing, text, value}
use Rattle.body.specs.declared.fault.MessageFault.{MessageFault}
use Rattle.body.specs.declared.fault.MessageFault.TheVariants as fault

-- the bytes end before the field does; a value has a fault of its own for that
abbrev pub CutShort : Field → List ℕ → Type 0
CutShort (word w from count) xs = length xs < w
CutShort (listing valued) xs = length xs < 2
CutShort text xs = PartCut xs
CutShort value xs = ⊥

-- the bytes begin with a number of w bytes in which some of these bits are not 0
abbrev pub BitsSet : ℕ → ℕ → ℕ → List ℕ → Type 0
BitsSet w from count xs = (n : ℕ) × (rest : List ℕ) × NumberFirst w n rest xs × (0 < bits from count n)

abbrev pub ReservedSet : Field → List ℕ → Type 0
ReservedSet (word w from count) xs = BitsSet w from count xs
ReservedSet (listing valued) xs = BitsSet 2 12 2 xs
ReservedSet text xs = ⊥
ReservedSet value xs = ⊥

-- what each fault says of the bytes and the field; the others are not a field's
abbrev pub Wrong : MessageFault → Field → List ℕ → Type 0
Wrong fault.Cut f xs = CutShort f xs
Wrong fault.Reserved f xs = ReservedSet f xs
Wrong fault.Text f xs = (f ≡ text) × PartNoText xs
Wrong (fault.Value g) f xs = (f ≡ value) × Refused g xs
Wrong fault.Cipher f xs = ⊥
Wrong fault.Version f xs = ⊥
Wrong fault.ErrorInRequest f xs = ⊥
Wrong fault.TransactionCut f xs = ⊥
Wrong fault.LeftOver f xs = ⊥
Wrong fault.Variables f xs = ⊥
