-- What holds of all readings and writings of values.
use Rattle.std.specs.Prelude.{◌≡◌, ℕ, List, ◌++◌}
use Rattle.value.specs.Readings.{Reads, Refused}
use Rattle.value.specs.Values.{Val, written, Lawful}
use Rattle.value.specs.declared.fault.ValueFault.{ValueFault}

-- bytes that begin with two lawful values begin with the same value, and the same bytes follow it
abbrev pub OneReading : Type 0
OneReading = (v w : Val) (r s xs : List ℕ) → Reads v r xs → Reads w s xs → (v ≡ w) × (r ≡ s)

-- a lawful value that is written, with any bytes after it, is never refused, and whatever is read is that value and
-- those bytes
abbrev pub ReadsBack : Type 0
ReadsBack =
    (v : Val) (r : List ℕ) → Lawful v
    → ((f : ValueFault) → Refused f (written v ++ r) → ⊥) × ((w : Val) (s : List ℕ) → Reads w s (written v ++ r) → (w ≡ v) × (s ≡ r))

-- what is read and written again gives the same bytes
abbrev pub WritesBack : Type 0
WritesBack = (v : Val) (r xs : List ℕ) → Reads v r xs → written v ++ r ≡ xs

pub record Laws : Type 0 where
  pub one_reading : OneReading
  pub reads_back : ReadsBack
  pub writes_back : WritesBack
