-- Fields of a header, as they stand among bytes.
use Rattle.std.specs.Prelude.{◌≡◌, ℕ, ◌+◌, Bool, List, ◌++◌, drop, Option}
use Rattle.basics.specs.Bits.{bit, present}
use Rattle.packet.specs.Header.{field, Below}

-- the optional field o stands at the place k of p, and `next` is the place after it
pub record FieldAt (p : List ℕ) (k : ℕ) (there : Bool) (o : Option ℕ) (next : ℕ) : Type 0 where
  pub present_is : present o ≡ bit there
  pub next_is : next ≡ k + bit there
  pub byte : Below 256 o
  pub stands : drop k p ≡ field o ++ drop next p
