-- Numbers in bytes, the lowest first.
-- Assumes nothing.
use Rattle.std.proofs.Common.{◌≡◌, ℕ, zero, suc, ◌/◌, ◌%◌, ◌≤◌, List, ◌∷◌, length, take, refl, ap, arith}
use Rattle.std.proofs.lemmas.Nat.{mod_below}
use Rattle.basics.specs.Bytes.{Bytes}
use Rattle.basics.specs.Little.{little}

pub length_little : (w n : ℕ) → length (little w n) ≡ w
length_little zero n = refl
length_little (suc w) n = ap suc (length_little w (n / 256))

pub bytes_little : (w n : ℕ) → Bytes (little w n)
bytes_little zero n = tt
bytes_little (suc w) n = (mod_below n 256 (omega arith), bytes_little w (n / 256))

-- the first bytes of a number are its lowest
pub take_little : (k w n : ℕ) → k ≤ w → take k (little w n) ≡ little k n
take_little zero w n l = refl
take_little (suc k) zero n l = absurd (omega arith)
take_little (suc k) (suc w) n l = ap (λ (x : List ℕ). (n % 256) ∷ x) (take_little k w (n / 256) (omega arith))

-- these are the lowest bytes of n, as many as there are
abbrev pub Lowest : List ℕ → ℕ → Type 0
Lowest bs n = bs ≡ little (length bs) n
