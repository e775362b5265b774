-- Lists of bytes.
-- Assumes nothing.
use Rattle.std.specs.Prelude.{slice_index}
use Rattle.std.proofs.Common.{ℕ, zero, suc, ◌<◌, List, [], ◌∷◌, ◌++◌, get_or, take, drop, Fits, w8, arith}
use Rattle.basics.specs.Bytes.{Bytes}

-- the bytes of a slice, as its type tells them
pub slice_bytes : (xs : List ℕ) → ((i : ℕ) → Fits w8 (get_or xs i 0)) → Bytes xs
slice_bytes [] f = tt
slice_bytes (x ∷ xs) f = ((let s = f 0 in omega arith), slice_bytes xs (λ i. f (suc i)))

pub bytes_append : (xs ys : List ℕ) → Bytes xs → Bytes ys → Bytes (xs ++ ys)
bytes_append [] ys a b = b
bytes_append (x ∷ xs) ys a b = (a.0, bytes_append xs ys a.1 b)

pub bytes_take : (n : ℕ) (xs : List ℕ) → Bytes xs → Bytes (take n xs)
bytes_take zero xs b = tt
bytes_take (suc n) [] b = tt
bytes_take (suc n) (x ∷ xs) b = (b.0, bytes_take n xs b.1)

pub bytes_drop : (n : ℕ) (xs : List ℕ) → Bytes xs → Bytes (drop n xs)
bytes_drop zero xs b = b
bytes_drop (suc n) [] b = tt
bytes_drop (suc n) (x ∷ xs) b = bytes_drop n xs b.1

pub byte_below : (xs : List ℕ) → Bytes xs → (i : ℕ) → slice_index xs i < 256
byte_below [] b i = omega arith
byte_below (x ∷ xs) b zero = b.0
byte_below (x ∷ xs) b (suc i) = byte_below xs b.1 i
