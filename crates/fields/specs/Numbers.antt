-- Numbers at the front of bytes, the lowest byte first.
use Rattle.std.specs.Prelude.{◌≡◌, ℕ, suc, ◌-◌, ◌^◌, ◌<◌, List, ◌++◌, ℤ, pos, negsuc}
use Rattle.basics.specs.Little.{little}

-- xs begin with the number n in w bytes, and rest follows
abbrev pub NumberFirst : ℕ → ℕ → List ℕ → List ℕ → Type 0
NumberFirst w n rest xs = (n < 256 ^ w) × (xs ≡ little w n ++ rest)

-- the two's complement of a signed number in w bytes: for one below 0, the number that is 256 ^ w above it (negsuc n is
-- -1 - n)
abbrev pub complement : ℕ → ℤ → ℕ
complement w (pos n) = n
complement w (negsuc n) = 256 ^ w - suc n
