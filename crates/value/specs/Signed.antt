-- Signed numbers in two's complement.
use Rattle.std.specs.Prelude.{ℕ, ◌/◌, ◌^◌, ◌<◌, ℤ, pos, negsuc}

-- a number fits w bytes: half of what they can hold is below 0 (negsuc n is -1 - n)
abbrev pub FitsSigned : ℕ → ℤ → Type 0
FitsSigned w (pos n) = n < 256 ^ w / 2
FitsSigned w (negsuc n) = n < 256 ^ w / 2
