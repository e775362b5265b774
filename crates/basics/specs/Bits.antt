use Rattle.std.specs.Prelude.{ℕ, ◌/◌, ◌%◌, ◌^◌, Bool, true, false, Some, None, Option}

-- so many bits of n from the bit `from` on, as a number
abbrev pub bits : ℕ → ℕ → ℕ → ℕ
bits from count n = n / 2 ^ from % 2 ^ count

-- a flag as it is written, 1 or 0
abbrev pub bit : Bool → ℕ
bit true = 1
bit false = 0

-- whether what need not be there is, 1 or 0
abbrev pub present : {T : Type 0} → Option T → ℕ
present None = 0
present (Some x) = 1
