-- CRC-16, bit by bit.
use Rattle.std.specs.Prelude.{ℕ, zero, suc, ◌/◌, ◌%◌, cond, List, [], ◌∷◌, ◌==◌, bit_xor}

-- one bit to the right; where the lost bit was 1, joined with A001 by exclusive or
abbrev pub shift : ℕ → ℕ
shift r = cond (r % 2 == 1) (bit_xor (r / 2) 0xA001) (r / 2)

abbrev pub shifts : ℕ → ℕ → ℕ
shifts zero r = r
shifts (suc n) r = shift (shifts n r)

-- a byte goes into the low half by exclusive or, and then come eight shifts
abbrev pub after_byte : ℕ → ℕ → ℕ
after_byte r b = shifts 8 (bit_xor r b)

abbrev pub after_bytes : ℕ → List ℕ → ℕ
after_bytes r [] = r
after_bytes r (b ∷ bs) = after_bytes (after_byte r b) bs

-- the register starts at FFFF
abbrev pub crc16_of : List ℕ → ℕ
crc16_of bs = after_bytes 0xFFFF bs
