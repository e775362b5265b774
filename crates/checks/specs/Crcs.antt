-- CRC-16 is a check of two bytes.
-- Assumes nothing.
use Rattle.std.specs.Prelude.{◌≡◌, ℕ, zero, suc, ◌/◌, ◌%◌, ◌<◌, Bool, true, false, cond, List, [], ◌∷◌, ◌==◌, bit_xor, refl}
use Rattle.std.proofs.Common.{arith, lit<}
use Rattle.std.proofs.lemmas.Nat.{xor_lt}
use Rattle.basics.specs.Bytes.{Bytes}
use Rattle.checks.specs.Check.{fed}
use Rattle.checks.specs.Crc16.{shift, shifts, after_byte, after_bytes, crc16_of}

either_fits : (b : Bool) (x y : ℕ) → x < 65536 → y < 65536 → cond b x y < 65536
either_fits true x y p q = p
either_fits false x y p q = q

shift_fits : (r : ℕ) → r < 65536 → shift r < 65536
shift_fits r h =
    let half : r / 2 < 65536 = omega arith in
    either_fits (r % 2 == 1) _ _ (xor_lt 16 (r / 2) 0xA001 half (lit< tt)) half

shifts_fit : (n r : ℕ) → r < 65536 → shifts n r < 65536
shifts_fit zero r h = h
shifts_fit (suc n) r h = shift_fits (shifts n r) (shifts_fit n r h)

after_bytes_fits : (r : ℕ) (bs : List ℕ) → r < 65536 → Bytes bs → after_bytes r bs < 65536
after_bytes_fits r [] h k = h
after_bytes_fits r (b ∷ bs) h k = after_bytes_fits (after_byte r b) bs (shifts_fit 8 (bit_xor r b) (xor_lt 16 r b h (let s = k.0 in omega arith))) k.1

pub crc16_fits : (bs : List ℕ) → Bytes bs → crc16_of bs < 65536
crc16_fits bs k = after_bytes_fits 0xFFFF bs (lit< tt) k

fed_crc16 : (r : ℕ) (bs : List ℕ) → fed after_byte r bs ≡ after_bytes r bs
fed_crc16 r [] = refl
fed_crc16 r (b ∷ bs) = fed_crc16 (after_byte r b) bs

pub crc16_feeding : (bs : List ℕ) → fed after_byte 0xFFFF bs ≡ crc16_of bs
crc16_feeding bs = fed_crc16 0xFFFF bs
