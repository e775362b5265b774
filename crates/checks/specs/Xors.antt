-- The exclusive or of all bytes is a check of one byte.
-- Assumes nothing.
use Rattle.std.specs.Prelude.{◌≡◌, ℕ, ◌<◌, List, [], ◌∷◌, bit_xor}
use Rattle.std.proofs.Common.{sym, ◌∙◌, lit<}
use Rattle.std.specs.Int.Bits.{xor_assoc, xor_zero_r, xor_zero_l}
use Rattle.std.proofs.lemmas.Nat.{xor_lt}
use Rattle.basics.specs.Bytes.{Bytes}
use Rattle.checks.specs.Check.{fed}
use Rattle.checks.specs.Xor.{xor_of}

fed_xor : (r : ℕ) (bs : List ℕ) → fed bit_xor r bs ≡ bit_xor r (xor_of bs)
fed_xor r [] = sym (xor_zero_r r)
fed_xor r (b ∷ bs) = fed_xor (bit_xor r b) bs ∙ xor_assoc r b (xor_of bs)

pub xor_feeding : (bs : List ℕ) → fed bit_xor 0 bs ≡ xor_of bs
xor_feeding bs = fed_xor 0 bs ∙ xor_zero_l (xor_of bs)

pub xor_fits : (bs : List ℕ) → Bytes bs → xor_of bs < 256
xor_fits [] h = lit< tt
xor_fits (b ∷ bs) h = xor_lt 8 b (xor_of bs) h.0 (xor_fits bs h.1)
