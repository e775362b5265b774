-- n shifts of a register: what stands above its n lowest bits comes down, and those bits go by a table.
-- Assumes nothing.
use Rattle.std.proofs.Common.{◌≡◌, ℕ, zero, suc, ◌+◌, ◌-◌, ◌*◌, ◌/◌, ◌%◌, ◌^◌, ◌<◌, Bool, true, false, cond, T, eqb, List, length, get_or, sym, refl, ap, ◌∙◌, subst, mod-lt, mul_assoc, mul_comm, mul-one, arith, eqb→eq, pow_pos}
use native.Mathlib.Nat.{pow-succ', div-add-mod}
use lib.Bits.{bit_xor, bit_and, xor_assoc, xor_shr, xor_mod, xor_shifted, and_mask}
use Rattle.checks.specs.Crc16.{shift, shifts}
use Rattle.basics.proofs.Tables.{every, at}

cond_xor : (t : Bool) (h a b : ℕ) → cond t (bit_xor (bit_xor h a) b) (bit_xor h a) ≡ bit_xor h (cond t (bit_xor a b) a)
cond_xor true h a b = xor_assoc h a b
cond_xor false h a b = refl

twice_half : (h k : ℕ) → bit_xor (h * 2) k / 2 ≡ bit_xor h (k / 2)
twice_half h k = xor_shr (h * 2) k 1 ∙ ap (λ x. bit_xor x (k / 2)) (let e : h * 2 / 2 ≡ h = omega arith in e)

twice_low : (h k : ℕ) → bit_xor (h * 2) k % 2 ≡ k % 2
twice_low h k = xor_mod (h * 2) k 1 ∙ ap (λ x. bit_xor x (k % 2)) (let e : h * 2 % 2 ≡ 0 = omega arith in e)

-- one shift leaves alone what stands above the lowest bit
shift_above : (h k : ℕ) → shift (bit_xor (h * 2) k) ≡ bit_xor h (shift k)
shift_above h k =
    ap (λ x. cond (eqb x 1) (bit_xor (bit_xor (h * 2) k / 2) 0xA001) (bit_xor (h * 2) k / 2)) (twice_low h k)
    ∙ ap (λ x. cond (eqb (k % 2) 1) (bit_xor x 0xA001) x) (twice_half h k)
    ∙ cond_xor (eqb (k % 2) 1) h (k / 2) 0xA001

doubled : (h n : ℕ) → h * 2 ^ suc n ≡ h * 2 * 2 ^ n
doubled h n = ap (λ x. h * x) (pow-succ' 2 n) ∙ sym (mul_assoc h 2 (2 ^ n))

shifts_above : (n h k : ℕ) → shifts n (bit_xor (h * 2 ^ n) k) ≡ bit_xor h (shifts n k)
shifts_above zero h k = ap (λ x. bit_xor x k) (mul-one h)
shifts_above (suc n) h k = ap shift (ap (λ x. shifts n (bit_xor x k)) (doubled h n) ∙ shifts_above n (h * 2) k) ∙ shift_above h (shifts n k)

-- n shifts, by a table of 2 ^ n registers that passes the test
pub shifts_by_table : (n x : ℕ) (table : List ℕ) → length table ≡ 2 ^ n → T (every (λ k e. eqb e (shifts n k)) 0 table)
    → bit_xor (x / 2 ^ n) (get_or table (bit_and x (2 ^ n - 1)) 0) ≡ shifts n x
shifts_by_table n x table long right =
    let low = x % 2 ^ n in
    let small : low < 2 ^ n = mod-lt x (pow_pos n) in
    let less : low < length table = subst (λ m. low < m) (sym long) small in
    let entry : get_or table low 0 ≡ shifts n low = eqb→eq (get_or table low 0) (shifts n low) (at (λ k e. eqb e (shifts n k)) table right low less) in
    let whole : bit_xor (x / 2 ^ n * 2 ^ n) low ≡ x = xor_shifted (x / 2 ^ n) n low small ∙ ap (λ y. y + low) (mul_comm (x / 2 ^ n) (2 ^ n)) ∙ div-add-mod x (2 ^ n) in
    ap (λ i. bit_xor (x / 2 ^ n) (get_or table i 0)) (and_mask x n)
    ∙ ap (bit_xor (x / 2 ^ n)) entry
    ∙ sym (shifts_above n (x / 2 ^ n) low)
    ∙ ap (shifts n) whole
