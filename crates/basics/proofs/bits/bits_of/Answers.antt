use Rattle.std.proofs.Common.{ℕ, ◌/◌, ◌%◌, ◌^◌, ◌<◌, ◌≤◌, sym, ap, ◌∙◌, mod-eq_of_lt, div-le_self, arith}
use native.Mathlib.Nat.{pow-le-pow_right, div-eq_of_lt, zero-mod}
use Rattle.basics.proofs.bits.bits_of.Goals as goal

-- a number of 16 bits is less than any power above
below : (n k : ℕ) → n < 65536 → 15 < k → n < 2 ^ k
below n k h g = let p : 2 ^ 16 ≤ 2 ^ k = pow-le-pow_right (omega arith) {i = 16} {j = k} (omega arith) in omega (arith, p, h)

pub returns-then-from-gt15 : goal.returns-then-from-gt15
returns-then-from-gt15 c =
    let f : c.args.word < 65536 = c.ranges.word.fits in
    sym (ap (λ (n : ℕ). n % 2 ^ c.args.count) (div-eq_of_lt (below _ _ f c.if-from-gt15.true)) ∙ zero-mod _)

pub returns-then-count-gt15 : goal.returns-then-count-gt15
returns-then-count-gt15 c =
    let f : c.args.word < 65536 = c.ranges.word.fits in
    let l : c.args.word / 2 ^ c.args.from ≤ c.args.word = div-le_self _ _ in
    let g : c.args.word / 2 ^ c.args.from < 65536 = omega (arith, f, l) in
    sym (mod-eq_of_lt (below _ _ g c.if-count-gt15.true))
