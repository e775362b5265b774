-- The bits of the two flag bytes.
-- Assumes nothing.
use Rattle.std.proofs.Common.{◌≡◌, ℕ, zero, suc, ◌+◌, ◌*◌, ◌/◌, ◌%◌, ◌^◌, ◌<◌, ◌≤◌, Bool, true, false, T, eqb, sym, refl, ap, ◌∙◌, subst, arith, eqb→eq}
use Rattle.std.specs.Prelude.{IsTrue, ◌↔◌}
use Rattle.std.proofs.lemmas.Bool.{false≢true}
use lib.Bits.{bit_and, bit_or, and_high, or_shifted}
use lib.Count.{ones, ones_step, ones_cat}
use Rattle.basics.proofs.Tables.{below}
use Rattle.packet.specs.Raw.{flag}
use Rattle.basics.specs.Bits.{bit}
use Rattle.packet.specs.Header.{first_byte}
use Rattle.packet.specs.Faults.{Opens}

ones_0 : ones 0 ≡ 0
unfolding ones
ones_0 = refl

-- a number of at most three bits
ones_three : (h : ℕ) → h < 8 → ones h ≡ h / 4 % 2 + h / 2 % 2 + h % 2
ones_three h lt =
    let a = ones_step h in
    let b = ones_step (h / 2) in
    let d = ones_step (h / 2 / 2) in
    let z : h / 2 / 2 / 2 ≡ 0 = omega arith in
    let e : ones (h / 2 / 2 / 2) ≡ 0 = ap ones z ∙ ones_0 in
    omega arith

pub ones_flags : (f s : ℕ) → f < 256 → s < 256
    → ones (bit_or (bit_and s 224) (bit_and f 8)) ≡ flag s 7 + flag s 6 + flag s 5 + flag f 3
ones_flags f s fl sl =
    let lo : f / 2 ^ 3 % 2 ^ 1 * 2 ^ 3 < 2 ^ 5 = omega arith in
    let lo2 : f / 2 ^ 3 % 2 ^ 1 * 2 ^ 3 ≡ f / 8 % 2 * 2 ^ 3 + 0 = omega arith in
    rw (and_high s 3 5, and_high f 1 3, or_shifted (s / 2 ^ 5 % 2 ^ 3) 5 (f / 2 ^ 3 % 2 ^ 1 * 2 ^ 3) lo, ones_cat 5 (s / 2 ^ 5 % 2 ^ 3) (f / 2 ^ 3 % 2 ^ 1 * 2 ^ 3) lo)
    (let a = ones_three (s / 2 ^ 5 % 2 ^ 3) (omega arith) in
    let b = ap ones lo2 ∙ ones_cat 3 (f / 8 % 2) 0 (omega arith) in
    let e = ones_three (f / 8 % 2) (omega arith) in
    let z = ones_0 in
    omega arith)

pub bit_most : (b : Bool) → bit b ≤ 1
bit_most true = omega arith
bit_most false = omega arith

pub bit_eqb : (n : ℕ) → n < 2 → bit (eqb n 1) ≡ n
bit_eqb zero h = refl
bit_eqb (suc zero) h = refl
bit_eqb (suc (suc n)) h = absurd (omega arith)

-- a test that decides a fact
pub decided : (b : Bool) (P : Type 0) → (T b → P) → (P → T b) → IsTrue b ↔ P
decided true P f g = ((λ _. f tt), λ _. refl)
decided false P f g = ((λ e. absurd (false≢true e)), λ x. absurd (g x))

-- two tests that come out alike
abbrev alike : Bool → Bool → Bool
alike true b = b
alike false true = false
alike false false = true

alike_true : (a b : Bool) → T (alike a b) → T a → T b
alike_true true b s t = s
alike_true false b s t = absurd t

-- the mask keeps every bit but PRI and ADR; this is computed for each byte
abbrev rebuilt : ℕ → ℕ
rebuilt b = first_byte (b / 128) (b / 8 % 2)

masked : (b : ℕ) → b < 256 → T (alike (eqb (bit_and b 0x77) 0x75) (eqb b (rebuilt b)))
masked b h = below 256 (λ b. alike (eqb (bit_and b 0x77) 0x75) (eqb b (rebuilt b))) tt b h

pub opens_from : (b : ℕ) → b < 256 → T (eqb (bit_and b 0x77) 0x75) → Opens b
opens_from b h t =
    let e : b ≡ rebuilt b = eqb→eq b (rebuilt b) (alike_true _ _ (masked b h) t) in
    let pri = bit_eqb (b / 128) (omega arith) in
    let adr = bit_eqb (b / 8 % 2) (omega arith) in
    (eqb (b / 128) 1, eqb (b / 8 % 2) 1, omega arith)

opens_masked : (pri adr : Bool) → T (eqb (bit_and (first_byte (bit pri) (bit adr)) 0x77) 0x75)
opens_masked true true = tt
opens_masked true false = tt
opens_masked false true = tt
opens_masked false false = tt

pub opens_to : (b : ℕ) → Opens b → T (eqb (bit_and b 0x77) 0x75)
opens_to b (pri, adr, e) = subst (λ x. T (eqb (bit_and x 0x77) 0x75)) (sym e) (opens_masked pri adr)
