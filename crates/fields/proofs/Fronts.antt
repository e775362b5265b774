-- What bytes begin with is settled by the bytes.
use Rattle.std.proofs.Common.{◌≡◌, ℕ, zero, suc, ◌+◌, ◌/◌, ◌^◌, ◌<◌, List, ◌++◌, length, take, drop, sym, refl, ap, ◌∙◌, subst, inl, inr, arith, length-append}
use mathlib.Core.List.{head-eq_of_cons-eq, tail-eq_of_cons-eq}
use native.Mathlib.Nat.{pow-succ'}
use Rattle.std.proofs.lemmas.List.{take_at, drop_at}
use Rattle.basics.specs.Little.{little}
use Rattle.basics.proofs.Littles.{length_little}
use Rattle.text.specs.Texts.{IsText}
use Rattle.fields.specs.Numbers.{NumberFirst}
use Rattle.fields.specs.Parts.{PartFirst, PartCut, PartNoText}

-- a number is told by its bytes
pub little_once : (w m n : ℕ) (xs ys : List ℕ) → m < 256 ^ w → n < 256 ^ w → little w m ++ xs ≡ little w n ++ ys → (m ≡ n) × (xs ≡ ys)
little_once zero m n xs ys h g e = (omega arith, e)
little_once (suc w) m n xs ys h g e =
    let rest = little_once w (m / 256) (n / 256) xs ys (omega (arith, pow-succ' 256 w)) (omega (arith, pow-succ' 256 w)) (tail-eq_of_cons-eq e) in
    (omega (arith, head-eq_of_cons-eq e, rest.0), rest.1)

pub number_once : (w m n : ℕ) (r s xs : List ℕ) → NumberFirst w m r xs → NumberFirst w n s xs → (m ≡ n) × (r ≡ s)
number_once w m n r s xs h g = little_once w m n r s h.0 g.0 (sym h.1 ∙ g.1)

-- the bytes of a number are there
pub number_long : (w n : ℕ) (r : List ℕ) → length (little w n ++ r) ≡ w + length r
number_long w n r = length-append (little w n) r ∙ ap (λ (k : ℕ). k + length r) (length_little w n)

-- a part is told by its bytes
pub part_once : (s t r q xs : List ℕ) → PartFirst s r xs → PartFirst t q xs → (s ≡ t) × (r ≡ q)
part_once s t r q xs h g =
    let both = little_once 2 (length s) (length t) (s ++ r) (t ++ q) h.0 g.0 (sym h.1 ∙ g.1) in (
      sym (take_at s r (length s) refl) ∙ ap (take (length s)) both.1 ∙ take_at t q (length s) (sym both.0),
      sym (drop_at s r (length s) refl) ∙ ap (drop (length s)) both.1 ∙ drop_at t q (length s) (sym both.0),
    )

-- a part that is there is not cut short
pub part_whole : (s r xs : List ℕ) → PartFirst s r xs → PartCut xs → ⊥
part_whole s r xs h (inl short) = omega (arith, ap length h.1)
part_whole s r xs h (inr (n, rest, number, short)) =
    let both = number_once 2 (length s) n (s ++ r) rest xs h number in
    omega (arith, both.0, ap length both.1, length-append s r)

-- and a text that is there is not a part that is none
pub part_text : (s r xs : List ℕ) → PartFirst s r xs → IsText s → PartNoText xs → ⊥
part_text s r xs h t (q, rest, part, none) = none (subst IsText (part_once s q r rest xs h part).0 t)
