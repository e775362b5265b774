-- The bytes from one place to another of a list.
-- Assumes nothing.
use Rattle.std.proofs.Common.{◌≡◌, ℕ, ◌+◌, ◌-◌, ◌<◌, ◌≤◌, List, [], ◌∷◌, ◌++◌, length, take, drop, set, slice_range, min, inl, inr, refl, arith, length-drop}
use Rattle.std.proofs.lemmas.List.{take-append-le, drop-drop, take-take, length-take-le, take_more_set, drop-set-add}
use Rattle.std.specs.List.{copy_within}
use Rattle.std.proofs.lemmas.Bool.{cases_lt}
use Rattle.std.proofs.BufReadLemmas.{drop-take_min}

-- without the first k bytes
pub span_later : (xs : List ℕ) (a b k : ℕ) → slice_range xs (a + k) b ≡ drop k (slice_range xs a b)
span_later xs a b k =
    let f : drop k (drop a xs) ≡ drop (a + k) xs = drop-drop k a xs in
    let g = drop-take_min (drop a xs) (b - a) k (min k (b - a)) refl in
    elim (cases_lt (b - a) k) [
      | inl none ↦ (let e : b - (a + k) ≡ 0 = omega arith in let d : b - a - min k (b - a) ≡ 0 = omega arith in rw (e, g, d) refl)
      | inr some ↦ (let e : b - (a + k) ≡ b - a - k = omega arith in let d : min k (b - a) ≡ k = omega arith in rw (e, g, d, f) refl)
    ]

-- one byte more
pub span_push : (xs : List ℕ) (a b x : ℕ) → a ≤ b → b < length xs → slice_range (set xs b x) a (b + 1) ≡ slice_range xs a b ++ x ∷ []
span_push xs a b x l h =
    let p : b - a < length (drop a xs) = omega (arith, length-drop a xs) in
    let e : b + 1 - a ≡ b - a + 1 = omega arith in
    let f : a + (b - a) ≡ b = omega arith in
    let g = drop-set-add a xs (b - a) x in
    let t = take_more_set (drop a xs) (b - a) x p in
    cc

-- moved to the front
pub span_moved : (xs : List ℕ) (a b n : ℕ) → b ≤ n → n ≤ length xs → slice_range (copy_within xs a n 0) 0 (b - a) ≡ slice_range xs a b
span_moved xs a b n h l =
    let e : length (drop a xs) ≡ length xs - a = length-drop a xs in
    let f : length (take (n - a) (drop a xs)) ≡ n - a = length-take-le (n - a) (drop a xs) (omega arith) in
    let z : b - a - 0 ≡ b - a = omega arith in
    rw (z, take-append-le (b - a) (take (n - a) (drop a xs)) (drop (0 + (n - a)) xs) (omega arith)) (take-take (b - a) (n - a) (drop a xs) (omega arith))
