-- A number gathered from the last byte to the first.
use Rattle.std.proofs.Common.{◌≡◌, ℕ, suc, ◌+◌, ◌*◌, ◌/◌, ◌%◌, ◌^◌, ◌<◌, ◌≤◌, List, [], ◌∷◌, ◌++◌, length, get_or, sym, ap, ◌∙◌, subst, zero-lt-suc, arith, length-append, append_assoc, take, drop, take-append-drop, mod-eq_of_lt}
use native.Mathlib.Nat.{pow-succ', pow-le-pow_right}
use Rattle.std.proofs.lemmas.List.{nil_from_length}
use Rattle.std.proofs.lemmas.Grind.{common_steps}
use Rattle.basics.specs.Little.{little}
use Rattle.basics.proofs.Littles.{length_little}

-- xs are the bytes rest and then those of the number n
pub record Gathered (xs rest : List ℕ) (n : ℕ) : Type 0 where
  pub width : ℕ
  pub below : n < 256 ^ width
  pub bytes : xs ≡ rest ++ little width n

little_more : (w n b : ℕ) → b < 256 → little (suc w) (256 * n + b) ≡ b ∷ little w n
little_more w n b h =
    let low : (256 * n + b) % 256 ≡ b = omega arith in
    let high : (256 * n + b) / 256 ≡ n = omega arith in
    rw (low, high)

gathered_long : {xs rest : List ℕ} {n : ℕ} (h : Gathered xs rest n) → length xs ≡ length rest + h.width
gathered_long {xs} {rest} {n} h = ap length h.bytes ∙ length-append rest (little h.width n) ∙ ap (λ (k : ℕ). length rest + k) (length_little h.width n)

byte_at : (front : List ℕ) (b : ℕ) (more xs : List ℕ) → xs ≡ (front ++ b ∷ []) ++ more → get_or xs (length front) 0 ≡ b
byte_at front b more xs e = grind (arith, common_steps)

-- the byte before them is one of xs
pub gathered_byte : {xs rest : List ℕ} {n : ℕ} (front : List ℕ) (b : ℕ) → Gathered xs rest n → rest ≡ front ++ b ∷ [] → ((i : ℕ) → get_or xs i 0 < 256) → b < 256
gathered_byte {xs} {rest} {n} front b h e low =
    let is : get_or xs (length front) 0 ≡ b = byte_at front b (little h.width n) xs (h.bytes ∙ ap (λ (t : List ℕ). t ++ little h.width n) e) in
    omega (arith, low (length front))

pub gathered_more : {xs rest : List ℕ} {n : ℕ} (front : List ℕ) (b : ℕ) → Gathered xs rest n → rest ≡ front ++ b ∷ [] → ((i : ℕ) → get_or xs i 0 < 256) → Gathered xs front (256 * n + b)
gathered_more {xs} {rest} {n} front b h e low =
    let byte : b < 256 = gathered_byte front b h e low in
    record {
      width = suc h.width;
      below = omega (arith, pow-succ' 256 h.width, h.below);
      bytes = h.bytes ∙ ap (λ (t : List ℕ). t ++ little h.width n) e ∙ append_assoc front (b ∷ []) (little h.width n) ∙ ap (λ (t : List ℕ). front ++ t) (sym (little_more h.width n b byte));
    }

-- of at most eight bytes, seven leave room for one more
pub gathered_room : {xs rest : List ℕ} {n : ℕ} (front : List ℕ) (b : ℕ) → Gathered xs rest n → rest ≡ front ++ b ∷ [] → length xs ≤ 8 → n < 256 ^ 7
gathered_room {xs} {rest} {n} front b h e l =
    let few : h.width ≤ 7 = omega (arith, gathered_long h, ap length e, length-append front (b ∷ [])) in
    omega (arith, h.below, pow-le-pow_right (zero-lt-suc 255) few)

-- all bytes are gathered, as many as a number of that width has
pub gathered_all : {xs rest : List ℕ} {n : ℕ} (w m : ℕ) → Gathered xs rest n → length rest ≡ 0 → length xs ≡ w → m ≡ n % 256 ^ w → (m < 256 ^ w) × (xs ≡ little w m)
gathered_all {xs} {rest} {n} w m h none size lowest =
    let all : h.width ≡ w = omega (arith, gathered_long h) in
    let below : n < 256 ^ w = subst (λ (k : ℕ). n < 256 ^ k) all h.below in
    let is : n ≡ m = sym (lowest ∙ mod-eq_of_lt below) in
    (subst (λ (k : ℕ). k < 256 ^ w) is below, h.bytes ∙ ap (λ (t : List ℕ). t ++ little h.width n) (nil_from_length rest none) ∙ ap (λ (k : ℕ). little k n) all ∙ ap (little w) is)

-- the bytes before and after a place
pub front_bytes : (w : ℕ) (xs front rest bytes : List ℕ) → front ≡ take w xs → rest ≡ drop w xs → front ≡ bytes → xs ≡ bytes ++ rest
front_bytes w xs front rest bytes e f g = sym (take-append-drop w xs) ∙ ap (λ (t : List ℕ). t ++ drop w xs) (sym e ∙ g) ∙ ap (λ (t : List ℕ). bytes ++ t) (sym f)
