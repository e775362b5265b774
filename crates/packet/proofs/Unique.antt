-- A list begins with at most one packet, and that has one reading.
-- Assumes nothing.
use Rattle.std.proofs.Common.{◌≡◌, ℕ, ◌+◌, ◌/◌, ◌%◌, Bool, true, false, List, ◌++◌, length, take, Some, None, Option, sym, refl, ap, ◌∙◌, append_assoc, arith}
use mathlib.Core.List.{head-eq_of_cons-eq, tail-eq_of_cons-eq}
use Rattle.std.proofs.lemmas.List.{take_at}
use Rattle.basics.specs.Little.{little}
use Rattle.packet.specs.declared.header.Header.{Header}
use Rattle.basics.specs.Bits.{bit, present}
use Rattle.packet.specs.Header.{field, Lawful, header_bytes}
use Rattle.packet.specs.Packet.{OneReading}
use Rattle.packet.specs.Raw.{flag}
use Rattle.packet.proofs.Laid.{flags_of}

bit_inj : (a b : Bool) → bit a ≡ bit b → a ≡ b
bit_inj true true e = refl
bit_inj true false e = absurd (omega arith)
bit_inj false true e = absurd (omega arith)
bit_inj false false e = refl

-- a field that is there in both or in neither is the same in both
same_field : (o q : Option ℕ) (xs ys : List ℕ) → present o ≡ present q → field o ++ xs ≡ field q ++ ys → (o ≡ q) × (xs ≡ ys)
same_field None None xs ys f e = (refl, e)
same_field None (Some y) xs ys f e = absurd (omega arith)
same_field (Some x) None xs ys f e = absurd (omega arith)
same_field (Some x) (Some y) xs ys f e = (ap Some (head-eq_of_cons-eq e), tail-eq_of_cons-eq e)

abbrev made : Bool → ℕ → ℕ → Option ℕ → Option ℕ → ℕ → Option ℕ → Option ℕ → Header
made pri ver ciph route sseg source dseg target = record {
  priority = pri;
  version = ver;
  cipher = ciph;
  route = route;
  source_segment = sseg;
  source = source;
  target_segment = dseg;
  target = target;
}

same_made : {a a' : Bool} {b b' c c' f f' : ℕ} {d d' e e' g g' i i' : Option ℕ}
    → a ≡ a' → b ≡ b' → c ≡ c' → d ≡ d' → e ≡ e' → f ≡ f' → g ≡ g' → i ≡ i' → made a b c d e f g i ≡ made a' b' c' d' e' f' g' i'
same_made p q r s t u v w = cc

-- written headers with the same bytes in front are the same, and so are their sizes and what follows them
pub header_inj : (h k : Header) (s t : ℕ) (xs ys : List ℕ) → Lawful h → Lawful k → header_bytes h s ++ xs ≡ header_bytes k t ++ ys
    → (h ≡ k) × (s ≡ t) × (xs ≡ ys)
header_inj h k s t xs ys l m e =
    let first = head-eq_of_cons-eq e in
    let second = head-eq_of_cons-eq (tail-eq_of_cons-eq e) in
    let f = flags_of h l in
    let g = flags_of k m in
    let a = same_field h.route k.route _ _ (sym f.add ∙ ap (λ b. flag b 7) second ∙ g.add) (tail-eq_of_cons-eq (tail-eq_of_cons-eq (simp append_assoc at e))) in
    let b = same_field h.source_segment k.source_segment _ _ (sym f.sseg ∙ ap (λ b. flag b 6) second ∙ g.sseg) (tail-eq_of_cons-eq a.1) in
    let c = same_field h.target_segment k.target_segment _ _ (sym f.dseg ∙ ap (λ b. flag b 5) second ∙ g.dseg) (tail-eq_of_cons-eq b.1) in
    let d = same_field h.target k.target _ _ (sym f.adr ∙ ap (λ b. flag b 3) first ∙ g.adr) c.1 in
    let pri = bit_inj h.priority k.priority (sym f.pri ∙ ap (λ b. flag b 7) first ∙ g.pri) in
    let ver = sym f.ver ∙ ap (λ b. b / 8 % 4) second ∙ g.ver in
    let ciph = sym f.ciph ∙ ap (λ b. b % 8) second ∙ g.ciph in
    (same_made pri ver ciph a.0 b.0 (head-eq_of_cons-eq b.1) c.0 d.0, head-eq_of_cons-eq a.1, d.1)

same_front : (xs ys s t : List ℕ) → length xs ≡ length ys → xs ++ s ≡ ys ++ t → xs ≡ ys
same_front xs ys s t l e = sym (take_at xs s (length xs) refl) ∙ ap (take (length xs)) e ∙ take_at ys t (length xs) (sym l)

pub one_reading : (w : ℕ) (check : List ℕ → ℕ) → OneReading w check
one_reading w check p q s t h k m n a b e =
    let i = header_inj h k (length m + w) (length n + w) _ _ a.lawful b.lawful
    (sym (append_assoc (header_bytes h (length m + w)) (m ++ little w (check m)) s)
    ∙ ap (λ l. l ++ s) (sym a.written) ∙ e ∙ ap (λ l. l ++ t) b.written
    ∙ append_assoc (header_bytes k (length n + w)) (n ++ little w (check n)) t) in
    let j : m ≡ n = same_front m n _ _ (omega (arith, i.1)) (sym (append_assoc m (little w (check m)) s) ∙ i.2 ∙ append_assoc n (little w (check n)) t) in
    (a.written ∙ (let x = i.0 in cc) ∙ sym b.written, i.0, j)
