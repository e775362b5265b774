-- Characters at the front of bytes.
use Rattle.std.proofs.Common.{◌≡◌, ℕ, ◌<◌, ◌⊎◌, inl, inr, List, [], ◌∷◌, ◌++◌, length, Some, None, Option, MatchOption, Bor, sym, refl, ap, ◌∙◌, subst, arith, length-append, get_or, take, drop, ◌-◌, cond, ltb, ◌≤◌}
use Rattle.std.proofs.lemmas.List.{drop_at, take_all}
use Rattle.std.proofs.lemmas.Bool.Decides.{nat_tests}
use mathlib.Core.List.{head-eq_of_cons-eq, tail-eq_of_cons-eq}
use Rattle.text.specs.Characters.{In, Tail, Second, One, Character, one, two, three, four}
use Rattle.text.specs.Texts.{IsText, empty, next, ByteFirst, CharacterFirst, Absent, IfFirst}

-- what follows the first byte a of a character of two, three and four bytes
abbrev pub TwoAfter : ℕ → List ℕ → List ℕ → Type 0
TwoAfter a rest ys = ByteFirst (Second a) rest ys

-- xs begin as R tells, then one more byte goes on with the character, and rest follows
abbrev pub Then : (List ℕ → List ℕ → Type 0) → List ℕ → List ℕ → Type 0
Then R rest xs = (zs : List ℕ) × R zs xs × ByteFirst Tail rest zs

abbrev pub ThreeAfter : ℕ → List ℕ → List ℕ → Type 0
ThreeAfter a = Then (TwoAfter a)

abbrev pub FourAfter : ℕ → List ℕ → List ℕ → Type 0
FourAfter a = Then (ThreeAfter a)

-- where xs begin as R tells, in one way, and zs follow, zs tell whether one more byte goes on with the character
told_then : (R : List ℕ → List ℕ → Type 0) (xs zs : List ℕ) → R zs xs → ((us : List ℕ) → R us xs → us ≡ zs) → (o : Option (Bor (List ℕ))) → MatchOption o (Absent (ByteFirst Tail) zs) (λ rest. ByteFirst Tail rest.now zs) → MatchOption o (Absent (Then R) xs) (λ rest. Then R rest.now xs)
told_then R xs zs h once None none = λ rest (us, g, t). none rest (subst (ByteFirst Tail rest) (once us g) t)
told_then R xs zs h once (Some rest) t = (zs, h, t)

-- where a test of a byte tells whether P holds of it, the bytes after one that it lets through follow a byte of P
pub tested : (P : ℕ → Type 0) {Without With : ℕ → Type 0} (xs : List ℕ) (o : Option (Bor (List ℕ))) → MatchOption o (IfFirst Without xs) (λ rest. ByteFirst With rest.now xs) → ((b : ℕ) → Without b → P b → ⊥) → ((b : ℕ) → With b → P b) → MatchOption o (Absent (ByteFirst P) xs) (λ rest. ByteFirst P rest.now xs)
tested P xs None h without with = λ rest (b, p, e). without b (h b rest e) p
tested P xs (Some rest) (b, h, e) without with = (b, with b h, e)

two_once : (a : ℕ) (r s xs : List ℕ) → TwoAfter a r xs → TwoAfter a s xs → s ≡ r
two_once a r s xs (b, h, e) (c, g, f) = tail-eq_of_cons-eq (sym f ∙ e)

-- a is the first byte of a character, and the rest of it stands at the front of ys
abbrev pub Led : ℕ → List ℕ → List ℕ → Type 0
Led a rest ys = One a ⊎ ((In 0xC2 0xDF a × TwoAfter a rest ys) ⊎ ((In 0xE0 0xEF a × ThreeAfter a rest ys) ⊎ (In 0xF0 0xF4 a × FourAfter a rest ys)))

led : (a : ℕ) (ys rest : List ℕ) {c : List ℕ} → Character c → a ∷ ys ≡ c ++ rest → Led a rest ys
led a ys rest (one h) e = inl (subst One (sym (head-eq_of_cons-eq e)) h)
led a ys rest (two {a = x} {b} h) e =
    let first : x ≡ a = sym (head-eq_of_cons-eq e) in
    inr (inl (subst (In 0xC2 0xDF) first h.0, (b, subst (λ (n : ℕ). Second n b) first h.1, tail-eq_of_cons-eq e)))
led a ys rest (three {a = x} {b} {c} h) e =
    let first : x ≡ a = sym (head-eq_of_cons-eq e) in
    inr (inr (inl (subst (In 0xE0 0xEF) first h.0, (c ∷ rest, (b, subst (λ (n : ℕ). Second n b) first h.1, tail-eq_of_cons-eq e), (c, h.2, refl)))))
led a ys rest (four {a = x} {b} {c} {d} h) e =
    let first : x ≡ a = sym (head-eq_of_cons-eq e) in
    inr (inr (inr (subst (In 0xF0 0xF4) first h.0, (d ∷ rest, (c ∷ d ∷ rest, (b, subst (λ (n : ℕ). Second n b) first h.1, tail-eq_of_cons-eq e), (c, h.2, refl)), (d, h.3, refl)))))

-- the bytes xs are a and then ys
module _ (a : ℕ) (ys xs : List ℕ) (e : xs ≡ a ∷ ys) where
  -- so they begin with a character only as a tells
  pub not_led : ((rest : List ℕ) → Led a rest ys → ⊥) → Absent CharacterFirst xs
  not_led none rest h = none rest (led a ys rest h.character (sym e ∙ h.bytes))

  pub one_first : One a → CharacterFirst ys xs
  one_first l = record { first = a ∷ []; character = one l; bytes = e }

  -- and with one of two or three bytes where these bytes follow a
  pub two_told : In 0xC2 0xDF a → (o : Option (Bor (List ℕ))) → MatchOption o (Absent (TwoAfter a) ys) (λ rest. TwoAfter a rest.now ys) → MatchOption o (Absent CharacterFirst xs) (λ rest. CharacterFirst rest.now xs)
  two_told l None none = not_led (λ rest. elim [ inl h ↦ omega arith | inr (inl h) ↦ none rest h.1 | inr (inr (inl h)) ↦ omega arith | inr (inr (inr h)) ↦ omega arith ])
  two_told l (Some rest) (b, s, f) = record { first = a ∷ b ∷ []; character = two (l, s); bytes = e ∙ ap (λ (t : List ℕ). a ∷ t) f }

  three_told : In 0xE0 0xEF a → (o : Option (Bor (List ℕ))) → MatchOption o (Absent (ThreeAfter a) ys) (λ rest. ThreeAfter a rest.now ys) → MatchOption o (Absent CharacterFirst xs) (λ rest. CharacterFirst rest.now xs)
  three_told l None none = not_led (λ rest. elim [ inl h ↦ omega arith | inr (inl h) ↦ omega arith | inr (inr (inl h)) ↦ none rest h.1 | inr (inr (inr h)) ↦ omega arith ])
  three_told l (Some rest) (zs, (b, s, f), (c, t, g)) =
      record { first = a ∷ b ∷ c ∷ []; character = three (l, s, t); bytes = e ∙ ap (λ (t : List ℕ). a ∷ t) (f ∙ ap (λ (t : List ℕ). b ∷ t) g) }

  -- where zs follow the second byte
  pub three_last : In 0xE0 0xEF a → (zs : List ℕ) → TwoAfter a zs ys → (o : Option (Bor (List ℕ))) → MatchOption o (Absent (ByteFirst Tail) zs) (λ rest. ByteFirst Tail rest.now zs) → MatchOption o (Absent CharacterFirst xs) (λ rest. CharacterFirst rest.now xs)
  three_last l zs h o t = three_told l o (told_then (TwoAfter a) ys zs h (λ us. two_once a zs us ys h) o t)

-- a, then one that may stand after it, then two tails are a character of four bytes, and what is left of ys follows
pub four_read : (a : ℕ) (ys xs : List ℕ) → xs ≡ a ∷ ys → In 0xF0 0xF4 a → 3 ≤ length ys → Second a (get_or ys 0 0) → Tail (get_or ys 1 0) → Tail (get_or ys 2 0) → CharacterFirst (take (length ys - 3) (drop 3 ys)) xs
four_read a [] xs e l n s t u = absurd (omega arith)
four_read a (b ∷ []) xs e l n s t u = absurd (omega arith)
four_read a (b ∷ c ∷ []) xs e l n s t u = absurd (omega arith)
four_read a (b ∷ c ∷ d ∷ zs) xs e l n s t u =
    record { first = a ∷ b ∷ c ∷ d ∷ []; character = four (l, s, t, u); bytes = e ∙ ap (λ (v : List ℕ). a ∷ b ∷ c ∷ d ∷ v) (sym (take_all (length (b ∷ c ∷ d ∷ zs) - 3) zs (omega arith))) }

-- no character has no bytes
some_bytes : {c : List ℕ} → Character c → 0 < length c
some_bytes (one h) = omega arith
some_bytes (two h) = omega arith
some_bytes (three h) = omega arith
some_bytes (four h) = omega arith

-- the first byte of a character tells how many bytes it has
abbrev size : ℕ → ℕ
size a = cond (ltb a 0x80) 1 (cond (ltb a 0xE0) 2 (cond (ltb a 0xF0) 3 4))

size_one : (a : ℕ) → a < 0x80 → size a ≡ 1
size_one a h = grind (arith, nat_tests)

size_two : (a : ℕ) → 0x80 ≤ a → a < 0xE0 → size a ≡ 2
size_two a l h = grind (arith, nat_tests)

size_three : (a : ℕ) → 0xE0 ≤ a → a < 0xF0 → size a ≡ 3
size_three a l h = grind (arith, nat_tests)

size_four : (a : ℕ) → 0xF0 ≤ a → size a ≡ 4
size_four a l = grind (arith, nat_tests)

sized : {c : List ℕ} → Character c → (s : List ℕ) → length c ≡ size (get_or (c ++ s) 0 0)
sized (one {a} h) s = sym (size_one a (omega arith))
sized (two {a} h) s = sym (size_two a (omega arith) (omega arith))
sized (three {a} h) s = sym (size_three a (omega arith) (omega arith))
sized (four {a} h) s = sym (size_four a (omega arith))

-- so one character only begins the bytes, and a text goes on with a text
once : {c d : List ℕ} (s r : List ℕ) → Character c → Character d → c ++ s ≡ d ++ r → s ≡ r
once {c} {d} s r h g e =
    let same : length c ≡ length d = sized h s ∙ ap (λ (t : List ℕ). size (get_or t 0 0)) e ∙ sym (sized g r) in
    sym (drop_at c s (length c) refl) ∙ ap (drop (length c)) e ∙ drop_at d r (length c) (sym same)

of_begun : {rest xs ys : List ℕ} → CharacterFirst rest xs → IsText ys → xs ≡ ys → IsText rest
of_begun h empty e = absurd (omega (arith, some_bytes h.character, ap length h.bytes, ap length e, length-append {A = ℕ}))
of_begun h (next {c} {s} g t) e = subst IsText (once _ _ g h.character (sym e ∙ h.bytes)) t

pub rest_of_text : {rest xs : List ℕ} → CharacterFirst rest xs → IsText xs → IsText rest
rest_of_text h t = of_begun h t refl

pub text_of_rest : {rest xs : List ℕ} → CharacterFirst rest xs → IsText rest → IsText xs
text_of_rest h t = subst IsText (sym h.bytes) (next h.character t)

-- bytes that begin with no character are a text only if there are none
pub no_text : {xs : List ℕ} → Absent CharacterFirst xs → IsText xs → length xs ≡ 0
no_text none empty = refl
no_text none (next {c} {s} h t) = absurd (none s (record { first = c; character = h; bytes = refl }))

pub empty_text : (xs : List ℕ) → length xs ≡ 0 → IsText xs
empty_text [] e = empty
empty_text (x ∷ xs) e = absurd (omega arith)

-- what a character at the front tells of a text
pub ruleset front_rules = (rest_of_text, text_of_rest, no_text, empty_text)
