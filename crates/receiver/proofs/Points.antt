-- A settled log, cut at a point that no packet crosses.
-- Assumes nothing.
use Rattle.std.proofs.Common.{◌≡◌, ℕ, suc, ◌+◌, ◌≤◌, List, [], ◌∷◌, ◌++◌, length, sym, refl, ap, ◌∙◌, subst, subst₂, le_of_suc-le-suc, not-suc-le-zero, arith, length-append}
use Rattle.std.proofs.lemmas.List.{nil_from_length}
use mathlib.Core.List.{head-eq_of_cons-eq, tail-eq_of_cons-eq}
use Rattle.receiver.specs.Wire.{Event, took, silence, tooks, bytes}
use Rattle.receiver.specs.Runs.{Part, noisy, framed, size}
use Rattle.receiver.proofs.PrefixCode.{PrefixCode}
use Rattle.receiver.proofs.Decided.{Decided, left, skip, stray, frame}
use Rattle.receiver.proofs.Settled.{bytes_append, bytes_tooks}

-- a log that begins with p and with a front of no fewer bytes: that front begins with p
cut : (p : List ℕ) (es pre post : List Event) → tooks p ++ es ≡ pre ++ post → length p ≤ length (bytes pre)
    → (pre₁ : List Event) × (pre ≡ tooks p ++ pre₁) × (es ≡ pre₁ ++ post)
cut [] es pre post e l = (pre, refl, e)
cut (b ∷ p) es [] post e l = absurd (not-suc-le-zero l)
cut (b ∷ p) es (silence ∷ pre) post e l = absurd (cc)
cut (b ∷ p) es (took c ∷ pre) post e l =
    let r = cut p es pre post (tail-eq_of_cons-eq e) (le_of_suc-le-suc l) in
    (r.0, ap {B = List Event} (λ l. took c ∷ l) r.1 ∙ ap {B = List Event} (λ x. x ∷ (tooks p ++ r.0)) (sym (head-eq_of_cons-eq e)), r.2)

length_front : (p : List ℕ) (es : List Event) → length (bytes (tooks p ++ es)) ≡ length p + length (bytes es)
length_front p es = ap length (bytes_append (tooks p) es) ∙ length-append (bytes (tooks p)) (bytes es) ∙ ap (λ (l : List ℕ). length l + length (bytes es)) (bytes_tooks p)

module _ (Packet : List ℕ → Type 0) (code : PrefixCode Packet) where
  pub sizes : {es es' : List Event} {ps : List Part} → Decided Packet es ps es' → size ps + length (bytes es') ≡ length (bytes es)
  sizes left = omega arith
  sizes (skip d) = sizes d
  sizes (stray b n d) = let h = sizes d in omega arith
  sizes (frame {es₁ = es₁} p k e d) = let h = sizes d in let g = ap (λ (l : List Event). length (bytes l)) e ∙ length_front p es₁ in omega arith

  is_packet : {es es' : List Event} {ps qs : List Part} (p : List ℕ) → Decided Packet es ps es' → ps ≡ framed p ∷ qs → Packet p
  is_packet p left f = absurd (cc)
  is_packet p (skip d) f = is_packet p d f
  is_packet p (stray b n d) f = absurd (cc)
  is_packet p (frame q k e d) f = let same : q ≡ p = cc in subst Packet same k

  none_before : {es es' : List Event} {ps : List Part} (qs rs : List Part) → Decided Packet es ps es' → ps ≡ qs ++ rs → size qs ≡ 0 → ps ≡ rs
  none_before [] rs d f z = f
  none_before (noisy ∷ qs) rs d f z = absurd (omega arith)
  none_before (framed p ∷ qs) rs d f z = let l = code.filled p (is_packet p d f) in absurd (omega arith)

  starts : (p : List ℕ) (es post : List Event) → Packet p → tooks p ++ es ≡ silence ∷ post → ⊥
  starts [] es post k e = not-suc-le-zero (code.filled [] k)
  starts (b ∷ p) es post k e = cc

  -- what is settled after a point
  abbrev After : List Event → List Part → List Event → Type 0
  After post rs es' = (es'' : List Event) × Decided Packet post rs es'' × (bytes es'' ≡ bytes es')

  at_start : {es es' : List Event} {ps : List Part} (post : List Event) (qs rs : List Part)
      → Decided Packet es ps es' → es ≡ post → ps ≡ qs ++ rs → size qs ≡ 0 → After post rs es'
  at_start {es' = es'} post qs rs d e f z = (es', subst₂ (λ x y. Decided Packet x y es') e (none_before qs rs d f z) d, refl)

  pub split : {es es' : List Event} {ps : List Part} → Decided Packet es ps es'
      → (pre post : List Event) → es ≡ pre ++ post → (qs rs : List Part) → ps ≡ qs ++ rs → size qs ≡ length (bytes pre) → After post rs es'
  split left pre post e (q ∷ qs) rs f z = absurd (cc)
  split left pre post e [] rs f z =
      (post, subst (λ y. Decided Packet post y post) f left, ap {B = List ℕ} (λ l. l ++ bytes post) (sym (nil_from_length (bytes pre) (sym z))) ∙ sym (bytes_append pre post) ∙ ap bytes (sym e))
  split (skip d) [] post e qs rs f z = at_start post qs rs (skip d) e f z
  split (skip d) (took c ∷ pre) post e qs rs f z = absurd (cc)
  split (skip d) (silence ∷ pre) post e qs rs f z = split d pre post (tail-eq_of_cons-eq e) qs rs f z
  split (stray b n d) [] post e qs rs f z = at_start post qs rs (stray b n d) e f z
  split (stray b n d) (silence ∷ pre) post e qs rs f z = absurd (cc)
  split (stray b n d) (took c ∷ pre) post e [] rs f z = absurd (omega arith)
  split (stray b n d) (took c ∷ pre) post e (framed p ∷ qs) rs f z = absurd (cc)
  split (stray b n d) (took c ∷ pre) post e (noisy ∷ qs) rs f z = split d pre post (tail-eq_of_cons-eq e) qs rs (tail-eq_of_cons-eq f) (omega arith)
  split (frame p k g d) [] post e qs rs f z = at_start post qs rs (frame p k g d) e f z
  split (frame {es₁ = es₁} p k g d) (silence ∷ pre) post e qs rs f z = absurd (starts p es₁ (pre ++ post) k (sym g ∙ e))
  split (frame p k g d) (took c ∷ pre) post e [] rs f z = absurd (omega arith)
  split (frame p k g d) (took c ∷ pre) post e (noisy ∷ qs) rs f z = absurd (cc)
  split (frame {es₁ = es₁} p k g d) (took c ∷ pre) post e (framed q ∷ qs) rs f z =
      let same : length p ≡ length q = cc in
      let r = cut p es₁ (took c ∷ pre) post (sym g ∙ e) (omega arith) in
      let s : suc (length (bytes pre)) ≡ length p + length (bytes r.0) = ap (λ (l : List Event). length (bytes l)) r.1 ∙ length_front p r.0 in
      split d r.0 post r.2 qs rs (tail-eq_of_cons-eq f) (omega arith)
