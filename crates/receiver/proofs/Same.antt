-- Two settled logs with the same bytes, and gaps between the same bytes, are settled alike.
-- Assumes nothing.
use Rattle.std.proofs.Common.{◌≡◌, ℕ, Bool, false, List, [], ◌∷◌, ◌++◌, sym, refl, ap, ◌∙◌, append-nil, not-suc-le-zero}
use mathlib.Core.List.{nil≢cons, head-eq_of_cons-eq, tail-eq_of_cons-eq, append_cancel_left}
use Rattle.receiver.specs.Wire.{Event, took, silence, tooks, bytes, stretch, byte_later, laid}
use Rattle.receiver.specs.Runs.{Part, noisy, framed}
use Rattle.receiver.proofs.PrefixCode.{PrefixCode}
use Rattle.receiver.proofs.Decided.{Never, Decided, left, skip, stray, frame}
use Rattle.receiver.proofs.Settled.{stretch_tooks}

laid_none : (es : List Event) → bytes es ≡ [] → laid es ≡ []
laid_none [] e = refl
laid_none (took b ∷ es) e = absurd (cc)
laid_none (silence ∷ es) e = laid_none es e

silent : (es : List Event) → byte_later es ≡ false → laid es ≡ []
silent [] e = refl
silent (took b ∷ es) e = absurd (cc)
silent (silence ∷ es) e = silent es e

-- where the bytes of c ∷ p stand with no gap inside in one of two logs laid alike, they do in the other
align : (c : ℕ) (p : List ℕ) (b : ℕ) (es fs : List Event) → laid (took b ∷ es) ≡ laid (took c ∷ (tooks p ++ fs))
    → (es₁ : List Event) × (took b ∷ es ≡ took c ∷ (tooks p ++ es₁)) × (laid es₁ ≡ laid fs)
align c [] b es fs e = (es, ap {B = List Event} (λ x. took x.0 ∷ es) (head-eq_of_cons-eq e), tail-eq_of_cons-eq e)
align c (d ∷ p) b [] fs e = absurd (cc)
align c (d ∷ p) b (silence ∷ es) fs e = absurd (nil≢cons (sym (silent es (ap (λ x. x.1) (head-eq_of_cons-eq e))) ∙ tail-eq_of_cons-eq e))
align c (d ∷ p) b (took a ∷ es) fs e =
    let r = align d p a es fs (tail-eq_of_cons-eq e) in
    (r.0, ap {B = List Event} (λ x. took x.0 ∷ took a ∷ es) (head-eq_of_cons-eq e) ∙ ap {B = List Event} (λ l. took c ∷ l) r.1, r.2)

module _ (Packet : List ℕ → Type 0) (code : PrefixCode Packet) where
  begins : (p : List ℕ) (es es₁ : List Event) → Packet p → es ≡ tooks p ++ es₁ → Never Packet es → ⊥
  begins p es es₁ k e n = n [] (p, stretch es₁, k, ap stretch (append-nil es ∙ e) ∙ stretch_tooks p es₁)

  one : (p q : List ℕ) (es fs : List Event) → Packet p → Packet q → tooks p ++ es ≡ tooks q ++ fs → (p ≡ q) × (es ≡ fs)
  one p q es fs k k₁ e =
      let o : p ≡ q = code.one_front p q (stretch es) (stretch fs) k k₁ (sym (stretch_tooks p es) ∙ ap stretch e ∙ stretch_tooks q fs) in
      (o, append_cancel_left (tooks p) es fs (e ∙ ap (λ (x : List ℕ). tooks x ++ fs) (sym o)))

  data View (l : List (ℕ × Bool)) (ps : List Part) (es' : List Event) : Type 0 where
    nothing : ps ≡ [] → l ≡ [] → View l ps es'
    a_stray : (b : ℕ) (es : List Event) (qs : List Part) → Never Packet (took b ∷ es) → laid (took b ∷ es) ≡ l → ps ≡ noisy ∷ qs
        → Decided Packet es qs es' → View l ps es'
    a_frame : (b : ℕ) (p : List ℕ) (es : List Event) (qs : List Part) → Packet (b ∷ p) → laid (took b ∷ (tooks p ++ es)) ≡ l → ps ≡ framed (b ∷ p) ∷ qs
        → Decided Packet es qs es' → View l ps es'

  view : {es es' : List Event} {ps : List Part} → Decided Packet es ps es' → bytes es' ≡ [] → View (laid es) ps es'
  view (left {es = es}) h = nothing refl (laid_none es h)
  view (skip d) h = view d h
  view (stray {es = es} {ps = ps} b n d) h = a_stray b es ps n refl refl d
  view (frame [] k e d) h = absurd (not-suc-le-zero (code.filled [] k))
  view (frame {es₁ = es₁} {ps = ps} (b ∷ p) k e d) h = a_frame b p es₁ ps k (ap laid (sym e)) refl d

  pub same : {es es' fs fs' : List Event} {ps qs : List Part} → Decided Packet es ps es' → bytes es' ≡ [] → Decided Packet fs qs fs' → bytes fs' ≡ []
      → laid es ≡ laid fs → ps ≡ qs
  same (left {es = es}) h f g e =
      elim (view f g) [
        | nothing o l ↦ sym o
        | a_stray b fs₁ rs n l o f₁ ↦ (let gone = laid_none es h in absurd (cc))
        | a_frame b p fs₁ rs k l o f₁ ↦ (let gone = laid_none es h in absurd (cc))
      ]
  same (skip d) h f g e = same d h f g e
  same (stray {es = es} b n d) h f g e =
      elim (view f g) [
        | nothing o l ↦ absurd (cc)
        | a_stray c fs₁ rs m l o f₁ ↦ ap {B = List Part} (λ r. noisy ∷ r) (same d h f₁ g (tail-eq_of_cons-eq (e ∙ sym l))) ∙ sym o
        | a_frame c p fs₁ rs k l o f₁ ↦ (let r = align c p b es fs₁ (e ∙ sym l) in absurd (begins (c ∷ p) (took b ∷ es) r.0 k r.1 n))
      ]
  same (frame [] k o d) h f g e = absurd (not-suc-le-zero (code.filled [] k))
  same (frame {es₁ = es₁} {ps = ps} (b ∷ p) k e₁ d) h f g e =
      elim (view f g) [
        | nothing o l ↦ (let there = ap laid e₁ in absurd (cc))
        | a_stray c fs₁ rs m l o f₁ ↦ (let r = align b p c fs₁ es₁ (l ∙ sym e ∙ ap laid e₁) in absurd (begins (b ∷ p) (took c ∷ fs₁) r.0 k r.1 m))
        | a_frame c q fs₁ rs k₁ l o f₁ ↦ (let r = align c q b (tooks p ++ es₁) fs₁ (ap laid (sym e₁) ∙ e ∙ sym l) in
            let s = one (b ∷ p) (c ∷ q) es₁ r.0 k k₁ r.1 in
            ap {B = List Part} (λ x. framed x ∷ ps) s.0 ∙ ap {B = List Part} (λ x. framed (c ∷ q) ∷ x) (same d h f₁ g (ap laid s.1 ∙ r.2)) ∙ sym o)
      ]
