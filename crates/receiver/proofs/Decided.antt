-- A log, read from its front, by the parts that stand for it: what is settled for good, and what is left.
-- Assumes nothing.
use Rattle.std.proofs.Common.{◌≡◌, ℕ, List, [], ◌∷◌, ◌++◌, sym, ap, ◌∙◌, subst, append_assoc}
use Rattle.receiver.specs.Wire.{Event, took, silence, tooks, bytes, Begins}
use Rattle.receiver.specs.Runs.{Part, noisy, framed, Told, then_held, after_gap, then_noise, then_packet}

abbrev pub Never : (List ℕ → Type 0) → List Event → Type 0
Never Packet es = (later : List Event) → ¬ Begins Packet (es ++ later)

pub data Decided (Packet : List ℕ → Type 0) : List Event → List Part → List Event → Type 0 where
  left : {es : List Event} → Decided Packet es [] es
  skip : {es es' : List Event} {ps : List Part} → Decided Packet es ps es' → Decided Packet (silence ∷ es) ps es'
  stray : {es es' : List Event} {ps : List Part} (b : ℕ) → Never Packet (took b ∷ es) → Decided Packet es ps es'
      → Decided Packet (took b ∷ es) (noisy ∷ ps) es'
  frame : {es es₁ es' : List Event} {ps : List Part} (p : List ℕ) → Packet p → es ≡ tooks p ++ es₁ → Decided Packet es₁ ps es'
      → Decided Packet es (framed p ∷ ps) es'

module _ {Packet : List ℕ → Type 0} where
  pub never_more : (es x : List Event) → Never Packet es → Never Packet (es ++ x)
  never_more es x n later h = n (x ++ later) (subst (λ (l : List Event). Begins Packet l) (append_assoc es x later) h)

  pub extend : {es es' : List Event} {ps : List Part} (x : List Event) → Decided Packet es ps es' → Decided Packet (es ++ x) ps (es' ++ x)
  extend x left = left
  extend x (skip d) = skip (extend x d)
  extend x (stray {es = es} b n d) = stray b (never_more (took b ∷ es) x n) (extend x d)
  extend x (frame {es₁ = es₁} p k e d) = frame p k (ap (λ (l : List Event). l ++ x) e ∙ append_assoc (tooks p) es₁ x) (extend x d)

  pub join : {es es₁ es₂ : List Event} {ps qs : List Part} → Decided Packet es ps es₁ → Decided Packet es₁ qs es₂ → Decided Packet es (ps ++ qs) es₂
  join left f = f
  join (skip d) f = skip (join d f)
  join (stray b n d) f = stray b n (join d f)
  join (frame p k e d) f = frame p k e (join d f)

  pub told : {es es' : List Event} {ps : List Part} → Decided Packet es ps es' → Told Packet ps (bytes es') es
  told left = then_held
  told (skip d) = after_gap (told d)
  told (stray b n d) = then_noise b (told d)
  told (frame {es' = es'} {ps = ps} p k e d) = subst (λ (l : List Event). Told Packet (framed p ∷ ps) (bytes es') l) (sym e) (then_packet p k (told d))
