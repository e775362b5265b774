-- The law of the state stands, over any packets of which none is empty and at most one stands at the front of a list.
-- Assumes nothing.
use Rattle.std.proofs.Common.{◌≡◌, ℕ, zero, suc, ◌+◌, ◌-◌, ◌≤◌, List, [], ◌∷◌, ◌++◌, length, sym, refl, ap, ◌∙◌, subst, not-suc-le-zero, arith, length-append}
use native.Mathlib.Decide.{dec_le}
use Rattle.receiver.specs.Wire.{Event, took, bytes, laid}
use Rattle.receiver.specs.Rules.{Said, State, held}
use Rattle.receiver.specs.Runs.{Part, noisy, framed, parts, size, Crosses, Told, Run}
use Rattle.receiver.specs.Law.{Law}
use Rattle.receiver.proofs.PrefixCode.{PrefixCode}
use Rattle.receiver.proofs.Decided.{Never, Decided, left, skip, stray, frame, told}
use Rattle.receiver.proofs.Settled.{pending, settled, bytes_pending, bytes_append}
use Rattle.receiver.proofs.Points.{sizes, split}
use Rattle.receiver.proofs.Same.{same}
use Rattle.receiver.proofs.Limits.{took_left, few_held, call_few}

-- where no packet crosses a point, the parts divide there
divide : (ps : List Part) (k : ℕ) → k ≤ size ps → ¬ Crosses ps k → (qs : List Part) × (rs : List Part) × (ps ≡ qs ++ rs) × (size qs ≡ k)
divide ps zero l n = ([], ps, refl, refl)
divide [] (suc k) l n = absurd (not-suc-le-zero l)
divide (noisy ∷ ps) (suc k) l n =
    let r = divide ps k (omega arith) (λ c. n (noisy ∷ c.0, c.1, c.2, (cc), omega (arith, c.4), omega (arith, c.5))) in
    (noisy ∷ r.0, r.1, (cc), ap suc r.3)
divide (framed p ∷ ps) (suc k) l n =
    elim (dec_le (length p) (suc k)) [
      | no a ↦ absurd (n ([], p, ps, refl, omega arith, omega arith))
      | yes a ↦
          (let r = divide ps (suc k - length p) (omega arith) (λ c. n (framed p ∷ c.0, c.1, c.2, (cc), omega (arith, c.4), omega (arith, c.5))) in
          (framed p ∷ r.0, r.1, (cc), omega (arith, r.3)))
    ]

module _ (Packet : List ℕ → Type 0) (code : PrefixCode Packet) where
  conserved : (r : State) (log : List Event) (said : List Said) → Run Packet r log said → Told Packet (parts said) (held r) log
  conserved r log said u =
      let s = settled Packet code u in
      subst (λ h. Told Packet (parts said) h log) (bytes_pending r s.0) (told s.1)

  never : {es es' : List Event} {ps qs : List Part} (b : ℕ) (es₁ : List Event) → Decided Packet es ps es' → es ≡ took b ∷ es₁ → ps ≡ noisy ∷ qs
      → Never Packet (took b ∷ es₁)
  never b es₁ left e f = absurd (cc)
  never b es₁ (skip d) e f = absurd (cc)
  never b es₁ (stray c n d) e f = subst (λ l. Never Packet l) e n
  never b es₁ (frame p k g d) e f = absurd (cc)

  no_packet_lost : (r : State) (pre post : List Event) (b : ℕ) (said : List Said) (before after : List Part)
      → Run Packet r (pre ++ took b ∷ post) said → parts said ≡ before ++ noisy ∷ after → size before ≡ length (bytes pre)
      → Never Packet (took b ∷ post)
  no_packet_lost r pre post b said before after u f z =
      let s = split Packet code (settled Packet code u).1 pre (took b ∷ post) refl before (noisy ∷ after) f z in
      never b post s.1 refl refl

  -- what a run that holds nothing has settled from a point on that no packet crosses
  record From (pre post : List Event) (ps : List Part) : Type 0 where
    before : List Part
    after : List Part
    divided : ps ≡ before ++ after
    there : size before ≡ length (bytes pre)
    rest : List Event
    from : Decided Packet post after rest
    empty : bytes rest ≡ []

  point : (r : State) (pre post : List Event) (said : List Said) → Run Packet r (pre ++ post) said → ¬ Crosses (parts said) (length (bytes pre)) → held r ≡ []
      → From pre post (parts said)
  point r pre post said u n h =
      let s = settled Packet code u in
      let none : bytes (pending r s.0) ≡ [] = bytes_pending r s.0 ∙ h in
      let all : size (parts said) + 0 ≡ length (bytes pre) + length (bytes post)
      = ap (λ (l : List ℕ). size (parts said) + length l) (sym none) ∙ sizes Packet code s.1 ∙ ap length (bytes_append pre post) ∙ length-append (bytes pre) (bytes post) in
      let c = divide (parts said) (length (bytes pre)) (omega arith) n in
      let t = split Packet code s.1 pre post refl c.0 c.1 c.2 c.3 in
      record { before = c.0; after = c.1; divided = c.2; there = c.3; rest = t.0; from = t.1; empty = t.2 ∙ none }

  resynchronised : (r r' : State) (pre post pre' post' : List Event) (said said' : List Said)
      → Run Packet r (pre ++ post) said → Run Packet r' (pre' ++ post') said'
      → laid post ≡ laid post'
      → ¬ Crosses (parts said) (length (bytes pre)) → ¬ Crosses (parts said') (length (bytes pre'))
      → held r ≡ [] → held r' ≡ []
      → (before before' after : List Part)
      × (parts said ≡ before ++ after) × (size before ≡ length (bytes pre))
      × (parts said' ≡ before' ++ after) × (size before' ≡ length (bytes pre'))
  resynchronised r r' pre post pre' post' said said' u v e n m h g =
      let x = point r pre post said u n h in
      let y = point r' pre' post' said' v m g in
      let o : x.after ≡ y.after = same Packet code x.from x.empty y.from y.empty e in
      (x.before, y.before, x.after, x.divided, x.there, y.divided ∙ ap (λ (l : List Part). y.before ++ l) (sym o), y.there)

pub stands : (Packet : List ℕ → Type 0) → PrefixCode Packet → Law Packet
stands Packet code = record {
  left_the_line = λ s s' line buffer line' buffer' a c. took_left c.1.by_rules;
  conserved = conserved Packet code;
  no_packet_lost = no_packet_lost Packet code;
  resynchronised = resynchronised Packet code;
  few_held = λ s log said u. few_held Packet code u;
  few_taken = λ s s' log said line buffer line' buffer' a u c. call_few Packet code c.1.by_rules;
}
