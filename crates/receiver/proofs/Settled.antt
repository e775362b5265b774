-- Each rule settles what it says, and so does every list of calls.
-- Assumes nothing.
use Rattle.std.proofs.Common.{◌≡◌, ℕ, zero, suc, ◌+◌, true, false, List, [], ◌∷◌, ◌++◌, replicate, sym, refl, ap, ◌∙◌, subst, append_assoc, append-nil, add-one}
use Rattle.std.proofs.lemmas.List.{replicate_more}
use Rattle.receiver.specs.Wire.{Event, took, silence, tooks, bytes, stretch, Whole, Possible}
use Rattle.receiver.specs.Rules.{Said, noise, State, state, Open, Closed, held, holding, Rules, rule_1, rule_2_noise, rule_2_packet, rule_3_noise, rule_3_opens, rule_4_closed, rule_4_open, rule_5_takes, rule_5_noise, rule_5_waits}
use Rattle.receiver.specs.Runs.{Part, noisy, framed, part, parts, Run, made, gap, next, refused}
use Rattle.receiver.proofs.PrefixCode.{PrefixCode, possible_from}
use Rattle.receiver.proofs.Decided.{Never, never_more, Decided, left, skip, stray, frame, extend, join}

-- the end of the log that is not settled yet: the held bytes and, where the state is closed, the gaps after them
abbrev pub pending : State → ℕ → List Event
pending (state true h) k = tooks h
pending (state false h) k = tooks h ++ silence ∷ replicate k silence

pub tooks_append : (xs ys : List ℕ) → tooks (xs ++ ys) ≡ tooks xs ++ tooks ys
tooks_append [] ys = refl
tooks_append (x ∷ xs) ys = ap {B = List Event} (λ l. took x ∷ l) (tooks_append xs ys)

pub bytes_append : (xs ys : List Event) → bytes (xs ++ ys) ≡ bytes xs ++ bytes ys
bytes_append [] ys = refl
bytes_append (took b ∷ xs) ys = ap {B = List ℕ} (λ l. b ∷ l) (bytes_append xs ys)
bytes_append (silence ∷ xs) ys = bytes_append xs ys

pub bytes_tooks : (xs : List ℕ) → bytes (tooks xs) ≡ xs
bytes_tooks [] = refl
bytes_tooks (x ∷ xs) = ap {B = List ℕ} (λ l. x ∷ l) (bytes_tooks xs)

bytes_quiet : (k : ℕ) → bytes (replicate k silence) ≡ []
bytes_quiet zero = refl
bytes_quiet (suc k) = bytes_quiet k

pub bytes_pending : (r : State) (k : ℕ) → bytes (pending r k) ≡ held r
bytes_pending (state true h) k = bytes_tooks h
bytes_pending (state false h) k =
    bytes_append (tooks h) (silence ∷ replicate k silence) ∙ ap (λ (l : List ℕ). bytes (tooks h) ++ l) (bytes_quiet k) ∙ append-nil (bytes (tooks h))
    ∙ bytes_tooks h

pub stretch_tooks : (xs : List ℕ) (es : List Event) → stretch (tooks xs ++ es) ≡ xs ++ stretch es
stretch_tooks [] es = refl
stretch_tooks (x ∷ xs) es = ap {B = List ℕ} (λ l. x ∷ l) (stretch_tooks xs es)

front : (r : State) (k : ℕ) (p rest : List ℕ) → held r ≡ p ++ rest → pending r k ≡ tooks p ++ pending (holding r rest) k
front (state true h) k p rest e = ap tooks e ∙ tooks_append p rest
front (state false h) k p rest e =
    ap (λ (l : List ℕ). tooks l ++ silence ∷ replicate k silence) e ∙ ap (λ (l : List Event). l ++ silence ∷ replicate k silence) (tooks_append p rest)
    ∙ append_assoc (tooks p) (tooks rest) (silence ∷ replicate k silence)

one_more : (n : ℕ) (a : Said) (ps : List Part) → part a ≡ replicate (suc n) noisy ++ ps → part a ≡ replicate n noisy ++ noisy ∷ ps
one_more n a ps e =
    let f = replicate_more n noisy in
    let g = append_assoc (replicate n noisy) (noisy ∷ []) ps in
    let h : n + 1 ≡ suc n = add-one n in
    cc

module _ (Packet : List ℕ → Type 0) (code : PrefixCode Packet) where
  quiet : (k : ℕ) {es es' : List Event} {ps : List Part} → Decided Packet es ps es' → Decided Packet (replicate k silence ++ es) ps es'
  quiet zero d = d
  quiet (suc k) d = skip (quiet k d)

  never_closed : (h : List ℕ) (es : List Event) → ¬ Whole Packet h → Never Packet (tooks h ++ silence ∷ es)
  never_closed h es n later w = n (subst (Whole Packet) (ap stretch (append_assoc (tooks h) (silence ∷ es) later) ∙ stretch_tooks h (silence ∷ (es ++ later)) ∙ append-nil h) w)

  never_open : (h : List ℕ) (es : List Event) → ¬ Whole Packet h → ¬ Possible Packet h → Never Packet (tooks h ++ es)
  never_open h es n m later w = m (possible_from Packet code h (stretch (es ++ later)) n (subst (Whole Packet) (ap stretch (append_assoc (tooks h) es later) ∙ stretch_tooks h (es ++ later)) w))

  -- what a derivation by the rules settles, from a count n on
  abbrev Settles : ℕ → State → ℕ → List ℕ → Said → State → Type 0
  Settles n r k taken a r' =
      (k' : ℕ) × (ps : List Part) × Decided Packet (pending r k ++ tooks taken) ps (pending r' k') × (part a ≡ replicate n noisy ++ ps)

  nothing : (n : ℕ) (r : State) (k : ℕ) → Settles n r k [] (noise n) r
  nothing n r k = (k, [], subst (λ l. Decided Packet l [] (pending r k)) (sym (append-nil (pending r k))) left, sym (append-nil (replicate n noisy)))

  pub settle : {n : ℕ} {r : State} {line taken : List ℕ} {a : Said} {r' : State} {line' : List ℕ}
      → Rules Packet n r line taken a r' line' → (k : ℕ) → Settles n r k taken a r'
  settle (rule_1 {n = n} {s = s} e) k = nothing n s k
  settle (rule_2_noise {n = n} {s = s} l o w) k = nothing n s k
  settle (rule_2_packet {s = s} p rest q e) k =
      (k, framed p ∷ [], frame p q (append-nil (pending s k) ∙ front s k p rest e) left, refl)
  settle (rule_3_noise {n = n} l o) k = (0, [], skip (quiet k left), sym (append-nil (replicate n noisy)))
  settle (rule_3_opens {taken = taken} d) k =
      let s = settle d k in
      (s.0, s.1, skip (quiet k s.2), s.3)
  settle (rule_4_closed {n = n} {b = b} {h = h} {taken = taken} {a = a} l w d) k =
      let s = settle d k in
      (s.0, noisy ∷ s.1, stray b (never_more (tooks (b ∷ h) ++ silence ∷ replicate k silence) (tooks taken) (never_closed (b ∷ h) (replicate k silence) w)) s.2, one_more n a s.1 s.3)
  settle (rule_4_open {n = n} {b = b} {h = h} {taken = taken} {a = a} l w m d) k =
      let s = settle d k in
      (s.0, noisy ∷ s.1, stray b (never_open (b ∷ h) (tooks taken) w m) s.2, one_more n a s.1 s.3)
  settle (rule_5_takes {b = b} {h = h} {taken = taken} {s' = s'} l m d) k =
      let s = settle d k in
      (s.0, s.1, subst (λ l. Decided Packet l s.1 (pending s' s.0)) (ap (λ (l : List Event). l ++ tooks taken) (tooks_append h (b ∷ [])) ∙ append_assoc (tooks h) (took b ∷ []) (tooks taken)) s.2, s.3)
  settle (rule_5_noise {n = n} {h = h} l o m) k = nothing n (Open h) k
  settle (rule_5_waits {h = h} m) k = (k, [], subst (λ l. Decided Packet l [] (pending (state true h) k)) (sym (append-nil (pending (state true h) k))) left, refl)

  parts_append : (said more : List Said) → parts (said ++ more) ≡ parts said ++ parts more
  parts_append [] more = refl
  parts_append (x ∷ said) more = ap (λ (l : List Part). part x ++ l) (parts_append said more) ∙ sym (append_assoc (part x) (parts said) (parts more))

  -- what a list of calls settles
  abbrev pub Settled : State → List Event → List Said → Type 0
  Settled s log said = (k : ℕ) × Decided Packet log (parts said) (pending s k)

  shut : (s : State) (log : List Event) (said : List Said) → Settled s log said → Settled (Closed (held s)) (log ++ silence ∷ []) said
  shut (state true h) log said (k, d) = (0, extend (silence ∷ []) d)
  shut (state false h) log said (k, d) =
      (suc k, subst (λ l. Decided Packet (log ++ silence ∷ []) (parts said) l) (append_assoc (tooks h) (silence ∷ replicate k silence) (silence ∷ []) ∙ ap (λ (l : List Event). tooks h ++ silence ∷ l) (rw add-one at (replicate_more k silence))) (extend (silence ∷ []) d))

  call : {s s' : State} {line taken line' : List ℕ} {a : Said} (log : List Event) (said : List Said)
      → Rules Packet 0 s line taken a s' line' → Settled s log said → Settled s' (log ++ tooks taken) (said ++ a ∷ [])
  call {s' = s'} {taken = taken} {a = a} log said c (k, d) =
      let s = settle c k in (
        s.0,
        subst (λ ps. Decided Packet (log ++ tooks taken) ps (pending s' s.0))
            (ap (λ (ps : List Part). parts said ++ ps) (sym (append-nil (part a) ∙ s.3)) ∙ sym (parts_append said (a ∷ [])))
            (join (extend (tooks taken) d) s.2),
      )

  pub settled : {s : State} {log : List Event} {said : List Said} → Run Packet s log said → Settled s log said
  settled made = (0, left)
  settled (gap {s = s} {log = log} {said = said} u) = shut s log said (settled u)
  settled (next {log = log} {said = said} u c) = call log said c.1.by_rules (settled u)
  settled (refused {log = log} {said = said} u c) = subst (λ s. Settled s log said) (sym c.2) (settled u)
