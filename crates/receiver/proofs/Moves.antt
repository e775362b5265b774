-- One rule at a time, from what the code knows.
-- Assumes nothing.
use Rattle.std.proofs.Common.{◌≡◌, ℕ, ◌+◌, ◌<◌, ◌⊎◌, inl, inr, Bool, true, false, List, [], ◌∷◌, ◌++◌, length, take, drop, Some, None, sym, refl, ap, ◌∙◌, subst, append_assoc, add-one, arith}
use Rattle.std.proofs.lemmas.List.{take_at, drop_at, length_push, nil_from_length}
use Rattle.std.specs.declared.ops.ControlFlow.{ControlFlow}
use Rattle.std.specs.declared.ops.ControlFlow.TheVariants.{Break, Continue}
use Rattle.lines.specs.Taking.{Taken}
use Rattle.receiver.specs.declared.answer.Answer.{Answer}
use Rattle.receiver.specs.declared.answer.Answer.TheVariants.{Packet as Found, Noise, Waiting}
use Rattle.receiver.specs.declared.judge.Verdict.{Verdict}
use Rattle.receiver.specs.declared.judge.Verdict.TheVariants as verdict
use Rattle.receiver.specs.Wire.{Whole, Possible}
use Rattle.receiver.specs.Rules.{State, state, Open, noise, packet, waiting, rule_1, rule_2_noise, rule_2_packet, rule_3_noise, rule_3_opens, rule_4_closed, rule_4_open, rule_5_takes, rule_5_noise, rule_5_waits}
use Rattle.receiver.specs.Calls.{Answered, written}
use Rattle.receiver.specs.Judging.{Judged}
use Rattle.receiver.specs.Steps.{Leads, Stepped}

module _ {Packet : List ℕ → Type 0} where
  -- Turns of the rules, one after the other.
  pub onto : {n n' n'' : ℕ} {s s' s'' : State} {line line' line'' : List ℕ}
      → Leads Packet n s line n' s' line' → Leads Packet n' s' line' n'' s'' line'' → Leads Packet n s line n'' s'' line''
  onto f g = record {
    between = f.between ++ g.between;
    onward = λ taken a s''' line''' d.
        rw append_assoc (f.onward (g.between ++ taken) a s''' line''' (g.onward taken a s''' line''' d));
  }

  pub answered : {n n' : ℕ} {s s' s'' : State} {line line' line'' buffer buffer' buffer'' : List ℕ} {a : Answer}
      → Leads Packet n s line n' s' line' → buffer' ≡ buffer → Answered Packet n' s' line' buffer' a s'' line'' buffer''
      → Answered Packet n s line buffer a s'' line'' buffer''
  answered {s'' = s''} {line'' = line''} f e x = record {
    taken = f.between ++ x.taken;
    said = x.said;
    by_rules = f.onward x.taken x.said s'' line'' x.by_rules;
    answers = x.answers;
    writes = x.writes ∙ ap (written x.said) e;
  }

-- a verdict on a list is one on an equal list
judged_at : (Packet : List ℕ → Type 0) (d : Verdict) {x h : List ℕ} → x ≡ h → Judged Packet x d → Judged Packet h d
judged_at Packet d e j = subst (λ (y : List ℕ). Judged Packet y d) e j

module _ (Packet : List ℕ → Type 0) (n : ℕ) where
  pub full_at : (s : State) (line buffer : List ℕ) → n ≡ 1024 → Answered Packet n s line buffer (Noise n) s line buffer
  full_at s line buffer e = record { taken = []; said = noise n; by_rules = rule_1 e; answers = refl; writes = refl }

  -- what an early answer of noise is
  pub noise_at : {s s' : State} {line line' buffer : List ℕ} {r : ControlFlow Answer ℕ} {a : Answer}
      → (0 < n → Answered Packet n s line buffer (Noise n) s' line' buffer) → r ≡ Break a → (a ≡ Noise n) × (0 < n)
      → Stepped Packet n s line buffer r s' line' buffer
  noise_at f e z = rw (e, z.0) (f z.1)

-- the first byte is dropped
module _ (Packet : List ℕ → Type 0) (n : ℕ) (few : n < 1024) where
  shed : (h h' line buffer : List ℕ) → 0 < length h → ¬ Whole Packet h → h' ≡ drop 1 h
      → Stepped Packet n (state false h) line buffer (Continue (n + 1)) (state false h') line buffer
  shed [] h' line buffer z w d = absurd (omega arith)
  shed (b ∷ h) h' line buffer z w d =
      rw (d, add-one n) (omega arith, record { between = []; onward = λ taken a s''' line''' y. rule_4_closed few w y }, refl, omega arith)

  skip : (open? : Bool) (h h' line buffer : List ℕ) → 0 < length h → ¬ Whole Packet h → ¬ Possible Packet h → h' ≡ drop 1 h
      → Stepped Packet n (state open? h) line buffer (Continue (n + 1)) (state open? h') line buffer
  skip false h h' line buffer z w m d = shed h h' line buffer z w d
  skip true [] h' line buffer z w m d = absurd (omega arith)
  skip true (b ∷ h) h' line buffer z w m d =
      rw (d, add-one n) (omega arith, record { between = []; onward = λ taken a s''' line''' y. rule_4_open few w m y }, refl, omega arith)

-- The verdict is on x, which are the bytes held.
module _ (Packet : List ℕ → Type 0) (n : ℕ) {open? : Bool} {h x : List ℕ} {s : State} (v : state open? h ≡ s) (e : x ≡ h) (few : n < 1024) where
  pub ahead_at : {k : ℕ} {line buffer : List ℕ} → Judged Packet x (verdict.Whole k) → 0 < n → Answered Packet n s line buffer (Noise n) s line buffer
  ahead_at {k} j z =
      let w = judged_at Packet (verdict.Whole k) e j in
      rw (← v) (record { taken = []; said = noise n; by_rules = rule_2_noise few z (w.0, w.1, w.2, w.3); answers = refl; writes = refl })

  pub packet_at : {k : ℕ} {h' line buffer buffer' : List ℕ} → Judged Packet x (verdict.Whole k) → n ≡ 0 → h' ≡ drop k h → buffer' ≡ take k h ++ drop k buffer
      → Answered Packet n s line buffer (Found k) (state open? h') line buffer'
  packet_at {k} {buffer = buffer} j z f g =
      let w = judged_at Packet (verdict.Whole k) e j in
      let p = w.0 in
      rw (← v, z, f ∙ ap (drop k) w.3 ∙ drop_at p w.1 k w.4)
      (record {
        taken = [];
        said = packet p;
        by_rules = rule_2_packet p w.1 w.2 w.3;
        answers = ap (λ (y : ℕ). Found y) (sym w.4);
        writes = g ∙ ap (λ (y : List ℕ). y ++ drop k buffer) (ap (take k) w.3 ∙ take_at p w.1 k w.4) ∙ ap (λ (y : ℕ). p ++ drop y buffer) (sym w.4);
      })

  pub emptied_at : {line buffer : List ℕ} → open? ≡ false → length h ≡ 0 → 0 < n → Answered Packet n s line buffer (Noise n) (Open h) line buffer
  emptied_at c m z = rw (← v, c, nil_from_length h m) (record { taken = []; said = noise n; by_rules = rule_3_noise few z; answers = refl; writes = refl })

  pub opens_at : {line buffer : List ℕ} → open? ≡ false → length h ≡ 0 → n ≡ 0 → Stepped Packet n s line buffer (Continue n) (Open h) line buffer
  opens_at c m z = rw (← v, c, nil_from_length h m, z) (omega arith, record { between = []; onward = λ taken a s''' line''' d. rule_3_opens d }, refl, omega arith)

  pub dry_at : {line line' buffer : List ℕ} → Judged Packet x verdict.Possible → open? ≡ true → Taken None line line' → 0 < n
      → Answered Packet n s line buffer (Noise n) s line' buffer
  dry_at j c t z =
      let m = judged_at Packet verdict.Possible e j in
      rw (← v, c, t.0, t.1) (record { taken = []; said = noise n; by_rules = rule_5_noise few z m.0; answers = refl; writes = refl })

  pub waits_at : {line line' buffer : List ℕ} → Judged Packet x verdict.Possible → open? ≡ true → Taken None line line' → n ≡ 0
      → Answered Packet n s line buffer Waiting s line' buffer
  waits_at j c t z =
      let m = judged_at Packet verdict.Possible e j in
      rw (← v, c, t.0, t.1, z) (record { taken = []; said = waiting; by_rules = rule_5_waits m.0; answers = refl; writes = refl })

  pub takes_at : {b : ℕ} {h' line line' buffer : List ℕ} → Judged Packet x verdict.Possible → open? ≡ true → Taken (Some b) line line' → h' ≡ h ++ b ∷ []
      → Stepped Packet n s line buffer (Continue n) (state open? h') line' buffer
  takes_at {b} j c t d =
      let m = judged_at Packet verdict.Possible e j in
      let l = length_push h b in
      rw (← v, c, d, t) (omega arith, record { between = b ∷ []; onward = λ taken a s''' line''' y. rule_5_takes few m.0 y }, refl, omega arith)

  pub drops_at : {h' line buffer : List ℕ} (d : Verdict) → Judged Packet x d
      → (d ≡ verdict.Impossible) ⊎ ((d ≡ verdict.Possible) × (open? ≡ false) × (0 < length h)) → h' ≡ drop 1 h
      → Stepped Packet n s line buffer (Continue (n + 1)) (state open? h') line buffer
  drops_at d j (inl i) f = let m = judged_at Packet verdict.Impossible e (rw i at j) in rw (← v) (skip Packet n few open? h _ _ _ m.0 m.1 m.2 f)
  drops_at d j (inr p) f = let m = judged_at Packet verdict.Possible e (rw p.0 at j) in rw (← v, p.1) (shed Packet n few h _ _ _ p.2 m.0.0 f)
