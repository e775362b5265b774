-- The rules leave no choice.
-- Assumes nothing.
use Rattle.std.proofs.Common.{◌≡◌, ℕ, zero, suc, ◌<◌, Bool, true, false, ◌⊎◌, List, [], ◌∷◌, ◌++◌, length, Ok, Err, Result, sym, refl, ap, ◌∙◌, subst, inl, inr, not-suc-le-zero, arith}
use Rattle.std.proofs.lemmas.List.{append_cancel_left}
use Rattle.receiver.specs.declared.answer.Answer.{Answer}
use Rattle.receiver.specs.declared.fault.ReceiverFault.{ReceiverFault}
use Rattle.receiver.specs.Wire.{Whole, Possible}
use Rattle.receiver.specs.Rules.{State, state, Open, Closed, held, holding, Said, noise, packet, waiting, Rules, rule_1, rule_2_noise, rule_2_packet, rule_3_noise, rule_3_opens, rule_4_closed, rule_4_open, rule_5_takes, rule_5_noise, rule_5_waits}
use Rattle.receiver.specs.Calls.{Called, shown, written}
use Rattle.receiver.specs.Law.{NoChoice}
use Rattle.receiver.proofs.PrefixCode.{PrefixCode}

abbrev is_open : State → Bool
is_open (state open? h) = open?

module _ (Packet : List ℕ → Type 0) (code : PrefixCode Packet) where
  -- What decides which rule fits: the count, then whether the held bytes are whole, then, in an open receiver, whether they are possible.
  abbrev Hope : Bool → List ℕ → Type 0
  Hope false h = Unit {0}
  Hope true h = Possible Packet h ⊎ (¬ Possible Packet h)

  abbrev HeldAre : Bool → List ℕ → Type 0
  HeldAre open? h = Whole Packet h ⊎ ((¬ Whole Packet h) × Hope open? h)

  abbrev Guard : ℕ → State → Type 0
  Guard n s = (n ≡ 1024) ⊎ ((n < 1024) × HeldAre (is_open s) (held s))

  abbrev hope_branch : (open? : Bool) (h : List ℕ) → Hope open? h → ℕ
  hope_branch false h x = 2
  hope_branch true h (inl p) = 3
  hope_branch true h (inr q) = 4

  abbrev held_branch : (open? : Bool) (h : List ℕ) → HeldAre open? h → ℕ
  held_branch open? h (inl w) = 1
  held_branch open? h (inr x) = hope_branch open? h x.1

  abbrev branch : (n : ℕ) (s : State) → Guard n s → ℕ
  branch n s (inl e) = 0
  branch n s (inr x) = held_branch (is_open s) (held s) x.1

  same_hope : (open? : Bool) (h : List ℕ) (x y : Hope open? h) → hope_branch open? h x ≡ hope_branch open? h y
  same_hope false h x y = refl
  same_hope true h (inl p) (inl q) = refl
  same_hope true h (inl p) (inr q) = absurd (q p)
  same_hope true h (inr p) (inl q) = absurd (p q)
  same_hope true h (inr p) (inr q) = refl

  same_held : (open? : Bool) (h : List ℕ) (x y : HeldAre open? h) → held_branch open? h x ≡ held_branch open? h y
  same_held open? h (inl w) (inl v) = refl
  same_held open? h (inl w) (inr y) = absurd (y.0 w)
  same_held open? h (inr x) (inl v) = absurd (x.0 v)
  same_held open? h (inr x) (inr y) = same_hope open? h x.1 y.1

  same_branch : (n : ℕ) (s : State) (x y : Guard n s) → branch n s x ≡ branch n s y
  same_branch n s (inl e) (inl f) = refl
  same_branch n s (inl e) (inr y) = absurd (omega (arith, y.0))
  same_branch n s (inr x) (inl f) = absurd (omega (arith, x.0))
  same_branch n s (inr x) (inr y) = same_held (is_open s) (held s) x.1 y.1

  -- what the rules do at each branch
  module _ (n : ℕ) (s : State) (line taken : List ℕ) (a : Said) (s' : State) (line' : List ℕ) where
    abbrev Stops : Said → State → Type 0
    Stops said after = (taken ≡ []) × (a ≡ said) × (s' ≡ after) × (line' ≡ line)

    abbrev PacketFirst : Type 0
    PacketFirst = (p : List ℕ) × (rest : List ℕ) × Packet p × (held s ≡ p ++ rest) × Stops (packet p) (holding s rest)

    abbrev WhenClosed : List ℕ → Type 0
    WhenClosed [] = (0 < n → Stops (noise n) (Open [])) × (n ≡ 0 → Rules Packet 0 (Open []) line taken a s' line')
    WhenClosed (b ∷ h) = Rules Packet (suc n) (Closed h) line taken a s' line'

    abbrev WhenPossible : List ℕ → Type 0
    WhenPossible [] = (0 < n → Stops (noise n) s) × (n ≡ 0 → Stops waiting s)
    WhenPossible (b ∷ rest) = (more : List ℕ) × (taken ≡ b ∷ more) × Rules Packet n (Open (held s ++ b ∷ [])) rest more a s' line'

    abbrev WhenHopeless : List ℕ → Type 0
    WhenHopeless [] = Unit {0}
    WhenHopeless (b ∷ h) = Rules Packet (suc n) (Open h) line taken a s' line'

    abbrev Does : ℕ → Type 0
    Does zero = Stops (noise n) s
    Does (suc zero) = (0 < n → Stops (noise n) s) × (n ≡ 0 → PacketFirst)
    Does (suc (suc zero)) = WhenClosed (held s)
    Does (suc (suc (suc zero))) = WhenPossible line
    Does (suc (suc (suc (suc k)))) = WhenHopeless (held s)

  none_whole : ¬ Whole Packet []
  none_whole ([], rest, k, e) = not-suc-le-zero (code.filled [] k)
  none_whole (b ∷ p, rest, k, e) = absurd (omega (arith, ap length e))

  first : {n : ℕ} {s : State} {line taken : List ℕ} {a : Said} {s' : State} {line' : List ℕ} → Rules Packet n s line taken a s' line'
      → (g : Guard n s) × Does n s line taken a s' line' (branch n s g)
  first (rule_1 e) = (inl e, (refl, refl, refl, refl))
  first (rule_2_noise l o w) = (inr (l, inl w), ((λ x. (refl, refl, refl, refl)), (λ z. absurd (omega arith))))
  first (rule_2_packet p rest q e) = (inr (omega arith, inl (p, rest, q, e)), ((λ x. absurd (omega arith)), (λ z. (p, rest, q, e, (refl, refl, refl, refl)))))
  first (rule_3_noise l o) = (inr (l, inr (none_whole, tt)), ((λ x. (refl, refl, refl, refl)), (λ z. absurd (omega arith))))
  first (rule_3_opens d) = (inr (omega arith, inr (none_whole, tt)), ((λ x. absurd (omega arith)), (λ z. d)))
  first (rule_4_closed l w d) = (inr (l, inr (w, tt)), d)
  first (rule_4_open l w m d) = (inr (l, inr (w, inr m)), d)
  first (rule_5_takes {taken = taken} l m d) = (inr (l, inr (m.0, inl m)), (taken, refl, d))
  first (rule_5_noise l o m) = (inr (l, inr (m.0, inl m)), ((λ x. (refl, refl, refl, refl)), (λ z. absurd (omega arith))))
  first (rule_5_waits m) = (inr (omega arith, inr (m.0, inl m)), ((λ x. absurd (omega arith)), (λ z. (refl, refl, refl, refl))))

  at : {n : ℕ} {s : State} {line taken : List ℕ} {a : Said} {s' : State} {line' : List ℕ} (g : Guard n s) → Rules Packet n s line taken a s' line'
      → Does n s line taken a s' line' (branch n s g)
  at {n} {s} {line} {taken} {a} {s'} {line'} g d = let f = first d in subst (λ k. Does n s line taken a s' line' k) (same_branch n s f.0 g) f.1

  abbrev Same : List ℕ → Said → State → List ℕ → List ℕ → Said → State → List ℕ → Type 0
  Same taken a s line taken₁ a₁ s₁ line₁ = (taken ≡ taken₁) × (a ≡ a₁) × (s ≡ s₁) × (line ≡ line₁)

  stopped : {taken : List ℕ} {a b : Said} {s t : State} {line line₁ : List ℕ} → (taken ≡ []) × (b ≡ a) × (t ≡ s) × (line₁ ≡ line) → Same [] a s line taken b t line₁
  stopped e = (sym e.0, sym e.1, sym e.2, sym e.3)

  pub determined : {n : ℕ} {s : State} {line taken taken₁ : List ℕ} {a a₁ : Said} {s' s₁ : State} {line' line₁ : List ℕ}
      → Rules Packet n s line taken a s' line' → Rules Packet n s line taken₁ a₁ s₁ line₁ → Same taken a s' line' taken₁ a₁ s₁ line₁
  determined (rule_1 e) x = stopped (at (inl e) x)
  determined (rule_2_noise l o w) x = stopped ((at (inr (l, inl w)) x).0 o)
  determined (rule_2_packet {s = s} p rest q e) x =
      let y = (at (inr (omega arith, inl (p, rest, q, e))) x).1 refl in
      let same : p ≡ y.0 = code.one_front p y.0 rest y.1 q y.2 (sym e ∙ y.3) in
      let after : rest ≡ y.1 = append_cancel_left p rest y.1 (sym e ∙ y.3 ∙ ap (λ (r : List ℕ). r ++ y.1) (sym same)) in
      let t = y.4 in
      (sym t.0, ap packet same ∙ sym t.1, ap (holding s) after ∙ sym t.2, sym t.3)
  determined (rule_3_noise l o) x = stopped ((at (inr (l, inr (none_whole, tt))) x).0 o)
  determined (rule_3_opens d) x = determined d ((at (inr (omega arith, inr (none_whole, tt))) x).1 refl)
  determined (rule_4_closed l w d) x = determined d (at (inr (l, inr (w, tt))) x)
  determined (rule_4_open l w m d) x = determined d (at (inr (l, inr (w, inr m))) x)
  determined (rule_5_takes {b = b} l m d) x =
      let y = at (inr (l, inr (m.0, inl m))) x in
      let z = determined d y.2 in
      (ap (λ (r : List ℕ). b ∷ r) z.0 ∙ sym y.1, z.1, z.2, z.3)
  determined (rule_5_noise l o m) x = stopped ((at (inr (l, inr (m.0, inl m))) x).0 o)
  determined (rule_5_waits m) x = stopped ((at (inr (omega arith, inr (m.0, inl m))) x).1 refl)

  same_call : (s : State) (line buffer : List ℕ) (r r₁ : Result Answer ReceiverFault) (s' s₁ : State) (line' buffer' line₁ buffer₁ : List ℕ)
      → Called Packet s line buffer r s' line' buffer' → Called Packet s line buffer r₁ s₁ line₁ buffer₁
      → (r ≡ r₁) × (s' ≡ s₁) × (line' ≡ line₁) × (buffer' ≡ buffer₁)
  same_call s line buffer (Ok a) (Ok b) s' s₁ line' buffer' line₁ buffer₁ c d =
      let e = determined c.1.by_rules d.1.by_rules in (
        ap (λ (x : Answer). Ok x) (c.1.answers ∙ ap shown e.1 ∙ sym d.1.answers),
        e.2,
        e.3,
        c.1.writes ∙ ap (λ (x : Said). written x buffer) e.1 ∙ sym d.1.writes,
      )
  same_call s line buffer (Ok a) (Err f) s' s₁ line' buffer' line₁ buffer₁ c d = absurd (omega (arith, c.0, d.0))
  same_call s line buffer (Err f) (Ok a) s' s₁ line' buffer' line₁ buffer₁ c d = absurd (omega (arith, c.0, d.0))
  same_call s line buffer (Err f) (Err g) s' s₁ line' buffer' line₁ buffer₁ c d =
      (ap (λ (x : ReceiverFault). Err x) (c.1 ∙ sym d.1), c.2 ∙ sym d.2, c.3 ∙ sym d.3, c.4 ∙ sym d.4)

  pub no_choice : NoChoice Packet
  no_choice = record {
    same_call = same_call;
    same_taken = λ s line buffer a b s' s₁ line' buffer' line₁ buffer₁ c d. (determined c.1.by_rules d.1.by_rules).0;
  }
