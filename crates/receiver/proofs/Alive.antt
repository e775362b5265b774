-- The rules are not empty: an open receiver that holds nothing takes a packet that waits on the line, and answers it or waits for
-- the rest of it.
-- Assumes nothing.
use Rattle.std.proofs.Common.{◌≡◌, ℕ, List, [], ◌∷◌, ◌++◌, length, drop, sym, refl, ap, ◌∙◌, subst, append_assoc, append-nil, arith, length-append}
use Rattle.receiver.specs.Rules.{State, Open, Said, packet, waiting, Rules, rule_2_packet, rule_5_takes, rule_5_waits}
use Rattle.receiver.specs.Law.{Received, Awaited, FrontsPossible}
use Rattle.receiver.proofs.PrefixCode.{PrefixCode, beyond, possible_from}

module _ (Packet : List ℕ → Type 0) (code : PrefixCode Packet) where
  pub fronts_possible : FrontsPossible Packet
  fronts_possible h b t k =
      possible_from Packet code h (b ∷ t)
      (λ w.
      let e : w.0 ++ (w.1 ++ b ∷ t) ≡ h ++ b ∷ t = sym (append_assoc w.0 w.1 (b ∷ t)) ∙ ap (λ (x : List ℕ). x ++ b ∷ t) (sym w.3) in
      let s = code.one_front w.0 (h ++ b ∷ t) (w.1 ++ b ∷ t) [] w.2 k (e ∙ sym (append-nil (h ++ b ∷ t))) in
      absurd (omega (arith, ap length s, length-append h (b ∷ t), ap length w.3, length-append w.0 w.1)))
      (h ++ b ∷ t, [], k, sym (append-nil (h ++ b ∷ t)))

  -- bytes that go on from h towards a packet are taken one after the other
  taken_up : (t h u line taken line' : List ℕ) (a : Said) (s : State) → Packet ((h ++ t) ++ u)
      → Rules Packet 0 (Open (h ++ t)) line taken a s line' → Rules Packet 0 (Open h) (t ++ line) (t ++ taken) a s line'
  taken_up [] h u line taken line' a s k d = subst (λ (x : List ℕ). Rules Packet 0 (Open x) line taken a s line') (append-nil h) d
  taken_up (b ∷ t) h u line taken line' a s k d =
      let e : h ++ b ∷ t ≡ (h ++ b ∷ []) ++ t = sym (append_assoc h (b ∷ []) t) in
      rule_5_takes (omega arith) (fronts_possible h b (t ++ u) (subst Packet (append_assoc h (b ∷ t) u) k))
      (taken_up t (h ++ b ∷ []) u line taken line' a s (subst (λ (x : List ℕ). Packet (x ++ u)) e k)
      (subst (λ (x : List ℕ). Rules Packet 0 (Open x) line taken a s line') e d))

  pub received : Received Packet
  received p line buffer k l = (
    l,
    record {
      taken = p ++ [];
      said = packet p;
      by_rules = taken_up p [] [] line [] line (packet p) (Open []) (subst Packet (sym (append-nil p)) k) (rule_2_packet p [] k (sym (append-nil p)));
      answers = refl;
      writes = refl;
    },
  )

  pub awaited : Awaited Packet
  awaited h buffer m l =
      let w = m.1.2 in (
        l,
        record {
          taken = h ++ [];
          said = waiting;
          by_rules =
              subst (λ (x : List ℕ). Rules Packet 0 (Open []) x (h ++ []) waiting (Open h) []) (append-nil h)
              (taken_up h [] (drop (length h) w.0) [] [] [] waiting (Open h) (subst Packet (beyond h m.1.0 m.0 w).1 w.2) (rule_5_waits m));
          answers = refl;
          writes = refl;
        },
      )
