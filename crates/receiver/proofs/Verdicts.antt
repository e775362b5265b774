-- What the held bytes are, from what the header says so far and how the check compares.
-- Assumes nothing.
use Rattle.std.proofs.Common.{◌≡◌, ℕ, ◌+◌, ◌/◌, ◌%◌, ◌<◌, ◌≤◌, Bool, true, false, T, eqb, List, [], ◌∷◌, length, take, drop, sym, refl, ap, ◌∙◌, subst, ⊎_elim, arith, length-append}
use lib.Bits.{bit_and}
use Rattle.std.proofs.lemmas.List.{append-nil, take-append-drop, length-take-le}
use Rattle.std.proofs.lemmas.Bool.{cases_lt}
use Rattle.basics.specs.Bytes.{Bytes}
use Rattle.packet.specs.declared.fault.PacketFault.{PacketFault}
use Rattle.packet.specs.declared.fault.PacketFault.TheVariants.{CutShort, FirstByte, Version, Cipher, Route, Size, Check, LeftOver}
use Rattle.packet.specs.Raw.{byte, flag, version, cipher, header_length, size_place, size, end, check_place}
use Rattle.packet.specs.Packet.{Packet}
use Rattle.packet.specs.Faults.{Opens, Refused}
use Rattle.packet.specs.Measured.{Begun, LawfulStart, Measured, Agrees}
use Rattle.packet.proofs.Bits.{opens_from, opens_to}
use Rattle.packet.proofs.Laid.{sound}
use Rattle.receiver.specs.declared.judge.Verdict.TheVariants.{Whole as Found, Possible as Maybe, Impossible}
use Rattle.receiver.specs.Wire.{Whole}
use Rattle.receiver.specs.Judging.{Judged}
use Rattle.receiver.proofs.PrefixCode.{possible_short}
use Rattle.receiver.proofs.Ours.{ours}
use Rattle.basics.proofs.Bytewise.{byte_below}
use Rattle.receiver.proofs.Raws.{Alike, alike_fronts}
use Rattle.receiver.proofs.Completing.{agreeing_none, Extends, extend_by, packet_long, agrees, ends_there, agreeing_of, whole_from, reach}

-- a first byte that is not refused is lawful
opens_stable : (b : ℕ) → b < 256 → ¬ (¬ Opens b) → Opens b
opens_stable b l n = by (eqb (bit_and b 0x77) 0x75) refl
  where
    by : (t : Bool) → eqb (bit_and b 0x77) 0x75 ≡ t → Opens b
    by true e = opens_from b l (subst T (sym e) tt)
    by false e = absurd (n (λ o. subst T e (opens_to b o)))

module _ (w : ℕ) (check : List ℕ → ℕ) where
  -- no packet has the bytes of h
  abbrev Hopeless : List ℕ → Type 0
  Hopeless h = (p : List ℕ) → Packet w check p → ¬ Alike p h

  impossible : (h : List ℕ) → 0 < length h → Hopeless h → Judged (Packet w check) h Impossible
  impossible h l n = (
    l,
    (λ x. n x.0 x.2 (alike_fronts x.0 x.1 h [] (append-nil h ∙ x.3))),
    (λ x. let y = x.1.2 in n y.0 y.2 (alike_fronts y.0 y.1 h x.1.0 y.3)),
  )

  possible : (h : List ℕ) → ¬ Whole (Packet w check) h → Extends w check h → Judged (Packet w check) h Maybe
  possible h n x = ((n, x), possible_short 263 (ours w check).short h (n, x))

  -- what is wrong with the header of h is wrong with each packet that has its bytes
  hopeless : (h : List ℕ) (f : PacketFault) (k : ℕ) → Refused w check h f k → k ≤ size_place h → ¬ (f ≡ CutShort) → (0 < length h) × Hopeless h
  hopeless h CutShort k r l n = absurd (n refl)
  hopeless h FirstByte k r l n =
      let x = r.wrong in (
        x.0,
        λ p q s. let y = packet_long w check p h q s in
            sound q FirstByte (omega arith, λ o. x.1 (subst Opens (s 0 (omega arith) x.0) o)),
      )
  hopeless h Version k r l n =
      let x = r.wrong in (
        omega (arith, x.0),
        λ p q s. let y = packet_long w check p h q s in
            sound q Version (omega arith, omega (arith, ap (λ (b : ℕ). b / 8 % 4) (s 1 (omega arith) x.0), x.1)),
      )
  hopeless h Cipher k r l n =
      let x = r.wrong in (
        omega (arith, x.0),
        λ p q s. let y = packet_long w check p h q s in
            sound q Cipher (omega arith, omega (arith, ap (λ (b : ℕ). b % 8) (s 1 (omega arith) x.0), x.1)),
      )
  hopeless h Route k r l n =
      let x = r.wrong in (
        omega (arith, x.0),
        λ p q s. let y = packet_long w check p h q s in
            sound q Route (omega arith, ap (λ (b : ℕ). flag b 7) (s 1 (omega arith) (omega (arith, x.0))) ∙ x.1, omega (arith, s 2 (omega arith) x.0, x.2)),
      )
  hopeless h Size k r l n =
      let x = r.wrong in (
        omega (arith, x.0),
        λ p q s. let y = packet_long w check p h q s in
            let a = agrees w check p h q s x.0 in
            sound q Size (omega (arith, a.size_places, x.0), omega (arith, a.sizes, x.1)),
      )
  hopeless h Check k r l n = absurd (omega (arith, r.wrong.1, r.placed))
  hopeless h LeftOver k r l n = absurd (omega (arith, r.placed))

  pub refused : (h : List ℕ) (f : PacketFault) (k : ℕ) → Refused w check h f k → k ≤ size_place h → ¬ (f ≡ CutShort) → Judged (Packet w check) h Impossible
  refused h f k r l n = let x = hopeless h f k r l n in impossible h x.0 x.1

  begun : (h : List ℕ) (k : ℕ) → Bytes h → Refused w check h CutShort k → Begun h
  begun h k b r = record {
    opens = λ l. opens_stable (byte h 0) (byte_below h b 0) (λ o. omega (arith, l, (r.first FirstByte (l, o)).0));
    version_least = λ l. ⊎_elim (λ z. absurd (omega (arith, l, (r.first Version (l, omega arith)).0))) (λ z. z) (cases_lt (version h) 1);
    cipher_most = λ l. ⊎_elim (λ z. absurd (omega (arith, l, (r.first Cipher (l, z)).0))) (λ z. z) (cases_lt 3 (cipher h));
    route_most = λ l e. ⊎_elim (λ z. absurd (omega (arith, l, (r.first Route (l, e, z)).0))) (λ z. z) (cases_lt 15 (byte h 2));
  }

  -- a header that has just got its size
  from_size : (h : List ℕ) → Bytes h → LawfulStart h → size_place h < length h → length h ≤ 4 → size h ≡ w + 2 → Extends w check h
  from_size h b s l m z =
      reach w check h b (header_length h) (end h) (record { start = s; size_there = l; size_least = omega arith; header_is = refl; end_is = refl }) (omega arith)
      (agreeing_none w check h (omega arith))

  -- a header without its size
  from_start : (h : List ℕ) → w ≤ 4 → Bytes h → Begun h → length h ≤ size_place h → Extends w check h
  from_start [] t b o l =
      extend_by w check [] (0x75 ∷ 8 ∷ (w + 2) ∷ []) (omega arith, (omega arith, (omega arith, tt)))
      (from_size (0x75 ∷ 8 ∷ (w + 2) ∷ []) (omega arith, (omega arith, (omega arith, tt)))
      (record { opens = (false, false, refl); version_least = omega arith; cipher_most = omega arith; route_most = λ e. absurd (omega arith) })
      (omega arith) (omega arith) refl)
  from_start (a ∷ []) t b o l =
      extend_by w check (a ∷ []) (8 ∷ (w + 2) ∷ []) (omega arith, (omega arith, tt))
      (from_size (a ∷ 8 ∷ (w + 2) ∷ []) (b.0, (omega arith, (omega arith, tt)))
      (record { opens = o.opens (omega arith); version_least = omega arith; cipher_most = omega arith; route_most = λ e. absurd (omega arith) })
      (omega arith) (omega arith) refl)
  from_start (a ∷ c ∷ []) t b o l = ⊎_elim
      (λ (s : flag c 7 < 1).
      let d : flag c 7 ≡ 0 = omega arith in
      let h : List ℕ = a ∷ c ∷ (w + 2) ∷ [] in
      extend_by w check (a ∷ c ∷ []) ((w + 2) ∷ []) (omega arith, tt)
      (from_size h (b.0, (b.1.0, (omega arith, tt)))
      (record { opens = o.opens (omega arith); version_least = o.version_least (omega arith); cipher_most = o.cipher_most (omega arith); route_most = λ e. absurd (omega arith) })
      (omega arith) (omega arith) (ap (λ (x : ℕ). byte h (2 + x)) d)))
      (λ (s : 1 ≤ flag c 7).
      let d : flag c 7 ≡ 1 = omega arith in
      let h : List ℕ = a ∷ c ∷ 0 ∷ (w + 2) ∷ [] in
      extend_by w check (a ∷ c ∷ []) (0 ∷ (w + 2) ∷ []) (omega arith, (omega arith, tt))
      (from_size h (b.0, (b.1.0, (omega arith, (omega arith, tt))))
      (record { opens = o.opens (omega arith); version_least = o.version_least (omega arith); cipher_most = o.cipher_most (omega arith); route_most = λ e. omega arith })
      (omega arith) (omega arith) (ap (λ (x : ℕ). byte h (2 + x)) d)))
      (cases_lt (flag c 7) 1)
  from_start (a ∷ c ∷ r ∷ []) t b o l =
      let d : flag c 7 ≡ 1 = omega arith in
      let h : List ℕ = a ∷ c ∷ r ∷ (w + 2) ∷ [] in
      extend_by w check (a ∷ c ∷ r ∷ []) ((w + 2) ∷ []) (omega arith, tt)
      (from_size h (b.0, (b.1.0, (b.1.1.0, (omega arith, tt))))
      (record { opens = o.opens (omega arith); version_least = o.version_least (omega arith); cipher_most = o.cipher_most (omega arith); route_most = o.route_most (omega arith) })
      (omega arith) (omega arith) (ap (λ (x : ℕ). byte h (2 + x)) d))
  from_start (a ∷ c ∷ r ∷ z ∷ h) t b o l = absurd (omega arith)

  -- the header is cut off before its size
  pub cut_short : (h : List ℕ) (k : ℕ) → w ≤ 4 → Bytes h → Refused w check h CutShort k → k ≤ size_place h → Judged (Packet w check) h Maybe
  cut_short h k t b r l =
      let s : length h ≤ size_place h = omega (arith, r.placed) in
      possible h
      (λ x.
      let q = alike_fronts x.0 x.1 h [] (append-nil h ∙ x.3) in
      let y = packet_long w check x.0 h x.2 q in
      omega (arith, ap length x.3, length-append x.0 x.1))
      (from_start h t b (begun h k b r) s)

  -- bytes x whose header is measured, which are the held bytes h
  module _ {x h : List ℕ} (e : x ≡ h) (b : Bytes h) {header stop : ℕ} (n : Measured w x header stop) where
    m : Measured w h header stop
    m = subst (λ y. Measured w y header stop) e n

    held_agrees : Agrees w check x → Agrees w check h
    held_agrees a = subst (λ y. Agrees w check y) e a

    pub whole : stop ≤ length h → Agrees w check x → Judged (Packet w check) h (Found stop)
    whole l a =
        let s = m.end_is in
        let k = whole_from w check h b header stop m (omega arith) (held_agrees a) in
        let t = length-take-le (end h) h (omega arith) in
        (take (end h) h, drop (end h) h, k, sym (take-append-drop (end h) h), t ∙ sym s, omega (arith, (ours w check).short (take (end h) h) k))

    pub unfinished : length h < stop → Agrees w check x → Judged (Packet w check) h Maybe
    unfinished l a =
        let s = m.end_is in
        possible h
        (λ p.
        let q = alike_fronts p.0 p.1 h [] (append-nil h ∙ p.3) in
        let y = ends_there w check p.0 h p.2 q m.size_there in
        omega (arith, ap length p.3, length-append p.0 p.1))
        (reach w check h b header stop m (omega arith) (held_agrees a))

    -- none of its check has come
    pub unchecked : 1 ≤ w → length h ≤ check_place w x → Judged (Packet w check) h Maybe
    unchecked o l =
        let p : check_place w x ≡ check_place w h = ap (check_place w) e in
        unfinished (omega (arith, m.size_least, m.end_is)) (agreeing_none w check x (omega (arith, ap length e)))

    pub disagreeing : ¬ Agrees w check x → Judged (Packet w check) h Impossible
    disagreeing d =
        let t = m.size_there in
        impossible h (omega arith) (λ p k s. d (subst (λ y. Agrees w check y) (sym e) (agreeing_of w check p h k s m.size_there m.size_least)))
