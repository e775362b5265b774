-- What the law asks of packets.
-- Assumes nothing.
use Rattle.std.proofs.Common.{◌≡◌, ℕ, ◌<◌, ◌≤◌, List, [], ◌++◌, length, take, drop, sym, refl, ap, ◌∙◌, arith, take-append-drop}
use native.Mathlib.Decide.{dec_le}
use Rattle.std.proofs.lemmas.List.{take_at, take-append-le, append-nil}
use Rattle.basics.specs.Bytes.{Bytes}
use Rattle.basics.proofs.Bytewise.{bytes_drop}
use Rattle.receiver.specs.Wire.{Whole, Possible}

-- They are byte lists, none is empty or has more than 263 bytes, and at most one front of a list is one.
pub record PrefixCode (Packet : List ℕ → Type 0) : Type 0 where
  pub bytewise : (p : List ℕ) → Packet p → Bytes p
  pub filled : (p : List ℕ) → Packet p → 0 < length p
  pub short : (p : List ℕ) → Packet p → length p ≤ 263
  pub one_front : (p q s t : List ℕ) → Packet p → Packet q → p ++ s ≡ q ++ t → p ≡ q

-- two ways to divide a list, the first no longer
fronts : (p h rest more : List ℕ) → p ++ rest ≡ h ++ more → length p ≤ length h → h ≡ p ++ drop (length p) h
fronts p h rest more e l =
    sym (take-append-drop (length p) h)
    ∙ ap (λ (x : List ℕ). x ++ drop (length p) h) (sym (take-append-le (length p) h more l) ∙ ap (take (length p)) (sym e) ∙ take_at p rest (length p) refl)

module _ {Packet : List ℕ → Type 0} where
  -- a packet that begins what h becomes, and does not begin h: it goes on from h
  pub beyond : (h more : List ℕ) → ¬ Whole Packet h → (w : Whole Packet (h ++ more)) → (length h < length w.0) × (w.0 ≡ h ++ drop (length h) w.0)
  beyond h more n w =
      elim (dec_le (length w.0) (length h)) [
        | yes l ↦ absurd (n (w.0, drop (length w.0) h, w.2, fronts w.0 h w.1 more (sym w.3) l))
        | no l ↦ (omega arith, fronts h w.0 more w.1 w.3 (omega arith))
      ]

  -- what is possible is shorter than the longest packet
  pub possible_short : (m : ℕ) → ((p : List ℕ) → Packet p → length p ≤ m) → (h : List ℕ) → Possible Packet h → length h < m
  possible_short m most h c =
      let w = c.1.2 in
      omega (arith, (beyond h c.1.0 c.0 w).0, most w.0 w.2)

module _ (Packet : List ℕ → Type 0) (code : PrefixCode Packet) where
  -- whatever numbers make a list whole, bytes do
  pub possible_from : (h more : List ℕ) → ¬ Whole Packet h → Whole Packet (h ++ more) → Possible Packet h
  possible_from h more n w =
      let p = w.0 in
      let e = (beyond h more n w).1 in (
        n,
        (
          drop (length h) p,
          bytes_drop (length h) p (code.bytewise p w.2),
          (p, [], w.2, sym e ∙ sym (append-nil p)),
        ),
      )
