-- What is wrong with data behind a header that was measured; and the reading, where nothing is.
-- Assumes nothing.
use Rattle.std.proofs.Common.{◌≡◌, ℕ, ◌+◌, ◌-◌, ◌<◌, ◌≤◌, List, ◌++◌, length, take, drop, sym, refl, ap, ◌∙◌, arith, length-drop, length-take}
use Rattle.std.proofs.lemmas.List.{take_all, drop-drop, take-append-drop}
use Rattle.basics.specs.Bytes.{Bytes}
use Rattle.basics.specs.Little.{little}
use Rattle.basics.proofs.Bytewise.{bytes_take, bytes_drop, byte_below}
use Rattle.packet.specs.declared.header.Header.{Header}
use Rattle.packet.specs.declared.fault.PacketFault.{PacketFault}
use Rattle.packet.specs.declared.fault.PacketFault.TheVariants.{CutShort, FirstByte, Version, Cipher, Route, Size, Check, LeftOver}
use Rattle.packet.specs.Raw.{header_length, size_place, size, end, check_place, message, check_bytes}
use Rattle.packet.specs.Header.{Lawful, header_bytes}
use Rattle.packet.specs.Packet.{Reads}
use Rattle.packet.specs.Numbers.{number}
use Rattle.packet.specs.Faults.{Wrong, place, Refused}
use Rattle.packet.specs.Measured.{Measured, Agrees}
use Rattle.packet.proofs.Laid.{sound}

-- the parts of data that are all there
module _ {w : ℕ} {p : List ℕ} {header stop : ℕ} (m : Measured w p header stop) where
  pub message_part : (k : ℕ) → k ≡ check_place w p → take (k - header) (drop header p) ≡ message w p
  message_part k f =
      let e : k - header ≡ size p - w = omega (arith, m.header_is) in
      ap (λ k. take k (drop header p)) e ∙ ap (λ k. take (size p - w) (drop k p)) m.header_is

  length_check : end p ≤ length p → length (check_bytes w p) ≡ w
  length_check l = let s = m.size_least in simp (length-take, length-drop) (omega arith)

  length_message : end p ≤ length p → length (message w p) ≡ size p - w
  length_message l = let s = m.size_least in simp (length-take, length-drop) (omega arith)

  data_parts : length p ≡ end p → drop (header_length p) p ≡ message w p ++ check_bytes w p
  data_parts l =
      let s = m.size_least in
      let e : header_length p + (size p - w) ≡ check_place w p = omega arith in
      let n : length (drop (check_place w p) p) ≡ w = length-drop (check_place w p) p ∙ omega arith in
      sym (take-append-drop (size p - w) (drop (header_length p) p))
      ∙ ap (λ x. message w p ++ x)
      (drop-drop (size p - w) (header_length p) p ∙ ap (λ k. drop k p) e ∙ sym (take_all w (drop (check_place w p) p) (omega arith)))

module _ {w : ℕ} {p : List ℕ} {header stop : ℕ} (check : List ℕ → ℕ) (m : Measured w p header stop) where
  -- where the check is all there, agreeing so far is agreeing
  pub agreed : end p ≤ length p → Agrees w check p → check_bytes w p ≡ little w (check (message w p))
  agreed l a = a ∙ ap (λ k. little k (check (message w p))) (length_check m l)

  pub agrees : end p ≤ length p → check_bytes w p ≡ little w (check (message w p)) → Agrees w check p
  agrees l e = e ∙ ap (λ k. little k (check (message w p))) (sym (length_check m l))

  abbrev Before : PacketFault → PacketFault → Type 0
  Before f g = (place w p f ≤ place w p g) × (place w p f ≡ place w p g → number f ≤ number g)

  -- behind a measured header only the data can be wrong
  behind : (f : PacketFault) → (Wrong w check p CutShort → Before f CutShort) → (Wrong w check p Check → Before f Check) → (Wrong w check p LeftOver → Before f LeftOver)
      → (g : PacketFault) → Wrong w check p g → Before f g
  behind f cut bad more CutShort x = cut x
  behind f cut bad more FirstByte x = absurd (x.1 m.start.opens)
  behind f cut bad more Version x = absurd (omega (arith, x.1, m.start.version_least))
  behind f cut bad more Cipher x = absurd (omega (arith, x.1, m.start.cipher_most))
  behind f cut bad more Route x = absurd (omega (arith, x.2, m.start.route_most x.1))
  behind f cut bad more Size x = absurd (omega (arith, x.1, m.size_least))
  behind f cut bad more Check x = bad x
  behind f cut bad more LeftOver x = more x

  refused : (f : PacketFault) (k : ℕ) → k ≡ place w p f → Wrong w check p f → ((g : PacketFault) → Wrong w check p g → Before f g) → Refused w check p f k
  refused f k e x first = record { no_packet = λ y. sound y f x; wrong = x; placed = e; first = first }

  pub cut_short : length p < end p → Refused w check p CutShort (length p)
  cut_short l =
      refused CutShort _ refl l (behind CutShort (λ x. (omega arith, λ e. omega arith)) (λ x. absurd (omega (arith, x.0))) (λ x. absurd (omega (arith, x))))

  pub bad_check : (k : ℕ) → k ≡ check_place w p → end p ≤ length p → ¬ (check_bytes w p ≡ little w (check (message w p))) → Refused w check p Check k
  bad_check k e l n =
      refused Check k e (l, m.size_least, n) (behind Check (λ x. absurd (omega (arith, x))) (λ x. (omega arith, λ e. omega arith)) (λ x. (omega arith, λ e. omega arith)))

  pub left_over : (k : ℕ) → k ≡ end p → end p < length p → check_bytes w p ≡ little w (check (message w p)) → Refused w check p LeftOver k
  left_over k e l a =
      refused LeftOver k e l (behind LeftOver (λ x. absurd (omega (arith, x))) (λ x. absurd (x.2 a)) (λ x. (omega arith, λ e. omega arith)))

  pub reading : (h : Header) → Lawful h → Bytes p → length p ≡ end p → check_bytes w p ≡ little w (check (message w p))
      → p ≡ header_bytes h (size p) ++ drop (header_length p) p → Reads w check p h (message w p)
  reading h l b n a e =
      let s = m.size_least in
      let z : size p < 256 = byte_below p b (size_place p) in
      let k = length_message m (omega arith) in
      let f : size p ≡ length (message w p) + w = omega arith in
      record {
        lawful = l;
        message_bytes = bytes_take (size p - w) _ (bytes_drop (header_length p) p b);
        message_least = omega arith;
        size_most = omega arith;
        written = e ∙ ap (λ x. header_bytes h x ++ drop (header_length p) p) f ∙ ap (λ x. header_bytes h (length (message w p) + w) ++ x) (data_parts m n ∙ ap (λ x. message w p ++ x) a);
      }
