-- A header's fields, read one after the other, write out to the bytes that they were read from.
-- Assumes nothing.
use Rattle.std.proofs.Common.{◌≡◌, ℕ, ◌+◌, ◌<◌, ◌≤◌, Bool, List, [], ◌∷◌, ◌++◌, length, get_or, drop, Some, None, Option, sym, refl, ap, ◌∙◌, subst, append_assoc, arith}
use Rattle.std.proofs.lemmas.List.{drop_more, get_or-drop}
use Rattle.packet.specs.declared.header.Header.{Header}
use Rattle.packet.specs.Raw.{byte, flag, version, cipher, header_length, size_place, size}
use Rattle.basics.specs.Bits.{bit, present}
use Rattle.packet.specs.Header.{field, Below, Lawful, first_byte, second_byte, header_bytes}
use Rattle.packet.specs.Fields.{FieldAt}
use Rattle.packet.specs.Measured.{LawfulStart}
use Rattle.packet.proofs.Bits.{bit_most}

-- a field that is there is the byte at its place
field_byte : (p : List ℕ) (k : ℕ) (x : ℕ) (rest : List ℕ) → drop k p ≡ x ∷ rest → byte p k ≡ x
field_byte p k x rest e = sym (get_or-drop k p 0 0 ∙ ap (λ i. get_or p i 0) (omega arith)) ∙ ap (λ l. get_or l 0 0) e

route_below : (p : List ℕ) (o : Option ℕ) (rest : List ℕ) → drop 2 p ≡ field o ++ rest → (present o ≡ 1 → byte p 2 ≤ 15) → Below 16 o
route_below p None rest e h = tt
route_below p (Some x) rest e h = let a = field_byte p 2 x rest e in let b = h refl in omega arith

two_more : (p : List ℕ) → 1 < length p → p ≡ byte p 0 ∷ byte p 1 ∷ drop 2 p
two_more [] l = absurd (omega arith)
two_more (x ∷ []) l = absurd (omega arith)
two_more (x ∷ y ∷ p) l = refl

two_same : {a b c d : ℕ} {xs ys : List ℕ} → a ≡ b → c ≡ d → xs ≡ ys → a ∷ c ∷ xs ≡ b ∷ d ∷ ys
two_same e f g = cc

-- the fields that were read, over the bytes p
pub record Decoded (p : List ℕ) (h : Header) : Type 0 where
  pub start : LawfulStart p
  pub long : header_length p ≤ length p
  pub second : byte p 1 < 256
  pub priority_is : bit h.priority ≡ flag (byte p 0) 7
  pub version_is : h.version ≡ version p
  pub cipher_is : h.cipher ≡ cipher p
  pub source_byte : h.source < 256
  pub add : Bool
  pub sseg : Bool
  pub dseg : Bool
  pub adr : Bool
  pub add_is : bit add ≡ flag (byte p 1) 7
  pub sseg_is : bit sseg ≡ flag (byte p 1) 6
  pub dseg_is : bit dseg ≡ flag (byte p 1) 5
  pub adr_is : bit adr ≡ flag (byte p 0) 3
  -- the places of the size, the source address, the target's fields, and the place after the header
  pub size_at : ℕ
  pub source_at : ℕ
  pub target_at : ℕ
  pub data_at : ℕ
  pub route_at : FieldAt p 2 add h.route size_at
  pub source_segment_at : FieldAt p (size_at + 1) sseg h.source_segment source_at
  pub source_is : h.source ≡ byte p source_at
  pub target_segment_at : FieldAt p (source_at + 1) dseg h.target_segment target_at
  pub target_address_at : FieldAt p target_at adr h.target data_at

module _ (p : List ℕ) (h : Header) (d : Decoded p h) where
  pub decoded_lawful : Lawful h
  decoded_lawful =
      let s = d.start in
      record {
        version_least = subst (λ n. 1 ≤ n) (sym d.version_is) s.version_least;
        version_most = let e = d.version_is in omega arith;
        cipher_most = subst (λ n. n ≤ 3) (sym d.cipher_is) s.cipher_most;
        route_most = route_below p h.route _ d.route_at.stands (λ e. s.route_most (sym d.add_is ∙ sym d.route_at.present_is ∙ e));
        source_segment_byte = d.source_segment_at.byte;
        source_byte = d.source_byte;
        target_segment_byte = d.target_segment_at.byte;
        target_byte = d.target_address_at.byte;
      }

  first_is : first_byte (bit h.priority) (present h.target) ≡ byte p 0
  first_is =
      let o = d.start.opens in
      let a = bit_most o.0 in
      let b = bit_most o.1 in
      omega (arith, o.2, d.priority_is, d.target_address_at.present_is, d.adr_is)

  second_is : second_byte h ≡ byte p 1
  second_is =
      let l = d.second in
      omega (arith, d.route_at.present_is, d.add_is, d.source_segment_at.present_is, d.sseg_is, d.target_segment_at.present_is, d.dseg_is, d.version_is, d.cipher_is)

  -- the places are where the raw bytes have them
  size_at_is : d.size_at ≡ size_place p
  size_at_is = omega (arith, d.route_at.next_is, d.add_is)

  data_at_is : d.data_at ≡ header_length p
  data_at_is = omega (arith, size_at_is, d.source_segment_at.next_is, d.sseg_is, d.target_segment_at.next_is, d.dseg_is, d.target_address_at.next_is, d.adr_is, d.add_is)

  source_there : d.source_at < length p
  source_there = omega (arith, d.long, data_at_is, d.target_segment_at.next_is, d.target_address_at.next_is)

  size_there : d.size_at < length p
  size_there = omega (arith, source_there, d.source_segment_at.next_is)

  size_next : drop d.size_at p ≡ size p ∷ drop (d.size_at + 1) p
  size_next = drop_more p d.size_at 0 size_there ∙ ap (λ k. byte p k ∷ drop (d.size_at + 1) p) size_at_is

  source_next : drop d.source_at p ≡ h.source ∷ drop (d.source_at + 1) p
  source_next = drop_more p d.source_at 0 source_there ∙ ap (λ x. x ∷ drop (d.source_at + 1) p) (sym d.source_is)

  fields_are : drop 2 p
      ≡ (field h.route ++ size p ∷ (field h.source_segment ++ h.source ∷ (field h.target_segment ++ field h.target))) ++ drop d.data_at p
  fields_are =
      d.route_at.stands
      ∙ ap (λ x. field h.route ++ x)
      (size_next ∙ ap (λ x. size p ∷ x)
      (d.source_segment_at.stands ∙ ap (λ x. field h.source_segment ++ x)
      (source_next ∙ ap (λ x. h.source ∷ x)
      (d.target_segment_at.stands ∙ ap (λ x. field h.target_segment ++ x) d.target_address_at.stands))))
      ∙ sym (simp append_assoc)

  pub decoded_written : p ≡ header_bytes h (size p) ++ drop (header_length p) p
  decoded_written =
      let l : 1 < length p = omega (arith, size_there, d.route_at.next_is) in
      two_more p l
      ∙ two_same (sym first_is) (sym second_is) fields_are
      ∙ ap (λ k. header_bytes h (size p) ++ drop k p) data_at_is
