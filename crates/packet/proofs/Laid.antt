-- Where the parts of a packet stand among its bytes; nothing is wrong with a packet.
-- Assumes nothing.
use Rattle.std.proofs.Common.{◌≡◌, ℕ, ◌+◌, ◌-◌, ◌/◌, ◌%◌, ◌≤◌, Bool, true, false, List, ◌∷◌, ◌++◌, length, take, drop, Some, None, Option, sym, refl, ap, ◌∙◌, subst, arith, length-append}
use Rattle.std.proofs.lemmas.List.{take_at, drop_at, take_all, drop-drop}
use Rattle.basics.specs.Little.{little}
use Rattle.basics.proofs.Littles.{length_little}
use Rattle.packet.specs.declared.header.Header.{Header}
use Rattle.packet.specs.declared.fault.PacketFault.{PacketFault}
use Rattle.packet.specs.declared.fault.PacketFault.TheVariants.{CutShort, FirstByte, Version, Cipher, Route, Size, Check, LeftOver}
use Rattle.packet.specs.Raw.{byte, flag, header_length, size, end, check_place, message, check_bytes}
use Rattle.basics.specs.Bits.{bit, present}
use Rattle.packet.specs.Header.{field, Below, Lawful, first_byte, second_byte, header_bytes}
use Rattle.packet.specs.Packet.{Reads, Packet}
use Rattle.packet.specs.Faults.{Opens, Wrong}
use Rattle.packet.proofs.Bits.{bit_most}

pub present_most : (o : Option ℕ) → present o ≤ 1
present_most None = omega arith
present_most (Some x) = omega arith

length_field : (o : Option ℕ) → length (field o) ≡ present o
length_field None = refl
length_field (Some x) = refl

length_with : (o : Option ℕ) (xs : List ℕ) → length (field o ++ xs) ≡ present o + length xs
length_with o xs = length-append (field o) xs ∙ ap (λ n. n + length xs) (length_field o)

-- how many of the optional fields are there
abbrev pub extras : Header → ℕ
extras h = present h.route + present h.source_segment + present h.target_segment + present h.target

pub length_header : (h : Header) (s : ℕ) → length (header_bytes h s) ≡ 4 + extras h
length_header h s =
    let d = length_field h.target in
    let c = length_with h.target_segment (field h.target) in
    let b = length_with h.source_segment (h.source ∷ (field h.target_segment ++ field h.target)) in
    let a = length_with h.route (s ∷ (field h.source_segment ++ h.source ∷ (field h.target_segment ++ field h.target))) in
    omega (arith, a, b, c, d)

-- the size stands after the route, and the route at the place 2
size_after : (a b : ℕ) (o : Option ℕ) (s : ℕ) (xs ys : List ℕ) → byte ((a ∷ b ∷ (field o ++ s ∷ xs)) ++ ys) (2 + present o) ≡ s
size_after a b None s xs ys = refl
size_after a b (Some x) s xs ys = refl

route_at : (a b : ℕ) (o : Option ℕ) (xs ys : List ℕ) → Below 16 o → present o ≡ 1 → byte ((a ∷ b ∷ (field o ++ xs)) ++ ys) 2 ≤ 15
route_at a b None xs ys l e = absurd (omega arith)
route_at a b (Some x) xs ys l e = omega arith

-- what the two flag bytes of a written header say
pub record FlagsOf (h : Header) : Type 0 where
  pub pri : flag (first_byte (bit h.priority) (present h.target)) 7 ≡ bit h.priority
  pub adr : flag (first_byte (bit h.priority) (present h.target)) 3 ≡ present h.target
  pub add : flag (second_byte h) 7 ≡ present h.route
  pub sseg : flag (second_byte h) 6 ≡ present h.source_segment
  pub dseg : flag (second_byte h) 5 ≡ present h.target_segment
  pub ver : second_byte h / 8 % 4 ≡ h.version
  pub ciph : second_byte h % 8 ≡ h.cipher

pub flags_of : (h : Header) → Lawful h → FlagsOf h
flags_of h l =
    let a = present_most h.route in
    let b = present_most h.source_segment in
    let c = present_most h.target_segment in
    let d = present_most h.target in
    let e = bit_most h.priority in
    let v = l.version_most in
    let k = l.cipher_most in
    record { pri = omega arith; adr = omega arith; add = omega arith; sseg = omega arith; dseg = omega arith; ver = omega arith; ciph = omega arith }

module _ {w : ℕ} {check : List ℕ → ℕ} {p : List ℕ} {h : Header} {m : List ℕ} (r : Reads w check p h m) where
  pub first_is : byte p 0 ≡ first_byte (bit h.priority) (present h.target)
  first_is = ap (λ l. byte l 0) r.written

  pub second_is : byte p 1 ≡ second_byte h
  second_is = ap (λ l. byte l 1) r.written

  pub add_is : flag (byte p 1) 7 ≡ present h.route
  add_is = ap (λ b. flag b 7) second_is ∙ (flags_of h r.lawful).add

  route_is : flag (byte p 1) 7 ≡ 1 → byte p 2 ≤ 15
  route_is e = subst (λ l. byte l 2 ≤ 15) (sym r.written) (route_at 0 0 h.route _ _ r.lawful.route_most (sym add_is ∙ e))

  pub size_is : size p ≡ length m + w
  size_is = ap (λ k. byte p (2 + k)) add_is ∙ ap (λ l. byte l (2 + present h.route)) r.written ∙ size_after _ _ h.route _ _ _

  pub header_is : header_length p ≡ length (header_bytes h (length m + w))
  header_is =
      let f = flags_of h r.lawful in
      rw (second_is, first_is) (omega (arith, f.add, f.sseg, f.dseg, f.adr, length_header h (length m + w)))

  pub length_is : length p ≡ end p
  length_is =
      ap length r.written
      ∙ length-append (header_bytes h (length m + w)) (m ++ little w (check m))
      ∙ omega (arith, header_is, size_is, length-append m (little w (check m)), length_little w (check m))

  data_is : drop (header_length p) p ≡ m ++ little w (check m)
  data_is = ap (λ l. drop (header_length p) l) r.written ∙ drop_at (header_bytes h (length m + w)) (m ++ little w (check m)) (header_length p) (sym header_is)

  pub message_is : message w p ≡ m
  message_is = ap (λ l. take (size p - w) l) data_is ∙ take_at m (little w (check m)) (size p - w) (omega (arith, size_is))

  pub check_is : check_bytes w p ≡ little w (check m)
  check_is =
      let e : check_place w p ≡ header_length p + length m = omega (arith, size_is) in
      ap (λ k. take w (drop k p)) e
      ∙ ap (take w) (sym (drop-drop (length m) (header_length p) p) ∙ ap (drop (length m)) data_is ∙ drop_at m (little w (check m)) (length m) refl)
      ∙ take_all w (little w (check m)) (omega (arith, length_little w (check m)))

present_opens : (pri : Bool) (o : Option ℕ) (b : ℕ) → b ≡ first_byte (bit pri) (present o) → Opens b
present_opens pri None b e = (pri, false, e)
present_opens pri (Some x) b e = (pri, true, e)

-- nothing is wrong with a packet
pub sound : {w : ℕ} {check : List ℕ → ℕ} {p : List ℕ} → Packet w check p → (f : PacketFault) → ¬ Wrong w check p f
sound (h, m, r) CutShort x = omega (arith, length_is r, x)
sound (h, m, r) FirstByte x = x.1 (present_opens h.priority h.target _ (first_is r))
sound (h, m, r) Version x = omega (arith, (flags_of h r.lawful).ver, second_is r, x.1, r.lawful.version_least)
sound (h, m, r) Cipher x = omega (arith, (flags_of h r.lawful).ciph, second_is r, x.1, r.lawful.cipher_most)
sound (h, m, r) Route x = omega (arith, route_is r x.1, x.2)
sound (h, m, r) Size x = omega (arith, size_is r, r.message_least, x.1)
sound {w = w} {check = check} (h, m, r) Check x = x.2 (check_is r ∙ ap (λ l. little w (check l)) (sym (message_is r)))
sound (h, m, r) LeftOver x = omega (arith, length_is r, x)
