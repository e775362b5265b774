-- Bytes with which nothing is wrong are a packet.
-- Assumes nothing.
use Rattle.std.proofs.Common.{◌≡◌, ℕ, ◌+◌, ◌<◌, ◌≤◌, Bool, true, false, eqb, List, length, drop, Some, None, Option, refl, ap, arith}
use Rattle.std.proofs.lemmas.List.{drop_more}
use Rattle.basics.specs.Bytes.{Bytes}
use Rattle.basics.specs.Little.{little}
use Rattle.packet.specs.declared.header.Header.{Header}
use Rattle.packet.specs.Raw.{byte, flag, version, cipher, end, message, check_bytes}
use Rattle.basics.specs.Bits.{bit}
use Rattle.packet.specs.Packet.{Packet}
use Rattle.packet.specs.Fields.{FieldAt}
use Rattle.packet.specs.Measured.{Measured}
use Rattle.packet.proofs.Bits.{bit_eqb}
use Rattle.packet.proofs.Decoding.{Decoded, decoded_lawful, decoded_written}
use Rattle.basics.proofs.Bytewise.{byte_below}
use Rattle.packet.proofs.Judging.{reading}

-- a field that stands where its flag is set
abbrev optional : Bool → ℕ → Option ℕ
optional true x = Some x
optional false x = None

field_at : (p : List ℕ) (k : ℕ) (there : Bool) → Bytes p → k + bit there ≤ length p → FieldAt p k there (optional there (byte p k)) (k + bit there)
field_at p k true b l = record { present_is = refl; next_is = refl; byte = byte_below p b k; stands = drop_more p k 0 (omega arith) }
field_at p k false b l = record { present_is = refl; next_is = refl; byte = tt; stands = ap (λ (i : ℕ). drop i p) (omega arith) }

module _ (w : ℕ) (check : List ℕ → ℕ) (p : List ℕ) (b : Bytes p) (header stop : ℕ) (m : Measured w p header stop) (l : length p ≡ end p) where
  flag_is : (x k : ℕ) → flag x k < 2 → bit (eqb (flag x k) 1) ≡ flag x k
  flag_is x k h = bit_eqb (flag x k) h

  add : Bool
  add = eqb (flag (byte p 1) 7) 1

  sseg : Bool
  sseg = eqb (flag (byte p 1) 6) 1

  dseg : Bool
  dseg = eqb (flag (byte p 1) 5) 1

  adr : Bool
  adr = eqb (flag (byte p 0) 3) 1

  add_is : bit add ≡ flag (byte p 1) 7
  unfolding add
  add_is = flag_is (byte p 1) 7 (omega arith)

  sseg_is : bit sseg ≡ flag (byte p 1) 6
  unfolding sseg
  sseg_is = flag_is (byte p 1) 6 (omega arith)

  dseg_is : bit dseg ≡ flag (byte p 1) 5
  unfolding dseg
  dseg_is = flag_is (byte p 1) 5 (omega arith)

  adr_is : bit adr ≡ flag (byte p 0) 3
  unfolding adr
  adr_is = flag_is (byte p 0) 3 (omega arith)

  abbrev size_at : ℕ
  size_at = 2 + bit add

  abbrev source_at : ℕ
  source_at = size_at + 1 + bit sseg

  abbrev target_at : ℕ
  target_at = source_at + 1 + bit dseg

  head : Header
  head = record {
    priority = eqb (flag (byte p 0) 7) 1;
    version = version p;
    cipher = cipher p;
    route = optional add (byte p 2);
    source_segment = optional sseg (byte p (size_at + 1));
    source = byte p source_at;
    target_segment = optional dseg (byte p (source_at + 1));
    target = optional adr (byte p target_at);
  }

  long : target_at + bit adr ≤ length p
  long = omega (arith, add_is, sseg_is, dseg_is, adr_is)

  decoded : Decoded p head
  unfolding head
  decoded = record {
    start = m.start;
    long = omega arith;
    second = byte_below p b 1;
    priority_is = flag_is (byte p 0) 7 (omega (arith, byte_below p b 0));
    version_is = refl;
    cipher_is = refl;
    source_byte = byte_below p b source_at;
    add = add;
    sseg = sseg;
    dseg = dseg;
    adr = adr;
    add_is = add_is;
    sseg_is = sseg_is;
    dseg_is = dseg_is;
    adr_is = adr_is;
    size_at = size_at;
    source_at = source_at;
    target_at = target_at;
    data_at = target_at + bit adr;
    route_at = field_at p 2 add b (omega (arith, long));
    source_segment_at = field_at p (size_at + 1) sseg b (omega (arith, long));
    source_is = refl;
    target_segment_at = field_at p (source_at + 1) dseg b (omega (arith, long));
    target_address_at = field_at p target_at adr b long;
  }

  pub packet_from : check_bytes w p ≡ little w (check (message w p)) → Packet w check p
  packet_from a =
      let z = byte_below p b (2 + flag (byte p 1) 7) in
      (head, message w p, reading check m head (decoded_lawful p head decoded) b l a (decoded_written p head decoded))
