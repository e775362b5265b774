-- Our packets are such as the law asks.
-- Assumes nothing.
use Rattle.std.proofs.Common.{ℕ, ◌+◌, ◌<◌, ◌≤◌, List, ◌++◌, length, Some, None, Option, sym, subst, arith}
use Rattle.basics.specs.Bytes.{Bytes}
use Rattle.basics.specs.Little.{little}
use Rattle.basics.proofs.Bytewise.{bytes_append}
use Rattle.basics.proofs.Littles.{bytes_little}
use Rattle.packet.specs.declared.header.Header.{Header}
use Rattle.packet.specs.Raw.{header_length}
use Rattle.packet.specs.Header.{field, Below, Lawful, header_bytes}
use Rattle.packet.specs.Packet.{Packet}
use Rattle.packet.proofs.Bits.{bit_most}
use Rattle.packet.proofs.Laid.{present_most, length_is, size_is}
use Rattle.packet.proofs.Unique.{one_reading}
use Rattle.receiver.proofs.PrefixCode.{PrefixCode}

pub header_most : (p : List ℕ) → header_length p ≤ 8
header_most p = omega arith

bytes_field : (o : Option ℕ) → Below 256 o → Bytes (field o)
bytes_field None b = tt
bytes_field (Some x) b = (b, tt)

route_byte : (o : Option ℕ) → Below 16 o → Below 256 o
route_byte None b = tt
route_byte (Some x) b = omega arith

bytes_header : (h : Header) (s : ℕ) → Lawful h → s < 256 → Bytes (header_bytes h s)
bytes_header h s l m =
    let a = present_most h.route in
    let b = present_most h.source_segment in
    let c = present_most h.target_segment in
    let d = present_most h.target in
    let e = bit_most h.priority in
    let v = l.version_most in
    let k = l.cipher_most in (
      omega arith,
      (
        omega arith,
        bytes_append (field h.route) _ (bytes_field h.route (route_byte h.route l.route_most)) (
          m,
          bytes_append (field h.source_segment) _ (bytes_field h.source_segment l.source_segment_byte) (
            l.source_byte,
            bytes_append (field h.target_segment) _ (bytes_field h.target_segment l.target_segment_byte) (bytes_field h.target l.target_byte),
          ),
        ),
      ),
    )

module _ (w : ℕ) (check : List ℕ → ℕ) where
  bytes_packet : (p : List ℕ) → Packet w check p → Bytes p
  bytes_packet p (h, m, r) =
      let z = r.size_most in
      subst Bytes (sym r.written)
      (bytes_append (header_bytes h (length m + w)) (m ++ little w (check m)) (bytes_header h (length m + w) r.lawful (omega arith))
      (bytes_append m (little w (check m)) r.message_bytes (bytes_little w (check m))))

  pub ours : PrefixCode (Packet w check)
  ours = record {
    bytewise = bytes_packet;
    filled = λ p k. omega (arith, length_is k.2);
    short = λ p k. omega (arith, length_is k.2, header_most p, size_is k.2, k.2.size_most);
    one_front = λ p q s t k j e. (one_reading w check p q s t k.0 j.0 k.1 j.1 k.2 j.2 e).0;
  }
