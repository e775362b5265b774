-- A packet behind a false start.
-- Assumes nothing.
use Rattle.std.proofs.Common.{◌≡◌, ℕ, false, List, [], ◌∷◌, None, sym, refl, subst, append-nil, arith, lit<}
use Rattle.basics.specs.Bytes.{Bytes}
use Rattle.checks.specs.Crc16.{crc16_of}
use Rattle.packet.specs.declared.fault.PacketFault.TheVariants.{FirstByte}
use Rattle.packet.specs.Packet.{Packet}
use Rattle.packet.specs.Faults.{Opens}
use Rattle.packet.specs.Measured.{Measured}
use Rattle.packet.proofs.Bits.{opens_to}
use Rattle.packet.proofs.Laid.{sound}
use Rattle.receiver.specs.Wire.{Whole, Possible}
use Rattle.receiver.specs.Rules.{noise, packet, rule_2_noise, rule_2_packet, rule_4_closed}
use Rattle.receiver.specs.Examples.{some_packet, behind_false_start, FalseStart}
use Rattle.receiver.proofs.Ours.{ours}
use Rattle.receiver.proofs.Alive.{awaited}
use Rattle.receiver.proofs.Completing.{agreeing_none}
use Rattle.receiver.proofs.Verdicts.{unfinished}

is_packet : Packet 2 crc16_of some_packet
is_packet = (
  record { priority = false; version = 1; cipher = 0; route = None; source_segment = None; source = 5; target_segment = None; target = None },
  0x11 ∷ 0x11 ∷ 0x07 ∷ 0x00 ∷ 0x02 ∷ 0x01 ∷ [],
  record {
    lawful = record {
      version_least = omega arith;
      version_most = omega arith;
      cipher_most = omega arith;
      route_most = tt;
      source_segment_byte = tt;
      source_byte = omega arith;
      target_segment_byte = tt;
      target_byte = tt;
    };
    message_bytes = (omega arith, (omega arith, (omega arith, (omega arith, (omega arith, (omega arith, tt))))));
    message_least = omega arith;
    size_most = omega arith;
    written = refl;
  },
)

-- a byte that opens no header
begins_none : (b : ℕ) (h : List ℕ) → ¬ Opens b → ¬ Whole (Packet 2 crc16_of) (b ∷ h)
begins_none b h n ([], rest, k, e) = absurd (omega (arith, (ours 2 crc16_of).filled [] k))
begins_none b h n (c ∷ p, rest, k, e) = let same : c ≡ b = cc in sound k FirstByte (omega arith, λ o. n (subst Opens same o))

measured : Measured 2 behind_false_start 4 259
measured = record {
  start = record { opens = (false, false, refl); version_least = omega arith; cipher_most = omega arith; route_most = λ e. absurd (omega arith) };
  size_there = omega arith;
  size_least = omega arith;
  header_is = refl;
  end_is = refl;
}

are_bytes : Bytes behind_false_start
are_bytes = (lit< tt, (lit< tt, (lit< tt, (lit< tt, (lit< tt, (lit< tt, (lit< tt, (lit< tt, (lit< tt, (lit< tt, (lit< tt, (lit< tt, (lit< tt, (lit< tt, (lit< tt, (lit< tt, tt))))))))))))))))

is_possible : Possible (Packet 2 crc16_of) behind_false_start
is_possible = (unfinished 2 crc16_of refl are_bytes measured (omega arith) (agreeing_none 2 crc16_of behind_false_start (omega arith))).0

pub false_start : FalseStart
false_start buffer l = (
  awaited (Packet 2 crc16_of) (ours 2 crc16_of) behind_false_start buffer is_possible l,
  (
    l,
    record {
      taken = [];
      said = noise 4;
      by_rules =
          rule_4_closed (omega arith) is_possible.0
          (rule_4_closed (omega arith) (begins_none 0x08 _ (λ o. opens_to 0x08 o))
          (rule_4_closed (omega arith) (begins_none 0xFF _ (λ o. opens_to 0xFF o))
          (rule_4_closed (omega arith) (begins_none 0x05 _ (λ o. opens_to 0x05 o))
          (rule_2_noise (omega arith) (omega arith) (some_packet, [], is_packet, sym (append-nil some_packet))))));
      answers = refl;
      writes = refl;
    },
  ),
  (l, record { taken = []; said = packet some_packet; by_rules = rule_2_packet some_packet [] is_packet (sym (append-nil some_packet)); answers = refl; writes = refl }),
)
