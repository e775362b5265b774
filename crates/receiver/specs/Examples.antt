-- A packet behind a false start.
use Rattle.std.specs.Prelude.{ℕ, ◌≤◌, List, [], ◌∷◌, ◌++◌, length, drop, Ok}
use Rattle.checks.specs.Crc16.{crc16_of}
use Rattle.packet.specs.Packet.{Packet}
use Rattle.receiver.specs.declared.answer.Answer.TheVariants.{Packet as Found, Noise, Waiting}
use Rattle.receiver.specs.Rules.{fresh, silenced, Open, Closed}
use Rattle.receiver.specs.Calls.{Called}

-- a packet under CRC-16
abbrev pub some_packet : List ℕ
some_packet = 0x75 ∷ 0x08 ∷ 0x08 ∷ 0x05 ∷ 0x11 ∷ 0x11 ∷ 0x07 ∷ 0x00 ∷ 0x02 ∷ 0x01 ∷ 0x3E ∷ 0x8D ∷ []

-- the same behind a header whose size is 255
abbrev pub behind_false_start : List ℕ
behind_false_start = 0x75 ∷ 0x08 ∷ 0xFF ∷ 0x05 ∷ some_packet

-- The receiver waits and holds all 16 bytes; after a gap it answers noise 4, and then the packet.
abbrev pub FalseStart : Type 0
FalseStart =
    (buffer : List ℕ) → 263 ≤ length buffer
    → Called (Packet 2 crc16_of) fresh behind_false_start buffer (Ok Waiting) (Open behind_false_start) [] buffer
    × Called (Packet 2 crc16_of) (silenced (Open behind_false_start)) [] buffer (Ok (Noise 4)) (Closed some_packet) [] buffer
    × Called (Packet 2 crc16_of) (Closed some_packet) [] buffer (Ok (Found 12)) (Closed []) [] (some_packet ++ drop 12 buffer)
