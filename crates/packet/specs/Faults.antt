-- What is wrong with bytes that are no packet, and where.
use Rattle.std.specs.Prelude.{◌≡◌, ℕ, ◌+◌, ◌<◌, ◌≤◌, Bool, List, length}
use Rattle.basics.specs.Little.{little}
use Rattle.packet.specs.declared.fault.PacketFault.{PacketFault}
use Rattle.packet.specs.declared.fault.PacketFault.TheVariants.{CutShort, FirstByte, Version, Cipher, Route, Size, Check, LeftOver}
use Rattle.packet.specs.Raw.{byte, flag, version, cipher, size_place, size, end, check_place, message, check_bytes}
use Rattle.basics.specs.Bits.{bit}
use Rattle.packet.specs.Header.{first_byte}
use Rattle.packet.specs.Packet.{Packet}
use Rattle.packet.specs.Numbers.{number}

-- the byte is PRI 1 1 1 ADR 1 0 1
abbrev pub Opens : ℕ → Type 0
Opens b = (pri : Bool) × (adr : Bool) × (b ≡ first_byte (bit pri) (bit adr))

-- What each fault says of the bytes p. A field is judged where its byte is there; a check is judged in data that are all there and
-- have room for it.
abbrev pub Wrong : ℕ → (List ℕ → ℕ) → List ℕ → PacketFault → Type 0
Wrong w check p CutShort = length p < end p
Wrong w check p FirstByte = (0 < length p) × ¬ Opens (byte p 0)
Wrong w check p Version = (1 < length p) × (version p ≡ 0)
Wrong w check p Cipher = (1 < length p) × (3 < cipher p)
Wrong w check p Route = (2 < length p) × (flag (byte p 1) 7 ≡ 1) × (15 < byte p 2)
Wrong w check p Size = (size_place p < length p) × (size p < w + 2)
Wrong w check p Check = (end p ≤ length p) × (w + 2 ≤ size p) × ¬ (check_bytes w p ≡ little w (check (message w p)))
Wrong w check p LeftOver = end p < length p

-- where each is told
abbrev pub place : ℕ → List ℕ → PacketFault → ℕ
place w p CutShort = length p
place w p FirstByte = 0
place w p Version = 1
place w p Cipher = 1
place w p Route = 2
place w p Size = size_place p
place w p Check = check_place w p
place w p LeftOver = end p

-- The bytes p are refused for the fault f at the place k: they are no packet, f is wrong with them and stands at k, and
-- nothing that is wrong with them stands before it, or at the same place with a lower number.
pub record Refused (w : ℕ) (check : List ℕ → ℕ) (p : List ℕ) (f : PacketFault) (k : ℕ) : Type 0 where
  pub no_packet : ¬ Packet w check p
  pub wrong : Wrong w check p f
  pub placed : k ≡ place w p f
  pub first : (g : PacketFault) → Wrong w check p g → (place w p f ≤ place w p g) × (place w p f ≡ place w p g → number f ≤ number g)
