-- What a packet is, under a check of w bytes that gives a message its number.
use Rattle.std.specs.Prelude.{◌≡◌, ℕ, ◌+◌, ◌≤◌, List, ◌++◌, length}
use Rattle.basics.specs.Bytes.{Bytes}
use Rattle.basics.specs.Little.{little}
use Rattle.packet.specs.declared.header.Header.{Header}
use Rattle.packet.specs.Header.{Lawful, header_bytes}

-- These bytes are the packet with this header and this message: they are the header, the message, and the message's check in w
-- bytes, the lowest first. The size counts the message and its check, and a message has at least two bytes.
pub record Reads (w : ℕ) (check : List ℕ → ℕ) (p : List ℕ) (h : Header) (message : List ℕ) : Type 0 where
  pub lawful : Lawful h
  pub message_bytes : Bytes message
  pub message_least : 2 ≤ length message
  pub size_most : length message + w ≤ 255
  pub written : p ≡ header_bytes h (length message + w) ++ (message ++ little w (check message))

-- these bytes are a packet
abbrev pub Packet : ℕ → (List ℕ → ℕ) → List ℕ → Type 0
Packet w check p = (h : Header) × (message : List ℕ) × Reads w check p h message

-- A list begins with at most one packet, and that has one reading.
abbrev pub OneReading : ℕ → (List ℕ → ℕ) → Type 0
OneReading w check =
    (p q s t : List ℕ) (h k : Header) (m n : List ℕ)
    → Reads w check p h m → Reads w check q k n → p ++ s ≡ q ++ t
    → (p ≡ q) × (h ≡ k) × (m ≡ n)
