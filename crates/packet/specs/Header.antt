-- How a lawful header is written.
use Rattle.std.specs.Prelude.{ℕ, ◌+◌, ◌*◌, ◌<◌, ◌≤◌, List, [], ◌∷◌, ◌++◌, Some, None, Option}
use Rattle.basics.specs.Bits.{bit, present}
use Rattle.packet.specs.declared.header.Header.{Header}

-- the bytes of an optional field
abbrev pub field : Option ℕ → List ℕ
field None = []
field (Some x) = x ∷ []

abbrev pub Below : ℕ → Option ℕ → Type 0
Below k None = Unit {0}
Below k (Some x) = x < k

-- VER is 1 to 3, CIPH is 0 to 3, a route is below 16, and every other field is a byte
pub record Lawful (h : Header) : Type 0 where
  pub version_least : 1 ≤ h.version
  pub version_most : h.version ≤ 3
  pub cipher_most : h.cipher ≤ 3
  pub route_most : Below 16 h.route
  pub source_segment_byte : Below 256 h.source_segment
  pub source_byte : h.source < 256
  pub target_segment_byte : Below 256 h.target_segment
  pub target_byte : Below 256 h.target

-- PRI 1 1 1 ADR 1 0 1
abbrev pub first_byte : ℕ → ℕ → ℕ
first_byte pri adr = 128 * pri + 8 * adr + 0x75

-- ADD SSEG DSEG VER(2) CIPH(3)
abbrev pub second_byte : Header → ℕ
second_byte h =
    128 * present h.route + 64 * present h.source_segment + 32 * present h.target_segment + 8 * h.version + h.cipher

-- the header of a packet whose data have this size
abbrev pub header_bytes : Header → ℕ → List ℕ
header_bytes h size =
    first_byte (bit h.priority) (present h.target) ∷ second_byte h
    ∷ (field h.route ++ size ∷ (field h.source_segment ++ h.source ∷ (field h.target_segment ++ field h.target)))
