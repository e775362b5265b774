-- What came over the wire, and what the beginning of a packet is. What a packet is stands open here.
use Rattle.std.specs.Prelude.{◌≡◌, ℕ, Bool, true, false, List, [], ◌∷◌, ◌++◌}
use Rattle.basics.specs.Bytes.{Bytes}

-- What a receiver met, the oldest first: a byte that it took, or a gap, when the wire fell silent.
pub data Event : Type 0 where
  took : ℕ → Event
  silence : Event

-- these bytes taken one after the other, with no gap between them
abbrev pub tooks : List ℕ → List Event
tooks [] = []
tooks (b ∷ bs) = took b ∷ tooks bs

-- the bytes taken
abbrev pub bytes : List Event → List ℕ
bytes [] = []
bytes (took b ∷ es) = b ∷ bytes es
bytes (silence ∷ es) = bytes es

-- the bytes up to the first gap
abbrev pub stretch : List Event → List ℕ
stretch [] = []
stretch (took b ∷ es) = b ∷ stretch es
stretch (silence ∷ es) = []

-- a byte comes at some time
abbrev pub byte_later : List Event → Bool
byte_later [] = false
byte_later (took b ∷ es) = true
byte_later (silence ∷ es) = byte_later es

-- a gap comes first, and a byte at some time after it
abbrev pub gap_first : List Event → Bool
gap_first [] = false
gap_first (took b ∷ es) = false
gap_first (silence ∷ es) = byte_later es

-- Each byte taken, and whether a gap stands between it and the next one. Two gaps in a row are one; a gap before the first
-- byte, or after the last, is not told.
abbrev pub laid : List Event → List (ℕ × Bool)
laid [] = []
laid (took b ∷ es) = (b, gap_first es) ∷ laid es
laid (silence ∷ es) = laid es

-- some first bytes are a packet
abbrev pub Whole : (List ℕ → Type 0) → List ℕ → Type 0
Whole Packet h = (p : List ℕ) × (rest : List ℕ) × Packet p × (h ≡ p ++ rest)

-- not whole, and bytes could be added to make it whole
abbrev pub Possible : (List ℕ → Type 0) → List ℕ → Type 0
Possible Packet h = (¬ Whole Packet h) × ((more : List ℕ) × Bytes more × Whole Packet (h ++ more))

-- The first byte of these begins a packet: some first bytes of its stretch are one.
abbrev pub Begins : (List ℕ → Type 0) → List Event → Type 0
Begins Packet es = Whole Packet (stretch es)
