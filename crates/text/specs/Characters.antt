-- The characters of UTF-8, as section 4 of RFC 3629 lists them.
use Rattle.std.specs.Prelude.{◌≡◌, ℕ, ◌≤◌, List, [], ◌∷◌}

-- b lies in the range from low to high
abbrev pub In : ℕ → ℕ → ℕ → Type 0
In low high b = (low ≤ b) × (b ≤ high)

-- a byte that goes on with a character
abbrev pub Tail : ℕ → Type 0
Tail b = In 0x80 0xBF b

-- b may stand after the first byte a: it is a tail, and after E0 from A0 on, after ED up to 9F, after F0 from 90 on, and
-- after F4 up to 8F. So no character is longer than it needs to be, none is a surrogate, and none is above 10FFFF
abbrev pub Second : ℕ → ℕ → Type 0
Second a b = Tail b × (a ≡ 0xE0 → 0xA0 ≤ b) × (a ≡ 0xED → b ≤ 0x9F) × (a ≡ 0xF0 → 0x90 ≤ b) × (a ≡ 0xF4 → b ≤ 0x8F)

-- the characters of one, two, three and four bytes, by the range of the first
abbrev pub One : ℕ → Type 0
One a = In 0x00 0x7F a

abbrev pub Two : ℕ → ℕ → Type 0
Two a b = In 0xC2 0xDF a × Second a b

abbrev pub Three : ℕ → ℕ → ℕ → Type 0
Three a b c = In 0xE0 0xEF a × Second a b × Tail c

abbrev pub Four : ℕ → ℕ → ℕ → ℕ → Type 0
Four a b c d = In 0xF0 0xF4 a × Second a b × Tail c × Tail d

-- the bytes of one character
pub data Character : List ℕ → Type 0 where
  one : {a : ℕ} → One a → Character (a ∷ [])
  two : {a b : ℕ} → Two a b → Character (a ∷ b ∷ [])
  three : {a b c : ℕ} → Three a b c → Character (a ∷ b ∷ c ∷ [])
  four : {a b c d : ℕ} → Four a b c d → Character (a ∷ b ∷ c ∷ d ∷ [])
