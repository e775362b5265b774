-- The types of values, and the header that tells one.
use Rattle.std.specs.Prelude.{◌≡◌, ℕ, ◌+◌, ◌*◌, ◌/◌, ◌%◌, ◌<◌, ◌≤◌, ◌⊎◌, Result, MatchResult}
use Rattle.value.specs.declared.kind.Kind.{Kind}
use Rattle.value.specs.declared.kind.Kind.TheVariants as kind
use Rattle.value.specs.declared.kind.KindFault.{KindFault}
use Rattle.value.specs.declared.kind.KindFault.TheVariants as fault

-- the number of each type
abbrev pub type_number : Kind → ℕ
type_number kind.I8 = 2
type_number kind.U8 = 3
type_number kind.I16 = 4
type_number kind.U16 = 5
type_number kind.I32 = 6
type_number kind.U32 = 7
type_number kind.F32 = 8
type_number kind.I64 = 9
type_number kind.U64 = 10
type_number kind.F64 = 11
type_number kind.Text = 12
type_number kind.Time = 14
type_number kind.Bytes = 15

-- the numbers that no type has
abbrev pub Unused : ℕ → Type 0
Unused t = (t ≤ 1) ⊎ (t ≡ 13)

-- why no type has the number t
abbrev pub NoType : KindFault → ℕ → Type 0
NoType fault.Above t = 15 < t
NoType fault.Unused t = Unused t

-- the type that has the number t, or why none has
abbrev pub TypeTold : ℕ → Result Kind KindFault → Type 0
TypeTold t r = MatchResult r (λ k. type_number k ≡ t) (λ f. NoType f t)

-- a header: VAL in bit 7, 0 in bits 6 and 5, TYPE in bits 4 to 0
abbrev pub header_byte : ℕ → Kind → ℕ
header_byte val k = 128 * val + type_number k

-- VAL, the reserved bits and TYPE of any header byte
abbrev pub val_of : ℕ → ℕ
val_of h = h / 128

abbrev pub reserved_of : ℕ → ℕ
reserved_of h = h / 32 % 4

abbrev pub type_of : ℕ → ℕ
type_of h = h % 32

-- what the data of a type are: a signed or an unsigned whole number, a float or a time, in so many bytes; or a length of
-- two bytes and then so many bytes
pub data Form : Type 0 where
  signed : ℕ → Form
  unsigned : ℕ → Form
  floating : ℕ → Form
  timed : ℕ → Form
  counted : Form

abbrev pub form : Kind → Form
form kind.I8 = signed 1
form kind.U8 = unsigned 1
form kind.I16 = signed 2
form kind.U16 = unsigned 2
form kind.I32 = signed 4
form kind.U32 = unsigned 4
form kind.F32 = floating 4
form kind.I64 = signed 8
form kind.U64 = unsigned 8
form kind.F64 = floating 8
form kind.Text = counted
form kind.Time = timed 8
form kind.Bytes = counted
