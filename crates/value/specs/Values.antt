-- Universal values, and how they are written as bytes.
use Rattle.std.specs.Prelude.{◌≡◌, ℕ, ◌^◌, ◌<◌, List, [], ◌∷◌, length, ℤ}
use Rattle.basics.specs.Little.{little}
use Rattle.text.specs.Texts.{IsText}
use Rattle.fields.specs.Numbers.{complement}
use Rattle.value.specs.Signed.{FitsSigned}
use Rattle.fields.specs.Parts.{counted_part}
use Rattle.value.specs.Kinds.{header_byte, form, signed, unsigned, floating}
use Rattle.value.specs.Times.{LawfulTime, written_time}
use Rattle.value.specs.declared.kind.Kind.{Kind}
use Rattle.value.specs.declared.kind.Kind.TheVariants as kind
use Rattle.value.specs.declared.time.Time.{Time}
use Rattle.value.specs.declared.universal.Value.{Value}
use Rattle.value.specs.declared.universal.Value.TheVariants as value

-- a value: one that is absent, whose type is kept; a whole number or the bits of a float, with its type and its width in
-- bytes; a text; a time; an array of bytes
pub data Val : Type 0 where
  absent : Kind → Val
  integer : Kind → ℕ → ℤ → Val
  natural : Kind → ℕ → ℕ → Val
  float : Kind → ℕ → ℕ → Val
  text : List ℕ → Val
  time : Time → Val
  array : List ℕ → Val

-- the type of a value
abbrev pub kind_of : Val → Kind
kind_of (absent k) = k
kind_of (integer k w z) = k
kind_of (natural k w n) = k
kind_of (float k w n) = k
kind_of (text s) = kind.Text
kind_of (time t) = kind.Time
kind_of (array s) = kind.Bytes

-- whether data follow the header
abbrev pub val : Val → ℕ
val (absent k) = 0
val (integer k w z) = 1
val (natural k w n) = 1
val (float k w n) = 1
val (text s) = 1
val (time t) = 1
val (array s) = 1

-- the data
abbrev pub contents : Val → List ℕ
contents (absent k) = []
contents (integer k w z) = little w (complement w z)
contents (natural k w n) = little w n
contents (float k w n) = little w n
contents (text s) = counted_part s
contents (time t) = written_time t
contents (array s) = counted_part s

-- a value is written as its header and then its data
abbrev pub written : Val → List ℕ
written v = header_byte (val v) (kind_of v) ∷ contents v

-- a number is as its type says and fits its width; a part's length fits its two bytes
abbrev pub Lawful : Val → Type 0
Lawful (absent k) = Unit {0}
Lawful (integer k w z) = (form k ≡ signed w) × FitsSigned w z
Lawful (natural k w n) = (form k ≡ unsigned w) × (n < 256 ^ w)
Lawful (float k w n) = (form k ≡ floating w) × (n < 256 ^ w)
Lawful (text s) = (length s < 256 ^ 2) × IsText s
Lawful (time t) = LawfulTime t
Lawful (array s) = length s < 256 ^ 2

-- the value that the code's value stands for
abbrev pub meaning : Value → Val
meaning (value.Absent k) = absent k
meaning (value.I8 z) = integer kind.I8 1 z
meaning (value.U8 n) = natural kind.U8 1 n
meaning (value.I16 z) = integer kind.I16 2 z
meaning (value.U16 n) = natural kind.U16 2 n
meaning (value.I32 z) = integer kind.I32 4 z
meaning (value.U32 n) = natural kind.U32 4 n
meaning (value.F32 n) = float kind.F32 4 n
meaning (value.I64 z) = integer kind.I64 8 z
meaning (value.U64 n) = natural kind.U64 8 n
meaning (value.F64 n) = float kind.F64 8 n
meaning (value.Text t) = text t.bytes.now
meaning (value.Time t) = time t
meaning (value.Bytes s) = array s.now
