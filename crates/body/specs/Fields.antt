-- The fields of a body: what each may hold, and how that is written.
use Rattle.std.specs.Prelude.{◌≡◌, ℕ, zero, suc, ◌^◌, ◌<◌, Bool, List, [], ◌∷◌, ◌++◌, length, Some, None, Option}
use Rattle.basics.specs.Bits.{bits, bit}
use Rattle.basics.specs.Little.{little}
use Rattle.fields.specs.Parts.{counted_part}
use Rattle.text.specs.Texts.{IsText}
use Rattle.value.specs.Values.{Val, written, Lawful}

-- a field: a number of so many bytes, in which so many bits from a bit on are reserved; the head of a list, whose entries
-- have values or not; a text; a value
pub data Field : Type 0 where
  word : (width from count : ℕ) → Field
  listing : Bool → Field
  text : Field
  value : Field

-- a number without reserved bits
abbrev pub number : ℕ → Field
number w = word w 0 0

-- what a field holds: a number, with its width in bytes; the bytes of a text; a value
pub data Item : Type 0 where
  whole : ℕ → ℕ → Item
  letters : List ℕ → Item
  universal : Val → Item

-- how it is written: a number with its lowest byte first, a text after its length
abbrev pub bytes : Item → List ℕ
bytes (whole w n) = little w n
bytes (letters s) = counted_part s
bytes (universal v) = written v

abbrev pub all_bytes : List Item → List ℕ
all_bytes [] = []
all_bytes (i ∷ is) = bytes i ++ all_bytes is

-- a number fits its bytes, and its reserved bits are 0
pub record FitsWord (width from count n : ℕ) : Type 0 where
  pub low : n < 256 ^ width
  pub reserved : bits from count n ≡ 0

-- the item is one that the field may hold
abbrev pub Fits : Field → Item → Type 0
Fits (word w from count) (whole v n) = (v ≡ w) × FitsWord w from count n
Fits (word w from count) (letters s) = ⊥
Fits (word w from count) (universal v) = ⊥
Fits (listing valued) (whole v n) = (v ≡ 2) × FitsWord 2 12 2 n
Fits (listing valued) (letters s) = ⊥
Fits (listing valued) (universal v) = ⊥
Fits text (whole v n) = ⊥
Fits text (letters s) = (length s < 256 ^ 2) × IsText s
Fits text (universal v) = ⊥
Fits value (whole v n) = ⊥
Fits value (letters s) = ⊥
Fits value (universal v) = Lawful v

-- fields that stand where a flag is 1, and where it is 0
abbrev pub when : ℕ → List Field → List Field
when zero fs = []
when (suc n) fs = fs

abbrev pub unless : ℕ → List Field → List Field
unless zero fs = fs
unless (suc n) fs = []

-- what such fields hold
abbrev pub items_if : {X : Type 0} → (X → List Item) → Option X → List Item
items_if items None = []
items_if items (Some x) = items x

-- an entry of a list with the flags DA and NN: an id; without NN, a name; with DA, a sub-device, a function and a group;
-- and a value in a list that has values
abbrev pub entry : Bool → ℕ → ℕ → List Field
entry valued DA NN = number 4 ∷ (unless NN (text ∷ []) ++ (when DA (number 2 ∷ number 1 ∷ number 1 ∷ []) ++ when (bit valued) (value ∷ [])))

abbrev pub times : ℕ → List Field → List Field
times zero fs = []
times (suc n) fs = fs ++ times n fs

-- the fields that what a field holds asks for: the head of a list has DA in bit 15, NN in bit 14 and the count of the
-- entries in bits 11 to 0
abbrev pub asked : Field → Item → List Field
asked (word w from count) i = []
asked (listing valued) (whole w h) = times (bits 0 12 h) (entry valued (bits 15 1 h) (bits 14 1 h))
asked (listing valued) (letters s) = []
asked (listing valued) (universal v) = []
asked text i = []
asked value i = []

-- the items are lawful in the first of the fields, and the fields `left` are left
abbrev pub Stand : List Field → List Item → List Field → Type 0
Stand fs [] left = fs ≡ left
Stand [] (i ∷ is) left = ⊥
Stand (f ∷ fs) (i ∷ is) left = Fits f i × Stand (asked f i ++ fs) is left
