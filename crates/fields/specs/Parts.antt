-- Parts with their length at the front of bytes.
use Rattle.std.specs.Prelude.{◌≡◌, ℕ, ◌^◌, ◌<◌, ◌⊎◌, List, ◌++◌, length}
use Rattle.basics.specs.Little.{little}
use Rattle.text.specs.Texts.{IsText}
use Rattle.fields.specs.Numbers.{NumberFirst}
use Rattle.fields.specs.declared.part.TextFault.{TextFault}
use Rattle.fields.specs.declared.part.TextFault.TheVariants as fault

-- a part with its length: two bytes that tell how many follow, and these
abbrev pub counted_part : List ℕ → List ℕ
counted_part s = little 2 (length s) ++ s

-- xs begin with the part s and its length, and rest follows
abbrev pub PartFirst : List ℕ → List ℕ → List ℕ → Type 0
PartFirst s rest xs = (length s < 256 ^ 2) × (xs ≡ counted_part s ++ rest)

-- xs end before the length of a part, or before as many bytes as it tells
abbrev pub PartCut : List ℕ → Type 0
PartCut xs = (length xs < 2) ⊎ ((n : ℕ) × (rest : List ℕ) × NumberFirst 2 n rest xs × (length rest < n))

-- xs begin with a part that is no text
abbrev pub PartNoText : List ℕ → Type 0
PartNoText xs = (s : List ℕ) × (rest : List ℕ) × PartFirst s rest xs × (IsText s → ⊥)

-- xs begin with the text s and its length, and rest follows
abbrev pub TextFirst : List ℕ → List ℕ → List ℕ → Type 0
TextFirst s rest xs = IsText s × PartFirst s rest xs

-- why no text stands at the front of xs
abbrev pub TextWrong : TextFault → List ℕ → Type 0
TextWrong fault.Cut xs = PartCut xs
TextWrong fault.NoText xs = PartNoText xs
