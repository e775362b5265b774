-- Texts, and the character at the front of bytes.
use Rattle.std.specs.Prelude.{◌≡◌, ℕ, List, [], ◌∷◌, ◌++◌}
use Rattle.text.specs.Characters.{Character}

-- a text is empty, or one character and then a text
pub data IsText : List ℕ → Type 0 where
  empty : IsText []
  next : {c s : List ℕ} → Character c → IsText s → IsText (c ++ s)

-- xs begin with a byte of which P holds, and rest follows
abbrev pub ByteFirst : (ℕ → Type 0) → List ℕ → List ℕ → Type 0
ByteFirst P rest xs = (b : ℕ) × P b × (xs ≡ b ∷ rest)

-- if xs begin with a byte, P holds of it
abbrev pub IfFirst : (ℕ → Type 0) → List ℕ → Type 0
IfFirst P xs = (b : ℕ) (rest : List ℕ) → xs ≡ b ∷ rest → P b

-- xs begin with a character, and rest follows
pub record CharacterFirst (rest xs : List ℕ) : Type 0 where
  pub first : List ℕ
  pub character : Character first
  pub bytes : xs ≡ first ++ rest

-- xs begin with nothing of the kind that R tells
abbrev pub Absent : (List ℕ → List ℕ → Type 0) → List ℕ → Type 0
Absent R xs = (rest : List ℕ) → R rest xs → ⊥
