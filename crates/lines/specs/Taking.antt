-- What taking from a line answers, over the bytes that waited before and those that wait after.
use Rattle.std.specs.Prelude.{◌≡◌, ℕ, List, [], ◌∷◌, Some, None, Option}

-- A byte is the first of those that waited, and it alone is removed. None is answered of the empty list alone, which stays empty.
abbrev pub Taken : Option ℕ → List ℕ → List ℕ → Type 0
Taken (Some b) before after = before ≡ b ∷ after
Taken None before after = (before ≡ []) × (after ≡ [])
