-- How a body ends after its fields.
use Rattle.std.specs.Prelude.{◌≡◌, ℕ, ◌%◌, ◌<◌, ◌≤◌, ◌⊎◌, List, length}
use Rattle.body.specs.declared.fault.MessageFault.{MessageFault}
use Rattle.body.specs.declared.fault.MessageFault.TheVariants as fault

-- after the fields nothing follows, or bytes of any kind, or variables
pub data Tail : Type 0 where
  nothing : Tail
  anything : Tail
  variables : Tail

-- variables of two bytes each, sixteen at most
pub record Linked (xs : List ℕ) : Type 0 where
  pub even : length xs % 2 ≡ 0
  pub few : length xs ≤ 32

-- the bytes are such an end
abbrev pub Fills : Tail → List ℕ → Type 0
Fills nothing xs = length xs ≡ 0
Fills anything xs = Unit {0}
Fills variables xs = Linked xs

-- what each fault says of the bytes where such an end should stand
abbrev pub TailWrong : MessageFault → Tail → List ℕ → Type 0
TailWrong fault.LeftOver t xs = (t ≡ nothing) × (0 < length xs)
TailWrong fault.Variables t xs = (t ≡ variables) × ((length xs % 2 ≡ 1) ⊎ (32 < length xs))
TailWrong fault.Cipher t xs = ⊥
TailWrong fault.Version t xs = ⊥
TailWrong fault.ErrorInRequest t xs = ⊥
TailWrong fault.TransactionCut t xs = ⊥
TailWrong fault.Cut t xs = ⊥
TailWrong fault.Reserved t xs = ⊥
TailWrong fault.Text t xs = ⊥
TailWrong (fault.Value g) t xs = ⊥
