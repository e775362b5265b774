-- One rule, as the loop of next applies it.
use Rattle.std.specs.Prelude.{◌≡◌, ℕ, ◌+◌, ◌-◌, ◌*◌, ◌<◌, ◌≤◌, true, false, List, ◌++◌, length}
use Rattle.std.specs.declared.ops.ControlFlow.{ControlFlow}
use Rattle.std.specs.declared.ops.ControlFlow.TheVariants.{Break, Continue}
use Rattle.receiver.specs.declared.answer.Answer.{Answer}
use Rattle.receiver.specs.Rules.{State, state, Said, Rules}
use Rattle.receiver.specs.Calls.{Answered}

-- what the rules do from the second place on, they do from the first on, with the bytes taken between
pub record Leads (Packet : List ℕ → Type 0) (n : ℕ) (s : State) (line : List ℕ) (n' : ℕ) (s' : State) (line' : List ℕ) : Type 0 where
  pub between : List ℕ
  pub onward : (taken : List ℕ) (a : Said) (s'' : State) (line'' : List ℕ)
      → Rules Packet n' s' line' taken a s'' line'' → Rules Packet n s line (between ++ taken) a s'' line''

-- the turns that are left: two for each byte that may still be dropped, one for each that may still be held, and one to open
abbrev pub left : ℕ → State → ℕ
left n (state true h) = 2 * (1024 - n) + (263 - length h)
left n (state false h) = 2 * (1024 - n) + (263 - length h + 1)

-- From a count n on, one rule answered; or it led on to the count n', and left the buffer alone.
abbrev pub Stepped : (List ℕ → Type 0) → ℕ → State → List ℕ → List ℕ → ControlFlow Answer ℕ → State → List ℕ → List ℕ → Type 0
Stepped Packet n s line buffer (Break a) s' line' buffer' = Answered Packet n s line buffer a s' line' buffer'
Stepped Packet n s line buffer (Continue n') s' line' buffer' =
    (n' ≤ 1024) × Leads Packet n s line n' s' line' × (buffer' ≡ buffer) × (left n' s' < left n s)
