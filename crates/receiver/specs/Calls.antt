-- One call of next.
use Rattle.std.specs.Prelude.{◌≡◌, ℕ, ◌<◌, ◌≤◌, List, ◌++◌, length, drop, Ok, Err, Result}
use Rattle.receiver.specs.declared.answer.Answer.{Answer}
use Rattle.receiver.specs.declared.answer.Answer.TheVariants.{Packet as Found, Noise, Waiting}
use Rattle.receiver.specs.declared.fault.ReceiverFault.{ReceiverFault}
use Rattle.receiver.specs.declared.fault.ReceiverFault.TheVariants.{ShortBuffer}
use Rattle.receiver.specs.Rules.{State, Said, noise, packet, waiting, Rules}

-- what the caller is answered for what next says: of a packet, its length
abbrev pub shown : Said → Answer
shown (noise n) = Noise n
shown (packet p) = Found (length p)
shown waiting = Waiting

-- the buffer afterwards: a packet stands at its front, and nothing else of it is altered
abbrev pub written : Said → List ℕ → List ℕ
written (noise n) buffer = buffer
written (packet p) buffer = p ++ drop (length p) buffer
written waiting buffer = buffer

-- From a count n on, next did as the rules say: the receiver, the line and the buffer before, the answer, and the three after.
pub record Answered (Packet : List ℕ → Type 0) (n : ℕ) (s : State) (line buffer : List ℕ) (answer : Answer) (s' : State) (line' buffer' : List ℕ) : Type 0 where
  pub taken : List ℕ
  pub said : Said
  pub by_rules : Rules Packet n s line taken said s' line'
  pub answers : answer ≡ shown said
  pub writes : buffer' ≡ written said buffer

-- One call of next. A buffer under 263 bytes is refused before anything happens.
abbrev pub Called : (List ℕ → Type 0) → State → List ℕ → List ℕ → Result Answer ReceiverFault → State → List ℕ → List ℕ → Type 0
Called Packet s line buffer (Ok a) s' line' buffer' = (263 ≤ length buffer) × Answered Packet 0 s line buffer a s' line' buffer'
Called Packet s line buffer (Err f) s' line' buffer' =
    (length buffer < 263) × (f ≡ ShortBuffer) × (s' ≡ s) × (line' ≡ line) × (buffer' ≡ buffer)
