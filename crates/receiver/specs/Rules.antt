-- The rules of next.
use Rattle.std.specs.Prelude.{◌≡◌, ℕ, suc, ◌<◌, Bool, true, false, List, [], ◌∷◌, ◌++◌}
use Rattle.receiver.specs.Wire.{Whole, Possible}

-- A receiver: whether it is open, and the bytes that it holds.
pub data State : Type 0 where
  state : Bool → List ℕ → State

abbrev pub Open : List ℕ → State
Open h = state true h

abbrev pub Closed : List ℕ → State
Closed h = state false h

abbrev pub held : State → List ℕ
held (state open? h) = h

-- the same receiver with other bytes
abbrev pub holding : State → List ℕ → State
holding (state open? h) h' = state open? h'

-- a receiver straight from its making
abbrev pub fresh : State
fresh = Open []

-- a receiver after a gap
abbrev pub silenced : State → State
silenced s = Closed (held s)

-- What next says: how many bytes are noise, which bytes are a packet, or that it waits for more.
pub data Said : Type 0 where
  noise : ℕ → Said
  packet : List ℕ → Said
  waiting : Said

-- What next does from a count n of dropped bytes on: the receiver and the line before, the bytes taken, what it says, and the
-- receiver and the line after. The first rule that fits is taken, so each says that those before it do not fit.
pub data Rules (Packet : List ℕ → Type 0) : ℕ → State → List ℕ → List ℕ → Said → State → List ℕ → Type 0 where
  -- 1,024 bytes are dropped
  rule_1 : {n : ℕ} {s : State} {line : List ℕ}
      → n ≡ 1024
      → Rules Packet n s line [] (noise n) s line
  -- the held bytes are whole
  rule_2_noise : {n : ℕ} {s : State} {line : List ℕ}
      → n < 1024 → 0 < n → Whole Packet (held s)
      → Rules Packet n s line [] (noise n) s line
  rule_2_packet : {s : State} {line : List ℕ} (p rest : List ℕ)
      → Packet p → held s ≡ p ++ rest
      → Rules Packet 0 s line [] (packet p) (holding s rest) line
  -- closed, and holds nothing
  rule_3_noise : {n : ℕ} {line : List ℕ}
      → n < 1024 → 0 < n
      → Rules Packet n (Closed []) line [] (noise n) (Open []) line
  rule_3_opens : {line taken line' : List ℕ} {a : Said} {s' : State}
      → Rules Packet 0 (Open []) line taken a s' line'
      → Rules Packet 0 (Closed []) line taken a s' line'
  -- closed, or what is held is not possible
  rule_4_closed : {n : ℕ} {b : ℕ} {h : List ℕ} {line taken line' : List ℕ} {a : Said} {s' : State}
      → n < 1024 → ¬ Whole Packet (b ∷ h)
      → Rules Packet (suc n) (Closed h) line taken a s' line'
      → Rules Packet n (Closed (b ∷ h)) line taken a s' line'
  rule_4_open : {n : ℕ} {b : ℕ} {h : List ℕ} {line taken line' : List ℕ} {a : Said} {s' : State}
      → n < 1024 → ¬ Whole Packet (b ∷ h) → ¬ Possible Packet (b ∷ h)
      → Rules Packet (suc n) (Open h) line taken a s' line'
      → Rules Packet n (Open (b ∷ h)) line taken a s' line'
  -- otherwise
  rule_5_takes : {n : ℕ} {b : ℕ} {h : List ℕ} {line taken line' : List ℕ} {a : Said} {s' : State}
      → n < 1024 → Possible Packet h
      → Rules Packet n (Open (h ++ b ∷ [])) line taken a s' line'
      → Rules Packet n (Open h) (b ∷ line) (b ∷ taken) a s' line'
  rule_5_noise : {n : ℕ} {h : List ℕ}
      → n < 1024 → 0 < n → Possible Packet h
      → Rules Packet n (Open h) [] [] (noise n) (Open h) []
  rule_5_waits : {h : List ℕ}
      → Possible Packet h
      → Rules Packet 0 (Open h) [] [] waiting (Open h) []
