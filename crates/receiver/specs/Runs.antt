-- What comes of any list of calls, and what the answers stand for.
use Rattle.std.specs.Prelude.{◌≡◌, ℕ, suc, ◌+◌, ◌<◌, List, [], ◌∷◌, ◌++◌, length, replicate, Ok, Err}
use Rattle.receiver.specs.declared.answer.Answer.{Answer}
use Rattle.receiver.specs.declared.fault.ReceiverFault.{ReceiverFault}
use Rattle.receiver.specs.Wire.{Event, took, silence, tooks, bytes}
use Rattle.receiver.specs.Rules.{State, fresh, silenced, Said, noise, packet, waiting}
use Rattle.receiver.specs.Calls.{Called}

-- A receiver straight from its making, used by next and gap only, each next with a line and a buffer of its own, refused or not:
-- the receiver now, what it met, and what it said.
pub data Run (Packet : List ℕ → Type 0) : State → List Event → List Said → Type 0 where
  made : Run Packet fresh [] []
  gap : {s : State} {log : List Event} {said : List Said}
      → Run Packet s log said
      → Run Packet (silenced s) (log ++ silence ∷ []) said
  next : {s s' : State} {log : List Event} {said : List Said} {line buffer line' buffer' : List ℕ} {a : Answer}
      → Run Packet s log said
      → (c : Called Packet s line buffer (Ok a) s' line' buffer')
      → Run Packet s' (log ++ tooks c.1.taken) (said ++ c.1.said ∷ [])
  refused : {s s' : State} {log : List Event} {said : List Said} {line buffer line' buffer' : List ℕ} {f : ReceiverFault}
      → Run Packet s log said
      → Called Packet s line buffer (Err f) s' line' buffer'
      → Run Packet s' log said

-- A part of what came, as the answers divide it: one byte of noise, or a packet.
pub data Part : Type 0 where
  noisy : Part
  framed : List ℕ → Part

abbrev pub part : Said → List Part
part (noise n) = replicate n noisy
part (packet p) = framed p ∷ []
part waiting = []

abbrev pub parts : List Said → List Part
parts [] = []
parts (a ∷ said) = part a ++ parts said

-- how many bytes these are
abbrev pub size : List Part → ℕ
size [] = 0
size (noisy ∷ ps) = suc (size ps)
size (framed p ∷ ps) = length p + size ps

-- A packet has bytes on both sides of the point after k bytes.
abbrev pub Crosses : List Part → ℕ → Type 0
Crosses ps k =
    (before : List Part) × (p : List ℕ) × (after : List Part)
    × (ps ≡ before ++ framed p ∷ after) × (size before < k) × (k < size before + length p)

-- The parts, one after the other, and then the held bytes, are exactly the bytes that came. Each packet obeys the rules of
-- packets, and no gap is inside it.
pub data Told (Packet : List ℕ → Type 0) : List Part → List ℕ → List Event → Type 0 where
  then_held : {es : List Event} → Told Packet [] (bytes es) es
  after_gap : {ps : List Part} {h : List ℕ} {es : List Event} → Told Packet ps h es → Told Packet ps h (silence ∷ es)
  then_noise : {ps : List Part} {h : List ℕ} {es : List Event} (b : ℕ) → Told Packet ps h es → Told Packet (noisy ∷ ps) h (took b ∷ es)
  then_packet : {ps : List Part} {h : List ℕ} {es : List Event} (p : List ℕ) → Packet p → Told Packet ps h es
      → Told Packet (framed p ∷ ps) h (tooks p ++ es)
