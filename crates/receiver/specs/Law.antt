-- The law of the receiver.
use Rattle.std.specs.Prelude.{◌≡◌, ℕ, ◌≤◌, List, [], ◌∷◌, ◌++◌, length, drop, Ok, Result}
use Rattle.receiver.specs.declared.answer.Answer.{Answer}
use Rattle.receiver.specs.declared.answer.Answer.TheVariants.{Packet as Found, Waiting}
use Rattle.receiver.specs.declared.fault.ReceiverFault.{ReceiverFault}
use Rattle.receiver.specs.Wire.{Event, took, bytes, laid, Possible, Begins}
use Rattle.receiver.specs.Rules.{State, Open, held, Said}
use Rattle.receiver.specs.Calls.{Called}
use Rattle.receiver.specs.Runs.{Run, Part, noisy, parts, size, Crosses, Told}

-- What holds after every list of calls.
pub record Law (Packet : List ℕ → Type 0) : Type 0 where
  -- what a call took is what left its line
  pub left_the_line : (s s' : State) (line buffer line' buffer' : List ℕ) (a : Answer)
      → (c : Called Packet s line buffer (Ok a) s' line' buffer')
      → line ≡ c.1.taken ++ line'
  -- packets and noise in the order answered, and then the held bytes, are the bytes that left the lines
  pub conserved : (s : State) (log : List Event) (said : List Said)
      → Run Packet s log said
      → Told Packet (parts said) (held s) log
  -- a byte answered as noise begins no packet, whatever is taken later
  pub no_packet_lost : (s : State) (pre post : List Event) (b : ℕ) (said : List Said) (before after : List Part)
      → Run Packet s (pre ++ took b ∷ post) said
      → parts said ≡ before ++ noisy ∷ after → size before ≡ length (bytes pre)
      → (later : List Event) → ¬ Begins Packet (took b ∷ (post ++ later))
  -- From points with the same bytes after them and gaps between the same bytes, which no packet answered crosses, two receivers
  -- that hold nothing answered the same packets and called the same bytes noise.
  pub resynchronised : (s s' : State) (pre post pre' post' : List Event) (said said' : List Said)
      → Run Packet s (pre ++ post) said → Run Packet s' (pre' ++ post') said'
      → laid post ≡ laid post'
      → ¬ Crosses (parts said) (length (bytes pre)) → ¬ Crosses (parts said') (length (bytes pre'))
      → held s ≡ [] → held s' ≡ []
      → (before before' after : List Part)
      × (parts said ≡ before ++ after) × (size before ≡ length (bytes pre))
      × (parts said' ≡ before' ++ after) × (size before' ≡ length (bytes pre'))
  -- at most 263 bytes are held, and one call takes at most 1,287
  pub few_held : (s : State) (log : List Event) (said : List Said) → Run Packet s log said → length (held s) ≤ 263
  pub few_taken : (s s' : State) (log : List Event) (said : List Said) (line buffer line' buffer' : List ℕ) (a : Answer)
      → Run Packet s log said → (c : Called Packet s line buffer (Ok a) s' line' buffer') → length c.1.taken ≤ 1287

-- The rules leave no choice: the same receiver, line and buffer before give the same answer, receiver, line and buffer after, and
-- the same bytes taken.
pub record NoChoice (Packet : List ℕ → Type 0) : Type 0 where
  pub same_call : (s : State) (line buffer : List ℕ) (r r₁ : Result Answer ReceiverFault) (s' s₁ : State) (line' buffer' line₁ buffer₁ : List ℕ)
      → Called Packet s line buffer r s' line' buffer' → Called Packet s line buffer r₁ s₁ line₁ buffer₁
      → (r ≡ r₁) × (s' ≡ s₁) × (line' ≡ line₁) × (buffer' ≡ buffer₁)
  pub same_taken : (s : State) (line buffer : List ℕ) (a a₁ : Answer) (s' s₁ : State) (line' buffer' line₁ buffer₁ : List ℕ)
      → (c : Called Packet s line buffer (Ok a) s' line' buffer') (d : Called Packet s line buffer (Ok a₁) s₁ line₁ buffer₁)
      → c.1.taken ≡ d.1.taken

-- A packet that waits on the line of an open receiver that holds nothing is answered.
abbrev pub Received : (List ℕ → Type 0) → Type 0
Received Packet =
    (p line buffer : List ℕ) → Packet p → 263 ≤ length buffer
    → Called Packet (Open []) (p ++ line) buffer (Ok (Found (length p))) (Open []) line (p ++ drop (length p) buffer)

-- Where what waits on such a line is possible, all of it is taken and held, and next waits for more.
abbrev pub Awaited : (List ℕ → Type 0) → Type 0
Awaited Packet =
    (h buffer : List ℕ) → Possible Packet h → 263 ≤ length buffer
    → Called Packet (Open []) h buffer (Ok Waiting) (Open h) [] buffer

-- Each proper front of a packet is possible.
abbrev pub FrontsPossible : (List ℕ → Type 0) → Type 0
FrontsPossible Packet = (h : List ℕ) (b : ℕ) (t : List ℕ) → Packet (h ++ b ∷ t) → Possible Packet h

-- The rules do not wait for ever, nor call everything noise.
pub record Lively (Packet : List ℕ → Type 0) : Type 0 where
  pub answered : Received Packet
  pub awaited : Awaited Packet
  pub possible : FrontsPossible Packet
