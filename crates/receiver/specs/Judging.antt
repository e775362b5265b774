-- What the held bytes were found to be.
use Rattle.std.specs.Prelude.{◌≡◌, ℕ, ◌<◌, ◌≤◌, List, ◌++◌, length}
use Rattle.receiver.specs.declared.judge.Verdict.{Verdict}
use Rattle.receiver.specs.declared.judge.Verdict.TheVariants.{Whole, Possible, Impossible}
use Rattle.receiver.specs.Wire as wire

-- A packet has at most 263 bytes, what is possible has fewer, and what is impossible is not empty.
abbrev pub Judged : (List ℕ → Type 0) → List ℕ → Verdict → Type 0
Judged Packet h (Whole k) = (p : List ℕ) × (rest : List ℕ) × Packet p × (h ≡ p ++ rest) × (length p ≡ k) × (k ≤ 263)
Judged Packet h Possible = wire.Possible Packet h × (length h < 263)
Judged Packet h Impossible = (0 < length h) × (¬ wire.Whole Packet h) × (¬ wire.Possible Packet h)
