use Rattle.std.proofs.Common.{◌≡◌, length}
use Rattle.lines.specs.Hex.{hexed}
use Rattle.lines.proofs.hex.HexLine.take.Given as goal

-- what is dropped gave no byte
abbrev pub invariant-loop-high : goal.invariant-loop-high
invariant-loop-high g l = hexed (g.L.Line.waiting l.initial.self.text) ≡ hexed (g.L.Line.waiting l.self.text)

abbrev pub decreases-loop-high : goal.decreases-loop-high
decreases-loop-high g l = length (g.L.Line.waiting l.self.text)
