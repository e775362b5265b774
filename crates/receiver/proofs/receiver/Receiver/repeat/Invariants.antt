use Rattle.std.proofs.Common.{◌≡◌, ◌≤◌}
use Rattle.packet.specs.Packet.{Packet}
use Rattle.receiver.specs.Steps.{Leads, left}
use Rattle.receiver.proofs.receiver.Receiver.repeat.Given as goal

-- what the rules do from here, they do from the call's beginning
abbrev pub invariant-loop-answer : goal.invariant-loop-answer
invariant-loop-answer g l = record {
  count : l.n ≤ 1024;
  leads :
      Leads (Packet g.C.Check.WIDTH g.C.Check.meaning) 0 l.initial.self (g.L.Line.waiting l.initial.line) l.n l.self (g.L.Line.waiting l.line);
  buffer : l.buffer ≡ l.initial.buffer;
}

abbrev pub decreases-loop-answer : goal.decreases-loop-answer
decreases-loop-answer g l = left l.n l.self
