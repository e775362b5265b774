use Rattle.receiver.proofs.Moves.{onto, answered}
use Rattle.receiver.proofs.Limits.{few_gone}
use Rattle.receiver.proofs.Ours.{ours}
use Rattle.std.proofs.Common.{◌∙◌}
use Rattle.receiver.proofs.receiver.Receiver.repeat.Goals as goal

pub returns-in-Break-clause-few : goal.returns-in-Break-clause-few
returns-in-Break-clause-few g c =
    let x = answered c.loop-answer.invariant.leads c.loop-answer.invariant.buffer c.in-Break.ensures in
    few_gone _ (ours g.C.Check.WIDTH g.C.Check.meaning) x.by_rules

pub loop-answer-preserved : goal.loop-answer-preserved
loop-answer-preserved g c =
    let x = c.in-Continue.ensures in
    record { count = x.0; leads = onto c.loop-answer.invariant.leads x.1; buffer = x.2 ∙ c.loop-answer.invariant.buffer }
