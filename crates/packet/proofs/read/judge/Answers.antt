use Rattle.std.proofs.Common.{◌≤◌, length, refl, arith}
use Rattle.std.proofs.lemmas.Bool.{false≢true}
use Rattle.packet.specs.Raw.{end}
use Rattle.packet.proofs.Judging.{cut_short, bad_check, left_over, agrees, agreed}
use Rattle.packet.proofs.read.judge.Goals as goal

pub returns-then-given-end : goal.returns-then-given-end
returns-then-given-end g c =
    let m = c.args.front.now.measured in
    rw c.at.ensures (cut_short g.C.Check.meaning m (omega (arith, m.end_is)))

pub returns-then-not-agrees : goal.returns-then-not-agrees
returns-then-not-agrees g c =
    let m = c.args.front.now.measured in
    let l : end c.args.front.now.bytes.now ≤ length c.args.front.now.bytes.now = omega (arith, m.end_is) in
    rw c.at-then-not-agrees.ensures
    (bad_check g.C.Check.meaning m _ c.check_place.ensures l (λ e. false≢true (c.if-not-agrees.ensures.1 (agrees g.C.Check.meaning m l e))))

pub returns-then-given-end-2 : goal.returns-then-given-end-2
returns-then-given-end-2 g c =
    let m = c.args.front.now.measured in
    rw c.at-then-given-end-2.ensures
    (left_over g.C.Check.meaning m _ m.end_is (omega (arith, m.end_is)) (agreed g.C.Check.meaning m (omega (arith, m.end_is)) (c.if-not-agrees.ensures.0 refl)))
