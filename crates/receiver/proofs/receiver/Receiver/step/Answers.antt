use Rattle.std.proofs.Common.{arith}
use Rattle.packet.specs.Packet.{Packet}
use Rattle.receiver.proofs.Moves.{full_at, noise_at, ahead_at, packet_at, emptied_at, opens_at, dry_at, waits_at, takes_at, drops_at}
use Rattle.std.proofs.lemmas.Grind.{common_steps}
use Rattle.receiver.proofs.receiver.Receiver.step.Goals as goal

pub returns-then-n-eq-MOST_NOISE : goal.returns-then-n-eq-MOST_NOISE
returns-then-n-eq-MOST_NOISE g c = full_at (Packet g.C.Check.WIDTH g.C.Check.meaning) c.args.n _ _ _ c.if-n-eq-MOST_NOISE.true

pub returns-in_err-noise_first-in-Whole : goal.returns-in_err-noise_first-in-Whole
returns-in_err-noise_first-in-Whole g c =
    let P = Packet g.C.Check.WIDTH g.C.Check.meaning in
    noise_at P c.args.n (ahead_at P c.args.n c.self.view_is c.view.ensures (omega arith) c.in-Whole.ensures) c.from_residual.ensures
    c.in_err-noise_first-in-Whole.ensures

pub returns-in_ok-noise_first-in-Whole : goal.returns-in_ok-noise_first-in-Whole
returns-in_ok-noise_first-in-Whole g c =
    packet_at (Packet g.C.Check.WIDTH g.C.Check.meaning) c.args.n c.self.view_is c.view.ensures (omega arith) c.in-Whole.ensures
    c.in_ok-noise_first-in-Whole.ensures c.move_out.ensures.list c.move_out.ensures.out

pub returns-in_err-noise_first-in-Possible : goal.returns-in_err-noise_first-in-Possible
returns-in_err-noise_first-in-Possible g c =
    let P = Packet g.C.Check.WIDTH g.C.Check.meaning in
    noise_at P c.args.n (dry_at P c.args.n c.self.view_is c.view.ensures (omega arith) c.in-Possible.ensures c.if-self.true c.in_default.ensures)
    c.from_residual-in_err-noise_first-in-Possible.ensures c.in_err-noise_first-in-Possible.ensures

pub returns-in_default : goal.returns-in_default
returns-in_default g c =
    waits_at (Packet g.C.Check.WIDTH g.C.Check.meaning) c.args.n c.self.view_is c.view.ensures (omega arith) c.in-Possible.ensures c.if-self.true
    c.in_default.ensures c.in_ok-noise_first-in-Possible.ensures

pub returns-in-Some : goal.returns-in-Some
returns-in-Some g c =
    takes_at (Packet g.C.Check.WIDTH g.C.Check.meaning) c.args.n c.self.view_is c.view.ensures (omega arith) c.in-Possible.ensures c.if-self.true
    c.in-Some.ensures c.push.ensures

pub returns-in_err-noise_first-in-Possible-2 : goal.returns-in_err-noise_first-in-Possible-2
returns-in_err-noise_first-in-Possible-2 g c =
    let P = Packet g.C.Check.WIDTH g.C.Check.meaning in
    noise_at P c.args.n (emptied_at P c.args.n c.self.view_is c.view.ensures (omega arith) c.if-self.false (omega arith))
    c.from_residual-in_err-noise_first-in-Possible-2.ensures c.in_err-noise_first-in-Possible-2.ensures

pub returns-in_ok-noise_first-in-Possible-2 : goal.returns-in_ok-noise_first-in-Possible-2
returns-in_ok-noise_first-in-Possible-2 g c =
    opens_at (Packet g.C.Check.WIDTH g.C.Check.meaning) c.args.n c.self.view_is c.view.ensures (omega arith) c.if-self.false
    (omega arith) c.in_ok-noise_first-in-Possible-2.ensures

pub returns-in-Possible-3 : goal.returns-in-Possible-3
returns-in-Possible-3 g c =
    drops_at (Packet g.C.Check.WIDTH g.C.Check.meaning) c.args.n c.self.view_is c.view.ensures (omega arith) c.judge.result c.judge.ensures
    (grind (arith, common_steps)) c.drop_first.ensures
