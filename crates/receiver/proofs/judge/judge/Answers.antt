use Rattle.std.proofs.Common.{refl, subst}
use Rattle.std.proofs.lemmas.Bool.{false≢true}
use Rattle.basics.proofs.Bytewise.{slice_bytes}
use Rattle.packet.specs.declared.fault.PacketFault.{PacketFault}
use Rattle.packet.specs.Faults.{Refused}
use Rattle.receiver.proofs.Verdicts.{whole, unfinished, unchecked, disagreeing, cut_short, refused}
use Rattle.receiver.proofs.judge.judge.Goals as goal

pub returns-in-Ok : goal.returns-in-Ok
returns-in-Ok g c =
    let f = c.in-Ok.front in
    unchecked g.C.Check.WIDTH g.C.Check.meaning c.in-Ok.ensures (slice_bytes _ c.type_inv.held) f.measured g.met.C.Check.bounds.0
    (rw c.check_place.ensures at c.if-held-check_place.true)

pub returns-in-Ok-2 : goal.returns-in-Ok-2
returns-in-Ok-2 g c =
    disagreeing g.C.Check.WIDTH g.C.Check.meaning c.in-Ok.ensures (slice_bytes _ c.type_inv.held) c.in-Ok.front.measured
    (λ a. false≢true (c.if-not-agrees.ensures.1 a))

pub returns-in-Ok-3 : goal.returns-in-Ok-3
returns-in-Ok-3 g c =
    unfinished g.C.Check.WIDTH g.C.Check.meaning c.in-Ok.ensures (slice_bytes _ c.type_inv.held) c.in-Ok.front.measured c.if-held.true (c.if-not-agrees.ensures.0 refl)

pub returns-in-Ok-4 : goal.returns-in-Ok-4
returns-in-Ok-4 g c =
    whole g.C.Check.WIDTH g.C.Check.meaning c.in-Ok.ensures (slice_bytes _ c.type_inv.held) c.in-Ok.front.measured c.if-held.false (c.if-not-agrees.ensures.0 refl)

pub returns-in-CutShort : goal.returns-in-CutShort
returns-in-CutShort g c =
    let h = c.args.held.now in
    let e = c.in-Err.ensures in
    cut_short g.C.Check.WIDTH g.C.Check.meaning h _ g.met.C.Check.bounds.1 (slice_bytes _ c.type_inv.held)
    (subst (λ (f : PacketFault). Refused g.C.Check.WIDTH g.C.Check.meaning h f c.in-Err.refusal.place) c.in-CutShort.is e.0) e.1

pub returns-in_default : goal.returns-in_default
returns-in_default g c =
    let e = c.in-Err.ensures in
    refused g.C.Check.WIDTH g.C.Check.meaning c.args.held.now _ _ e.0 e.1 c.in_default.not-CutShort
