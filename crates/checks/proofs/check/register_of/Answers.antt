use Rattle.std.proofs.Common.{◌≡◌, ◌^◌, ◌<◌, sym, ap, ◌∙◌, subst, arith, take_all}
use Rattle.basics.specs.Bytes.{Bytes}
use Rattle.basics.proofs.Bytewise.{slice_bytes}
use Rattle.checks.specs.Check.{fed}
use Rattle.checks.proofs.check.register_of.Goals as goal

pub returns : goal.returns
returns g c =
    let m = g.C.Check in
    let laws = g.met.C.Check in
    let bs = c.args.bytes.now in
    let ok : Bytes bs = slice_bytes bs c.type_inv.bytes in
    let all = take_all c.loop-byte.byte-index bs c.loop-byte-test.false in
    let is : m.shows c.loop-byte.register ≡ m.meaning bs =
    ap m.shows (c.loop-byte.invariant ∙ ap (fed m.after m.empty) all) ∙ laws.feeding bs ok in
    record { is = is; fits = subst (λ n. n < 256 ^ m.WIDTH) (sym is) (laws.fits bs ok) }
