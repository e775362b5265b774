use Rattle.std.proofs.Common.{◌^◌, ◌<◌, ◌≤◌, length, arith}
use Rattle.fields.proofs.Numbers.{gathered_byte, gathered_more, gathered_room, gathered_all}
use Rattle.fields.proofs.number.gathered.Goals as goal

pub overflow_mul-number : goal.overflow_mul-number
overflow_mul-number g c =
    let few : length c.args.bytes.now ≤ 8 = omega (arith, g.met.N.Number.narrow) in
    let room : c.loop-byte.number < 256 ^ 7 = gathered_room _ _ c.loop-byte.invariant.2 c.in-Some.ensures.steps few in
    omega arith

pub overflow_add-number : goal.overflow_add-number
overflow_add-number g c =
    let few : length c.args.bytes.now ≤ 8 = omega (arith, g.met.N.Number.narrow) in
    let room : c.loop-byte.number < 256 ^ 7 = gathered_room _ _ c.loop-byte.invariant.2 c.in-Some.ensures.steps few in
    let low : c.in-Some.byte.now < 256 = gathered_byte _ _ c.loop-byte.invariant.2 c.in-Some.ensures.steps (λ i. omega (arith, c.type_inv.bytes i)) in
    omega arith

pub loop-byte-preserved : goal.loop-byte-preserved
loop-byte-preserved g c = (tt, tt, rw c.from.ensures (gathered_more _ _ c.loop-byte.invariant.2 c.in-Some.ensures.steps (λ i. omega (arith, c.type_inv.bytes i))))

pub returns : goal.returns
returns g c =
    let all = gathered_all _ _ c.loop-byte.invariant.2 c.in-None.ensures.steps.0 c.requires c.from_lowest.ensures in
    record { below = all.0; bytes = all.1 }
