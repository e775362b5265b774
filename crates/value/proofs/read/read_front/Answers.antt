use Rattle.std.proofs.Common.{arith}
use Rattle.value.proofs.Refusals.{told_data}
use Rattle.value.proofs.read.read_front.Goals as goal

pub returns : goal.returns
returns c =
    let split = (rw c.in_ok-header.ensures.ok_part at c.split_first.ensures.cases).0 in
    told_data _ _ _ _ _ split c.in_ok-kind.ensures c.if-header-lt128.false (omega (arith, c.type_inv.bytes 0)) c.read_data.ensures
