use Rattle.body.proofs.Chains.{exits, fail_last, fails, last, nexts, start, whole}
use Rattle.channels.proofs.Listing.{unflagged}
use Rattle.channels.proofs.entry.take_entry.Goals as goal

pub returns-in_err-id : goal.returns-in_err-id
returns-in_err-id c = exits _ _ _ _ c.from_residual.ensures.1 (fails _ _ c.in_err-id.ensures (start _ _))

pub returns-in_err-name : goal.returns-in_err-name
returns-in_err-name c = exits _ _ _ _ c.from_residual-in_err-name.ensures.1 (fails _ _ (rw unflagged at c.in_err-name.ensures) (nexts c.in_ok-id.ensures (start _ _)))

pub returns-in_err-detail : goal.returns-in_err-detail
returns-in_err-detail c = exits _ _ _ _ c.from_residual-in_err-detail.ensures.1 (fails _ _ c.in_err-detail.ensures (nexts (rw unflagged at c.in_ok-name.ensures) (nexts c.in_ok-id.ensures (start _ _))))

pub returns-in_err-value : goal.returns-in_err-value
returns-in_err-value c = exits _ _ _ _ c.from_residual-in_err-value.ensures.1 (fail_last _ c.in_err-value.ensures (nexts c.in_ok-detail.ensures (nexts (rw unflagged at c.in_ok-name.ensures) (nexts c.in_ok-id.ensures (start _ _)))))

pub returns : goal.returns
returns c = whole (last c.in_ok-value.ensures (nexts c.in_ok-detail.ensures (nexts (rw unflagged at c.in_ok-name.ensures) (nexts c.in_ok-id.ensures (start _ _)))))
