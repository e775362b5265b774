use Rattle.body.proofs.Chains.{exits}
use Rattle.channels.specs.Layouts.{entry_of}
use Rattle.channels.proofs.Listing.{passed_more, failed_more}
use Rattle.channels.proofs.list.pass_entries.Goals as goal

pub loop-i-preserved : goal.loop-i-preserved
loop-i-preserved c = passed_more c.args.layout.count c.loop-i._i (entry_of c.args.layout) _ _ _ _ c.loop-i-test.true c.loop-i.invariant c.in_ok-after.ensures

pub returns-in_err-after : goal.returns-in_err-after
returns-in_err-after c = exits _ _ _ _ c.from_residual.ensures.1 (failed_more c.args.layout.count c.loop-i._i (entry_of c.args.layout) _ _ _ c.loop-i-test.true c.loop-i.invariant c.in_err-after.ensures)
