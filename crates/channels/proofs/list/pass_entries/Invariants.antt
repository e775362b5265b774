use Rattle.channels.specs.Layouts.{entry_of}
use Rattle.channels.proofs.Listing.{Passed}
use Rattle.channels.proofs.list.pass_entries.Given as goal

abbrev pub invariant-loop-i : goal.invariant-loop-i
invariant-loop-i l = Passed l.layout.count l._i (entry_of l.layout) l.body l.rest
