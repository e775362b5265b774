use Rattle.std.proofs.Common.{sym, ◌∙◌, append-nil, arith}
use Rattle.channels.specs.Layouts.{entry_of}
use Rattle.channels.proofs.Listing.{none_listed, failed_listed, first_listed, of_none, of_some}
use Rattle.channels.proofs.list.Channels.split_first.Goals as goal

pub returns-in_err-count : goal.returns-in_err-count
returns-in_err-count c = rw c.from_residual.ensures (λ es l. none_listed c.args.self.layout.count (entry_of c.args.self.layout) es (omega (arith, c.in_err-count.ensures)) l.stand)

pub returns-in_err-entry : goal.returns-in_err-entry
returns-in_err-entry c =
    rw c.from_residual-in_err-entry.ensures
    (λ es l. let f = of_none _ _ c.take_entry.result c.take_entry.ensures (sym c.in_err-entry.was ∙ c.ok.ensures.value) in
    absurd (failed_listed c.args.self.layout.count (entry_of c.args.self.layout) _ _ es (λ e. omega (arith, c.in_ok-count.ensures.0)) f.1 l.stand (rw c.new.ensures.bytes l.bytes)))

pub returns : goal.returns
returns c = λ es l.
    let t = of_some _ _ _ c.take_entry.result c.take_entry.ensures (sym c.in_ok-entry.was ∙ c.ok.ensures.value) in
    let s = first_listed c.args.self.layout.count (entry_of c.args.self.layout) _ _ _ es (λ e. omega (arith, c.in_ok-count.ensures.0)) t l.stand (rw c.new.ensures.bytes l.bytes) in
    (s.others, s.is_all, record { stand = rw c.in_ok-count.ensures.1 s.stand; bytes = sym s.bytes_are ∙ append-nil _ })
