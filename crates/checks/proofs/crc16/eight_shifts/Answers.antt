use Rattle.std.proofs.Common.{refl}
use Rattle.checks.proofs.Entries.{entries}
use Rattle.checks.proofs.Shifting.{shifts_by_table}
use Rattle.checks.proofs.crc16.eight_shifts.Goals as goal

-- `tt` has the test computed over the whole table
pub returns : goal.returns
returns c = shifts_by_table 8 c.args.register entries refl tt
