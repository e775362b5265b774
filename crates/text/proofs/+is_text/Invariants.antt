use Rattle.std.proofs.Common.{length}
use Rattle.text.proofs.+is_text.Given as goal

abbrev pub decreases-is_text : goal.decreases-is_text
decreases-is_text l = length l.bytes.now
