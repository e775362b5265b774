use mathlib.Core.Path.{◌≡◌}
use lib.ListN.{length}
use Rattle.bench_abi.proofs.receive_all.Given as goal

abbrev pub invariant-loop : goal.invariant-loop
invariant-loop g l = length l.buffer ≡ 263
