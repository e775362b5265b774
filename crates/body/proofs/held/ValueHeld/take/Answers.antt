use Rattle.std.proofs.Common.{refl}
use Rattle.value.specs.Values.{meaning}
use Rattle.body.specs.Fields.{value, universal}
use Rattle.body.proofs.Chains.{held_one}
use Rattle.body.proofs.held.ValueHeld.take.Goals as goal

pub returns : goal.returns
returns c = held_one value _ (λ v. universal (meaning v)) _ (λ _. refl) c.take_value.ensures
