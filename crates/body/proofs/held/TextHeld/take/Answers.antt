use Rattle.std.proofs.Common.{refl}
use Rattle.body.specs.Fields.{text, letters}
use Rattle.body.proofs.Chains.{held_one}
use Rattle.body.proofs.held.TextHeld.take.Goals as goal

pub returns : goal.returns
returns c = held_one text _ (λ t. letters t.bytes.now) _ (λ _. refl) c.take_text.ensures
