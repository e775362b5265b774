use Rattle.std.proofs.Common.{rules}
use Rattle.body.specs.Fields.{number}
use Rattle.body.specs.Steps.{Denies}
use Rattle.body.proofs.Chains.{denied, exits}
use Rattle.body.proofs.cursor.Body.take_number.Goals as goal

pub returns-in_err-number : goal.returns-in_err-number
returns-in_err-number g c =
    let d : Denies (number g.N.Number.WIDTH) c.args.self c.in_err-number.field-0.0 = search rules in
    exits _ _ _ _ c.from_residual.ensures.1 (denied _ d)
