use Rattle.std.proofs.Common.{◌∷◌, decimal, refl, ap, ◌∙◌}
use Rattle.rtgs_order_files.proofs.DueFields.{as_field}
use Rattle.rtgs_order_files.proofs.order_row.read_row.Goals as goal

pub returns-in_err-reference-clause-found : goal.returns-in_err-reference-clause-found
returns-in_err-reference-clause-found c row good e =
    let due = as_field c.args.columns row.due in
    absurd (c.in_err-reference.ensures.none refl row.reference row.receiver (decimal row.amount) due.0
    (e ∙ ap (λ rest. row.reference ∷ row.receiver ∷ decimal row.amount ∷ rest) due.1))
