use Rattle.std.proofs.Common.{Some, None, codes, refl}
use Rattle.rtgs_order_files.specs.declared.columns.Columns.TheVariants.{WithoutDue, WithDue}
use Rattle.rtgs_order_files.proofs.columns.Columns.named.Goals as goal

pub returns-in_err-first-clause-found : goal.returns-in_err-first-clause-found
returns-in_err-first-clause-found c WithoutDue e = absurd (c.in_err-first.ensures.none refl (codes "reference")
    (codes "to") (codes "amount") None e)
returns-in_err-first-clause-found c WithDue e = absurd (c.in_err-first.ensures.none refl (codes "reference")
    (codes "to") (codes "amount") (Some (codes "due")) e)
