use Rattle.std.proofs.Common.{◌≡◌, true, rules}
use Rattle.rtgs_statements.specs.Rows.{is_shown_to}
use Rattle.rtgs_statements.proofs.Begins.{part-begins}
use Rattle.rtgs_statements.proofs.statement.write_order.Goals as goal

pub returns-in-Err-clause-begun : goal.returns-in-Err-clause-begun
returns-in-Err-clause-begun g c =
    let mine : is_shown_to c.args.code.now c.args.order.now ≡ true = search rules in
    rw mine (part-begins _ _ _ (search rules))
