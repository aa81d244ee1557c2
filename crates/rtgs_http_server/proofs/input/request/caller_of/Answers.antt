use Rattle.std.proofs.Common.{sym, ◌∙◌}
use Rattle.rtgs_http_server.proofs.input.StepOutcomes.{operator_found, participant_found}
use Rattle.rtgs_http_server.proofs.input.request.caller_of.Goals as goal

pub returns-in-Operator-clause-caller : goal.returns-in-Operator-clause-caller
returns-in-Operator-clause-caller g c =
    operator_found (g.D.Directory.knows c.args.directory.now) c.args.bearer c.in-Operator.route c.in-Operator.is

pub returns-in-Ok-Some-clause-caller : goal.returns-in-Ok-Some-clause-caller
returns-in-Ok-Some-clause-caller g c =
    participant_found (g.D.Directory.knows c.args.directory.now) c.args.bearer c.in-Bank.route c.in-Bank.digest
    c.in-Ok-Some.caller c.in-Bank.is
    (λ code_of known. sym c.in-Ok-Some.field-0-is ∙ c.in-Ok-Some.ensures.found code_of known)
