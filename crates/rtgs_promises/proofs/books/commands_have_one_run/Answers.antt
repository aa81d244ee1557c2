use Rattle.rtgs_promises.proofs.Determined.{some_run, one_run}
use Rattle.rtgs_promises.proofs.books.commands_have_one_run.Goals as goal

pub returns-clause-some : goal.returns-clause-some
returns-clause-some c = some_run c.step_exists.ensures c.step_keeps_soundness.ensures

pub returns-clause-one : goal.returns-clause-one
returns-clause-one c = one_run c.step_is_determined.ensures
