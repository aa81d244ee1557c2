use Rattle.std.proofs.Common.{length}
use Rattle.rtgs_promises.proofs.OneRequest.{given_are_allowed}
use Rattle.rtgs_promises.proofs.requests.nobody_acts_with_the_key_of_another.Goals as goal

pub returns-clause-commands : goal.returns-clause-commands
returns-clause-commands g c operator input book desk sent request =
    given_are_allowed operator book input request.answer (length request.works.0) request.allowed

pub returns-clause-changes : goal.returns-clause-changes
returns-clause-changes g c operator input old new sent it = it.changes
