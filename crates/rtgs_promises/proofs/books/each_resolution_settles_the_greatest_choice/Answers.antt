use Rattle.rtgs_promises.proofs.Resolving.{resolves, each_resolves}
use Rattle.rtgs_promises.proofs.books.each_resolution_settles_the_greatest_choice.Goals as goal

pub returns-clause-one : goal.returns-clause-one
returns-clause-one c = resolves

pub returns-clause-each : goal.returns-clause-each
returns-clause-each c = each_resolves

pub returns-clause-cover : goal.returns-clause-cover
returns-clause-cover c old new command reply sound step =
    (c.step_keeps_soundness.ensures old new command reply sound step).floors
