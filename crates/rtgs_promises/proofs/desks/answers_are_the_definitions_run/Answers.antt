use Rattle.std.proofs.lemmas.Result.{IfOk-weaker}
use Rattle.rtgs_promises.proofs.desks.answers_are_the_definitions_run.Goals as goal

pub returns-clause-run : goal.returns-clause-run
returns-clause-run g c = IfOk-weaker c.run.result _ _ (λ replies ran honest book held.
    let it = ran honest book held in (it.last, it.run, it.kept, it.after_a_crash)) c.run.ensures.ran
