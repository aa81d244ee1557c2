use Rattle.std.proofs.lemmas.Result.{IfOk-weaker}
use Rattle.rtgs_book_file.proofs.stored_desk.commands.run.Goals as goal

pub returns-clause-left : goal.returns-clause-left
returns-clause-left g c = IfOk-weaker c.run-replies.result _ _ (λ replies ran clean book held.
    let did = ran clean book held in
    c.what_a_session_leaves.ensures book c.args.commands.now replies.items did.whole_after_a_crash did.session
    did.calm_after_a_crash)
    c.run-replies.ensures.ran
