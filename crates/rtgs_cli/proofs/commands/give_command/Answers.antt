use Rattle.std.proofs.Common.{[], ◌∷◌}
use Rattle.rtgs_cli.proofs.commands.give_command.Goals as goal

pub returns-clause-left : goal.returns-clause-left
returns-clause-left g c honest book held =
    let acts = c.submit-reply.ensures.acts honest book held in
    c.what_a_session_leaves.ensures book (c.args.command ∷ []) (c.submit-reply.result ∷ []) acts.whole_after_a_crash
    acts.session acts.calm_after_a_crash
