use Rattle.std.proofs.Common.{ap, ◌∙◌}
use Rattle.rtgs_sql_look_ups.specs.Seeking.{is_early_found}
use Rattle.rtgs_sql_look_ups.proofs.FindingLemmas.{look_as, look_failed}
use Rattle.rtgs_sql_look_ups.proofs.seeking.is_early_after.Goals as goal

pub returns-in-Ok-clause-looks : goal.returns-in-Ok-clause-looks
returns-in-Ok-clause-looks g c = look_as g.S.Store c.args.conn.now c.first_after.new.conn _ _ c.in-Ok.ensures.looks

pub returns-in-Err-clause-looks : goal.returns-in-Err-clause-looks
returns-in-Err-clause-looks g c = look_failed g.S.Store c.args.conn.now c.first_after.new.conn _ c.in-Err.ensures.looks

pub returns-in-Ok-clause-found : goal.returns-in-Ok-clause-found
returns-in-Ok-clause-found g c clean book held = c.is_early.ensures
    ∙ ap (is_early_found g.T.Listed.date_of c.args.date) (c.in-Ok.ensures.found clean book held)
