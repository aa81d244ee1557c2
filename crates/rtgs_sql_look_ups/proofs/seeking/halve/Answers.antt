use Rattle.std.proofs.Common.{sym, ◌∙◌}
use Rattle.rtgs_sql_look_ups.proofs.FindingLemmas.{look_as, look_failed}
use Rattle.rtgs_sql_look_ups.proofs.SeekingLemmas.{early_all, late_all}
use Rattle.rtgs_sql_look_ups.proofs.seeking.halve.Goals as goal

pub returns-in-Ok-true-clause-looks : goal.returns-in-Ok-true-clause-looks
returns-in-Ok-true-clause-looks g c = look_as g.S.Store c.args.conn.now c.is_early_after.new.conn _ _
    c.in-Ok-true.ensures.looks

pub returns-in-Ok-false-clause-looks : goal.returns-in-Ok-false-clause-looks
returns-in-Ok-false-clause-looks g c = look_as g.S.Store c.args.conn.now c.is_early_after.new.conn _ _
    c.in-Ok-false.ensures.looks

pub returns-in-Err-clause-looks : goal.returns-in-Err-clause-looks
returns-in-Err-clause-looks g c = look_failed g.S.Store c.args.conn.now c.is_early_after.new.conn _
    c.in-Err.ensures.looks

pub returns-in-Ok-true-clause-found : goal.returns-in-Ok-true-clause-found
returns-in-Ok-true-clause-found g c clean book held listed turns = (
  early_all g.T.Listed.number_of g.T.Listed.date_of _ _ _ listed.numbers listed.dates
      (sym (c.in-Ok-true.ensures.found clean book held) ∙ c.in-Ok-true.field-0-test),
  turns.1,
)

pub returns-in-Ok-false-clause-found : goal.returns-in-Ok-false-clause-found
returns-in-Ok-false-clause-found g c clean book held listed turns = (
  turns.0,
  late_all g.T.Listed.number_of g.T.Listed.date_of _ _ _ listed.dates
      (sym (c.in-Ok-false.ensures.found clean book held) ∙ c.in-Ok-false.field-0-test),
)
