use Rattle.std.proofs.Common.{◌≡◌, sym, ◌∙◌}
use Rattle.std.proofs.lemmas.Result.{IfOk-weaker}
use Rattle.rtgs_sql_look_ups.specs.Seeking.{first_above, first_of_date, kept_of_date}
use Rattle.rtgs_sql_look_ups.proofs.FindingLemmas.{look_then, was_clean, holds_after}
use Rattle.rtgs_sql_look_ups.proofs.SeekingLemmas.{next_moved, next_kept}
use Rattle.rtgs_sql_look_ups.proofs.seeking.later_of.Goals as goal

pub returns-in-Ok-clause-looks : goal.returns-in-Ok-clause-looks
returns-in-Ok-clause-looks g c = look_then g.S.Store c.args.conn.now c.seek.new.conn c.kept_after.new.conn _
    c.kept_after.result c.in-Ok.ensures.looks c.kept_after.ensures.looks

pub returns-in-Ok-clause-found : goal.returns-in-Ok-clause-found
returns-in-Ok-clause-found g c clean book held listed early =
    let number = g.T.Listed.number_of in
    let date = g.T.Listed.date_of in
    let xs = g.T.Listed.listed book in
    let was = was_clean g.S.Store c.seek.new.conn c.kept_after.new.conn c.kept_after.result c.kept_after.ensures.looks
    clean in
    let mid = holds_after g.S.Store c.args.conn.now c.seek.new.conn _ book c.in-Ok.ensures.looks was held in
    let at = c.in-Ok.ensures.found was book held listed early in
    IfOk-weaker c.kept_after.result (λ found. found ≡ kept_of_date date c.args.date (first_above number c.in-Ok.at xs))
    (λ found. found ≡ first_of_date number date c.args.date c.args.low xs)
    (λ found is. is ∙ sym (next_moved number date c.args.date c.args.low c.in-Ok.at xs c.in-Ok.ensures.bounds.0 at.0
    ∙ next_kept number date c.args.date c.in-Ok.at xs listed.dates at.1))
    (c.kept_after.ensures.found clean book mid)
