use Rattle.std.proofs.Common.{◌≡◌, ◌+◌, ◌==◌, ap, sym, ◌∙◌, arith}
use Rattle.std.proofs.lemmas.Result.{IfOk-weaker}
use Rattle.rtgs_sql_look_ups.specs.Seeking.{first_of_date, is_early_found, kept_of_date}
use Rattle.rtgs_sql_look_ups.proofs.FindingLemmas.{look_then, was_clean, holds_after}
use Rattle.rtgs_sql_look_ups.proofs.SeekingLemmas.{early_all, late_all, none_past, next_moved, next_kept}
use Rattle.rtgs_sql_look_ups.proofs.seeking.next_of.Goals as goal

pub returns-then-number-clause-found : goal.returns-then-number-clause-found
returns-then-number-clause-found g c clean book held listed = sym (none_past g.T.Listed.number_of
    (λ x. g.T.Listed.date_of x == c.args.date) c.args.number (g.T.Listed.listed book)
    (omega (arith, c.if-number.true)) listed.numbers)

pub returns-then-is_early-clause-looks : goal.returns-then-is_early-clause-looks
returns-then-is_early-clause-looks g c = look_then g.S.Store c.args.conn.now c.first_after.new.conn c.later_of.new.conn
    _ c.later_of.result c.in-Ok.ensures.looks c.later_of.ensures.looks

pub returns-then-is_early-clause-found : goal.returns-then-is_early-clause-found
returns-then-is_early-clause-found g c clean book held listed =
    let number = g.T.Listed.number_of in
    let date = g.T.Listed.date_of in
    let xs = g.T.Listed.listed book in
    let was = was_clean g.S.Store c.first_after.new.conn c.later_of.new.conn c.later_of.result c.later_of.ensures.looks
    clean in
    let mid = holds_after g.S.Store c.args.conn.now c.first_after.new.conn _ book c.in-Ok.ensures.looks was held in
    let early = early_all number date c.args.number c.args.date xs listed.numbers listed.dates
    (ap (is_early_found date c.args.date) (sym (c.in-Ok.ensures.found was book held))
    ∙ sym c.is_early.ensures ∙ c.if-is_early.true) in
    IfOk-weaker c.later_of.result (λ found. found ≡ first_of_date number date c.args.date (c.args.number + 1) xs)
    (λ found. found ≡ first_of_date number date c.args.date c.args.number xs)
    (λ found is. is ∙ sym (next_moved number date c.args.date c.args.number (c.args.number + 1) xs (omega arith) early))
    (c.later_of.ensures.found clean book mid listed early)

pub returns-else-is_early-clause-found : goal.returns-else-is_early-clause-found
returns-else-is_early-clause-found g c clean book held listed =
    let number = g.T.Listed.number_of in
    let date = g.T.Listed.date_of in
    let xs = g.T.Listed.listed book in
    let first = c.in-Ok.ensures.found clean book held in
    let late = late_all number date c.args.number c.args.date xs listed.dates (ap (is_early_found date c.args.date)
    (sym first)
    ∙ sym c.is_early.ensures ∙ c.if-is_early.false) in
    c.of_date.ensures ∙ ap (kept_of_date date c.args.date) first
    ∙ sym (next_kept number date c.args.date c.args.number xs listed.dates late)
