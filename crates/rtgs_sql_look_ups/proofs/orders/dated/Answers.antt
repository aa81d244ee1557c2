use Rattle.std.proofs.Common.{not, ap, sym, true≢false, ◌∙◌}
use Rattle.rtgs_sql_look_ups.proofs.DueLemmas.{not_held}
use Rattle.rtgs_sql_look_ups.proofs.orders.dated.Goals as goal

pub returns-then-is_held-clause-right : goal.returns-then-is_held-clause-right
returns-then-is_held-clause-right c book sound is_it same =
    let free = not_held is_it book sound _ same (c.is_none.ensures ∙ ap not c.if-is_none.true) in
    absurd (true≢false (sym c.if-is_held.true ∙ c.is_held.ensures ∙ free))
