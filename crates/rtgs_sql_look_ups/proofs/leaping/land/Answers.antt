use Rattle.rtgs_sql_look_ups.proofs.SkippingLemmas.{both_off}
use Rattle.rtgs_sql_look_ups.proofs.leaping.land.Goals as goal

pub returns-in-Ok-clause-found : goal.returns-in-Ok-clause-found
returns-in-Ok-clause-found g c clean book held plain = both_off c.args.date c.args.at c.args.upto c.in-Ok.passed
    c.lesser_above.result book.orders c.lesser_above.ensures.plain c.lesser_above.ensures.dues plain
    (c.in-Ok.ensures.found clean book held)
