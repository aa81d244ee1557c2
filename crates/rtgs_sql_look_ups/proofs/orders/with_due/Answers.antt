use Rattle.std.proofs.Common.{◌≡◌, Option, IfOk, refl, sym, subst, ◌∙◌}
use Rattle.std.specs.List.{find}
use Rattle.rtgs_book.specs.declared.order.Order.{Order}
use Rattle.rtgs_sql_look_ups.proofs.DueLemmas.{joined}
use Rattle.rtgs_sql_look_ups.proofs.orders.with_due.Goals as goal

pub returns-in-Ok-clause-found : goal.returns-in-Ok-clause-found
returns-in-Ok-clause-found g c clean book held is_it same =
    let whole = joined is_it book.orders (c.records_are_listed.ensures.orders book held.2.sound) c.in-Some.order
    c.in-Ok.due (sym c.in-Some.is ∙ same) (c.in-Ok.ensures.found clean book held) in
    subst (λ answer. IfOk answer (λ (found : Option Order). found ≡ find is_it book.orders))
    (sym (c.dated.ensures.right book held.2.sound is_it whole)) refl
