use Rattle.rtgs_desk.proofs.HeldLemmas.{held_dated, held_of_date, held_due}
use Rattle.rtgs_desk.proofs.laws.held_orders_are_in_order.Goals as goal

pub returns-clause-dates : goal.returns-clause-dates
returns-clause-dates c = held_dated

pub returns-clause-of_a_date : goal.returns-clause-of_a_date
returns-clause-of_a_date c = held_of_date

pub returns-clause-due : goal.returns-clause-due
returns-clause-due c = held_due
