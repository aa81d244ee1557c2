use Rattle.rtgs_promises.proofs.Most.{is_chosen_too, fewer_orders, less_value}
use Rattle.rtgs_promises.proofs.books.no_choice_settles_more.Goals as goal

pub returns-clause-among : goal.returns-clause-among
returns-clause-among c book greatest other is feasible o =
    is_chosen_too book other greatest (is.largest other feasible) o

pub returns-clause-orders : goal.returns-clause-orders
returns-clause-orders c book greatest other is feasible =
    fewer_orders book other greatest (is.largest other feasible)

pub returns-clause-value : goal.returns-clause-value
returns-clause-value c book greatest other is feasible =
    less_value book other greatest (is.largest other feasible)
