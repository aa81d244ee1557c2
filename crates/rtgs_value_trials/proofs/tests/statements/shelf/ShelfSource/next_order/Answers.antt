use Rattle.std.proofs.Common.{ap, ◌∙◌}
use Rattle.std.specs.List.{find}
use Rattle.rtgs_book.specs.declared.book.Book.{Book}
use Rattle.rtgs_book.specs.cores.Nexts.{order_after, is_order_after}
use Rattle.rtgs_value_trials.proofs.tests.statements.shelf.ShelfSource.next_order.Goals as goal

pub returns-clause-found : goal.returns-clause-found
unfolding order_after
returns-clause-found c honest book held = c.order_after.ensures
    ∙ ap (find (is_order_after c.args.date c.args.number)) c.as_slice.ensures
    ∙ ap (λ (b : Book). find (is_order_after c.args.date c.args.number) b.orders) (c.read.ensures.book ∙ held.0)
