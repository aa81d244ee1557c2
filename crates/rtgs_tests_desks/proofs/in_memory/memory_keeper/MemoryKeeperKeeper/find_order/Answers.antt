use Rattle.std.proofs.Common.{ap, ◌∙◌}
use Rattle.std.specs.List.{find}
use Rattle.rtgs_book.specs.declared.book.Book.{Book}
use Rattle.rtgs_book.specs.Lookup.{order_named, is_order_named}
use Rattle.rtgs_tests_desks.proofs.in_memory.memory_keeper.MemoryKeeperKeeper.find_order.Goals as goal

pub returns-clause-found : goal.returns-clause-found
unfolding order_named
returns-clause-found c honest book kept = c.order_named.ensures
    ∙ ap (find (is_order_named c.args.sender.now c.args.reference.now)) c.as_slice.ensures.value
    ∙ ap (λ (b : Book). find (is_order_named c.args.sender.now c.args.reference.now) b.orders) kept.0
