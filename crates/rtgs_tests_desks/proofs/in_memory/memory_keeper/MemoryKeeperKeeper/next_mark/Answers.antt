use Rattle.std.proofs.Common.{ap, ◌∙◌}
use Rattle.std.specs.List.{find}
use Rattle.rtgs_book.specs.declared.book.Book.{Book}
use Rattle.rtgs_book.specs.cores.Nexts.{mark_after, is_mark_after}
use Rattle.rtgs_tests_desks.proofs.in_memory.memory_keeper.MemoryKeeperKeeper.next_mark.Goals as goal

pub returns-clause-found : goal.returns-clause-found
unfolding mark_after
returns-clause-found c honest book kept = c.mark_after.ensures
    ∙ ap (find (is_mark_after c.args.date c.args.number)) c.as_slice.ensures.value
    ∙ ap (λ (b : Book). find (is_mark_after c.args.date c.args.number) b.marks) kept.0
