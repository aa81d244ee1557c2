use Rattle.std.proofs.Common.{ap, ◌∙◌}
use Rattle.std.specs.List.{find}
use Rattle.rtgs_book.specs.declared.book.Book.{Book}
use Rattle.rtgs_book.specs.Lookup.{posting_named, is_posting_named}
use Rattle.rtgs_tests_desks.proofs.in_memory.memory_keeper.MemoryKeeperKeeper.find_posting.Goals as goal

pub returns-clause-found : goal.returns-clause-found
unfolding posting_named
returns-clause-found c honest book kept = c.posting_named.ensures
    ∙ ap (find (is_posting_named c.args.reference.now)) c.as_slice.ensures.value
    ∙ ap (λ (b : Book). find (is_posting_named c.args.reference.now) b.postings) kept.0
