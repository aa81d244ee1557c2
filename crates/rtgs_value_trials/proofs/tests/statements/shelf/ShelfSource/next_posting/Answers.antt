use Rattle.std.proofs.Common.{ap, ◌∙◌}
use Rattle.std.specs.List.{find}
use Rattle.rtgs_book.specs.declared.book.Book.{Book}
use Rattle.rtgs_book.specs.cores.Nexts.{posting_after, is_posting_after}
use Rattle.rtgs_value_trials.proofs.tests.statements.shelf.ShelfSource.next_posting.Goals as goal

pub returns-clause-found : goal.returns-clause-found
unfolding posting_after
returns-clause-found c honest book held = c.posting_after.ensures
    ∙ ap (find (is_posting_after c.args.date c.args.number)) c.as_slice.ensures
    ∙ ap (λ (b : Book). find (is_posting_after c.args.date c.args.number) b.postings) (c.read.ensures.book ∙ held.0)
