use Rattle.std.proofs.Common.{ap, ◌∙◌, List, map}
use Rattle.std.specs.Prelude.{slice_get}
use Rattle.rtgs_book.specs.declared.book.Book.{Book}
use Rattle.rtgs_book.specs.declared.participant.Participant.{Participant}
use Rattle.rtgs_book.specs.Lookup.{codes_of}
use Rattle.rtgs_value_trials.proofs.tests.statements.shelf.ShelfSource.code_at.Goals as goal

pub returns : goal.returns
unfolding codes_of
returns c book held = c.code_at.ensures
    ∙ ap (λ (ps : List Participant). slice_get (map (λ (p : Participant). p.code) ps) c.args.index)
    c.as_slice.ensures
    ∙ ap (λ (b : Book). slice_get (codes_of b) c.args.index) held.0
