use Rattle.rtgs_book.specs.Books.{new_book}
use Rattle.rtgs_keeper_trials.proofs.tests.stored_desk.lived.Goals as goal

pub returns : goal.returns
returns g c clean blank =
    let held = c.in_ok-desk.ensures (c.in_ok-replies.ensures.honest clean) blank in
    c.in_ok-replies.ensures.found clean new_book held
