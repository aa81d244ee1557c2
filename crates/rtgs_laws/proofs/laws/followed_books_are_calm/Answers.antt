use Rattle.rtgs_laws.proofs.Calm.{followed_calm}
use Rattle.rtgs_laws.proofs.laws.followed_books_are_calm.Goals as goal

pub returns : goal.returns
returns c = followed_calm c.chosen_are_beginnings.ensures c.rest_stays_queued.ensures c.settled_balances.ensures
    c.own_step_keeps_soundness.ensures
