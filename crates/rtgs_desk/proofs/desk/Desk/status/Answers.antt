use Rattle.std.proofs.Common.{◌≡◌, ◌∙◌, filter, Ok, ap, rules}
use Rattle.rtgs_book.specs.Books.{is_held, is_queued}
use Rattle.rtgs_desk.specs.Readings.{tally_of}
use Rattle.rtgs_desk.proofs.HoldingLemmas.{works_held, has_held_in_memory, core_remembered, day_inside}
use Rattle.rtgs_desk.proofs.WaitingLemmas.{queued_inside, all_held_inside, next_posting_inside, next_order_inside}
use Rattle.rtgs_desk.proofs.WaitingLemmas.{next_mark_inside}
use Rattle.rtgs_desk.proofs.desk.Desk.status.Goals as goal

pub returns-then-self-clause-answered : goal.returns-then-self-clause-answered
returns-then-self-clause-answered g c book held = let works = works_held g.K.Keeper c.args.self.now book held
    in search rules

pub returns-clause-remembered : goal.returns-clause-remembered
returns-clause-remembered g c book memory works =
    let inside = c.self.inside.ledger.core in
    let core = core_remembered c.self.inside.keeper inside c.args.self.now book c.self.view_is memory in
    let day : c.day.result ≡ book.day = c.day.ensures ∙ day_inside book inside core in
    let queued : c.tallies_of-tallies.result.queued ≡ tally_of (filter is_queued book.orders) =
    c.tallies_of-tallies.ensures.queued ∙ ap (λ os. tally_of (filter is_queued os)) c.waiting.ensures
    ∙ ap tally_of (queued_inside book inside core) in
    let held : c.tallies_of-tallies.result.held ≡ tally_of (filter is_held book.orders) =
    c.tallies_of-tallies.ensures.held ∙ ap (λ os. tally_of (filter is_held os)) c.waiting.ensures
    ∙ ap tally_of (all_held_inside book inside core) in
    ap Ok (λ j. record {
      day = day j;
      participants = c.participants.ensures book core j;
      queued = queued j;
      held = held j;
      sum = c.total.ensures book core j;
      next_posting = (c.next_posting.ensures ∙ next_posting_inside book inside core) j;
      next_order = (c.next_order.ensures ∙ next_order_inside book inside core) j;
      next_mark = (c.next_mark.ensures ∙ next_mark_inside book inside core) j;
    })

pub returns-clause-answered : goal.returns-clause-answered
returns-clause-answered g c book held = returns-clause-remembered g c book
    (has_held_in_memory g.K.Keeper c.args.self.now book held) (works_held g.K.Keeper c.args.self.now book held)
