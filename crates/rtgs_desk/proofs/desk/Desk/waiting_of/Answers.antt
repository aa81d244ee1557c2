use Rattle.std.proofs.Common.{◌≡◌, ◌∙◌, ◌-ℤ◌, sym, ap, slice_get, arith, rules}
use Rattle.std.proofs.lemmas.Int.{ints}
use Rattle.rtgs_book.specs.Balance.{floor_at}
use Rattle.rtgs_book.specs.declared.day.Day.{Day}
use Rattle.rtgs_book.specs.Queue.{queue}
use Rattle.rtgs_desk.specs.Readings.{by_date, held, held_among, short_by, tally_of}
use Rattle.rtgs_desk.proofs.HoldingLemmas.{works_held, has_held_in_memory, core_remembered, day_inside}
use Rattle.rtgs_desk.proofs.WaitingLemmas.{answered_waiting, held_inside}
use Rattle.rtgs_desk.proofs.desk.Desk.waiting_of.Goals as goal

pub returns-in_err-account-clause-remembered : goal.returns-in_err-account-clause-remembered
returns-in_err-account-clause-remembered g c book memory works =
    let known = c.known.ensures.answered book memory works in
    search rules

pub returns-in_err-account-clause-answered : goal.returns-in_err-account-clause-answered
returns-in_err-account-clause-answered g c book held = returns-in_err-account-clause-remembered g c book
    (has_held_in_memory g.K.Keeper c.args.self.now book held) (works_held g.K.Keeper c.args.self.now book held)

pub returns-in_err-queue-clause-remembered : goal.returns-in_err-queue-clause-remembered
returns-in_err-queue-clause-remembered g c book memory works =
    let known = c.known.ensures.answered book memory works in
    search rules

pub returns-in_err-queue-clause-answered : goal.returns-in_err-queue-clause-answered
returns-in_err-queue-clause-answered g c book held = returns-in_err-queue-clause-remembered g c book
    (has_held_in_memory g.K.Keeper c.args.self.now book held) (works_held g.K.Keeper c.args.self.now book held)

pub returns-in_err-held-clause-remembered : goal.returns-in_err-held-clause-remembered
returns-in_err-held-clause-remembered g c book memory works =
    let known = c.known.ensures.answered book memory works in
    search rules

pub returns-in_err-held-clause-answered : goal.returns-in_err-held-clause-answered
returns-in_err-held-clause-answered g c book held = returns-in_err-held-clause-remembered g c book
    (has_held_in_memory g.K.Keeper c.args.self.now book held) (works_held g.K.Keeper c.args.self.now book held)

pub returns-clause-remembered : goal.returns-clause-remembered
returns-clause-remembered g c book memory works =
    let inside = c.self.inside.ledger.core in
    let core = core_remembered c.self.inside.keeper inside c.args.self.now book c.self.view_is memory in
    let code = c.args.code.now in
    let account = c.in_ok-account.account in
    let orders : c.in_ok-queue.queue.items ≡ queue book code = c.in_ok-queue.ensures.answered book core in
    let shown : c.copied-first.result ≡ slice_get c.in_ok-queue.queue.items 0 = search rules in
    let first : c.copied-first.result ≡ slice_get (queue book code) 0 = shown ∙ ap (λ os. slice_get os 0) orders in
    let floor : c.floor.result ≡ floor_at book.day.phase account.participant.credit =
    c.floor.ensures ∙ ap (λ (d : Day). floor_at d.phase account.participant.credit) (day_inside book inside core) in
    let room : c.new.result ≡ account.balance -ℤ c.floor.result = omega (arith, ints) in
    let lacks : c.short_by.result ≡ short_by (account.balance -ℤ c.floor.result) c.copied-first.result =
    c.short_by.ensures ∙ ap (λ h. short_by h c.copied-first.result) (sym c.new.ensures ∙ room) in
    let headroom : c.new.result ≡ account.balance -ℤ floor_at book.day.phase account.participant.credit =
    room ∙ ap (λ f. account.balance -ℤ f) floor in
    let short : c.short_by.result ≡ short_by (account.balance -ℤ floor_at book.day.phase account.participant.credit)
    (slice_get (queue book code) 0) = lacks ∙ (λ j. short_by (account.balance -ℤ floor j) (first j)) in
    let queued : c.tally_of.result ≡ tally_of (queue book code) =
    c.tally_of.ensures ∙ ap tally_of (c.as_slice-2.ensures.value ∙ orders) in
    let waits : c.tally_of-2.result ≡ tally_of (held book code) =
    c.tally_of-2.ensures ∙ ap tally_of (c.as_slice-3.ensures.value ∙ c.in_ok-held.ensures
    ∙ ap (λ os. by_date (held_among os code)) c.waiting.ensures ∙ held_inside book inside code core) in
    answered_waiting book code account _ (sym (c.known.ensures.answered book memory works) ∙ c.in_ok-account.was)
    (λ j. record { first = first j; headroom = headroom j; short = short j; queued = queued j; held = waits j })

pub returns-clause-answered : goal.returns-clause-answered
returns-clause-answered g c book held = returns-clause-remembered g c book
    (has_held_in_memory g.K.Keeper c.args.self.now book held) (works_held g.K.Keeper c.args.self.now book held)
