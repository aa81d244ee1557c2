use Rattle.std.proofs.Common.{◌≡◌, ◌∙◌, ap, rules}
use Rattle.rtgs_desk.specs.Readings.{by_date, held, held_among}
use Rattle.rtgs_desk.proofs.HoldingLemmas.{works_held, has_held_in_memory, core_remembered}
use Rattle.rtgs_desk.proofs.WaitingLemmas.{held_inside}
use Rattle.rtgs_desk.proofs.desk.Desk.held_of.Goals as goal

pub returns-in_err-known-clause-remembered : goal.returns-in_err-known-clause-remembered
returns-in_err-known-clause-remembered g c book memory works =
    let known = c.known.ensures.answered book memory works in
    search rules

pub returns-in_err-known-clause-answered : goal.returns-in_err-known-clause-answered
returns-in_err-known-clause-answered g c book held = returns-in_err-known-clause-remembered g c book
    (has_held_in_memory g.K.Keeper c.args.self.now book held) (works_held g.K.Keeper c.args.self.now book held)

pub returns-in_err-held_among-clause-remembered : goal.returns-in_err-held_among-clause-remembered
returns-in_err-held_among-clause-remembered g c book memory works =
    let known = c.known.ensures.answered book memory works in
    search rules

pub returns-in_err-held_among-clause-answered : goal.returns-in_err-held_among-clause-answered
returns-in_err-held_among-clause-answered g c book held = returns-in_err-held_among-clause-remembered g c book
    (has_held_in_memory g.K.Keeper c.args.self.now book held) (works_held g.K.Keeper c.args.self.now book held)

pub returns-clause-remembered : goal.returns-clause-remembered
returns-clause-remembered g c book memory works =
    let known = c.known.ensures.answered book memory works in
    let inside = c.self.inside.ledger.core in
    let core = core_remembered c.self.inside.keeper inside c.args.self.now book c.self.view_is memory in
    let items : c.in_ok-held_among.field-0.items ≡ held book c.args.code.now =
    c.in_ok-held_among.ensures ∙ ap (λ os. by_date (held_among os c.args.code.now)) c.waiting.ensures
    ∙ held_inside book inside c.args.code.now core in
    search rules

pub returns-clause-answered : goal.returns-clause-answered
returns-clause-answered g c book held = returns-clause-remembered g c book
    (has_held_in_memory g.K.Keeper c.args.self.now book held) (works_held g.K.Keeper c.args.self.now book held)
