use Rattle.std.proofs.Common.{◌∙◌, Ok, ap, rules}
use Rattle.rtgs_desk.proofs.HoldingLemmas.{works_held, has_held_in_memory, core_remembered, day_inside}
use Rattle.rtgs_desk.proofs.desk.Desk.day.Goals as goal

pub returns-then-self-clause-answered : goal.returns-then-self-clause-answered
returns-then-self-clause-answered g c book held = let works = works_held g.K.Keeper c.args.self.now book held
    in search rules

pub returns-clause-remembered : goal.returns-clause-remembered
returns-clause-remembered g c book memory works =
    let core = core_remembered c.self.inside.keeper c.self.inside.ledger.core c.args.self.now book c.self.view_is memory
    in
    ap Ok (c.day.ensures ∙ day_inside book c.self.inside.ledger.core core)

pub returns-clause-answered : goal.returns-clause-answered
returns-clause-answered g c book held = returns-clause-remembered g c book
    (has_held_in_memory g.K.Keeper c.args.self.now book held) (works_held g.K.Keeper c.args.self.now book held)
