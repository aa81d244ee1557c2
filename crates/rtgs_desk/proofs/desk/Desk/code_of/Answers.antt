use Rattle.std.proofs.Common.{rules}
use Rattle.rtgs_desk.proofs.HoldingLemmas.{known_participants, participants_held, works_held}
use Rattle.rtgs_desk.proofs.desk.Desk.code_of.Goals as goal

pub returns-then-self-clause-answered : goal.returns-then-self-clause-answered
returns-then-self-clause-answered g c book held = let works = works_held g.K.Keeper c.args.self.now book held
    in search rules

pub returns-clause-remembered : goal.returns-clause-remembered
returns-clause-remembered g c book memory works =
    let same = known_participants c.args.self.now book memory in
    let found = c.code_of.ensures book in
    search rules

pub returns-clause-answered : goal.returns-clause-answered
returns-clause-answered g c book held = returns-clause-remembered g c book
    (participants_held g.K.Keeper c.args.self.now book held) (works_held g.K.Keeper c.args.self.now book held)
