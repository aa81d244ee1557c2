use Rattle.std.proofs.Common.{rules}
use Rattle.rtgs_desk.specs.Queues.{queue_readings}
use Rattle.rtgs_desk.proofs.HoldingLemmas.{works_held, has_held_in_memory, core_remembered}
use Rattle.rtgs_desk.proofs.QueueLemmas.{told}
use Rattle.rtgs_desk.proofs.desk.Desk.queues.Goals as goal

pub returns-then-self-clause-answered : goal.returns-then-self-clause-answered
returns-then-self-clause-answered g c book choice held greatest =
    let works = works_held g.K.Keeper c.args.self.now book held in
    search rules

pub returns-clause-remembered : goal.returns-clause-remembered
returns-clause-remembered g c book choice memory works greatest =
    let core = core_remembered c.self.inside.keeper c.self.inside.ledger.core c.args.self.now book c.self.view_is memory
    in
    told (queue_readings book choice) c.queue_readings.result
    (c.queue_readings.ensures.answered book choice core greatest) c.queue_readings.ensures.kinds

pub returns-clause-answered : goal.returns-clause-answered
returns-clause-answered g c book choice held greatest = returns-clause-remembered g c book choice
    (has_held_in_memory g.K.Keeper c.args.self.now book held) (works_held g.K.Keeper c.args.self.now book held) greatest
