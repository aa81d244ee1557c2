use Rattle.rtgs_desk.proofs.HoldingLemmas.{core_inside}
use Rattle.rtgs_desk.proofs.desk.source.DeskSource.code_at.Goals as goal

pub returns : goal.returns
returns g c book held = c.code_at.ensures book
    (core_inside g.K.Keeper c.self.inside.keeper c.self.inside.ledger.core c.args.self.now book c.self.view_is held)
