use Rattle.std.proofs.Common.{arith}
use Rattle.rtgs_gridlock.proofs.ListedLemmas.{on_count-two}
use Rattle.rtgs_gridlock.proofs.workspace.Workspace.list_parties.Goals as goal

pub returns-clause-steps : goal.returns-clause-steps
returns-clause-steps c =
    on_count-two c.args.self.now.fundings.steps c.args.self.now.untested c.put.new.self c.put-2.new.self c.args.sender
    c.args.receiver (omega arith) (omega arith) c.put.ensures c.put-2.ensures
