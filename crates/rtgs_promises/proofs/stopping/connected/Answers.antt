use Rattle.std.proofs.Common.{arith}
use Rattle.rtgs_promises.proofs.stopping.connected.Goals as goal

pub returns-in-Err-clause-err : goal.returns-in-Err-clause-err
returns-in-Err-clause-err g c clean =
    (omega (arith, c.in-Err.ensures.unharmed.clean, clean), c.in-Err.ensures.unharmed.outcomes)
