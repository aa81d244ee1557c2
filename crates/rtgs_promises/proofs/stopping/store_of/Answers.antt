use Rattle.std.proofs.Common.{arith}
use Rattle.sqlite_trees.specs.View.{IsClean}
use Rattle.rtgs_promises.proofs.stopping.store_of.Goals as goal

pub returns : goal.returns
returns g c clean =
    let quiet = c.into_store.ensures.quiet in
    let was : IsClean (g.S.Store.view c.into_connection.result.store) = omega (arith, quiet.clean, clean) in (
      rw c.into_keeper.ensures at (rw c.into_connection.ensures at was),
      λ trees left. rw c.into_keeper.ensures at (rw c.into_connection.ensures at (quiet.outcomes trees left)),
    )
