use Rattle.std.proofs.Common.{arith}
use Rattle.sqlite_trees.specs.View.{IsClean}
use Rattle.rtgs_promises.proofs.stopping.opened.Goals as goal

pub returns-in-Ok-clause-held : goal.returns-in-Ok-clause-held
returns-in-Ok-clause-held g c clean is_open book tables =
    let held = (c.in-Ok.ensures.opened clean is_open).held book tables in
    (held, c.holds_a_sound_book.ensures.calm book held)

pub returns-in-Err-clause-refused : goal.returns-in-Err-clause-refused
returns-in-Err-clause-refused g c clean is_open =
    let quiet = c.into_store.ensures.quiet in
    let was : IsClean (g.S.Store.view c.into_connection.result.store) = omega (arith, quiet.clean, clean) in
    let it = c.in-Err.ensures.refused (rw c.into_connection.ensures at was) is_open in
    record {
      leaves = λ trees left. it.leaves trees (rw c.into_connection.ensures at (quiet.outcomes trees left));
      cause = it.cause;
    }

pub returns-in-Err-clause-back : goal.returns-in-Err-clause-back
returns-in-Err-clause-back g c clean =
    let was : IsClean (g.S.Store.view c.into_connection.result.store) =
    omega (arith, c.into_store.ensures.quiet.clean, clean) in
    c.in-Err.ensures.back (rw c.into_connection.ensures at was)
