use Rattle.std.proofs.Common.{Result, Ok, Err, sym, subst}
use Rattle.std.specs.Result.{IfOk}
use Rattle.rtgs_book_file.specs.stored_desk.Stored.{AreTablesOf}
use Rattle.rtgs_keeper_trials.proofs.tests.stored_desk.found_again.Goals as goal

-- what two clauses say of a value together
from_both : {T E : Type 0} (r : Result T E) (P Q R : T → Type 0) → ((x : T) → P x → Q x → R x)
    → IfOk r P → IfOk r Q → IfOk r R
from_both (Ok x) P Q R f p q = f x p q
from_both (Err e) P Q R f p q = tt

pub returns-clause-found : goal.returns-clause-found
returns-clause-found g c = from_both c.opened.result _ _ _ (λ next held honest clean.
    let conn = c.in_ok-conn.ensures in
    let connected = honest clean in
    let left = rw c.into_connection.ensures at (c.in_ok-store.ensures.left (conn.honest connected)) in (
      (g.S.Store.view c.in_ok-store.store).trees,
      rw c.into_keeper.ensures at left,
      λ book tables. let committed = subst (AreTablesOf book) (sym (conn.found connected)) tables in
          held clean (conn.opens connected) book committed,
    )) c.opened.ensures.held c.opened.ensures.honest
