use Rattle.std.proofs.Common.{◌∙◌, sym, subst}
use Rattle.rtgs_book_file.specs.stored_desk.Stored.{AreTablesOf}
use Rattle.rtgs_promises.proofs.stopping.found_again.Goals as goal

pub returns-in-Ok-opened-clause-found : goal.returns-in-Ok-opened-clause-found
returns-in-Ok-opened-clause-found g c clean =
    let conn = c.in-Ok-connected.ensures in
    let next = c.in-Ok-opened.ensures in
    let connected = next.honest clean in
    let left = c.in-Ok.ensures.left (conn.honest connected) in (
      (g.S.Store.view c.in-Ok.store).trees,
      rw c.into_keeper.ensures at (rw c.into_connection.ensures at left),
      λ book tables. let committed = subst (AreTablesOf book) (sym (conn.found connected)) tables in
          (next.held clean (conn.opens connected) book committed).0,
    )

pub returns-in-Err-clause-lost : goal.returns-in-Err-clause-lost
returns-in-Err-clause-lost g c clean =
    let it = c.in-Err.ensures.err clean in (
      rw c.into_keeper.ensures at (rw c.into_connection.ensures at it.0),
      λ trees left. rw c.into_keeper.ensures at (rw c.into_connection.ensures at (it.1 trees left)),
    )

pub returns-in-Err-connected-clause-lost : goal.returns-in-Err-connected-clause-lost
returns-in-Err-connected-clause-lost g c clean =
    let last = c.in-Err-connected.ensures.err clean in
    let it = c.in-Ok.ensures.ok last.0 in (
      rw c.into_keeper.ensures at (rw c.into_connection.ensures at it.0),
      λ trees left. rw c.into_keeper.ensures at (rw c.into_connection.ensures at (it.1 trees (last.1 trees left))),
    )

pub returns-in-Err-opened-clause-lost : goal.returns-in-Err-opened-clause-lost
returns-in-Err-opened-clause-lost g c clean =
    let conn = c.in-Ok-connected.ensures in
    let connected = c.in-Err-opened.ensures.back clean in
    let fresh = conn.honest connected in
    let it = (c.in-Ok.ensures.ok fresh).0 in
    let left = c.in-Ok.ensures.left fresh in
    let last = c.in-Err-opened.ensures.refused clean (conn.opens connected) in (
      rw c.into_keeper.ensures at (rw c.into_connection.ensures at it),
      λ trees may. subst (λ found. g.S.Store.recovers c.args.desk.keeper.conn.store found)
          (sym (conn.found connected) ∙ sym (last.leaves trees may))
          (rw c.into_keeper.ensures at (rw c.into_connection.ensures at left)),
    )

pub returns-in-Err-opened-clause-cause : goal.returns-in-Err-opened-clause-cause
returns-in-Err-opened-clause-cause g c clean calm =
    let conn = c.in-Ok-connected.ensures in
    let connected = c.in-Err-opened.ensures.back clean in
    let left = c.in-Ok.ensures.left (conn.honest connected) in
    let some = calm (g.S.Store.view c.in-Ok.store).trees
    (rw c.into_keeper.ensures at (rw c.into_connection.ensures at left)) in
    (c.in-Err-opened.ensures.refused clean (conn.opens connected)).cause some.0
    (subst (AreTablesOf some.0) (sym (conn.found connected)) some.1) some.2
