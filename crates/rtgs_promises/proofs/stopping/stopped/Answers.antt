use Rattle.std.proofs.Common.{arith, sym, subst}
use Rattle.rtgs_promises.proofs.Released.{still_open, is_fresh}
use Rattle.rtgs_promises.proofs.stopping.stopped.Goals as goal

pub returns-then-is_let_go-clause-fresh : goal.returns-then-is_let_go-clause-fresh
returns-then-is_let_go-clause-fresh g c clean =
    let store = c.into_store-store.result in
    let sound = c.is_let_go.ensures c.if-is_let_go.true clean in
    is_fresh _ (g.S.Store.view store) c.into_store-store.ensures.undone clean
    (c.into_store-store.ensures.numbered clean) sound
    (still_open (g.S.Store.view store) (g.met.S.Store.broken_if_shut store) sound)

pub returns-then-is_let_go-clause-left : goal.returns-then-is_let_go-clause-left
returns-then-is_let_go-clause-left g c clean =
    let store = c.into_store-store.result in
    let sound = c.is_let_go.ensures c.if-is_let_go.true clean in
    let is_open = still_open (g.S.Store.view store) (g.met.S.Store.broken_if_shut store) sound in
    let fresh = is_fresh _ (g.S.Store.view store) c.into_store-store.ensures.undone clean
    (c.into_store-store.ensures.numbered clean) sound is_open in
    c.into_store-store.ensures.quiet.outcomes _
    (subst (g.S.Store.recovers store) (sym fresh.clean) (g.met.S.Store.stays store is_open))

pub returns-then-is_let_go-clause-ok : goal.returns-then-is_let_go-clause-ok
returns-then-is_let_go-clause-ok g c clean =
    (omega (arith, c.into_store-store.ensures.quiet.clean, clean), c.into_store-store.ensures.quiet.outcomes)

pub returns-in-Ok-clause-ok : goal.returns-in-Ok-clause-ok
returns-in-Ok-clause-ok g c clean = (
  omega (arith, c.into_store-store.ensures.quiet.clean, c.crash_and_reopen.ensures.clean, clean),
  λ trees left. c.into_store-store.ensures.quiet.outcomes trees (c.crash_and_reopen.ensures.outcomes trees left),
)

pub returns-in-Err-clause-err : goal.returns-in-Err-clause-err
returns-in-Err-clause-err g c clean = (
  omega (arith, c.into_store-store.ensures.quiet.clean, c.crash_and_reopen.ensures.clean, clean),
  λ trees left. c.into_store-store.ensures.quiet.outcomes trees (c.crash_and_reopen.ensures.outcomes trees left),
)
