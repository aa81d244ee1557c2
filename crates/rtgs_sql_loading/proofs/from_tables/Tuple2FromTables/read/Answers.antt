use Rattle.std.proofs.Common.{inl, inr}
use Rattle.sqlite.specs.Held.{state}
use Rattle.rtgs_sql_loading.proofs.ReadTables.{at_once, followed, stops_after, stops_never}
use Rattle.rtgs_sql_loading.proofs.from_tables.Tuple2FromTables.read.Goals as goal

pub returns-in_err-one-clause-stops : goal.returns-in_err-one-clause-stops
returns-in_err-one-clause-stops g c =
    stops_after c.read.result _ c.from_residual.result (at_once (state g.S.Store c.args.conn.now))
    c.in_err-one.was c.from_residual.ensures.1 (λ known trees bad formed. bad formed.0)
    (λ known db unread. inl unread) c.read.ensures.stops

pub returns-in_err-other-clause-stops : goal.returns-in_err-other-clause-stops
returns-in_err-other-clause-stops g c =
    stops_after c.read-2.result _ c.from_residual-in_err-other.result c.in_ok-one.ensures.on c.in_err-other.was
    c.from_residual-in_err-other.ensures.1 (λ known trees bad formed. bad formed.1) (λ known db unread. inr unread)
    c.read-2.ensures.stops

pub returns-clause-stops : goal.returns-clause-stops
returns-clause-stops g c = stops_never _ (followed c.in_ok-one.ensures.on c.in_ok-other.ensures.on) (λ e. cc)

pub returns-clause-on : goal.returns-clause-on
returns-clause-on g c = followed c.in_ok-one.ensures.on c.in_ok-other.ensures.on

pub returns-clause-read : goal.returns-clause-read
returns-clause-read g c clean =
    let mid = c.in_ok-other.ensures.on.clean clean in (
      c.in_ok-one.ensures.read mid,
      g.B.FromTables.after _ _ _ c.in_ok-one.ensures.on mid _ (c.in_ok-other.ensures.read clean),
    )
