use Rattle.sqlite.specs.Held.{state}
use Rattle.rtgs_sql_loading.proofs.Blank.{unshown}
use Rattle.rtgs_sql_loading.proofs.ReadTables.{at_once, stops_after}
use Rattle.rtgs_sql_loading.proofs.desk.version_of.Goals as goal

pub returns-in_err-desk-clause-stops : goal.returns-in_err-desk-clause-stops
returns-in_err-desk-clause-stops g c version =
    stops_after c.read_one.result _ c.from_residual.result (at_once (state g.S.Store c.args.conn.now))
    c.in_err-desk.was c.from_residual.ensures.1 (λ known trees bad. bad) (λ known db unread. unread)
    (c.read_one.ensures.stops version (λ known. known))

pub returns-clause-blank : goal.returns-clause-blank
returns-clause-blank g c clean blank =
    let shown = (c.in_ok-desk.ensures.read clean).shown in
    unshown (state g.S.Store c.args.conn.now) blank shown.0 shown.1
