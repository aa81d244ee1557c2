use Rattle.sqlite.specs.Held.{state}
use Rattle.rtgs_rows.specs.TableRecords.{desk_records}
use Rattle.rtgs_sql_loading.proofs.ReadTables.{at_once, stops_after}
use Rattle.rtgs_sql_loading.proofs.Records.{one_read, unsaid, stops_at_another}
use Rattle.rtgs_sql_loading.proofs.from_tables.DeskRowFromTables.read.Goals as goal

pub returns-in_err-desk-clause-stops : goal.returns-in_err-desk-clause-stops
returns-in_err-desk-clause-stops g c =
    stops_after c.read_one.result _ c.from_residual.result (at_once (state g.S.Store c.args.conn.now))
    c.in_err-desk.was c.from_residual.ensures.1 (λ known trees bad one. bad one.0)
    (λ known. unsaid c.args.version) (c.read_one.ensures.stops c.args.version (λ known. known))

pub returns-then-desk-version-clause-read : goal.returns-then-desk-version-clause-read
returns-then-desk-version-clause-read g c clean = (
  c.if-desk-version.true,
  one_read c.args.version desk_records (state g.S.Store c.args.conn.now) c.in_ok-desk.desk (λ known. known)
      (c.in_ok-desk.ensures.read clean),
)

pub returns-else-desk-version-clause-stops : goal.returns-else-desk-version-clause-stops
returns-else-desk-version-clause-stops g c =
    stops_at_another c.args.version (state g.S.Store c.args.conn.now) (state g.S.Store c.read_one.new.conn)
    c.in_ok-desk.desk _ c.in_ok-desk.ensures.on c.in_ok-desk.ensures.read c.if-desk-version.false
