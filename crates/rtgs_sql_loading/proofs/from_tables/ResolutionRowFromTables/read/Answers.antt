use Rattle.std.proofs.Common.{ℕ, Ok, Err, Result, IfOk}
use Rattle.sqlite.specs.State.{State}
use Rattle.sqlite.specs.Held.{state}
use Rattle.rtgs_book.specs.declared.fault.Fault.{Fault}
use Rattle.rtgs_rows.specs.declared.resolution_row.ResolutionRow.{ResolutionRow}
use Rattle.rtgs_rows.specs.TableRecords.{resolution_records}
use Rattle.rtgs_rows.specs.Tables.{HasTable, IsVersion, resolution_table}
use Rattle.rtgs_sql_loading.specs.Loading.{ReadsOne, ReadsAlone}
use Rattle.rtgs_sql_loading.proofs.Records.{one_read}
use Rattle.rtgs_sql_loading.proofs.from_tables.ResolutionRowFromTables.read.Goals as goal

read_alone : (version : ℕ) (s : State) (r : Result ResolutionRow Fault)
    → (IsVersion version → HasTable version resolution_table) → IfOk r (ReadsOne resolution_records s)
    → IfOk r (ReadsAlone version resolution_records s)
read_alone version s (Ok it) has reads = one_read version resolution_records s it has reads
read_alone version s (Err fault) has reads = tt

pub returns-clause-read : goal.returns-clause-read
returns-clause-read g c clean =
    read_alone c.args.version (state g.S.Store c.args.conn.now) c.read_one.result
    (λ known. c.first_version.ensures.has c.args.version known c.if-version-first_version.false)
    (c.read_one.ensures.read clean)

pub returns-clause-stops : goal.returns-clause-stops
returns-clause-stops g c =
    let has : IsVersion c.args.version → HasTable c.args.version resolution_table =
    (λ known. c.first_version.ensures.has c.args.version known c.if-version-first_version.false) in
    let stops = c.read_one.ensures.stops c.args.version has in
    record {
      right = stops.right;
      wrong = λ clean trees file e formed. stops.wrong clean trees file e (formed (has file.known));
      unread = λ clean known e. (has known, stops.unread clean known e);
      same = stops.same;
      survives = stops.survives;
    }
