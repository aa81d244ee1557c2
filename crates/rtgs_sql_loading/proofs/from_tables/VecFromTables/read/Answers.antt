use Rattle.std.proofs.Common.{map, ap, IsPermutation, sym, subst, ◌∙◌}
use Rattle.sqlite.specs.Held.{state}
use Rattle.rtgs_rows.specs.Querying.{as_shown}
use Rattle.rtgs_rows.specs.Tables.{HasTable, IsVersion}
use Rattle.rtgs_sql_columns.specs.Tables.{query_text}
use Rattle.rtgs_sql_columns.specs.Numbers.{as_read}
use Rattle.rtgs_sql_loading.specs.Accounts.{InForm}
use Rattle.rtgs_sql_loading.proofs.OwnRows.{are_formed}
use Rattle.rtgs_sql_loading.proofs.Records.{reads_of, reads_none, misread}
use Rattle.rtgs_sql_loading.proofs.Keeps.{not_foreign, keeps_after, schema_of, schema_at, survives_on}
use Rattle.rtgs_sql_loading.proofs.Displaying.{without_form, without_answer, reads_on}
use Rattle.rtgs_sql_loading.proofs.from_tables.VecFromTables.read.Goals as goal

pub returns-then-version-first_version-clause-read : goal.returns-then-version-first_version-clause-read
returns-then-version-first_version-clause-read g c clean =
    let none = c.first_version.ensures in
    reads_none c.args.version g.T.TableRow.records (state g.S.Store c.args.conn.now) _ c.new.ensures.items
    (g.met.T.ListRow.none_at_first c.args.version)
    (λ known. none.lacks c.args.version known c.if-version-first_version.true)
    (λ known. none.first c.args.version known c.if-version-first_version.true)

pub returns-in-Ok-clause-read : goal.returns-in-Ok-clause-read
returns-in-Ok-clause-read g c clean =
    let has : IsVersion c.args.version → HasTable c.args.version g.T.TableRow.records.table =
    (λ known. c.first_version.ensures.has c.args.version known c.if-version-first_version.false) in
    reads_of c.args.version g.T.TableRow.records (state g.S.Store c.args.conn.now) _ _ c.decode.result
    c.as_slice.ensures.value (c.in-Ok.ensures.answered clean).0 (c.in-Ok.ensures.raw clean c.args.version)
    has (λ accounts book held.
    let it = c.in-Ok.ensures.given clean c.args.version (has held.1.known) accounts book held in
    (it.fit, it.read)) c.decode.ensures.given c.decode.ensures.is

pub returns-in-Ok-clause-on : goal.returns-in-Ok-clause-on
returns-in-Ok-clause-on g c =
    reads_on (state g.S.Store c.args.conn.now) (state g.S.Store c.table_rows.new.conn) c.decode.result
    c.table_rows.ensures.honest c.in-Ok.ensures.asks.kept (λ clean. (c.in-Ok.ensures.answered clean).1)
    c.table_rows.ensures.asks.survives

pub returns-in-Ok-clause-stops : goal.returns-in-Ok-clause-stops
returns-in-Ok-clause-stops g c =
    let has : IsVersion c.args.version → HasTable c.args.version g.T.TableRow.records.table =
    (λ known. c.first_version.ensures.has c.args.version known c.if-version-first_version.false) in
    record {
      right = λ clean accounts book held e.
          let t = g.T.TableRow.records in
          let it = c.in-Ok.ensures.given clean c.args.version (has held.1.known) accounts book held in
          c.decode.ensures.wrong e (are_formed t (t.of_book c.args.version accounts book) it.fit _
          (ap (map (as_read t.counted)) c.as_slice.ensures.value ∙ it.read));
      wrong = λ clean trees file e formed.
          let stored = as_shown g.T.TableRow.records.table trees in
          misread g.T.TableRow.records stored _ (subst (IsPermutation stored) (sym c.as_slice.ensures.value)
          (c.in-Ok.ensures.raw clean c.args.version (has file.known) trees file).0) (c.decode.ensures.wrong e)
          (formed (has file.known));
      unread = λ clean known e.
          let t = g.T.TableRow.records in (
            has known,
            without_form (state g.S.Store c.args.conn.now).now (query_text t.table) (InForm t) _ _
                c.as_slice.ensures.value (c.in-Ok.ensures.answered clean).0 (c.decode.ensures.wrong e),
          );
      same = λ clean _. c.in-Ok.ensures.asks.kept clean;
      survives = c.table_rows.ensures.asks.survives;
    }

pub returns-in-Err-clause-stops : goal.returns-in-Err-clause-stops
returns-in-Err-clause-stops g c =
    let has : IsVersion c.args.version → HasTable c.args.version g.T.TableRow.records.table =
    (λ known. c.first_version.ensures.has c.args.version known c.if-version-first_version.false) in
    record {
      right = λ clean accounts book held.
          not_foreign c.fault_of.result
          (c.fault_of.ensures.tells.right (c.in-Err.ensures.refused (c.fault_of.ensures.honest clean)
          c.args.version (has held.1.known)
          (schema_at c.args.version held.0 (state g.S.Store c.args.conn.now) held.1)));
      wrong = λ clean trees file e.
          absurd (not_foreign c.fault_of.result
          (c.fault_of.ensures.tells.right (c.in-Err.ensures.refused (c.fault_of.ensures.honest clean)
          c.args.version (has file.known) (schema_of c.args.version trees (state g.S.Store c.args.conn.now) file))) e);
      unread = λ clean known e.
          let t = g.T.TableRow.records in (
            has known,
            without_answer (state g.S.Store c.args.conn.now).now (query_text t.table) (InForm t)
                c.fault_of.result _ c.fault_of.ensures.tells.wrong
                (c.in-Err.ensures.unanswered (c.fault_of.ensures.honest clean)) e,
          );
      same = λ clean.
          let was = c.fault_of.ensures.honest clean in
          keeps_after (state g.S.Store c.args.conn.now) (state g.S.Store c.table_rows.new.conn)
          (state g.S.Store c.fault_of.new.conn) _ c.fault_of.result c.fault_of.ensures.tells c.fault_of.ensures.kinds
          (c.in-Err.ensures.asks.intact was) (c.in-Err.ensures.asks.foreign was)
          (λ memory. c.fault_of.ensures.same memory clean) (λ other. c.fault_of.ensures.kept other clean);
      survives = survives_on _ _ _ c.table_rows.ensures.asks.survives c.fault_of.ensures.survives;
    }
