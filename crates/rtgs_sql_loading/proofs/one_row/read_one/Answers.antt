use Rattle.std.proofs.Common.{◌≡◌, ℕ, Ok, IsPermutation, sym, subst, ◌∙◌}
use Rattle.sqlite.specs.Held.{state}
use Rattle.rtgs_rows.specs.Querying.{as_shown}
use Rattle.rtgs_sql_columns.specs.Tables.{query_text}
use Rattle.rtgs_sql_loading.specs.Accounts.{IsOneRow}
use Rattle.rtgs_sql_loading.proofs.Keeps.{not_foreign, keeps_after, schema_of, schema_at, survives_on}
use Rattle.rtgs_sql_loading.proofs.Records.{single, one_reads, no_row, not_read}
use Rattle.rtgs_sql_loading.proofs.Displaying.{without_form, without_answer, reads_on}
use Rattle.rtgs_sql_loading.proofs.one_row.read_one.Goals as goal

pub returns-in-Ok-clause-read : goal.returns-in-Ok-clause-read
returns-in-Ok-clause-read g c clean =
    let t = g.T.TableRow.records in
    one_reads t (state g.S.Store c.args.conn.now) _ _ c.only_row.result c.as_slice.ensures.value
    (c.in-Ok.ensures.answered clean).0
    (λ version has trees file. (c.in-Ok.ensures.raw clean version has trees file).0)
    (λ version has accounts book held.
    let it = c.in-Ok.ensures.given clean version has accounts book held in
    let one = g.met.T.OneRow.one version accounts book in (
      g.T.OneRow.of_day version book,
      one,
      single t _ _ _ _ c.only_row.result one c.as_slice.ensures.value it.fit it.read c.only_row.ensures.given,
    )) c.only_row.ensures.is

pub returns-in-Ok-clause-on : goal.returns-in-Ok-clause-on
returns-in-Ok-clause-on g c =
    reads_on (state g.S.Store c.args.conn.now) (state g.S.Store c.table_rows.new.conn) c.only_row.result
    c.table_rows.ensures.honest c.in-Ok.ensures.asks.kept (λ clean. (c.in-Ok.ensures.answered clean).1)
    c.table_rows.ensures.asks.survives

pub returns-in-Ok-clause-stops : goal.returns-in-Ok-clause-stops
returns-in-Ok-clause-stops g c version has =
    let t = g.T.TableRow.records in
    record {
      right = λ clean accounts book held e.
          let it = c.in-Ok.ensures.given clean version (has held.1.known) accounts book held in
          let is = single t (g.T.OneRow.of_day version book) _ _ _ c.only_row.result
          (g.met.T.OneRow.one version accounts book) c.as_slice.ensures.value it.fit it.read c.only_row.ensures.given in
          absurd (let clash = sym is ∙ e in cc);
      wrong = λ clean trees file e.
          let stored = as_shown t.table trees in
          no_row t stored _ (subst (IsPermutation stored) (sym c.as_slice.ensures.value)
          (c.in-Ok.ensures.raw clean version (has file.known) trees file).0)
          (not_read c.only_row.result _ _ c.only_row.ensures.wrong e);
      unread = λ clean known e. without_form (state g.S.Store c.args.conn.now).now (query_text t.table) (IsOneRow t) _ _
          c.as_slice.ensures.value (c.in-Ok.ensures.answered clean).0
          (not_read c.only_row.result _ _ c.only_row.ensures.wrong e);
      same = λ clean _. c.in-Ok.ensures.asks.kept clean;
      survives = c.table_rows.ensures.asks.survives;
    }

pub returns-in-Err-clause-stops : goal.returns-in-Err-clause-stops
returns-in-Err-clause-stops g c version has =
    let t = g.T.TableRow.records in
    record {
      right = λ clean accounts book held.
          not_foreign c.fault_of.result
          (c.fault_of.ensures.tells.right (c.in-Err.ensures.refused (c.fault_of.ensures.honest clean)
          version (has held.1.known) (schema_at version held.0 (state g.S.Store c.args.conn.now) held.1)));
      wrong = λ clean trees file e.
          absurd (not_foreign c.fault_of.result
          (c.fault_of.ensures.tells.right (c.in-Err.ensures.refused (c.fault_of.ensures.honest clean)
          version (has file.known) (schema_of version trees (state g.S.Store c.args.conn.now) file))) e);
      unread = λ clean known.
          without_answer (state g.S.Store c.args.conn.now).now (query_text t.table) (IsOneRow t)
          c.fault_of.result _ c.fault_of.ensures.tells.wrong
          (c.in-Err.ensures.unanswered (c.fault_of.ensures.honest clean));
      same = λ clean.
          let was = c.fault_of.ensures.honest clean in
          keeps_after (state g.S.Store c.args.conn.now) (state g.S.Store c.table_rows.new.conn)
          (state g.S.Store c.fault_of.new.conn) _ c.fault_of.result c.fault_of.ensures.tells c.fault_of.ensures.kinds
          (c.in-Err.ensures.asks.intact was) (c.in-Err.ensures.asks.foreign was)
          (λ memory. c.fault_of.ensures.same memory clean) (λ other. c.fault_of.ensures.kept other clean);
      survives = survives_on _ _ _ c.table_rows.ensures.asks.survives c.fault_of.ensures.survives;
    }
