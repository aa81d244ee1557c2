use Rattle.std.proofs.Common.{[], IfOk, IfErr, sym, subst}
use Rattle.sqlite.specs.Held.{state}
use Rattle.sqlite.specs.State.{HasCleanDisk, Shown}
use Rattle.sqlite_resolve.specs.Compile.{first}
use Rattle.rtgs_sql_columns.specs.Tables.{query_text}
use Rattle.rtgs_sql_queries.specs.Answering.{Returnless, FailsAmid}
use Rattle.rtgs_sql_queries.proofs.Showing.{shows_all, shows_own, refused}
use Rattle.rtgs_sql_queries.proofs.ReadingAlone.{kept_after, intact_after, foreign_after}
use Rattle.rtgs_sql_queries.proofs.Versions.{asks_in}
use Rattle.rtgs_sql_queries.proofs.AsRead.{read_so}
use Rattle.rtgs_sql_queries.proofs.Answering.{amid, unanswered_amid}
use Rattle.rtgs_sql_queries.proofs.Displaying.{displayed, returnless}
use Rattle.rtgs_sql_queries.proofs.whole_table.table_rows.Goals as goal

pub all_rows-requires : goal.all_rows-requires
all_rows-requires g c = subst (λ text. Returnless (first text)) (sym c.query.ensures.is)
    (returnless (query_text g.T.TableRow.records.table) _ c.query.ensures.asks.query)

pub returns-clause-given : goal.returns-clause-given
returns-clause-given g c clean version has accounts book held =
    let t = g.T.TableRow.records in
    let old = state g.S.Store c.args.conn.now in
    let new = state g.S.Store c.all_rows.new.conn in
    let rows = shows_own c.one_table_answers.ensures t c.query.ensures.asks c.query.ensures.shows version has old new
    held.0 accounts book held.1 held.2 c.all_rows.result
    (subst (λ text. IfOk c.all_rows.result (λ rows. Shown text [] old new rows.items)) c.query.ensures.is
    (c.all_rows.ensures.ok clean)) in
    record {
      rows = rows;
      read = read_so t.counted t.shown c.query.ensures.own c.all_rows.result (t.of_book version accounts book) rows;
      fit = c.query.ensures.shows.fit version held.0 accounts book held.2;
    }

pub returns-clause-own : goal.returns-clause-own
returns-clause-own g c = c.query.ensures.own

pub returns-clause-raw : goal.returns-clause-raw
returns-clause-raw g c clean version has trees file =
    let old = state g.S.Store c.args.conn.now in
    let new = state g.S.Store c.all_rows.new.conn in
    shows_all g.T.TableRow.records.table c.query.ensures.asks version has old new c.one_table_answers.ensures trees file
    c.all_rows.result
    (subst (λ text. IfOk c.all_rows.result (λ rows. Shown text [] old new rows.items)) c.query.ensures.is
    (c.all_rows.ensures.ok clean))

pub returns-clause-refused : goal.returns-clause-refused
returns-clause-refused g c clean version has schema =
    let old = state g.S.Store c.args.conn.now in
    let new = state g.S.Store c.all_rows.new.conn in
    refused g.T.TableRow.records.table (asks_in g.T.TableRow.records.table c.query.ensures.asks version has) old new
    schema c.all_rows.result
    (subst (λ text. IfErr c.all_rows.result (FailsAmid text old new)) c.query.ensures.is (c.all_rows.ensures.err clean))

pub returns-clause-asks : goal.returns-clause-asks
returns-clause-asks g c =
    let text = query_text g.T.TableRow.records.table in
    let reads = returnless text _ c.query.ensures.asks.query in
    let old = state g.S.Store c.args.conn.now in
    let new = state g.S.Store c.all_rows.new.conn in
    let shown = λ (clean : HasCleanDisk new). subst (λ sql. IfOk c.all_rows.result (λ rows. Shown sql [] old new
    rows.items)) c.query.ensures.is (c.all_rows.ensures.ok clean) in
    let stopped = λ (clean : HasCleanDisk new). amid text old new c.all_rows.result (subst
    (λ sql. IfErr c.all_rows.result (FailsAmid sql old new)) c.query.ensures.is (c.all_rows.ensures.err clean)) in
    record {
      survives = c.all_rows.ensures.survives;
      mode = c.all_rows.ensures.mode;
      kept = λ clean. kept_after text [] reads old new c.all_rows.result (shown clean);
      intact = λ clean. intact_after text [] reads old new c.all_rows.result (shown clean) (stopped clean);
      foreign = λ clean. foreign_after text [] reads old new c.all_rows.result (stopped clean);
    }

pub returns-clause-answered : goal.returns-clause-answered
returns-clause-answered g c clean =
    let old = state g.S.Store c.args.conn.now in
    let new = state g.S.Store c.all_rows.new.conn in
    displayed (query_text g.T.TableRow.records.table) c.query.ensures.asks.query c.query.ensures.asks.foreign old new
    c.all_rows.result
    (subst (λ text. IfOk c.all_rows.result (λ rows. Shown text [] old new rows.items)) c.query.ensures.is
    (c.all_rows.ensures.ok clean))

pub returns-clause-unanswered : goal.returns-clause-unanswered
returns-clause-unanswered g c clean =
    let old = state g.S.Store c.args.conn.now in
    let new = state g.S.Store c.all_rows.new.conn in
    unanswered_amid (query_text g.T.TableRow.records.table) c.query.ensures.asks.query c.query.ensures.asks.foreign old
    new c.all_rows.result
    (subst (λ text. IfErr c.all_rows.result (FailsAmid text old new)) c.query.ensures.is (c.all_rows.ensures.err clean))
