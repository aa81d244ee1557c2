use Rattle.sqlite.specs.Held.{state}
use Rattle.sqlite.specs.Values.{bound}
use Rattle.rtgs_sql_queries.proofs.Asking.{is_query, answers}
use Rattle.rtgs_sql_queries.proofs.asked.asked_rows.Goals as goal

pub returns-clause-asks : goal.returns-clause-asks
returns-clause-asks g c reads =
    is_query g.S.Store c.args.text.now (bound c.args.params.now) reads c.args.conn.now
    c.query_all.new.self c.query_all.result c.query_all.ensures.ok c.query_all.ensures.err c.query_all.ensures.mode
    c.query_all.ensures.survives

pub returns-clause-rows : goal.returns-clause-rows
returns-clause-rows g c clean query names is schema =
    answers c.args.text.now (bound c.args.params.now) query names is (state g.S.Store c.args.conn.now)
    (state g.S.Store c.query_all.new.self) schema c.query_all.result (c.query_all.ensures.ok clean)
