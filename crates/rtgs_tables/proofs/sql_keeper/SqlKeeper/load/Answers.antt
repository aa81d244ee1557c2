use Rattle.rtgs_tables.proofs.Together.{answers_book, leaves_connection}
use Rattle.rtgs_tables.proofs.sql_keeper.SqlKeeper.load.Goals as goal

pub returns-else-self-2-clause-answers : goal.returns-else-self-2-clause-answers
returns-else-self-2-clause-answers g c clean =
    let it = c.load_book-loaded.ensures in
    answers_book c.records_stand_in_order.ensures g.S.Store c.args.self.now.conn c.load_book-loaded.new.conn
    c.load_book-loaded.result (it.tells clean) (it.same clean) (it.blank clean)

pub returns-else-self-clause-answers : goal.returns-else-self-clause-answers
returns-else-self-clause-answers g c clean =
    let it = c.load_book-loaded.ensures in
    answers_book c.records_stand_in_order.ensures g.S.Store c.args.self.now.conn c.load_book-loaded.new.conn
    c.load_book-loaded.result (it.tells clean) (it.same clean) (it.blank clean)

pub returns-else-self-2-clause-leaves : goal.returns-else-self-2-clause-leaves
returns-else-self-2-clause-leaves g c clean =
    let it = c.load_book-loaded.ensures in
    leaves_connection g.S.Store c.args.self.now.conn c.load_book-loaded.new.conn c.load_book-loaded.result clean
    (it.same clean) it.survives

pub returns-else-self-clause-leaves : goal.returns-else-self-clause-leaves
returns-else-self-clause-leaves g c clean =
    let it = c.load_book-loaded.ensures in
    leaves_connection g.S.Store c.args.self.now.conn c.load_book-loaded.new.conn c.load_book-loaded.result clean
    (it.same clean) it.survives
