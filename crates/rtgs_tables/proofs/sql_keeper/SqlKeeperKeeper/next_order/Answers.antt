use Rattle.rtgs_tables.specs.declared.sql_keeper.SqlKeeper.{SqlKeeper}
use Rattle.rtgs_tables.proofs.KeepingLooks.{reads_on}
use Rattle.rtgs_tables.proofs.sql_keeper.SqlKeeperKeeper.next_order.Goals as goal

pub returns-clause-reads : goal.returns-clause-reads
returns-clause-reads g c = reads_on g.S.Store (λ (k : SqlKeeper g.row.S.Denot g.S.Store). k.conn) (λ k. k.failed) _ _
    c.next_order-found.result c.next_order-found.ensures.looks c.if-self.false
    c.is_store_fault-self.ensures.yes c.is_store_fault-self.ensures.no
