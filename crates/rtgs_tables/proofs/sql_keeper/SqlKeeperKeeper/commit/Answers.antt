use Rattle.std.proofs.Common.{sym, subst}
use Rattle.rtgs_book.specs.Changes.{IsChange}
use Rattle.rtgs_rows.specs.Settling.{whole}
use Rattle.rtgs_tables.proofs.Settling.{done, stops, stops_at, whole_at, whole_then}
use Rattle.rtgs_tables.proofs.sql_keeper.SqlKeeperKeeper.commit.Goals as goal

pub returns-in-Ok-clause-done : goal.returns-in-Ok-clause-done
returns-in-Ok-clause-done g c clean before after holds change =
    done (record {
      tells = c.rows_tell_the_book.ensures;
      in_order = c.changes_stand_in_order.ensures;
      changes = c.changed_rows_are_the_changed_book.ensures;
    }) g.S.Store c.args.self.now.conn c.write.new.conn
    c.as_slice-rows.result.now (c.in-Ok.ensures.done clean) before after holds
    (subst (λ rows. IsChange before rows after) (sym c.as_slice-rows.ensures) change) c.in-Ok.ensures.formed

pub returns-in-Ok-clause-stops : goal.returns-in-Ok-clause-stops
returns-in-Ok-clause-stops g c clean before after other holds change left =
    stops_at (record {
      tells = c.rows_tell_the_book.ensures;
      in_order = c.changes_stand_in_order.ensures;
      changes = c.changed_rows_are_the_changed_book.ensures;
    }) g.S.Store c.args.self.now.conn c.write.new.conn
    c.as_slice-rows.result.now c.write.ensures.crash clean before after other holds
    (subst (λ rows. IsChange before rows after) (sym c.as_slice-rows.ensures) change) left

pub returns-then-eq-clause-stops : goal.returns-then-eq-clause-stops
returns-then-eq-clause-stops g c clean before after other holds change left =
    stops (record {
      tells = c.rows_tell_the_book.ensures;
      in_order = c.changes_stand_in_order.ensures;
      changes = c.changed_rows_are_the_changed_book.ensures;
    }) g.S.Store c.args.self.now.conn c.write.new.conn
    c.fault_of-fault.new.conn c.as_slice-rows.result.now c.write.ensures.crash c.fault_of-fault.ensures.survives
    clean before after other holds
    (subst (λ rows. IsChange before rows after) (sym c.as_slice-rows.ensures) change) left

pub returns-else-eq-clause-stops : goal.returns-else-eq-clause-stops
returns-else-eq-clause-stops g c clean before after other holds change left =
    stops (record {
      tells = c.rows_tell_the_book.ensures;
      in_order = c.changes_stand_in_order.ensures;
      changes = c.changed_rows_are_the_changed_book.ensures;
    }) g.S.Store c.args.self.now.conn c.write.new.conn
    c.fault_of-fault.new.conn c.as_slice-rows.result.now c.write.ensures.crash c.fault_of-fault.ensures.survives
    clean before after other holds
    (subst (λ rows. IsChange before rows after) (sym c.as_slice-rows.ensures) change) left

pub returns-in-Ok-clause-whole : goal.returns-in-Ok-clause-whole
returns-in-Ok-clause-whole g c clean before after holds change =
    let was = whole g.S.Store c.args.self.now.conn (g.met.S.Store.settled c.args.self.now.conn.store) before holds in
    whole_at (record {
      tells = c.rows_tell_the_book.ensures;
      in_order = c.changes_stand_in_order.ensures;
      changes = c.changed_rows_are_the_changed_book.ensures;
    }) g.S.Store c.args.self.now.conn c.write.new.conn
    c.as_slice-rows.result.now c.write.ensures.crash clean was before after holds
    (subst (λ rows. IsChange before rows after) (sym c.as_slice-rows.ensures) change)

pub returns-then-eq-clause-whole : goal.returns-then-eq-clause-whole
returns-then-eq-clause-whole g c clean before after holds change =
    let was = whole g.S.Store c.args.self.now.conn (g.met.S.Store.settled c.args.self.now.conn.store) before holds in
    whole_then (record {
      tells = c.rows_tell_the_book.ensures;
      in_order = c.changes_stand_in_order.ensures;
      changes = c.changed_rows_are_the_changed_book.ensures;
    }) g.S.Store c.args.self.now.conn c.write.new.conn
    c.fault_of-fault.new.conn c.as_slice-rows.result.now c.write.ensures.crash c.fault_of-fault.ensures.survives
    clean was before after holds
    (subst (λ rows. IsChange before rows after) (sym c.as_slice-rows.ensures) change)

pub returns-else-eq-clause-whole : goal.returns-else-eq-clause-whole
returns-else-eq-clause-whole g c clean before after holds change =
    let was = whole g.S.Store c.args.self.now.conn (g.met.S.Store.settled c.args.self.now.conn.store) before holds in
    whole_then (record {
      tells = c.rows_tell_the_book.ensures;
      in_order = c.changes_stand_in_order.ensures;
      changes = c.changed_rows_are_the_changed_book.ensures;
    }) g.S.Store c.args.self.now.conn c.write.new.conn
    c.fault_of-fault.new.conn c.as_slice-rows.result.now c.write.ensures.crash c.fault_of-fault.ensures.survives
    clean was before after holds
    (subst (λ rows. IsChange before rows after) (sym c.as_slice-rows.ensures) change)
