use Rattle.std.proofs.Common.{IfErr, rules, subst, subst₂}
use Rattle.sqlite_catalog.specs.Listing.{IsSound}
use Rattle.sqlite.specs.Held.{state}
use Rattle.rtgs_book.specs.declared.fault.Fault.TheVariants.{StoreFault}
use Rattle.rtgs_rows.specs.Tables.{IsVersion, schema_in}
use Rattle.rtgs_sql_loading.specs.Accounts.{ExplainsRead}
use Rattle.rtgs_sql_loading.proofs.Judging.{judged_book, judged_of, unread, unread_of, answered}
use Rattle.rtgs_sql_loading.proofs.Together.{held_book, shown_book}
use Rattle.rtgs_sql_loading.proofs.Displaying.{displayed_book, explains_book, explains_none}
use Rattle.rtgs_sql_loading.proofs.loading.load_book.Goals as goal

pub returns-in_err-stored-clause-tells : goal.returns-in_err-stored-clause-tells
returns-in_err-stored-clause-tells g c clean =
    let known : IsVersion c.args.version = c.is_version.ensures.0 c.if-not-is_version.false in
    let stops = c.read_tables.ensures.stops in
    let kinds = c.read_tables.ensures.kinds in
    let was = c.in_err-stored.was in
    let passed = c.from_residual.ensures.1 in
    record {
      read = λ accounts book held. search rules;
      explained = λ accounts book held. unread accounts book c.read_tables.result _ c.from_residual.result
          (stops.right clean accounts book held) kinds was passed;
      held = λ trees file whole. search rules;
      shown = λ trees file. search rules;
      caused = λ trees file. unread_of c.args.version trees c.read_tables.result _ c.from_residual.result
          (stops.wrong clean trees file) kinds was passed;
      displayed = search rules;
      by_queries = explains_none c.args.version (state g.S.Store c.args.conn.now).now c.read_tables.result _
          c.from_residual.result (stops.unread clean known) kinds was passed;
      unknown = λ not. absurd (not known);
    }

pub returns-clause-tells : goal.returns-clause-tells
returns-clause-tells g c clean =
    let version = c.args.version in
    let s = state g.S.Store c.args.conn.now in
    let known : IsVersion version = c.is_version.ensures.0 c.if-not-is_version.false in
    let tells = c.in_ok-stored.ensures.read known clean in
    let it = c.judged.ensures in
    record {
      read = λ accounts book held.
          let read = tells.records accounts book held in
          judged_book _ accounts _ book c.judged.result read.0 read.1 it.given it.balances;
      explained = λ accounts book held.
          let read = tells.records accounts book held in
          subst₂ (λ b a. IfErr c.judged.result (ExplainsRead a b)) read.0 read.1 it.explained;
      held = λ trees file whole.
          let sound = subst (IsSound (schema_in version)) file.trees_are
          (subst (λ schema. IsSound schema s.committed.trees) file.schema (c.schema.ensures.live file.is_open).1) in
          held_book c.shown_records_are_held.ensures version known trees _ _ c.judged.result sound whole
          (tells.rows trees file) it.given it.sound it.balances;
      shown = λ trees file.
          shown_book version trees _ _ c.judged.result (tells.rows trees file) it.given it.sound it.balances;
      caused = λ trees file. judged_of version trees _ _ c.judged.result (tells.rows trees file) it.explained;
      displayed = displayed_book version s.now _ _ c.judged.result tells.displayed it.given it.sound it.balances;
      by_queries = explains_book version s.now _ _ c.judged.result tells.displayed it.explained;
      unknown = λ not. absurd (not known);
    }

pub returns-in_err-stored-clause-same : goal.returns-in_err-stored-clause-same
returns-in_err-stored-clause-same g c clean other =
    c.read_tables.ensures.stops.same clean (λ e. other (answered c.read_tables.result _ StoreFault
    c.from_residual.result c.in_err-stored.was c.from_residual.ensures.1 e))

pub returns-clause-same : goal.returns-clause-same
returns-clause-same g c clean other = c.read_tables.ensures.stops.same clean
    (λ e. let is = c.in_ok-stored.was in cc)
