use Rattle.std.proofs.Common.{◌∙◌, ℕ, Result, IfErr, sym, ap, subst}
use Rattle.sqlite.specs.Effect.{Database}
use Rattle.sqlite.specs.Held.{state}
use Rattle.rtgs_book.specs.declared.book.Book.{Book}
use Rattle.rtgs_book.specs.declared.fault.Fault.{Fault}
use Rattle.rtgs_book.specs.declared.fault.Fault.TheVariants.{StoreFault}
use Rattle.rtgs_sql_loading.specs.Loading.{LoadsFrom}
use Rattle.rtgs_sql_writes.specs.Building.{takes_a_name}
use Rattle.rtgs_tables.specs.Migrating.{ExplainsMigration}
use Rattle.rtgs_tables.proofs.Judging.{passed_on, passed_as}
use Rattle.rtgs_tables.proofs.Migrating.{judged, taken_explained, loaded_explained, unsaid_explained, loads_before}
use Rattle.rtgs_tables.proofs.Migrating.{keeps_then}
use Rattle.rtgs_tables.proofs.migration.judged_version.Goals as goal

pub returns-in_err-version-clause-explained : goal.returns-in_err-version-clause-explained
returns-in_err-version-clause-explained g c clean =
    let s = state g.S.Store c.args.conn.now in
    passed_on (ExplainsMigration s) c.version_of.result _ c.from_residual.result c.in_err-version.was
    c.from_residual.ensures.1
    (subst (λ (r : Result ℕ Fault). IfErr r (ExplainsMigration s)) (sym c.in_err-version.was)
    (unsaid_explained s (state g.S.Store c.version_of.new.conn) _ c.version_of.result c.in_err-version.was clean
    c.version_of.ensures.stops c.version_of.ensures.kinds))

pub returns-in_err-version-clause-same : goal.returns-in_err-version-clause-same
returns-in_err-version-clause-same g c clean other =
    (c.version_of.ensures.stops 1).same clean (λ e. other (passed_as c.version_of.result _ StoreFault
    c.from_residual.result c.in_err-version.was c.from_residual.ensures.1 e))

pub returns-in_err-version-clause-survives : goal.returns-in_err-version-clause-survives
returns-in_err-version-clause-survives g c = (c.version_of.ensures.stops 1).survives

pub returns-then-is_name_taken-clause-explained : goal.returns-then-is_name_taken-clause-explained
returns-then-is_name_taken-clause-explained g c clean =
    let version = c.in_ok-version.version in
    let says = c.in_ok-version.ensures.read clean in
    taken_explained (state g.S.Store c.args.conn.now) version says.0 says.1 says.2
    (ap (λ (d : Database). takes_a_name version d.schema) (sym (c.in_ok-version.ensures.on.same clean))
    ∙ c.is_name_taken.ensures.yes c.if-is_name_taken.true)

pub returns-in_err-load_book-clause-same : goal.returns-in_err-load_book-clause-same
returns-in_err-load_book-clause-same g c clean other =
    keeps_then _ _ _ (c.in_ok-version.ensures.on.keeps (c.load_book.ensures.honest clean))
    (c.load_book.ensures.same clean
    (λ e. other
    (passed_as c.load_book.result _ StoreFault c.from_residual-in_err-load_book.result c.in_err-load_book.was
    c.from_residual-in_err-load_book.ensures.1 e)))

pub returns-in_err-load_book-clause-explained : goal.returns-in_err-load_book-clause-explained
returns-in_err-load_book-clause-explained g c clean =
    let s = state g.S.Store c.args.conn.now in
    let version = c.in_ok-version.version in
    let was = c.load_book.ensures.honest clean in
    let on = c.in_ok-version.ensures.on in
    let says = c.in_ok-version.ensures.read was in
    let loads = loads_before version s _ c.load_book.result (on.keeps was) (on.same was)
    (c.load_book.ensures.tells clean) in
    passed_on (ExplainsMigration s) c.load_book.result _ c.from_residual-in_err-load_book.result c.in_err-load_book.was
    c.from_residual-in_err-load_book.ensures.1
    (subst (λ (r : Result Book Fault). IfErr r (ExplainsMigration s)) (sym c.in_err-load_book.was)
    (loaded_explained s version says.0 says.1 says.2
    (λ low. ap (λ (d : Database). takes_a_name version d.schema) (sym (on.same was))
    ∙ c.is_name_taken.ensures.no c.if-is_name_taken.false low) _
    (subst (LoadsFrom version s) c.in_err-load_book.was loads)))

pub returns-clause-judged : goal.returns-clause-judged
returns-clause-judged g c clean =
    let s = state g.S.Store c.args.conn.now in
    let version = c.in_ok-version.version in
    let was = c.load_book.ensures.honest clean in
    let on = c.in_ok-version.ensures.on in
    let says = c.in_ok-version.ensures.read was in
    let loads = loads_before version s _ c.load_book.result (on.keeps was) (on.same was)
    (c.load_book.ensures.tells clean) in (
      _,
      judged s version says.0 says.1 says.2
          (λ low. ap (λ (d : Database). takes_a_name version d.schema) (sym (on.same was))
          ∙ c.is_name_taken.ensures.no c.if-is_name_taken.false low) _ c.in_ok-load_book.ensures.sound
          (subst (LoadsFrom version s) c.in_ok-load_book.was loads),
    )

pub returns-clause-same : goal.returns-clause-same
returns-clause-same g c clean other =
    keeps_then _ _ _ (c.in_ok-version.ensures.on.keeps (c.load_book.ensures.honest clean))
    (c.load_book.ensures.same clean (λ e. let is = c.in_ok-load_book.was in cc))
