use Rattle.std.proofs.Common.{subst}
use Rattle.sqlite.specs.Held.{state}
use Rattle.rtgs_rows.specs.Content.{tables_for_in}
use Rattle.rtgs_rows.specs.Tables.{table_count}
use Rattle.rtgs_rows.specs.declared.numbers.TheConstants.{VERSION}
use Rattle.rtgs_sql_writes.specs.Building.{IsBuilt}
use Rattle.rtgs_sql_writes.proofs.CreateLemmas.{was_clean}
use Rattle.rtgs_sql_writes.proofs.UpgradeLemmas.{unchosen, all_there, nothing_lacks}
use Rattle.rtgs_sql_writes.proofs.upgrade.add_tables.Goals as goal

pub returns-in_ok-first_choice-clause-made : goal.returns-in_ok-first_choice-clause-made
returns-in_ok-first_choice-clause-made g c clean was content known none is =
    let version = c.args.version in
    let low = c.if-version-lt-VERSION.true in
    let mid = state g.S.Store c.create_from.new.tx.conn.now in
    let new = state g.S.Store c.first_choice.new.tx.conn.now in
    let built = c.in_ok-create_from.ensures.made (was_clean mid new c.first_choice.ensures.survives clean) was
    (tables_for_in version content) (rw c.count_of_tables.ensures is) in
    subst (λ rows. IsBuilt was (table_count VERSION) rows new) (all_there version content known none low)
    (c.in_ok-first_choice.ensures.made clean was _ (unchosen version content known low)
    (rw c.count_of_tables.ensures at built))

pub returns-else-version-lt-VERSION-clause-made : goal.returns-else-version-lt-VERSION-clause-made
returns-else-version-lt-VERSION-clause-made g c clean was content known none is =
    let version = c.args.version in
    let mid = state g.S.Store c.create_from.new.tx.conn.now in
    let built = c.in_ok-create_from.ensures.made clean was (tables_for_in version content)
    (rw c.count_of_tables.ensures is) in
    subst (λ rows. IsBuilt was (table_count VERSION) rows mid)
    (nothing_lacks version content c.requires c.if-version-lt-VERSION.false) (rw c.count_of_tables.ensures at built)
