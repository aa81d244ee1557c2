use Rattle.std.proofs.Common.{◌≡◌, ◌≤◌, ◌<◌, ◌∙◌, true, length, get_or, sym, ap, arith}
use Rattle.sqlite.specs.Schema.{Schema}
use Rattle.sqlite.specs.Table.{Table}
use Rattle.sqlite.specs.Held.{state}
use Rattle.sqlite_catalog.specs.Change.{is_used}
use Rattle.rtgs_rows.specs.Tables.{known_tables, desk_table, table_count}
use Rattle.rtgs_sql_writes.specs.declared.create.TheConstants.{NAMES}
use Rattle.rtgs_sql_writes.proofs.Lists.{some_from, none_from}
use Rattle.rtgs_sql_writes.proofs.CreateTexts.{name_at, all_named}
use Rattle.rtgs_sql_writes.proofs.upgrade.is_name_taken.Goals as goal

pub returns-then-is_used-clause-yes : goal.returns-then-is_used-clause-yes
returns-then-is_used-clause-yes g c is =
    let schema = (state g.S.Store c.args.conn.now).now.schema in
    let at = c.loop-at.at in
    let within : at < length NAMES = omega (arith, c.loop-at-test.true) in
    let from : table_count c.args.version ≤ at = omega (arith, c.count_of_tables-at.ensures, c.loop-at.auto.at) in
    let used : is_used schema c.as_bytes.result.now ≡ true =
    ap (λ (s : Schema). is_used s c.as_bytes.result.now) (sym c.schema-schema.ensures.value)
    ∙ sym c.is_used.ensures ∙ c.if-is_used.true in
    some_from (λ (t : Table). is_used schema t.name) known_tables (table_count c.args.version) at desk_table from
    within (ap (is_used schema) (sym (c.as_bytes.ensures.value ∙ search (name_at, all_named, within))) ∙ used)

pub returns-clause-no : goal.returns-clause-no
returns-clause-no g c is low =
    let schema = (state g.S.Store c.args.conn.now).now.schema in
    none_from (λ (t : Table). is_used schema t.name) known_tables (table_count c.args.version) desk_table
    (λ at from within. ap (λ (s : Schema). is_used s (get_or known_tables at desk_table).name)
    (sym c.schema-schema.ensures.value)
    ∙ c.loop-at.invariant at from (omega (arith, within, c.loop-at-test.false)))
