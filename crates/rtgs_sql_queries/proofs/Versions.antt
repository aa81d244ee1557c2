-- What is so of each version that has a table.
use Rattle.std.proofs.Common.{ℕ, sym}
use Rattle.std.specs.List.{AllByRecursion}
use Rattle.sqlite.specs.Table.{Table}
use Rattle.rtgs_rows.specs.Tables.{HasTable, IsVersion, schema_in, versions, versions_of}
use Rattle.rtgs_lists.proofs.Lists.{all_get}
use Rattle.rtgs_sql_queries.specs.TableQueries.{IsTableQuery, AsksTable}

-- what is so of each that has the table
pub in_each : (P : ℕ → Type 0) (table : Table) → AllByRecursion P (versions_of table) → (version : ℕ)
    → HasTable version table → P version
in_each P table each version has = all_get P (versions_of table) has.0 version has.1 (sym has.2) each

-- what is so of each that is known
pub in_all : (P : ℕ → Type 0) → AllByRecursion P versions → (version : ℕ) → IsVersion version → P version
in_all P each version known = all_get P versions known.0 version known.1 (sym known.2) each

pub asks_in : (t : Table) → IsTableQuery t → (version : ℕ) → HasTable version t → AsksTable t (schema_in version)
asks_in t is = in_each (λ version. AsksTable t (schema_in version)) t is.asks
