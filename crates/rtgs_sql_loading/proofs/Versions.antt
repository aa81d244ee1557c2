-- Which tables a version has, and what is so of the tables that it has.
use Rattle.std.proofs.Common.{◌<◌, ◌==◌, inl, inr, ℕ, zero, suc, List, [], ◌∷◌, ◌++◌, take, drop, refl, sym, arith}
use Rattle.std.specs.List.{AllByRecursion, Contains, list_any}
use Rattle.sqlite.specs.Table.{Table}
use Rattle.sqlite_keyed.proofs.ListLemmas.{all-filter}
use Rattle.rtgs_rows.specs.Tables.{HasTable, IsVersion, versions, versions_of, table_count, tables_in, forward_table}
use Rattle.rtgs_rows.specs.Tables.{resolution_table}
use Rattle.rtgs_rows.specs.TableRecords.{TableRecords, Each, OneOf, records_of_tables, records_in}
use Rattle.rtgs_lists.proofs.Lists.{all_get}

-- what is so of each version that has the table
in_each : (P : ℕ → Type 0) (table : Table) → AllByRecursion P (versions_of table) → (version : ℕ)
    → HasTable version table → P version
in_each P table each version has = all_get P (versions_of table) has.0 version has.1 (sym has.2) each

-- what is so of each that is known
in_all : (P : ℕ → Type 0) → AllByRecursion P versions → (version : ℕ) → IsVersion version → P version
in_all P each version known = all_get P versions known.0 version known.1 (sym known.2) each

each_known : AllByRecursion IsVersion versions
each_known = ((0, omega arith, refl), ((1, omega arith, refl), ((2, omega arith, refl), tt)))

-- a version that has a table is known
pub known_of : (version : ℕ) (table : Table) → HasTable version table → IsVersion version
known_of version table = in_each IsVersion table (all-filter IsVersion
    (λ v. list_any (λ (one : Table). one.tree == table.tree) (tables_in v)) versions each_known) version

-- the version has the table of these records
abbrev pub Has : ℕ → (A : Type 0) → TableRecords A → Type 0
Has version A records = HasTable version records.table

-- a version has the tables that are counted
pub has_counted : (version : ℕ) → IsVersion version → Each (Has version) (records_in version)
has_counted =
    let one : Contains versions 1 = (0, omega arith, refl) in
    let two : Contains versions 2 = (1, omega arith, refl) in
    let three : Contains versions 3 = (2, omega arith, refl) in
    in_all (λ version. Each (Has version) (records_in version)) (
      (one, (one, (one, (one, (one, tt))))),
      (
        (two, (two, (two, (two, (two, ((0, omega arith, refl), tt)))))),
        ((three, (three, (three, (three, (three, ((1, omega arith, refl), ((0, omega arith, refl), tt))))))), tt),
      ),
    )

-- and no more
pub has_no_more : (version : ℕ) → IsVersion version
    → Each (λ A records. ¬ Has version A records) (drop (table_count version) records_of_tables)
has_no_more =
    in_all (λ version. Each (λ A records. ¬ Has version A records) (drop (table_count version) records_of_tables)) (
      (
        λ has.
            let late = in_each (λ v. 1 < v) forward_table (omega arith, (omega arith, tt)) 1 has in omega (arith, late),
        (no_choice 1 (omega arith), tt),
      ),
      ((no_choice 2 (omega arith), tt), (tt, tt)),
    )
  where
    no_choice : (version : ℕ) → version < 3 → ¬ HasTable version resolution_table
    no_choice version low has =
        let late = in_each (λ v. 2 < v) resolution_table (omega arith, tt) version has in omega (arith, late, low)

-- ---- of the first N, and of all

abbrev Fact : Type 1
Fact = (A : Type 0) → TableRecords A → Type 0

abbrev All : Type 1
All = List ((A : Type 0) × TableRecords A)

-- what is so of each is so of the first
pub each_first : (P : Fact) (count : ℕ) (all : All) → Each P all → Each P (take count all)
each_first P zero all is = tt
each_first P (suc count) [] is = tt
each_first P (suc count) (records ∷ all) is = (is.0, each_first P count all is.1)

-- and of those after the first
pub each_last : (P : Fact) (count : ℕ) (all : All) → Each P all → Each P (drop count all)
each_last P zero all is = is
each_last P (suc count) [] is = is
each_last P (suc count) (records ∷ all) is = each_last P count all is.1

-- where those after the first are not had, what is so of each of the first is so of each that is had
pub each_had : (H P : Fact) (count : ℕ) (all : All) → Each (λ A records. ¬ H A records) (drop count all)
    → Each P (take count all) → Each (λ A records. H A records → P A records) all
each_had H P zero [] none is = tt
each_had H P zero (records ∷ all) none is = (λ has. absurd (none.0 has), each_had H P zero all none.1 tt)
each_had H P (suc count) [] none is = tt
each_had H P (suc count) (records ∷ all) none is = (λ has. is.0, each_had H P count all none is.1)

-- and one that is had is one of the first
pub one_had : (H P : Fact) (count : ℕ) (all : All) → Each (λ A records. ¬ H A records) (drop count all)
    → OneOf (λ A records. H A records × P A records) all → OneOf P (take count all)
one_had H P zero [] none is = absurd is
one_had H P zero (records ∷ all) none (inl is) = absurd (none.0 is.0)
one_had H P zero (records ∷ all) none (inr is) = absurd (one_had H P zero all none.1 is)
one_had H P (suc count) [] none is = absurd is
one_had H P (suc count) (records ∷ all) none (inl is) = inl is.1
one_had H P (suc count) (records ∷ all) none (inr is) = inr (one_had H P count all none is)

-- one of these is one of these and more
pub one_before : (P : Fact) (all more : All) → OneOf P all → OneOf P (all ++ more)
one_before P [] more is = absurd is
one_before P (records ∷ all) more (inl is) = inl is
one_before P (records ∷ all) more (inr is) = inr (one_before P all more is)
