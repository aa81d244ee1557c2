-- A database is read with one schema.
use Rattle.std.proofs.Common.{◌≡◌, ap}
use Rattle.sqlite.specs.Schema.{Schema}
use Rattle.sqlite.specs.Tree.{Trees}
use Rattle.sqlite_trees.specs.Objects.{catalog_tree}
use Rattle.sqlite_catalog.specs.Listing.{IsSound}
use Rattle.sqlite_catalog.proofs.ReadLemmas.{lists_once}
use Rattle.rtgs_rows.specs.Tables.{no_schema, desk_schema, schema_in}
use Rattle.rtgs_rows.specs.Content.{Content, HasNoTables, Holds}

pub one_schema : (one other : Schema) (trees : Trees) → IsSound one trees → IsSound other trees → one ≡ other
one_schema one other trees first second = lists_once (trees catalog_tree) one other first.lists second.lists

desk_has_tables : desk_schema ≡ no_schema → ⊥
unfolding schema_in
desk_has_tables e = let tables = ap (λ (s : Schema). s.tables) e in cc

pub no_book : (trees : Trees) (content : Content) → HasNoTables trees → Holds content trees → ⊥
no_book trees content none holds = desk_has_tables (one_schema desk_schema no_schema trees holds.sound none)
