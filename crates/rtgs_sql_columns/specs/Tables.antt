-- The query of all rows of a table, as the table's description makes it.
use Rattle.std.specs.Prelude.{ℕ, List, [], ◌∷◌, ◌++◌, codes, map}
use Rattle.sqlite.specs.Table.{Table}
use Rattle.sqlite_schema.specs.declared.schema.Column.{Column}

abbrev pub column_names : Table → List (List ℕ)
column_names table = map (λ (column : Column). column.name) table.columns

-- names of columns, each after a comma
abbrev more_names : List Column → List ℕ
more_names [] = []
more_names (column ∷ columns) = codes ", " ++ column.name ++ more_names columns

-- SELECT the columns FROM the table ORDER BY the first of them
abbrev select_all : List ℕ → List Column → List ℕ
select_all name [] = []
select_all name (first ∷ more) = codes "SELECT " ++ first.name ++ more_names more ++ codes " FROM " ++ name
    ++ codes " ORDER BY " ++ first.name

abbrev pub query_text : Table → List ℕ
query_text table = select_all table.name table.columns
