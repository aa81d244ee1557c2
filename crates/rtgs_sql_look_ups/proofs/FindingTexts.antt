-- The texts that look up a record.
use Rattle.std.proofs.Common.{ℕ, List, [], ◌∷◌, codes, refl, ◌++◌}
use Rattle.sqlite.specs.Collation.TheVariants.{Binary}
use Rattle.sqlite_sql.specs.declared.ops.BinaryOp.TheVariants.{Compare}
use Rattle.sqlite_sql.specs.declared.ops.CompareOp.TheVariants.{Eq}
use Rattle.sqlite.specs.Term.{Term, col, op2}
use Rattle.sqlite_tied.specs.Compute.{everything}
use Rattle.sqlite_resolve.specs.Compile.{first}
use Rattle.sqlite.specs.Listing.{understood}
use Rattle.rtgs_rows.specs.Tables.{schema_in, posting_table, order_table, mark_table, forward_table}
use Rattle.rtgs_sql_columns.specs.Tables.{column_names}
use Rattle.sqlite.specs.Query.{Query}
use Rattle.rtgs_sql_columns.specs.OneTable.{simple}
use Rattle.rtgs_sql_queries.specs.Answering.{Returnless}
use Rattle.rtgs_sql_queries.specs.TableQueries.{Seeks, columns_of}
use Rattle.rtgs_sql_look_ups.specs.Finding.{IsFirstQuery, after_tests, order_after_tests, under_tests}

-- ---- by name

abbrev pub order_text : List ℕ
order_text = codes "SELECT number, sender, reference, receiver, amount, date, state, mark FROM payment "
    ++ codes "WHERE sender = ?1 AND reference = ?2"

abbrev pub order_tests : List Term
order_tests = op2 (Compare Eq Binary) (col 1 2) (col 0 0) ∷ op2 (Compare Eq Binary) (col 1 3) (col 0 1) ∷ []

abbrev pub order_query : Query
order_query = simple order_table.tree order_tests (columns_of order_table) []

pub order_seeks : Seeks order_text 2 order_query (column_names order_table)
unfolding understood everything schema_in
order_seeks = record {
  asks = record { command = refl; plain = (refl, refl); whole = refl; given = refl };
  unlisted = refl;
}

pub order_reads : Returnless (first order_text)
unfolding everything
order_reads schema base = refl

abbrev pub posting_text : List ℕ
posting_text = codes "SELECT number, code, reference, cents, date FROM posting WHERE reference = ?1"

abbrev pub posting_tests : List Term
posting_tests = op2 (Compare Eq Binary) (col 1 3) (col 0 0) ∷ []

abbrev pub posting_query : Query
posting_query = simple posting_table.tree posting_tests (columns_of posting_table) []

pub posting_seeks : Seeks posting_text 1 posting_query (column_names posting_table)
unfolding understood everything schema_in
posting_seeks = record {
  asks = record { command = refl; plain = (refl, refl); whole = refl; given = refl };
  unlisted = refl;
}

pub posting_reads : Returnless (first posting_text)
unfolding everything
posting_reads schema base = refl

-- ---- the first after a number

abbrev pub posting_after_text : List ℕ
posting_after_text = codes
    "SELECT number, code, reference, cents, date FROM posting WHERE number > ?1 ORDER BY number LIMIT 1"

pub posting_after_asks : IsFirstQuery posting_table after_tests posting_after_text 1
unfolding understood everything schema_in
posting_after_asks = record {
  seeks = record {
    asks = record { command = refl; plain = (refl, refl); whole = refl; given = refl };
    unlisted = refl;
  };
  reads = λ schema base. refl;
}

abbrev pub order_after_text : List ℕ
order_after_text = codes "SELECT number, sender, reference, receiver, amount, date, state, mark FROM payment "
    ++ codes "WHERE date = ?1 AND number > ?2 ORDER BY number LIMIT 1"

pub order_after_asks : IsFirstQuery order_table order_after_tests order_after_text 2
unfolding understood everything schema_in
order_after_asks = record {
  seeks = record {
    asks = record { command = refl; plain = (refl, refl); whole = refl; given = refl };
    unlisted = refl;
  };
  reads = λ schema base. refl;
}

abbrev pub mark_after_text : List ℕ
mark_after_text = codes "SELECT number, date, many, value FROM mark WHERE number > ?1 ORDER BY number LIMIT 1"

pub mark_after_asks : IsFirstQuery mark_table after_tests mark_after_text 1
unfolding understood everything schema_in
mark_after_asks = record {
  seeks = record {
    asks = record { command = refl; plain = (refl, refl); whole = refl; given = refl };
    unlisted = refl;
  };
  reads = λ schema base. refl;
}

abbrev pub order_above_text : List ℕ
order_above_text = codes "SELECT number, sender, reference, receiver, amount, date, state, mark FROM payment "
    ++ codes "WHERE number > ?1 ORDER BY number LIMIT 1"

pub order_above_asks : IsFirstQuery order_table after_tests order_above_text 1
unfolding understood everything schema_in
order_above_asks = record {
  seeks = record {
    asks = record { command = refl; plain = (refl, refl); whole = refl; given = refl };
    unlisted = refl;
  };
  reads = λ schema base. refl;
}

abbrev pub due_above_text : List ℕ
due_above_text = codes "SELECT number, due FROM forward WHERE number > ?1 ORDER BY number LIMIT 1"

pub due_above_asks : IsFirstQuery forward_table after_tests due_above_text 1
unfolding understood everything schema_in
due_above_asks = record {
  seeks = record {
    asks = record { command = refl; plain = (refl, refl); whole = refl; given = refl };
    unlisted = refl;
  };
  reads = λ schema base. refl;
}

-- ---- the due date of a number

abbrev pub due_text : List ℕ
due_text = codes "SELECT number, due FROM forward WHERE number = ?1 ORDER BY number LIMIT 1"

pub due_asks : IsFirstQuery forward_table under_tests due_text 1
unfolding understood everything schema_in
due_asks = record {
  seeks = record {
    asks = record { command = refl; plain = (refl, refl); whole = refl; given = refl };
    unlisted = refl;
  };
  reads = λ schema base. refl;
}
