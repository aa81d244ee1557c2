-- The first row above a number, in each table.
use Rattle.std.proofs.Common.{◌≡◌, ℕ, pos, nat_lt, ◌==◌, ◌&&◌, Bool, List, [], ◌∷◌, map, refl, sym, ap, subst, ◌∙◌}
use Rattle.std.proofs.Common.{inl, inr, option_map, true≢false, eqb-true, eq-eqb}
use Rattle.std.specs.List.{AllByRecursion, find}
use Rattle.std.specs.Str.{bytes_eq}
use Rattle.std.specs.Ordering.{int_cmp}
use Rattle.std.specs.declared.cmp.Ordering.TheVariants.{Less}
use Rattle.std.proofs.lemmas.Bool.{cases_Bool}
use Rattle.std.proofs.lemmas.Slice.Eq.{bytes_eq-Decides}
use Rattle.sqlite_value.proofs.OrderLemmas.{then-Equal, value_cmp-Int}
use Rattle.sqlite.specs.declared.types.Value.TheVariants.{Int, Text}
use Rattle.sqlite.specs.Order.{Row}
use Rattle.sqlite.specs.Query.{output}
use Rattle.sqlite.specs.Table.{Table}
use Rattle.sqlite.specs.Term.{Term}
use Rattle.sqlite.specs.Tree.{Trees}
use Rattle.sqlite.specs.Effect.{Database}
use Rattle.sqlite.specs.State.{State}
use Rattle.sqlite_sql.specs.Query.{output_cmp}
use Rattle.sqlite_sql.specs.Program.{overlay}
use Rattle.rtgs_money.specs.Date.{IsBusinessDate, date_text}
use Rattle.rtgs_book.specs.declared.book.Book.{Book}
use Rattle.rtgs_book.specs.declared.order.Order.{Order}
use Rattle.rtgs_book.specs.cores.Nexts.{order_after, is_order_after}
use Rattle.rtgs_rows.specs.RowLaws.{RecordsStandInOrder}
use Rattle.rtgs_rows.specs.Rows.{posting_row, order_row, mark_row, forward_row}
use Rattle.rtgs_rows.specs.Content.{Content, Rests, Rise, rows_in}
use Rattle.rtgs_rows.specs.Dues.{without_due, forwards_of}
use Rattle.rtgs_rows.specs.Fitting.{FitsOrder}
use Rattle.rtgs_rows.specs.Keeping.{IsBookOf}
use Rattle.rtgs_rows.specs.TableRecords.{TableRecords, posting_records, order_records, mark_records, forward_records}
use Rattle.rtgs_rows.specs.Tables.{posting_table, order_table, mark_table, forward_table}
use Rattle.rtgs_rows.specs.declared.forward.Forward.{Forward}
use Rattle.rtgs_sql_columns.specs.OneTable.{passes, OneTableAnswers}
use Rattle.rtgs_sql_queries.specs.Laws.{RecordsAreRead}
use Rattle.rtgs_sql_look_ups.specs.Finding.{first_query, after_tests, order_after_tests, under_tests, ShowsFirst}
use Rattle.rtgs_sql_look_ups.specs.Seeking.{first_above}
use Rattle.rtgs_sql_look_ups.specs.Skipping.{first_order_above, first_due_above}
use Rattle.rtgs_sql_look_ups.proofs.FindingLemmas.{first_rows, posting_is_after, order_is_after, mark_is_after}
use Rattle.rtgs_sql_look_ups.proofs.FindingLemmas.{order_is_above, forward_is_above, forward_is_under}
use Rattle.rtgs_sql_look_ups.proofs.DueLemmas.{shown_plain}
use Rattle.rtgs_lists.proofs.Lists.{all_of, all_weaker}

-- no two dates of the calendar have one text
abbrev DatesTell : Type 0
DatesTell = (one other : ℕ) → IsBusinessDate one → IsBusinessDate other → date_text one ≡ date_text other → one ≡ other

-- in a table of records under their numbers
first_in_table : {A : Type 0} (records : TableRecords A) (tests : List Term) (row : A → Row) (number : A → ℕ)
    (hit : A → Bool) (params : Row) → OneTableAnswers → RecordsAreRead records
    → ((a b : A) → int_cmp (pos (number a)) (pos (number b)) ≡ Less → output_cmp (first_query records.table tests)
    (output (first_query records.table tests) (params ∷ row a ∷ []))
    (output (first_query records.table tests) (params ∷ row b ∷ [])) ≡ Less)
    → ((a : A) → (output (first_query records.table tests) (params ∷ row a ∷ [])).1 ≡ records.shown a)
    → (trees : Trees) (all held : List A) → AllByRecursion (λ a. passes tests params (row a) ≡ hit a) all
    → overlay trees [] records.table.tree ≡ map row held → held ≡ all
    → Rise (λ a. pos (number a)) held → ShowsFirst records tests trees params (find hit all)
first_in_table records tests row number hit params answers read by shows trees all held tested here same up rows a =
    read rows _ (first_rows answers records.table tests row records.shown (λ it. pos (number it)) hit params by shows
    trees all tested
    (subst (Rise (λ it. pos (number it))) same up)
    (here ∙ ap (map row) same) rows a)

-- the rows of a table at rest
held_in : (content : Content) (s : State) → Rests content s → (t : Table)
    → s.now.trees t.tree ≡ s.committed.trees t.tree
held_in content s rests t = ap (λ (d : Database). d.trees t.tree) rests.clean

pub posting_first : RecordsStandInOrder → OneTableAnswers → RecordsAreRead posting_records → (number : ℕ) (book : Book)
    (s : State) (content : Content) → Rests content s → IsBookOf book content
    → ShowsFirst posting_records after_tests s.now.trees (Int (pos number) ∷ [])
    (first_above (λ p. p.number) number book.postings)
posting_first in_order answers read number book s content rests of =
    first_in_table posting_records after_tests posting_row (λ p. p.number) (λ p. nat_lt number p.number)
    (Int (pos number) ∷ []) answers read
    (λ a b low. then-Equal _ ∙ value_cmp-Int (pos a.number) (pos b.number) ∙ low) (λ _. refl) s.now.trees
    book.postings content.postings (all_of _ (posting_is_after number) book.postings)
    (held_in content s rests posting_table ∙ ap (rows_in posting_table) rests.holds.rows)
    of.records.lists.postings (in_order book content of).postings

-- so dates are compared by their texts
same_date : DatesTell → (date : ℕ) → IsBusinessDate date → (o : Order) → FitsOrder o
    → bytes_eq (date_text o.date) (date_text date) ≡ (o.date == date)
same_date tell date is o fits = elim (cases_Bool (o.date == date)) [
  | inl same ↦ (bytes_eq-Decides _ _).1 (ap date_text (eqb-true o.date date same)) ∙ sym same
  | inr other ↦ elim (cases_Bool (bytes_eq (date_text o.date) (date_text date))) [
    | inl same ↦ absurd (true≢false (sym (eq-eqb o.date date
        (tell o.date date fits.undated.date is ((bytes_eq-Decides _ _).0 same))) ∙ other))
    | inr apart ↦ apart ∙ sym other
  ]
]

pub order_first : RecordsStandInOrder → OneTableAnswers → RecordsAreRead order_records → DatesTell
    → (date number : ℕ) → IsBusinessDate date → (book : Book) (s : State) (content : Content) → Rests content s
    → IsBookOf book content
    → ShowsFirst order_records order_after_tests s.now.trees (Text (date_text date) ∷ Int (pos number) ∷ [])
    (option_map without_due (order_after book date number))
unfolding order_after
order_first in_order answers read tell date number is book s content rests of rows answer =
    first_in_table order_records order_after_tests order_row (λ o. o.number) (is_order_after date number)
    (Text (date_text date) ∷ Int (pos number) ∷ []) answers read
    (λ a b low. then-Equal _ ∙ value_cmp-Int (pos a.number) (pos b.number) ∙ low) (λ _. refl) s.now.trees
    book.orders content.orders
    (all_weaker FitsOrder _ (λ o fits. order_is_after date number o
    ∙ ap (λ b. b && nat_lt number o.number) (same_date tell date is o fits)) book.orders of.fits.orders)
    (held_in content s rests order_table ∙ ap (rows_in order_table) rests.holds.rows)
    of.records.lists.orders (in_order book content of).orders rows answer
    ∙ sym (shown_plain (order_after book date number))

pub order_above_first : RecordsStandInOrder → OneTableAnswers → RecordsAreRead order_records → (number : ℕ)
    (book : Book) (s : State) (content : Content) → Rests content s → IsBookOf book content
    → ShowsFirst order_records after_tests s.now.trees (Int (pos number) ∷ [])
    (option_map without_due (first_order_above number book.orders))
order_above_first in_order answers read number book s content rests of rows answer =
    first_in_table order_records after_tests order_row (λ o. o.number) (λ o. nat_lt number o.number)
    (Int (pos number) ∷ []) answers read
    (λ a b low. then-Equal _ ∙ value_cmp-Int (pos a.number) (pos b.number) ∙ low) (λ _. refl) s.now.trees
    book.orders content.orders (all_of _ (order_is_above number) book.orders)
    (held_in content s rests order_table ∙ ap (rows_in order_table) rests.holds.rows)
    of.records.lists.orders (in_order book content of).orders rows answer
    ∙ sym (shown_plain (first_order_above number book.orders))

pub due_above_first : RecordsStandInOrder → OneTableAnswers → RecordsAreRead forward_records → (number : ℕ)
    (book : Book) (s : State) (content : Content) → Rests content s → IsBookOf book content
    → ShowsFirst forward_records after_tests s.now.trees (Int (pos number) ∷ []) (first_due_above number book.orders)
due_above_first in_order answers read number book s content rests of =
    first_in_table forward_records after_tests forward_row (λ f. f.number) (λ f. nat_lt number f.number)
    (Int (pos number) ∷ []) answers read
    (λ a b low. then-Equal _ ∙ value_cmp-Int (pos a.number) (pos b.number) ∙ low) (λ _. refl) s.now.trees
    (forwards_of book.orders) content.forwards (all_of _ (forward_is_above number) (forwards_of book.orders))
    (held_in content s rests forward_table ∙ ap (rows_in forward_table) rests.holds.rows)
    of.records.lists.forwards (in_order book content of).forwards

pub forward_first : RecordsStandInOrder → OneTableAnswers → RecordsAreRead forward_records → (number : ℕ) (book : Book)
    (s : State) (content : Content) → Rests content s → IsBookOf book content
    → ShowsFirst forward_records under_tests s.now.trees (Int (pos number) ∷ [])
    (find (λ (f : Forward). f.number == number) (forwards_of book.orders))
forward_first in_order answers read number book s content rests of =
    first_in_table forward_records under_tests forward_row (λ f. f.number) (λ f. f.number == number)
    (Int (pos number) ∷ []) answers read
    (λ a b low. then-Equal _ ∙ value_cmp-Int (pos a.number) (pos b.number) ∙ low) (λ _. refl) s.now.trees
    (forwards_of book.orders) content.forwards (all_of _ (forward_is_under number) (forwards_of book.orders))
    (held_in content s rests forward_table ∙ ap (rows_in forward_table) rests.holds.rows)
    of.records.lists.forwards (in_order book content of).forwards

pub mark_first : RecordsStandInOrder → OneTableAnswers → RecordsAreRead mark_records → (number : ℕ) (book : Book)
    (s : State) (content : Content) → Rests content s → IsBookOf book content
    → ShowsFirst mark_records after_tests s.now.trees (Int (pos number) ∷ [])
    (first_above (λ m. m.number) number book.marks)
mark_first in_order answers read number book s content rests of =
    first_in_table mark_records after_tests mark_row (λ m. m.number) (λ m. nat_lt number m.number)
    (Int (pos number) ∷ []) answers read
    (λ a b low. then-Equal _ ∙ value_cmp-Int (pos a.number) (pos b.number) ∙ low) (λ _. refl) s.now.trees
    book.marks content.marks (all_of _ (mark_is_after number) book.marks)
    (held_in content s rests mark_table ∙ ap (rows_in mark_table) rests.holds.rows)
    of.records.lists.marks (in_order book content of).marks
