-- The records that the queries show are those that the tables hold.
use Rattle.std.proofs.Common.{◌≡◌, true, ℕ, ◌<◌, zero, suc, List, [], ◌∷◌, map, take, IsPermutation, refl, sym, ap}
use Rattle.std.proofs.Common.{ap₂, subst, subst₂, arith}
use Rattle.sqlite.specs.Order.{Row}
use Rattle.std.specs.List.{AllByRecursion}
use Rattle.std.proofs.lemmas.List.Sorted.{IsPermutation-map, IsPermutation-sym}
use Rattle.sqlite.specs.Schema.{Schema}
use Rattle.sqlite.specs.Table.{Table}
use Rattle.sqlite.specs.Tree.{Trees}
use Rattle.sqlite_trees.proofs.ListLemmas.{all-permutation}
use Rattle.sqlite_schema.specs.Rules.{passes}
use Rattle.sqlite_schema.specs.declared.schema.Constraint.TheVariants.{Datatype}
use Rattle.sqlite_keyed.proofs.ListLemmas.{map-map, all_unmap, all_both}
use Rattle.sqlite_catalog.specs.Listing.{IsSound}
use Rattle.rtgs_book.specs.declared.book.Book.{Book}
use Rattle.rtgs_book.specs.declared.account.Account.{Account}
use Rattle.rtgs_book.specs.declared.order.Order.{Order}
use Rattle.rtgs_book.specs.Balance.{balance}
use Rattle.rtgs_rows.specs.Dues.{without_due, forwards_of}
use Rattle.rtgs_rows.specs.Tables.{schema_in, known_tables, table_count, tables_in, desk_table, participant_table}
use Rattle.rtgs_rows.specs.Tables.{posting_table, order_table, mark_table, forward_table, resolution_table, width}
use Rattle.rtgs_rows.specs.Tables.{versions, IsVersion}
use Rattle.rtgs_rows.specs.Migrating.{HasNoMore}
use Rattle.rtgs_lists.proofs.Lists.{all_get}
use Rattle.rtgs_rows.specs.TableRecords.{TableRecords, Each, HasNoMoreBeyond, records_of_tables}
use Rattle.rtgs_rows.specs.declared.forward.Forward.{Forward}
use Rattle.rtgs_rows.specs.declared.resolution_row.ResolutionRow.{ResolutionRow}
use Rattle.rtgs_rows.specs.Rows.{desk_row, desk_row_of, posting_row, order_row, mark_row, forward_row, resolution_row}
use Rattle.rtgs_rows.specs.Rows.{resolution_row_of, shown_desk, shown_posting, shown_order, shown_mark, shown_forward}
use Rattle.rtgs_rows.specs.Rows.{shown_resolution}
use Rattle.rtgs_rows.specs.Content.{Tables, tables_of_in, all_tables, tables_for_in, Holding, holding_row}
use Rattle.rtgs_rows.specs.Content.{stored_account, Content, HoldsIn, IsInOrder}
use Rattle.rtgs_rows.specs.Keeping.{SameLists, IsBookOf, content_of}
use Rattle.rtgs_rows.specs.Querying.{AreNumberedRows, AreWholeIn, ShowsTable, ShowsEach}
use Rattle.rtgs_rows.proofs.Ordered.{order_of}
use Rattle.rtgs_rows.proofs.Numbered.{StandsByNumber, AreWholeAndTyped, rows_are, are_numbered, numbered_rows}
use Rattle.rtgs_rows.proofs.Participants.{Stores, stored_participants}
use Rattle.rtgs_rows.specs.RowLaws.{ShownRecordsAreHeld}

-- ---- the tables of numbered records

desk_stands : StandsByNumber desk_table desk_row shown_desk (λ _. 1)
desk_stands = record { numbered = (refl, _, _, refl); stands = λ d. (refl, refl, refl); only = λ r d all null e. cc }

posting_stands : StandsByNumber posting_table posting_row shown_posting (λ p. p.number)
posting_stands = record { numbered = (refl, _, _, refl); stands = λ p. (refl, refl, refl); only = λ r p all null e. cc }

order_stands : StandsByNumber order_table order_row shown_order (λ o. o.number)
order_stands = record { numbered = (refl, _, _, refl); stands = λ o. (refl, refl, refl); only = λ r o all null e. cc }

mark_stands : StandsByNumber mark_table mark_row shown_mark (λ m. m.number)
mark_stands = record { numbered = (refl, _, _, refl); stands = λ m. (refl, refl, refl); only = λ r m all null e. cc }

forward_stands : StandsByNumber forward_table forward_row shown_forward (λ f. f.number)
forward_stands = record { numbered = (refl, _, _, refl); stands = λ f. (refl, refl, refl); only = λ r f all null e. cc }

resolution_stands : StandsByNumber resolution_table resolution_row shown_resolution (λ _. 1)
resolution_stands =
    record { numbered = (refl, _, _, refl); stands = λ c. (refl, refl, refl); only = λ r c all null e. cc }

-- the query shows of an order what it shows of it without its due date
shown_without : (os : List Order) → map shown_order (map without_due os) ≡ map shown_order os
shown_without [] = refl
shown_without (o ∷ os) = ap (λ (rows : List Row). shown_order o ∷ rows) (shown_without os)

-- ---- the tables whose records are described

abbrev tables_of_records : List ((A : Type 0) × TableRecords A) → List Table
tables_of_records [] = []
tables_of_records (records ∷ more) = records.1.table ∷ tables_of_records more

-- they are the tables of a desk, in their order
in_the_order_of_the_tables : tables_of_records records_of_tables ≡ known_tables
in_the_order_of_the_tables = refl

-- ---- the tables of a book are whole

pub book_in_order : (book : Book) (content : Content) → IsBookOf book content → IsInOrder content
book_in_order book content of = order_of book content of.records of.ids of.sound

-- so it is of each table and the rows in its place
abbrev Pairs : (Table → List Row → Type 0) → List Table → Tables → Type 0
Pairs P [] rows = Unit {0}
Pairs P (table ∷ tables) [] = ⊥
Pairs P (table ∷ tables) (rows ∷ more) = P table rows × Pairs P tables more

-- so it is of the first tables, where their rows are those
first_pairs : (P : Table → List Row → Type 0) (trees : Trees) (count : ℕ) (tables : List Table) (rows : Tables)
    → Pairs P tables rows → map (λ (t : Table). trees t.tree) (take count tables) ≡ take count rows
    → AllByRecursion (λ t. P t (trees t.tree)) (take count tables)
first_pairs P trees zero tables rows pairs e = tt
first_pairs P trees (suc count) [] rows pairs e = tt
first_pairs P trees (suc count) (table ∷ tables) [] pairs e = absurd pairs
first_pairs P trees (suc count) (table ∷ tables) (first ∷ more) pairs e =
    let here : trees table.tree ≡ first = cc in
    let rest : map (λ (t : Table). trees t.tree) (take count tables) ≡ take count more = cc in
    (subst (P table) (sym here) pairs.0, first_pairs P trees count tables more pairs.1 rest)

pub book_is_whole : (version : ℕ) (content : Content) (trees : Trees) (book : Book) → HoldsIn version content trees
    → IsBookOf book content → AreWholeIn version trees
book_is_whole version content trees book holds of =
    let order = book_in_order book content of in
    let day = numbered_rows desk_stands (desk_row_of version content.day ∷ []) refl (tt, tt) in
    let people = are_numbered (width participant_table) holding_row (λ (h : Holding). h.id) (λ h. (refl, refl))
    content.holdings refl order.ids in
    let postings = numbered_rows posting_stands content.postings refl order.postings in
    let orders = numbered_rows order_stands content.orders refl order.orders in
    let marks = numbered_rows mark_stands content.marks refl order.marks in
    let forwards = numbered_rows forward_stands content.forwards refl order.forwards in
    let choice = numbered_rows resolution_stands (resolution_row_of content.day ∷ []) refl (tt, tt) in
    first_pairs (λ t rows. AreNumberedRows (width t) rows) trees (table_count version) known_tables _
    (day, (people, (postings, (orders, (marks, (forwards, (choice, tt))))))) holds.rows

-- ---- tables that show a book hold it

-- the rows of each table are whole and typed
abbrev AreAllWholeAndTyped : ℕ → Trees → Type 0
AreAllWholeAndTyped version trees = AllByRecursion (AreWholeAndTyped (schema_in version) trees)
    (tables_in version)

all_whole_and_typed : (version : ℕ) (trees : Trees) → IsSound (schema_in version) trees → AreWholeIn version trees
    → AreAllWholeAndTyped version trees
unfolding schema_in
all_whole_and_typed version trees sound full = all_both (λ t. AreNumberedRows (width t) (trees t.tree))
    (λ t. AllByRecursion (λ r. passes Datatype (schema_in version) trees t r ≡ true) (trees t.tree))
    (AreWholeAndTyped (schema_in version) trees) (λ t whole typed. (whole, typed)) (tables_in version) full
    (sound.obeys.rules Datatype)

-- the records of a book have its lists
pub same_lists : (book : Book) (holdings : List Holding) → SameLists book (content_of book holdings)
same_lists book holdings =
    record { day = refl; postings = refl; orders = refl; marks = refl; forwards = refl }

-- each version has the table of the participants, which is the second
shown_participants : (count : ℕ) → 1 < count → (schema : Schema) (version : ℕ) (trees : Trees) (book : Book)
    (accounts : List Account) → AllByRecursion (AreWholeAndTyped schema trees) (take count known_tables)
    → Each (λ A records. ShowsTable records.table trees (map records.shown (records.of_book version accounts book)))
    (take count records_of_tables) → Stores (trees participant_table.tree) accounts
shown_participants zero low schema version trees book accounts whole shows = absurd (omega (arith, low))
shown_participants (suc zero) low schema version trees book accounts whole shows = absurd (omega (arith, low))
shown_participants (suc (suc count)) low schema version trees book accounts whole shows =
    stored_participants (trees participant_table.tree) accounts whole.1.0.0 shows.1.0

-- where a table is whole and shows these records, it has these rows
abbrev RowsFollow : Schema → ℕ → Trees → List Account → Book → List ((A : Type 0) × TableRecords A) → Tables → Type 0
RowsFollow schema version trees accounts book [] [] = Unit {0}
RowsFollow schema version trees accounts book [] (rows ∷ more) = ⊥
RowsFollow schema version trees accounts book (records ∷ more) [] = ⊥
RowsFollow schema version trees accounts book (records ∷ more) (rows ∷ others) =
    (AreWholeAndTyped schema trees records.1.table → ShowsTable records.1.table trees
    (map records.1.shown (records.1.of_book version accounts book)) → trees records.1.table.tree ≡ rows)
    × RowsFollow schema version trees accounts book more others

-- so it is with the first tables
first_rows : (count : ℕ) (schema : Schema) (version : ℕ) (trees : Trees) (accounts : List Account) (book : Book)
    (all : List ((A : Type 0) × TableRecords A)) (rows : Tables)
    → RowsFollow schema version trees accounts book all rows
    → AllByRecursion (AreWholeAndTyped schema trees) (take count (tables_of_records all))
    → Each (λ A records. ShowsTable records.table trees (map records.shown (records.of_book version accounts book)))
    (take count all)
    → map (λ (t : Table). trees t.tree) (take count (tables_of_records all)) ≡ take count rows
first_rows zero schema version trees accounts book all rows follow whole shows = refl
first_rows (suc count) schema version trees accounts book [] [] follow whole shows = refl
first_rows (suc count) schema version trees accounts book [] (rows ∷ more) follow whole shows = absurd follow
first_rows (suc count) schema version trees accounts book (records ∷ all) [] follow whole shows = absurd follow
first_rows (suc count) schema version trees accounts book (records ∷ all) (rows ∷ more) follow whole shows =
    ap₂ ◌∷◌ (follow.0 whole.0 shows.0)
    (first_rows count schema version trees accounts book all more follow.1 whole.1 shows.1)

shown_tables_are : (version : ℕ) (trees : Trees) (book : Book) (accounts : List Account)
    (people : Stores (trees participant_table.tree) accounts) → AreAllWholeAndTyped version trees
    → ShowsEach version trees accounts book → IsInOrder (content_of book people.holdings)
    → tables_of_in version trees ≡ tables_for_in version (content_of book people.holdings)
shown_tables_are version trees book accounts people whole shows order =
    let schema = schema_in version in
    let follow : RowsFollow schema version trees accounts book records_of_tables (all_tables version
    (content_of book people.holdings)) = (
      λ table. rows_are desk_stands schema trees (desk_row_of version book.day ∷ []) table (tt, tt),
      (
        λ table same. people.rows_are,
        (
          λ table. rows_are posting_stands schema trees book.postings table order.postings,
          (
            λ table shows. rows_are order_stands schema trees book.orders table order.orders
                (subst (ShowsTable order_table trees) (shown_without book.orders) shows),
            (
              λ table. rows_are mark_stands schema trees book.marks table order.marks,
              (
                λ table. rows_are forward_stands schema trees (forwards_of book.orders) table order.forwards,
                (λ table. rows_are resolution_stands schema trees (resolution_row_of book.day ∷ []) table (tt, tt), tt),
              ),
            ),
          ),
        ),
      ),
    ) in
    first_rows (table_count version) schema version trees accounts book records_of_tables _ follow whole shows

-- of the tables that the version lacks the rows are those of a new desk, where the records are
no_more : (book : Book) (holdings : List Holding) (accounts : List Account) (version : ℕ) → IsVersion version
    → HasNoMoreBeyond version accounts book → HasNoMore version (content_of book holdings)
no_more book holdings accounts version known =
    all_get (λ v. HasNoMoreBeyond v accounts book → HasNoMore v (content_of book holdings)) versions known.0 version
    known.1 (sym known.2) (
      λ none. ap₂ (λ (fs : List Forward) (cs : List ResolutionRow). map forward_row fs ∷ map resolution_row cs ∷ [])
          none.0 none.1.0,
      (λ none. ap (λ (cs : List ResolutionRow). map resolution_row cs ∷ []) none.0, (λ none. refl, tt)),
    )

pub held : ShownRecordsAreHeld
held version known trees book accounts sound full is fits shown stored =
    let all = all_whole_and_typed version trees sound full in
    let people = shown_participants (table_count version) (omega arith) (schema_in version) version trees book accounts
    all shown.shows in
    let content = content_of book people.holdings in
    let of : IsBookOf book content = record {
      records = record {
        participants = subst₂ IsPermutation (map-map (λ (a : Account). a.participant) stored_account people.holdings)
            (sym shown.named) (IsPermutation-map (λ (a : Account). a.participant) _ _ people.same);
        lists = same_lists book people.holdings;
      };
      balances = all_unmap (λ (a : Account). a.balance ≡ balance book a.participant.code) stored_account people.holdings
          (all-permutation _ _ _ (IsPermutation-sym _ _ people.same) stored);
      ids = people.ids;
      sound = is;
      fits = fits;
    } in
    let rows = shown_tables_are version trees book accounts people all shown.shows (book_in_order book content of) in
    record {
      content = content;
      holds = record { sound = sound; rows = rows };
      no_more = no_more book people.holdings accounts version known shown.no_more;
      same = of;
    }
