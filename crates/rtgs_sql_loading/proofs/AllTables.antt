-- What is said of all tables together.
use Rattle.std.proofs.Common.{◌≡◌, ◌⊎◌, inl, inr, ℕ, ◌<◌, Bool, List, [], ◌∷◌, ◌++◌, map, Option, Some, None, sym, ap}
use Rattle.std.proofs.Common.{subst, subst₂, ◌∙◌}
use Rattle.std.specs.List.{AllByRecursion}
use Rattle.sqlite.specs.Order.{Row}
use Rattle.sqlite.specs.State.{State}
use Rattle.sqlite.specs.Table.{Table}
use Rattle.sqlite_keyed.proofs.ListLemmas.{all_map}
use Rattle.rtgs_book.specs.declared.book.Book.{Book}
use Rattle.rtgs_book.specs.declared.day.Day.{Day}
use Rattle.rtgs_book.specs.declared.order.Order.{Order}
use Rattle.rtgs_book.specs.declared.account.Account.{Account}
use Rattle.rtgs_rows.specs.Fitting.{FitsParticipant, HasFormedValues}
use Rattle.rtgs_rows.specs.declared.desk_row.DeskRow.{DeskRow}
use Rattle.rtgs_rows.specs.declared.resolution_row.ResolutionRow.{ResolutionRow}
use Rattle.rtgs_rows.specs.Rows.{desk_row_of, resolution_row_of, shown_desk, shown_resolution, shown_account}
use Rattle.rtgs_rows.specs.TableRecords.{TableRecords, Each, OneOf, records_of_tables, records_of_lists}
use Rattle.rtgs_rows.specs.TableRecords.{records_in, records_beyond, posting_records, order_records, mark_records}
use Rattle.rtgs_rows.specs.TableRecords.{forward_records, resolution_records, HasNoMoreBeyond, at_first}
use Rattle.rtgs_rows.specs.Dues.{without_due, forward_for, forwards_of}
use Rattle.rtgs_rows.specs.declared.forward.Forward.{Forward}
use Rattle.rtgs_rows.specs.Tables.{HasTable, IsVersion, table_count, desk_table}
use Rattle.rtgs_rows.specs.Querying.{as_shown}
use Rattle.sqlite.specs.Effect.{Database}
use Rattle.sqlite.specs.Tree.{Trees}
use Rattle.rtgs_sql_columns.specs.Tables.{query_text}
use Rattle.rtgs_sql_columns.specs.Numbers.{IsNumberedPosting, IsNumberedOrder, IsNumberedMark, IsNumberedBook}
use Rattle.rtgs_sql_queries.specs.Records.{HasRecords}
use Rattle.rtgs_sql_loading.specs.Accounts.{Telling, TellsOf, AreTheRecords, AreFormed, IsDeskOf, InForm}
use Rattle.rtgs_sql_loading.specs.Displaying.{IsUnread, ShowsNoChoice, IsIllegible}
use Rattle.rtgs_sql_loading.specs.Joining.{AreJoined}
use Rattle.rtgs_sql_loading.specs.Loading.{HasRows, ReadsRecords, TellsRecords}
use Rattle.rtgs_sql_loading.proofs.Joining.{joined_once, joined_fit, joined_held}
use Rattle.rtgs_sql_loading.proofs.Dues.{book_joined}
use Rattle.rtgs_sql_loading.proofs.OwnRows.{IsOwn, owns, all_own, posting_own, order_own, mark_own, forward_own}
use Rattle.rtgs_sql_loading.proofs.Versions.{Has, has_counted, has_no_more, each_first, each_last, each_had, one_had}
use Rattle.rtgs_sql_loading.proofs.Versions.{one_before}

-- what two facts of each of these come to
each_both : {P Q R : (A : Type 0) → TableRecords A → Type 0}
    → ((A : Type 0) (records : TableRecords A) → P A records → Q A records → R A records)
    → (all : List ((A : Type 0) × TableRecords A)) → Each P all → Each Q all → Each R all
each_both on [] one other = tt
each_both on (records ∷ more) one other =
    (on records.0 records.1 one.0 other.0, each_both on more one.1 other.1)

-- so with what is said of the records of the tables
pub both : {version : ℕ} {P Q R : Telling} {accounts : List Account} {book : Book}
    → AreTheRecords version P accounts book → AreTheRecords version Q accounts book
    → ((table : Table) (counted : List Bool) (seen_rows : List Row) → P table counted seen_rows
    → Q table counted seen_rows
    → R table counted seen_rows) → AreTheRecords version R accounts book
both {version = version} {P = P} {Q = Q} {R = R} {accounts = accounts} {book = book} one other on = record {
  fits = one.fits;
  dues = one.dues;
  named = one.named;
  no_more = one.no_more;
  tells = each_both {P = TellsOf version P accounts book} {Q = TellsOf version Q accounts book}
      {R = TellsOf version R accounts book}
      (λ A records. on records.table records.counted _) (records_in version) one.tells other.tells;
}

weaker : {version : ℕ} {P Q : Telling} {accounts : List Account} {book : Book} → AreTheRecords version P accounts book
    → ((table : Table) (counted : List Bool) (seen_rows : List Row) → P table counted seen_rows
    → Q table counted seen_rows)
    → AreTheRecords version Q accounts book
weaker are on = both are are (λ table counted seen_rows tells _. on table counted seen_rows tells)

-- due dates stand under the numbers of their orders
dues_numbered : (os : List Order) → AllByRecursion IsNumberedOrder os
    → AllByRecursion (λ (f : Forward). 0 < f.number) (forwards_of os)
dues_numbered [] low = tt
dues_numbered (o ∷ os) low = by o.due (dues_numbered os low.1)
  where
    by : (due : Option ℕ) → AllByRecursion (λ (f : Forward). 0 < f.number) (forwards_of os)
        → AllByRecursion (λ (f : Forward). 0 < f.number) (forward_for o.number due ++ forwards_of os)
    by None rest = rest
    by (Some due) rest = (low.0.0, rest)

-- where the numbers are above zero, what is read as a record's row is its row
pub own_records : {version : ℕ} {P : Telling} {accounts : List Account} {book : Book}
    → AreTheRecords version P accounts book → IsNumberedBook book
    → AreTheRecords version (λ _ counted. AllByRecursion (IsOwn counted)) accounts book
own_records {version = version} {accounts = accounts} {book = book} are low =
    let desk = all_own (shown_desk (desk_row_of version book.day) ∷ []) in
    let stored = all_own (map shown_account accounts) in
    let postings = owns posting_records IsNumberedPosting posting_own book.postings low.postings in
    let orders = owns order_records IsNumberedOrder order_own (map without_due book.orders)
    (all_map IsNumberedOrder without_due book.orders low.orders) in
    let marks = owns mark_records IsNumberedMark mark_own book.marks low.marks in
    let forwards = owns forward_records (λ f. 0 < f.number) forward_own (forwards_of book.orders)
    (dues_numbered book.orders low.orders) in
    let choice = all_own (shown_resolution (resolution_row_of book.day) ∷ []) in
    let each = TellsOf version (λ _ counted. AllByRecursion (IsOwn counted)) accounts book in
    let all : Each each records_of_tables = (desk, (stored, (postings, (orders, (marks, (forwards, (choice, tt))))))) in
    record {
      fits = are.fits;
      dues = are.dues;
      named = are.named;
      no_more = are.no_more;
      tells = each_first each (table_count version) records_of_tables all;
    }

-- ---- what is read of each

-- the same list under another name
pub renamed : {A : Type 0} {version : ℕ} {records : TableRecords A} {s : State} {all found : List A} → all ≡ found
    → ReadsRecords version records s found → ReadsRecords version records s all
renamed {version = version} {records = records} {s = s} same = subst (ReadsRecords version records s) (sym same)

-- the records of a book are read of each table
abbrev pub ReadsEach : ℕ → State → List Account → Book → Type 0
ReadsEach version s accounts book = Each (λ A records. ReadsRecords version records s
    (records.of_book version accounts book)) records_of_tables

-- the orders come of their rows and of those of their due dates
abbrev pub ComeOfRows : List Order → Type 0
ComeOfRows orders = AreJoined (map without_due orders) (forwards_of orders) orders

-- they are in their forms
all_fit : (version : ℕ) (s : State) (accounts : List Account) (book : Book)
    → book.participants ≡ map (λ (a : Account). a.participant) accounts → ComeOfRows book.orders
    → ReadsEach version s accounts book → HasFormedValues book
all_fit version s accounts book named joined
    (desk, (stored, (postings, (orders, (marks, (forwards, others)))))) = record {
      participants = subst (AllByRecursion FitsParticipant) (sym named)
          (all_map FitsParticipant (λ (a : Account). a.participant) accounts stored.fit);
      postings = postings.fit;
      orders = joined_fit (map without_due book.orders) (forwards_of book.orders) book.orders joined orders.fit
          forwards.fit;
      marks = marks.fit;
      day = desk.fit.0;
    }

same_day : (version : ℕ) (a b : Day)
    → ◌≡◌ {A = List DeskRow} (desk_row_of version a ∷ []) (desk_row_of version b ∷ [])
    → ◌≡◌ {A = List ResolutionRow} (resolution_row_of a ∷ []) (resolution_row_of b ∷ []) → a ≡ b
same_day version a b e f =
    let desk : desk_row_of version a ≡ desk_row_of version b = cc in
    let choice : resolution_row_of a ≡ resolution_row_of b = cc in
    λ i. record { date = (desk i).date; phase = (desk i).phase; automatic = (choice i).automatic }

-- and they are those of the tables
are_the_tables : (version : ℕ) (s : State) (accounts : List Account) (book : Book)
    → book.participants ≡ map (λ (a : Account). a.participant) accounts → ComeOfRows book.orders
    → ReadsEach version s accounts book
    → (others : List Account) (other : Book) → HasRecords version others other s → (book ≡ other) × (accounts ≡ others)
are_the_tables version s accounts book named joined
    (desk, (stored, (postings, (orders, (marks, (forwards, (choice, none))))))) others other held =
    let same = stored.given others other held in
    let participants = named ∙ ap (map (λ (a : Account). a.participant)) same ∙ sym held.2.participants in
    let today = same_day version book.day other.day (desk.given others other held) (choice.given others other held) in
    let same_orders : book.orders ≡ other.orders = joined_once (map without_due other.orders)
    (forwards_of other.orders) book.orders other.orders
    (subst₂ (λ (ps : List Order) (fs : List Forward). AreJoined ps fs book.orders) (orders.given others other held)
    (forwards.given others other held) joined) (book_joined others other held) in (
      λ i. record {
        participants = participants i;
        postings = postings.given others other held i;
        orders = same_orders i;
        marks = marks.given others other held i;
        day = today i;
      },
      same,
    )

-- of a table that the version lacks the book has the records of a new desk
none_beyond : (version : ℕ) → IsVersion version → (s : State) (accounts : List Account) (book : Book)
    → ReadsEach version s accounts book → HasNoMoreBeyond version accounts book
none_beyond version known s accounts book reads =
    each_both {P = λ A records. ¬ Has version A records}
    {Q = λ A records. ReadsRecords version records s (records.of_book version accounts book)}
    {R = λ A records. records.of_book version accounts book ≡ at_first version records} none (records_beyond version)
    (has_no_more version known) (each_last _ (table_count version) records_of_tables reads)
  where
    none : (A : Type 0) (records : TableRecords A) → ¬ Has version A records
        → ReadsRecords version records s (records.of_book version accounts book)
        → records.of_book version accounts book ≡ at_first version records
    none A records lacks read = elim (read.had known) [
      | inl has ↦ absurd (lacks has)
      | inr other ↦ other.1
    ]

-- the book of what is read of each
pub tells : (version : ℕ) → IsVersion version → (s : State) (accounts : List Account) (book : Book)
    → book.participants ≡ map (λ (a : Account). a.participant) accounts → ComeOfRows book.orders
    → ReadsEach version s accounts book → TellsRecords version s accounts book
tells version known s accounts book named joined reads =
    let all_records : AreTheRecords version (HasRows version s) accounts book = record {
      fits = all_fit version s accounts book named joined reads;
      dues = joined_held (map without_due book.orders) (forwards_of book.orders) book.orders joined;
      named = named;
      no_more = none_beyond version known s accounts book reads;
      tells = each_both {P = Has version}
          {Q = λ A records. ReadsRecords version records s (records.of_book version accounts book)}
          {R = TellsOf version (HasRows version s) accounts book} (λ A records has read. read.has_rows has)
          (records_in version) (has_counted version known) (each_first _ (table_count version) records_of_tables reads);
    } in
    record {
      records = are_the_tables version s accounts book named joined reads;
      rows = λ trees file. weaker all_records (λ table counted rows is. is.0 trees file);
      displayed = weaker all_records (λ table counted rows is. is.1);
    }

-- ---- why they are not read

-- where the tables are formed, so is each that the version has
pub each_formed : (version : ℕ) → IsVersion version → (trees : Trees) → AreFormed version trees
    → Each (λ A records. HasTable version records.table → InForm records (as_shown records.table trees))
    records_of_tables
each_formed version known trees formed =
    each_had (Has version) (λ A records. InForm records (as_shown records.table trees)) (table_count version)
    records_of_tables (has_no_more version known) formed.rows

-- a query that cannot be read is one of a table that the version has
pub one_unread : (version : ℕ) → IsVersion version → (db : Database)
    → IsUnread db (query_text desk_table) (IsDeskOf version) ⊎ (ShowsNoChoice version db
    ⊎ OneOf (λ A records. HasTable version records.table × IsUnread db (query_text records.table) (InForm records))
    records_of_lists) → IsIllegible version db
one_unread version known db (inl desk) = inr (inl desk)
one_unread version known db (inr (inl choice)) = inr (inr (inl choice))
one_unread version known db (inr (inr other)) =
    let P = λ (A : Type 0) (records : TableRecords A). HasTable version records.table
    × IsUnread db (query_text records.table) (InForm records) in
    inr (inr (inr (inl (one_had (Has version) (λ A records. IsUnread db (query_text records.table) (InForm records))
    (table_count version) records_of_tables (has_no_more version known)
    (inr (one_before P records_of_lists ((ResolutionRow, resolution_records) ∷ []) other))))))
