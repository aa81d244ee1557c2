-- Orders and due dates that do not fit together.
use Rattle.std.proofs.Common.{◌≡◌, ◌⊎◌, inl, inr, ℕ, pos, List, [], ◌∷◌, map, Result, refl, sym, subst, subst₂}
use Rattle.std.specs.List.{AllByRecursion}
use Rattle.sqlite.specs.Order.{Row}
use Rattle.sqlite.specs.State.{State, HasCleanDisk}
use Rattle.sqlite.specs.Tree.{Trees}
use Rattle.rtgs_book.specs.declared.book.Book.{Book}
use Rattle.rtgs_book.specs.declared.account.Account.{Account}
use Rattle.rtgs_book.specs.declared.fault.Fault.{Fault}
use Rattle.rtgs_book.specs.declared.order.Order.{Order}
use Rattle.rtgs_rows.specs.Content.{Rise}
use Rattle.rtgs_rows.specs.Dues.{without_due, forwards_of}
use Rattle.rtgs_rows.specs.Fitting.{FitsForward}
use Rattle.rtgs_rows.specs.Querying.{IsFileIn}
use Rattle.rtgs_rows.specs.TableRecords.{order_records, forward_records}
use Rattle.rtgs_rows.specs.Tables.{HasTable, forward_table}
use Rattle.rtgs_rows.specs.declared.forward.Forward.{Forward}
use Rattle.rtgs_sql_columns.specs.Numbers.{AreReadAs}
use Rattle.rtgs_sql_queries.specs.Records.{HasRecords}
use Rattle.rtgs_sql_loading.specs.Accounts.{AreFormed, ShowsDues}
use Rattle.rtgs_sql_loading.specs.Displaying.{IsIllegible, DisplaysDues}
use Rattle.rtgs_sql_loading.specs.Joining.{AreJoined, AreOrders}
use Rattle.rtgs_sql_loading.specs.Loading.{ReadsOn, ReadsList, ReadsRows, Stops}
use Rattle.rtgs_sql_loading.proofs.Joining.{orders_joined}

-- the orders of records are joined
pub book_joined : {version : ℕ} {s : State} (accounts : List Account) (book : Book)
    → HasRecords version accounts book s
    → AreJoined (map without_due book.orders) (forwards_of book.orders) book.orders
book_joined accounts book held =
    orders_joined book.orders (subst (Rise (λ (o : Order). pos o.number)) held.2.lists.orders held.2.order.orders)
    held.2.dues

-- the rows of due dates that these were read of
record FoundDues (version : ℕ) (s : State) (forwards : List Forward) : Type 0 where
  rows : List Row
  read : AreReadAs forward_records rows forwards
  only : (others : List Forward) → AllByRecursion FitsForward others → AreReadAs forward_records rows others
      → forwards ≡ others
  displayed : DisplaysDues version s.now rows
  sorted : (trees : Trees) → IsFileIn version trees s → ShowsDues version trees rows

found_dues : {version : ℕ} {s : State} {forwards : List Forward} → ReadsList version forward_records s forwards
    → HasTable version forward_table ⊎ (¬ HasTable version forward_table × (forwards ≡ []))
    → FoundDues version s forwards
found_dues list (inl has) =
    let its = list.rows has in
    record {
      rows = its.rows;
      read = its.read;
      only = its.only;
      displayed = inl (has, its.displayed);
      sorted = λ trees file. inl (has, its.sorted trees file);
    }
found_dues {forwards = forwards} list (inr (lacks, none)) = record {
  rows = [];
  read = subst (AreReadAs forward_records []) (sym none) refl;
  only = λ others fit read. subst (λ (fs : List Forward). fs ≡ others) (sym none) (nothing others read);
  displayed = inr (lacks, refl);
  sorted = λ trees file. inr (lacks, refl);
}
  where
    nothing : (others : List Forward) → AreReadAs forward_records [] others → [] ≡ others
    nothing [] read = refl
    nothing (f ∷ fs) read = absurd cc

-- these rows are not those of orders
apart : {version : ℕ} {s : State} {undated_orders : List Order} {forwards : List Forward}
    → ((all : List Order) → ¬ AreJoined undated_orders forwards all)
    → (own : ReadsRows version order_records s undated_orders)
    → (found : FoundDues version s forwards) → ¬ AreOrders own.rows found.rows
apart none own found are =
    none are.orders (subst₂ (λ (ps : List Order) (fs : List Forward). AreJoined ps fs are.orders)
    (sym (own.only are.plain are.plain_fit are.plain_read))
    (sym (found.only are.forwards are.forwards_fit are.forwards_read)) are.joined)

-- where they do not fit together, the tables are in no form, and their queries show it
pub stops_apart : {A : Type 0} {version : ℕ} {old new : State} (undated_orders : List Order) (forwards : List Forward)
    (answer : Result A Fault) → ReadsOn old new
    → (HasCleanDisk new → ReadsList version order_records old undated_orders)
    → (HasCleanDisk new → ReadsList version forward_records old forwards)
    → ((all : List Order) → ¬ AreJoined undated_orders forwards all)
    → Stops version old new answer (λ trees. ¬ AreFormed version trees) (IsIllegible version)
stops_apart {version = version} {old = old} undated_orders forwards answer on orders dues none = record {
  right = λ clean accounts book held e.
      let given : AreJoined undated_orders forwards book.orders =
      subst₂ (λ (ps : List Order) (fs : List Forward). AreJoined ps fs book.orders)
      (sym ((orders clean).reads.given accounts book held)) (sym ((dues clean).reads.given accounts book held))
      (book_joined accounts book held) in
      none book.orders given;
  wrong = λ clean trees file e formed.
      let own = (orders clean).rows file.known in
      let found = found_dues (dues clean) ((dues clean).reads.had file.known) in
      apart none own found
      (formed.orders own.rows found.rows (own.sorted trees file) (found.sorted trees file));
  unread = λ clean known e.
      let own = (orders clean).rows known in
      let found = found_dues (dues clean) ((dues clean).reads.had known) in
      inr (inr (inr (inr (own.rows, found.rows, own.displayed, found.displayed, apart none own found))));
  same = λ clean other. on.keeps clean;
  survives = on.survives;
}
