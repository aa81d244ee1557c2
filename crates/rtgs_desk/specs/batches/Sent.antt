-- What a batch makes of a book that the desk held.
use Rattle.std.specs.Prelude.{◌≡◌, false, ℕ, List, map, length, take, Option, None}
use Rattle.rtgs_book.specs.declared.book.Book.{Book}
use Rattle.rtgs_book.specs.declared.refusal.Refusal.{Refusal}
use Rattle.rtgs_book.specs.Calm.{IsCalm}
use Rattle.rtgs_book.specs.Outcome.{Reply, own_of}
use Rattle.rtgs_book.specs.Run.{Run}
use Rattle.rtgs_book.specs.Session.{IsSession, MayFind}
use Rattle.rtgs_laws.specs.repeats.Batch.{MayComeAgain}
use Rattle.rtgs_laws.specs.repeats.Lasting.{AreLasting}
use Rattle.rtgs_keeper.specs.declared.Keeper.{Ghosts}
use Rattle.rtgs_desk.specs.Holding.{Holds}
use Rattle.rtgs_desk.specs.Seen.{Seen}
use Rattle.rtgs_order_files.specs.declared.batch_result.RowReply.{RowReply}
use Rattle.rtgs_book.specs.declared.new_order.NewOrder.{NewOrder}
use Rattle.rtgs_desk.specs.batches.Batches.{orders_of, replies_of, with_stop, open_order}

-- what rows that were submitted, with these replies and this stop, make of a book that the desk held
pub record Sent {K : Type 0} (g : Ghosts K) (old : Book) (sender : List ℕ) (rows : List NewOrder)
    (replies : List RowReply) (stopped : Option Refusal) (desk : Seen K) : Type 0 where
  -- the book that the rows with a reply lead to
  pub last : Book
  -- the desk's whole replies, of which the rows show the own part
  pub given : List Reply
  pub shown : map own_of given ≡ replies_of replies
  pub run : Run old (orders_of sender (take (length replies) rows)) given last
  pub lasting : AreLasting old (orders_of sender (take (length replies) rows)) given last
  -- each book between two rows is calm
  pub calm : (n : ℕ) (replied : List Reply) (mid : Book) → Run old (orders_of sender (take n rows)) replied mid
      → IsCalm mid
  -- the whole batch, sent again right after, ends as if it had been sent once
  pub resumed : (later end : Book) (again once : List Reply) → MayComeAgain old given
      → Run last (orders_of sender rows) again later → Run old (orders_of sender rows) once end → later ≡ end
  -- so it does from a book that a crash may leave
  pub resumed_after_a_crash : (found later end : Book) (again once : List Reply) → MayComeAgain old given
      → MayFind last (open_order sender rows given stopped) found
      → Run found (orders_of sender rows) again later → Run old (orders_of sender rows) once end → later ≡ end
  -- unless the store failed, the desk holds that book, and no order is open
  pub kept : g.has_failed desk.keeper ≡ false → Holds g desk last
  pub none_open : g.has_failed desk.keeper ≡ false → open_order sender rows given stopped ≡ None
  -- a crash leaves that book, or perhaps the one that the open order leads to: that at which the store failed
  pub after_a_crash : (found : Book) → g.leaves desk.keeper found
      → MayFind last (open_order sender rows given stopped) found
  -- so whatever the next opening finds, the rows up to the stop were a session of the definitions
  pub session : (found : Book) → g.leaves desk.keeper found → IsSession (record {
    start = old;
    commands = orders_of sender (take (length (with_stop given stopped)) rows);
    replies = with_stop given stopped;
    found = found;
  })
  -- and it is a book, kept whole, and calm
  pub whole_after_a_crash : g.is_whole desk.keeper
  pub calm_after_a_crash : (found : Book) → g.leaves desk.keeper found → IsCalm found
