-- Worked examples: three banks with no credit on Monday 2024-03-04.
use Rattle.std.specs.Prelude.{◌≡◌, ℕ, ℤ, Bool, true, false, List, [], ◌∷◌, map, Option, Some, None, replicate}
use Rattle.std.specs.Prelude.{codes}
use Rattle.rtgs_book.specs.declared.command.Command.TheVariants.{OpenDay, Order}
use Rattle.rtgs_book.specs.declared.book.Book.{Book}
use Rattle.rtgs_book.specs.declared.new_day.NewDay.{NewDay}
use Rattle.rtgs_book.specs.declared.new_order.NewOrder.{NewOrder}
use Rattle.rtgs_book.specs.declared.order.Order.{Order as OrderRecord}
use Rattle.rtgs_book.specs.declared.participant.Participant.{Participant}
use Rattle.rtgs_book.specs.declared.phase.Phase.TheVariants.{Open, Closed}
use Rattle.rtgs_book.specs.Balance.{balance}
use Rattle.rtgs_book.specs.Lookup.{codes_of}
use Rattle.rtgs_book.specs.declared.command.Command.{Command}
use Rattle.rtgs_book.specs.Outcome.{OwnReply, Reply, alone, with_resolution}
use Rattle.rtgs_book.specs.Queue.{queued_numbers}
use Rattle.rtgs_book.specs.Run.{Run}

abbrev pub alfa : List ℕ
alfa = codes "ALFA"

abbrev pub beta : List ℕ
beta = codes "BETA"

abbrev pub gama : List ℕ
gama = codes "GAMA"

-- the code of no participant
abbrev pub zeta : List ℕ
zeta = codes "ZETA"

-- 2024-03-04
abbrev pub monday : ℕ
monday = 20240304

-- the days after it
abbrev pub tuesday : ℕ
tuesday = 20240305

abbrev pub wednesday : ℕ
wednesday = 20240306

abbrev pub thursday : ℕ
thursday = 20240307

-- the weekend after it begins
abbrev pub saturday : ℕ
saturday = 20240309

-- the day of this date, with this choice
abbrev pub new_day : ℕ → Bool → NewDay
new_day date automatic = record { date = date; automatic = automatic }

abbrev pub opens : ℕ → Bool → Command
opens date automatic = OpenDay (new_day date automatic)

abbrev pub bank : List ℕ → List ℕ → ℕ → Participant
bank code name key = record { code = code; name = name; key = replicate 32 key; credit = 0 }

-- the three banks, and the day is open
abbrev pub start : Book
start = record {
  participants = bank alfa (codes "Alfa Bank") 1 ∷ bank beta (codes "Beta Bank") 2 ∷ bank gama (codes "Gama Bank") 3
      ∷ [];
  postings = [];
  orders = [];
  marks = [];
  day = record { date = Some monday; phase = Open; automatic = false };
}

-- what an order says, with this due date or none
abbrev pub says : List ℕ → List ℕ → ℕ → Option ℕ → NewOrder
says reference receiver amount due =
    record { reference = reference; receiver = receiver; amount = amount; due = due }

abbrev pub pays : List ℕ → List ℕ → ℕ → List ℕ → Command
pays sender receiver amount reference = Order sender (says reference receiver amount None)

-- such an order, due on this date
abbrev pub pays_on : ℕ → List ℕ → List ℕ → ℕ → List ℕ → Command
pays_on due sender receiver amount reference = Order sender (says reference receiver amount (Some due))

-- the book of the start, before the first day
abbrev pub unopened : Book
unopened = record start { day = record { date = None; phase = Closed; automatic = false } }

-- the book of the start, on an automatic day
abbrev pub automatic_start : Book
automatic_start = record start { day = record { date = Some monday; phase = Open; automatic = true } }

-- the command's own reply, and after it this number of orders of this value settle under the mark
abbrev pub and_settles : OwnReply → ℕ → ℕ → ℤ → Reply
and_settles reply mark count value = with_resolution reply (Some (record { mark = mark; count = count; value = value }))

-- from the book, the commands get these replies, and leave these balances
abbrev pub ComesWholeFrom : Book → List Command → List Reply → List ℤ → Type 0
ComesWholeFrom book commands replies balances =
    (end : Book) × Run book commands replies end × (map (balance end) (codes_of end) ≡ balances)

-- so with nothing resolved after any of them
abbrev pub ComesFrom : Book → List Command → List OwnReply → List ℤ → Type 0
ComesFrom book commands replies = ComesWholeFrom book commands (map alone replies)

abbrev pub Comes : List Command → List OwnReply → List ℤ → Type 0
Comes = ComesFrom start

-- the commands get these replies alone, and leave the orders with these numbers in the sender's queue
abbrev pub LeavesQueue : List Command → List OwnReply → List ℕ → List ℕ → Type 0
LeavesQueue commands replies sender numbers =
    (end : Book) × Run start commands (map alone replies) end × (queued_numbers end.orders sender ≡ numbers)

-- the commands get these replies alone, and leave the orders with these dates, by number
abbrev pub LeavesDates : List Command → List OwnReply → List ℕ → Type 0
LeavesDates commands replies dates =
    (end : Book) × Run start commands (map alone replies) end × (map (λ (o : OrderRecord). o.date) end.orders ≡ dates)
