-- What a desk that held a book does where this is asked, and what is sent for it. `g` has the members of the keeper's
-- trait.
use Rattle.std.specs.Prelude.{◌≡◌, ◌≢◌, ◌⊎◌, true, false, ℕ, List, [], ◌∷◌, length, take, Option, Some, None, Result}
use Rattle.std.specs.Prelude.{Ok, Err}
use Rattle.rtgs_book.specs.declared.book.Book.{Book}
use Rattle.rtgs_book.specs.declared.command.Command.{Command}
use Rattle.rtgs_book.specs.declared.refusal.Refusal.{Refusal}
use Rattle.rtgs_book.specs.declared.refusal.Refusal.TheVariants.{OutOfMemory, StoreFault, Failed}
use Rattle.rtgs_book.specs.Calm.{IsCalm}
use Rattle.rtgs_book.specs.Choice.{Choice, IsGreatest}
use Rattle.rtgs_book.specs.Outcome.{Reply}
use Rattle.rtgs_book.specs.Session.{IsSession, open_command}
use Rattle.rtgs_keeper.specs.declared.keeper.Keeper.{Ghosts}
use Rattle.rtgs_desk.specs.Holding.{Holds, Acts}
use Rattle.rtgs_desk.specs.Seen.{Seen}
use Rattle.rtgs_desk.specs.batches.Batches.{StopsAfter, orders_of}
use Rattle.rtgs_order_files.specs.Results.{results_text}
use Rattle.rtgs_desk.specs.batches.Sent.{Sent}
use Rattle.rtgs_order_files.specs.declared.batch_result.RowReply.{RowReply}
use Rattle.rtgs_book.specs.declared.new_order.NewOrder.{NewOrder}
use Rattle.rtgs_http_bodies.specs.Refusals.{refused_message}
use Rattle.rtgs_http_bodies.specs.Statuses.{batch_status}
use Rattle.rtgs_http_bodies.specs.replies.Kinds.{no_memory}
use Rattle.rtgs_http_bodies.specs.replies.Messages.{Message, message}
use Rattle.rtgs_http_bodies.specs.declared.replies.content_type.ContentType.TheVariants.{Csv}
use Rattle.rtgs_http_requests.specs.declared.asked.Asked.{Asked}
use Rattle.rtgs_http_requests.specs.declared.asked.Asked.TheVariants.{Submit, Batch, Read}
use Rattle.rtgs_http_requests.specs.declared.http_fault.HttpFault.{HttpFault}
use Rattle.rtgs_book.specs.declared.reading.Reading.{Reading}
use Rattle.rtgs_http_bodies.specs.desks.Written.{StillHolds}
use Rattle.rtgs_http_server.specs.exchange.ReplyMessages.{IsSaid, IsSentOrLost, fault_message, reply_message}
use Rattle.rtgs_http_server.specs.exchange.ReplyMessages.{reading_message}

-- the command was given once, and what the desk replied is sent
pub record Submits {K : Type 0} (g : Ghosts K) (old : Book) (command : Command) (desk : Seen K) (sent : Message)
    : Type 0 where
  pub reply : Reply
  pub acts : Acts g old command reply desk
  pub sent_or_lost : IsSentOrLost (reply_message reply) sent
  -- where memory was refused for the command, the reply that takes none is sent
  pub refused : reply ≡ Err OutOfMemory → sent ≡ no_memory
  pub not_failed : reply ≢ Err Failed

-- The orders of the rows were given, up to the last or to the one at which the batch stopped. The result file is sent.
pub record SubmitsAll {K : Type 0} (g : Ghosts K) (old : Book) (sender : List ℕ) (rows : List NewOrder)
    (desk : Seen K) (sent : Message) : Type 0 where
  pub replies : List RowReply
  pub stopped : Option Refusal
  pub stops : StopsAfter (length replies) (length rows) stopped
  -- the store has failed exactly where the batch stopped at its fault
  pub fault : stopped ≡ Some StoreFault → g.has_failed desk.keeper ≡ true
  pub works : stopped ≢ Some StoreFault → g.has_failed desk.keeper ≡ false
  pub acts : Sent g old sender rows replies stopped desk
  pub sent_or_lost : IsSentOrLost (message (batch_status stopped) Csv (results_text rows replies stopped)) sent
  pub not_failed : stopped ≢ Some Failed

-- nothing was given for lack of memory, and the store works
abbrev pub GivesNothing : {K : Type 0} → Ghosts K → Book → Seen K → Message → Type 0
GivesNothing g old desk sent = StillHolds g old desk × (g.has_failed desk.keeper ≡ false) × (sent ≡ no_memory)

-- this was read and the store works, or the store failed
abbrev pub IsReadOf : {K : Type 0} → Ghosts K → Message → Seen K → Message → Type 0
IsReadOf g wanted desk sent =
    ((g.has_failed desk.keeper ≡ false) × IsSaid wanted sent)
    ⊎ ((g.has_failed desk.keeper ≡ true) × IsSaid (refused_message StoreFault) sent)

-- the book was read, and nothing done to it; a book has one greatest choice
abbrev pub Reads : {K : Type 0} → Ghosts K → Book → Reading → Seen K → Message → Type 0
Reads g old reading desk sent = StillHolds g old desk × (choice : Choice) × IsGreatest old choice
    × IsReadOf g (reading_message old choice reading) desk sent

-- what is done and sent for what a request asks, or for the fault of the first step that fails
abbrev pub ComesTo : {K : Type 0} → Ghosts K → Book → Result Asked HttpFault → Seen K → Message → Type 0
ComesTo g old (Err fault) desk sent =
    StillHolds g old desk × (g.has_failed desk.keeper ≡ false) × IsSaid (fault_message fault) sent
ComesTo g old (Ok (Submit command)) desk sent = Submits g old command desk sent
ComesTo g old (Ok (Batch sender rows)) desk sent =
    GivesNothing g old desk sent ⊎ SubmitsAll g old sender rows.items desk sent
ComesTo g old (Ok (Read reading)) desk sent = Reads g old reading desk sent

-- what commands with these replies made of a book that the desk held
pub record Makes {K : Type 0} (g : Ghosts K) (old : Book) (commands : List Command) (replies : List Reply)
    (desk : Seen K) : Type 0 where
  pub last : Book
  -- on an automatic day nothing waits in it that could settle
  pub calm : IsCalm last
  -- unless the store failed, the desk holds that book, and no command is open
  pub kept : g.has_failed desk.keeper ≡ false → Holds g desk last
  pub none_open : g.has_failed desk.keeper ≡ false → open_command commands replies ≡ None
  -- whatever the next opening finds, the commands were a session of the definitions
  pub session : (found : Book) → g.leaves desk.keeper found
      → IsSession (record { start = old; commands = commands; replies = replies; found = found })
  -- and it is a book, kept whole, and calm
  pub whole_after_a_crash : g.is_whole desk.keeper
  pub calm_after_a_crash : (found : Book) → g.leaves desk.keeper found → IsCalm found

-- the commands that are given for what a request asks, where this many were replied to
abbrev pub given : Result Asked HttpFault → ℕ → List Command
given (Err fault) count = []
given (Ok (Submit command)) count = take count (command ∷ [])
given (Ok (Batch sender rows)) count = orders_of sender (take count rows.items)
given (Ok (Read reading)) count = []

-- the commands that a request asks for, and no others
abbrev pub WorksFor : {K : Type 0} → Ghosts K → Book → Result Asked HttpFault → Seen K → Type 0
WorksFor g old answer desk = (replies : List Reply) × Makes g old (given answer (length replies)) replies desk

-- the commands of one request
abbrev pub Works : {K : Type 0} → Ghosts K → Book → Seen K → Type 0
Works g old desk = (commands : List Command) × (replies : List Reply) × Makes g old commands replies desk
