-- The headline: what a desk answered, kept and lost over any number of sessions, in the words of the definitions.
use Rattle.std.specs.Prelude.{◌≡◌, ◌⊎◌, true, false, List, [], ◌∷◌, ◌++◌, length, map, take, ⊤}
use Rattle.std.specs.List.{AllByRecursion}
use Rattle.sqlite.specs.State.{State}
use Rattle.sqlite.specs.Tree.{Trees}
use Rattle.rtgs_book.specs.declared.book.Book.{Book}
use Rattle.rtgs_book.specs.declared.command.Command.{Command}
use Rattle.rtgs_book.specs.declared.command.Command.TheVariants.{Resolve}
use Rattle.rtgs_book.specs.declared.fault.Fault.TheVariants.{OutOfMemory, StoreFault}
use Rattle.rtgs_book.specs.Balance.{balance}
use Rattle.rtgs_book.specs.Books.{is_closed, new_book}
use Rattle.rtgs_book.specs.Calm.{IsCalm}
use Rattle.rtgs_book.specs.Choice.{Choice, is_chosen, IsGreatest}
use Rattle.rtgs_book.specs.Laws.{KeepsWhatIsFinal, NothingSettlesEarly}
use Rattle.rtgs_book.specs.Outcome.{Reply}
use Rattle.rtgs_book.specs.Run.{Run}
use Rattle.rtgs_book.specs.Session.{Session, IsLife}
use Rattle.rtgs_book.specs.Settle.{settle}
use Rattle.rtgs_book.specs.Soundness.{IsSound}
use Rattle.rtgs_book.specs.Step.{Step, is_followed}
use Rattle.rtgs_laws.specs.repeats.Lives.{AreLived}
use Rattle.rtgs_rows.specs.Content.{Content, HasNoTables, Holding, Holds}
use Rattle.rtgs_rows.specs.Keeping.{AddsUp, AreOf, IsBookOf}
use Rattle.rtgs_promises.specs.declared.sessions.NoSession.{NoSession}
use Rattle.rtgs_promises.specs.declared.sessions.NoSession.TheVariants.{NoDesk}

-- A resolution: under one mark it settles all orders of the greatest choice of queue beginnings that leaves nobody
-- below its floor. Where that choice has no order, and while the desk is closed, nothing changes.
pub record Settles (old new : Book) : Type 0 where
  pub choice : Choice
  pub greatest : IsGreatest old choice
  pub all : is_closed old.day.phase ≡ false → new ≡ settle old (is_chosen old choice)
  pub closed : is_closed old.day.phase ≡ true → new ≡ old

-- A command with its reply, as a step of the definitions. Where it asks for a resolution it is one. Where one follows
-- it, on an automatic day, this begins with the book that the command left by itself.
pub record Resolves (old : Book) (command : Command) (reply : Reply) (new : Book) : Type 0 where
  pub step : Step old command reply new
  pub asked : command ≡ Resolve → Settles old new
  pub followed : is_followed command step.0 ≡ true → Settles step.0.book new

-- so it is with each of a list of commands, at the book to which those before it led
abbrev pub EachResolves : Book → List Command → List Reply → Book → Type 0
EachResolves start commands replies last =
    (command : Command) (before after : List Command) (heard more : List Reply) (reply : Reply)
    → commands ≡ before ++ command ∷ after → replies ≡ heard ++ reply ∷ more → length heard ≡ length before
    → (old new : Book) × Run start before heard old × Resolves old command reply new × Run new after more last

-- books one after another, each of which keeps what was final in any before it
abbrev pub KeepFinal : List Book → Type 0
KeepFinal [] = ⊤
KeepFinal (book ∷ later) = AllByRecursion (KeepsWhatIsFinal book) later × KeepFinal later

-- Sessions that were begun with the book `start`, and the book that was found in the end. `given` are the commands of
-- each session, and `said` are their replies.
pub record IsHeadline (start : Book) (given : List (List Command)) (said : List (List Reply)) (found : Book)
    : Type 0 where
  pub sessions : List Session
  pub commands : map (λ (s : Session). s.commands) sessions ≡ given
  pub replies : map (λ (s : Session). s.replies) sessions ≡ said
  -- In each session the answers are those of the definitions' run over its answered commands. Its end left the book of
  -- this run, or, where the store had failed, perhaps that book after the one open command, whole. The next session
  -- began with what it left.
  pub life : IsLife start sessions found
  -- So one list of commands leads from the first book to the last: every answered command of each session in order,
  -- with its reply, and of each session at most the one more that was open.
  pub all : List Command
  pub heard : List Reply
  pub lived : AreLived sessions all heard
  pub run : Run start all heard found
  -- every resolution among them, asked for or not, settled the greatest choice, whole, or there was nothing to settle
  pub resolutions : EachResolves start all heard found
  -- on an automatic day nothing was left that could settle, in any book that was found
  pub calm : AllByRecursion (λ (s : Session). IsCalm s.found) sessions × IsCalm found
  -- What was final stands: what was so in the first book, or in one that was found after a session, is so in each that
  -- was found later, and in the last.
  pub final : KeepFinal (start ∷ map (λ (s : Session). s.found) sessions)
  pub stands : KeepsWhatIsFinal start found
  -- nothing settled before its due date, and no rule of a sound book is broken
  pub in_time : NothingSettlesEarly found
  pub sound : IsSound found

-- The tables hold the records of the book and nothing else. Each stored balance is the sum from scratch, and together
-- these balances are what was posted.
pub record AreRowsOf (book : Book) (trees : Trees) : Type 0 where
  pub content : Content
  pub rows : Holds content trees
  pub records : AreOf book content
  pub balances : AllByRecursion (λ (h : Holding). h.balance ≡ balance book h.participant.code) content.holdings
  pub money : AddsUp content

-- So it is, the book is sound, each of its values is in its form and range, and the participants' row numbers rise.
pub record AreExactly (book : Book) (trees : Trees) : Type 0 where
  pub content : Content
  pub rows : Holds content trees
  pub records : IsBookOf book content
  pub money : AddsUp content

-- a crash at this moment leaves some tables, and whichever it leaves have the rows of this book and no others
pub record LeavesRows (book : Book) (s : State) : Type 0 where
  pub some : (trees : Trees) × s.may_leave trees
  pub each : (trees : Trees) → s.may_leave trees → AreRowsOf book trees

-- whatever a crash leaves at this moment are exactly the tables of this book
abbrev pub LeavesExactly : Book → State → Type 0
LeavesExactly book s = (trees : Trees) → s.may_leave trees → AreExactly book trees

-- where no desk opened, memory ran out, or the store failed
abbrev pub IsForced : NoSession → Type 0
IsForced (NoDesk fault) = (fault ≡ OutOfMemory) ⊎ (fault ≡ StoreFault)
IsForced cause = ⊤

-- Sessions that ended early: of those that have replies it is the headline, whatever a crash leaves. `given` are the
-- commands of all sessions that were to be.
pub record EndsEarly (start : Book) (given : List (List Command)) (said : List (List Reply)) (cause : NoSession)
    (may_leave : Trees → Type 0) : Type 0 where
  pub left : (trees : Trees) → may_leave trees
      → (found : Book) × AreExactly found trees × IsHeadline start (take (length said) given) said found
  pub forced : IsForced cause

-- Sessions in memory that ended early, where a store that is dropped leaves nothing: either no session was had, or of
-- those that have replies it is the headline.
pub record EndsEarlyInMemory (given : List (List Command)) (said : List (List Reply)) (cause : NoSession)
    : Type 0 where
  pub had : (said ≡ []) ⊎ ((found : Book) × IsHeadline new_book (take (length said) given) said found)
  pub forced : IsForced cause

-- Sessions from the new book that ended early. Whatever a crash leaves has no tables, and no session was had; or of
-- those that have replies it is the headline.
pub record EndsEarlyAnew (given : List (List Command)) (said : List (List Reply)) (cause : NoSession)
    (may_leave : Trees → Type 0) : Type 0 where
  pub left : (trees : Trees) → may_leave trees
      → (HasNoTables trees × (said ≡ []))
      ⊎ ((found : Book) × AreRowsOf found trees × IsHeadline new_book (take (length said) given) said found)
  pub forced : IsForced cause
