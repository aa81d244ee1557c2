-- The commands of one more request are those that it asks for, and of the session of those before it.
use Rattle.std.proofs.Common.{◌≡◌, ◌⊎◌, ◌++◌, false, ℕ, List, length, Option, Some, None, refl, sym, subst, inl, inr}
use Rattle.rtgs_book.specs.declared.book.Book.{Book}
use Rattle.rtgs_book.specs.declared.command.Command.{Command}
use Rattle.rtgs_book.specs.Outcome.{Reply}
use Rattle.rtgs_book.specs.Run.{Run}
use Rattle.rtgs_book.specs.Session.{MayFind, answered, answers}
use Rattle.rtgs_keeper.specs.declared.keeper.Keeper.{Ghosts}
use Rattle.rtgs_desk.specs.Holding.{Holds}
use Rattle.rtgs_desk.specs.Seen.{Seen}
use Rattle.rtgs_http_server.specs.input.Input.{OfInput}
use Rattle.rtgs_http_server.specs.declared.input.reader_failed.ReaderFailed.{ReaderFailed}
use Rattle.rtgs_http_bodies.specs.replies.Messages.{Message}
use Rattle.rtgs_http_server.specs.exchange.Handling.{Makes, given}
use Rattle.rtgs_http_server.specs.exchange.Exchange.{Exchanges}
use Rattle.rtgs_http_server.specs.exchange.Serving.{Serves}
use Rattle.rtgs_http_server.specs.declared.exchange.served.Served.{Served}
use Rattle.rtgs_http_server.specs.declared.exchange.served.Served.TheVariants.{Answered, ReadFault, WriteFault}
use Rattle.rtgs_http_server.specs.Requests.{IsAsked, WorksForAll, and_then}

-- the reader's bytes are an input, whether they are known or not
of_input : (P : List ℕ → Type 0) (known : Option (List ℕ)) → OfInput known P → (input : List ℕ) × P input
of_input P (Some input) holds = (input, holds)
of_input P None holds = holds

-- there is a reply to an input, or the reader failed
replied : (IsReply : List ℕ → Message → Type 0) (known old new : Option (List ℕ)) (served : Served)
    → Serves IsReply known old new served
    → ((sent : Message) × (input : List ℕ) × IsReply input sent)
    ⊎ ((failed : ReaderFailed) × (served ≡ ReadFault failed))
replied IsReply known old new (Answered status) sends =
    let it = of_input (λ input. IsReply input sends.sent) known sends.reply in inl (sends.sent, it.0, it.1)
replied IsReply known old new (WriteFault status failed) sends =
    let it = of_input (λ input. IsReply input sends.sent) known sends.reply in inl (sends.sent, it.0, it.1)
replied IsReply known old new (ReadFault failed) kept = inr (failed, refl)

-- the commands so far lead to the book that the desk holds
led : {K : Type 0} (g : Ghosts K) (old : Book) (commands : List Command) (replies : List Reply) (desk : Seen K)
    (first : Makes g old commands replies desk) → g.has_failed desk.keeper ≡ false
    → g.leaves desk.keeper first.last → Run old (answered commands replies) (answers replies) first.last
led g old commands replies desk first working left =
    let session = first.session first.last left in
    let same : first.last ≡ session.last =
    subst (λ opened. MayFind session.last opened first.last) (first.none_open working) session.found in
    subst (Run old (answered commands replies) (answers replies)) (sym same) session.run

module _ {K : Type 0} (g : Ghosts K) (operator : List ℕ) (old new : Seen K)
    (join : (book : Book) (next : Seen K) (commands more : List Command) (replies again : List Reply)
    (first : Makes g book commands replies old) → g.has_failed old.keeper ≡ false
    → Makes g first.last more again next → Makes g book (commands ++ more) (replies ++ again) next)
    (left : (book : Book) → Holds g old book → g.leaves old.keeper book) where
  exchanged : (input : List ℕ) (sent : Message) → Exchanges g operator old input new sent → g.is_honest new.keeper
      → g.has_failed old.keeper ≡ false → (book : Book) → WorksForAll g operator book old
      → WorksForAll g operator book new
  exchanged input sent it honest working book before =
      let first = before.3 in
      let held = first.kept working in
      let handles = it.handles honest first.last held in
      let again = handles.works.0 in
      let more = given handles.answer (length again) in
      let run = led g book before.0 before.1 old first working (left first.last held) in
      let asked : IsAsked operator first.last input handles.answer =
      record { asks = handles.asks; allowed = handles.allowed } in (
        before.0 ++ more,
        before.1 ++ again,
        and_then before.2 first.last run input handles.answer again asked,
        join book new before.0 more before.1 again first working handles.works.1,
      )

  pub joined : (known before after : Option (List ℕ)) (served : Served)
      → Serves (λ input sent. Exchanges g operator old input new sent) known before after served
      → ((failed : ReaderFailed) → served ≡ ReadFault failed → new ≡ old) → g.is_honest new.keeper
      → g.has_failed old.keeper ≡ false → (book : Book) → WorksForAll g operator book old
      → WorksForAll g operator book new
  joined known before after served serves read_fault honest working book works =
      by (replied (λ input sent. Exchanges g operator old input new sent) known before after served serves)
    where
      by : ((sent : Message) × (input : List ℕ) × Exchanges g operator old input new sent)
          ⊎ ((failed : ReaderFailed) × (served ≡ ReadFault failed)) → WorksForAll g operator book new
      by (inl (sent, input, it)) = exchanged input sent it honest working book works
      by (inr (failed, is)) = subst (λ desk. WorksForAll g operator book desk) (sym (read_fault failed is)) works
