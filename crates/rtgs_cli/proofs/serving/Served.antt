-- What is said of a book whose desk was served, or was to be, when it was finished, and once it was closed.
use Rattle.std.proofs.Common.{◌≡◌, ◌⊎◌, ◌∙◌, inr, ℕ, Bool, List, Option, Result, Ok, Err, refl, sym, subst}
use Rattle.std.specs.Result.{IfOk, IfErr, OnErr}
use Rattle.std.specs.declared.snapshot.Snapshot.{Snapshot}
use Rattle.std.proofs.lemmas.Result.{IfOk-at_ok}
use Rattle.rtgs_book.specs.declared.book.Book.{Book}
use Rattle.rtgs_desk.specs.Holding.{Holds}
use Rattle.rtgs_desk.specs.Seen.{Seen}
use Rattle.rtgs_cli_lines.specs.Texts.{Prints}
use Rattle.rtgs_cli_lines.specs.declared.failure.Failure.{Failure}
use Rattle.rtgs_cli_lines.specs.declared.printed.Printed.{Printed}
use Rattle.rtgs_http_server.specs.declared.port.Port.{Port}
use Rattle.rtgs_book_file.specs.OverFile.{OverFile}
use Rattle.rtgs_cli.specs.files.Done.{IsIdle}
use Rattle.rtgs_cli.specs.declared.files.used.Used.{Used}
use Rattle.rtgs_cli.specs.declared.files.touched.Touched.{Touched}
use Rattle.rtgs_cli.specs.declared.files.touched.Touched.TheVariants as traces
use Rattle.rtgs_cli.specs.serving.Serving.{IsNotListening, IsNotServed, IsServed, Serves, ServedOver, TakesAt}
use Rattle.rtgs_cli.specs.serving.Serving.{server_text, stop_of_desk}
use Rattle.rtgs_cli.specs.declared.serving.no_port.NoPort.{NoPort}
use Rattle.rtgs_cli.specs.declared.serving.service.Service.{Service}

module _ {K U C : Type 0} (file : OverFile K U C) {opened lent left finished : Seen K} (lends : lent ≡ opened)
    (same : finished ≡ left) (over : file.keeper.is_honest opened.keeper → file.facts.was_opened opened)
    (honest : file.keeper.is_honest left.keeper → file.keeper.is_honest lent.keeper) {V W : Type 0} where
  pub was_served : (served : Result V W) (operator : List ℕ) (Says : Bool → V → Type 0)
      → IfOk served (λ it. (file.keeper.is_honest left.keeper → (book : Book) → Holds file.keeper lent book
      → ServedOver file operator book left) × Says (file.keeper.has_failed left.keeper) it)
      → IfOk served (λ it. IsServed file operator finished × Says (file.keeper.has_failed finished.keeper) it)
  was_served (Ok it) operator Says did = subst
      (λ desk. IsServed file operator desk × Says (file.keeper.has_failed desk.keeper) it) (sym same) (
        record {
          opened = lent;
          over = λ was_honest.
              subst (λ desk. file.keeper.is_honest desk.keeper → file.facts.was_opened desk) (sym lends) over
              (honest was_honest);
          did = did.0;
        },
        did.1,
      )
  was_served (Err why) operator Says did = tt

  pub was_refused : (done : Result V W) (Why : W → Type 0) → IfErr done Why → OnErr done (left ≡ lent)
      → IfErr done (λ why. Why why × IsIdle file finished)
  was_refused (Ok it) Why refused idle = tt
  was_refused (Err why) Why refused idle =
      (refused, subst (IsIdle file) (sym (same ∙ idle ∙ lends)) (record { over = over }))

module _ {K B U C E F : Type 0} (A : Type 0) (file : OverFile K U C) (desk_of : B → Seen K)
    (finished : Result (B × (Result Printed Failure × Used F (Snapshot Port) (Snapshot NoPort))) E) (book : B)
    (beside : Used F (Snapshot Port) (Snapshot NoPort)) (closed : C)
    (shut : file.facts.was_closed (desk_of book).keeper closed) where
  -- what the run touched
  abbrev touched : Touched A U C (Used F (Snapshot Port) (Snapshot NoPort))
  touched = traces.Book closed beside

  module _ (service : Service) (old new : Option (List ℕ)) where
    -- what a server whose desk failed, or did not, has to print, and where it stops
    abbrev IsSaid : Bool → Printed → Type 0
    IsSaid failed printed = Prints (server_text service.port service.count failed) (stop_of_desk failed) printed old new

    pub served_with : (done : Result Printed Failure) → finished ≡ Ok (book, (done, beside))
        → IfOk finished (λ p. IfOk p.1.0 (λ printed.
        IsServed file service.operator (desk_of p.0) × IsSaid (file.keeper.has_failed (desk_of p.0).keeper) printed))
        → IfOk finished (λ p. IfOk p.1.0 (λ printed. TakesAt service p.1.1 printed old new))
        → IfOk done (λ printed. Serves file service touched printed old new)
    served_with (Ok printed) is served takes =
        let it = IfOk-at_ok (λ p. IfOk p.1.0 (λ printed. IsServed file service.operator (desk_of p.0)
        × IsSaid (file.keeper.has_failed (desk_of p.0).keeper) printed)) is served in (
          (_, _, (desk_of book, (closed, refl, shut), it.0, refl, refl), it.1),
          IfOk-at_ok (λ p. IfOk p.1.0 (λ printed. TakesAt service p.1.1 printed old new)) is takes,
        )
    served_with (Err why) is served takes = tt

  pub idle_with : (done : Result Printed Failure) → finished ≡ Ok (book, (done, beside))
      → IfOk finished (λ p. IfErr p.1.0 (λ why. IsNotListening p.1.1 why × IsIdle file (desk_of p.0)))
      → IfErr done (λ why. IsNotServed file touched why)
  idle_with (Ok printed) is all = tt
  idle_with (Err why) is all =
      let it = IfOk-at_ok (λ p. IfErr p.1.0 (λ why. IsNotListening p.1.1 why × IsIdle file (desk_of p.0))) is all in
      inr (it.0, desk_of book, (closed, refl, shut), it.1)
