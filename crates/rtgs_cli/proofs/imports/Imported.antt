-- What is said of the desk to which the rows of a file of orders were sent, or which got none, when its book was
-- finished, and once it was closed.
use Rattle.std.proofs.Common.{◌≡◌, ◌⊎◌, ◌∙◌, inl, inr, ℕ, List, length, Option, Result, Ok, Err, refl, sym, subst}
use Rattle.std.specs.Result.{IfOk, IfErr, OnErr}
use Rattle.std.specs.declared.snapshot.Snapshot.{Snapshot}
use Rattle.std.proofs.lemmas.Result.{IfOk-at_ok, IfErr-at_err}
use Rattle.rtgs_book.specs.declared.book.Book.{Book}
use Rattle.rtgs_book.specs.declared.refusal.Refusal.{Refusal}
use Rattle.rtgs_desk.specs.Holding.{Holds}
use Rattle.rtgs_desk.specs.Seen.{Seen}
use Rattle.rtgs_desk.specs.batches.Batches.{StopsAfter}
use Rattle.rtgs_order_files.specs.declared.batch_result.RowReply.{RowReply}
use Rattle.rtgs_book.specs.declared.new_order.NewOrder.{NewOrder}
use Rattle.rtgs_book_file.specs.OverFile.{OverFile}
use Rattle.rtgs_cli.specs.files.Done.{IsIdle}
use Rattle.rtgs_cli.specs.files.Touching.{IsClosed}
use Rattle.rtgs_cli.specs.declared.files.used.Used.{Used}
use Rattle.rtgs_cli.specs.declared.files.used.Used.TheVariants as used
use Rattle.rtgs_cli.specs.declared.files.touched.Touched.{Touched}
use Rattle.rtgs_cli.specs.declared.files.touched.Touched.TheVariants as traces
use Rattle.rtgs_cli.specs.imports.Causes.{AreRowsOf}
use Rattle.rtgs_cli.specs.imports.Imports.{IsImported, IsSent, SentOver}
use Rattle.rtgs_cli.specs.declared.imports.order_file.OrderFile.{OrderFile}

-- where this refusal is the only one, what is so of it is so of any
pub refused_as : {T E : Type 0} (result : Result T E) (why : E) (S : Type 0) (P : E → Type 0)
    → OnErr result ((result ≡ Err why) × S) → P why → IfErr result P
refused_as (Ok done) why S P only it = tt
refused_as (Err other) why S P only it =
    let is = only.0 in
    let same : other ≡ why = cc in
    subst P (sym same) it

-- each of two cases leads to one of two others
pub either_way : {P Q R S : Type 0} → (P → R) → (Q → S) → P ⊎ Q → R ⊎ S
either_way first second (inl p) = inl (first p)
either_way first second (inr q) = inr (second q)

module _ {K U C : Type 0} (file : OverFile K U C) {opened lent left finished : Seen K} (lends : lent ≡ opened)
    (same : finished ≡ left) (over : file.keeper.is_honest opened.keeper → file.facts.was_opened opened)
    (honest : file.keeper.is_honest left.keeper → file.keeper.is_honest lent.keeper) {V W : Type 0} where
  pub was_sent : (sent : Result V W) (sender : List ℕ) (rows_of : V → List NewOrder) (replies_of : V → List RowReply)
      (stop_of : V → Option Refusal) → IfOk sent (λ it. file.keeper.is_honest left.keeper
      → (book : Book) → Holds file.keeper lent book
      → SentOver file book sender (rows_of it) (replies_of it) (stop_of it) left)
      → IfOk sent (λ it. IsSent file sender (rows_of it) (replies_of it) (stop_of it) finished)
  was_sent (Ok it) sender rows_of replies_of stop_of did = subst
      (IsSent file sender (rows_of it) (replies_of it) (stop_of it)) (sym same) (record {
        opened = lent;
        over = λ was_honest.
            subst (λ desk. file.keeper.is_honest desk.keeper → file.facts.was_opened desk) (sym lends) over
            (honest was_honest);
        did = did;
      })
  was_sent (Err why) sender rows_of replies_of stop_of did = tt

  pub was_refused : (done : Result V W) (Why : W → Type 0) → IfErr done Why → OnErr done (left ≡ lent)
      → IfErr done (λ why. Why why × IsIdle file finished)
  was_refused (Ok it) Why refused idle = tt
  was_refused (Err why) Why refused idle =
      (refused, subst (IsIdle file) (sym (same ∙ idle ∙ lends)) (record { over = over }))

module _ {K B U C E V W : Type 0} (file : OverFile K U C) (desk_of : B → Seen K)
    (finished : Result (B × (Result V W × Snapshot OrderFile)) E) (book : B) (done : Result V W)
    (read : Snapshot OrderFile) (is : finished ≡ Ok (book, (done, read))) (A P N : Type 0) (closed : C)
    (shut : file.facts.was_closed (desk_of book).keeper closed) where
  -- what the run touched
  abbrev sent : Touched A U C (Used (Snapshot OrderFile) P N)
  sent = traces.Book closed (used.Orders read)

  -- the book to which the rows of a batch were sent
  pub imported_with : (sender : List ℕ) (rows_of : V → List NewOrder) (replies_of : V → List RowReply)
      (stop_of : V → Option Refusal)
      → IfOk finished (λ p. IfOk p.1.0 (λ it. AreRowsOf (λ bytes. bytes.items) p.1.1.value.answer (rows_of it)))
      → IfOk finished (λ p. IfOk p.1.0 (λ it.
      StopsAfter (length (replies_of it)) (length (rows_of it)) (stop_of it)))
      → IfOk finished (λ p. IfOk p.1.0 (λ it.
      IsSent file sender (rows_of it) (replies_of it) (stop_of it) (desk_of p.0)))
      → (it : V) → done ≡ Ok it → IsImported file sent sender (rows_of it) (replies_of it) (stop_of it)
  imported_with sender rows_of replies_of stop_of rows stops did it well =
      let so : (P : B → Snapshot OrderFile → V → Type 0) → IfOk finished (λ p. IfOk p.1.0 (P p.0 p.1.1))
      → P book read it
      = λ P all. IfOk-at_ok (P book read) well (IfOk-at_ok (λ p. IfOk p.1.0 (P p.0 p.1.1)) is all) in (
        desk_of book,
        (closed, refl, shut),
        so (λ book _ it. IsSent file sender (rows_of it) (replies_of it) (stop_of it) (desk_of book)) did,
        so (λ _ read it. AreRowsOf (λ bytes. bytes.items) read.value.answer (rows_of it)) rows,
        so (λ _ _ it. StopsAfter (length (replies_of it)) (length (rows_of it)) (stop_of it)) stops,
      )

  -- the book with which nothing was done
  pub idle_for : (Why : Snapshot OrderFile → W → Type 0)
      → IfOk finished (λ p. IfErr p.1.0 (λ why. Why p.1.1 why × IsIdle file (desk_of p.0)))
      → (why : W) → done ≡ Err why
      → Why read why × (left : Seen K) × IsClosed file left (used.Orders read) sent × IsIdle file left
  idle_for Why all why refused =
      let it = IfErr-at_err (λ why. Why read why × IsIdle file (desk_of book)) refused
      (IfOk-at_ok (λ p. IfErr p.1.0 (λ why. Why p.1.1 why × IsIdle file (desk_of p.0))) is all) in
      (it.0, desk_of book, (closed, refl, shut), it.1)
