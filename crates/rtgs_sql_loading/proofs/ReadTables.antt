-- One table is read after another.
use Rattle.std.proofs.Common.{◌≡◌, ◌≢◌, inl, ℕ, List, Err, Ok, Result, refl, sym, subst, ◌∙◌, arith}
use Rattle.std.specs.Result.{IsErrAnd}
use Rattle.sqlite.specs.Effect.{Database}
use Rattle.sqlite.specs.State.{State}
use Rattle.sqlite.specs.Tree.{Trees}
use Rattle.rtgs_book.specs.declared.book.Book.{Book}
use Rattle.rtgs_book.specs.declared.account.Account.{Account}
use Rattle.rtgs_book.specs.declared.fault.Fault.{Fault}
use Rattle.rtgs_book.specs.declared.fault.Fault.TheVariants.{OutOfMemory, StoreFault, NotADeskFile}
use Rattle.rtgs_rows.specs.Tables.{IsVersion}
use Rattle.rtgs_sql_queries.specs.Answering.{KeepsTables}
use Rattle.rtgs_sql_queries.specs.Records.{HasRecords}
use Rattle.rtgs_sql_loading.specs.Loading.{ReadsOn, Stops}
use Rattle.rtgs_sql_loading.proofs.Keeps.{keeps_then, survives_on, was_clean}
use Rattle.rtgs_sql_loading.proofs.Judging.{same_fault, answered}

pub at_once : (s : State) → ReadsOn s s
at_once s = record {
  clean = λ clean. clean;
  keeps = λ clean. record { file = λ version trees file. file; rests = λ version content rests. rests };
  same = λ clean. refl;
  survives = record {
    clean = omega arith;
    shield = λ is. is;
    counts = omega arith;
    limit = refl;
    closes = λ clean is. inl is;
    crash = λ clean db left. inl left;
  };
}

pub followed : {a b c : State} → ReadsOn a b → ReadsOn b c → ReadsOn a c
followed one two = record {
  clean = λ clean. one.clean (two.clean clean);
  keeps = λ clean. keeps_then _ _ _ (one.keeps (two.clean clean)) (two.keeps clean);
  same = λ clean. two.same clean ∙ one.same (two.clean clean);
  survives = survives_on _ _ _ one.survives two.survives;
}

-- the tables keep their records
kept_on : {version : ℕ} (accounts : List Account) (book : Book) (old new : State) → KeepsTables old new
    → HasRecords version accounts book old → HasRecords version accounts book new
kept_on {version = version} accounts book old new keeps held =
    (held.0, keeps.rests version held.0 held.1, held.2, held.3)

-- one that stops: its fault is answered
pub stops_after : {A B : Type 0} {version : ℕ} {a b c : State} {Bad Wrong : Trees → Type 0}
    {Unread Illegible : Database → Type 0} (met : Result A Fault) (fault : Fault) (answer : Result B Fault)
    → ReadsOn a b → met ≡ Err fault → IsErrAnd answer (λ passed. passed ≡ fault)
    → (IsVersion version → (trees : Trees) → Bad trees → Wrong trees)
    → (IsVersion version → (db : Database) → Unread db → Illegible db)
    → Stops version b c met Bad Unread → Stops version a c answer Wrong Illegible
stops_after {version = version} {b = b} {c = c} {Unread = Unread} met fault answer on was passed wrong illegible stops =
    let honest = was_clean b c stops.survives in
    record {
      right = λ clean accounts book held e. stops.right clean accounts book (kept_on accounts book _ _
          (on.keeps (honest clean)) held) (same_fault met fault NotADeskFile answer was passed e);
      wrong = λ clean trees file e. wrong file.known trees (stops.wrong clean trees
          ((on.keeps (honest clean)).file version trees file) (same_fault met fault NotADeskFile answer was passed e));
      unread = λ clean known e. illegible known _ (subst Unread (on.same (honest clean)) (stops.unread clean known
          (same_fault met fault NotADeskFile answer was passed e)));
      same = λ clean other. keeps_then _ _ _ (on.keeps (honest clean)) (stops.same clean
          (λ e. other (answered met fault StoreFault answer was passed e)));
      survives = survives_on _ _ _ on.survives stops.survives;
    }

-- all are read
pub stops_never : {A : Type 0} {version : ℕ} {a b : State} {Wrong : Trees → Type 0} {Illegible : Database → Type 0}
    (answer : Result A Fault) → ReadsOn a b → answer ≢ Err NotADeskFile
    → Stops version a b answer Wrong Illegible
stops_never {version = version} answer on not = record {
  right = λ clean accounts book held. not;
  wrong = λ clean trees file e. absurd (not e);
  unread = λ clean known e. absurd (not e);
  same = λ clean other. on.keeps clean;
  survives = on.survives;
}

-- memory was refused
pub not_foreign : {A : Type 0} (answer : Result A Fault) → IsErrAnd answer (λ passed. passed ≡ OutOfMemory)
    → answer ≢ Err NotADeskFile
not_foreign (Ok it) passed e = absurd passed
not_foreign (Err fault) passed e =
    let is : fault ≡ NotADeskFile = cc in
    let clash : OutOfMemory ≡ NotADeskFile = sym passed ∙ is in
    absurd cc
