-- Why a sound book is refused, and what a fault explains.
use Rattle.std.proofs.Common.{◌≡◌, ◌≢◌, ◌⊎◌, inl, inr, List, Ok, Err, Result, IfOk, IfErr, refl, sym, ap, subst, ◌∙◌}
use Rattle.std.specs.Result.{IsErrAnd}
use Rattle.sqlite.specs.State.{State}
use Rattle.rtgs_book.specs.declared.book.Book.{Book}
use Rattle.rtgs_book.specs.declared.account.Account.{Account}
use Rattle.rtgs_book.specs.declared.fault.Fault.{Fault}
use Rattle.rtgs_book.specs.declared.fault.Fault.TheVariants.{OutOfMemory, StoreFault, NotADeskFile, Inconsistent}
use Rattle.rtgs_book.specs.declared.rule.Rule.{Rule}
use Rattle.rtgs_book.specs.declared.rule.Rule.TheVariants.{OrderNumbers, PostingNumbers, MarkNumbers, ParticipantCodes}
use Rattle.rtgs_book.specs.declared.rule.Rule.TheVariants.{Keys}
use Rattle.rtgs_book.specs.declared.rule.Rule.TheVariants.{OrderReferences, PostingReferences, Parties, Marks, Queues}
use Rattle.rtgs_book.specs.declared.rule.Rule.TheVariants.{Dates}
use Rattle.rtgs_book.specs.declared.rule.Rule.TheVariants.{Floors, Total, StoredBalances, AutomaticDay, Calm}
use Rattle.rtgs_book.specs.Judgement.{Keeps}
use Rattle.rtgs_book.specs.Soundness.{IsSound}
use Rattle.rtgs_rows.specs.Keeping.{AreBalances}
use Rattle.rtgs_rows.specs.declared.numbers.TheConstants.{VERSION}
use Rattle.rtgs_sql_loading.specs.Accounts.{ExplainsRead}
use Rattle.rtgs_sql_loading.specs.Loading.{LoadsFrom}
use Rattle.rtgs_tables.specs.Loading.{ExplainsLoad}

-- a sound book keeps each rule but the last
keeps_all : (book : Book) → IsSound book → (rule : Rule) → rule ≢ Calm → Keeps book rule
keeps_all book sound OrderNumbers other = sound.orders_numbered
keeps_all book sound PostingNumbers other = sound.postings_numbered
keeps_all book sound MarkNumbers other = sound.marks_numbered
keeps_all book sound ParticipantCodes other = sound.codes_rise
keeps_all book sound Keys other = sound.keys_distinct
keeps_all book sound OrderReferences other = sound.order_references
keeps_all book sound PostingReferences other = sound.posting_references
keeps_all book sound Parties other = sound.parties
keeps_all book sound Marks other = sound.marks
keeps_all book sound Queues other = sound.queues
keeps_all book sound Dates other = sound.dates
keeps_all book sound Floors other = sound.floors
keeps_all book sound Total other = sound.total_fits
keeps_all book sound StoredBalances other = tt
keeps_all book sound AutomaticDay other = sound.automatic_fits
keeps_all book sound Calm other = absurd (other refl)

-- where no rule is broken, the store failed or memory was refused
pub of_sound : (accounts : List Account) (book : Book) → IsSound book → AreBalances book accounts → (fault : Fault)
    → ExplainsRead accounts book fault → (fault ≡ OutOfMemory) ⊎ (fault ≡ StoreFault)
of_sound accounts book sound agree OutOfMemory why = inl refl
of_sound accounts book sound agree StoreFault why = inr refl
of_sound accounts book sound agree NotADeskFile why = absurd why
of_sound accounts book sound agree (Inconsistent rule) why = absurd (why.broken (keeps_all book sound rule, λ _. agree))

-- and what holds of the one holds of the other
pub passed_on : {A B : Type 0} (P : Fault → Type 0) (met : Result A Fault) (fault : Fault) (answer : Result B Fault)
    → met ≡ Err fault → IsErrAnd answer (λ passed. passed ≡ fault) → IfErr met P → IfErr answer P
passed_on P met fault (Ok b) was passed holds = tt
passed_on {A = A} P met fault (Err passed_fault) was passed holds =
    subst P (sym passed) (subst (λ (r : Result A Fault). IfErr r P) was holds)

-- an answer that tells the fault that was met is that fault
pub passed_as : {A B : Type 0} (met : Result A Fault) (fault kind : Fault) (answer : Result B Fault) → met ≡ Err fault
    → IsErrAnd answer (λ passed. passed ≡ fault) → met ≡ Err kind → answer ≡ Err kind
passed_as met fault kind (Ok b) was passed is = absurd passed
passed_as {A = A} met fault kind (Err it) was passed is =
    let same : ◌≡◌ {A = Result A Fault} (Err fault) (Err kind) = sym was ∙ is in
    let both : fault ≡ kind = cc in
    ap Err (passed ∙ both)

-- the same fault explains whatever records there are
pub explained : (s : State) (answer : Result Book Fault) → LoadsFrom VERSION s answer → IfErr answer (ExplainsLoad s)
explained s (Ok it) loads = tt
explained s (Err fault) loads = (loads.explained, (loads.caused, loads.by_queries))

pub accepted : (accounts : List Account) (book : Book) (answer : Result Book Fault) → IsSound book
    → AreBalances book accounts → IfErr answer (ExplainsRead accounts book)
    → IfErr answer (λ fault. (fault ≡ OutOfMemory) ⊎ (fault ≡ StoreFault))
accepted accounts book (Ok it) sound agree why = tt
accepted accounts book (Err fault) sound agree why = of_sound accounts book sound agree fault why

pub the_book : (accounts : List Account) (book : Book) (answer : Result Book Fault)
    → IfOk answer (λ it. (it ≡ book) × AreBalances book accounts) → IfOk answer (λ it. it ≡ book)
the_book accounts book (Ok it) h = h.0
the_book accounts book (Err fault) h = tt
