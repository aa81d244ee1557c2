-- What an admitted caller asks for is one thing.
use Rattle.std.proofs.Common.{◌≡◌, inl, inr, ℕ, Bool, List, Result, Ok, Err, refl, sym, ap, subst, ◌∙◌}
use Rattle.serde_json.specs.Data.{Data}
use Rattle.rtgs_book.specs.declared.command.Command.TheVariants as command
use Rattle.rtgs_book.specs.declared.new_order.NewOrder.{NewOrder}
use Rattle.rtgs_http_requests.specs.heads.Parameters.{Parts}
use Rattle.rtgs_http_requests.specs.declared.heads.bank_route.BankRoute.{BankRoute}
use Rattle.rtgs_http_requests.specs.declared.heads.bank_route.BankRoute.TheVariants.{SendOrder, WithdrawOrder}
use Rattle.rtgs_http_requests.specs.declared.heads.bank_route.BankRoute.TheVariants.{SendBatch}
use Rattle.rtgs_http_requests.specs.declared.heads.bank_route.BankRoute.TheVariants.{ReadOrder, ReadAccount, ReadQueue}
use Rattle.rtgs_http_requests.specs.declared.heads.bank_route.BankRoute.TheVariants.{ReadHeld, ReadWaiting}
use Rattle.rtgs_http_requests.specs.declared.heads.bank_route.BankRoute.TheVariants.{ReadStatement}
use Rattle.rtgs_http_requests.specs.declared.heads.operator_route.OperatorRoute.{OperatorRoute}
use Rattle.rtgs_http_requests.specs.declared.heads.operator_route.OperatorRoute.TheVariants.{Post, SetCredit, OpenDay}
use Rattle.rtgs_http_requests.specs.declared.heads.operator_route.OperatorRoute.TheVariants.{Resolve}
use Rattle.rtgs_http_requests.specs.declared.heads.operator_route.OperatorRoute.TheVariants.{CutOff, CloseDay}
use Rattle.rtgs_http_requests.specs.declared.heads.operator_route.OperatorRoute.TheVariants.{ReadReport}
use Rattle.rtgs_http_requests.specs.declared.heads.operator_route.OperatorRoute.TheVariants.{ReadAccounts}
use Rattle.rtgs_http_requests.specs.declared.heads.operator_route.OperatorRoute.TheVariants.{ReadStatus, ReadQueues}
use Rattle.rtgs_http_requests.specs.declared.heads.operator_route.OperatorRoute.TheVariants.{ReadOrders, ReadMarks}
use Rattle.rtgs_http_requests.specs.declared.heads.operator_route.OperatorRoute.TheVariants.{ForBank}
use Rattle.rtgs_http_requests.specs.Bodies.{ReadsJson}
use Rattle.rtgs_http_requests.specs.Callers.{Caller}
use Rattle.rtgs_http_requests.specs.Contents.{FindsContent, HasPosting, HasCredit, HasDate, HasOpening, HasNothing}
use Rattle.rtgs_http_requests.specs.Meaning.{Answer, AsksBatch, AsksDay, AsksPlainly, Means, MeansBank, MeansOperator}
use Rattle.rtgs_http_requests.specs.Meaning.{SubmitsOrder, IsPostingOf, SpellsCredit, SpellsOpening}
use Rattle.rtgs_http_requests.specs.OrderBody.{OrderValues, HasOrder, SpellsOrder}
use Rattle.rtgs_http_requests.specs.Same.{AreTheSame}
use Rattle.rtgs_http_requests.specs.Spelling.{SpellsCode, SpellsReference, SpellsDate}
use Rattle.rtgs_http_requests.specs.Steps.{Then}
use Rattle.rtgs_http_requests.specs.declared.admitted.Admitted.TheVariants as admitted
use Rattle.rtgs_http_requests.specs.declared.asked.Asked.{Asked}
use Rattle.rtgs_http_requests.specs.declared.asked.Asked.TheVariants.{Submit, Batch, Read}
use Rattle.rtgs_http_requests.specs.declared.http_fault.HttpFault.{HttpFault}
use Rattle.rtgs_http_requests.specs.declared.http_fault.HttpFault.TheVariants as fault
use Rattle.rtgs_book.specs.declared.reading.Reading.TheVariants as reading
use Rattle.rtgs_http_requests.proofs.Agreement.{Agree, Equal, IsDetermined, then_determined, then_once}
use Rattle.rtgs_http_requests.proofs.Agreement.{equal_outcome}
use Rattle.rtgs_http_requests.proofs.ContentsOnce.{json_once, content_once, one_posting, one_credit, one_date}
use Rattle.rtgs_http_requests.proofs.ContentsOnce.{one_opening, one_nothing, posting_once, credit_once}
use Rattle.rtgs_http_requests.proofs.Lower.{LowerLaws}
use Rattle.rtgs_http_requests.proofs.OrderBody.{one_order, order_once}
use Rattle.rtgs_http_requests.proofs.Spelt.{code_once, reference_once, date_once, equal_once}

same_as_itself : (answer : Answer) → AreTheSame answer answer
same_as_itself (Ok (Submit submitted)) = refl
same_as_itself (Ok (Batch sender rows)) = (refl, refl)
same_as_itself (Ok (Read read)) = refl
same_as_itself (Err bad) = refl

the_same : (one other : Answer) → Agree Equal one other → Agree AreTheSame one other
the_same one other (inl e) = inl e
the_same one other (inr (inl e)) = inr (inl e)
the_same one other (inr (inr e)) = inr (inr (subst (λ t. AreTheSame one t) e (same_as_itself one)))

-- the value of a body, its content, and what is made of it
spelt_once : {A B : Type 0} (Has : A → Data → Type 0) (next : A → Result B HttpFault → Type 0) (body : List ℕ)
    → ((value : Data) (one other : A) → Has one value → Has other value → one ≡ other)
    → ((content : A) → IsDetermined (next content))
    → IsDetermined (Then (ReadsJson body) (λ value. Then (FindsContent Has value) next))
spelt_once Has next body one_content once =
    then_determined (ReadsJson body) (λ value. Then (FindsContent Has value) next) (json_once body) (λ value.
    then_determined (FindsContent Has value) next (content_once Has one_content value) once)

plainly_once : (body : List ℕ) (asked : Asked) → IsDetermined (AsksPlainly body asked)
plainly_once body asked =
    spelt_once (λ (_ : Unit {0}) given. HasNothing given) (λ (_ : Unit {0}) (answer : Answer). answer ≡ Ok asked) body
    one_nothing
    (equal_once (λ (_ : Unit {0}). Ok asked))

referred_once : (parameter : List ℕ) (answer : List ℕ → Answer)
    → IsDetermined (Then (SpellsReference parameter) (λ reference (outcome : Answer). outcome ≡ answer reference))
referred_once parameter answer =
    then_determined (SpellsReference parameter) (λ reference (outcome : Answer). outcome ≡ answer reference)
    (reference_once parameter) (equal_once answer)

dated_once : LowerLaws → (parameter : List ℕ) (answer : ℕ → Answer)
    → IsDetermined (Then (SpellsDate parameter) (λ date (outcome : Answer). outcome ≡ answer date))
dated_once laws parameter answer =
    then_determined (SpellsDate parameter) (λ date (outcome : Answer). outcome ≡ answer date) (date_once laws parameter)
    (equal_once answer)

day_once : LowerLaws → (body : List ℕ) (answer : ℕ → Answer)
    → IsDetermined (Then (AsksDay body) (λ date (outcome : Answer). outcome ≡ answer date))
day_once laws body answer =
    then_determined (AsksDay body) (λ date (outcome : Answer). outcome ≡ answer date)
    (spelt_once HasDate (λ text. SpellsDate text) body one_date (date_once laws)) (equal_once answer)

opening_once : LowerLaws → (values : List ℕ × Bool) → IsDetermined (SpellsOpening values)
opening_once laws (text, automatic) = dated_once laws text (λ date. Ok (Submit (command.OpenDay (record {
  date = date;
  automatic = automatic;
}))))

withdrawal_once : (caller parameter body : List ℕ) → IsDetermined (MeansBank WithdrawOrder caller parameter body)
withdrawal_once caller parameter body =
    then_determined (SpellsReference parameter) (λ reference. AsksPlainly body
    (Submit (command.Withdraw caller reference))) (reference_once parameter)
    (λ reference. plainly_once body (Submit (command.Withdraw caller reference)))

submitted_once : LowerLaws → (caller : List ℕ) (values : OrderValues) → IsDetermined (SubmitsOrder caller values)
submitted_once laws caller values =
    let answer : NewOrder → Answer = λ order. Ok (Submit (command.Order caller order)) in
    then_determined (SpellsOrder values) (λ order (outcome : Answer). outcome ≡ answer order) (order_once laws values)
    (equal_once answer)

batch_once : LowerLaws → (caller body : List ℕ) (one other : Answer) → AsksBatch caller body one
    → AsksBatch caller body other → Agree AreTheSame one other
batch_once laws caller body (Ok (Batch sender rows)) (Ok (Batch also more)) x y =
    inr (inr (x.0 ∙ sym y.0, laws.rows body rows.items more.items x.1 y.1))
batch_once laws caller body (Ok (Batch sender rows)) (Err (fault.Batch bad)) x y =
    absurd (y.1 (laws.files body rows.items bad x.1 y.0))
batch_once laws caller body (Ok (Batch sender rows)) (Err fault.OutOfMemory) x y = inr (inl refl)
batch_once laws caller body (Ok (Batch sender rows)) (Ok (Submit submitted)) x y = absurd y
batch_once laws caller body (Ok (Batch sender rows)) (Ok (Read read)) x y = absurd y
batch_once laws caller body (Ok (Batch sender rows)) (Err _) x y = absurd y
batch_once laws caller body (Err fault.OutOfMemory) other x y = inl refl
batch_once laws caller body (Err (fault.Batch bad)) (Ok (Batch sender rows)) x y =
    absurd (x.1 (laws.files body rows.items bad y.1 x.0))
batch_once laws caller body (Err (fault.Batch bad)) (Err (fault.Batch worse)) x y =
    inr (inr (ap (λ b. fault.Batch b) (laws.faults body bad worse x.0 y.0 x.1 y.1)))
batch_once laws caller body (Err (fault.Batch bad)) (Err fault.OutOfMemory) x y = inr (inl refl)
batch_once laws caller body (Err (fault.Batch bad)) (Ok (Submit submitted)) x y = absurd y
batch_once laws caller body (Err (fault.Batch bad)) (Ok (Read read)) x y = absurd y
batch_once laws caller body (Err (fault.Batch bad)) (Err _) x y = absurd y
batch_once laws caller body (Ok (Submit submitted)) other x y = absurd x
batch_once laws caller body (Ok (Read read)) other x y = absurd x
batch_once laws caller body (Err _) other x y = absurd x

bank_once : LowerLaws → (route : BankRoute) (caller parameter body : List ℕ) (one other : Answer)
    → MeansBank route caller parameter body one → MeansBank route caller parameter body other
    → Agree AreTheSame one other
bank_once laws SendOrder caller parameter body one other x y =
    the_same one other (spelt_once HasOrder (λ values. SubmitsOrder caller values) body one_order
    (submitted_once laws caller) one other x y)
bank_once laws WithdrawOrder caller parameter body one other x y =
    the_same one other (withdrawal_once caller parameter body one other x y)
bank_once laws SendBatch caller parameter body one other x y = batch_once laws caller body one other x y
bank_once laws ReadOrder caller parameter body one other x y =
    the_same one other (referred_once parameter (λ reference. Ok (Read (reading.Order caller reference))) one other x y)
bank_once laws ReadAccount caller parameter body one other x y = the_same one other (equal_outcome _ one other x y)
bank_once laws ReadQueue caller parameter body one other x y = the_same one other (equal_outcome _ one other x y)
bank_once laws ReadHeld caller parameter body one other x y = the_same one other (equal_outcome _ one other x y)
bank_once laws ReadWaiting caller parameter body one other x y = the_same one other (equal_outcome _ one other x y)
bank_once laws ReadStatement caller parameter body one other x y =
    the_same one other (dated_once laws parameter (λ date. Ok (Read (reading.Statement caller date))) one other x y)

pub fault_same : (bad : HttpFault) → AreTheSame (Err bad) (Err bad)
fault_same bad = refl

operator_once : LowerLaws → (route : OperatorRoute) (parts : Parts) (body : List ℕ) (one other : Answer)
    → MeansOperator route parts body one → MeansOperator route parts body other → Agree AreTheSame one other
operator_once laws Post parts body one other x y =
    the_same one other (spelt_once HasPosting (λ values. IsPostingOf values) body one_posting posting_once one other
    x y)
operator_once laws SetCredit parts body one other x y =
    the_same one other (spelt_once HasCredit (λ values. SpellsCredit values) body one_credit credit_once one other x y)
operator_once laws OpenDay parts body one other x y =
    the_same one other (spelt_once HasOpening (λ values. SpellsOpening values) body one_opening (opening_once laws)
    one other x y)
operator_once laws Resolve parts body one other x y =
    the_same one other (plainly_once body (Submit command.Resolve) one other x y)
operator_once laws CutOff parts body one other x y =
    the_same one other (day_once laws body (λ date. Ok (Submit (command.CutOff date))) one other x y)
operator_once laws CloseDay parts body one other x y =
    the_same one other (day_once laws body (λ date. Ok (Submit (command.CloseDay date))) one other x y)
operator_once laws ReadReport parts body one other x y =
    the_same one other (dated_once laws parts.first (λ date. Ok (Read (reading.Report date))) one other x y)
operator_once laws ReadAccounts parts body one other x y = the_same one other (equal_outcome _ one other x y)
operator_once laws ReadStatus parts body one other x y = the_same one other (equal_outcome _ one other x y)
operator_once laws ReadQueues parts body one other x y = the_same one other (equal_outcome _ one other x y)
operator_once laws ReadOrders parts body one other x y =
    the_same one other (dated_once laws parts.first (λ date. Ok (Read (reading.Orders date))) one other x y)
operator_once laws ReadMarks parts body one other x y =
    the_same one other (dated_once laws parts.first (λ date. Ok (Read (reading.Marks date))) one other x y)
operator_once laws (ForBank route) parts body one other x y =
    then_once AreTheSame fault_same (SpellsCode parts.first) (λ code. MeansBank route code parts.second body)
    (code_once parts.first) (λ code. bank_once laws route code parts.second body) one other x y

pub meant_once : LowerLaws → (caller : Caller) (parts : Parts) (body : List ℕ) (one other : Answer)
    → Means caller parts body one → Means caller parts body other → Agree AreTheSame one other
meant_once laws (admitted.Bank route caller) parts body one other x y =
    bank_once laws route caller parts.first body one other x y
meant_once laws (admitted.Operator route) parts body one other x y =
    operator_once laws route parts body one other x y
