-- Each body and each parameter means something, or has a fault.
use Rattle.std.proofs.Common.{◌≡◌, ◌⊎◌, inl, inr, ℕ, ℤ, Bool, List, Option, Some, None, Result, Ok, Err, refl, IsUtf8}
use Rattle.std.proofs.Common.{Global}
use Rattle.serde_json.specs.Data.{Data}
use Rattle.serde_json.specs.Read.{read}
use Rattle.rtgs_money.specs.Amounts.{IsPostingAmount, IsCredit}
use Rattle.rtgs_money.specs.Forms.{IsCode, IsReference, is_code, is_reference}
use Rattle.rtgs_money.specs.declared.lexical.Lexical.TheVariants.{BadCode, BadReference, BadAmount}
use Rattle.rtgs_book.specs.declared.command.Command.TheVariants as command
use Rattle.rtgs_book.specs.declared.new_order.NewOrder.{NewOrder}
use Rattle.rtgs_http_requests.specs.heads.Parameters.{Parts}
use Rattle.rtgs_http_requests.specs.declared.heads.bank_route.BankRoute.{BankRoute}
use Rattle.rtgs_http_requests.specs.declared.heads.bank_route.BankRoute.TheVariants.{SendOrder, WithdrawOrder}
use Rattle.rtgs_http_requests.specs.declared.heads.bank_route.BankRoute.TheVariants.{SendBatch}
use Rattle.rtgs_http_requests.specs.declared.heads.bank_route.BankRoute.TheVariants.{ReadOrder, ReadAccount, ReadQueue}
use Rattle.rtgs_http_requests.specs.declared.heads.bank_route.BankRoute.TheVariants.{ReadHeld, ReadWaiting}
use Rattle.rtgs_http_requests.specs.declared.heads.bank_route.BankRoute.TheVariants.{ReadStatement}
use Rattle.rtgs_http_requests.specs.declared.heads.operator_route.OperatorRoute.{OperatorRoute}
use Rattle.rtgs_http_requests.specs.declared.heads.operator_route.OperatorRoute.TheVariants.{Post, SetCredit, OpenDay}
use Rattle.rtgs_http_requests.specs.declared.heads.operator_route.OperatorRoute.TheVariants.{Resolve}
use Rattle.rtgs_http_requests.specs.declared.heads.operator_route.OperatorRoute.TheVariants.{CutOff, CloseDay}
use Rattle.rtgs_http_requests.specs.declared.heads.operator_route.OperatorRoute.TheVariants.{ReadReport}
use Rattle.rtgs_http_requests.specs.declared.heads.operator_route.OperatorRoute.TheVariants.{ReadAccounts}
use Rattle.rtgs_http_requests.specs.declared.heads.operator_route.OperatorRoute.TheVariants.{ReadStatus, ReadQueues}
use Rattle.rtgs_http_requests.specs.declared.heads.operator_route.OperatorRoute.TheVariants.{ReadOrders, ReadMarks}
use Rattle.rtgs_http_requests.specs.declared.heads.operator_route.OperatorRoute.TheVariants.{ForBank}
use Rattle.rtgs_http_requests.specs.Bodies.{ReadsJson}
use Rattle.rtgs_http_requests.specs.Callers.{Caller}
use Rattle.rtgs_http_requests.specs.Contents.{FindsContent, HasPosting, HasCredit, HasDate, HasOpening, HasNothing}
use Rattle.rtgs_http_requests.specs.Meaning.{Answer, AsksDay, AsksPlainly, Means, MeansBank, MeansOperator}
use Rattle.rtgs_http_requests.specs.Meaning.{SubmitsOrder, IsPostingOf, SpellsCredit, SpellsOpening}
use Rattle.rtgs_http_requests.specs.OrderBody.{OrderValues, HasOrder, SpellsOrder}
use Rattle.rtgs_http_requests.specs.Spelling.{SpellsCode, SpellsReference, SpellsDate}
use Rattle.rtgs_http_requests.specs.Steps.{Then, HasAnswer}
use Rattle.rtgs_http_requests.specs.declared.admitted.Admitted.TheVariants as admitted
use Rattle.rtgs_http_requests.specs.declared.asked.Asked.{Asked}
use Rattle.rtgs_http_requests.specs.declared.asked.Asked.TheVariants.{Submit, Read}
use Rattle.rtgs_http_requests.specs.declared.http_fault.HttpFault.{HttpFault}
use Rattle.rtgs_http_requests.specs.declared.http_fault.HttpFault.TheVariants as fault
use Rattle.rtgs_book.specs.declared.reading.Reading.TheVariants as reading
use Rattle.rtgs_http_requests.proofs.Answered.{then_answered, outcome_answered, value_answered}
use Rattle.rtgs_http_requests.proofs.Decisions.{truth, credit, posting}
use Rattle.rtgs_http_requests.proofs.FilesAnswered.{file_answered}
use Rattle.rtgs_http_requests.proofs.OrderBody.{order_answered}
use Rattle.rtgs_http_requests.proofs.Spelt.{code_answered, reference_answered, date_answered}

-- ---- values of bodies

abbrev Spells : List ℕ → Data → Type 0
Spells body value = IsUtf8 body × (read body ≡ Some value)

no_json : (body : List ℕ) (value : Option Data) → read body ≡ value → ((given : Data) → ¬ Spells body given)
    → IsUtf8 body → read body ≡ None
no_json body None e none text = e
no_json body (Some value) e none text = absurd (none value (text, e))

json_answered : (body : List ℕ) → HasAnswer (ReadsJson body)
json_answered body =
    outcome_answered (Spells body) fault.BadJson (ReadsJson body) (λ e. cc) (λ value has. has)
    (λ none text. no_json body (read body) refl none text)

content_answered : {A : Type 0} (Has : A → Data → Type 0) (value : Data) → HasAnswer (FindsContent Has value)
content_answered Has value =
    outcome_answered (λ content. Has content value) fault.WrongFields (FindsContent Has value) (λ e. cc) (λ content has.
    has)
    (λ none. none)

-- the value of a body, its content, and what is made of it
spelt_answered : {A B : Type 0} (Has : A → Data → Type 0) (next : A → Result B HttpFault → Type 0) (body : List ℕ)
    → ((content : A) → HasAnswer (next content)) → HasAnswer
    (Then (ReadsJson body) (λ value. Then (FindsContent Has value) next))
spelt_answered Has next body go =
    then_answered (ReadsJson body) (λ value. Then (FindsContent Has value) next) (json_answered body) (λ value.
    then_answered (FindsContent Has value) next (content_answered Has value) go)

-- ---- what values spell

posting_answered : (values : List ℕ × List ℕ × ℤ) → HasAnswer (IsPostingOf values)
posting_answered values none = by (truth (is_code values.0)) (truth (is_reference values.1)) (posting values.2)
  where
    by : IsCode values.0 ⊎ (¬ IsCode values.0) → IsReference values.1 ⊎ (¬ IsReference values.1)
        → IsPostingAmount values.2 ⊎ (¬ IsPostingAmount values.2) → ⊥
    by (inl t) (inl r) (inl a) =
        let clash = none (Ok (Submit (command.Post values.0 values.1 values.2))) (record {
          found = λ _ _ _. refl;
          bad_code = λ x. absurd (x t);
          bad_reference = λ _ x. absurd (x r);
          bad_amount = λ _ _ x. absurd (x a);
        }) in
        cc
    by (inl t) (inl r) (inr a) =
        let clash = none (Err (fault.Form BadAmount)) (record {
          found = λ _ _ x. absurd (a x);
          bad_code = λ x. absurd (x t);
          bad_reference = λ _ x. absurd (x r);
          bad_amount = λ _ _ _. refl;
        }) in
        cc
    by (inl t) (inr r) _ =
        let clash = none (Err (fault.Form BadReference)) (record {
          found = λ _ x _. absurd (r x);
          bad_code = λ x. absurd (x t);
          bad_reference = λ _ _. refl;
          bad_amount = λ _ x _. absurd (r x);
        }) in
        cc
    by (inr t) _ _ =
        let clash = none (Err (fault.Form BadCode)) (record {
          found = λ x _ _. absurd (t x);
          bad_code = λ _. refl;
          bad_reference = λ x _. absurd (t x);
          bad_amount = λ x _ _. absurd (t x);
        }) in
        cc

credit_answered : (values : List ℕ × ℕ) → HasAnswer (SpellsCredit values)
credit_answered values none = by (truth (is_code values.0)) (credit values.1)
  where
    by : IsCode values.0 ⊎ (¬ IsCode values.0) → IsCredit values.1 ⊎ (¬ IsCredit values.1) → ⊥
    by (inl t) (inl a) =
        let clash = none (Ok (Submit (command.SetCredit values.0 values.1))) (record {
          found = λ _ _. refl;
          bad_code = λ x. absurd (x t);
          bad_amount = λ _ x. absurd (x a);
        }) in
        cc
    by (inl t) (inr a) =
        let clash = none (Err (fault.Form BadAmount)) (record {
          found = λ _ x. absurd (a x);
          bad_code = λ x. absurd (x t);
          bad_amount = λ _ _. refl;
        }) in
        cc
    by (inr t) _ =
        let clash = none (Err (fault.Form BadCode)) (record {
          found = λ x _. absurd (t x);
          bad_code = λ _. refl;
          bad_amount = λ x _. absurd (t x);
        }) in
        cc

-- ---- what callers mean

plainly_answered : (body : List ℕ) (asked : Asked) → HasAnswer (AsksPlainly body asked)
plainly_answered body asked =
    spelt_answered (λ (_ : Unit {0}) given. HasNothing given) (λ (_ : Unit {0}) (answer : Answer). answer ≡ Ok asked)
    body (λ _. value_answered asked)

day_answered : (body : List ℕ) (asked : ℕ → Asked) → HasAnswer
    (Then (AsksDay body) (λ date (outcome : Answer). outcome ≡ Ok (asked date)))
day_answered body asked =
    then_answered (AsksDay body) (λ date (outcome : Answer). outcome ≡ Ok (asked date))
    (spelt_answered HasDate (λ text. SpellsDate text) body date_answered) (λ date. value_answered (asked date))

dated_answered : (parameter : List ℕ) (asked : ℕ → Asked) → HasAnswer
    (Then (SpellsDate parameter) (λ date (outcome : Answer). outcome ≡ Ok (asked date)))
dated_answered parameter asked =
    then_answered (SpellsDate parameter) (λ date (outcome : Answer). outcome ≡ Ok (asked date))
    (date_answered parameter)
    (λ date. value_answered (asked date))

opening_answered : (values : List ℕ × Bool) → HasAnswer (SpellsOpening values)
opening_answered (text, automatic) = dated_answered text (λ date. Submit (command.OpenDay (record {
  date = date;
  automatic = automatic;
})))

referred_answered : (parameter : List ℕ) (asked : List ℕ → Asked)
    → HasAnswer (Then (SpellsReference parameter) (λ reference (outcome : Answer). outcome ≡ Ok (asked reference)))
referred_answered parameter asked =
    then_answered (SpellsReference parameter) (λ reference (outcome : Answer). outcome ≡ Ok (asked reference))
    (reference_answered parameter)
    (λ reference. value_answered (asked reference))

withdrawal_answered : (caller parameter body : List ℕ) → HasAnswer (MeansBank WithdrawOrder caller parameter body)
withdrawal_answered caller parameter body =
    then_answered (SpellsReference parameter) (λ reference. AsksPlainly body
    (Submit (command.Withdraw caller reference))) (reference_answered parameter)
    (λ reference. plainly_answered body (Submit (command.Withdraw caller reference)))

submitted_answered : (caller : List ℕ) (values : OrderValues) → HasAnswer (SubmitsOrder caller values)
submitted_answered caller values =
    let asked : NewOrder → Asked = λ order. Submit (command.Order caller order) in
    then_answered (SpellsOrder values) (λ order (answer : Answer). answer ≡ Ok (asked order)) (order_answered values)
    (λ order. value_answered (asked order))

bank_answered : Global → (route : BankRoute) (caller parameter body : List ℕ)
    → HasAnswer (MeansBank route caller parameter body)
bank_answered alloc SendOrder caller parameter body = spelt_answered HasOrder (λ values. SubmitsOrder caller values)
    body (submitted_answered caller)
bank_answered alloc WithdrawOrder caller parameter body = withdrawal_answered caller parameter body
bank_answered alloc SendBatch caller parameter body = file_answered alloc caller body
bank_answered alloc ReadOrder caller parameter body = referred_answered parameter
    (λ reference. Read (reading.Order caller reference))
bank_answered alloc ReadAccount caller parameter body = value_answered (Read (reading.Account caller))
bank_answered alloc ReadQueue caller parameter body = value_answered (Read (reading.Queue caller))
bank_answered alloc ReadHeld caller parameter body = value_answered (Read (reading.Held caller))
bank_answered alloc ReadWaiting caller parameter body = value_answered (Read (reading.Waiting caller))
bank_answered alloc ReadStatement caller parameter body = dated_answered parameter
    (λ date. Read (reading.Statement caller date))

operator_answered : Global → (route : OperatorRoute) (parts : Parts) (body : List ℕ)
    → HasAnswer (MeansOperator route parts body)
operator_answered alloc Post parts body = spelt_answered HasPosting (λ values. IsPostingOf values) body posting_answered
operator_answered alloc SetCredit parts body = spelt_answered HasCredit (λ values. SpellsCredit values) body
    credit_answered
operator_answered alloc OpenDay parts body = spelt_answered HasOpening (λ values. SpellsOpening values) body
    opening_answered
operator_answered alloc Resolve parts body = plainly_answered body (Submit command.Resolve)
operator_answered alloc CutOff parts body = day_answered body (λ date. Submit (command.CutOff date))
operator_answered alloc CloseDay parts body = day_answered body (λ date. Submit (command.CloseDay date))
operator_answered alloc ReadReport parts body = dated_answered parts.first (λ date. Read (reading.Report date))
operator_answered alloc ReadAccounts parts body = value_answered (Read reading.Accounts)
operator_answered alloc ReadStatus parts body = value_answered (Read reading.Status)
operator_answered alloc ReadQueues parts body = value_answered (Read reading.Queues)
operator_answered alloc ReadOrders parts body = dated_answered parts.first (λ date. Read (reading.Orders date))
operator_answered alloc ReadMarks parts body = dated_answered parts.first (λ date. Read (reading.Marks date))
operator_answered alloc (ForBank route) parts body =
    then_answered (SpellsCode parts.first) (λ code. MeansBank route code parts.second body) (code_answered parts.first)
    (λ code. bank_answered alloc route code parts.second body)

pub meaning_answered : Global → (caller : Caller) (parts : Parts) (body : List ℕ) → HasAnswer (Means caller parts body)
meaning_answered alloc (admitted.Bank route caller) parts body = bank_answered alloc route caller parts.first body
meaning_answered alloc (admitted.Operator route) parts body = operator_answered alloc route parts body
