-- What an admitted caller asks for. The path's parameters are judged first, from left to right, then the body.
use Rattle.std.specs.Prelude.{◌≡◌, ◌≢◌, ⊤, ℕ, ℤ, Bool, List, Result, Ok, Err}
use Rattle.rtgs_money.specs.Amounts.{IsPostingAmount, IsCredit}
use Rattle.rtgs_money.specs.Forms.{IsCode, IsReference}
use Rattle.rtgs_money.specs.declared.lexical.Lexical.TheVariants.{BadCode, BadReference, BadAmount}
use Rattle.rtgs_book.specs.declared.command.Command.TheVariants as command
use Rattle.rtgs_order_files.specs.OrderFile.{IsOrderFile, IsFaultOf}
use Rattle.rtgs_order_files.specs.declared.batch_fault.BatchFault.TheVariants as batch
use Rattle.rtgs_http_requests.specs.declared.heads.bank_route.BankRoute.{BankRoute}
use Rattle.rtgs_http_requests.specs.declared.heads.bank_route.BankRoute.TheVariants.{SendOrder, WithdrawOrder}
use Rattle.rtgs_http_requests.specs.declared.heads.bank_route.BankRoute.TheVariants.{SendBatch}
use Rattle.rtgs_http_requests.specs.declared.heads.bank_route.BankRoute.TheVariants.{ReadOrder, ReadAccount, ReadQueue}
use Rattle.rtgs_http_requests.specs.declared.heads.bank_route.BankRoute.TheVariants.{ReadHeld, ReadWaiting}
use Rattle.rtgs_http_requests.specs.declared.heads.bank_route.BankRoute.TheVariants.{ReadStatement}
use Rattle.rtgs_http_requests.specs.declared.heads.operator_route.OperatorRoute.{OperatorRoute}
use Rattle.rtgs_http_requests.specs.declared.heads.operator_route.OperatorRoute.TheVariants.{Post, SetCredit, OpenDay}
use Rattle.rtgs_http_requests.specs.declared.heads.operator_route.OperatorRoute.TheVariants.{Resolve, CutOff, CloseDay}
use Rattle.rtgs_http_requests.specs.declared.heads.operator_route.OperatorRoute.TheVariants.{ReadReport, ReadAccounts}
use Rattle.rtgs_http_requests.specs.declared.heads.operator_route.OperatorRoute.TheVariants.{ReadStatus, ReadQueues}
use Rattle.rtgs_http_requests.specs.declared.heads.operator_route.OperatorRoute.TheVariants.{ReadOrders, ReadMarks}
use Rattle.rtgs_http_requests.specs.declared.heads.operator_route.OperatorRoute.TheVariants.{ForBank}
use Rattle.rtgs_http_requests.specs.declared.admitted.Admitted.TheVariants as admitted
use Rattle.rtgs_http_requests.specs.declared.asked.Asked.{Asked}
use Rattle.rtgs_http_requests.specs.declared.asked.Asked.TheVariants.{Submit, Batch, Read}
use Rattle.rtgs_http_requests.specs.declared.http_fault.HttpFault.{HttpFault}
use Rattle.rtgs_http_requests.specs.declared.http_fault.HttpFault.TheVariants as fault
use Rattle.rtgs_book.specs.declared.reading.Reading.{Reading}
use Rattle.rtgs_book.specs.declared.reading.Reading.TheVariants as reading
use Rattle.rtgs_http_requests.specs.heads.Parameters.{Parts}
use Rattle.rtgs_http_requests.specs.Bodies.{ReadsJson}
use Rattle.rtgs_http_requests.specs.Callers.{Caller}
use Rattle.rtgs_http_requests.specs.Contents.{FindsContent, HasPosting, HasCredit, HasDate, HasOpening, HasNothing}
use Rattle.rtgs_http_requests.specs.OrderBody.{OrderValues, HasOrder, SpellsOrder}
use Rattle.rtgs_http_requests.specs.Spelling.{SpellsCode, SpellsReference, SpellsDate}
use Rattle.rtgs_http_requests.specs.Steps.{Then}

-- what a request may come to
abbrev pub Answer : Type 0
Answer = Result Asked HttpFault

-- the posting with these values, judged in this order
pub record IsPostingOf (values : List ℕ × List ℕ × ℤ) (answer : Answer) : Type 0 where
  pub found : IsCode values.0 → IsReference values.1 → IsPostingAmount values.2
      → answer ≡ Ok (Submit (command.Post values.0 values.1 values.2))
  pub bad_code : ¬ IsCode values.0 → answer ≡ Err (fault.Form BadCode)
  pub bad_reference : IsCode values.0 → ¬ IsReference values.1 → answer ≡ Err (fault.Form BadReference)
  pub bad_amount : IsCode values.0 → IsReference values.1 → ¬ IsPostingAmount values.2
      → answer ≡ Err (fault.Form BadAmount)

-- the limit with these values, judged in this order
pub record SpellsCredit (values : List ℕ × ℕ) (answer : Answer) : Type 0 where
  pub found : IsCode values.0 → IsCredit values.1 → answer ≡ Ok (Submit (command.SetCredit values.0 values.1))
  pub bad_code : ¬ IsCode values.0 → answer ≡ Err (fault.Form BadCode)
  pub bad_amount : IsCode values.0 → ¬ IsCredit values.1 → answer ≡ Err (fault.Form BadAmount)

-- The body is an object without members, and then this is asked.
abbrev pub AsksPlainly : List ℕ → Asked → Answer → Type 0
AsksPlainly body asked =
    Then (ReadsJson body) (λ value.
    Then (FindsContent (λ (_ : Unit {0}) given. HasNothing given) value) (λ _ answer. answer ≡ Ok asked))

-- the order of a caller with these values
abbrev pub SubmitsOrder : List ℕ → OrderValues → Answer → Type 0
SubmitsOrder caller values =
    Then (SpellsOrder values) (λ order answer. answer ≡ Ok (Submit (command.Order caller order)))

abbrev pub AsksOrder : List ℕ → List ℕ → Answer → Type 0
AsksOrder caller body =
    Then (ReadsJson body) (λ value. Then (FindsContent HasOrder value) (λ values. SubmitsOrder caller values))

abbrev pub AsksWithdrawal : List ℕ → List ℕ → List ℕ → Answer → Type 0
AsksWithdrawal caller parameter body =
    Then (SpellsReference parameter) (λ reference. AsksPlainly body (Submit (command.Withdraw caller reference)))

-- the rows of the order file that the body is, or its fault
abbrev pub AsksBatch : List ℕ → List ℕ → Answer → Type 0
AsksBatch caller body (Ok (Batch sender rows)) = (sender ≡ caller) × IsOrderFile body rows.items
AsksBatch caller body (Ok (Submit submitted)) = ⊥
AsksBatch caller body (Ok (Read read)) = ⊥
AsksBatch caller body (Err (fault.Batch bad)) = IsFaultOf body bad × (bad ≢ batch.OutOfMemory)
AsksBatch caller body (Err fault.OutOfMemory) = ⊤
AsksBatch caller body (Err _) = ⊥

abbrev pub AsksOrderName : List ℕ → List ℕ → Answer → Type 0
AsksOrderName caller parameter =
    Then (SpellsReference parameter) (λ reference answer. answer ≡ Ok (Read (reading.Order caller reference)))

-- the reading of the date that the parameter is
abbrev pub AsksOfDate : (ℕ → Reading) → List ℕ → Answer → Type 0
AsksOfDate reading_of parameter = Then (SpellsDate parameter) (λ date answer. answer ≡ Ok (Read (reading_of date)))

abbrev pub AsksStatement : List ℕ → List ℕ → Answer → Type 0
AsksStatement caller = AsksOfDate (λ date. reading.Statement caller date)

abbrev pub AsksPosting : List ℕ → Answer → Type 0
AsksPosting body = Then (ReadsJson body) (λ value. Then (FindsContent HasPosting value) (λ values. IsPostingOf values))

abbrev pub AsksCredit : List ℕ → Answer → Type 0
AsksCredit body = Then (ReadsJson body) (λ value. Then (FindsContent HasCredit value) (λ values. SpellsCredit values))

abbrev pub AsksDay : List ℕ → Result ℕ HttpFault → Type 0
AsksDay body = Then (ReadsJson body) (λ value. Then (FindsContent HasDate value) (λ text. SpellsDate text))

-- the opening of the day of this date, with this choice
abbrev pub SpellsOpening : List ℕ × Bool → Answer → Type 0
SpellsOpening (text, automatic) =
    Then (SpellsDate text) (λ date answer. answer ≡ Ok (Submit (command.OpenDay (record {
      date = date;
      automatic = automatic;
    }))))

abbrev pub AsksOpening : List ℕ → Answer → Type 0
AsksOpening body =
    Then (ReadsJson body) (λ value. Then (FindsContent HasOpening value) (λ values. SpellsOpening values))

abbrev pub AsksResolution : List ℕ → Answer → Type 0
AsksResolution body = AsksPlainly body (Submit command.Resolve)

-- what a participant asks for
abbrev pub MeansBank : BankRoute → List ℕ → List ℕ → List ℕ → Answer → Type 0
MeansBank SendOrder caller parameter body answer = AsksOrder caller body answer
MeansBank WithdrawOrder caller parameter body answer = AsksWithdrawal caller parameter body answer
MeansBank SendBatch caller parameter body answer = AsksBatch caller body answer
MeansBank ReadOrder caller parameter body answer = AsksOrderName caller parameter answer
MeansBank ReadAccount caller parameter body answer = answer ≡ Ok (Read (reading.Account caller))
MeansBank ReadQueue caller parameter body answer = answer ≡ Ok (Read (reading.Queue caller))
MeansBank ReadHeld caller parameter body answer = answer ≡ Ok (Read (reading.Held caller))
MeansBank ReadWaiting caller parameter body answer = answer ≡ Ok (Read (reading.Waiting caller))
MeansBank ReadStatement caller parameter body answer = AsksStatement caller parameter answer

-- what the operator asks for; in a bank's name, what the bank asks for with what is left of the path
abbrev pub MeansOperator : OperatorRoute → Parts → List ℕ → Answer → Type 0
MeansOperator Post parts body answer = AsksPosting body answer
MeansOperator SetCredit parts body answer = AsksCredit body answer
MeansOperator OpenDay parts body answer = AsksOpening body answer
MeansOperator Resolve parts body answer = AsksResolution body answer
MeansOperator CutOff parts body answer =
    Then (AsksDay body) (λ date given. given ≡ Ok (Submit (command.CutOff date))) answer
MeansOperator CloseDay parts body answer =
    Then (AsksDay body) (λ date given. given ≡ Ok (Submit (command.CloseDay date))) answer
MeansOperator ReadReport parts body answer = AsksOfDate (λ date. reading.Report date) parts.first answer
MeansOperator ReadAccounts parts body answer = answer ≡ Ok (Read reading.Accounts)
MeansOperator ReadStatus parts body answer = answer ≡ Ok (Read reading.Status)
MeansOperator ReadQueues parts body answer = answer ≡ Ok (Read reading.Queues)
MeansOperator ReadOrders parts body answer = AsksOfDate (λ date. reading.Orders date) parts.first answer
MeansOperator ReadMarks parts body answer = AsksOfDate (λ date. reading.Marks date) parts.first answer
MeansOperator (ForBank route) parts body answer =
    Then (SpellsCode parts.first) (λ code. MeansBank route code parts.second body) answer

-- what an admitted caller asks for
abbrev pub Means : Caller → Parts → List ℕ → Answer → Type 0
Means (admitted.Bank route caller) parts body answer = MeansBank route caller parts.first body answer
Means (admitted.Operator route) parts body answer = MeansOperator route parts body answer
