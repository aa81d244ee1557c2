-- What a run asks of a book.
use Rattle.std.specs.Prelude.{◌≡◌, Result, Ok}
use Rattle.std.specs.Borrow.{Bor}
use Rattle.std.specs.Result.{result_map_both}
use Rattle.clap.specs.Words.{Text}
use Rattle.rtgs_money.specs.declared.lexical.Lexical.{Lexical}
use Rattle.rtgs_book.specs.declared.command.Command.{Command}
use Rattle.rtgs_book.specs.declared.command.Command.TheVariants as command
use Rattle.rtgs_book.specs.declared.reading.Reading.{Reading}
use Rattle.rtgs_book.specs.declared.reading.Reading.TheVariants as reading
use Rattle.rtgs_cli_arguments.specs.declared.requests.command_words.CommandWords.{CommandWords}
use Rattle.rtgs_cli_arguments.specs.declared.requests.command_words.CommandWords.TheVariants.{Add, Credit, Post, Open}
use Rattle.rtgs_cli_arguments.specs.declared.requests.command_words.CommandWords.TheVariants.{Resolve}
use Rattle.rtgs_cli_arguments.specs.declared.requests.command_words.CommandWords.TheVariants.{CutOff, Close, Withdraw}
use Rattle.rtgs_cli_arguments.specs.declared.requests.reading_words.ReadingWords.{ReadingWords}
use Rattle.rtgs_cli_arguments.specs.declared.requests.reading_words.ReadingWords.TheVariants.{Order, Account, Accounts}
use Rattle.rtgs_cli_arguments.specs.declared.requests.reading_words.ReadingWords.TheVariants.{Queue, Statement, Report}
use Rattle.rtgs_cli_arguments.specs.declared.requests.reading_words.ReadingWords.TheVariants.{Held, Waiting, Queues}
use Rattle.rtgs_cli_arguments.specs.declared.requests.reading_words.ReadingWords.TheVariants.{Status, Orders, Marks}
use Rattle.rtgs_cli_arguments.specs.declared.requests.request.Request.{Request}
use Rattle.rtgs_cli_arguments.specs.declared.requests.request.Request.TheVariants.{Make, Migrate, Submit, Import, Read}
use Rattle.rtgs_cli_arguments.specs.declared.requests.request.Request.TheVariants.{Serve}
use Rattle.rtgs_cli_arguments.specs.requests.Words.{ReadsAdd, ReadsCode, ReadsCredit, ReadsPost, ReadsDate, ReadsDay}
use Rattle.rtgs_cli_arguments.specs.requests.Words.{opens_day}
use Rattle.rtgs_cli_arguments.specs.requests.Words.{ReadsKey, ReadsOrderName, ReadsStatement}

-- a request in words that have not been judged
abbrev pub Words : Type 0
Words = Request CommandWords ReadingWords (Bor Text) (Bor Text)

-- a request, each word of which was in its form: of the operator's key the digest
abbrev pub JudgedRequest : Type 0
JudgedRequest = Request Command Reading Text Text

-- What is read like this is made into the result. Where a word is not of its form, that is the result.
abbrev pub IsMadeOf : {A B : Type 0} → (Result A Lexical → Type 0) → (A → B) → Result B Lexical → Type 0
IsMadeOf {A} IsRead made result = (read : Result A Lexical) × IsRead read
    × (result ≡ result_map_both made (λ form. form) read)

-- the command that the words spell
abbrev pub ReadsCommand : CommandWords → Result Command Lexical → Type 0
ReadsCommand (Add code name key) result = ReadsAdd code.now name.now key.now result
ReadsCommand (Credit code cents) result = ReadsCredit code.now cents.now result
ReadsCommand (Post code reference cents debit) result = ReadsPost code.now reference.now cents.now debit result
ReadsCommand (Withdraw code reference) result = IsMadeOf (ReadsOrderName code.now reference.now)
    (λ order. command.Withdraw order.0 order.1) result
ReadsCommand (Open date automatic) result = ReadsDay (opens_day automatic) date.now result
ReadsCommand Resolve result = result ≡ Ok command.Resolve
ReadsCommand (CutOff date) result = ReadsDay command.CutOff date.now result
ReadsCommand (Close date) result = ReadsDay command.CloseDay date.now result

-- the reading that the words spell
abbrev pub ReadsReading : ReadingWords → Result Reading Lexical → Type 0
ReadsReading (Order code reference) result = IsMadeOf (ReadsOrderName code.now reference.now)
    (λ order. reading.Order order.0 order.1) result
ReadsReading (Account code) result = IsMadeOf (ReadsCode code.now) (λ code. reading.Account code) result
ReadsReading Accounts result = result ≡ Ok reading.Accounts
ReadsReading (Queue code) result = IsMadeOf (ReadsCode code.now) (λ code. reading.Queue code) result
ReadsReading (Held code) result = IsMadeOf (ReadsCode code.now) (λ code. reading.Held code) result
ReadsReading (Waiting code) result = IsMadeOf (ReadsCode code.now) (λ code. reading.Waiting code) result
ReadsReading Queues result = result ≡ Ok reading.Queues
ReadsReading Status result = result ≡ Ok reading.Status
ReadsReading (Statement code date) result = IsMadeOf (ReadsStatement code.now date.now)
    (λ read. reading.Statement read.0 read.1) result
ReadsReading (Report date) result = IsMadeOf (ReadsDate date.now) (λ day. reading.Report day) result
ReadsReading (Orders date) result = IsMadeOf (ReadsDate date.now) (λ day. reading.Orders day) result
ReadsReading (Marks date) result = IsMadeOf (ReadsDate date.now) (λ day. reading.Marks day) result

-- what the words ask for, or the refusal of the first word that is not of its form, and nothing else
abbrev pub ReadsRequest : Words → Result JudgedRequest Lexical → Type 0
ReadsRequest (Make file) result = result ≡ Ok (Make file)
ReadsRequest (Migrate file) result = result ≡ Ok (Migrate file)
ReadsRequest (Submit file spelt) result = IsMadeOf (ReadsCommand spelt) (λ c. Submit file c) result
ReadsRequest (Import file sender orders) result = IsMadeOf (ReadsCode sender.now) (λ sender. Import file sender
    orders) result
ReadsRequest (Read file spelt) result = IsMadeOf (ReadsReading spelt) (λ reading. Read file reading) result
ReadsRequest (Serve file port count operator) result = IsMadeOf (ReadsKey operator.now)
    (λ operator. Serve file port count operator) result
