-- What the arguments of a run ask for, from what was found for each argument of a subcommand.
use Rattle.std.specs.Prelude.{◌≡◌, ◌<◌, ◌^◌, ℕ, Bool, true, false, List, [], Option, Some, None, unwrap_or, codes}
use Rattle.std.specs.Borrow.{Bor}
use Rattle.std.specs.Str.Parse.{IsNumeral, digits_value, without_leading_plus}
use Rattle.clap.specs.Words.{Row, Text, first_of, one_of}
use Rattle.rtgs_refusals.specs.Table.{entry_of}
use Rattle.rtgs_refusals.specs.declared.refusal_kind.RefusalKind.{RefusalKind}
use Rattle.rtgs_cli_arguments.specs.declared.invocation.Invocation.{Invocation}
use Rattle.rtgs_cli_arguments.specs.declared.invocation.Invocation.TheVariants.{Run, Refusals}
use Rattle.rtgs_cli_arguments.specs.declared.requests.command_words.CommandWords.{CommandWords}
use Rattle.rtgs_cli_arguments.specs.declared.requests.command_words.CommandWords.TheVariants.{Add, Credit, Post, Open}
use Rattle.rtgs_cli_arguments.specs.declared.requests.command_words.CommandWords.TheVariants.{Resolve}
use Rattle.rtgs_cli_arguments.specs.declared.requests.command_words.CommandWords.TheVariants.{CutOff, Close, Withdraw}
use Rattle.rtgs_cli_arguments.specs.declared.requests.reading_words.ReadingWords.{ReadingWords}
use Rattle.rtgs_cli_arguments.specs.declared.requests.reading_words.ReadingWords.TheVariants.{Order, Account, Accounts}
use Rattle.rtgs_cli_arguments.specs.declared.requests.reading_words.ReadingWords.TheVariants.{Queue, Statement, Report}
use Rattle.rtgs_cli_arguments.specs.declared.requests.reading_words.ReadingWords.TheVariants.{Held, Waiting, Queues}
use Rattle.rtgs_cli_arguments.specs.declared.requests.reading_words.ReadingWords.TheVariants.{Status, Orders, Marks}
use Rattle.rtgs_cli_arguments.specs.declared.requests.request.Request.TheVariants.{Make, Migrate, Submit, Import, Read}
use Rattle.rtgs_cli_arguments.specs.declared.requests.request.Request.TheVariants.{Serve}
use Rattle.rtgs_cli_arguments.specs.requests.Requests.{Words}

-- the word that was given for an argument, or no characters
abbrev pub IsWord : List Row → Text → Bor Text → Type 0
IsWord given argument word = word.now ≡ unwrap_or (first_of argument given) []

-- whether a flag was given: what stands for it is `true`, `false` or nothing
pub record IsFlag (given : List Row) (flag : Text) (is_given : Bool) : Type 0 where
  pub absent : one_of flag given ≡ None → is_given ≡ false
  pub yes : one_of flag given ≡ Some (codes "true") → is_given ≡ true
  pub no : one_of flag given ≡ Some (codes "false") → is_given ≡ false

-- the number of this many bits that was given for an option, in decimal digits, before which a plus may stand
abbrev pub IsNumber : ℕ → List Row → Text → ℕ → Type 0
IsNumber bits given option number = (text : Text) × (one_of option given ≡ Some text)
    × IsNumeral 10 (without_leading_plus text) × (number ≡ digits_value 10 (without_leading_plus text))
    × (number < 2 ^ bits)

-- the words of a command, by the name of its subcommand
abbrev pub IsCommand : Text → List Row → CommandWords → Type 0
IsCommand called given (Add code name key) = (called ≡ codes "add") × IsWord given (codes "code") code
    × IsWord given (codes "name") name × IsWord given (codes "key") key
IsCommand called given (Credit code cents) = (called ≡ codes "credit") × IsWord given (codes "code") code
    × IsWord given (codes "cents") cents
IsCommand called given (Post code reference cents debit) = (called ≡ codes "post") × IsWord given (codes "code") code
    × IsWord given (codes "reference") reference × IsWord given (codes "cents") cents
    × IsFlag given (codes "debit") debit
IsCommand called given (Withdraw code reference) = (called ≡ codes "withdraw") × IsWord given (codes "code") code
    × IsWord given (codes "reference") reference
IsCommand called given (Open date automatic) = (called ≡ codes "open") × IsWord given (codes "date") date
    × IsFlag given (codes "automatic") automatic
IsCommand called given Resolve = called ≡ codes "resolve"
IsCommand called given (CutOff date) = (called ≡ codes "cutoff") × IsWord given (codes "date") date
IsCommand called given (Close date) = (called ≡ codes "close") × IsWord given (codes "date") date

-- the words of a reading, by the name of its subcommand
abbrev pub AreWordsOfReading : Text → List Row → ReadingWords → Type 0
AreWordsOfReading called given (Account code) = (called ≡ codes "account") × IsWord given (codes "code") code
AreWordsOfReading called given Accounts = called ≡ codes "accounts"
AreWordsOfReading called given (Queue code) = (called ≡ codes "queue") × IsWord given (codes "code") code
AreWordsOfReading called given (Held code) = (called ≡ codes "held") × IsWord given (codes "code") code
AreWordsOfReading called given (Waiting code) = (called ≡ codes "waiting") × IsWord given (codes "code") code
AreWordsOfReading called given Queues = called ≡ codes "queues"
AreWordsOfReading called given Status = called ≡ codes "status"
AreWordsOfReading called given (Order code reference) = (called ≡ codes "order") × IsWord given (codes "code") code
    × IsWord given (codes "reference") reference
AreWordsOfReading called given (Statement code date) = (called ≡ codes "statement") × IsWord given (codes "code") code
    × IsWord given (codes "date") date
AreWordsOfReading called given (Report date) = (called ≡ codes "report") × IsWord given (codes "date") date
AreWordsOfReading called given (Orders date) = (called ≡ codes "orders") × IsWord given (codes "date") date
AreWordsOfReading called given (Marks date) = (called ≡ codes "marks") × IsWord given (codes "date") date

-- the words of a run, by the name of its subcommand
abbrev pub AreWordsOfRun : Text → List Row → Words → Type 0
AreWordsOfRun called given (Make file) = (called ≡ codes "init") × IsWord given (codes "file") file
AreWordsOfRun called given (Migrate file) = (called ≡ codes "migrate") × IsWord given (codes "file") file
AreWordsOfRun called given (Submit file command) = IsWord given (codes "file") file × IsCommand called given command
AreWordsOfRun called given (Import file sender orders) = (called ≡ codes "import") × IsWord given (codes "file") file
    × IsWord given (codes "code") sender × IsWord given (codes "orders") orders
AreWordsOfRun called given (Read file reading) = IsWord given (codes "file") file × AreWordsOfReading called given
    reading
AreWordsOfRun called given (Serve file port count operator) = (called ≡ codes "serve")
    × IsWord given (codes "file") file × IsNumber 16 given (codes "port") port × IsNumber 32 given (codes "count") count
    × IsWord given (codes "operator-key") operator

-- the words that are asked for, or none where there are none
abbrev pub IsChosen : {W : Type 0} → (W → Type 0) → Option W → Type 0
IsChosen IsMeant (Some words) = IsMeant words
IsChosen {W} IsMeant None = (words : W) → ¬ IsMeant words

-- the refusal whose number was given, or none where no number was
abbrev pub NamesRefusal : List Row → Option RefusalKind → Type 0
NamesRefusal given (Some kind) = IsNumber 8 given (codes "number") (entry_of kind).number
NamesRefusal given None = (number : ℕ) → ¬ IsNumber 8 given (codes "number") number

-- what is asked for, by the name of its subcommand
abbrev pub InvokesBy : Text → List Row → Invocation → Type 0
InvokesBy called given (Run words) = AreWordsOfRun called given words
InvokesBy called given (Refusals which) = (called ≡ codes "explain") × NamesRefusal given which

-- what is asked for, by the subcommand that was met, if any
abbrev pub Invokes : Option (Text × List Row) → Option Invocation → Type 0
Invokes None asked = asked ≡ None
Invokes (Some met) asked = IsChosen (InvokesBy met.0 met.1) asked
