-- Only a server is asked for under its name.
use Rattle.std.proofs.Common.{◌≡◌, ◌⊎◌, inl, inr, refl, ℕ, List, false, true, codes}
use Rattle.std.proofs.lemmas.Slice.Eq.{bytes_eq-Decides}
use Rattle.std.specs.Str.{bytes_eq}
use Rattle.clap.specs.Words.{Row, Text}
use Rattle.rtgs_cli_arguments.specs.declared.requests.command_words.CommandWords.{CommandWords}
use Rattle.rtgs_cli_arguments.specs.declared.requests.command_words.CommandWords.TheVariants.{Add, Credit, Post, Open}
use Rattle.rtgs_cli_arguments.specs.declared.requests.command_words.CommandWords.TheVariants.{Resolve}
use Rattle.rtgs_cli_arguments.specs.declared.requests.command_words.CommandWords.TheVariants.{CutOff, Close, Withdraw}
use Rattle.rtgs_cli_arguments.specs.declared.requests.reading_words.ReadingWords.{ReadingWords}
use Rattle.rtgs_cli_arguments.specs.declared.requests.reading_words.ReadingWords.TheVariants.{Order, Account, Accounts}
use Rattle.rtgs_cli_arguments.specs.declared.requests.reading_words.ReadingWords.TheVariants.{Queue, Statement, Report}
use Rattle.rtgs_cli_arguments.specs.declared.requests.reading_words.ReadingWords.TheVariants.{Held, Waiting, Queues}
use Rattle.rtgs_cli_arguments.specs.declared.requests.reading_words.ReadingWords.TheVariants.{Status, Orders, Marks}
use Rattle.rtgs_cli_arguments.specs.declared.requests.request.Request.TheVariants.{Make, Migrate, Submit, Import, Read}
use Rattle.rtgs_cli_arguments.specs.declared.requests.request.Request.TheVariants.{Serve}
use Rattle.rtgs_cli_arguments.specs.requests.Requests.{Words}
use Rattle.rtgs_cli_arguments.specs.Invocation.{AreWordsOfRun, IsCommand, IsNumber, AreWordsOfReading}

-- two names differ where a look at their bytes says so
pub differ : (a b : Text) → bytes_eq a b ≡ false → ¬ a ≡ b
differ a b apart same = let alike : bytes_eq a b ≡ true = (bytes_eq-Decides a b).1 same in cc

no_command : (given : List Row) (command : CommandWords) → ¬ IsCommand (codes "serve") given command
no_command given (Add code name key) asked = differ _ (codes "add") refl asked.0
no_command given (Credit code cents) asked = differ _ (codes "credit") refl asked.0
no_command given (Post code reference cents debit) asked = differ _ (codes "post") refl asked.0
no_command given (Withdraw code reference) asked = differ _ (codes "withdraw") refl asked.0
no_command given (Open date automatic) asked = differ _ (codes "open") refl asked.0
no_command given Resolve asked = differ _ (codes "resolve") refl asked
no_command given (CutOff date) asked = differ _ (codes "cutoff") refl asked.0
no_command given (Close date) asked = differ _ (codes "close") refl asked.0

no_reading : (given : List Row) (reading : ReadingWords) → ¬ AreWordsOfReading (codes "serve") given reading
no_reading given (Account code) asked = differ _ (codes "account") refl asked.0
no_reading given Accounts asked = differ _ (codes "accounts") refl asked
no_reading given (Queue code) asked = differ _ (codes "queue") refl asked.0
no_reading given (Held code) asked = differ _ (codes "held") refl asked.0
no_reading given (Waiting code) asked = differ _ (codes "waiting") refl asked.0
no_reading given Queues asked = differ _ (codes "queues") refl asked
no_reading given Status asked = differ _ (codes "status") refl asked
no_reading given (Order code reference) asked = differ _ (codes "order") refl asked.0
no_reading given (Statement code date) asked = differ _ (codes "statement") refl asked.0
no_reading given (Report date) asked = differ _ (codes "report") refl asked.0
no_reading given (Orders date) asked = differ _ (codes "orders") refl asked.0
no_reading given (Marks date) asked = differ _ (codes "marks") refl asked.0

-- without its port, or how many connections it serves, no server is asked for
pub no_server : (given : List Row)
    → ((n : ℕ) → ¬ IsNumber 16 given (codes "port") n) ⊎ ((n : ℕ) → ¬ IsNumber 32 given (codes "count") n)
    → (words : Words) → ¬ AreWordsOfRun (codes "serve") given words
no_server given missing (Make file) asked = differ _ (codes "init") refl asked.0
no_server given missing (Migrate file) asked = differ _ (codes "migrate") refl asked.0
no_server given missing (Submit file command) asked = no_command given command asked.1
no_server given missing (Import file sender orders) asked = differ _ (codes "import") refl asked.0
no_server given missing (Read file reading) asked = no_reading given reading asked.1
no_server given (inl none) (Serve file port count operator) asked = none port asked.2
no_server given (inr none) (Serve file port count operator) asked = none count asked.3
