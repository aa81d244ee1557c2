-- A command of a day is read as the day is.
use Rattle.std.proofs.Common.{ℕ, List, Result, ap}
use Rattle.std.specs.Result.{result_map_both}
use Rattle.rtgs_money.specs.declared.lexical.Lexical.{Lexical}
use Rattle.rtgs_book.specs.declared.command.Command.{Command}
use Rattle.rtgs_cli_arguments.specs.requests.Words.{ReadsDate, ReadsDay}

-- the command of the day that was read, or the same fault
abbrev command_read : (ℕ → Command) → Result ℕ Lexical → Result Command Lexical
command_read command_of = result_map_both command_of (λ fault. fault)

pub reads_command : {date : List ℕ} (command_of : ℕ → Command) (read : Result ℕ Lexical) → ReadsDate date read
    → ReadsDay command_of date (command_read command_of read)
reads_command command_of read reads = record {
  found = λ day is text. ap (command_read command_of) (reads.found day is text);
  bad_date = λ none. ap (command_read command_of) (reads.bad_date none);
}
