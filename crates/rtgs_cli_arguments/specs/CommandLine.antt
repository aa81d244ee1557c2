-- The command line of the program, as `clap` reads it.
use Rattle.std.specs.Prelude.{◌≡◌, ◌⊎◌, ◌++◌, ◌∷◌, [], true, false, List, Some, codes, map, pos}
use Rattle.std.specs.List.{Any}
use Rattle.clap.specs.Simple.{new_shape}
use Rattle.clap.specs.Words.{App, Rule, Shape, Text, app_of, new_rule, rule_of, subcommand_name_of}
use Rattle.clap.specs.declared.builder.action.ArgAction.TheVariants.{Set, SetTrue}
use Rattle.clap.specs.declared.builder.arg.Arg.{Arg}
use Rattle.clap.specs.declared.builder.command.Command.{Command}
use Rattle.clap.specs.declared.builder.command.Command.TheViews.{out-Command as fields_of}
use Rattle.clap.specs.declared.builder.value_parser.ValueParser.TheVariants.{Signed}
use Rattle.clap.specs.declared.parser.matches.ArgMatches.{ArgMatches}

-- an argument that has to be given, with one value
abbrev pub needed : Text → Rule
needed argument = record (new_rule argument) { required = true; action = Some Set; value_names = 1 }

-- the book's file
abbrev pub file : Rule
file = needed (codes "file")

-- a word in its place, which may begin with a dash
abbrev pub word : Text → Rule
word argument = record (needed argument) { is_simple = false }

-- an option, which is known by its name
abbrev pub named : Rule → Rule
named argument = record argument { long = Some argument.id }

abbrev pub port : Rule
port = record (named (needed (codes "port"))) { parser = Some (Signed (pos 1) (pos 65535)) }

abbrev pub count : Rule
count = record (named (needed (codes "count"))) { parser = Some (Signed (pos 1) (pos 1000000)) }

-- the number of a refusal, which may be left out
abbrev pub refusal : Rule
refusal = record (new_rule (codes "number")) {
  action = Some Set;
  value_names = 1;
  parser = Some (Signed (pos 0) (pos 255));
}

-- an option without a value
abbrev pub flag : Text → Rule
flag name = record (named (new_rule name)) { action = Some SetTrue }

abbrev pub debit : Rule
debit = flag (codes "debit")

abbrev pub automatic : Rule
automatic = flag (codes "automatic")

-- a subcommand: its name, and what follows the book's file, in this order
abbrev pub subcommand : Text → List Rule → Shape
subcommand name arguments = record (new_shape name) { rules = file ∷ arguments }

abbrev pub init : Shape
init = subcommand (codes "init") []

abbrev pub migrate : Shape
migrate = subcommand (codes "migrate") []

abbrev pub add : Shape
add = subcommand (codes "add") (word (codes "code") ∷ word (codes "name") ∷ word (codes "key") ∷ [])

abbrev pub credit : Shape
credit = subcommand (codes "credit") (word (codes "code") ∷ word (codes "cents") ∷ [])

abbrev pub post : Shape
post = subcommand (codes "post")
    (word (codes "code") ∷ word (codes "reference") ∷ word (codes "cents") ∷ debit ∷ [])

abbrev pub open_day : Shape
open_day = subcommand (codes "open") (word (codes "date") ∷ automatic ∷ [])

abbrev pub import_orders : Shape
import_orders = subcommand (codes "import") (word (codes "code") ∷ word (codes "orders") ∷ [])

abbrev pub withdraw : Shape
withdraw = subcommand (codes "withdraw") (word (codes "code") ∷ word (codes "reference") ∷ [])

abbrev pub resolve : Shape
resolve = subcommand (codes "resolve") []

abbrev pub cut_off : Shape
cut_off = subcommand (codes "cutoff") (word (codes "date") ∷ [])

abbrev pub close_day : Shape
close_day = subcommand (codes "close") (word (codes "date") ∷ [])

abbrev pub status : Shape
status = subcommand (codes "status") []

abbrev pub account : Shape
account = subcommand (codes "account") (word (codes "code") ∷ [])

abbrev pub accounts : Shape
accounts = subcommand (codes "accounts") []

abbrev pub queue : Shape
queue = subcommand (codes "queue") (word (codes "code") ∷ [])

abbrev pub queues : Shape
queues = subcommand (codes "queues") []

abbrev pub waiting : Shape
waiting = subcommand (codes "waiting") (word (codes "code") ∷ [])

abbrev pub held : Shape
held = subcommand (codes "held") (word (codes "code") ∷ [])

abbrev pub order : Shape
order = subcommand (codes "order") (word (codes "code") ∷ word (codes "reference") ∷ [])

abbrev pub statement : Shape
statement = subcommand (codes "statement") (word (codes "code") ∷ word (codes "date") ∷ [])

abbrev pub report : Shape
report = subcommand (codes "report") (word (codes "date") ∷ [])

abbrev pub orders : Shape
orders = subcommand (codes "orders") (word (codes "date") ∷ [])

abbrev pub marks : Shape
marks = subcommand (codes "marks") (word (codes "date") ∷ [])

abbrev pub serve : Shape
serve = subcommand (codes "serve") (port ∷ count ∷ named (word (codes "operator-key")) ∷ [])

abbrev pub explain : Shape
explain = record (new_shape (codes "explain")) { rules = refusal ∷ [] }

-- the subcommands, in the order of the help
abbrev pub of_participants : List Shape
of_participants = init ∷ migrate ∷ add ∷ credit ∷ post ∷ []

abbrev pub of_days : List Shape
of_days = open_day ∷ import_orders ∷ withdraw ∷ resolve ∷ cut_off ∷ close_day ∷ []

abbrev pub of_readings : List Shape
of_readings = status ∷ account ∷ accounts ∷ queue ∷ queues ∷ waiting ∷ held ∷ order ∷ []

abbrev pub of_dates : List Shape
of_dates = statement ∷ report ∷ orders ∷ marks ∷ []

-- the program itself: it has a version, one of its subcommands has to be given, and its own name is none of its words
abbrev pub program : Shape
program = record (new_shape (codes "desk")) { no_binary_name = true; has_version = true; subcommand_required = true }

-- the program with these subcommands
abbrev pub desk_with : List Shape → App
desk_with subcommands = record { top = record program { is_leaf = false }; subs = subcommands }

-- the whole command line
abbrev pub desk : App
desk = desk_with (of_participants ++ of_days ++ of_readings ++ of_dates ++ serve ∷ explain ∷ [])

-- the command is so described, and hands no argument of its own down to subcommands
abbrev pub IsLine : App → Command → Type 0
IsLine line command = (app_of command ≡ line) × ((fields_of command).has_globals ≡ false)

-- the same of a command without subcommands
abbrev pub IsSubcommand : Shape → Command → Type 0
IsSubcommand shape command = IsLine (record { top = shape; subs = [] }) command

-- the argument is so described, and is handed down to no subcommand
abbrev pub IsArgument : Rule → Arg → Type 0
IsArgument rule argument = (rule_of argument ≡ rule) × (argument.global ≡ false)

-- a subcommand with one more argument, the last
abbrev pub with_last : Shape → Rule → Shape
with_last shape rule = record shape { rules = shape.rules ++ rule ∷ [] }

-- the names of the subcommands
abbrev pub names : List Text
names = map (λ s. s.name) desk.subs

-- a subcommand was met, one of the program's or `help`
abbrev pub MeetsOne : ArgMatches → Type 0
MeetsOne found = (name : Text) × (subcommand_name_of found ≡ Some name)
    × (Any (λ known. known ≡ name) names ⊎ (name ≡ codes "help"))
