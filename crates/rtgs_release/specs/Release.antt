-- Which release of the desk this is.
use Rattle.std.specs.Prelude.{ℕ, List, codes}

-- the version of the program
abbrev pub program_version : List ℕ
program_version = codes "0.14.0"
