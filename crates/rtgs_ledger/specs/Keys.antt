-- Whose key has a digest.
use Rattle.std.specs.Prelude.{ℕ, Bool, List, Option}
use Rattle.std.specs.List.{find}
use Rattle.std.specs.Option.{option_map}
use Rattle.std.specs.Str.{bytes_eq}
use Rattle.rtgs_book.specs.declared.book.Book.{Book}
use Rattle.rtgs_book.specs.declared.participant.Participant.{Participant}

abbrev pub is_key_of : List ℕ → Participant → Bool
is_key_of digest participant = bytes_eq participant.key digest

-- the code of the participant whose key has this digest
abbrev pub code_under : Book → List ℕ → Option (List ℕ)
code_under book digest = option_map (λ (p : Participant). p.code) (find (is_key_of digest) book.participants)
