-- The records of a new book.
use Rattle.std.proofs.Common.{[]}
use Rattle.std.proofs.lemmas.List.Sorted.{IsPermutation-refl}
use Rattle.rtgs_book.specs.Books.{new_book}
use Rattle.rtgs_book.specs.Soundness.{IsSound}
use Rattle.rtgs_rows.specs.Keeping.{IsBookOf, first_content}
use Rattle.rtgs_rows.proofs.Querying.{same_lists}

pub is_new : IsSound new_book → IsBookOf new_book first_content
is_new sound = record {
  records = record { participants = IsPermutation-refl []; lists = same_lists new_book [] };
  balances = tt;
  ids = tt;
  sound = sound;
  fits = record { participants = tt; postings = tt; orders = tt; marks = tt; day = tt };
}
