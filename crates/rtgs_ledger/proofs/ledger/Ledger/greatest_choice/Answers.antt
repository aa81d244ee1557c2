use Rattle.std.proofs.Common.{◌≡◌, ◌∙◌, ◌<◌, ℕ, List, [], map, length, slice_index, sym, ap}
use Rattle.std.proofs.lemmas.List.{ext_get_or, get_or-map, length-map}
use Rattle.rtgs_book.specs.declared.book.Book.{Book}
use Rattle.rtgs_book.specs.Choice.{Choice}
use Rattle.rtgs_book.specs.Lookup.{codes_of}
use Rattle.rtgs_book.specs.Soundness.{IsSound}
use Rattle.rtgs_choices.specs.ByIndex.{by_code, code_at}
use Rattle.rtgs_ledger.proofs.ledger.Ledger.greatest_choice.Goals as goal

-- lengths that mean a choice are those of the choice
lengths_are : (book : Book) (choice : Choice) (lengths : List ℕ) → IsSound book
    → ((b : Book) (lengths : ℕ → ℕ) (i : ℕ) → IsSound b → i < length (codes_of b)
    → by_code b lengths (code_at b i) ≡ lengths i)
    → length lengths ≡ length (codes_of book) → by_code book (slice_index lengths) ≡ choice
    → lengths ≡ map choice (codes_of book)
lengths_are book choice lengths sound agreed same means =
    ext_get_or 0 lengths (map choice (codes_of book)) (same ∙ sym (length-map (codes_of book) choice)) (λ i less.
    let within : i < length (codes_of book) = rw same at less in
    sym (agreed book (slice_index lengths) i sound within)
    ∙ ap (λ (f : Choice). f (code_at book i)) means
    ∙ sym (get_or-map choice (codes_of book) i [] 0 within))

pub returns-in-Ok-clause-chosen : goal.returns-in-Ok-clause-chosen
returns-in-Ok-clause-chosen c book choice is greatest =
    let found = c.in-Ok.ensures in
    lengths_are book choice c.in-Ok.lengths.items is.sound c.choices_agree.ensures.lengths (found.length book is)
    (c.greatest_is_unique.ensures book _ choice (found.greatest book is) greatest)
