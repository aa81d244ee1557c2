-- A change whose values are in their forms leaves the values of the book in theirs.
use Rattle.std.proofs.Common.{inl, inr, ℕ, List, [], ◌∷◌, cond}
use Rattle.std.specs.List.{AllByRecursion}
use Rattle.std.proofs.lemmas.Bool.{cases_Bool}
use Rattle.rtgs_lists.proofs.Filters.{all_put_in}
use Rattle.rtgs_lists.proofs.Lists.{all_map, all_weaker}
use Rattle.rtgs_money.specs.Amounts.{IsCredit}
use Rattle.rtgs_book.specs.declared.book.Book.{Book}
use Rattle.rtgs_book.specs.declared.participant.Participant.{Participant}
use Rattle.rtgs_book.specs.declared.change.RowChange.{RowChange}
use Rattle.rtgs_book.specs.declared.change.RowChange.TheVariants.{AddParticipant, SetCredit, SetDay}
use Rattle.rtgs_book.specs.Commands.{is_before, with_participant, with_credit, with_state, let_in}
use Rattle.rtgs_book.specs.Changes.{with_row, changed}
use Rattle.rtgs_book.specs.Lookup.{has_code}
use Rattle.rtgs_rows.specs.Content.{Content, with_change}
use Rattle.rtgs_rows.specs.Fitting.{FitsDate, FitsParticipant, FitsRow, HasFormedValues}
use Rattle.rtgs_rows.proofs.Steps.{posting_step, order_step, mark_step}

abbrev credited : List ℕ → ℕ → Participant → Participant
credited code credit p = cond (has_code code p) (record p { credit = credit }) p

credited_fits : (code : List ℕ) (credit : ℕ) → IsCredit credit → (p : Participant) → FitsParticipant p
    → FitsParticipant (credited code credit p)
credited_fits code credit limit p h = elim (cases_Bool (has_code code p)) [
  | inl hit ↦ rw hit (record { code = h.code; name = h.name; key = h.key; credit = limit })
  | inr miss ↦ rw miss h
]

participants_formed : (b : Book) (row : RowChange) → FitsRow row → AllByRecursion FitsParticipant b.participants
    → AllByRecursion FitsParticipant ((with_row b row).participants)
unfolding with_participant with_credit with_state let_in
participants_formed b (AddParticipant p) new h = all_put_in FitsParticipant (λ q. is_before q.code p.code) p
    b.participants h new
participants_formed b (SetCredit code credit) new h = all_map FitsParticipant (credited code credit) b.participants
    (all_weaker FitsParticipant (λ p. FitsParticipant (credited code credit p)) (credited_fits code credit new)
    b.participants h)
participants_formed b row new h = h

day_formed : (b : Book) (row : RowChange) → FitsRow row → FitsDate b.day.date → FitsDate ((with_row b row).day.date)
unfolding with_participant with_credit with_state let_in
day_formed b (SetDay day) new h = new
day_formed b row new h = h

formed : (b : Book) (c : Content) (row : RowChange) → FitsRow row → HasFormedValues b → HasFormedValues (with_row b row)
formed b c row new h = record {
  participants = participants_formed b row new h.participants;
  postings = (posting_step b c row).fits new h.postings;
  orders = (order_step b c row).fits new h.orders;
  marks = (mark_step b c row).fits new h.marks;
  day = day_formed b row new h.day;
}

pub formed_after : (rows : List RowChange) (b : Book) (c : Content) → AllByRecursion FitsRow rows → HasFormedValues b
    → HasFormedValues (changed b rows)
formed_after [] b c new h = h
formed_after (row ∷ rows) b c new h = formed_after rows (with_row b row) (with_change c row) new.1
    (formed b c row new.0 h)
