-- Changes of a book and of its records go together.
use Rattle.std.proofs.Common.{◌≡◌, inl, inr, ℕ, ℤ, List, [], ◌∷◌, ◌++◌, map, filter, Bool, not, cond, refl}
use Rattle.std.specs.List.Sorted.{IsPermutation}
use Rattle.std.proofs.lemmas.List.Sorted.{IsPermutation-map, IsPermutation-trans, IsPermutation-to_front}
use Rattle.std.proofs.lemmas.List.Sorted.{IsPermutation-sym, IsPermutation-cons, IsPermutation-filter_both}
use Rattle.std.proofs.lemmas.List.Sorted.{IsPermutation-middle}
use Rattle.std.proofs.lemmas.Bool.{cases_Bool}
use Rattle.std.specs.Str.{bytes_eq}
use Rattle.rtgs_book.specs.declared.book.Book.{Book}
use Rattle.rtgs_book.specs.declared.participant.Participant.{Participant}
use Rattle.rtgs_book.specs.declared.change.RowChange.{RowChange}
use Rattle.rtgs_book.specs.declared.change.RowChange.TheVariants.{AddParticipant, SetCredit, SetBalance, SetDay}
use Rattle.rtgs_book.specs.Commands.{is_before, with_participant, with_credit, with_state, let_in}
use Rattle.rtgs_book.specs.Lookup.{has_code}
use Rattle.rtgs_book.specs.Changes.{with_row, changed}
use Rattle.rtgs_rows.specs.Content.{Holding, Content, newcomer, with_credit_in, with_balance_in, with_change}
use Rattle.rtgs_rows.specs.Content.{with_changes}
use Rattle.rtgs_rows.specs.Keeping.{AreOf}
use Rattle.rtgs_rows.proofs.Steps.{posting_step, order_step, mark_step, forward_step}
use Rattle.rtgs_lists.proofs.Lists.{map_push}

abbrev who : Holding → Participant
who h = h.participant

-- put in at its place
placed : {X : Type 0} (p : X → Bool) (x : X) (xs : List X) → IsPermutation (x ∷ xs)
    (filter p xs ++ x ∷ filter (λ y. not (p y)) xs)
placed p x xs =
    IsPermutation-trans _ _ _ (IsPermutation-cons x _ _ (IsPermutation-filter_both p (λ y. not (p y)) (λ y. refl) xs))
    (IsPermutation-sym _ _ (IsPermutation-middle (filter p xs) x (filter (λ y. not (p y)) xs)))

who_credit : (code : List ℕ) (credit : ℕ) (hs : List Holding)
    → map who (map (with_credit_in code credit) hs) ≡ map (λ p. cond (has_code code p) (record p { credit = credit }) p)
    (map who hs)
who_credit code credit [] = refl
who_credit code credit (h ∷ hs) = elim (cases_Bool (bytes_eq h.participant.code code)) [
  | inl hit ↦ rw (hit, who_credit code credit hs)
  | inr miss ↦ rw (miss, who_credit code credit hs)
]

who_balance : (code : List ℕ) (balance : ℤ) (hs : List Holding)
    → map who (map (with_balance_in code balance) hs) ≡ map who hs
who_balance code balance [] = refl
who_balance code balance (h ∷ hs) = elim (cases_Bool (bytes_eq h.participant.code code)) [
  | inl hit ↦ rw (hit, who_balance code balance hs)
  | inr miss ↦ rw (miss, who_balance code balance hs)
]

day_on : (b : Book) (c : Content) (row : RowChange) → c.day ≡ b.day → (with_change c row).day ≡ (with_row b row).day
unfolding with_participant with_credit with_state let_in
day_on b c (SetDay day) same = refl
day_on b c row same = same

abbrev HasParticipants : Book → Content → Type 0
HasParticipants b c = IsPermutation (map who c.holdings) b.participants

participants_on : (b : Book) (c : Content) (row : RowChange) → HasParticipants b c
    → HasParticipants (with_row b row) (with_change c row)
unfolding with_participant with_credit with_state let_in
participants_on b c (AddParticipant p) same = rw (map_push who c.holdings (newcomer c p))
    (IsPermutation-trans _ _ _ (IsPermutation-to_front (map who c.holdings) p)
    (IsPermutation-trans _ _ _ (IsPermutation-cons p _ _ same)
    (placed (λ q. is_before q.code p.code) p b.participants)))
participants_on b c (SetCredit code credit) same = rw (who_credit code credit c.holdings) (IsPermutation-map _ _ _ same)
participants_on b c (SetBalance code balance) same = rw (who_balance code balance c.holdings) same
participants_on b c row same = same

step : (b : Book) (c : Content) (row : RowChange) → AreOf b c → AreOf (with_row b row) (with_change c row)
step b c row are = record {
  participants = participants_on b c row are.participants;
  lists = record {
    day = day_on b c row are.lists.day;
    postings = (posting_step b c row).same are.lists.postings;
    orders = (order_step b c row).same are.lists.orders;
    marks = (mark_step b c row).same are.lists.marks;
    forwards = (forward_step b c row).same are.lists.forwards;
  };
}

pub steps : (b : Book) (c : Content) (rows : List RowChange) → AreOf b c → AreOf (changed b rows) (with_changes c rows)
steps b c [] are = are
steps b c (row ∷ rows) are = steps (with_row b row) (with_change c row) rows (step b c row are)
