-- A resolution that settles orders, and its change.
use Rattle.std.proofs.Common.{◌≡◌, ℕ, Bool, true, false, cond, ◌&&◌, List, [], ◌∷◌, filter, Ok, refl, sym, ◌∙◌}
use Rattle.std.proofs.Common.{true≢false}
use Rattle.std.specs.List.{AllByRecursion}
use Rattle.rtgs_book.specs.declared.answer.Answer.TheVariants.{Resolved}
use Rattle.rtgs_book.specs.declared.book.Book.{Book}
use Rattle.rtgs_book.specs.declared.change.RowChange.{RowChange}
use Rattle.rtgs_book.specs.declared.change.RowChange.TheVariants.{AddParticipant, AddPosting, AddOrder, AddMark}
use Rattle.rtgs_book.specs.declared.change.RowChange.TheVariants.{SetCredit, SetBalance, SetState, EnterQueue, SetDay}
use Rattle.rtgs_book.specs.declared.command.Command.TheVariants.{Resolve}
use Rattle.rtgs_book.specs.declared.mark.Mark.{Mark}
use Rattle.rtgs_book.specs.declared.order.Order.{Order}
use Rattle.rtgs_book.specs.declared.order_state.OrderState.TheVariants.{Settled}
use Rattle.rtgs_book.specs.Books.{is_closed, is_empty, is_queued}
use Rattle.rtgs_book.specs.Changes.{StartsEmpty}
use Rattle.rtgs_book.specs.Choice.{Choice, is_chosen, chosen, IsGreatest}
use Rattle.rtgs_book.specs.Commands.{resolve}
use Rattle.rtgs_book.specs.Outcome.{first_of}
use Rattle.rtgs_book.specs.Settle.{settle, mark_of, next_mark}
use Rattle.rtgs_book.specs.Soundness.{IsSound}
use Rattle.rtgs_book.specs.Step.{OwnStep}
use Rattle.rtgs_choices.specs.Settling.{IsOfBalance, balance_rows, settling_rows}
use Rattle.rtgs_choices.proofs.Rows.{added-states, of_balances}

none_of_fewer : (p q : Order → Bool) (os : List Order) → filter p os ≡ []
    → is_empty (filter (λ o. p o && q o) os) ≡ true
none_of_fewer p q [] e = refl
none_of_fewer p q (o ∷ os) e = by (p o) e (none_of_fewer p q os)
  where
    by : (b : Bool) → cond b (o ∷ filter p os) (filter p os) ≡ []
        → (filter p os ≡ [] → is_empty (filter (λ o. p o && q o) os) ≡ true)
        → is_empty (cond (b && q o) (o ∷ filter (λ o. p o && q o) os) (filter (λ o. p o && q o) os)) ≡ true
    by true e rest = absurd (cc)
    by false e rest = rest e

-- a desk that has chosen orders is not closed
not_closed : (book : Book) (choice : Choice) → IsSound book → is_empty (chosen book choice) ≡ false
    → is_closed book.day.phase ≡ false
unfolding chosen is_chosen
not_closed book choice sound some = by (is_closed book.day.phase) refl
  where
    by : (b : Bool) → is_closed book.day.phase ≡ b → b ≡ false
    by true e = absurd (true≢false (sym (none_of_fewer is_queued _ book.orders (sound.queues.closed e)) ∙ some))
    by false e = refl

module _ (book : Book) (choice : Choice) (mark : Mark) (sound : IsSound book) (greatest : IsGreatest book choice)
    (some : is_empty (chosen book choice) ≡ false) (is : mark ≡ mark_of book (chosen book choice)) where
  resolved : record {
    reply = Ok (Resolved mark.number mark.count mark.value);
    book = settle book (is_chosen book choice);
  } ≡ resolve book choice
  unfolding resolve first_of
  resolved = rw (not_closed book choice sound some, some) (λ i. record
      { reply = Ok (Resolved (is i).number (is i).count (is i).value); book = settle book (is_chosen book choice) })

  pub resolution : OwnStep book Resolve (Ok (Resolved mark.number mark.count mark.value))
      (settle book (is_chosen book choice))
  resolution = (choice, greatest, resolved)

pub mark-number : (book : Book) (choice : Choice) (mark : Mark) → mark ≡ mark_of book (chosen book choice)
    → mark.number ≡ next_mark book
unfolding mark_of
mark-number book choice mark is i = (is i).number

-- no row adds a participant
start_empty : (new : Book) (all rows : List RowChange) → AllByRecursion IsOfBalance rows
    → AllByRecursion (StartsEmpty new all) rows
start_empty new all [] h = tt
start_empty new all (SetBalance code cents ∷ rows) h = (tt, start_empty new all rows h.1)
start_empty new all (AddParticipant participant ∷ rows) h = absurd h.0
start_empty new all (AddPosting posting ∷ rows) h = absurd h.0
start_empty new all (AddOrder order ∷ rows) h = absurd h.0
start_empty new all (AddMark mark ∷ rows) h = absurd h.0
start_empty new all (SetCredit code credit ∷ rows) h = absurd h.0
start_empty new all (SetState number state ∷ rows) h = absurd h.0
start_empty new all (EnterQueue number date ∷ rows) h = absurd h.0
start_empty new all (SetDay day ∷ rows) h = absurd h.0

pub added : (new book : Book) (choice : Choice) (numbers : List ℕ) (mark : Mark)
    → AllByRecursion (StartsEmpty new (settling_rows book choice numbers mark)) (settling_rows book choice numbers mark)
added new book choice numbers mark =
    let all = settling_rows book choice numbers mark in
    added-states new all (Settled mark.number) numbers (AddMark mark ∷ balance_rows book choice)
    (tt, start_empty new all (balance_rows book choice) (of_balances book choice))
