-- What withdrawing an order gives, test by test, and its change.
use Rattle.std.proofs.Common.{◌≡◌, ℕ, Bool, true, false, if◌then◌else◌, List, [], ◌∷◌, find, Ok, Err, Some}
use Rattle.std.proofs.Common.{None, ◌⊎◌, inl, inr, refl, sym, ap, ◌∙◌, arith}
use Rattle.std.proofs.lemmas.Bool.Decides.{nat_tests}
use Rattle.std.specs.List.{AllByRecursion}
use Rattle.std.specs.Ordering.{int_eq}
use Rattle.rtgs_book.specs.declared.command.Command.TheVariants as command
use Rattle.rtgs_book.specs.declared.answer.Answer.TheVariants as answer
use Rattle.rtgs_book.specs.declared.answer.Known.TheVariants as known
use Rattle.rtgs_book.specs.declared.refusal.Refusal.TheVariants.{UnknownParticipant, UnknownOrder, NotQueued}
use Rattle.rtgs_book.specs.declared.change.RowChange.TheVariants.{SetState}
use Rattle.rtgs_book.specs.declared.book.Book.{Book}
use Rattle.rtgs_book.specs.declared.order.Order.{Order}
use Rattle.rtgs_book.specs.declared.order_state.OrderState.{OrderState}
use Rattle.rtgs_book.specs.declared.order_state.OrderState.TheVariants.{Queued, Held as HeldState, Settled, Withdrawn}
use Rattle.rtgs_book.specs.declared.order_state.OrderState.TheVariants.{Rejected}
use Rattle.rtgs_book.specs.Balance.{balance}
use Rattle.rtgs_book.specs.Books.{is_settled, is_waiting_state, is_settled_state, is_withdrawn_state}
use Rattle.rtgs_book.specs.Changes.{Leads, balance_set}
use Rattle.rtgs_book.specs.Commands.{withdraw, with_state, has_number}
use Rattle.rtgs_book.specs.Lookup.{codes_of, is_participant, order_named, is_order_named}
use Rattle.rtgs_book.specs.Outcome.{first_of}
use Rattle.rtgs_book.specs.Soundness.{OrdersAreNumbered}
use Rattle.rtgs_book.specs.Step.{OwnStep}
use Rattle.rtgs_ledger.proofs.Balances.{all_same}
use Rattle.rtgs_ledger.proofs.Kept.{prepared_done}
use Rattle.rtgs_records.specs.queues.Laws.{NumbersLeadToOrders}
use Rattle.rtgs_ledger.proofs.Whole.{Held, IsKept, IsPrepared}
use Rattle.rtgs_lists.proofs.Lists.{all_of, all_weaker}
use Rattle.rtgs_lists.proofs.Finds.{all_found}
use Rattle.rtgs_lists.proofs.Numbers.{int_eq_self}

module _ (book : Book) (sender reference : List ℕ) where
  pub unknown : is_participant book sender ≡ false → OwnStep book (command.Withdraw sender reference)
      (Err UnknownParticipant) book
  unfolding withdraw first_of
  unknown e = rw e refl

  module _ (there : is_participant book sender ≡ true) where
    pub unknown_order : order_named book sender reference ≡ None
        → OwnStep book (command.Withdraw sender reference) (Err UnknownOrder) book
    unfolding withdraw first_of
    unknown_order absent = rw (there, absent) refl

    module _ (o : Order) (found : order_named book sender reference ≡ Some o) where
      pub repeats : is_withdrawn_state o.state ≡ true → OwnStep book (command.Withdraw sender reference)
          (Ok (answer.Repeated (known.Order o.number o.state))) book
      unfolding withdraw first_of
      repeats back = rw (there, found, back) refl

      pub not_queued : is_withdrawn_state o.state ≡ false → is_waiting_state o.state ≡ false
          → OwnStep book (command.Withdraw sender reference) (Err NotQueued) book
      unfolding withdraw first_of
      not_queued not_back done = rw (there, found, not_back, done) refl

      pub withdraws : is_withdrawn_state o.state ≡ false → is_waiting_state o.state ≡ true
          → OwnStep book (command.Withdraw sender reference) (Ok (answer.Withdrawn o.number))
          (with_state book (has_number o.number) Withdrawn)
      unfolding withdraw first_of
      withdraws not_back waits = rw (there, found, not_back, waits) refl

pub is_done : (state : OrderState) → ((mark : ℕ) × (state ≡ Settled mark)) ⊎ (state ≡ Rejected)
    → (is_withdrawn_state state ≡ false) × (is_waiting_state state ≡ false)
is_done state (inl settled) = rw settled.1 (refl, refl)
is_done state (inr rejected) = rw rejected (refl, refl)

pub is_waited : (state : OrderState) → (state ≡ Queued) ⊎ (state ≡ HeldState)
    → (is_withdrawn_state state ≡ false) × (is_waiting_state state ≡ true)
is_waited state (inl queued) = rw queued (refl, refl)
is_waited state (inr held) = rw held (refl, refl)

pub waits_unsettled : (state : OrderState) → is_waiting_state state ≡ true → is_settled_state state ≡ false
waits_unsettled Queued e = refl
waits_unsettled HeldState e = refl
waits_unsettled (Settled mark) e = absurd (cc)
waits_unsettled Withdrawn e = refl
waits_unsettled Rejected e = refl

-- ---- the order with a number

-- it is the one that was found
pub alone_in_number : NumbersLeadToOrders → (book : Book) → OrdersAreNumbered book → (p : Order → Bool) (o : Order)
    → find p book.orders ≡ Some o → AllByRecursion (λ x. has_number o.number x ≡ true → x ≡ o) book.orders
alone_in_number law book numbered p o found =
    let all = law book numbered in
    let its : find (has_number o.number) book.orders ≡ Some o =
    all_found (λ x. find (has_number x.number) book.orders ≡ Some x) p book.orders o all found in
    all_weaker (λ x. find (has_number x.number) book.orders ≡ Some x) (λ x. has_number o.number x ≡ true → x ≡ o)
    (λ x h e. same x its h e) book.orders all
  where
    same : (x : Order) → find (has_number o.number) book.orders ≡ Some o
        → find (has_number x.number) book.orders ≡ Some x → has_number o.number x ≡ true → x ≡ o
    same x its h e =
        let number : x.number ≡ o.number = grind (arith, nat_tests) in
        let both : Some x ≡ Some o = sym h ∙ ap (λ n. find (has_number n) book.orders) number ∙ its in
        cc

-- orders that get another state, and are settled neither before nor after, move no balance
abbrev BalanceAfterRestating : Type 0
BalanceAfterRestating = (book : Book) (is_in : Order → Bool) (state : OrderState) (code : List ℕ)
    → AllByRecursion (λ order. is_in order ≡ true → is_settled order ≡ false) book.orders
    → is_settled_state state ≡ false → balance (with_state book is_in state) code ≡ balance book code

module _ (held : Held) (kept : IsKept held) (law : BalanceAfterRestating) (numbers : NumbersLeadToOrders)
    (sender reference : List ℕ) (o : Order)
    (found : order_named held.content sender reference ≡ Some o) (waits : is_waiting_state o.state ≡ true) where
  abbrev new : Book
  new = with_state held.content (has_number o.number) Withdrawn

  unsettled : AllByRecursion (λ x. has_number o.number x ≡ true → is_settled x ≡ false) held.content.orders
  unfolding order_named
  unsettled = all_weaker (λ x. has_number o.number x ≡ true → x ≡ o)
      (λ x. has_number o.number x ≡ true → is_settled x ≡ false) (λ x h e. ap is_settled (h e)
      ∙ waits_unsettled o.state waits)
      held.content.orders (alone_in_number numbers held.content (let s = kept.sound in s.orders_numbered)
      (is_order_named sender reference) o found)

  balance_same : (c : List ℕ) → balance held.content c ≡ balance new c
  balance_same c = sym (law held.content (has_number o.number) Withdrawn c unsettled refl)

  leads_to_it : Leads held.content (SetState o.number Withdrawn ∷ []) new
  leads_to_it = record {
    book = refl;
    balances = all_of (λ c. balance_set c (SetState o.number Withdrawn ∷ [])
        ≡ (if int_eq (balance held.content c) (balance new c) then None else Some (balance new c)))
        (λ c. rw (← balance_same c, int_eq_self (balance held.content c)) refl) (codes_of new);
  }

  pub prepared_withdraw : is_participant held.content sender ≡ true
      → is_withdrawn_state o.state ≡ false
      → IsPrepared held (command.Withdraw sender reference) (answer.Withdrawn o.number)
      (SetState o.number Withdrawn ∷ [])
  prepared_withdraw there not_back =
      prepared_done held (command.Withdraw sender reference) (answer.Withdrawn o.number)
      (SetState o.number Withdrawn ∷ []) new tt
      (withdraws held.content sender reference there o found not_back waits) leads_to_it (tt, tt)
      (all_same (balance held.content) (balance new) balance_same held.accounts kept.balanced)
      (λ k e. absurd (cc)) (λ e. absurd (cc))
