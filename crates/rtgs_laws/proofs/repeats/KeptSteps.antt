-- Each command, and each list of commands, keeps the records.
use Rattle.std.proofs.Common.{◌≡◌, ℕ, Bool, true, false, List, [], ◌∷◌, ◌++◌, ◌+◌, length, Option, Some, None, refl}
use Rattle.std.proofs.Common.{sym, ap, ◌∙◌, subst, true≢false}
use Rattle.std.proofs.lemmas.Bool.{not-false, and_parts}
use Rattle.std.proofs.lemmas.List.{length-map}
use Rattle.std.specs.List.{range_with_len}
use Rattle.rtgs_book.specs.declared.book.Book.{Book}
use Rattle.rtgs_book.specs.declared.new_order.NewOrder.{NewOrder}
use Rattle.rtgs_book.specs.declared.order.Order.{Order}
use Rattle.rtgs_book.specs.declared.order_state.OrderState.TheVariants.{Settled, Withdrawn, Rejected}
use Rattle.rtgs_book.specs.declared.command.Command.{Command}
use Rattle.rtgs_book.specs.declared.command.Command.TheVariants.{Add, SetCredit, Post, OpenDay, Order as PlaceOrder}
use Rattle.rtgs_book.specs.declared.command.Command.TheVariants.{Withdraw, Resolve, CutOff, CloseDay}
use Rattle.rtgs_book.specs.Books.{is_queued, is_waiting, is_empty}
use Rattle.rtgs_book.specs.Choice.{is_chosen, chosen, Choice}
use Rattle.rtgs_book.specs.Commands.{add, with_participant, set_credit, with_credit, post, taken_order, with_order}
use Rattle.rtgs_book.specs.Commands.{has_number, takes, takes_due, settles_at_once, order, is_waiting_order, number_of}
use Rattle.rtgs_book.specs.Commands.{with_state, let_in}
use Rattle.rtgs_book.specs.Commands.{withdraw, open_day, cut_off, resolve, close_day}
use Rattle.rtgs_book.specs.Lookup.{participant_of, is_order_named, order_named, is_posting_named}
use Rattle.rtgs_book.specs.Outcome.{OwnReply, Outcome, Reply}
use Rattle.rtgs_book.specs.Settle.{settle, next_mark}
use Rattle.rtgs_book.specs.Soundness.{OrdersAreNumbered, IsSound}
use Rattle.rtgs_book.specs.Step.{OwnStep, Ends, Step, is_followed}
use Rattle.rtgs_laws.specs.Through.{GoesThrough}
use Rattle.rtgs_laws.specs.repeats.Kept.{AreKept}
use Rattle.rtgs_laws.proofs.NewOrders.{with_due}
use Rattle.rtgs_laws.proofs.repeats.Finds.{find_left, only_one}
use Rattle.rtgs_laws.proofs.repeats.Kept.{WaitingAlone, queued_waits, orders_same, orders_grown, orders_restated}
use Rattle.rtgs_laws.proofs.repeats.Kept.{orders_entered, none_numbered, by_settling, participants_same}
use Rattle.rtgs_laws.proofs.repeats.Kept.{participants_added}
use Rattle.rtgs_laws.proofs.repeats.Kept.{participants_credited, kept_by, kept_through}
use Rattle.rtgs_laws.proofs.repeats.Passing.{after_tests, choose_book}
use Rattle.rtgs_laws.proofs.repeats.Runs.{KeepsSoundness}
use Rattle.rtgs_lists.proofs.Lists.{all_of, all_push, all_weaker}

pub kept_itself : (book : Book) → AreKept book book
kept_itself book = kept_by book book (participants_same book.participants) (λ reference p e. e)
    (orders_same book.orders)

kept_settle : (book : Book) (is_in : Order → Bool) → WaitingAlone is_in book.orders → AreKept book (settle book is_in)
kept_settle book is_in waits = by_settling (AreKept book) book is_in (kept_itself book)
    (λ marks. kept_by book _ (participants_same book.participants) (λ reference p e. e)
    (orders_restated is_in (Settled (next_mark book)) book.orders refl waits))

chosen_waits : (book : Book) (choice : Choice) → WaitingAlone (is_chosen book choice) book.orders
unfolding is_chosen
chosen_waits book choice = all_of (λ o. is_chosen book choice o ≡ true → is_waiting o ≡ true)
    (λ o e. queued_waits o.state (and_parts (is_queued o) _ e).0) book.orders

kept_order : (book : Book) (o : Order) → AreKept book (with_order book o)
kept_order book o = kept_by book _ (participants_same book.participants) (λ reference p e. e)
    (orders_grown book.orders (o ∷ []))

-- ---- an order that is taken, and one that is withdrawn

module _ (book : Book) (sender : List ℕ) (new_order : NewOrder) (h : OrdersAreNumbered book) where
  pub one_new : WaitingAlone (has_number (length book.orders + 1))
      (book.orders ++ taken_order book sender (with_due new_order None) ∷ [])
  one_new = all_push (λ o. has_number (length book.orders + 1) o ≡ true → is_waiting o ≡ true) book.orders
      (taken_order book sender (with_due new_order None))
      (all_weaker (λ o. has_number (length book.orders + 1) o ≡ false)
      (λ o. has_number (length book.orders + 1) o ≡ true → is_waiting o ≡ true)
      (λ o none e. absurd (true≢false (sym e ∙ none))) book.orders (none_numbered book h)) (λ _. refl)

  -- from the order that joined its queue, or is held
  pub kept_joined : (due : Option ℕ) → AreKept (with_order book (taken_order book sender (with_due new_order due)))
      (takes_due book (taken_order book sender (with_due new_order due)) due).book
  unfolding takes
  kept_joined None =
      let joined = with_order book (taken_order book sender (with_due new_order None)) in
      choose_book (AreKept joined) (settles_at_once book sender new_order.amount) _ _
      (kept_settle joined (has_number (length book.orders + 1)) one_new) (kept_itself joined)
  kept_joined (Some due) = kept_itself (with_order book (taken_order book sender (with_due new_order (Some due))))

  kept_taken : (due : Option ℕ)
      → AreKept book (takes_due book (taken_order book sender (with_due new_order due)) due).book
  kept_taken due = kept_through book (with_order book (taken_order book sender (with_due new_order due))) _
      (kept_order book (taken_order book sender (with_due new_order due))) (kept_joined due)

pub withdrawn_waits : (book : Book) (sender reference : List ℕ) (o : Order) → OrdersAreNumbered book
    → order_named book sender reference ≡ Some o → is_waiting o ≡ true → WaitingAlone (has_number o.number) book.orders
unfolding order_named
withdrawn_waits book sender reference o h e w =
    all_weaker (λ other. has_number o.number other ≡ true → other ≡ o)
    (λ other. has_number o.number other ≡ true → is_waiting other ≡ true)
    (λ other same t. ap is_waiting (same t) ∙ w) book.orders
    (only_one (is_order_named sender reference) 1 book.orders o
    (h.0 ∙ ap (range_with_len 1) (length-map book.orders (λ (o : Order). o.number))) e)

kept_withdrawn : (book : Book) (sender reference : List ℕ) → OrdersAreNumbered book
    → AreKept book (withdraw book sender reference).book
unfolding withdraw with_state
kept_withdrawn book sender reference h = after_tests (AreKept book) book _ _ (kept_itself book)
    (λ (_, (_, (_, (waits, _)))). by (order_named book sender reference) refl (not-false _ waits))
  where
    by : (found : Option Order) → order_named book sender reference ≡ found → is_waiting_order found ≡ true
        → AreKept book (with_state book (has_number (number_of found)) Withdrawn)
    by None e w = absurd (true≢false (sym w))
    by (Some o) e w = kept_by book _ (participants_same book.participants) (λ reference p e. e)
        (orders_restated (has_number o.number) Withdrawn book.orders refl
        (withdrawn_waits book sender reference o h e w))

-- ---- each command

kept_as : (old new : Book) (reply : OwnReply) (outcome : Outcome) → record { reply = reply; book = new } ≡ outcome
    → AreKept old outcome.book → AreKept old new
kept_as old new reply outcome e h = subst (λ (o : Outcome). AreKept old o.book) (sym e) h

kept_added : (old : Book) (code name key : List ℕ) → AreKept old (add old code name key).book
unfolding add with_participant participant_of
kept_added old code name key = after_tests (AreKept old) old _ _ (kept_itself old)
    (λ passed. kept_by old _ (participants_added _ old.participants passed.1.0) (λ reference p e. e)
    (orders_same old.orders))

pub own_step_kept : (old new : Book) (command : Command) (reply : OwnReply) → IsSound old
    → OwnStep old command reply new → AreKept old new
unfolding set_credit with_credit post open_day let_in order with_state cut_off resolve close_day
own_step_kept old new (Add code name key) reply h e = kept_as old new reply _ e (kept_added old code name key)
own_step_kept old new (SetCredit code credit) reply h e = kept_as old new reply _ e
    (after_tests (AreKept old) old _ _ (kept_itself old) (λ _. kept_by old _
    (participants_credited code credit old.participants) (λ reference p e. e) (orders_same old.orders)))
own_step_kept old new (Post code reference cents) reply h e = kept_as old new reply _ e
    (after_tests (AreKept old) old _ _ (kept_itself old) (λ _. kept_by old _ (participants_same old.participants)
    (λ reference p e. find_left (is_posting_named reference) old.postings _ p e) (orders_same old.orders)))
own_step_kept old new (OpenDay new_day) reply h e = kept_as old new reply _ e
    (after_tests (AreKept old) old _ _ (kept_itself old) (λ _. kept_by old _ (participants_same old.participants)
    (λ reference p e. e) (orders_entered new_day.date old.orders)))
own_step_kept old new (PlaceOrder sender new_order) reply h e =
    kept_as old new reply _ e (after_tests (AreKept old) old _ _ (kept_itself old)
    (λ _. kept_taken old sender new_order h.orders_numbered new_order.due))
own_step_kept old new (Withdraw sender reference) reply h e = kept_as old new reply _ e
    (kept_withdrawn old sender reference h.orders_numbered)
own_step_kept old new Resolve reply h e = kept_as old new reply _ e.2
    (after_tests (AreKept old) old _ _ (kept_itself old) (λ _. choose_book (AreKept old) (is_empty (chosen old e.0)) _ _
    (kept_itself old) (kept_settle old (is_chosen old e.0) (chosen_waits old e.0))))
own_step_kept old new (CutOff date) reply h e = kept_as old new reply _ e
    (after_tests (AreKept old) old _ _ (kept_itself old) (λ _. kept_by old _ (participants_same old.participants)
    (λ reference p e. e) (orders_same old.orders)))
own_step_kept old new (CloseDay date) reply h e = kept_as old new reply _ e.2
    (after_tests (AreKept old) old _ _ (kept_itself old) (λ _. kept_by old _ (participants_same old.participants)
    (λ reference p e. e)
    (orders_restated is_queued Rejected old.orders refl
    (all_of (λ o. is_queued o ≡ true → is_waiting o ≡ true) (λ o t. queued_waits o.state t) old.orders))))

pub kept_goes_through : GoesThrough AreKept
kept_goes_through = record { itself = kept_itself; through = kept_through }

-- what follows the command keeps what it left
ends_kept : KeepsSoundness → (b : Bool) (new : Book) (own : Outcome) (reply : Reply) → IsSound own.book
    → Ends b own reply new → AreKept own.book new
ends_kept sounds false new own reply h e = subst (AreKept own.book) (sym e.1) (kept_itself own.book)
ends_kept sounds true new own reply h e = own_step_kept own.book new Resolve e.0 h e.1

pub kept_after : KeepsSoundness → (old new : Book) (command : Command) (reply : Reply) → IsSound old
    → (s : Step old command reply new) → AreKept s.0.book new
kept_after sounds old new command reply h s =
    ends_kept sounds (is_followed command s.0) new s.0 reply (sounds old s.0.book command s.0.reply h s.1) s.2

-- so the whole step keeps them, of which what follows the command is one more
pub step_kept : KeepsSoundness → (old new : Book) (command : Command) (reply : Reply) → IsSound old
    → Step old command reply new → AreKept old new
step_kept sounds old new command reply h s =
    kept_through old s.0.book new (own_step_kept old s.0.book command s.0.reply h s.1)
    (kept_after sounds old new command reply h s)
