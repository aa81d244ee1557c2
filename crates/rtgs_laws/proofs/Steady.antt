-- What a step leaves as it was, or moves.
use Rattle.std.proofs.Common.{◌≡◌, ℕ, ◌≤◌, ◌+◌, ℤ, pos, ◌+ℤ◌, Bool, true, false, cond, not, inl, inr, List, [], ◌∷◌}
use Rattle.std.proofs.Common.{◌++◌, Option, Some, None, map, filter, length, refl, sym, ap, ◌∙◌, subst, ⊎_elim}
use Rattle.std.proofs.Common.{true≢false, append-nil, append_assoc, arith}
use Rattle.std.proofs.lemmas.Int.{ints}
use Rattle.std.proofs.lemmas.List.{length-map}
use Rattle.std.specs.List.{AllByRecursion, range_with_len}
use Rattle.rtgs_money.specs.Amounts.{IsAmount, IsPostingAmount, IsCredit}
use Rattle.rtgs_book.specs.declared.command.Command.TheVariants.{Add, SetCredit, Post, OpenDay, Order as PlaceOrder}
use Rattle.rtgs_book.specs.declared.command.Command.TheVariants.{Withdraw, Resolve, CutOff, CloseDay}
use Rattle.rtgs_book.specs.declared.book.Book.{Book}
use Rattle.rtgs_book.specs.declared.command.Command.{Command}
use Rattle.rtgs_book.specs.declared.mark.Mark.{Mark}
use Rattle.rtgs_book.specs.declared.new_order.NewOrder.{NewOrder}
use Rattle.rtgs_book.specs.declared.order.Order.{Order}
use Rattle.rtgs_book.specs.declared.participant.Participant.{Participant}
use Rattle.rtgs_book.specs.declared.posting.Posting.{Posting}
use Rattle.rtgs_book.specs.declared.order_state.OrderState.TheVariants.{Settled, Withdrawn, Rejected}
use Rattle.rtgs_book.specs.Books.{is_queued, is_settled, is_empty}
use Rattle.rtgs_book.specs.Lookup.{has_code, is_order_named, order_named, posting_named}
use Rattle.rtgs_book.specs.IntSum.{int_sum_by}
use Rattle.rtgs_book.specs.Balance.{total, issued}
use Rattle.rtgs_book.specs.Choice.{is_chosen, chosen}
use Rattle.rtgs_book.specs.Settle.{altered, in_state, settle, mark_of, next_mark}
use Rattle.rtgs_book.specs.Outcome.{OwnReply, Outcome, first_of}
use Rattle.rtgs_book.specs.Commands.{is_before, add, with_participant, set_credit, with_credit, known_posting, post}
use Rattle.rtgs_book.specs.Commands.{taken_order, with_order, has_number, takes, takes_due, settles_at_once, order}
use Rattle.rtgs_book.specs.Commands.{is_waiting_order, is_due, entered, let_in}
use Rattle.rtgs_book.specs.Commands.{number_of, with_state, withdraw, open_day, cut_off, resolve, close_day}
use Rattle.rtgs_book.specs.Procedure.{Has}
use Rattle.rtgs_book.specs.Soundness.{IsSound}
use Rattle.rtgs_book.specs.Step.{OwnStep}
use Rattle.rtgs_book.specs.Laws.{posted_by_itself, KeepsWhatIsFinal, CommandFits}
use Rattle.rtgs_book.specs.Ranges.{Fits}
use Rattle.rtgs_laws.proofs.Batches.{marks_le}
use Rattle.rtgs_laws.proofs.BookLaws.{AreQueued, AreUnsettled, TotalIsIssued}
use Rattle.rtgs_laws.proofs.NewOrders.{with_due}
use Rattle.rtgs_laws.proofs.Outcomes.{NoneHolds, first_of_cases}
use Rattle.rtgs_laws.proofs.Settling.{settled_either}
use Rattle.rtgs_laws.proofs.Sound.{KeepsSoundness}
use Rattle.rtgs_laws.proofs.SoundCommands.{chosen_queued, old_numbers}
use Rattle.rtgs_laws.proofs.SoundOpening.{due_unsettled}
use Rattle.rtgs_laws.proofs.SoundSettle.{total-with_batch}
use Rattle.rtgs_laws.proofs.SoundStates.{queued_unsettled}
use Rattle.rtgs_laws.proofs.States.{found_by_number, queued_not_settled, waiting_not_settled}
use Rattle.rtgs_lists.proofs.Lists.{all_append, all_changed, all_filter, all_map, all_of, all_push, all_weaker}
use Rattle.rtgs_lists.proofs.Sums.{int_sum_by-append}
use Rattle.rtgs_lists.proofs.Bools.{from_not}

-- what holds where a test is answered, and after what the command is for, holds of the outcome
pub holds_first_of : (P : Outcome → Type 0) (book : Book) (rows : List (Bool × OwnReply)) (outcome : Outcome)
    → AllByRecursion (λ (row : Bool × OwnReply). P (record { reply = row.1; book = book })) rows → P outcome
    → P (first_of book rows outcome)
unfolding first_of
holds_first_of P book [] outcome h p = p
holds_first_of P book (row ∷ rows) outcome h p = by row.0 (holds_first_of P book rows outcome h.1 p)
  where
    by : (b : Bool) → P (first_of book rows outcome) → P (cond b (record { reply = row.1; book = book })
        (first_of book rows outcome))
    by true rest = h.0
    by false rest = rest

-- the same of the book alone
pub book_first_of : (P : Book → Type 0) (book : Book) (rows : List (Bool × OwnReply)) (outcome : Outcome) → P book
    → P outcome.book → P (first_of book rows outcome).book
book_first_of P book rows outcome h p = holds_first_of (λ o. P o.book) book rows outcome
    (all_of (λ (row : Bool × OwnReply). P book) (λ row. h) rows) p

-- the same, where what the command is for is known to come after all tests
sound_first : (P : Book → Type 0) (book : Book) (rows : List (Bool × OwnReply)) (outcome : Outcome) → P book
    → (NoneHolds rows → P outcome.book) → P (first_of book rows outcome).book
sound_first P book rows outcome h keeps =
    ⊎_elim (λ same. subst P (sym same) h) (λ passed. subst (λ (o : Outcome). P o.book) (sym passed.1) (keeps passed.0))
    (first_of_cases book rows outcome)

pub choose_book : (P : Book → Type 0) (b : Bool) (x y : Outcome) → P x.book → P y.book → P (cond b x y).book
choose_book P true x y h k = h
choose_book P false x y h k = k

-- ---- what a command leaves, whatever it is: three facts about the old book and the new one

-- ---- the total moves by accepted postings alone

settle_same : (book : Book) (is_in : Order → Bool) → (settle book is_in).postings ≡ book.postings
settle_same book is_in = settled_either (λ new. new.postings ≡ book.postings) book is_in refl (λ _. refl)

takes_postings : (book : Book) (o : Order) → (takes book o).book.postings ≡ book.postings
unfolding takes
takes_postings book o = choose_book (λ new. new.postings ≡ book.postings) (settles_at_once book o.sender o.amount) _ _
    (settle_same (with_order book o) (has_number o.number)) refl

takes_due_postings : (book : Book) (o : Order) (due : Option ℕ) → (takes_due book o due).book.postings ≡ book.postings
takes_due_postings book o None = takes_postings book o
takes_due_postings book o (Some due) = refl

not_posted : (found : Option Posting) (code reference : List ℕ) (cents : ℤ)
    → posted_by_itself (Post code reference cents) (known_posting found) ≡ pos 0
not_posted None code reference cents = refl
not_posted (Some p) code reference cents = refl

issued_by : (old new : Book) → new.postings ≡ old.postings → issued new ≡ issued old +ℤ pos 0
unfolding issued
issued_by old new same = ap (int_sum_by (λ (p : Posting). p.cents)) same ∙ omega (arith, ints)

issued_with : (book : Book) (posting : Posting) → issued (record book { postings = book.postings ++ posting ∷ [] })
    ≡ issued book +ℤ posting.cents
unfolding issued
issued_with book posting = int_sum_by-append (λ (p : Posting). p.cents) book.postings (posting ∷ [])
    ∙ omega (arith, ints)

none_issued : (book : Book) → issued book ≡ issued book +ℤ pos 0
none_issued book = omega (arith, ints)

by_outcome : (old new : Book) (command : Command) (reply : OwnReply) (outcome : Outcome) → record {
  reply = reply;
  book = new;
} ≡ outcome → issued outcome.book ≡ issued old +ℤ posted_by_itself command outcome.reply
    → issued new ≡ issued old +ℤ posted_by_itself command reply
by_outcome old new command reply outcome e h = subst (λ (o : Outcome). issued o.book
    ≡ issued old +ℤ posted_by_itself command o.reply) (sym e) h

issued_post : (book : Book) (code reference : List ℕ) (cents : ℤ)
    → issued (post book code reference cents).book ≡ issued book +ℤ posted_by_itself (Post code reference cents)
    (post book code reference cents).reply
unfolding post
issued_post book code reference cents =
    holds_first_of
    (λ (o : Outcome). issued o.book ≡ issued book +ℤ posted_by_itself (Post code reference cents) o.reply) book _ _ (
      none_issued book,
      (
        rw (not_posted (posting_named book reference) code reference cents) (none_issued book),
        (none_issued book, (none_issued book, (none_issued book, (none_issued book, tt)))),
      ),
    )
    (issued_with book _)

module _ (old new : Book) (reply : OwnReply) where
  moves : (command : Command) → OwnStep old command reply new
      → issued new ≡ issued old +ℤ posted_by_itself command reply
  unfolding add with_participant set_credit with_credit open_day let_in order withdraw with_state cut_off resolve
      close_day
  moves (Add code name key) e = by_outcome old new (Add code name key) reply _ e
      (issued_by old (add old code name key).book (book_first_of (λ b. b.postings ≡ old.postings) old _ _ refl refl))
  moves (SetCredit code credit) e = by_outcome old new (SetCredit code credit) reply _ e
      (issued_by old (set_credit old code credit).book (book_first_of (λ b. b.postings ≡ old.postings) old _ _ refl
      refl))
  moves (Post code reference cents) e = by_outcome old new (Post code reference cents) reply _ e
      (issued_post old code reference cents)
  moves (OpenDay new_day) e = by_outcome old new (OpenDay new_day) reply _ e
      (issued_by old (open_day old new_day).book
      (book_first_of (λ b. b.postings ≡ old.postings) old _ _ refl refl))
  moves (PlaceOrder sender new_order) e = by_outcome old new
      (PlaceOrder sender new_order) reply _ e
      (issued_by old (order old sender new_order).book
      (book_first_of (λ b. b.postings ≡ old.postings) old _ _ refl
      (takes_due_postings old (taken_order old sender new_order) new_order.due)))
  moves (Withdraw sender reference) e = by_outcome old new (Withdraw sender reference) reply _ e
      (issued_by old (withdraw old sender reference).book (book_first_of (λ b. b.postings ≡ old.postings) old _ _ refl
      refl))
  moves Resolve e = by_outcome old new Resolve reply _ e.2 (issued_by old (resolve old e.0).book
      (book_first_of (λ b. b.postings ≡ old.postings) old _ _ refl
      (choose_book (λ b. b.postings ≡ old.postings) (is_empty (chosen old e.0)) _ _ refl
      (settle_same old (is_chosen old e.0)))))
  moves (CutOff date) e = by_outcome old new (CutOff date) reply _ e
      (issued_by old (cut_off old date).book (book_first_of (λ b. b.postings ≡ old.postings) old _ _ refl refl))
  moves (CloseDay date) e = by_outcome old new (CloseDay date) reply _ e.2
      (issued_by old (close_day old e.0 date).book (book_first_of (λ b. b.postings ≡ old.postings) old _ _ refl refl))

pub total_moves : TotalIsIssued → KeepsSoundness → (old new : Book) (command : Command) (reply : OwnReply) → IsSound old
    → OwnStep old command reply new → total new ≡ total old +ℤ posted_by_itself command reply
total_moves issue keeps old new command reply h s =
    let sound = keeps old new command reply h s in
    issue new sound.codes_rise sound.parties ∙ moves old new reply command s
    ∙ ap (λ z. z +ℤ posted_by_itself command reply) (sym (issue old h.codes_rise h.parties))

-- ---- marks and settled orders stand

has_map : (f : Order → Order) (os : List Order) (o : Order) → f o ≡ o → Has os o → Has (map f os) o
has_map f [] o fixed h = h
has_map f (x ∷ os) o fixed h = ⊎_elim (λ e. inl (ap f e ∙ fixed)) (λ k. inr (has_map f os o fixed k)) h

has_left : (xs ys : List Order) (o : Order) → Has xs o → Has (xs ++ ys) o
has_left [] ys o h = absurd h
has_left (x ∷ xs) ys o h = ⊎_elim (λ e. inl e) (λ k. inr (has_left xs ys o k)) h

has_all : (P : Order → Type 0) (os : List Order) (o : Order) → AllByRecursion P os → Has os o → P o
has_all P [] o h k = absurd k
has_all P (x ∷ os) o h k = ⊎_elim (λ e. subst P e h.0) (λ m. has_all P os o h.1 m) k

-- a settled order stays as it is where only orders are changed that are not settled
settled_stays : (is_in : Order → Bool) (change : Order → Order) (o : Order) → (is_in o ≡ true → is_settled o ≡ false)
    → is_settled o ≡ true → altered is_in change o ≡ o
settled_stays is_in change o fresh settled = by (is_in o) fresh
  where
    by : (b : Bool) → (b ≡ true → is_settled o ≡ false) → cond b (change o) o ≡ o
    by true f = absurd (true≢false (sym settled ∙ f refl))
    by false f = refl

pub stands_same : (old new : Book) → new.marks ≡ old.marks → new.orders ≡ old.orders → KeepsWhatIsFinal old new
stands_same old new m o = record {
  marks = ([], m ∙ sym (append-nil old.marks));
  orders = λ x h settled. subst (λ os. Has os x) (sym o) h;
}

stands_altered : (old new : Book) (is_in : Order → Bool) (change : Order → Order) → AreUnsettled old is_in
    → (later : List Mark) → new.marks ≡ old.marks ++ later → new.orders ≡ map (altered is_in change) old.orders
    → KeepsWhatIsFinal old new
stands_altered old new is_in change fresh later m o = record {
  marks = (later, m);
  orders = λ x h settled. subst (λ os. Has os x) (sym o) (has_map (altered is_in change) old.orders x
      (settled_stays is_in change x (has_all (λ o. is_in o ≡ true → is_settled o ≡ false) old.orders x fresh h) settled)
      h);
}

stands_settle : (old : Book) (is_in : Order → Bool) → AreQueued old is_in → KeepsWhatIsFinal old (settle old is_in)
stands_settle old is_in queued =
    let fresh = all_weaker (λ o. is_in o ≡ true → is_queued o ≡ true) (λ o. is_in o ≡ true → is_settled o ≡ false)
    (λ o f e. queued_not_settled o.state (f e)) old.orders queued in
    settled_either (KeepsWhatIsFinal old) old is_in (stands_same old old refl refl)
    (λ _. stands_altered old _ is_in (in_state (Settled (next_mark old))) fresh
    (mark_of old (filter is_in old.orders) ∷ []) refl refl)

stands_grown : (old new : Book) → new.marks ≡ old.marks → (later : List Order) → new.orders ≡ old.orders ++ later
    → KeepsWhatIsFinal old new
stands_grown old new m later o = record {
  marks = ([], m ∙ sym (append-nil old.marks));
  orders = λ x has settled. subst (λ os. Has os x) (sym o) (has_left old.orders later x has);
}

pub stands_itself : (book : Book) → KeepsWhatIsFinal book book
stands_itself book = stands_same book book refl refl

pub stands_through : (old mid new : Book) → KeepsWhatIsFinal old mid → KeepsWhatIsFinal mid new
    → KeepsWhatIsFinal old new
stands_through old mid new one rest = record {
  marks = (
    one.marks.0 ++ rest.marks.0,
    rest.marks.1 ∙ ap (λ ms. ms ++ rest.marks.0) one.marks.1 ∙ append_assoc old.marks one.marks.0 rest.marks.0,
  );
  orders = λ o has settled. rest.orders o (one.orders o has settled) settled;
}

-- the order that joins its queue is the only one with its number
module _ (book : Book) (sender : List ℕ) (new_order : NewOrder) (h : IsSound book) where
  one_new : AllByRecursion (λ o. has_number (length book.orders + 1) o ≡ true → is_queued o ≡ true)
      (book.orders ++ taken_order book sender (with_due new_order None) ∷ [])
  one_new = all_push (λ o. has_number (length book.orders + 1) o ≡ true → is_queued o ≡ true) book.orders
      (taken_order book sender (with_due new_order None))
      (all_weaker (λ o. has_number (length book.orders + 1) o ≡ false)
      (λ o. has_number (length book.orders + 1) o ≡ true → is_queued o ≡ true)
      (λ o none e. absurd (true≢false (sym e ∙ none))) book.orders
      (old_numbers book sender new_order h)) (λ _. refl)

  joined_stands : (due : Option ℕ)
      → KeepsWhatIsFinal book (with_order book (taken_order book sender (with_due new_order due)))
  joined_stands due =
      let new = taken_order book sender (with_due new_order due) in
      stands_grown book (with_order book new) refl (new ∷ []) refl

  takes_stands : (due : Option ℕ)
      → KeepsWhatIsFinal book (takes_due book (taken_order book sender (with_due new_order due)) due).book
  unfolding takes
  takes_stands None =
      let new = taken_order book sender (with_due new_order None) in
      choose_book (KeepsWhatIsFinal book) (settles_at_once book sender new_order.amount) _ _
      (stands_through book (with_order book new) (settle (with_order book new) (has_number (length book.orders + 1)))
      (joined_stands None) (stands_settle (with_order book new) (has_number (length book.orders + 1)) one_new))
      (joined_stands None)
  takes_stands (Some due) = joined_stands (Some due)

withdraw_stands : (book : Book) (sender reference : List ℕ) → IsSound book
    → KeepsWhatIsFinal book (withdraw book sender reference).book
unfolding withdraw with_state order_named
withdraw_stands book sender reference h = sound_first (KeepsWhatIsFinal book) book _ _ (stands_same book book refl refl)
    (λ (_, (_, (_, (waits, _)))). by (order_named book sender reference) refl (from_not _ waits))
  where
    by : (found : Option Order) → order_named book sender reference ≡ found → is_waiting_order found ≡ true
        → KeepsWhatIsFinal book (with_state book (has_number (number_of found)) Withdrawn)
    by None e q = absurd (true≢false (sym q))
    by (Some o) e q = stands_altered book _ (has_number o.number) (in_state Withdrawn)
        (found_by_number (λ other. is_settled other ≡ false) (is_order_named sender reference) 1 book.orders o
        (h.orders_numbered.0 ∙ ap (range_with_len 1) (length-map book.orders (λ (o : Order). o.number))) e
        (waiting_not_settled o.state q)) [] (sym (append-nil book.marks)) refl

stays : (old new : Book) (reply : OwnReply) (outcome : Outcome) → record { reply = reply; book = new } ≡ outcome
    → KeepsWhatIsFinal old outcome.book → KeepsWhatIsFinal old new
stays old new reply outcome e h = subst (λ (o : Outcome). KeepsWhatIsFinal old o.book) (sym e) h

pub step_stands : (old new : Book) (command : Command) (reply : OwnReply) → IsSound old → OwnStep old command reply new
    → KeepsWhatIsFinal old new
unfolding add with_participant set_credit with_credit post open_day let_in order with_state cut_off resolve close_day
step_stands old new (Add code name key) reply h e = stays old new reply _ e
    (book_first_of (KeepsWhatIsFinal old) old _ _ (stands_same old old refl refl) (stands_same old _ refl refl))
step_stands old new (SetCredit code credit) reply h e = stays old new reply _ e
    (book_first_of (KeepsWhatIsFinal old) old _ _ (stands_same old old refl refl) (stands_same old _ refl refl))
step_stands old new (Post code reference cents) reply h e = stays old new reply _ e
    (book_first_of (KeepsWhatIsFinal old) old _ _ (stands_same old old refl refl) (stands_same old _ refl refl))
step_stands old new (OpenDay new_day) reply h e = stays old new reply _ e
    (book_first_of (KeepsWhatIsFinal old) old _ _ (stands_same old old refl refl)
    (stands_altered old _ (is_due new_day.date) (entered new_day.date) (due_unsettled old new_day.date) []
    (sym (append-nil old.marks)) refl))
step_stands old new (PlaceOrder sender new_order) reply h e =
    stays old new reply _ e (book_first_of (KeepsWhatIsFinal old) old _ _ (stands_same old old refl refl)
    (takes_stands old sender new_order h new_order.due))
step_stands old new (Withdraw sender reference) reply h e = stays old new reply _ e
    (withdraw_stands old sender reference h)
step_stands old new Resolve reply h e = stays old new reply _ e.2
    (book_first_of (KeepsWhatIsFinal old) old _ _ (stands_same old old refl refl)
    (choose_book (KeepsWhatIsFinal old) (is_empty (chosen old e.0)) _ _ (stands_same old old refl refl)
    (stands_settle old (is_chosen old e.0) (all_of (λ o. is_chosen old e.0 o ≡ true → is_queued o ≡ true)
    (chosen_queued old e.0) old.orders))))
step_stands old new (CutOff date) reply h e = stays old new reply _ e
    (book_first_of (KeepsWhatIsFinal old) old _ _ (stands_same old old refl refl) (stands_same old _ refl refl))
step_stands old new (CloseDay date) reply h e = stays old new reply _ e.2
    (book_first_of (KeepsWhatIsFinal old) old _ _ (stands_same old old refl refl)
    (stands_altered old _ is_queued (in_state Rejected) (queued_unsettled old) [] (sym (append-nil old.marks)) refl))

-- ---- amounts keep their ranges

-- amounts keep their range where orders are changed in what is not their amount
fits_orders : (old : Book) (is_in : Order → Bool) (change : Order → Order)
    → ((o : Order) → (change o).amount ≡ o.amount) → AllByRecursion (λ (o : Order). IsAmount o.amount) old.orders
    → AllByRecursion (λ (o : Order). IsAmount o.amount) (map (altered is_in change) old.orders)
fits_orders old is_in change same h = all_changed (λ (o : Order). IsAmount o.amount) is_in change old.orders
    (all_of (λ o. is_in o ≡ true → IsAmount o.amount → IsAmount (change o).amount)
    (λ o e k. subst IsAmount (sym (same o)) k) old.orders) h

fits_as : (old new : Book) → new.participants ≡ old.participants → new.postings ≡ old.postings
    → AllByRecursion (λ (o : Order). IsAmount o.amount) new.orders → Fits old → Fits new
fits_as old new p q orders h = record {
  credits = subst (AllByRecursion (λ (p : Participant). IsCredit p.credit)) (sym p) h.credits;
  postings = subst (AllByRecursion (λ (p : Posting). IsPostingAmount p.cents)) (sym q) h.postings;
  orders = orders;
}

fits_settle : (old : Book) (is_in : Order → Bool) → Fits old → Fits (settle old is_in)
fits_settle old is_in h =
    settled_either Fits old is_in h
    (λ _. fits_as old _ refl refl (fits_orders old is_in (in_state (Settled (next_mark old))) (λ o. refl) h.orders) h)

fits_add : (book : Book) (new : Participant) → IsCredit new.credit → Fits book → Fits (with_participant book new)
unfolding with_participant
fits_add book new credit h = record {
  credits = all_append (λ (p : Participant). IsCredit p.credit)
      (filter (λ (p : Participant). is_before p.code new.code) book.participants) _
      (all_filter (λ (p : Participant). IsCredit p.credit)
      (λ p. is_before p.code new.code) book.participants h.credits) (
        credit,
        all_filter (λ (p : Participant). IsCredit p.credit) (λ p. not (is_before p.code new.code))
            book.participants h.credits,
      );
  postings = h.postings;
  orders = h.orders;
}

fits_credit : (book : Book) (code : List ℕ) (credit : ℕ) → IsCredit credit → Fits book
    → Fits (with_credit book code credit)
unfolding with_credit
fits_credit book code credit k h = record {
  credits = all_map (λ (p : Participant). IsCredit p.credit)
      (λ p. cond (has_code code p) (record p { credit = credit }) p) book.participants
      (all_weaker (λ (p : Participant). IsCredit p.credit) (λ p. IsCredit
      (cond (has_code code p) (record p { credit = credit }) p).credit) (λ p x. by p (has_code code p) x)
      book.participants h.credits);
  postings = h.postings;
  orders = h.orders;
}
  where
    by : (p : Participant) (b : Bool) → IsCredit p.credit → IsCredit (cond b (record p { credit = credit }) p).credit
    by p true x = k
    by p false x = x

fits_takes : (book : Book) (o : Order) → IsAmount o.amount → Fits book → Fits (takes book o).book
unfolding takes
fits_takes book o amount h =
    let queued = fits_as book (with_order book o) refl refl (all_push (λ (o : Order). IsAmount o.amount) book.orders o
    h.orders amount) h in
    choose_book Fits (settles_at_once book o.sender o.amount) _ _
    (fits_settle (with_order book o) (has_number o.number) queued) queued

fits_takes_due : (book : Book) (o : Order) (due : Option ℕ) → IsAmount o.amount → Fits book
    → Fits (takes_due book o due).book
fits_takes_due book o None amount h = fits_takes book o amount h
fits_takes_due book o (Some due) amount h =
    fits_as book (with_order book o) refl refl (all_push (λ (o : Order). IsAmount o.amount) book.orders o h.orders
    amount) h

fitting : (new : Book) (reply : OwnReply) (outcome : Outcome) → record { reply = reply; book = new } ≡ outcome
    → Fits outcome.book → Fits new
fitting new reply outcome e h = subst (λ (o : Outcome). Fits o.book) (sym e) h

pub step_fits : (old new : Book) (command : Command) (reply : OwnReply) → CommandFits command → Fits old
    → OwnStep old command reply new → Fits new
unfolding add set_credit post open_day let_in order withdraw with_state cut_off resolve close_day
step_fits old new (Add code name key) reply fits h e = fitting new reply _ e
    (book_first_of Fits old _ _ h (fits_add old (record { code = code; name = name; key = key; credit = 0 })
    (omega arith) h))
step_fits old new (SetCredit code credit) reply fits h e = fitting new reply _ e
    (book_first_of Fits old _ _ h (fits_credit old code credit fits h))
step_fits old new (Post code reference cents) reply fits h e =
    fitting new reply _ e (book_first_of Fits old _ _ h (record {
      credits = h.credits;
      postings = all_push (λ (p : Posting). IsPostingAmount p.cents) old.postings _ h.postings fits;
      orders = h.orders;
    }))
step_fits old new (OpenDay new_day) reply fits h e = fitting new reply _ e
    (book_first_of Fits old _ _ h (fits_as old _ refl refl (fits_orders old (is_due new_day.date)
    (entered new_day.date) (λ o. refl) h.orders) h))
step_fits old new (PlaceOrder sender new_order) reply fits h e =
    fitting new reply _ e (book_first_of Fits old _ _ h (fits_takes_due old
    (taken_order old sender new_order) new_order.due fits h))
step_fits old new (Withdraw sender reference) reply fits h e =
    fitting new reply _ e (book_first_of Fits old _ _ h (fits_as old _ refl refl
    (fits_orders old (has_number (number_of (order_named old sender reference))) (in_state Withdrawn) (λ o. refl)
    h.orders) h))
step_fits old new Resolve reply fits h e = fitting new reply _ e.2
    (book_first_of Fits old _ _ h (choose_book Fits (is_empty (chosen old e.0)) _ _ h
    (fits_settle old (is_chosen old e.0) h)))
step_fits old new (CutOff date) reply fits h e = fitting new reply _ e
    (book_first_of Fits old _ _ h (fits_as old _ refl refl h.orders h))
step_fits old new (CloseDay date) reply fits h e = fitting new reply _ e.2
    (book_first_of Fits old _ _ h (fits_as old _ refl refl (fits_orders old is_queued (in_state Rejected) (λ o. refl)
    h.orders) h))

-- ---- marks, and settling

pub few_marks : (book : Book) → IsSound book → length book.marks ≤ length book.orders
few_marks book h =
    let le = marks_le book (λ o. false) h.marks_numbered h.marks.1
    (all_of (λ o. false ≡ true → is_queued o ≡ true) (λ o e. absurd (true≢false (sym e))) book.orders) in
    omega arith

pub settle_total : TotalIsIssued → (book : Book) (is_in : Order → Bool) → IsSound book
    → total (settle book is_in) ≡ total book
settle_total issue book is_in h = settled_either (λ new. total new ≡ total book) book is_in refl
    (λ _. total-with_batch issue book is_in h.codes_rise h.parties)
