-- A command that acted is known, and where it is known it acts no more.
use Rattle.std.proofs.Common.{◌≡◌, ℕ, ◌+◌, Bool, true, false, cond, ◌||◌, List, [], ◌∷◌, ◌++◌, map, length}
use Rattle.std.proofs.Common.{Option, Some, None, Ok, find, is_some, is_none, refl, sym, ap, ◌∙◌, subst, true≢false, ℤ}
use Rattle.std.proofs.lemmas.Bool.{not-false, and_from, not_from_true}
use Rattle.std.specs.List.{list_any}
use Rattle.std.specs.Ordering.{int_eq}
use Rattle.std.specs.Str.{bytes_eq}
use Rattle.std.specs.Cmp.Lexicographic.{bytes_decides}
use Rattle.rtgs_book.specs.declared.book.Book.{Book}
use Rattle.rtgs_book.specs.declared.participant.Participant.{Participant}
use Rattle.rtgs_book.specs.declared.posting.Posting.{Posting}
use Rattle.rtgs_book.specs.declared.new_order.NewOrder.{NewOrder}
use Rattle.rtgs_book.specs.declared.order.Order.{Order}
use Rattle.rtgs_book.specs.declared.order_state.OrderState.{OrderState}
use Rattle.rtgs_book.specs.declared.order_state.OrderState.TheVariants.{Withdrawn}
use Rattle.rtgs_book.specs.declared.command.Command.{Command}
use Rattle.rtgs_book.specs.declared.command.Command.TheVariants.{Add, Post, Order as PlaceOrder, Withdraw}
use Rattle.rtgs_book.specs.declared.answer.Answer.TheVariants as answer
use Rattle.rtgs_book.specs.declared.answer.Known.TheVariants as known
use Rattle.rtgs_book.specs.Books.{is_waiting_state, is_withdrawn_state}
use Rattle.rtgs_book.specs.Commands.{repeated, add, with_participant, is_same_participant, post, is_same_posting}
use Rattle.rtgs_book.specs.Commands.{known_posting, order, is_same_order, known_order, taken_order, takes}
use Rattle.rtgs_book.specs.Commands.{as_sent, says_the_same, is_same_due, takes_due}
use Rattle.rtgs_book.specs.Commands.{settles_at_once, has_number, withdraw, is_withdrawn_order, number_of, with_state}
use Rattle.rtgs_book.specs.Lookup.{has_code, codes_of, participant_of, is_participant, is_order_named, order_named}
use Rattle.rtgs_book.specs.Lookup.{is_posting_named, posting_named}
use Rattle.rtgs_book.specs.Outcome.{OwnReply, Reply, Outcome, alone, is_done}
use Rattle.rtgs_book.specs.Run.{is_accepted}
use Rattle.rtgs_book.specs.Settle.{restated}
use Rattle.rtgs_book.specs.Soundness.{IsSound}
use Rattle.rtgs_book.specs.Step.{OwnStep, Step}
use Rattle.rtgs_laws.specs.repeats.Kept.{AreKept}
use Rattle.rtgs_laws.specs.repeats.Repeats.{acts_once, own_number, answered_number, IsRepeat}
use Rattle.rtgs_laws.proofs.repeats.Finds.{find_right}
use Rattle.rtgs_laws.proofs.repeats.Following.{quietly, own_accepted, own_numbered}
use Rattle.rtgs_laws.proofs.repeats.Kept.{found_restated, find_added}
use Rattle.rtgs_laws.proofs.repeats.KeptSteps.{kept_joined}
use Rattle.rtgs_laws.proofs.repeats.Passing.{passed_step, choose, first_holds, second_holds, third_holds}
use Rattle.rtgs_lists.proofs.Codes.{bytes_eq_comm, bytes_eq_self}
use Rattle.rtgs_lists.proofs.Numbers.{eq_self, int_eq_self}

-- a code is a participant's where one is found under it
pub known_participant : (book : Book) (code : List ℕ) → is_participant book code ≡ is_some (participant_of book code)
unfolding is_participant codes_of participant_of
known_participant book code = by book.participants
  where
    by : (ps : List Participant) → list_any (bytes_eq code) (map (λ (p : Participant). p.code) ps)
        ≡ is_some (find (has_code code) ps)
    by [] = refl
    by (p ∷ ps) = rw (bytes_eq_comm code p.code) (at (bytes_eq p.code code) (by ps))
      where
        at : (b : Bool) → list_any (bytes_eq code) (map (λ (p : Participant). p.code) ps)
            ≡ is_some (find (has_code code) ps) → (b || list_any (bytes_eq code) (map (λ (p : Participant). p.code) ps))
            ≡ is_some (cond b (Some p) (find (has_code code) ps))
        at true rest = refl
        at false rest = rest

pub same_participant : (old new : Book) (code : List ℕ) → new.participants ≡ old.participants
    → is_participant new code ≡ is_participant old code
unfolding is_participant codes_of
same_participant old new code same = λ i. list_any (bytes_eq code) (map (λ p. p.code) (same i))

pub there : {X : Type 0} (o : Option X) → is_some o ≡ true → (x : X) × (o ≡ Some x)
there None e = absurd (true≢false (sym e))
there (Some x) e = (x, refl)

pub participant_kept : (old new : Book) (code : List ℕ) → AreKept old new → is_participant old code ≡ true
    → is_participant new code ≡ true
participant_kept old new code kept e =
    let p = there (participant_of old code) (sym (known_participant old code) ∙ e) in
    let q = kept.participants code p.0 p.1 in
    known_participant new code ∙ ap is_some q.1

-- ---- a participant

add_known : (book : Book) (code name key : List ℕ) (p : Participant) → participant_of book code ≡ Some p → p.name ≡ name
    → p.key ≡ key → OwnStep book (Add code name key) repeated book
unfolding add
add_known book code name key p e n k = sym (first_holds _ _ _ _ _
    (ap (λ found. is_same_participant found name key) e ∙ and_from _ _ ((bytes_decides p.name name).1 n)
    ((bytes_decides p.key key).1 k)))

added_known : (old new : Book) (reply : OwnReply) (code name key : List ℕ) → is_done reply ≡ true
    → OwnStep old (Add code name key) reply new
    → (p : Participant) × (participant_of new code ≡ Some p) × (p.name ≡ name)
    × (p.key ≡ key)
unfolding add with_participant participant_of
added_known old new reply code name key accepted s =
    let p = passed_step old new reply _ _ (refl, (refl, (refl, (refl, tt)))) accepted s in
    let book = ap (λ (o : Outcome). o.book) p.1 in (
      record { code = code; name = name; key = key; credit = 0 },
      ap (λ (b : Book). find (has_code code) b.participants)
          book ∙ find_added (record { code = code; name = name; key = key; credit = 0 }) old.participants p.0.1.0,
      refl,
      refl,
    )

-- ---- a posting

pub not_accepted_posting : (found : Option Posting) → is_done (known_posting found) ≡ false
not_accepted_posting None = refl
not_accepted_posting (Some p) = refl

pub posting_same : (p : Posting) (code : List ℕ) (cents : ℤ) → p.code ≡ code → p.cents ≡ cents
    → is_same_posting (Some p) code cents ≡ true
posting_same p code cents c z = and_from _ _ ((bytes_decides p.code code).1 c)
    (ap (int_eq p.cents) (sym z) ∙ int_eq_self p.cents)

post_known : (book : Book) (code reference : List ℕ) (cents : ℤ) (p : Posting) → is_participant book code ≡ true
    → posting_named book reference ≡ Some p → p.code ≡ code → p.cents ≡ cents
    → OwnStep book (Post code reference cents) (Ok (answer.Repeated (known.Posting p.number))) book
unfolding post
post_known book code reference cents p has e c z =
    sym (second_holds _ _ _ _ _ _ _ (not_from_true _ has) (ap (λ found. is_same_posting found code cents) e
    ∙ posting_same p code cents c z) ∙ (λ i. record { reply = known_posting (e i); book = book }))

pub posted_known : (old new : Book) (reply : OwnReply) (code reference : List ℕ) (cents : ℤ) → is_done reply ≡ true
    → OwnStep old (Post code reference cents) reply new
    → (p : Posting) × (posting_named new reference ≡ Some p) × (p.code ≡ code) × (p.cents ≡ cents)
    × (p.number ≡ own_number reply) × (is_participant old code ≡ true)
unfolding post posting_named
posted_known old new reply code reference cents accepted s =
    let p = passed_step old new reply _ _ (refl, (not_accepted_posting _, (refl, (refl, (refl, (refl, tt)))))) accepted
    s in
    let book = ap (λ (o : Outcome). o.book) p.1 in
    let number = ap (λ (o : Outcome). own_number o.reply) p.1 in
    let posting : Posting = record {
      number = length old.postings + 1;
      code = code;
      reference = reference;
      cents = cents;
      date = old.day.date;
    } in (
      posting,
      ap (λ (b : Book). find (is_posting_named reference) b.postings) book
          ∙ find_right (is_posting_named reference) old.postings (posting ∷ []) p.0.1.1.0
          ∙ rw (bytes_eq_self reference) refl,
      refl,
      refl,
      sym number,
      not-false _ p.0.0,
    )

-- ---- an order

pub not_accepted_order : (found : Option Order) → is_done (known_order found) ≡ false
not_accepted_order None = refl
not_accepted_order (Some o) = refl

same_due_self : (due : Option ℕ) → is_same_due due due ≡ true
same_due_self None = refl
same_due_self (Some due) = eq_self due

says_itself : (said : NewOrder) → says_the_same said said ≡ true
says_itself said =
    and_from _ _ (and_from _ _ (bytes_eq_self said.receiver) (eq_self said.amount)) (same_due_self said.due)

order_known : (book : Book) (sender : List ℕ) (new_order : NewOrder) (o : Order)
    → is_participant book sender ≡ true → order_named book sender new_order.reference ≡ Some o
    → says_the_same (as_sent o) new_order ≡ true → OwnStep book (PlaceOrder sender new_order)
    (Ok (answer.Repeated (known.Order o.number o.state))) book
unfolding order
order_known book sender new_order o has e same =
    sym (second_holds _ _ _ _ _ _ _ (not_from_true _ has) (ap (λ found. is_same_order found new_order) e
    ∙ same) ∙ (λ i. record { reply = known_order (e i); book = book }))

taken_number : (book : Book) (o : Order) → own_number (takes book o).reply ≡ o.number
unfolding takes
taken_number book o = choose (λ (out : Outcome). own_number out.reply ≡ o.number)
    (settles_at_once book o.sender o.amount) _ _ refl refl

taken_due_number : (book : Book) (o : Order) (due : Option ℕ)
    → own_number (takes_due book o due).reply ≡ o.number
taken_due_number book o None = taken_number book o
taken_due_number book o (Some due) = refl

pub ordered_known : (old new : Book) (reply : OwnReply) (sender : List ℕ) (new_order : NewOrder) → IsSound old
    → is_done reply ≡ true → OwnStep old (PlaceOrder sender new_order) reply new
    → (o : Order) × (order_named new sender new_order.reference ≡ Some o)
    × (says_the_same (as_sent o) new_order ≡ true) × (o.number ≡ own_number reply) × (is_participant old sender ≡ true)
unfolding order order_named
ordered_known old new reply sender new_order h accepted s =
    let p = passed_step old new reply _ _ (
      refl,
      (
        not_accepted_order _,
        (refl, (refl, (refl, (refl, (refl, (refl, (refl, (refl, tt)))))))),
      ),
    ) accepted s in
    let book = ap (λ (o : Outcome). o.book) p.1 in
    let number = ap (λ (o : Outcome). own_number o.reply) p.1
    ∙ taken_due_number old (taken_order old sender new_order) new_order.due in
    let joined : find (is_order_named sender new_order.reference) (old.orders ++ taken_order old sender new_order ∷ [])
    ≡ Some (taken_order old sender new_order) =
    find_right (is_order_named sender new_order.reference) old.orders (taken_order old sender new_order ∷ [])
    p.0.1.1.0 ∙ rw (bytes_eq_self sender, bytes_eq_self new_order.reference) refl in
    let later = (kept_joined old sender new_order h.orders_numbered new_order.due).orders sender new_order.reference
    (taken_order old sender new_order) joined in (
      later.0,
      ap (λ (b : Book). find (is_order_named sender new_order.reference) b.orders) book
          ∙ later.1,
      ap (λ said. says_the_same said new_order) later.2.said ∙ says_itself new_order,
      later.2.number ∙ sym number,
      not-false _ p.0.0,
    )

-- ---- a withdrawal

withdrawn_known : (book : Book) (sender reference : List ℕ) (o : Order) → is_participant book sender ≡ true
    → order_named book sender reference ≡ Some o → o.state ≡ Withdrawn
    → OwnStep book (Withdraw sender reference) (Ok (answer.Repeated (known.Order o.number Withdrawn))) book
unfolding withdraw
withdrawn_known book sender reference o has e w =
    sym (third_holds _ _ _ _ _ _ _ _ _ (not_from_true _ has) (ap is_none e)
    (ap is_withdrawn_order e ∙ withdrawn o.state w) ∙ (λ i. record { reply = known_order (e i); book = book })
    ∙ (λ i. record { reply = Ok (answer.Repeated (known.Order o.number (w i))); book = book }))
  where
    withdrawn : (s : OrderState) → s ≡ Withdrawn → is_withdrawn_state s ≡ true
    withdrawn s same = ap is_withdrawn_state same

took_back : (old new : Book) (reply : OwnReply) (sender reference : List ℕ) → is_done reply ≡ true
    → OwnStep old (Withdraw sender reference) reply new
    → (o : Order) × (order_named new sender reference ≡ Some o) × (o.state ≡ Withdrawn)
    × (o.number ≡ own_number reply) × (is_participant old sender ≡ true)
unfolding withdraw order_named with_state
took_back old new reply sender reference accepted s =
    let p = passed_step old new reply _ _ (refl, (refl, (not_accepted_order _, (refl, tt)))) accepted s in
    let book = ap (λ (o : Outcome). o.book) p.1 in
    let number = ap (λ (o : Outcome). own_number o.reply) p.1 in
    by (find (is_order_named sender reference) old.orders) refl p.0.1.0 book number (not-false _ p.0.0)
  where
    by : (found : Option Order) → find (is_order_named sender reference) old.orders ≡ found → is_none found ≡ false
        → new ≡ record old { orders = map (restated (has_number (number_of found)) Withdrawn) old.orders }
        → own_number reply ≡ number_of found → is_participant old sender ≡ true
        → (o : Order) × (find (is_order_named sender reference) new.orders ≡ Some o) × (o.state ≡ Withdrawn)
        × (o.number ≡ own_number reply) × (is_participant old sender ≡ true)
    by None e some book number has = absurd (true≢false some)
    by (Some o) e some book number has = (
      restated (has_number o.number) Withdrawn o,
      ap (λ (b : Book). find (is_order_named sender reference) b.orders) book
          ∙ found_restated sender reference (has_number o.number) Withdrawn old.orders o e,
      rw (eq_self o.number) refl,
      rw (eq_self o.number) (sym number),
      has,
    )

-- ---- each command that acts once

module _ (old mid new : Book) (reply : OwnReply) (h : IsSound old) (accepted : is_done reply ≡ true)
    (kept : AreKept old mid) (later : AreKept mid new) where
  still : (code : List ℕ) → is_participant old code ≡ true → is_participant new code ≡ true
  still code e = participant_kept mid new code later (participant_kept old mid code kept e)

  own_acted : (command : Command) → acts_once command ≡ true → OwnStep old command reply mid
      → (again : Reply) × IsRepeat new command (own_number reply) again × Step new command again new
  own_acted (Add code name key) once s =
      let p = added_known old mid reply code name key accepted s in
      let q = later.participants code p.0 p.1 in (
        alone repeated,
        refl,
        quietly new (Add code name key) repeated refl
            (add_known new code name key q.0 q.1 (q.2.name ∙ p.2) (q.2.key ∙ p.3)),
      )
  own_acted (Post code reference cents) once s =
      let p = posted_known old mid reply code reference cents accepted s in (
        alone (Ok (answer.Repeated (known.Posting p.0.number))),
        ap (λ n. alone (Ok (answer.Repeated (known.Posting n)))) p.4,
        quietly new (Post code reference cents) (Ok (answer.Repeated (known.Posting p.0.number))) refl
            (post_known new code reference cents p.0 (still code p.5) (later.postings reference p.0 p.1) p.2 p.3),
      )
  own_acted (PlaceOrder sender new_order) once s =
      let p = ordered_known old mid reply sender new_order h accepted s in
      let q = later.orders sender new_order.reference p.0 p.1 in (
        alone (Ok (answer.Repeated (known.Order q.0.number q.0.state))),
        (
          q.0,
          q.1,
          q.2.number ∙ p.3,
          ap (λ n. alone (Ok (answer.Repeated (known.Order n q.0.state)))) (q.2.number ∙ p.3),
        ),
        quietly new (PlaceOrder sender new_order)
            (Ok (answer.Repeated (known.Order q.0.number q.0.state))) refl
            (order_known new sender new_order q.0 (still sender p.4) q.1
            (ap (λ said. says_the_same said new_order) q.2.said ∙ p.2)),
      )
  own_acted (Withdraw sender reference) once s =
      let p = took_back old mid reply sender reference accepted s in
      let q = later.orders sender reference p.0 p.1 in (
        alone (Ok (answer.Repeated (known.Order q.0.number Withdrawn))),
        ap (λ n. alone (Ok (answer.Repeated (known.Order n Withdrawn)))) (q.2.number ∙ p.3),
        quietly new (Withdraw sender reference) (Ok (answer.Repeated (known.Order q.0.number Withdrawn))) refl
            (withdrawn_known new sender reference q.0 (still sender p.4) q.1
            (q.2.state (ap is_waiting_state p.2) ∙ p.2)),
      )
  own_acted other once s = absurd (true≢false (sym once))

-- what follows a command keeps what it made
pub acted : (old mid new : Book) (command : Command) (reply : Reply) → IsSound old → acts_once command ≡ true
    → is_accepted reply ≡ true → (s : Step old command reply mid) → AreKept old s.0.book → AreKept s.0.book new
    → (again : Reply) × IsRepeat new command (answered_number reply) again × Step new command again new
acted old mid new command reply h once accepted s kept later =
    let k = own_acted old s.0.book new s.0.reply h (own_accepted old mid command reply s accepted) kept later
    command once s.1 in
    (k.0, subst (λ n. IsRepeat new command n k.0) (sym (own_numbered old mid command reply s)) k.1, k.2)
