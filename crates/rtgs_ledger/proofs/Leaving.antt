-- An order that waits no more, and the limits after it.
use Rattle.std.proofs.Common.{◌≡◌, ℕ, suc, ◌<◌, ◌-◌, ℤ, pos, ◌+ℤ◌, ◌≤ℤ◌, Bool, true, false, cond, eqb, not}
use Rattle.std.proofs.Common.{◌&&◌, List, [], ◌∷◌, ◌++◌, map, length, get_or, refl, sym, ap, ◌∙◌, subst, arith}
use Rattle.std.proofs.Common.{filter, find, Option, Some, None, IfSome}
use Rattle.std.proofs.lemmas.Bool.Decides.{nat_tests}
use Rattle.std.proofs.lemmas.Int.{ints}
use Rattle.std.proofs.lemmas.List.{length-map, length-append, get_or-append-add, get_or_default, nil_from_length}
use Rattle.std.proofs.lemmas.List.Elements.{filter-append}
use Rattle.std.specs.List.{AllByRecursion, position_or_len}
use Rattle.std.specs.Str.{bytes_eq}
use Rattle.rtgs_book.specs.declared.change.RowChange.TheVariants.{SetState}
use Rattle.rtgs_book.specs.declared.cores.cores.Core.{Core}
use Rattle.rtgs_book.specs.declared.order_state.OrderState.{OrderState}
use Rattle.rtgs_book.specs.declared.order.Order.{Order}
use Rattle.rtgs_book.specs.Books.{is_queued}
use Rattle.rtgs_book.specs.Commands.{has_number}
use Rattle.rtgs_book.specs.Queue.{queued_among}
use Rattle.rtgs_book.specs.cores.Following.{core_after_row}
use Rattle.rtgs_gridlock.specs.declared.queues.Payment.{Payment}
use Rattle.rtgs_gridlock.specs.Choices.{queue_of}
use Rattle.rtgs_gridlock.specs.Slack.{IsAppended, IsCeiling, IsWithdrawn}
use Rattle.rtgs_choices.proofs.Indexes.{code_at_index}
use Rattle.rtgs_lists.proofs.Codes.{bytes_eq_self}
use Rattle.rtgs_lists.proofs.Filters.{filter_all}
use Rattle.rtgs_lists.proofs.Lists.{all_at_place, all_filter, all_weaker}
use Rattle.rtgs_records.specs.accounts.Accounts.{code_of, CodesRiseStrictly}
use Rattle.rtgs_records.specs.queues.Orders.{AreRising}
use Rattle.rtgs_ledger.specs.Choosing.{payment_in, queues_in}
use Rattle.rtgs_ledger.specs.Limits.{Lowers}
use Rattle.rtgs_ledger.proofs.Appending.{appended, rest_at, withdrawn}
use Rattle.rtgs_ledger.proofs.Limits.{payment_among, queue_with, queues_same}
use Rattle.rtgs_ledger.proofs.Reach.{same_number}

-- the order with a number among those that wait: which stand before it and behind it, and are all the others
pub record Stands (waiting : List Order) (number : ℕ) (o : Order) : Type 0 where
  pub earlier : List Order
  pub later : List Order
  pub with_it : waiting ≡ earlier ++ o ∷ later
  pub without : filter (λ x. not (has_number number x)) waiting ≡ earlier ++ later
  pub above : AllByRecursion (λ (x : Order). number < x.number) later

other_number : (number : ℕ) (x : Order) → number < x.number → not (has_number number x) ≡ true
other_number number x above = grind (arith, nat_tests)

pub stands : (waiting : List Order) (number : ℕ) (o : Order) → AreRising waiting
    → find (has_number number) waiting ≡ Some o → Stands waiting number o
stands [] number o rise found = absurd (let f : None ≡ Some o = found in cc)
stands (x ∷ xs) number o rise found = by (has_number number x) refl found (stands xs number o rise.1)
  where
    by : (b : Bool) → has_number number x ≡ b → cond b (Some x) (find (has_number number) xs) ≡ Some o
        → (find (has_number number) xs ≡ Some o → Stands xs number o) → Stands (x ∷ xs) number o
    by true e found rest =
        let same : x ≡ o = cc in
        let above : AllByRecursion (λ (y : Order). number < y.number) xs =
        subst (λ (n : ℕ). AllByRecursion (λ (y : Order). n < y.number) xs) (same_number number x e) rise.0 in
        record {
          earlier = [];
          later = xs;
          with_it = ap (λ (y : Order). y ∷ xs) same;
          without = rw e (filter_all (λ y. not (has_number number y)) xs
              (all_weaker (λ (y : Order). number < y.number) (λ y. not (has_number number y) ≡ true)
              (other_number number) xs above));
          above = above;
        }
    by false e found rest =
        let there = rest found in
        record {
          earlier = x ∷ there.earlier;
          later = there.later;
          with_it = ap (λ (ys : List Order). x ∷ ys) there.with_it;
          without = rw e (ap (λ (ys : List Order). x ∷ ys) there.without);
          above = there.above;
        }

-- where it has the last number of its queue, none stands behind it there
none_behind : (xs ys : List Order) (o : Order) (number : ℕ) → AllByRecursion (λ (x : Order). number < x.number) ys
    → (get_or (xs ++ o ∷ ys) (length (xs ++ o ∷ ys) - 1) o).number ≡ number → ys ≡ []
none_behind xs [] o number above last = refl
none_behind xs (y ∷ ys) o number above last =
    let at : get_or (xs ++ o ∷ y ∷ ys) (length (xs ++ o ∷ y ∷ ys) - 1) o ≡ get_or (y ∷ ys) (length ys) o =
    ap (λ (n : ℕ). get_or (xs ++ o ∷ y ∷ ys) n o) (omega (arith, length-append xs (o ∷ y ∷ ys)))
    ∙ get_or-append-add xs (o ∷ y ∷ ys) (suc (length ys)) o in
    let higher = all_at_place (λ (x : Order). number < x.number) (y ∷ ys) above (length ys) o (omega arith) in
    absurd (omega (arith, last, ap (λ (x : Order). x.number) at, higher))

-- where what is queued without the order is a part of what was queued, no limit falls
pub no_limit_falls : (core later : Core) (index : ℕ) (empties : Option ℕ)
    → length (queues_in later) ≡ length (queues_in core)
    → ((limits : ℕ → ℤ) → IsCeiling (queues_in core) (λ _. 0) limits → IsCeiling (queues_in later) (λ _. 0) limits)
    → IfSome empties (λ s. queue_of (queues_in later) s ≡ [])
    → Lowers core later (record { index = index; cents = 0; begins = None; empties = empties })
no_limit_falls core later index empties count keeps none = record {
  count = count;
  ceiling = λ limits lower is less _. keeps lower (record {
    at_most = λ positions below other feasible p b. is.at_most positions
        (λ q c. omega (arith, ints, below q c, less q c, same_of (eqb index q) 0)) other feasible p b;
  });
  begins = tt;
  empties = none;
}
  where
    same_of : (b : Bool) (n : ℕ) → cond b n n ≡ n
    same_of true n = refl
    same_of false n = refl

pub nothing_falls : (core later : Core) → queues_in later ≡ queues_in core
    → Lowers core later (record { index = 0; cents = 0; begins = None; empties = None })
nothing_falls core later same = no_limit_falls core later 0 None (ap length same)
    (λ limits. subst (λ (qs : List (List Payment)). IsCeiling qs (λ _. 0) limits) (sym same)) tt

-- the laws of the resolver that are used here
abbrev pub LastWithdrawn : Type 0
LastWithdrawn = (queues new : List (List Payment)) → (sender : ℕ) → (payment : Payment) → (choice : ℕ → ℕ)
    → (limits : ℕ → ℤ) → IsCeiling queues choice limits → IsAppended new sender payment queues
    → IsCeiling new choice limits

abbrev pub WithdrawnWithinSlack : Type 0
WithdrawnWithinSlack = (queues new : List (List Payment)) → (sender : ℕ) → (payment : Payment) → (choice : ℕ → ℕ)
    → (limits lower : ℕ → ℤ) → IsCeiling queues choice limits → IsWithdrawn queues sender payment new
    → ((p : ℕ) → p < length queues → (lower p +ℤ pos (cond (eqb p sender) payment.amount 0)) ≤ℤ limits p)
    → IsCeiling new choice lower

turned : (a b : ℕ) → eqb a b ≡ eqb b a
turned a b = grind (arith, nat_tests)

module _ (core : Core) (number : ℕ) (state : OrderState) (o : Order) (numbers : AreRising core.waiting)
    (found : find (has_number number) core.waiting ≡ Some o) (rise : CodesRiseStrictly core.accounts) where
  abbrev left : Core
  left = core_after_row core (SetState number state)

  there : Stands core.waiting number o
  there = stands core.waiting number o numbers found

  -- an order that is held leaves all queues
  pub held_leaves : is_queued o ≡ false
      → Lowers core left (record { index = 0; cents = 0; begins = None; empties = None })
  held_leaves held = nothing_falls core left (queues_same core left refl (λ code.
      let mine = λ (x : Order). is_queued x && bytes_eq x.sender code in
      ap (λ (os : List Order). queued_among os code) there.without
      ∙ filter-append mine there.earlier there.later
      ∙ ap (λ (os : List Order). queued_among there.earlier code ++ os) (unheld code there.later)
      ∙ sym (ap (λ (os : List Order). queued_among os code) there.with_it
      ∙ filter-append mine there.earlier (o ∷ there.later))))
    where
      unheld : (code : List ℕ) (os : List Order) → queued_among os code ≡ queued_among (o ∷ os) code
      unheld code os = rw held refl

  module _ (queued : is_queued o ≡ true)
      (inside : position_or_len (bytes_eq o.sender) (map code_of core.accounts) < length core.accounts) where
    abbrev codes : List (List ℕ)
    codes = map code_of core.accounts

    abbrev sender : ℕ
    sender = position_or_len (bytes_eq o.sender) codes

    gone : IsWithdrawn (queues_in core) sender (payment_in core o) (queues_in left)
    gone = withdrawn core left o there.earlier there.later refl there.with_it there.without rise queued inside

    -- the sender's limit falls by the amount
    pub sender_falls : WithdrawnWithinSlack
        → Lowers core left (record { index = sender; cents = o.amount; begins = None; empties = None })
    sender_falls law = record {
      count = gone.count;
      ceiling = λ limits lower is less _. law (queues_in core) (queues_in left) sender (payment_in core o) (λ _. 0)
          limits lower is gone (λ p b. omega (
            arith,
            ints,
            less p b,
            ap (λ (t : Bool). cond t o.amount 0) (turned p sender),
          ));
      begins = tt;
      empties = tt;
    }

    -- or no limit, where it is the last of its queue
    last_falls : LastWithdrawn → (empties : Option ℕ) → IfSome empties (λ s. queue_of (queues_in left) s ≡ [])
        → queue_with codes there.later (get_or codes sender []) ≡ []
        → Lowers core left (record { index = 0; cents = 0; begins = None; empties = empties })
    last_falls law empties none last = no_limit_falls core left 0 empties gone.count
        (λ limits is. law (queues_in core) (queues_in left) sender (payment_in core o) (λ _. 0) limits is
        (appended core left o there.earlier there.later refl there.with_it there.without rise queued inside last)) none

    -- the sender's queue, as orders
    own : queued_among core.waiting o.sender ≡ queued_among there.earlier o.sender
        ++ o ∷ queued_among there.later o.sender
    own = ap (λ (os : List Order). queued_among os o.sender) there.with_it
        ∙ filter-append (λ x. is_queued x && bytes_eq x.sender o.sender) there.earlier (o ∷ there.later)
        ∙ ap (λ (os : List Order). queued_among there.earlier o.sender ++ os)
        (own_first there.later)
      where
        own_first : (os : List Order) → queued_among (o ∷ os) o.sender ≡ o ∷ queued_among os o.sender
        own_first os = rw (queued, bytes_eq_self o.sender) refl

    code_is : get_or codes sender [] ≡ o.sender
    code_is = sym (code_at_index codes o.sender (omega (arith, inside, length-map core.accounts code_of)))

    payments : (os : List Order) → queued_among os o.sender ≡ [] → queue_with codes os (get_or codes sender []) ≡ []
    payments os none = ap (queue_with codes os) code_is ∙ ap (map (payment_among codes)) none

    pub last_leaves : LastWithdrawn → (d : Order)
        → (get_or (queued_among core.waiting o.sender) (length (queued_among core.waiting o.sender) - 1) d).number
        ≡ number → Lowers core left (record { index = 0; cents = 0; begins = None; empties = None })
    last_leaves law d is = last_falls law None tt (payments there.later (none_behind
        (queued_among there.earlier o.sender) (queued_among there.later o.sender) o number
        (all_filter (λ (x : Order). number < x.number) (λ x. is_queued x && bytes_eq x.sender o.sender) there.later
        there.above) (subst (λ (os : List Order). (get_or os (length os - 1) o).number ≡ number) own
        (ap (λ (x : Order). x.number) (get_or_default (queued_among core.waiting o.sender)
        (length (queued_among core.waiting o.sender) - 1) o d
        (omega (
          arith,
          ap length own,
          length-append (queued_among there.earlier o.sender)
              (o ∷ queued_among there.later o.sender),
        ))) ∙ is))))

    pub only_leaves : LastWithdrawn → length (queued_among core.waiting o.sender) ≡ 1
        → Lowers core left (record { index = 0; cents = 0; begins = None; empties = Some sender })
    only_leaves law one =
        let long = length-append (queued_among there.earlier o.sender) (o ∷ queued_among there.later o.sender) in
        let before = nil_from_length (queued_among there.earlier o.sender) (omega (arith, one, ap length own, long)) in
        let behind = nil_from_length (queued_among there.later o.sender) (omega (arith, one, ap length own, long)) in
        last_falls law (Some sender) (rest_at core left o there.earlier there.later refl there.with_it there.without
        rise
        queued inside sender inside
        ∙ (λ i. payments there.earlier before i ++ payments there.later behind i)) (payments there.later behind)
