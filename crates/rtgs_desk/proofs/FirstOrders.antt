-- An order that is the first of its queue and has cover is in the greatest choice.
use Rattle.std.proofs.Common.{◌≡◌, ◌∙◌, ℕ, suc, ◌≤◌, nat_lt, pos, ◌+ℤ◌, ◌-ℤ◌, ◌≤ℤ◌, Bool, true, false}
use Rattle.std.proofs.Common.{cond, List, [], ◌∷◌, length, filter, take, refl, sym, ap, subst, true≢false, arith}
use Rattle.std.proofs.Common.{length-take}
use Rattle.std.proofs.lemmas.Int.{ints}
use Rattle.std.specs.Cmp.Lexicographic.{bytes_decides}
use Rattle.std.specs.List.{AllByRecursion}
use Rattle.std.specs.Str.{bytes_eq}
use Rattle.rtgs_lists.proofs.Bools.{and_right}
use Rattle.rtgs_lists.proofs.Codes.{bytes_eq_self}
use Rattle.rtgs_lists.proofs.Filters.{filter_all}
use Rattle.rtgs_lists.proofs.Lists.{all_weaker}
use Rattle.rtgs_lists.proofs.Numbers.{lt_zero}
use Rattle.rtgs_book.specs.declared.book.Book.{Book}
use Rattle.rtgs_book.specs.declared.order.Order.{Order}
use Rattle.rtgs_book.specs.declared.queue_reading.QueueReading.{QueueReading}
use Rattle.rtgs_book.specs.Balance.{balance, floor, gain}
use Rattle.rtgs_book.specs.Books.{is_queued}
use Rattle.rtgs_book.specs.Choice.{Choice, IsFeasible, IsGreatest, balance_after, chosen, is_chosen}
use Rattle.rtgs_book.specs.Lookup.{codes_of}
use Rattle.rtgs_book.specs.Queue.{orders_before, queue}
use Rattle.rtgs_book.specs.Soundness.{IsSound, OrdersAreNumbered}
use Rattle.rtgs_desk.specs.Queues.{headroom, queue_readings}
use Rattle.rtgs_desk.proofs.QueueLaws.{covers_first, each}

-- the first order of one queue
abbrev first_alone : List ℕ → Choice
first_alone code other = cond (bytes_eq other code) 1 0

-- what passes a test has what the test says
kept : (P : Order → Type 0) (p : Order → Bool) → ((o : Order) → p o ≡ true → P o) → (orders : List Order)
    → AllByRecursion P (filter p orders)
kept P p h [] = tt
kept P p h (o ∷ os) = by (p o) refl (kept P p h os)
  where
    by : (b : Bool) → p o ≡ b → AllByRecursion P (filter p os)
        → AllByRecursion P (cond b (o ∷ filter p os) (filter p os))
    by true e rest = (h o e, rest)
    by false e rest = rest

of_its_sender : (book : Book) (code : List ℕ)
    → AllByRecursion (λ (o : Order). bytes_eq o.sender code ≡ true) (queue book code)
unfolding queue
of_its_sender book code = kept (λ (o : Order). bytes_eq o.sender code ≡ true) _
    (λ o e. and_right (is_queued o) (bytes_eq o.sender code) e) book.orders

has_some : (n : ℕ) (b : Bool) → nat_lt n (cond b 1 0) ≡ true → b ≡ true
has_some n true e = refl
has_some n false e = absurd (true≢false (sym e ∙ lt_zero n))

chosen_of_one : (book : Book) (code : List ℕ)
    → AllByRecursion (λ (o : Order). bytes_eq o.sender code ≡ true) (chosen book (first_alone code))
unfolding chosen is_chosen
chosen_of_one book code = kept (λ (o : Order). bytes_eq o.sender code ≡ true) (is_chosen book (first_alone code))
    (λ o e. has_some (orders_before book o) (bytes_eq o.sender code) (and_right (is_queued o) _ e)) book.orders

module _ (beginnings : (book : Book) (choice : Choice) (code : List ℕ) → OrdersAreNumbered book
    → filter (λ (o : Order). bytes_eq o.sender code) (chosen book choice) ≡ take (choice code) (queue book code)) where
  chosen_is : (book : Book) (code : List ℕ) (first : Order) (rest : List Order) → OrdersAreNumbered book
      → queue book code ≡ first ∷ rest → chosen book (first_alone code) ≡ first ∷ []
  chosen_is book code first rest numbered e =
      sym (filter_all (λ (o : Order). bytes_eq o.sender code) (chosen book (first_alone code))
      (chosen_of_one book code))
      ∙ beginnings book (first_alone code) code numbered
      ∙ (λ j. take (cond (bytes_eq_self code j) 1 0) (e j))

  -- it takes no account below its floor
  stays_up : (book : Book) (code : List ℕ) (first : Order) (rest : List Order) (other : List ℕ)
      → OrdersAreNumbered book → queue book code ≡ first ∷ rest → pos first.amount ≤ℤ headroom book code
      → floor book other ≤ℤ balance book other → floor book other ≤ℤ balance_after book (first_alone code) other
  unfolding balance_after gain
  stays_up book code first rest other numbered e covers up =
      rw (chosen_is book code first rest numbered e)
      (by (bytes_eq first.receiver other) (bytes_eq first.sender other) refl)
    where
      is_sender : bytes_eq first.sender code ≡ true
      is_sender = (subst (AllByRecursion (λ (o : Order). bytes_eq o.sender code ≡ true)) e (of_its_sender book code)).0

      by : (r s : Bool) → bytes_eq first.sender other ≡ s → floor book other
          ≤ℤ (balance book other +ℤ ((cond r (pos first.amount) (pos 0) -ℤ cond s (pos first.amount) (pos 0)) +ℤ pos 0))
      by true false same = omega (arith, ints)
      by false false same = omega (arith, ints)
      by true true same = omega (arith, ints)
      by false true same =
          let one : code ≡ other = sym ((bytes_decides first.sender code).0 is_sender)
          ∙ (bytes_decides first.sender other).0 same in
          let here : pos first.amount ≤ℤ headroom book other =
          subst (λ c. pos first.amount ≤ℤ headroom book c) one covers in
          omega (arith, ints)

  feasible : (book : Book) (code : List ℕ) (first : Order) (rest : List Order) → IsSound book
      → queue book code ≡ first ∷ rest → pos first.amount ≤ℤ headroom book code
      → IsFeasible book (first_alone code)
  feasible book code first rest sound e covers = record {
    within = λ other. in_queue other (bytes_eq other code) refl;
    covered = all_weaker (λ other. floor book other ≤ℤ balance book other)
        (λ other. floor book other ≤ℤ balance_after book (first_alone code) other)
        (λ other up. stays_up book code first rest other sound.orders_numbered e covers up) (codes_of book)
        sound.floors;
  }
    where
      in_queue : (other : List ℕ) (b : Bool) → bytes_eq other code ≡ b → cond b 1 0 ≤ length (queue book other)
      in_queue other true same =
          let one : other ≡ code = (bytes_decides other code).0 same in
          let long : length (queue book other) ≡ suc (length rest) = ap (λ c. length (queue book c)) one
          ∙ ap (length {A = Order}) e in
          omega (arith, long)
      in_queue other false same = omega arith

  pub settles : (book : Book) (choice : Choice) → IsSound book → IsGreatest book choice
      → AllByRecursion (λ (r : QueueReading). r.short ≡ 0 → 1 ≤ r.settling) (queue_readings book choice)
  settles book choice sound greatest =
      each (λ (r : QueueReading). r.short ≡ 0 → 1 ≤ r.settling) book choice (codes_of book)
      (λ code first rest e none.
      let covers : pos first.amount ≤ℤ headroom book code = covers_first (headroom book code) first.amount none in
      let some : first_alone code code ≤ choice code =
      greatest.largest (first_alone code) (feasible book code first rest sound e covers) code in
      let one : 1 ≤ choice code = subst (λ b. cond b 1 0 ≤ choice code) (bytes_eq_self code) some in
      let long = length-take (choice code) (first ∷ rest) in
      omega (arith, one, long))
