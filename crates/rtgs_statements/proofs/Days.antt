-- What is added to a day's sums, record by record.
use Rattle.std.proofs.Common.{◌≡◌, ◌+◌, ◌*◌, ◌<◌, ◌≤◌, ◌^◌, ℕ, pos, ◌+ℤ◌, Bool, ◌&&◌, true, false, cond, List, [], ◌∷◌}
use Rattle.std.proofs.Common.{filter, length, ap, ◌∙◌, arith}
use Rattle.std.proofs.lemmas.Int.{ints}
use Rattle.std.specs.Str.{bytes_eq}
use Rattle.rtgs_money.specs.declared.amount.TheConstants.Amount as Amount
use Rattle.rtgs_book.specs.declared.order.Order.{Order}
use Rattle.rtgs_book.specs.declared.standing.Standing.{Standing}
use Rattle.rtgs_book.specs.Books.{is_settled}
use Rattle.rtgs_book.specs.IntSum.{int_sum_by}
use Rattle.rtgs_book.specs.Standings.{stands}
use Rattle.rtgs_statements.specs.declared.line.Line.TheVariants.{Orders}
use Rattle.rtgs_statements.specs.declared.ordered.Ordered.{Ordered}
use Rattle.rtgs_statements.specs.Days.{HasNone, IsRoomy, Adds, GathersOrders}
use Rattle.rtgs_statements.specs.Sums.{amount_of, sent, received, sum_at}
use Rattle.rtgs_statements.specs.Tallies.{tally_of}
use Rattle.rtgs_statements.specs.Texts.{standing_orders}
use Rattle.rtgs_statements.proofs.Terms.{Within, sum-cons, term-within, wider}

-- together with what is left it is all
pub record IsWithLeft (ordered : Ordered) (left all : List Order) : Type 0 where
  pub out : (code : List ℕ) → (sum_at ordered.sent code +ℤ sent code left) ≡ sent code all
  pub back : (code : List ℕ) → (sum_at ordered.received code +ℤ received code left) ≡ received code all
  pub count : (standing : Standing) → (tally_of ordered.tallies standing).count
      + length (standing_orders standing left) ≡ length (standing_orders standing all)
  pub cents : (standing : Standing) → ((tally_of ordered.tallies standing).cents
      +ℤ int_sum_by amount_of (standing_orders standing left)) ≡ int_sum_by amount_of (standing_orders standing all)

-- no more than this many orders can sum up to
pub record IsWithin (n : ℕ) (ordered : Ordered) : Type 0 where
  pub out : (code : List ℕ) → Within (n * Amount.MAX) (sum_at ordered.sent code)
  pub back : (code : List ℕ) → Within (n * Amount.MAX) (sum_at ordered.received code)
  pub count : (standing : Standing) → (tally_of ordered.tallies standing).count ≤ n
  pub cents : (standing : Standing) → Within (n * Amount.MAX) (tally_of ordered.tallies standing).cents

pub none_within : (ordered : Ordered) → HasNone ordered → IsWithin 0 ordered
none_within ordered none = record {
  out = λ code. let h = none.sent code in (omega (arith, ints), omega (arith, ints));
  back = λ code. let h = none.received code in (omega (arith, ints), omega (arith, ints));
  count = λ standing. let h = ap (λ t. t.count) (none.tallies standing) in omega arith;
  cents = λ standing. let h = ap (λ t. t.cents) (none.tallies standing) in (omega (arith, ints), omega (arith, ints));
}

pub none_with_all : (ordered : Ordered) (left all : List Order) → HasNone ordered → left ≡ all
    → IsWithLeft ordered left all
none_with_all ordered left all none is = record {
  out = λ code. let h = none.sent code in let e = ap (sent code) is in omega (arith, ints);
  back = λ code. let h = none.received code in let e = ap (received code) is in omega (arith, ints);
  count = λ standing. let h = ap (λ t. t.count) (none.tallies standing) in
      let e = ap (λ os. length (standing_orders standing os)) is in omega arith;
  cents = λ standing. let h = ap (λ t. t.cents) (none.tallies standing) in
      let e = ap (λ os. int_sum_by amount_of (standing_orders standing os)) is in omega (arith, ints);
}

count_cons : {X : Type 0} (p : X → Bool) (x : X) (xs : List X) → length (filter p (x ∷ xs))
    ≡ cond (p x) 1 0 + length (filter p xs)
count_cons p x xs = by (p x)
  where
    by : (b : Bool) → length (cond b (x ∷ filter p xs) (filter p xs)) ≡ cond b 1 0 + length (filter p xs)
    by true = omega arith
    by false = omega arith

one_at_most : (b : Bool) → cond b 1 0 ≤ 1
one_at_most true = omega arith
one_at_most false = omega arith

module _ (old new : Ordered) (order : Order) (adds : Adds old order new) where
  pub more_with_left : (left rest all : List Order) → left ≡ order ∷ rest → IsWithLeft old left all
      → IsWithLeft new rest all
  more_with_left left rest all is before = record {
    out = λ code.
        let part = ap (sent code) is
        ∙ sum-cons amount_of (λ o. is_settled o && bytes_eq o.sender code) order rest in
        let so_far = before.out code in let more = adds.sent code in omega (arith, ints);
    back = λ code.
        let part = ap (received code) is
        ∙ sum-cons amount_of (λ o. is_settled o && bytes_eq o.receiver code) order rest in
        let so_far = before.back code in let more = adds.received code in omega (arith, ints);
    count = λ standing.
        let part = ap (λ os. length (standing_orders standing os)) is
        ∙ count_cons (λ (o : Order). stands standing o.state) order rest in
        let so_far = before.count standing in let more = ap (λ t. t.count) (adds.tallies standing) in omega arith;
    cents = λ standing.
        let part = ap (λ os. int_sum_by amount_of (standing_orders standing os)) is
        ∙ sum-cons amount_of (λ (o : Order). stands standing o.state) order rest in
        let so_far = before.cents standing in let more = ap (λ t. t.cents) (adds.tallies standing) in
        omega (arith, ints);
  }

  pub more_within : (n m : ℕ) → n < m → order.amount ≤ Amount.MAX → IsWithin n old → IsWithin m new
  more_within n m less most before =
      let small : Within Amount.MAX (pos order.amount) = (omega (arith, ints), omega (arith, ints)) in record {
        out = λ code.
            let part = term-within (is_settled order && bytes_eq order.sender code) Amount.MAX (pos order.amount) small
            in
            let low = part.0 in let high = part.1 in
            let so_low = (before.out code).0 in let so_high = (before.out code).1 in
            let more = adds.sent code in (omega (arith, ints), omega (arith, ints));
        back = λ code.
            let part = term-within (is_settled order && bytes_eq order.receiver code) Amount.MAX (pos order.amount)
            small
            in
            let low = part.0 in let high = part.1 in
            let so_low = (before.back code).0 in let so_high = (before.back code).1 in
            let more = adds.received code in (omega (arith, ints), omega (arith, ints));
        count = λ standing.
            let part = one_at_most (stands standing order.state) in
            let so_far = before.count standing in
            let more = ap (λ t. t.count) (adds.tallies standing) in omega arith;
        cents = λ standing.
            let part = term-within (stands standing order.state) Amount.MAX (pos order.amount) small in
            let low = part.0 in let high = part.1 in
            let so_low = (before.cents standing).0 in let so_high = (before.cents standing).1 in
            let more = ap (λ t. t.cents) (adds.tallies standing) in (omega (arith, ints), omega (arith, ints));
      }

pub within_is_roomy : (n : ℕ) (ordered : Ordered) → n + 1 < 2 ^ 64 → IsWithin n ordered → IsRoomy ordered
within_is_roomy n ordered fits within = record {
  sent = λ code. wider (n * Amount.MAX) (10 ^ 36) _ (omega arith) (within.out code);
  received = λ code. wider (n * Amount.MAX) (10 ^ 36) _ (omega arith) (within.back code);
  tallies = λ standing.
      let few = within.count standing in (
        omega arith,
        wider (n * Amount.MAX) (10 ^ 36) _ (omega arith) (within.cents standing),
      );
}

-- nothing is left
pub comes_to_all : (ordered : Ordered) (left all : List Order) → left ≡ [] → IsWithLeft ordered left all
    → GathersOrders ordered all
comes_to_all ordered left all over with_left = record {
  sent = λ code. let none = ap (sent code) over in let h = with_left.out code in omega (arith, ints);
  received = λ code. let none = ap (received code) over in let h = with_left.back code in omega (arith, ints);
  standings = λ standing.
      let none = ap (λ os. length (standing_orders standing os)) over in
      let no_cents = ap (λ os. int_sum_by amount_of (standing_orders standing os)) over in
      let h = with_left.count standing in let k = with_left.cents standing in
      let count : (tally_of ordered.tallies standing).count ≡ length (standing_orders standing all) = omega arith in
      let cents : (tally_of ordered.tallies standing).cents ≡ int_sum_by amount_of (standing_orders standing all) =
      omega (arith, ints) in
      λ i. Orders standing (count i) (cents i);
}
