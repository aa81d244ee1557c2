-- The rows that settle a choice, one after another.
use Rattle.std.proofs.Common.{◌≡◌, ℕ, ℤ, Bool, true, false, not, cond, ◌&&◌, ◌||◌, List, [], ◌∷◌, ◌++◌, map, filter}
use Rattle.std.proofs.Common.{Option, Some, None, refl, sym, ap, ◌∙◌, subst, true≢false}
use Rattle.std.proofs.lemmas.List.{map-id}
use Rattle.std.proofs.lemmas.List.Elements.{recursion_from_All, All-from_get_or}
use Rattle.std.specs.List.{AllByRecursion, list_any}
use Rattle.std.specs.Ordering.{int_eq}
use Rattle.std.specs.Str.{bytes_eq}
use Rattle.std.specs.Cmp.Lexicographic.{bytes_decides}
use Rattle.rtgs_book.specs.declared.book.Book.{Book}
use Rattle.rtgs_book.specs.declared.change.RowChange.{RowChange}
use Rattle.rtgs_book.specs.declared.change.RowChange.TheVariants.{AddParticipant, AddPosting, AddOrder, AddMark}
use Rattle.rtgs_book.specs.declared.change.RowChange.TheVariants.{SetCredit, SetBalance, SetState, EnterQueue, SetDay}
use Rattle.rtgs_book.specs.declared.mark.Mark.{Mark}
use Rattle.rtgs_book.specs.declared.order.Order.{Order}
use Rattle.rtgs_book.specs.declared.order_state.OrderState.{OrderState}
use Rattle.rtgs_book.specs.declared.order_state.OrderState.TheVariants.{Settled}
use Rattle.rtgs_book.specs.Books.{is_empty}
use Rattle.rtgs_book.specs.Lookup.{codes_of}
use Rattle.rtgs_book.specs.Balance.{balance}
use Rattle.rtgs_book.specs.Choice.{Choice, is_chosen, chosen, balance_after}
use Rattle.rtgs_book.specs.Commands.{with_altered, with_state, has_number}
use Rattle.rtgs_book.specs.Settle.{in_state, restated, settle, mark_of, next_mark}
use Rattle.rtgs_book.specs.Changes.{with_row, changed, or_else, balance_set, SetsBalances, StartsEmpty}
use Rattle.rtgs_choices.specs.OneByOne.{ChangesOrders, passes_one}
use Rattle.rtgs_choices.specs.Settling.{is_numbered, state_rows, IsOfBalance, moves, balance_rows, settling_rows}
use Rattle.rtgs_choices.proofs.Inputs.{in_codes}
use Rattle.rtgs_lists.proofs.Lists.{all_weaker, changed_agrees, changed_twice}

-- ---- rows that change orders, one by one

module _ (row : ℕ → RowChange) (passes : ℕ → Order → Bool) (change : Order → Order)
    (kind : ChangesOrders row passes change) where
  pub changed-one_by_one : (book : Book) (numbers : List ℕ)
      → changed book (map row numbers) ≡ with_altered book (passes_one passes numbers) change
  changed-one_by_one book [] = ap (λ (os : List Order). record book { orders = os }) (sym (map-id book.orders))
  changed-one_by_one book (number ∷ numbers) =
      ap (λ (b : Book). changed b (map row numbers)) (kind.book book number)
      ∙ changed-one_by_one (with_altered book (passes number) change) numbers
      ∙ ap (λ (os : List Order). record book { orders = os })
      (changed_twice (passes number) (passes_one passes numbers) change kind.once book.orders)

  pub balance_set-one_by_one : (code : List ℕ) (numbers : List ℕ) (rows : List RowChange)
      → balance_set code (map row numbers ++ rows) ≡ balance_set code rows
  balance_set-one_by_one code [] rows = refl
  balance_set-one_by_one code (number ∷ numbers) rows =
      kind.balances code number (map row numbers ++ rows) ∙ balance_set-one_by_one code numbers rows

  pub added-one_by_one : (new : Book) (all : List RowChange) (numbers : List ℕ) (rows : List RowChange)
      → AllByRecursion (StartsEmpty new all) rows → AllByRecursion (StartsEmpty new all) (map row numbers ++ rows)
  added-one_by_one new all [] rows h = h
  added-one_by_one new all (number ∷ numbers) rows h = (
    kind.added new all number,
    added-one_by_one new all numbers rows h,
  )

pub sets_state : (state : OrderState) → ChangesOrders (λ number. SetState number state) has_number (in_state state)
unfolding with_state
sets_state state = record {
  book = λ book number. refl;
  once = λ order. refl;
  balances = λ code number rows. refl;
  added = λ new rows number. tt;
}

pub changed-states : (book : Book) (state : OrderState) (numbers : List ℕ)
    → changed book (state_rows state numbers) ≡ with_state book (is_numbered numbers) state
unfolding with_state
changed-states book state numbers = changed-one_by_one _ has_number (in_state state) (sets_state state) book numbers

pub balance_set-states : (code : List ℕ) (state : OrderState) (numbers : List ℕ) (rows : List RowChange)
    → balance_set code (state_rows state numbers ++ rows) ≡ balance_set code rows
balance_set-states code state numbers rows =
    balance_set-one_by_one _ has_number (in_state state) (sets_state state) code numbers rows

pub added-states : (new : Book) (all : List RowChange) (state : OrderState) (numbers : List ℕ) (rows : List RowChange)
    → AllByRecursion (StartsEmpty new all) rows
    → AllByRecursion (StartsEmpty new all) (state_rows state numbers ++ rows)
added-states new all state numbers rows h =
    added-one_by_one _ has_number (in_state state) (sets_state state) new all numbers rows h

-- ---- the book

pub changed-append : (book : Book) (rows more : List RowChange)
    → changed book (rows ++ more) ≡ changed (changed book rows) more
changed-append book [] more = refl
changed-append book (row ∷ rows) more = changed-append (with_row book row) rows more

changed-balances : (book : Book) (rows : List RowChange) → AllByRecursion IsOfBalance rows → changed book rows ≡ book
changed-balances book [] h = refl
changed-balances book (SetBalance code cents ∷ rows) h = changed-balances book rows h.1
changed-balances book (AddParticipant participant ∷ rows) h = absurd h.0
changed-balances book (AddPosting posting ∷ rows) h = absurd h.0
changed-balances book (AddOrder order ∷ rows) h = absurd h.0
changed-balances book (AddMark mark ∷ rows) h = absurd h.0
changed-balances book (SetCredit code credit ∷ rows) h = absurd h.0
changed-balances book (SetState number state ∷ rows) h = absurd h.0
changed-balances book (EnterQueue number date ∷ rows) h = absurd h.0
changed-balances book (SetDay day ∷ rows) h = absurd h.0

module _ (book : Book) (choice : Choice) (numbers : List ℕ) (by_number : AllByRecursion
    (λ o. is_chosen book choice o ≡ is_numbered numbers o) book.orders) (some : is_empty (chosen book choice) ≡ false)
  where
    -- all states set and the mark added
    settled_with_mark : with_row (with_state book (is_numbered numbers) (Settled (next_mark book)))
        (AddMark (mark_of book (chosen book choice))) ≡ settle book (is_chosen book choice)
    unfolding with_state settle chosen
    settled_with_mark = by (chosen book choice) some
      where
        by : (batch : List Order) → is_empty batch ≡ false
            → record book {
              orders = map (restated (is_numbered numbers) (Settled (next_mark book))) book.orders;
              marks = book.marks ++ mark_of book batch ∷ [];
            }
            ≡ cond (is_empty batch) book (record book {
              orders =
                  map (restated (is_chosen book choice) (Settled (next_mark book))) book.orders;
              marks = book.marks ++ mark_of book batch ∷ [];
            })
        by [] e = absurd (true≢false e)
        by (o ∷ os) e = ap (λ (orders : List Order). record book {
          orders = orders;
          marks = book.marks ++ mark_of book (o ∷ os) ∷ [];
        })
            (sym (changed_agrees (is_chosen book choice) (is_numbered numbers) (in_state (Settled (next_mark book)))
            book.orders by_number))

    pub changed-settled : (balances : List RowChange) → AllByRecursion IsOfBalance balances
        → changed book (state_rows (Settled (next_mark book)) numbers ++ AddMark (mark_of book (chosen book choice))
        ∷ balances) ≡ settle book (is_chosen book choice)
    changed-settled balances h =
        changed-append book (state_rows (Settled (next_mark book)) numbers)
        (AddMark (mark_of book (chosen book choice)) ∷ balances)
        ∙ ap (λ (b : Book). changed b (AddMark (mark_of book (chosen book choice)) ∷ balances))
        (changed-states book (Settled (next_mark book)) numbers)
        ∙ changed-balances (with_row (with_state book (is_numbered numbers) (Settled (next_mark book)))
        (AddMark (mark_of book (chosen book choice)))) balances h
        ∙ settled_with_mark

-- ---- the balances

pub of_balances : (book : Book) (choice : Choice) → AllByRecursion IsOfBalance (balance_rows book choice)
unfolding balance_rows
of_balances book choice = each (filter (moves book choice) (codes_of book))
  where
    each : (codes : List (List ℕ)) → AllByRecursion IsOfBalance
        (map (λ code. SetBalance code (balance_after book choice code)) codes)
    each [] = tt
    each (code ∷ codes) = (tt, each codes)

-- a row for each code that passes sets its balance, and no other
pub balance_set-rows : (passes : List ℕ → Bool) (new : List ℕ → ℤ) (code : List ℕ) (codes : List (List ℕ))
    → balance_set code (map (λ c. SetBalance c (new c)) (filter passes codes))
    ≡ cond (list_any (bytes_eq code) codes && passes code) (Some (new code)) None
balance_set-rows passes new code [] = refl
balance_set-rows passes new code (c ∷ codes) = by (bytes_eq c code) refl (balance_set-rows passes new code codes)
  where
    same_test : (b : Bool) → bytes_eq c code ≡ b → bytes_eq code c ≡ b
    same_test true e = (bytes_decides code c).1 (sym ((bytes_decides c code).0 e))
    same_test false e = other (bytes_eq code c) refl
      where
        other : (t : Bool) → bytes_eq code c ≡ t → t ≡ false
        other true f = absurd (true≢false (sym ((bytes_decides c code).1 (sym ((bytes_decides code c).0 f))) ∙ e))
        other false f = refl

    -- the row of this very code
    own : (p any : Bool) (rest : Option ℤ) → rest ≡ cond (any && p) (Some (new code)) None
        → cond p (or_else rest (Some (new code))) rest ≡ cond p (Some (new code)) None
    own true true rest r = rw r refl
    own true false rest r = rw r refl
    own false true rest r = r
    own false false rest r = r

    -- the row of another
    others : (p : Bool) (rest : Option ℤ) → cond p (or_else rest None) rest ≡ rest
    others true None = refl
    others true (Some z) = refl
    others false rest = refl

    opened : (p : Bool) → balance_set code (map (λ c. SetBalance c (new c))
        (cond p (c ∷ filter passes codes) (filter passes codes)))
        ≡ cond p (or_else (balance_set code (map (λ c. SetBalance c (new c)) (filter passes codes)))
        (cond (bytes_eq c code) (Some (new c)) None)) (balance_set code
        (map (λ c. SetBalance c (new c)) (filter passes codes)))
    opened true = refl
    opened false = refl

    by : (b : Bool) → bytes_eq c code ≡ b
        → balance_set code (map (λ c. SetBalance c (new c)) (filter passes codes))
        ≡ cond (list_any (bytes_eq code) codes && passes code) (Some (new code)) None
        → balance_set code (map (λ c. SetBalance c (new c)) (cond (passes c) (c ∷ filter passes codes)
        (filter passes codes))) ≡ cond ((bytes_eq code c || list_any (bytes_eq code) codes) && passes code)
        (Some (new code)) None
    by true e r =
        let same : c ≡ code = (bytes_decides c code).0 e in
        opened (passes c)
        ∙ (λ i. cond (passes (same i)) (or_else (balance_set code
        (map (λ c. SetBalance c (new c)) (filter passes codes))) (cond (e i) (Some (new (same i))) None))
        (balance_set code (map (λ c. SetBalance c (new c)) (filter passes codes))))
        ∙ own (passes code) (list_any (bytes_eq code) codes)
        (balance_set code (map (λ c. SetBalance c (new c)) (filter passes codes))) r
        ∙ (λ i. cond ((sym (same_test true e) i || list_any (bytes_eq code) codes) && passes code) (Some (new code))
        None)
    by false e r =
        opened (passes c)
        ∙ (λ i. cond (passes c) (or_else (balance_set code (map (λ c. SetBalance c (new c)) (filter passes codes)))
        (cond (e i) (Some (new c)) None)) (balance_set code
        (map (λ c. SetBalance c (new c)) (filter passes codes))))
        ∙ others (passes c) (balance_set code (map (λ c. SetBalance c (new c)) (filter passes codes)))
        ∙ r
        ∙ (λ i. cond ((sym (same_test false e) i || list_any (bytes_eq code) codes) && passes code) (Some (new code))
        None)

accounts-settle : (book : Book) (is_in : Order → Bool) → codes_of (settle book is_in) ≡ codes_of book
unfolding settle codes_of
accounts-settle book is_in = by (is_empty (filter is_in book.orders))
  where
    by : (b : Bool) → codes_of (cond b book (record book {
      orders =
          map (restated is_in (Settled (next_mark book))) book.orders;
      marks = book.marks ++ mark_of book (filter is_in book.orders) ∷ [];
    })) ≡ codes_of book
    by true = refl
    by false = refl

-- settling the chosen orders leaves the balances that the choice was judged by
abbrev pub SettledBalances : Type 0
SettledBalances = (book : Book) (choice : Choice) (code : List ℕ)
    → balance (settle book (is_chosen book choice)) code ≡ balance_after book choice code

module _ (law : SettledBalances) (book : Book) (choice : Choice) (numbers : List ℕ) (mark : Mark) where
  turned : (b : Bool) (z : ℤ) → cond (not b) (Some z) None ≡ cond b None (Some z)
  turned true z = refl
  turned false z = refl

  -- the rows set the balance as it is after settling, if it moves
  abbrev SetRight : List ℕ → Type 0
  SetRight code = balance_set code (settling_rows book choice numbers mark)
      ≡ cond (int_eq (balance book code) (balance (settle book (is_chosen book choice)) code)) None
      (Some (balance (settle book (is_chosen book choice)) code))

  set_right : (code : List ℕ) → list_any (bytes_eq code) (codes_of book) ≡ true → SetRight code
  unfolding balance_rows
  set_right code known =
      balance_set-states code _ numbers (AddMark mark ∷ balance_rows book choice)
      ∙ balance_set-rows (moves book choice) (balance_after book choice) code (codes_of book)
      ∙ (λ i. cond (known i && moves book choice code) (Some (balance_after book choice code)) None)
      ∙ turned (int_eq (balance book code) (balance_after book choice code)) (balance_after book choice code)
      ∙ (λ i. cond (int_eq (balance book code) (sym (law book choice code) i)) None
      (Some (sym (law book choice code) i)))

  pub sets_balances : SetsBalances book (settling_rows book choice numbers mark) (settle book (is_chosen book choice))
  sets_balances =
      subst (AllByRecursion SetRight) (sym (accounts-settle book (is_chosen book choice)))
      (all_weaker (λ code. list_any (bytes_eq code) (codes_of book) ≡ true) SetRight set_right (codes_of book)
      (recursion_from_All (λ code. list_any (bytes_eq code) (codes_of book) ≡ true) (codes_of book)
      (All-from_get_or (λ code. list_any (bytes_eq code) (codes_of book) ≡ true) (codes_of book) []
      (λ i less. in_codes (codes_of book) i less))))

-- each code of a list is in it
pub known_codes : (codes : List (List ℕ)) → AllByRecursion (λ code. list_any (bytes_eq code) codes ≡ true) codes
known_codes codes = recursion_from_All (λ code. list_any (bytes_eq code) codes ≡ true) codes
    (All-from_get_or (λ code. list_any (bytes_eq code) codes ≡ true) codes [] (λ i less. in_codes codes i less))
