-- The rows of a change, one after another.
use Rattle.std.proofs.Common.{◌≡◌, ℕ, ◌≤◌, Bool, cond, true, false, List, [], ◌∷◌, map, refl, sym, ap, ◌∙◌, subst}
use Rattle.std.proofs.Common.{arith}
use Rattle.std.proofs.lemmas.List.{map-append}
use Rattle.std.specs.List.{count_by}
use Rattle.std.proofs.lemmas.List.Sums.{sum_by-cons}
use Rattle.rtgs_book.specs.declared.book.Book.{Book}
use Rattle.rtgs_book.specs.declared.order.Order.{Order}
use Rattle.rtgs_book.specs.declared.participant.Participant.{Participant}
use Rattle.rtgs_book.specs.declared.change.RowChange.{RowChange}
use Rattle.rtgs_book.specs.declared.change.RowChange.TheVariants.{AddParticipant, AddPosting, AddOrder, AddMark}
use Rattle.rtgs_book.specs.declared.change.RowChange.TheVariants.{SetCredit}
use Rattle.rtgs_book.specs.declared.change.RowChange.TheVariants.{SetBalance, SetState, EnterQueue, SetDay}
use Rattle.rtgs_book.specs.Changes.{with_row, changed}
use Rattle.rtgs_book.specs.Commands.{with_participant, with_credit, with_state, let_in}
use Rattle.rtgs_book.specs.Commands.{has_number, is_held_with, entered}
use Rattle.rtgs_book.specs.Lookup.{codes_of, has_code}
use Rattle.rtgs_book.specs.Settle.{in_state}
use Rattle.rtgs_book.specs.Soundness.{OrdersAreNumbered, AreNumbered, IsSound}
use Rattle.rtgs_tests_desks.specs.declared.in_memory.memory_keeper.MemoryKeeper.{MemoryKeeper}
use Rattle.rtgs_tests_desks.specs.in_memory.Memory.{AreInCodeOrder, ListsHaveRoom, adds_participant, adds_posting}
use Rattle.rtgs_tests_desks.specs.in_memory.Memory.{adds_order}
use Rattle.rtgs_tests_desks.specs.in_memory.Memory.{adds_mark}
use Rattle.rtgs_tests_desks.proofs.in_memory.CodeOrder.{order_put_in, order_map, order_of_codes}
use Rattle.rtgs_tests_desks.proofs.in_memory.OrderNumbers.{beginning_numbered, altered_numbers}

-- ---- the code order stays

same_code : (code : List ℕ) (credit : ℕ) (p : Participant) → (cond (has_code code p) (record p { credit = credit })
    p).code ≡ p.code
same_code code credit p = by (has_code code p)
  where
    by : (b : Bool) → (cond b (record p { credit = credit }) p).code ≡ p.code
    by true = refl
    by false = refl

pub order_stays : (row : RowChange) (book : Book) → AreInCodeOrder book.participants
    → AreInCodeOrder (with_row book row).participants
unfolding with_participant with_credit with_state let_in
order_stays (AddParticipant p) book h = order_put_in p book.participants h
order_stays (AddPosting p) book h = h
order_stays (AddOrder o) book h = h
order_stays (AddMark m) book h = h
order_stays (SetCredit code credit) book h = order_map (λ p. cond (has_code code p) (record p { credit = credit }) p)
    (same_code code credit) book.participants h
order_stays (SetBalance code balance) book h = h
order_stays (SetState number state) book h = h
order_stays (EnterQueue number date) book h = h
order_stays (SetDay day) book h = h

-- ---- orders that are numbered after a change were so before

before_row : (row : RowChange) (book : Book) → OrdersAreNumbered (with_row book row) → OrdersAreNumbered book
unfolding with_participant with_credit with_state let_in
before_row (AddParticipant p) book h = h
before_row (AddPosting p) book h = h
before_row (AddOrder o) book h =
    let number = λ (o : Order). o.number in
    beginning_numbered (map number book.orders) (o.number ∷ [])
    (subst AreNumbered (map-append number book.orders (o ∷ [])) h)
before_row (AddMark m) book h = h
before_row (SetCredit code credit) book h = h
before_row (SetBalance code balance) book h = h
before_row (SetState number state) book h =
    subst AreNumbered (altered_numbers (has_number number) (in_state state) (λ o. refl) book.orders) h
before_row (EnterQueue number date) book h =
    subst AreNumbered (altered_numbers (is_held_with number) (entered date) (λ o. refl) book.orders) h
before_row (SetDay day) book h = h

pub numbered_before : (rows : List RowChange) (book : Book) → OrdersAreNumbered (changed book rows)
    → OrdersAreNumbered book
numbered_before [] book h = h
numbered_before (row ∷ rows) book h = before_row row book (numbered_before rows (with_row book row) h)

-- ---- a loop over the rows

-- the rows that are left lead from the book to the end
pub record Remains (book : Book) (rows : List RowChange) (end : Book) : Type 0 where
  pub order : AreInCodeOrder book.participants
  pub leads : changed book rows ≡ end

pub from_start : (book : Book) (rows : List RowChange) → IsSound book → Remains book rows (changed book rows)
unfolding codes_of
from_start book rows sound = record { order = order_of_codes book.participants sound.codes_rise.0; leads = refl }

pub one_more : (book next : Book) (row : RowChange) (rows : List RowChange) (end : Book) → OrdersAreNumbered end
    → Remains book (row ∷ rows) end → (AreInCodeOrder book.participants → OrdersAreNumbered book
    → next ≡ with_row book row) → Remains next rows end
one_more book next row rows end numbered left made =
    let was : OrdersAreNumbered book = numbered_before (row ∷ rows) book
    (subst OrdersAreNumbered (sym left.leads) numbered) in
    let is : next ≡ with_row book row = made left.order was in
    subst (λ b. Remains b rows end) (sym is) (record { order = order_stays row book left.order; leads = left.leads })

pub at_end : (book end : Book) (rows : List RowChange) → rows ≡ [] → Remains book rows end → book ≡ end
at_end book end rows none left = ap (changed book) (sym none) ∙ left.leads

one_of : (p : RowChange → Bool) (row : RowChange) (rows : List RowChange)
    → count_by p (row ∷ []) ≤ count_by p (row ∷ rows)
one_of p row rows =
    let one = sum_by-cons (λ r. cond (p r) 1 0) row [] in
    let all = sum_by-cons (λ r. cond (p r) 1 0) row rows in
    omega arith

pub room_for_one : (k : MemoryKeeper) (row : RowChange) (rows : List RowChange) → ListsHaveRoom k (row ∷ rows)
    → ListsHaveRoom k (row ∷ [])
room_for_one k row rows room = record {
  participants = let one = one_of adds_participant row rows in let all = room.participants in omega arith;
  postings = let one = one_of adds_posting row rows in let all = room.postings in omega arith;
  orders = let one = one_of adds_order row rows in let all = room.orders in omega arith;
  marks = let one = one_of adds_mark row rows in let all = room.marks in omega arith;
}
