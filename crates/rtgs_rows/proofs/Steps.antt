-- What a change of one row does to a list of records, in a book and in what its tables hold.
use Rattle.std.proofs.Common.{◌≡◌, inl, inr, ℕ, pos, List, [], ◌∷◌, ◌++◌, map, Option, Some, None, refl, sym, ap, ◌∙◌}
use Rattle.std.proofs.Common.{append-nil}
use Rattle.std.proofs.lemmas.Grind.{flat_map-append}
use Rattle.std.specs.List.{AllByRecursion}
use Rattle.std.specs.Ordering.{int_cmp}
use Rattle.std.specs.declared.cmp.Ordering.TheVariants.{Less}
use Rattle.std.proofs.lemmas.Bool.{cases_Bool}
use Rattle.sqlite.specs.Tree.{IsAscending}
use Rattle.sqlite_keyed.proofs.ListLemmas.{ascending_from_map, ascending_weaker}
use Rattle.rtgs_lists.proofs.Lists.{all_map, all_push, all_weaker}
use Rattle.rtgs_money.specs.Date.{IsBusinessDate}
use Rattle.rtgs_book.specs.declared.book.Book.{Book}
use Rattle.rtgs_book.specs.declared.order.Order.{Order}
use Rattle.rtgs_book.specs.declared.order_state.OrderState.{OrderState}
use Rattle.rtgs_book.specs.declared.change.RowChange.{RowChange}
use Rattle.rtgs_book.specs.declared.change.RowChange.TheVariants.{AddPosting, AddOrder, AddMark, SetState, EnterQueue}
use Rattle.rtgs_book.specs.Changes.{with_row}
use Rattle.rtgs_book.specs.Commands.{with_participant, with_credit, with_state, let_in, entered, has_number}
use Rattle.rtgs_book.specs.Commands.{is_held_with}
use Rattle.rtgs_book.specs.Settle.{altered, restated}
use Rattle.rtgs_rows.specs.Content.{Content, Rise, with_change}
use Rattle.rtgs_rows.specs.Dues.{forward_for, forwards_of}
use Rattle.rtgs_rows.specs.Fitting.{FitsPosting, FitsOrder, FitsMark, FitsRow}
use Rattle.rtgs_rows.specs.declared.forward.Forward.{Forward}

-- One list of a book and one of its content, before and after. If the two were the same, they are so after. If the
-- values were in their forms, and those that the change brings are, they are so after. What stands in the order of its
-- numbers after stood so before.
pub record Step {A : Type 0} (Fits : A → Type 0) (number : A → ℕ) (Brings : Type 0)
    (book content book_after content_after : List A) : Type 0 where
  pub same : content ≡ book → content_after ≡ book_after
  pub fits : Brings → AllByRecursion Fits book → AllByRecursion Fits book_after
  pub rose : Rise (λ a. pos (number a)) content_after → Rise (λ a. pos (number a)) content

-- the change is one of other records
kept : {A : Type 0} {Fits : A → Type 0} {number : A → ℕ} {Brings : Type 0} {book content : List A}
    → Step Fits number Brings book content book content
kept = record { same = λ e. e; fits = λ _ h. h; rose = λ h. h }

-- ---- one record more

pub all_front : {A : Type 0} (P : A → Type 0) (xs : List A) (x : A) → AllByRecursion P (xs ++ x ∷ [])
    → AllByRecursion P xs
all_front P [] x h = tt
all_front P (y ∷ ys) x h = (h.0, all_front P ys x h.1)

pub front : {A : Type 0} (R : A → A → Type 0) (xs : List A) (x : A) → IsAscending R (xs ++ x ∷ []) → IsAscending R xs
front R [] x h = tt
front R (y ∷ ys) x h = (all_front (R y) ys x h.0, front R ys x h.1)

added : {A : Type 0} {Fits : A → Type 0} {number : A → ℕ} {Brings : Type 0} {book content : List A} (x : A)
    → (Brings → Fits x) → Step Fits number Brings book content (book ++ x ∷ []) (content ++ x ∷ [])
added {Fits = Fits} {number = number} {book = book} {content = content} x fits = record {
  same = ap (λ l. l ++ x ∷ []);
  fits = λ brings h. all_push Fits book x h (fits brings);
  rose = front (λ a b. int_cmp (pos (number a)) (pos (number b)) ≡ Less) content x;
}

-- ---- each record changed, except its number

rose_map : {A : Type 0} (number : A → ℕ) (f : A → A) → ((x : A) → number (f x) ≡ number x) → (xs : List A)
    → Rise (λ a. pos (number a)) (map f xs) → Rise (λ a. pos (number a)) xs
rose_map {A = A} number f same xs h =
    ascending_weaker (λ (a b : A). int_cmp (pos (number (f a))) (pos (number (f b))) ≡ Less)
    (λ (a b : A). int_cmp (pos (number a)) (pos (number b)) ≡ Less) (λ a b low. rw (same a, same b) at low) xs
    (ascending_from_map (λ (a b : A). int_cmp (pos (number a)) (pos (number b)) ≡ Less) f xs h)

mapped : {A : Type 0} {Fits : A → Type 0} {number : A → ℕ} {Brings : Type 0} {book content : List A} (f : A → A)
    → ((x : A) → number (f x) ≡ number x) → ((x : A) → Fits x → Fits (f x))
    → Step Fits number Brings book content (map f book) (map f content)
mapped {Fits = Fits} {number = number} {book = book} {content = content} f same fits = record {
  same = ap (map f);
  fits = λ _ h. all_map Fits f book (all_weaker Fits (λ x. Fits (f x)) fits book h);
  rose = rose_map number f same content;
}

-- so where the change brings what the records need
mapped_by : {A : Type 0} {Fits : A → Type 0} {number : A → ℕ} {Brings : Type 0} {book content : List A} (f : A → A)
    → ((x : A) → number (f x) ≡ number x) → (Brings → (x : A) → Fits x → Fits (f x))
    → Step Fits number Brings book content (map f book) (map f content)
mapped_by {Fits = Fits} {number = number} {book = book} {content = content} f same fits = record {
  same = ap (map f);
  fits = λ brings h. all_map Fits f book (all_weaker Fits (λ x. Fits (f x)) (fits brings) book h);
  rose = rose_map number f same content;
}

restated_number : (number : ℕ) (state : OrderState) (o : Order)
    → (restated (has_number number) state o).number ≡ o.number
restated_number number state o = elim (cases_Bool (has_number number o)) [ inl hit ↦ rw hit | inr miss ↦ rw miss ]

restated_fits : (number : ℕ) (state : OrderState) (o : Order) → FitsOrder o
    → FitsOrder (restated (has_number number) state o)
restated_fits number state o h = elim (cases_Bool (has_number number o)) [
  | inl hit ↦ rw hit (record {
    undated = record {
      sender = h.undated.sender;
      reference = h.undated.reference;
      receiver = h.undated.receiver;
      amount = h.undated.amount;
      date = h.undated.date;
    };
    due = h.due;
  })
  | inr miss ↦ rw miss h
]

abbrev enters : ℕ → ℕ → Order → Order
enters number date = altered (is_held_with number) (entered date)

entered_number : (number date : ℕ) (o : Order) → (enters number date o).number ≡ o.number
entered_number number date o = elim (cases_Bool (is_held_with number o)) [ inl hit ↦ rw hit | inr miss ↦ rw miss ]

entered_fits : (number date : ℕ) → IsBusinessDate date → (o : Order) → FitsOrder o → FitsOrder (enters number date o)
entered_fits number date is o h = elim (cases_Bool (is_held_with number o)) [
  | inl hit ↦ rw hit (record {
    undated = record {
      sender = h.undated.sender;
      reference = h.undated.reference;
      receiver = h.undated.receiver;
      amount = h.undated.amount;
      date = is;
    };
    due = h.due;
  })
  | inr miss ↦ rw miss h
]

-- ---- the records that a book numbers

-- each change does so to the list
abbrev StepOf : {A : Type 0} → (A → Type 0) → (A → ℕ) → (Book → List A) → (Content → List A) → Type 0
StepOf Fits number in_book in_content = (b : Book) (c : Content) (row : RowChange) → Step Fits number (FitsRow row)
    (in_book b) (in_content c) (in_book (with_row b row)) (in_content (with_change c row))

pub posting_step : StepOf FitsPosting (λ p. p.number) (λ b. b.postings) (λ c. c.postings)
unfolding with_participant with_credit with_state let_in
posting_step b c (AddPosting p) = added p (λ fits. fits)
posting_step b c row = kept

pub order_step : StepOf FitsOrder (λ o. o.number) (λ b. b.orders) (λ c. c.orders)
unfolding with_participant with_credit with_state let_in
order_step b c (AddOrder o) = added o (λ fits. fits)
order_step b c (SetState number state) = mapped (restated (has_number number) state) (restated_number number state)
    (restated_fits number state)
order_step b c (EnterQueue number date) = mapped_by (enters number date) (entered_number number date)
    (entered_fits number date)
order_step b c row = kept

pub mark_step : StepOf FitsMark (λ m. m.number) (λ b. b.marks) (λ c. c.marks)
unfolding with_participant with_credit with_state let_in
mark_step b c (AddMark m) = added m (λ fits. fits)
mark_step b c row = kept

-- ---- the due dates, which follow the orders

forwards_push : (os : List Order) (o : Order)
    → forwards_of (os ++ o ∷ []) ≡ forwards_of os ++ forward_for o.number o.due
forwards_push os o = flat_map-append (λ (x : Order). forward_for x.number x.due) os (o ∷ [])
    ∙ ap (λ (fs : List Forward). forwards_of os ++ fs) (append-nil (forward_for o.number o.due))

forwards_map : (f : Order → Order) → ((x : Order) → (f x).number ≡ x.number) → ((x : Order) → (f x).due ≡ x.due)
    → (os : List Order) → forwards_of (map f os) ≡ forwards_of os
forwards_map f number due [] = refl
forwards_map f number due (o ∷ os) = λ i. forward_for (number o i) (due o i) ++ forwards_map f number due os i

restated_due : (number : ℕ) (state : OrderState) (o : Order) → (restated (has_number number) state o).due ≡ o.due
restated_due number state o = elim (cases_Bool (has_number number o)) [ inl hit ↦ rw hit | inr miss ↦ rw miss ]

entered_due : (number date : ℕ) (o : Order) → (enters number date o).due ≡ o.due
entered_due number date o = elim (cases_Bool (is_held_with number o)) [ inl hit ↦ rw hit | inr miss ↦ rw miss ]

-- A list of due dates that are those of the orders is so after each change of the orders, and what stands in the order
-- of its numbers after stood so before.
pub record FollowsOrders (orders orders_after : List Order) (content content_after : List Forward) : Type 0 where
  pub same : content ≡ forwards_of orders → content_after ≡ forwards_of orders_after
  pub rose : Rise (λ (f : Forward). pos f.number) content_after → Rise (λ (f : Forward). pos f.number) content

no_due : (orders orders_after : List Order) (content : List Forward) → forwards_of orders_after ≡ forwards_of orders
    → FollowsOrders orders orders_after content content
no_due orders orders_after content is = record { same = λ e. e ∙ sym is; rose = λ h. h }

due_rose : (content : List Forward) (number : ℕ) (due : Option ℕ)
    → Rise (λ (f : Forward). pos f.number) (content ++ forward_for number due)
    → Rise (λ (f : Forward). pos f.number) content
due_rose content number None h = rw (append-nil content) at h
due_rose content number (Some due) h = front _ content (record { number = number; due = due }) h

pub forward_step : (b : Book) (c : Content) (row : RowChange)
    → FollowsOrders b.orders ((with_row b row).orders) c.forwards ((with_change c row).forwards)
unfolding with_participant with_credit with_state let_in
forward_step b c (AddOrder o) = record {
  same = λ e. ap (λ (fs : List Forward). fs ++ forward_for o.number o.due) e ∙ sym (forwards_push b.orders o);
  rose = due_rose c.forwards o.number o.due;
}
forward_step b c (SetState number state) = no_due b.orders _ c.forwards
    (forwards_map (restated (has_number number) state) (restated_number number state) (restated_due number state)
    b.orders)
forward_step b c (EnterQueue number date) = no_due b.orders _ c.forwards
    (forwards_map (enters number date) (entered_number number date) (entered_due number date) b.orders)
forward_step b c row = no_due b.orders b.orders c.forwards refl
