-- The body of an order holds one set of values, and they spell one order, or have a fault.
use Rattle.std.proofs.Common.{◌≡◌, ◌⊎◌, inl, inr, ℕ, List, Option, Some, None, Result, Ok, Err, refl}
use Rattle.serde_json.specs.Data.{Data}
use Rattle.rtgs_money.specs.Amounts.{IsAmount}
use Rattle.rtgs_money.specs.Forms.{IsCode, IsReference, is_code, is_reference}
use Rattle.rtgs_money.specs.declared.lexical.Lexical.TheVariants.{BadCode, BadReference, BadAmount}
use Rattle.rtgs_book.specs.declared.new_order.NewOrder.{NewOrder}
use Rattle.rtgs_http_requests.specs.OrderBody.{OrderValues, HasOrder, SpellsDue, SpellsOrder, said_by}
use Rattle.rtgs_http_requests.specs.Spelling.{SpellsDate}
use Rattle.rtgs_http_requests.specs.Steps.{HasAnswer}
use Rattle.rtgs_http_requests.specs.declared.http_fault.HttpFault.{HttpFault}
use Rattle.rtgs_http_requests.specs.declared.http_fault.HttpFault.TheVariants as fault
use Rattle.rtgs_http_requests.proofs.Agreement.{IsDetermined, equal_outcome, then_determined}
use Rattle.rtgs_http_requests.proofs.Answered.{then_answered, value_answered}
use Rattle.rtgs_http_requests.proofs.Decisions.{truth, amount}
use Rattle.rtgs_http_requests.proofs.Lower.{LowerLaws}
use Rattle.rtgs_http_requests.proofs.Spelt.{date_once, date_answered, equal_once}

-- the values with these parts
with_parts : List ℕ → List ℕ → ℕ → Option (List ℕ) → OrderValues
with_parts reference to amount due = record {
  reference = reference;
  to = to;
  amount = amount;
  due = due;
}

same_values : (one other : OrderValues) → one.reference ≡ other.reference → one.to ≡ other.to
    → one.amount ≡ other.amount → one.due ≡ other.due → one ≡ other
unfolding with_parts
same_values one other reference to cents due =
    let same : with_parts one.reference one.to one.amount one.due
    ≡ with_parts other.reference other.to other.amount other.due = cc (reference, to, cents, due) in
    same

pub one_order : (value : Data) (one other : OrderValues) → HasOrder one value → HasOrder other value → one ≡ other
one_order value one other x y = by one.due other.due x y
  where
    by : (due also : Option (List ℕ)) → HasOrder (record one { due = due }) value
        → HasOrder (record other { due = also }) value → record one { due = due } ≡ record other { due = also }
    by None None x y = same_values _ _ (cc (x, y)) (cc (x, y)) (cc (x, y)) refl
    by None (Some also) x y = let no : ⊥ = cc (x, y) in absurd no
    by (Some due) None x y = let no : ⊥ = cc (x, y) in absurd no
    by (Some due) (Some also) x y = same_values _ _ (cc (x, y)) (cc (x, y)) (cc (x, y)) (cc (x, y))

due_once : LowerLaws → (text : Option (List ℕ)) → IsDetermined (SpellsDue text)
due_once laws None one other x y = equal_outcome _ one other x y
due_once laws (Some text) one other x y =
    then_determined (SpellsDate text) (λ date (outcome : Result (Option ℕ) HttpFault). outcome ≡ Ok (Some date))
    (date_once laws text) (equal_once (λ date. Ok (Some date))) one other x y

pub order_once : LowerLaws → (values : OrderValues) → IsDetermined (SpellsOrder values)
order_once laws values one other x y =
    by (truth (is_reference values.reference)) (truth (is_code values.to)) (amount values.amount)
  where
    by : IsReference values.reference ⊎ (¬ IsReference values.reference) → IsCode values.to ⊎ (¬ IsCode values.to)
        → IsAmount values.amount ⊎ (¬ IsAmount values.amount) → (one ≡ Err fault.OutOfMemory)
        ⊎ ((other ≡ Err fault.OutOfMemory) ⊎ (one ≡ other))
    by (inl r) (inl t) (inl a) =
        let order : Option ℕ → Result NewOrder HttpFault = λ due. Ok (said_by values due) in
        then_determined (SpellsDue values.due) (λ due (outcome : Result NewOrder HttpFault). outcome ≡ order due)
        (due_once laws values.due) (equal_once order) one other (x.due r t a) (y.due r t a)
    by (inl r) (inl t) (inr a) = equal_outcome _ one other (x.bad_amount r t a) (y.bad_amount r t a)
    by (inl r) (inr t) _ = equal_outcome _ one other (x.bad_code r t) (y.bad_code r t)
    by (inr r) _ _ = equal_outcome _ one other (x.bad_reference r) (y.bad_reference r)

due_answered : (text : Option (List ℕ)) → HasAnswer (SpellsDue text)
due_answered None = value_answered None
due_answered (Some text) =
    then_answered (SpellsDate text) (λ date (outcome : Result (Option ℕ) HttpFault). outcome ≡ Ok (Some date))
    (date_answered text) (λ date. value_answered (Some date))

pub order_answered : (values : OrderValues) → HasAnswer (SpellsOrder values)
order_answered values none =
    by (truth (is_reference values.reference)) (truth (is_code values.to)) (amount values.amount)
  where
    by : IsReference values.reference ⊎ (¬ IsReference values.reference) → IsCode values.to ⊎ (¬ IsCode values.to)
        → IsAmount values.amount ⊎ (¬ IsAmount values.amount) → ⊥
    by (inl r) (inl t) (inl a) =
        let order : Option ℕ → NewOrder = λ due. said_by values due in
        then_answered (SpellsDue values.due) (λ due (outcome : Result NewOrder HttpFault). outcome ≡ Ok (order due))
        (due_answered values.due) (λ due. value_answered (order due)) (λ outcome is. none outcome (record {
          due = λ _ _ _. is;
          bad_reference = λ x. absurd (x r);
          bad_code = λ _ x. absurd (x t);
          bad_amount = λ _ _ x. absurd (x a);
        }))
    by (inl r) (inl t) (inr a) =
        let clash = none (Err (fault.Form BadAmount)) (record {
          due = λ _ _ x. absurd (a x);
          bad_reference = λ x. absurd (x r);
          bad_code = λ _ x. absurd (x t);
          bad_amount = λ _ _ _. refl;
        }) in
        cc
    by (inl r) (inr t) _ =
        let clash = none (Err (fault.Form BadCode)) (record {
          due = λ _ x _. absurd (t x);
          bad_reference = λ x. absurd (x r);
          bad_code = λ _ _. refl;
          bad_amount = λ _ x _. absurd (t x);
        }) in
        cc
    by (inr r) _ _ =
        let clash = none (Err (fault.Form BadReference)) (record {
          due = λ x _ _. absurd (r x);
          bad_reference = λ _. refl;
          bad_code = λ x _. absurd (r x);
          bad_amount = λ x _ _. absurd (r x);
        }) in
        cc
