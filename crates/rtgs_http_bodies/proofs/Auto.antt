-- What was resolved, among the members that tell of an answer.
use Rattle.std.proofs.Common.{◌≡◌, ◌∙◌, ℕ, ℤ, pos, negsuc, Option, Some, None, false, codes, refl, sym, ap}
use Rattle.serde_json.specs.Data.{Members, object, put}
use Rattle.serde_json.specs.Find.{is_float, of_integer}
use Rattle.serde_json.specs.Written.{has_float, members_have_float}
use Rattle.rtgs_book.specs.declared.answer.Answer.{Answer}
use Rattle.rtgs_book.specs.declared.answer.Answer.TheVariants.{Added, CreditSet, Posted, Opened, Settled, Queued, Held}
use Rattle.rtgs_book.specs.declared.answer.Answer.TheVariants.{Withdrawn, Resolved, Nothing, CutOffDone, Closed}
use Rattle.rtgs_book.specs.declared.answer.Answer.TheVariants.{Repeated}
use Rattle.rtgs_book.specs.declared.answer.Known.{Known}
use Rattle.rtgs_book.specs.declared.answer.Known.TheVariants as known
use Rattle.rtgs_book.specs.declared.answer.Resolution.{Resolution}
use Rattle.rtgs_book.specs.declared.answer.WholeAnswer.{WholeAnswer}
use Rattle.rtgs_book.specs.declared.order_state.OrderState.{OrderState}
use Rattle.rtgs_book.specs.declared.order_state.OrderState.TheVariants as state
use Rattle.rtgs_http_bodies.specs.Answers.{answer_data, own_data, repeated_data, repeated_order, resolution_data}
use Rattle.rtgs_http_bodies.specs.Answers.{with_auto}

-- ---- it comes right after the word of the answer

-- the value of the command's own answer, and how what was resolved is added to it
abbrev pub Joins : Answer → Resolution → Type 0
Joins own auto = (members : Members) × (own_data None own ≡ object members)
    × (object (put (codes "auto") (resolution_data auto) members) ≡ own_data (Some auto) own)

order_joins : (number : ℕ) (state : OrderState) (auto : Resolution) → (members : Members)
    × (repeated_order None number state ≡ object members)
    × (object (put (codes "auto") (resolution_data auto) members) ≡ repeated_order (Some auto) number state)
order_joins number (state.Settled mark) auto = (_, refl, refl)
order_joins number state.Queued auto = (_, refl, refl)
order_joins number state.Held auto = (_, refl, refl)
order_joins number state.Withdrawn auto = (_, refl, refl)
order_joins number state.Rejected auto = (_, refl, refl)

repeat_joins : (known : Known) (auto : Resolution) → Joins (Repeated known) auto
repeat_joins known.Nothing auto = (_, refl, refl)
repeat_joins (known.Posting number) auto = (_, refl, refl)
repeat_joins (known.Order number state) auto = order_joins number state auto

own_joins : (own : Answer) (auto : Resolution) → Joins own auto
own_joins Added auto = (_, refl, refl)
own_joins CreditSet auto = (_, refl, refl)
own_joins (Posted number) auto = (_, refl, refl)
own_joins Opened auto = (_, refl, refl)
own_joins (Settled number mark) auto = (_, refl, refl)
own_joins (Queued number place) auto = (_, refl, refl)
own_joins (Held number due) auto = (_, refl, refl)
own_joins (Withdrawn number) auto = (_, refl, refl)
own_joins (Resolved mark count value) auto = (_, refl, refl)
own_joins Nothing auto = (_, refl, refl)
own_joins CutOffDone auto = (_, refl, refl)
own_joins (Closed rejected) auto = (_, refl, refl)
own_joins (Repeated known) auto = repeat_joins known auto

pub is_joined : (answer : WholeAnswer) (auto : Resolution) → answer.auto ≡ Some auto → (members : Members)
    × (own_data None answer.own ≡ object members)
    × (object (put (codes "auto") (resolution_data auto) members) ≡ answer_data answer)
is_joined answer auto some =
    let joined = own_joins answer.own auto in
    (joined.0, joined.1, joined.2 ∙ ap (λ a. own_data a answer.own) (sym some))

pub is_alone : (answer : WholeAnswer) → answer.auto ≡ None → own_data None answer.own ≡ answer_data answer
is_alone answer none = ap (λ a. own_data a answer.own) (sym none)

-- ---- no answer tells a float

integer_is_no_float : (z : ℤ) → is_float (of_integer z) ≡ false
integer_is_no_float (pos n) = refl
integer_is_no_float (negsuc n) = refl

auto_has_no_float : (auto : Option Resolution) (rest : Members) → members_have_float rest ≡ false
    → members_have_float (with_auto auto rest) ≡ false
auto_has_no_float None rest none = none
auto_has_no_float (Some auto) rest none = rw (integer_is_no_float auto.value, none) refl

repeat_has_no_float : (auto : Option Resolution) (known : Known) → has_float (repeated_data auto known) ≡ false
repeat_has_no_float auto known.Nothing = auto_has_no_float auto _ refl
repeat_has_no_float auto (known.Posting number) = auto_has_no_float auto _ refl
repeat_has_no_float auto (known.Order number (state.Settled mark)) = auto_has_no_float auto _ refl
repeat_has_no_float auto (known.Order number state.Queued) = auto_has_no_float auto _ refl
repeat_has_no_float auto (known.Order number state.Held) = auto_has_no_float auto _ refl
repeat_has_no_float auto (known.Order number state.Withdrawn) = auto_has_no_float auto _ refl
repeat_has_no_float auto (known.Order number state.Rejected) = auto_has_no_float auto _ refl

own_has_no_float : (auto : Option Resolution) (own : Answer) → has_float (own_data auto own) ≡ false
own_has_no_float auto Added = auto_has_no_float auto _ refl
own_has_no_float auto CreditSet = auto_has_no_float auto _ refl
own_has_no_float auto (Posted number) = auto_has_no_float auto _ refl
own_has_no_float auto Opened = auto_has_no_float auto _ refl
own_has_no_float auto (Settled number mark) = auto_has_no_float auto _ refl
own_has_no_float auto (Queued number place) = auto_has_no_float auto _ refl
own_has_no_float auto (Held number due) = auto_has_no_float auto _ refl
own_has_no_float auto (Withdrawn number) = auto_has_no_float auto _ refl
own_has_no_float auto (Resolved mark count value) =
    auto_has_no_float auto _ (rw (integer_is_no_float value) refl)
own_has_no_float auto Nothing = auto_has_no_float auto _ refl
own_has_no_float auto CutOffDone = auto_has_no_float auto _ refl
own_has_no_float auto (Closed rejected) = auto_has_no_float auto _ refl
own_has_no_float auto (Repeated known) = repeat_has_no_float auto known

pub answer_has_no_float : (answer : WholeAnswer) → has_float (answer_data answer) ≡ false
answer_has_no_float answer = own_has_no_float answer.auto answer.own
