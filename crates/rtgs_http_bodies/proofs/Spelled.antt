-- Each answer's value, written without a space.
use Rattle.std.proofs.Common.{◌≡◌, ◌≤◌, ◌<◌, ◌+◌, ◌/◌, ◌%◌, ◌∙◌, ℕ, zero, suc, ℤ, pos, negsuc, List, [], ◌∷◌, ◌++◌}
use Rattle.std.proofs.Common.{codes, decimal, append_assoc, Option, Some, None, true, refl, arith}
use Rattle.std.proofs.lemmas.Bool.{ne_eqb, le-ltb}
use Rattle.std.proofs.lemmas.Grind.{flat_map-append}
use Rattle.std.specs.Fmt.{signed_decimal}
use Rattle.json.specs.Print.{escape, escape_byte}
use Rattle.rtgs_money.specs.Date.{date_text}
use Rattle.rtgs_money.specs.Digits.{digits}
use Rattle.serde_json.specs.Data.{Members}
use Rattle.serde_json.specs.Find.{of_integer}
use Rattle.serde_json.specs.Written.{compact_text, members_text, number_text}
use Rattle.serde_json.proofs.OnLiterals.{serde_json_on_literals}
use Rattle.rtgs_book.specs.declared.answer.Answer.{Answer}
use Rattle.rtgs_book.specs.declared.answer.Answer.TheVariants.{Added, CreditSet, Posted, Opened, Settled, Queued, Held}
use Rattle.rtgs_book.specs.declared.answer.Answer.TheVariants.{Withdrawn, Resolved, Nothing, CutOffDone, Closed}
use Rattle.rtgs_book.specs.declared.answer.Answer.TheVariants.{Repeated}
use Rattle.rtgs_book.specs.declared.answer.Known.{Known}
use Rattle.rtgs_book.specs.declared.answer.Known.TheVariants as known
use Rattle.rtgs_book.specs.declared.answer.Resolution.{Resolution}
use Rattle.rtgs_book.specs.declared.answer.WholeAnswer.{WholeAnswer}
use Rattle.rtgs_book.specs.declared.order_state.OrderState.TheVariants as state
use Rattle.rtgs_http_bodies.specs.Answers.{answer_data, own_data, repeated_data, with_auto}
use Rattle.rtgs_http_bodies.specs.Spellings.{answer_text, auto_text, own_text, repeated_text}

-- a byte of a number or a date needs no escape
byte_as_it_is : (b : ℕ) → 45 ≤ b → b ≤ 57 → escape_byte b ≡ b ∷ []
unfolding escape_byte
byte_as_it_is b low high = rw (
  ne_eqb b 34 (λ e. omega (arith, low, e)),
  ne_eqb b 92 (λ e. omega (arith, high, e)),
  ne_eqb b 8 (λ e. omega (arith, low, e)),
  ne_eqb b 12 (λ e. omega (arith, low, e)),
  ne_eqb b 10 (λ e. omega (arith, low, e)),
  ne_eqb b 13 (λ e. omega (arith, low, e)),
  ne_eqb b 9 (λ e. omega (arith, low, e)),
  le-ltb b 32 (omega (arith, low)),
) refl

digits_as_they_are : (count n : ℕ) → escape (digits count n) ≡ digits count n
digits_as_they_are zero n = refl
digits_as_they_are (suc count) n =
    let small : n % 10 < 10 = omega arith in
    flat_map-append escape_byte (digits count (n / 10)) ((48 + n % 10) ∷ [])
    ∙ rw (digits_as_they_are count (n / 10), byte_as_it_is (48 + n % 10) (omega arith) (omega (arith, small))) refl

date_as_it_is : (date : ℕ) → escape (date_text date) ≡ date_text date
unfolding date_text
date_as_it_is date =
    let year = digits 4 (date / 10000) in
    let month = digits 2 (date / 100 % 100) in
    let day = digits 2 (date % 100) in
    rw (
      flat_map-append escape_byte year (45 ∷ month ++ 45 ∷ day),
      flat_map-append escape_byte month (45 ∷ day),
      digits_as_they_are 4 (date / 10000),
      digits_as_they_are 2 (date / 100 % 100),
      digits_as_they_are 2 (date % 100),
      byte_as_it_is 45 (omega arith) (omega arith),
    ) refl

pub number_of_integer : (z : ℤ) → number_text (of_integer z) ≡ signed_decimal z
number_of_integer (pos n) = refl
number_of_integer (negsuc n) = refl

-- a text with one, two, three or four parts that vary
one : (a x b : List ℕ) → a ++ (x ++ b) ≡ a ++ x ++ b
one a x b = simp append_assoc

two : (a x b y c : List ℕ) → a ++ (x ++ (b ++ (y ++ c))) ≡ a ++ x ++ b ++ y ++ c
two a x b y c = simp append_assoc

three : (a x b y c z d : List ℕ) → a ++ (x ++ (b ++ (y ++ (c ++ (z ++ d))))) ≡ a ++ x ++ b ++ y ++ c ++ z ++ d
three a x b y c z d = simp append_assoc

four : (a w b x c y d z e : List ℕ)
    → a ++ (w ++ (b ++ (x ++ (c ++ (y ++ (d ++ (z ++ e))))))) ≡ a ++ w ++ b ++ x ++ c ++ y ++ d ++ z ++ e
four a w b x c y d z e = simp append_assoc

-- a text with a date in quotes and a number, behind another part
after_date : (a w b date c y d : List ℕ)
    → a ++ (w ++ (b ++ ((date ++ 34 ∷ []) ++ (c ++ (y ++ d))))) ≡ a ++ w ++ b ++ date ++ 34 ∷ c ++ y ++ d
after_date a w b date c y d = simp append_assoc

-- what was resolved, before other members
auto_first : (auto : Option Resolution) (rest : Members)
    → members_text true (with_auto auto rest) ≡ auto_text auto ++ members_text true rest
unfolding serde_json_on_literals
auto_first None rest = refl
auto_first (Some auto) rest = rw (number_of_integer auto.value)
    (spread (codes ",\"auto\":{\"count\":") (decimal auto.count) (codes ",\"mark\":") (decimal auto.mark)
    (codes ",\"value\":") (signed_decimal auto.value) (codes "}") (members_text true rest))
  where
    spread : (a x b y c z d e : List ℕ) → a ++ ((x ++ (b ++ (y ++ (c ++ (z ++ d))))) ++ e)
        ≡ (a ++ x ++ b ++ y ++ c ++ z ++ d) ++ e
    spread a x b y c z d e = simp append_assoc

repeated_spelled : (auto : Option Resolution) (k : Known)
    → compact_text (repeated_data auto k) ≡ repeated_text (auto_text auto) k
unfolding serde_json_on_literals
repeated_spelled auto known.Nothing = rw (auto_first auto _)
    (one (codes "{\"answer\":\"repeated\"") (auto_text auto) (codes "}"))
repeated_spelled auto (known.Posting number) = rw (auto_first auto _)
    (two (codes "{\"answer\":\"repeated\"") (auto_text auto) (codes ",\"number\":") (decimal number) (codes "}"))
repeated_spelled auto (known.Order number (state.Settled mark)) = rw (auto_first auto _)
    (three (codes "{\"answer\":\"repeated\"") (auto_text auto) (codes ",\"mark\":") (decimal mark)
    (codes ",\"number\":") (decimal number) (codes ",\"state\":\"settled\"}"))
repeated_spelled auto (known.Order number state.Queued) = rw (auto_first auto _)
    (two (codes "{\"answer\":\"repeated\"") (auto_text auto) (codes ",\"number\":") (decimal number)
    (codes ",\"state\":\"queued\"}"))
repeated_spelled auto (known.Order number state.Held) = rw (auto_first auto _)
    (two (codes "{\"answer\":\"repeated\"") (auto_text auto) (codes ",\"number\":") (decimal number)
    (codes ",\"state\":\"held\"}"))
repeated_spelled auto (known.Order number state.Withdrawn) = rw (auto_first auto _)
    (two (codes "{\"answer\":\"repeated\"") (auto_text auto) (codes ",\"number\":") (decimal number)
    (codes ",\"state\":\"withdrawn\"}"))
repeated_spelled auto (known.Order number state.Rejected) = rw (auto_first auto _)
    (two (codes "{\"answer\":\"repeated\"") (auto_text auto) (codes ",\"number\":") (decimal number)
    (codes ",\"state\":\"rejected\"}"))

own_spelled : (auto : Option Resolution) (own : Answer)
    → compact_text (own_data auto own) ≡ own_text (auto_text auto) own
unfolding serde_json_on_literals
own_spelled auto Added = rw (auto_first auto _) (one (codes "{\"answer\":\"added\"") (auto_text auto) (codes "}"))
own_spelled auto CreditSet = rw (auto_first auto _)
    (one (codes "{\"answer\":\"credit set\"") (auto_text auto) (codes "}"))
own_spelled auto (Posted number) = rw (auto_first auto _)
    (two (codes "{\"answer\":\"posted\"") (auto_text auto) (codes ",\"number\":") (decimal number) (codes "}"))
own_spelled auto Opened = rw (auto_first auto _)
    (one (codes "{\"answer\":\"opened\"") (auto_text auto) (codes "}"))
own_spelled auto (Settled number mark) = rw (auto_first auto _)
    (three (codes "{\"answer\":\"settled\"") (auto_text auto) (codes ",\"mark\":") (decimal mark)
    (codes ",\"number\":") (decimal number) (codes "}"))
own_spelled auto (Queued number place) = rw (auto_first auto _)
    (three (codes "{\"answer\":\"queued\"") (auto_text auto) (codes ",\"number\":") (decimal number)
    (codes ",\"place\":") (decimal place) (codes "}"))
own_spelled auto (Held number due) = rw (auto_first auto _, date_as_it_is due)
    (after_date (codes "{\"answer\":\"held\"") (auto_text auto) (codes ",\"due\":\"") (date_text due)
    (codes ",\"number\":") (decimal number) (codes "}"))
own_spelled auto (Withdrawn number) = rw (auto_first auto _)
    (two (codes "{\"answer\":\"withdrawn\"") (auto_text auto) (codes ",\"number\":") (decimal number) (codes "}"))
own_spelled auto (Resolved mark count value) = rw (auto_first auto _, number_of_integer value)
    (four (codes "{\"answer\":\"resolved\"") (auto_text auto) (codes ",\"count\":") (decimal count)
    (codes ",\"mark\":") (decimal mark) (codes ",\"value\":") (signed_decimal value) (codes "}"))
own_spelled auto Nothing = rw (auto_first auto _)
    (one (codes "{\"answer\":\"nothing\"") (auto_text auto) (codes "}"))
own_spelled auto CutOffDone = rw (auto_first auto _)
    (one (codes "{\"answer\":\"cut off\"") (auto_text auto) (codes "}"))
own_spelled auto (Closed rejected) = rw (auto_first auto _)
    (two (codes "{\"answer\":\"closed\"") (auto_text auto) (codes ",\"rejected\":") (decimal rejected) (codes "}"))
own_spelled auto (Repeated known) = repeated_spelled auto known

pub answer_spelled : (answer : WholeAnswer) → compact_text (answer_data answer) ≡ answer_text answer
answer_spelled answer = own_spelled answer.auto answer.own
