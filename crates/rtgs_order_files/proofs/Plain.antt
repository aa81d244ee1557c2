-- Why no line of a result file has quotes.
use Rattle.std.proofs.Common.{◌≡◌, ◌≢◌, ◌<◌, ◌+◌, ◌/◌, ◌%◌, ◌^◌, ◌&&◌, ◌++◌, Bool, true, false, ℕ, zero, suc}
use Rattle.std.proofs.Common.{List, [], ◌∷◌, decimal, refl, subst, append-nil, arith}
use Rattle.std.proofs.lemmas.Bool.{ne_eqb}
use Rattle.std.proofs.lemmas.Fmt.{decimal_is_IsNumeral}
use Rattle.std.specs.List.{list_all, list_any}
use Rattle.std.specs.Char.{digit_value}
use Rattle.std.specs.Str.Parse.{AllDigits}
use Rattle.csv.specs.Writing.{default_writer, needs_byte, fields_text, is_blank}
use Rattle.rtgs_money.specs.Date.{date_text}
use Rattle.rtgs_money.specs.Digits.{digits}
use Rattle.rtgs_money.specs.Forms.{is_reference, IsReference, is_reference_byte}
use Rattle.rtgs_order_files.specs.Plain.{IsPlain, joined}
use Rattle.rtgs_order_files.specs.Results.{line}

byte_plain : (b : ℕ) → b ≢ 44 → b ≢ 34 → b ≢ 13 → b ≢ 10 → needs_byte default_writer b ≡ false
byte_plain b comma quote return feed = rw (ne_eqb b 44 comma, ne_eqb b 34 quote, ne_eqb b 13 return, ne_eqb b 10 feed)
    refl

field_plain : (field : List ℕ) → IsPlain field → list_any (needs_byte default_writer) field ≡ false
field_plain [] all = refl
field_plain (b ∷ field) all = rw (byte_plain b all.0.0 all.0.1 all.0.2 all.0.3) (field_plain field all.1)

pub plain_line : (reference result number detail : List ℕ) → IsPlain reference → IsPlain result → IsPlain number
    → IsPlain detail → line reference result number detail ≡ joined reference result number detail
unfolding fields_text is_blank
plain_line reference result number detail p q s t = rw (
  field_plain reference p,
  field_plain result q,
  field_plain
      number s,
  field_plain detail t,
  append-nil detail,
) refl

both : (a b : Bool) → (a && b) ≡ true → (a ≡ true) × (b ≡ true)
both true b e = (refl, e)
both false b e = absurd (cc)

letter : (b : ℕ) → is_reference_byte b ≡ true → (b ≢ 44) × (b ≢ 34) × (b ≢ 13) × (b ≢ 10)
letter b e = (
  λ q. (let h : is_reference_byte 44 ≡ true = subst (λ x. is_reference_byte x ≡ true) q e in cc),
  λ q. (let h : is_reference_byte 34 ≡ true = subst (λ x. is_reference_byte x ≡ true) q e in cc),
  λ q. (let h : is_reference_byte 13 ≡ true = subst (λ x. is_reference_byte x ≡ true) q e in cc),
  λ q. (let h : is_reference_byte 10 ≡ true = subst (λ x. is_reference_byte x ≡ true) q e in cc),
)

letters : (bytes : List ℕ) → list_all is_reference_byte bytes ≡ true → IsPlain bytes
letters [] e = tt
letters (b ∷ bytes) e = let h = both (is_reference_byte b) (list_all is_reference_byte bytes) e
    in (letter b h.0, letters bytes h.1)

pub plain_reference : (reference : List ℕ) → IsReference reference → IsPlain reference
unfolding is_reference
plain_reference reference form = letters reference (both _ (list_all is_reference_byte reference) form).1

digit : (b : ℕ) → digit_value b < 10 → (b ≢ 44) × (b ≢ 34) × (b ≢ 13) × (b ≢ 10)
digit b e = (
  λ q. (let h : digit_value 44 < 10 = subst (λ x. digit_value x < 10) q e in omega (arith, h)),
  λ q. (let h : digit_value 34 < 10 = subst (λ x. digit_value x < 10) q e in omega (arith, h)),
  λ q. (let h : digit_value 13 < 10 = subst (λ x. digit_value x < 10) q e in omega (arith, h)),
  λ q. (let h : digit_value 10 < 10 = subst (λ x. digit_value x < 10) q e in omega (arith, h)),
)

all_digits : (bytes : List ℕ) → AllDigits 10 bytes → IsPlain bytes
all_digits [] all = tt
all_digits (b ∷ bytes) all = (digit b all.0, all_digits bytes all.1)

pub plain_number : (number : ℕ) → number < 2 ^ 64 → IsPlain (decimal number)
plain_number number small = all_digits (decimal number) (decimal_is_IsNumeral number small).0.1

-- what is plain and then plain is plain
plain_append : (front back : List ℕ) → IsPlain front → IsPlain back → IsPlain (front ++ back)
plain_append [] back p q = q
plain_append (b ∷ front) back p q = (p.0, plain_append front back p.1 q)

plain_digit : (n : ℕ) → (48 + n ≢ 44) × (48 + n ≢ 34) × (48 + n ≢ 13) × (48 + n ≢ 10)
plain_digit n = (λ q. omega (arith, q), λ q. omega (arith, q), λ q. omega (arith, q), λ q. omega (arith, q))

plain_digits : (count n : ℕ) → IsPlain (digits count n)
plain_digits zero n = tt
plain_digits (suc count) n = plain_append (digits count (n / 10)) ((48 + n % 10) ∷ []) (plain_digits count (n / 10))
    (plain_digit (n % 10), tt)

plain_dashed : (front back : List ℕ) → IsPlain front → IsPlain back → IsPlain (front ++ 45 ∷ back)
plain_dashed front back p q = plain_append front (45 ∷ back) p (letter 45 refl, q)

pub plain_date : (date : ℕ) → IsPlain (date_text date)
unfolding date_text
plain_date date = plain_dashed (digits 4 (date / 10000)) (digits 2 (date / 100 % 100) ++ 45 ∷ digits 2 (date % 100))
    (plain_digits 4 (date / 10000)) (plain_dashed (digits 2 (date / 100 % 100)) (digits 2 (date % 100))
    (plain_digits 2 (date / 100 % 100)) (plain_digits 2 (date % 100)))
