-- A number that was read of an option.
use Rattle.std.proofs.Common.{◌≡◌, ◌∙◌, ◌<◌, ◌^◌, ℕ, List, refl, sym, Option, Some, None}
use Rattle.std.specs.Prelude.{Result, Ok, Err}
use Rattle.std.specs.Str.Parse.{IsNumeral, ParsesUnsigned, digits_value, without_leading_plus}
use Rattle.clap.specs.Words.{ReadsOne, Row, Text, one_of}
use Rattle.rtgs_cli_arguments.specs.Invocation.{IsChosen, IsNumber}

-- a text that is read as no number is none
no_number : {E : Type 0} (bits : ℕ) (e : E) (t u : Text) (n : ℕ) → ParsesUnsigned bits 10 t (Err e) → u ≡ t
    → IsNumeral 10 (without_leading_plus u) → n ≡ digits_value 10 (without_leading_plus u) → n < 2 ^ bits → ⊥
no_number bits e t u n refused same numeral is small = refused (rw (sym same) numeral, rw (sym same, sym is) small)

module _ {E : Type 0} (bits : ℕ) (gives : Text → Result ℕ E → Type 0)
    (parses : (t : Text) (r : Result ℕ E) → gives t r → ParsesUnsigned bits 10 t r)
    (given : List Row) (option : Text) where
  -- what a typed getter gives is the number that was given
  pub number_given : (result : Option ℕ) → (one_of option given ≡ None → result ≡ None)
      → ((t : Text) → one_of option given ≡ Some t → ReadsOne gives t result)
      → IsChosen (IsNumber bits given option) result
  number_given result none value = go result (one_of option given) refl none value
    where
      go : (result : Option ℕ) (text : Option Text) → one_of option given ≡ text
          → (one_of option given ≡ None → result ≡ None)
          → ((t : Text) → one_of option given ≡ Some t → ReadsOne gives t result)
          → IsChosen (IsNumber bits given option) result
      go (Some n) None is none value = let bad : Some n ≡ None = none is in cc
      go (Some n) (Some t) is none value =
          let p = parses t (Ok n) (value t is) in (t, is, p.0.0, p.1, rw p.1 p.0.1)
      go None None is none value = λ n number. let bad : Some number.0 ≡ None = sym number.1 ∙ is in cc
      go None (Some t) is none value = λ n number.
          let bad = value t is in
          let same : Some number.0 ≡ Some t = sym number.1 ∙ is in
          let alike : number.0 ≡ t = cc in
          no_number bits bad.0 t number.0 n (parses t (Err bad.0) bad.1) alike number.2 number.3 number.4
