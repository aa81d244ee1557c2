-- What widths write, as columns.
use Rattle.std.proofs.Common.{◌≡◌, ◌≤◌, ◌<◌, ◌-◌, ◌^◌, ◌∷◌, [], ℕ, zero, suc, List, length, replicate, decimal, refl}
use Rattle.std.proofs.Common.{arith, ap, true, false}
use Rattle.std.specs.Fmt.{padded, padded_integral, format_spec, char_count, take_chars, is_char_start}
use Rattle.std.specs.Str.{IsAscii}
use Rattle.std.specs.List.{repeat}
use Rattle.std.specs.Char.{encode_utf8}
use Rattle.std.proofs.lemmas.List.{append-nil}
use Rattle.std.proofs.Math.Dec.{eqb, eqb-suc-zero}
use native.Mathlib.Numerals.{unary_clauses}
use Rattle.rtgs_statements.specs.Columns.{left_in, right_in, zeros_in}

-- under `0` a number stands after zeros
pub zeros : (w n : ℕ) → padded_integral (format_spec 32 0 4 w (2 ^ 64 - 1)) false [] (decimal n) ≡ zeros_in w n
unfolding padded_integral char_count zeros_in
zeros w n = simp (unary_clauses, append-nil)

-- spaces, as often as they are asked for
pub spaces : (n : ℕ) → repeat n (encode_utf8 32) ≡ replicate n 32
unfolding encode_utf8
spaces zero = refl
spaces (suc n) = ap (λ t. 32 ∷ t) (spaces n)

-- under `>` a number stands after spaces
pub to_right : (w n : ℕ) → padded_integral (format_spec 32 3 0 w (2 ^ 64 - 1)) false [] (decimal n)
    ≡ right_in w (decimal n)
unfolding padded_integral char_count right_in
to_right w n =
    let none : (w - length (decimal n)) - (w - length (decimal n)) ≡ 0 = omega arith in
    simp (unary_clauses, append-nil, none, spaces)

char-start : (b : ℕ) → b < 128 → is_char_start b ≡ true
char-start b low = grind (arith)

pub char_count-ascii : (text : List ℕ) → IsAscii text → char_count text ≡ length text
unfolding char_count
char_count-ascii [] ascii = refl
char_count-ascii (b ∷ text) ascii = rw (char-start b (ascii 0), char_count-ascii text (λ i. ascii (suc i)))
    (omega arith)

pub take_chars-ascii : (n : ℕ) (text : List ℕ) → IsAscii text → length text ≤ n → take_chars n text ≡ text
unfolding take_chars
take_chars-ascii n [] ascii short = refl
take_chars-ascii zero (b ∷ text) ascii short = absurd (omega arith)
take_chars-ascii (suc n) (b ∷ text) ascii short =
    let some : eqb (suc n) 0 ≡ false = eqb-suc-zero n in
    let less : suc n - 1 ≡ n = omega arith in
    rw (char-start b (ascii 0), some, less) (ap (λ t. b ∷ t)
    (take_chars-ascii n text (λ i. ascii (suc i)) (omega arith)))

-- a text under `<`, and under `>`
pub text_left : (w : ℕ) (text : List ℕ) → IsAscii text → length text ≤ 2 ^ 64 - 1
    → padded (format_spec 32 1 0 w (2 ^ 64 - 1)) text ≡ left_in w text
unfolding padded left_in
text_left w text ascii short =
    let none : (w - length text) - 0 ≡ w - length text = omega arith in
    rw (take_chars-ascii (2 ^ 64 - 1) text ascii short, char_count-ascii text ascii, none, spaces (w - length text))
    refl

pub text_right : (w : ℕ) (text : List ℕ) → IsAscii text → length text ≤ 2 ^ 64 - 1
    → padded (format_spec 32 3 0 w (2 ^ 64 - 1)) text ≡ right_in w text
unfolding padded right_in
text_right w text ascii short =
    let none : (w - length text) - (w - length text) ≡ 0 = omega arith in
    rw (
      take_chars-ascii (2 ^ 64 - 1) text ascii short,
      char_count-ascii text ascii,
      none,
      spaces (w - length text),
      append-nil text,
    ) refl
