-- Texts of plain bytes are texts.
use Rattle.std.proofs.Common.{◌≡◌, ◌<◌, ◌-◌, ◌^◌, ◌==◌, ℕ, List, [], ◌∷◌, ◌&&◌, not, nat_le, slice_index, Bool, true}
use Rattle.std.proofs.Common.{false, cond, length, take, drop, arith, Option, Some, None, Result, Ok, IsUtf8, sym}
use Rattle.std.proofs.Common.{ap, subst, ◌∙◌}
use Rattle.std.specs.Prelude.{⊤}
use Rattle.std.proofs.Math.Dec.{leb}
use Rattle.std.proofs.lemmas.Bool.{leb-true}
use Rattle.std.specs.Result.{result_ok}
use Rattle.std.specs.Str.{IsAscii}
use Rattle.std.specs.List.{list_all}
use Rattle.std.specs.Str.Parse.{AllDigits, ParsesUnsigned, digits_value}
use Rattle.std.proofs.lemmas.Str.{IsAscii-take, IsAscii-drop, IsUtf8-from_ascii}
use Rattle.std.proofs.lemmas.Str.Ascii.{IsAscii-nil, IsAscii-cons}
use Rattle.std.proofs.lemmas.Str.Parse.{IsNumeralModel, numerals_by_value, tells_digits, parse_gives}
use Rattle.std.proofs.lemmas.Str.Parse.{digits_value_short}
use Rattle.std.proofs.lemmas.Fmt.{IsAscii-from_digits}
use Rattle.matchit.specs.Params.{Shows, walk, part_of}
use Rattle.rtgs_http_requests.specs.heads.Fields.{IsShortNumber}
use Rattle.rtgs_http_requests.specs.heads.Parameters.{Parts, first_part, parts_of}
use Rattle.rtgs_http_requests.specs.declared.heads.limits.TheConstants.{MOST_DIGITS}
use Rattle.rtgs_http_requests.specs.heads.Targets.{is_plain_byte, is_plain_target}
use Rattle.rtgs_lists.proofs.Bools.{and_left, and_right}

pub digits_are_text : (digits : List ℕ) → IsShortNumber digits → IsUtf8 digits
digits_are_text digits short = IsUtf8-from_ascii digits (IsAscii-from_digits digits short.0.1)

own : IsNumeralModel (AllDigits 10) (digits_value 10)
own = numerals_by_value (AllDigits 10) tells_digits

pub short_numbers_parse : {E : Type 0} (digits : List ℕ) (read : Result ℕ E) → ParsesUnsigned 32 10 digits read
    → IsShortNumber digits → read ≡ Ok (digits_value 10 digits)
short_numbers_parse digits read parsed short =
    let bound : digits_value 10 digits < 10 ^ 9 = digits_value_short own digits MOST_DIGITS short.0.1 short.1 in
    parse_gives own 32 digits read parsed short.0.1 short.0.0 (omega (arith, bound))

part_ascii : (path : List ℕ) (start end : ℕ) → IsAscii path → IsAscii (part_of path start end)
part_ascii path start end h = by (leb start end && leb end (length path))
  where
    by : (test : Bool) → IsAscii (cond test (take (end - start) (drop start path)) [])
    by true = IsAscii-take (drop start path) (end - start) (IsAscii-drop path start h)
    by false = IsAscii-nil

-- what each name took is of plain bytes
abbrev pub AreAscii : List (List ℕ × List ℕ) → Type 0
AreAscii [] = ⊤
AreAscii (part ∷ parts) = IsAscii part.1 × AreAscii parts

pub walk_ascii : (pattern text path : List ℕ) (names : List (ℕ × ℕ)) (token at : ℕ) → IsAscii path
    → AreAscii (walk pattern text path names token at)
walk_ascii pattern text path [] token at h = tt
walk_ascii pattern text path (name ∷ names) token at h =
    (part_ascii path _ _ h, walk_ascii pattern text path names _ _ h)

-- what is shown of plain bytes is these
ascii_shown : (part shown : List ℕ) → IsAscii part → Shows part shown → shown ≡ part
ascii_shown part shown ascii shows = shows (IsUtf8-from_ascii part ascii)

-- what is shown of the first name, and of the first of the others, is what they took
pub parts_shown : (given rest : List (List ℕ × List ℕ)) (one : List ℕ × List ℕ) (first second : List ℕ)
    → AreAscii given → given ≡ one ∷ rest → Shows one.1 first → (AreAscii rest → second ≡ first_part rest)
    → ◌≡◌ {A = Parts} (record { first = first; second = second }) (parts_of given)
parts_shown given rest one first second ascii e shows follows =
    let all : AreAscii (one ∷ rest) = subst (λ parts. AreAscii parts) e ascii in
    let left : List ℕ → Parts = λ part. record { first = part; second = second } in
    let right : List ℕ → Parts = λ part. record { first = one.1; second = part } in
    ap left (ascii_shown one.1 first all.0 shows) ∙ ap right (follows all.1) ∙ sym (ap (λ parts. parts_of parts) e)

pub next_shown : (rest last : List (List ℕ × List ℕ)) (other : List ℕ × List ℕ) (second : List ℕ)
    → rest ≡ other ∷ last → Shows other.1 second → AreAscii rest → second ≡ first_part rest
next_shown rest last other second e shows ascii =
    let all : AreAscii (other ∷ last) = subst (λ parts. AreAscii parts) e ascii in
    ascii_shown other.1 second all.0 shows ∙ sym (ap (λ parts. first_part parts) e)

plain_small : (b : ℕ) → is_plain_byte b ≡ true → b < 128
plain_small b e =
    let within : (nat_le 33 b && nat_le b 126) ≡ true = and_left _ (not (b == 63)) e in
    omega (arith, leb-true b 126 (and_right (nat_le 33 b) (nat_le b 126) within))

bytes_ascii : (bytes : List ℕ) → list_all is_plain_byte bytes ≡ true → IsAscii bytes
bytes_ascii [] h = IsAscii-nil
bytes_ascii (b ∷ bytes) h =
    IsAscii-cons b bytes (plain_small b (and_left (is_plain_byte b) (list_all is_plain_byte bytes) h))
    (bytes_ascii bytes (and_right (is_plain_byte b) (list_all is_plain_byte bytes) h))

pub plain_ascii : (target : List ℕ) → is_plain_target target ≡ true → IsAscii target
plain_ascii target h = bytes_ascii target (and_right (slice_index target 0 == 47) (list_all is_plain_byte target) h)

pub plain_text : (target : List ℕ) → is_plain_target target ≡ true → IsUtf8 target
plain_text target h = IsUtf8-from_ascii target (plain_ascii target h)

-- a result that is a value gives one
pub gives_some : {X E : Type 0} (x : X) (r : Result X E) (o : Option X) → r ≡ Ok x → o ≡ result_ok r → o ≡ None → ⊥
gives_some x r o is given none =
    let some : o ≡ Some x = given ∙ ap (λ t. result_ok t) is in
    cc (some, none)
