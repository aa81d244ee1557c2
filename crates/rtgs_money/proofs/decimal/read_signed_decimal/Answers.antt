use Rattle.std.proofs.Common.{rules, ◌≡◌, List, ℕ, sym, ap, ◌∙◌, Some, subst, IsUtf8}
use Rattle.std.specs.Fmt.{signed_decimal}
use Rattle.std.specs.Int.{w64}
use Rattle.std.specs.Int.RustNames.{FitsSigned}
use Rattle.std.proofs.lemmas.Int.{to_z-of_z}
use Rattle.std.proofs.lemmas.Fmt.{signed_decimal_injective, parse-signed_decimal, IsAscii-signed}
use Rattle.std.proofs.lemmas.Str.{IsUtf8-from_ascii}
use Rattle.rtgs_money.proofs.decimal.read_signed_decimal.Goals as goal

pub returns-clause-found : goal.returns-clause-found
returns-clause-found c z fits e =
    let same : signed_decimal c.in_ok-n.n ≡ signed_decimal z = search (rules, e, c.format.ensures.text, c.if-ne.ensures)
    in
    let read_fits : FitsSigned w64 c.in_ok-n.n = search rules in
    simp to_z-of_z (ap (λ m. Some m) (signed_decimal_injective c.in_ok-n.n z (search rules) (search rules) same))

pub returns-in_err-text-clause-found : goal.returns-in_err-text-clause-found
returns-in_err-text-clause-found c z fits e =
    let P : List ℕ → Type 0 = λ t. IsUtf8 t in
    let utf8 = subst P (sym e) (IsUtf8-from_ascii (signed_decimal z) (IsAscii-signed z (search rules))) in
    search (rules, utf8)

pub returns-in_err-n-clause-found : goal.returns-in_err-n-clause-found
returns-in_err-n-clause-found c z fits e =
    let read = parse-signed_decimal w64 z c.in_ok-text.text.now c.parse.result fits (search rules) (search (rules, e))
    c.parse.ensures.value.0 in
    search (rules, read)

-- what was parsed is the number that the bytes spell
pub returns-then-ne-clause-found : goal.returns-then-ne-clause-found
returns-then-ne-clause-found c z fits e =
    let read = parse-signed_decimal w64 z c.in_ok-text.text.now c.parse.result fits (search rules) (search (rules, e))
    c.parse.ensures.value.0 in
    let same : c.in_ok-n.n ≡ z = search (rules, read) in
    let text : c.args.bytes.now ≡ signed_decimal c.in_ok-n.n = e ∙ ap (λ m. signed_decimal m) (sym same) in
    search (rules, text)
