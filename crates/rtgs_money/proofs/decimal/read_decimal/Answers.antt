use Rattle.std.proofs.Common.{rules, ◌≡◌, ℕ, decimal, sym, ap, ◌∙◌, Some, subst, List, IsUtf8}
use Rattle.std.proofs.lemmas.Fmt.{decimal_injective, parse-decimal, IsAscii-decimal}
use Rattle.std.proofs.lemmas.Str.{IsUtf8-from_ascii}
use Rattle.rtgs_money.proofs.decimal.read_decimal.Goals as goal

pub returns-clause-found : goal.returns-clause-found
returns-clause-found c n bound e =
    let same : decimal c.in_ok-n.n ≡ decimal n = search (rules, e, c.format.ensures.text, c.if-ne.ensures) in
    ap (λ m. Some m) (decimal_injective c.in_ok-n.n n (search rules) bound same)

pub returns-in_err-text-clause-found : goal.returns-in_err-text-clause-found
returns-in_err-text-clause-found c n bound e =
    let P : List ℕ → Type 0 = λ t. IsUtf8 t in
    let utf8 = subst P (sym e) (IsUtf8-from_ascii (decimal n) (IsAscii-decimal n bound)) in
    search (rules, utf8)

pub returns-in_err-n-clause-found : goal.returns-in_err-n-clause-found
returns-in_err-n-clause-found c n bound e =
    let read = parse-decimal 64 n c.in_ok-text.text.now c.parse.result bound bound (search (rules, e))
    c.parse.ensures.value.0 in
    search (rules, read)

-- what was parsed is the number that the bytes spell
pub returns-then-ne-clause-found : goal.returns-then-ne-clause-found
returns-then-ne-clause-found c n bound e =
    let read = parse-decimal 64 n c.in_ok-text.text.now c.parse.result bound bound (search (rules, e))
    c.parse.ensures.value.0 in
    let same : c.in_ok-n.n ≡ n = search (rules, read) in
    let text : c.args.bytes.now ≡ decimal c.in_ok-n.n = e ∙ ap (λ m. decimal m) (sym same) in
    search (rules, text)
