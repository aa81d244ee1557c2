use Rattle.std.proofs.Common.{rules, ◌≡◌}
use Rattle.rtgs_http_requests.proofs.heads.Texts.{digits_are_text, short_numbers_parse, gives_some}
use Rattle.rtgs_http_requests.proofs.heads.number.read_number.Goals as goal

pub returns-in_err-text-clause-none : goal.returns-in_err-text-clause-none
returns-in_err-text-clause-none c e short =
    let text = digits_are_text c.args.digits.now short in
    search (rules, text)

pub returns-clause-none : goal.returns-clause-none
returns-clause-none c e short =
    let same : c.in_ok-text.text.now ≡ c.args.digits.now = search rules in
    let read = short_numbers_parse c.args.digits.now c.parse.result (rw same at c.parse.ensures.value.0) short in
    gives_some _ c.parse.result c.ok-2.result read c.ok-2.ensures.value e
