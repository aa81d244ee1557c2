use Rattle.std.proofs.Common.{◌≡◌, ◌++◌, [], ℤ, to_z, of_z, rules, arith, ap, subst, ◌∙◌}
use Rattle.std.proofs.lemmas.Int.{ints}
use Rattle.std.specs.Int.{w128}
use Rattle.std.specs.Io.KnownBytes.{Appends}
use Rattle.rtgs_output.specs.Sent.{AppendsPart}
use Rattle.rtgs_statements.specs.Sums.{IsSmall}
use Rattle.rtgs_statements.specs.Reads.{AppendsWholeLines}
use Rattle.rtgs_statements.specs.declared.line.Line.TheVariants.{StatementOf}
use Rattle.rtgs_statements.specs.Texts.{line_text, text_of, sum_lines}
use Rattle.rtgs_statements.proofs.Begins.{appends-both, begins-part, part-within}
use Rattle.rtgs_statements.proofs.Growth.{appends-none}
use Rattle.rtgs_statements.proofs.Leaving.{no_fault}
use Rattle.rtgs_statements.proofs.Statements.{title, postings, orders, sums, statement_joined, more_after_postings}
use Rattle.rtgs_statements.proofs.Statements.{more_after_orders, from_postings, from_orders, from_sums, from_sums_on}
use Rattle.rtgs_statements.proofs.Wholes.{line-whole, none-whole, lines-whole, wholes-both, leaves-after, text-leaves}
use Rattle.rtgs_statements.proofs.statement.write_statement.Goals as goal

wide : (z : ℤ) → IsSmall z → to_z w128 (of_z w128 z) ≡ z
wide z small = let low = small.0 in let high = small.1 in omega (arith, ints)

pub returns-in-Err-clause-begun : goal.returns-in-Err-clause-begun
returns-in-Err-clause-begun g c honest book held =
    let code = c.args.code.now in let date = c.args.date in
    part-within (g.W.Write.contents c.args.out.now) (g.W.Write.contents c.args.out.now)
    (g.W.Write.contents c.write_line.new.out) [] (title book code date)
    ((postings book code date ++ orders book code date) ++ sums book code date) _
    (appends-none (g.W.Write.contents c.args.out.now)) c.in-Err.ensures.begun (statement_joined book code date)

pub returns-in-Err-write_postings-clause-begun : goal.returns-in-Err-write_postings-clause-begun
returns-in-Err-write_postings-clause-begun g c honest book held =
    let code = c.args.code.now in let date = c.args.date in
    let first : Appends (g.W.Write.contents c.args.out.now) (g.W.Write.contents c.write_line.new.out)
    (title book code date) = search rules in
    begins-part (g.W.Write.contents c.args.out.now) (g.W.Write.contents c.write_line.new.out)
    (g.W.Write.contents c.write_postings.new.out) (title book code date) (postings book code date)
    (orders book code date ++ sums book code date) _ first (c.in-Err-write_postings.ensures.begun honest book held)
    (more_after_postings book code date) (from_postings book code date)

pub returns-in-Err-write_orders-clause-begun : goal.returns-in-Err-write_orders-clause-begun
returns-in-Err-write_orders-clause-begun g c honest book held =
    let code = c.args.code.now in let date = c.args.date in
    let early = c.in-Err-write_orders.ensures.read.honest honest in
    let now = c.in-Ok.ensures.read.held early book held no_fault in
    let first : Appends (g.W.Write.contents c.args.out.now) (g.W.Write.contents c.write_line.new.out)
    (title book code date) = search rules in
    let two = appends-both (g.W.Write.contents c.args.out.now) (g.W.Write.contents c.write_line.new.out)
    (g.W.Write.contents c.write_postings.new.out) (title book code date) (postings book code date) first
    (c.in-Ok.ensures.written early book held) in
    begins-part (g.W.Write.contents c.args.out.now) (g.W.Write.contents c.write_postings.new.out)
    (g.W.Write.contents c.write_orders.new.out) (title book code date ++ postings book code date)
    (orders book code date) (sums book code date) _ two (c.in-Err-write_orders.ensures.begun honest book now)
    (more_after_orders book code date) (from_orders book code date)

pub returns-in-Ok-write_four-clause-written : goal.returns-in-Ok-write_four-clause-written
returns-in-Ok-write_four-clause-written g c honest book held =
    let code = c.args.code.now in let date = c.args.date in
    let early = c.in-Ok-write_orders.ensures.read.honest honest in
    let now = c.in-Ok.ensures.read.held early book held no_fault in
    let first : Appends (g.W.Write.contents c.args.out.now) (g.W.Write.contents c.write_line.new.out)
    (title book code date) = search rules in
    let two = appends-both (g.W.Write.contents c.args.out.now) (g.W.Write.contents c.write_line.new.out)
    (g.W.Write.contents c.write_postings.new.out) (title book code date) (postings book code date) first
    (c.in-Ok.ensures.written early book held) in
    let three = appends-both (g.W.Write.contents c.args.out.now) (g.W.Write.contents c.write_postings.new.out)
    (g.W.Write.contents c.write_orders.new.out) (title book code date ++ postings book code date)
    (orders book code date) two (c.in-Ok-write_orders.ensures.written honest book now) in
    let totals = c.in-Ok-write_orders.ensures.sums honest book now in
    let small = c.in-Ok-write_orders.ensures.small in
    let posted = wide c.in-Ok.posted c.in-Ok.ensures.small ∙ c.in-Ok.ensures.sum early book held in
    let sent = wide c.in-Ok-write_orders.sums.0 small.0 ∙ totals.0 in
    let received = wide c.in-Ok-write_orders.sums.1 small.1 ∙ totals.1 in
    let same : text_of c.sum_lines-sums.result ≡ sums book code date =
    ap text_of c.sum_lines-sums.ensures
    ∙ (λ i. text_of (sum_lines (record { posted = posted i; sent = sent i; received = received i }))) in
    let last = subst (Appends (g.W.Write.contents c.write_orders.new.out)
    (g.W.Write.contents c.write_four.new.out)) same
    c.in-Ok-write_four.ensures.written in
    subst (Appends (g.W.Write.contents c.args.out.now) (g.W.Write.contents c.write_four.new.out))
    (from_sums book code date)
    (appends-both (g.W.Write.contents c.args.out.now) (g.W.Write.contents c.write_orders.new.out)
    (g.W.Write.contents c.write_four.new.out) ((title book code date ++ postings book code date)
    ++ orders book code date) (sums book code date) three last)

pub returns-in-Err-write_four-clause-begun : goal.returns-in-Err-write_four-clause-begun
returns-in-Err-write_four-clause-begun g c honest book held =
    let code = c.args.code.now in let date = c.args.date in
    let early = c.in-Ok-write_orders.ensures.read.honest honest in
    let now = c.in-Ok.ensures.read.held early book held no_fault in
    let first : Appends (g.W.Write.contents c.args.out.now) (g.W.Write.contents c.write_line.new.out)
    (title book code date) = search rules in
    let two = appends-both (g.W.Write.contents c.args.out.now) (g.W.Write.contents c.write_line.new.out)
    (g.W.Write.contents c.write_postings.new.out) (title book code date) (postings book code date) first
    (c.in-Ok.ensures.written early book held) in
    let three = appends-both (g.W.Write.contents c.args.out.now) (g.W.Write.contents c.write_postings.new.out)
    (g.W.Write.contents c.write_orders.new.out) (title book code date ++ postings book code date)
    (orders book code date) two (c.in-Ok-write_orders.ensures.written honest book now) in
    let totals = c.in-Ok-write_orders.ensures.sums honest book now in
    let small = c.in-Ok-write_orders.ensures.small in
    let posted = wide c.in-Ok.posted c.in-Ok.ensures.small ∙ c.in-Ok.ensures.sum early book held in
    let sent = wide c.in-Ok-write_orders.sums.0 small.0 ∙ totals.0 in
    let received = wide c.in-Ok-write_orders.sums.1 small.1 ∙ totals.1 in
    let same : text_of c.sum_lines-sums.result ≡ sums book code date =
    ap text_of c.sum_lines-sums.ensures
    ∙ (λ i. text_of (sum_lines (record { posted = posted i; sent = sent i; received = received i }))) in
    let last = subst (AppendsPart (g.W.Write.contents c.write_orders.new.out) (g.W.Write.contents c.write_four.new.out))
    same c.in-Err-write_four.ensures.begun in
    part-within (g.W.Write.contents c.args.out.now) (g.W.Write.contents c.write_orders.new.out)
    (g.W.Write.contents c.write_four.new.out) ((title book code date ++ postings book code date)
    ++ orders book code date) (sums book code date) [] _ three last (from_sums_on book code date)

pub returns-in-Err-clause-lines : goal.returns-in-Err-clause-lines
returns-in-Err-clause-lines g c =
    text-leaves g.W.Write.contents c.in-Err.fault c.args.out.now c.args.out.now c.write_line.new.out
    (none-whole (g.W.Write.contents c.args.out.now)) c.in-Err.ensures.memory

pub returns-in-Err-write_postings-clause-lines : goal.returns-in-Err-write_postings-clause-lines
returns-in-Err-write_postings-clause-lines g c =
    let old = g.W.Write.contents c.args.out.now in
    let titled = g.W.Write.contents c.write_line.new.out in
    let first : Appends old titled (line_text (StatementOf c.args.code.now c.args.date)) = search rules in
    let one : AppendsWholeLines old titled = (
      line_text (StatementOf c.args.code.now c.args.date),
      first,
      line-whole (StatementOf c.args.code.now c.args.date),
    ) in
    leaves-after c.in-Err-write_postings.fault old titled (g.W.Write.contents c.write_postings.new.out) one
    c.in-Err-write_postings.ensures.whole

pub returns-in-Err-write_orders-clause-lines : goal.returns-in-Err-write_orders-clause-lines
returns-in-Err-write_orders-clause-lines g c =
    let old = g.W.Write.contents c.args.out.now in
    let titled = g.W.Write.contents c.write_line.new.out in
    let first : Appends old titled (line_text (StatementOf c.args.code.now c.args.date)) = search rules in
    let one : AppendsWholeLines old titled = (
      line_text (StatementOf c.args.code.now c.args.date),
      first,
      line-whole (StatementOf c.args.code.now c.args.date),
    ) in
    let two = wholes-both old titled (g.W.Write.contents c.write_postings.new.out) one c.in-Ok.ensures.lines in
    leaves-after c.in-Err-write_orders.fault old (g.W.Write.contents c.write_postings.new.out)
    (g.W.Write.contents c.write_orders.new.out) two c.in-Err-write_orders.ensures.whole

pub returns-in-Ok-write_four-clause-lines : goal.returns-in-Ok-write_four-clause-lines
returns-in-Ok-write_four-clause-lines g c =
    let old = g.W.Write.contents c.args.out.now in
    let titled = g.W.Write.contents c.write_line.new.out in
    let first : Appends old titled (line_text (StatementOf c.args.code.now c.args.date)) = search rules in
    let one : AppendsWholeLines old titled = (
      line_text (StatementOf c.args.code.now c.args.date),
      first,
      line-whole (StatementOf c.args.code.now c.args.date),
    ) in
    let two = wholes-both old titled (g.W.Write.contents c.write_postings.new.out) one c.in-Ok.ensures.lines in
    let three = wholes-both old (g.W.Write.contents c.write_postings.new.out)
    (g.W.Write.contents c.write_orders.new.out) two c.in-Ok-write_orders.ensures.lines in
    wholes-both old (g.W.Write.contents c.write_orders.new.out) (g.W.Write.contents c.write_four.new.out) three
    (text_of c.sum_lines-sums.result, c.in-Ok-write_four.ensures.written, lines-whole c.sum_lines-sums.result)

pub returns-in-Err-write_four-clause-lines : goal.returns-in-Err-write_four-clause-lines
returns-in-Err-write_four-clause-lines g c =
    let old = g.W.Write.contents c.args.out.now in
    let titled = g.W.Write.contents c.write_line.new.out in
    let first : Appends old titled (line_text (StatementOf c.args.code.now c.args.date)) = search rules in
    let one : AppendsWholeLines old titled = (
      line_text (StatementOf c.args.code.now c.args.date),
      first,
      line-whole (StatementOf c.args.code.now c.args.date),
    ) in
    let two = wholes-both old titled (g.W.Write.contents c.write_postings.new.out) one c.in-Ok.ensures.lines in
    let three = wholes-both old (g.W.Write.contents c.write_postings.new.out)
    (g.W.Write.contents c.write_orders.new.out) two c.in-Ok-write_orders.ensures.lines in
    text-leaves g.W.Write.contents c.in-Err-write_four.fault c.args.out.now c.write_orders.new.out c.write_four.new.out
    three c.in-Err-write_four.ensures.memory
