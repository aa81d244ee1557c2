use Rattle.std.proofs.Common.{◌≡◌, rules, map, IfOk, string_bytes, [], ◌∷◌, refl, subst, ◌∙◌}
use Rattle.rtgs_book.specs.Lookup.{codes_of}
use Rattle.rtgs_statements.specs.declared.line.Line.TheVariants.{ReportOf, Account, Marks}
use Rattle.rtgs_statements.specs.Records.{postings_on, orders_on, marks_on}
use Rattle.rtgs_statements.specs.Sums.{sums_at}
use Rattle.rtgs_statements.specs.Tallies.{reported_standings}
use Rattle.rtgs_statements.specs.Texts.{account_line, orders_line}
use Rattle.rtgs_statements.proofs.Groups.{report_is}
use Rattle.rtgs_statements.proofs.day_sums.DaySums.text.Goals as goal

pub returns : goal.returns
returns c book is =
    let day = c.args.self.now in let date = c.args.date in
    let listed : c.deref.result.now ≡ map (λ code. Account code (sums_at day.posted day.ordered.sent
    day.ordered.received code)) day.codes.items = search rules in
    let accounts_are : c.deref.result.now ≡ map (account_line (postings_on date book.postings)
    (orders_on date book.orders)) (codes_of book) =
    listed ∙ (λ i. map (λ code. Account code (record {
      posted = is.posted code i;
      sent = is.ordered.sent code i;
      received = is.ordered.received code i;
    })) (is.codes i)) in
    let standings_are : c.lines-standings.result ≡ map (orders_line (orders_on date book.orders))
    reported_standings = c.lines-standings.ensures ∙ (λ i. map (λ standing. is.ordered.standings standing i)
    reported_standings) in
    subst (λ bytes. IfOk c.text_of_parts.result (λ text. string_bytes text ≡ bytes))
    (report_is date (codes_of book) (postings_on date book.postings) (orders_on date book.orders)
    (marks_on date book.marks) (ReportOf date ∷ []) c.deref.result.now c.lines-standings.result (Marks day.marks ∷ [])
    refl accounts_are standings_are (λ i. Marks (is.marks i) ∷ [])) c.text_of_parts.ensures
