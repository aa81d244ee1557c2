use Rattle.std.proofs.Common.{◌≡◌, Bool, true, ◌↔◌, lit<, sym, subst}
use Rattle.rtgs_book.specs.declared.rule.Rule.TheVariants.{OrderNumbers, PostingNumbers}
use Rattle.rtgs_rows.specs.Keeping.{AreBalances}
use Rattle.rtgs_sql_loading.proofs.Judging.{stored_agree}
use Rattle.rtgs_sql_loading.proofs.balances.balances_agree.Goals as goal

pub balances-requires-clause-postings : goal.balances-requires-clause-postings
balances-requires-clause-postings c = c.requires.kept PostingNumbers (lit< tt)

pub balances-requires-clause-orders : goal.balances-requires-clause-orders
balances-requires-clause-orders c = c.requires.kept OrderNumbers (lit< tt)

pub returns : goal.returns
returns c =
    subst (λ (yes : Bool). (yes ≡ true) ↔ AreBalances c.args.book.now c.args.accounts.now) (sym c.are_stored.ensures)
    (stored_agree c.args.book.now c.args.accounts.now c.in_ok-balances.balances c.requires.participants
    c.in_ok-balances.ensures)
