use Rattle.std.proofs.Common.{◌≡◌, ap, drop, arith}
use Rattle.std.proofs.lemmas.Int.{ints}
use Rattle.std.proofs.lemmas.List.{drop_more}
use Rattle.rtgs_book.specs.IntSum.{int_sum_by}
use Rattle.rtgs_records.specs.accounts.Accounts.{balance_of}
use Rattle.rtgs_records.proofs.accounts.accounts.Accounts.total.Goals as goal

pub loop-account-preserved : goal.loop-account-preserved
loop-account-preserved c =
    let items = c.deref-account-items.result.now in
    let more : drop c.loop-account.account-index items ≡ _ =
    drop_more items c.loop-account.account-index c.account-item.result c.loop-account-test.true in
    let sum = ap (int_sum_by balance_of) more in
    let value = ap balance_of c.account-item.is in
    record {
      rest = omega (arith, ints);
      low = omega (arith, ints);
      high = omega (arith, ints);
    }
