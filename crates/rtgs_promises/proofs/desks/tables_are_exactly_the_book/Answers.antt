use Rattle.std.proofs.Common.{subst}
use Rattle.rtgs_rows.specs.Keeping.{IsBookOf}
use Rattle.rtgs_promises.proofs.desks.tables_are_exactly_the_book.Goals as goal

pub returns : goal.returns
returns g c book held trees left =
    let it = c.holds_a_sound_book.ensures in
    let some = it.whole_after_a_crash book held trees left in
    let same = (it.after_a_crash book some.0 held).0 (trees, left, some.1) in
    record {
      content = some.1.0;
      rows = some.1.1;
      records = subst (λ b. IsBookOf b some.1.0) same some.1.2;
      money = c.stored_balances_are_the_postings.ensures some.0 some.1.0 some.1.2;
    }
