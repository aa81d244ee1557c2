use Rattle.std.proofs.Common.{◌≡◌, ◌<◌, ℕ, List, Option, Some, None, length, arith, refl, ap, sym, ◌∙◌, rules, pos}
use Rattle.sqlite.specs.declared.types.Value.TheVariants.{Int}
use Rattle.rtgs_book.specs.declared.order.Order.{Order}
use Rattle.rtgs_book.specs.declared.order_state.OrderState.{OrderState}
use Rattle.rtgs_sql_queries.proofs.AsRead.{order_read, order_columns}
use Rattle.rtgs_sql_queries.proofs.rows.OrderTableRow.from_row.Goals as goal

pub returns-clause-is : goal.returns-clause-is
returns-clause-is c =
    let it : Order = record {
      number = c.in_ok-number.field-0;
      sender = c.in_ok-code.field-0;
      reference = c.in_ok-reference.field-0;
      receiver = c.in_ok-code-2.field-0;
      amount = c.in_ok-from_cents.field-0;
      date = c.in_ok-date.field-0;
      due = None;
      state = c.in_ok-state.field-0;
    } in (
      (
        record {
          sender = c.in_ok-code.ensures.is.0;
          reference = c.in_ok-reference.ensures.is.0;
          receiver = c.in_ok-code-2.ensures.is.0;
          amount = search rules;
          date = c.in_ok-date.ensures.is.0;
        },
        refl,
      ),
      order_read c.args.row.now it (record {
        wide = c.in_ok-width.ensures.is;
        number = c.in_ok-number.ensures.is;
        sender = c.in_ok-code.ensures.is.1;
        reference = c.in_ok-reference.ensures.is.1;
        receiver = c.in_ok-code-2.ensures.is.1;
        amount = c.in_ok-unsigned.ensures.is
            ∙ ap (λ n. Int (pos n)) (sym c.in_ok-from_cents.ensures.value);
        date = c.in_ok-date.ensures.is.1;
        state = c.in_ok-state.ensures.is.0;
        mark = c.in_ok-state.ensures.is.1;
      }),
    )

pub returns-in_err-date-clause-found : goal.returns-in_err-date-clause-found
returns-in_err-date-clause-found c it fits same =
    let at = order_columns c.args.row.now it same in
    let wide = at.wide in
    let low : 5 < length c.args.row.now = omega (arith, wide) in
    let found : c.date.result ≡ Some it.date = c.date.ensures.found it.date fits.0.date low at.date in
    let was = c.in_err-date.was in
    absurd cc

pub returns-in_err-state-clause-found : goal.returns-in_err-state-clause-found
returns-in_err-state-clause-found c it fits same =
    let at = order_columns c.args.row.now it same in
    let wide = at.wide in
    let low6 : 6 < length c.args.row.now = omega (arith, wide) in
    let low7 : 7 < length c.args.row.now = omega (arith, wide) in
    let found : c.state.result ≡ Some it.state = c.state.ensures.found it.state low6 low7 at.state at.mark in
    let was = c.in_err-state.was in
    absurd cc

pub returns-clause-found : goal.returns-clause-found
returns-clause-found c it fits same =
    let row = c.args.row.now in
    let at = order_columns row it same in
    let wide = at.wide in
    let low0 : 0 < length row = omega (arith, wide) in
    let low1 : 1 < length row = omega (arith, wide) in
    let low2 : 2 < length row = omega (arith, wide) in
    let low3 : 3 < length row = omega (arith, wide) in
    let low4 : 4 < length row = omega (arith, wide) in
    let low5 : 5 < length row = omega (arith, wide) in
    let low6 : 6 < length row = omega (arith, wide) in
    let low7 : 7 < length row = omega (arith, wide) in
    let n : ◌≡◌ {A = Option ℕ} (Some c.in_ok-number.field-0) (Some it.number) =
    c.in_ok-number.ensures.found it.number low0 at.number in
    let s : ◌≡◌ {A = Option (List ℕ)} (Some c.in_ok-code.field-0) (Some it.sender) =
    c.in_ok-code.ensures.found it.sender fits.0.sender low1 at.sender in
    let r : ◌≡◌ {A = Option (List ℕ)} (Some c.in_ok-reference.field-0) (Some it.reference) =
    c.in_ok-reference.ensures.found it.reference fits.0.reference low2 at.reference in
    let t : ◌≡◌ {A = Option (List ℕ)} (Some c.in_ok-code-2.field-0) (Some it.receiver) =
    c.in_ok-code-2.ensures.found it.receiver fits.0.receiver low3 at.receiver in
    let v : ◌≡◌ {A = Option ℕ} (Some c.in_ok-unsigned.field-0) (Some it.amount) =
    c.in_ok-unsigned.ensures.found it.amount low4 at.amount in
    let d : ◌≡◌ {A = Option ℕ} (Some c.in_ok-date.field-0) (Some it.date) =
    c.in_ok-date.ensures.found it.date fits.0.date low5 at.date in
    let k : ◌≡◌ {A = Option OrderState} (Some c.in_ok-state.field-0) (Some it.state) =
    c.in_ok-state.ensures.found it.state low6 low7 at.state at.mark in
    let number : c.in_ok-number.field-0 ≡ it.number = cc in
    let sender : c.in_ok-code.field-0 ≡ it.sender = cc in
    let reference : c.in_ok-reference.field-0 ≡ it.reference = cc in
    let receiver : c.in_ok-code-2.field-0 ≡ it.receiver = cc in
    let many : c.in_ok-unsigned.field-0 ≡ it.amount = cc in
    let amount : c.in_ok-from_cents.field-0 ≡ it.amount = c.in_ok-from_cents.ensures.value ∙ many in
    let date : c.in_ok-date.field-0 ≡ it.date = cc in
    let state : c.in_ok-state.field-0 ≡ it.state = cc in
    λ i. Some (record {
      number = number i;
      sender = sender i;
      reference = reference i;
      receiver = receiver i;
      amount = amount i;
      date = date i;
      due = sym fits.1 i;
      state = state i;
    })
