use Rattle.std.proofs.Common.{◌≡◌, ◌∙◌, ℕ, ◌<◌, ◌-◌, List, map, length, get_or, None, Some, ap, subst, sym, arith}
use Rattle.std.proofs.lemmas.Bool.Decides.{nat_tests}
use Rattle.std.proofs.lemmas.List.{get_or-map, length-map}
use Rattle.std.specs.List.{position_or_len}
use Rattle.std.specs.Str.{bytes_eq}
use Rattle.rtgs_book.specs.declared.change.RowChange.TheVariants.{SetState}
use Rattle.rtgs_book.specs.declared.order.Order.{Order}
use Rattle.rtgs_book.specs.Queue.{queued_among, queued_numbers}
use Rattle.rtgs_book.specs.cores.Following.{core_after_row}
use Rattle.rtgs_records.specs.accounts.Accounts.{code_of}
use Rattle.rtgs_records.specs.Records.{core_in}
use Rattle.rtgs_ledger.specs.Limits.{Lowers}
use Rattle.rtgs_ledger.proofs.Leaving.{held_leaves, last_leaves, only_leaves, sender_falls}
use Rattle.rtgs_ledger.proofs.ledger.lowering.leaving.Goals as goal

-- as many orders are queued as numbers
many : {numbers : List ℕ} (waiting : List Order) (sender : List ℕ) → numbers ≡ queued_numbers waiting sender
    → length numbers ≡ length (queued_among waiting sender)
many waiting sender is = ap length is ∙ length-map (queued_among waiting sender) (λ (o : Order). o.number)

-- the last number is that of the last order
last_number : {numbers : List ℕ} (waiting : List Order) (o : Order) → numbers ≡ queued_numbers waiting o.sender
    → 0 < length numbers → {number : ℕ} → get_or numbers (length numbers - 1) 0 ≡ number
    → (get_or (queued_among waiting o.sender) (length (queued_among waiting o.sender) - 1) o).number ≡ number
last_number waiting o is some last =
    let long = many waiting o.sender is in
    sym (get_or-map (λ (x : Order). x.number) (queued_among waiting o.sender)
    (length (queued_among waiting o.sender) - 1) o 0 (omega (arith, long, some)))
    ∙ (λ i. get_or (sym is i) (sym long i - 1) 0) ∙ last

pub returns-then-not-is_queued : goal.returns-then-not-is_queued
returns-then-not-is_queued c = λ state.
    let core = core_in c.args.records.now in
    subst (Lowers core (core_after_row core (SetState c.args.number state))) (sym c.nothing.ensures)
    (held_leaves core c.args.number state c.in-Some.order c.have_rising_numbers.ensures
    (sym c.numbered.ensures ∙ c.in-Some.is) c.as_slice-accounts.ensures.of_a_book.ordered
    (sym c.is_queued.ensures ∙ c.if-not-is_queued.true))

pub returns-then-queue-eq1 : goal.returns-then-queue-eq1
returns-then-queue-eq1 c = λ state.
    let core = core_in c.args.records.now in
    let o = c.in-Some.order in
    let sender : c.index_of-sender.result ≡ position_or_len (bytes_eq o.sender) (map code_of core.accounts) =
    c.index_of-sender.ensures in
    let inside : position_or_len (bytes_eq o.sender) (map code_of core.accounts) < length core.accounts =
    omega (arith, sender, ap length c.as_slice-accounts.ensures.value, c.if-sender-accounts.false) in
    let one : length c.queue-queue.result.now ≡ 1 = grind (arith, nat_tests) in
    subst (Lowers core (core_after_row core (SetState c.args.number state))) (λ i. record {
      index = 0;
      cents = 0;
      begins = None;
      empties = Some (sym sender i);
    }) (only_leaves core c.args.number state o c.have_rising_numbers.ensures (sym c.numbered.ensures ∙ c.in-Some.is)
    c.as_slice-accounts.ensures.of_a_book.ordered (sym c.is_queued.ensures ∙ c.if-not-is_queued.false) inside
    c.last_withdrawn_keeps_limits.ensures (sym (many core.waiting o.sender c.queue-queue.ensures.numbers) ∙ one))

pub returns-then-queue-number : goal.returns-then-queue-number
returns-then-queue-number c = λ state.
    let core = core_in c.args.records.now in
    let o = c.in-Some.order in
    let inside : position_or_len (bytes_eq o.sender) (map code_of core.accounts) < length core.accounts =
    omega (arith, c.index_of-sender.ensures, ap length c.as_slice-accounts.ensures.value, c.if-sender-accounts.false)
    in
    let test = sym c.is_empty.ensures ∙ c.if-is_empty.false in
    let some : 0 < length c.queue-queue.result.now = grind (arith, nat_tests, test) in
    let last : get_or c.queue-queue.result.now (length c.queue-queue.result.now - 1) 0 ≡ c.args.number =
    grind (arith, nat_tests) in
    subst (Lowers core (core_after_row core (SetState c.args.number state))) (sym c.nothing-then-queue-number.ensures)
    (last_leaves core c.args.number state o c.have_rising_numbers.ensures (sym c.numbered.ensures ∙ c.in-Some.is)
    c.as_slice-accounts.ensures.of_a_book.ordered (sym c.is_queued.ensures ∙ c.if-not-is_queued.false) inside
    c.last_withdrawn_keeps_limits.ensures o
    (last_number core.waiting o c.queue-queue.ensures.numbers some last))

pub returns : goal.returns
returns c = λ state.
    let core = core_in c.args.records.now in
    let o = c.in-Some.order in
    let sender : c.index_of-sender.result ≡ position_or_len (bytes_eq o.sender) (map code_of core.accounts) =
    c.index_of-sender.ensures in
    let inside : position_or_len (bytes_eq o.sender) (map code_of core.accounts) < length core.accounts =
    omega (arith, sender, ap length c.as_slice-accounts.ensures.value, c.if-sender-accounts.false) in
    subst (Lowers core (core_after_row core (SetState c.args.number state))) (λ i. record {
      index = sym sender i;
      cents = sym c.cents.ensures.value i;
      begins = None;
      empties = None;
    }) (sender_falls core c.args.number state o c.have_rising_numbers.ensures (sym c.numbered.ensures ∙ c.in-Some.is)
    c.as_slice-accounts.ensures.of_a_book.ordered (sym c.is_queued.ensures ∙ c.if-not-is_queued.false) inside
    c.withdrawn_within_slack.ensures)
