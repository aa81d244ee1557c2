use Rattle.std.proofs.Common.{◌≡◌, ◌∙◌, ◌≤◌, ◌+◌, ◌^◌, ◌++◌, [], Bool, ◌&&◌, sym, ap, subst, Ok, arith}
use Rattle.std.proofs.lemmas.Bool.Decides.{nat_tests}
use Rattle.std.proofs.lemmas.Result.{err_from_is_err_and}
use Rattle.rtgs_book.specs.declared.book.Book.{Book}
use Rattle.rtgs_book.specs.declared.command.Command.TheVariants.{Resolve}
use Rattle.rtgs_book.specs.declared.answer.Answer.TheVariants.{Nothing}
use Rattle.rtgs_book.specs.declared.cores.cores.Core.{Core}
use Rattle.rtgs_book.specs.Books.{is_automatic}
use Rattle.rtgs_book.specs.Outcome.{is_done}
use Rattle.rtgs_book.specs.Step.{may_free}
use Rattle.rtgs_book.specs.cores.Cores.{IsCoreOf}
use Rattle.rtgs_book.specs.cores.Following.{core_after}
use Rattle.rtgs_choices.specs.Joining.{without_balances}
use Rattle.rtgs_records.specs.Held.{Held}
use Rattle.rtgs_ledger.specs.Following.{day_after, sets_no_balance}
use Rattle.rtgs_ledger.specs.Kept.{IsPreparedByItself}
use Rattle.rtgs_ledger.specs.Resolving.{IsSettlement, settling}
use Rattle.rtgs_ledger.proofs.Following.{all_parts, loud, not_refused, prepared_joined, prepared_still}
use Rattle.rtgs_ledger.proofs.Rooms.{covers_itself, joined_can_be_made, none_again}
use Rattle.rtgs_ledger.proofs.Whole.{is_of_book, marks_are_counted}
use Rattle.rtgs_ledger.proofs.ledger.Ledger.decide_following.Goals as goal
use Rattle.rtgs_ledger.proofs.ledger.Ledger.decide_following.Goals.{In_ok-between, In_ok-extend_from_slice}

pub returns-then-not-counts_marks-clause-refused : goal.returns-then-not-counts_marks-clause-refused
returns-then-not-counts_marks-clause-refused c book is p =
    let of = is_of_book book c.self.inside.records c.args.self.now c.self.view_is is in
    let counted = c.counts_marks.ensures.1 (marks_are_counted book c.self.inside.records c.args.self.now.core of) in
    let test = c.if-not-counts_marks.true in
    absurd (grind (arith, nat_tests, counted, test))

-- the ledger in between has the core of the book that the command by itself leaves
between_is : (c : In_ok-between) (book : Book) → IsCoreOf book c.args.self.now.core
    → (p : IsPreparedByItself book c.args.self.now.core c.args.command.now c.args.own c.args.change)
    → IsCoreOf p.book (core_after c.args.self.now.core c.args.change)
between_is c book is p =
    let sound = c.own_step_keeps_soundness.ensures book p.book c.args.command.now _ is.sound p.step in
    let fits = c.own_step_keeps_ranges.ensures book p.book c.args.command.now _ c.judge.ensures is.fits p.step in
    c.cores_follow_changes.ensures book p.book c.args.self.now.core c.args.change is p.leads sound fits
    (none_again c.args.change _ (c.requires.made _ (covers_itself _))) p.balanced

pub returns-in_err-settlement-clause-refused : goal.returns-in_err-settlement-clause-refused
returns-in_err-settlement-clause-refused c book is p =
    let k = all_parts (may_free c.args.command.now) (is_done (Ok c.args.own))
    (is_automatic (day_after c.args.self.now.core.day c.args.change)) c.requires.followed in
    let here = subst (IsCoreOf p.book) (sym c.in_ok-between.ensures)
    (between_is (goal.at.returns-in_err-settlement-clause-refused c).In_ok-between book is p) in
    let passed_on =
    err_from_is_err_and c.from_residual-in_err-settlement.result c.from_residual-in_err-settlement.ensures.1 in
    rw (passed_on.1, passed_on.2) (not_refused book c.args.self.now.core c.args.command.now c.args.own c.args.change
    is p k.0 c.requires.answered.0 k.1 k.2 c.in_err-settlement.field-0.0
    (c.in_err-settlement.ensures.refused p.book here))

pub returns-in_default-clause-prepared : goal.returns-in_default-clause-prepared
returns-in_default-clause-prepared c book is calm p =
    let k = all_parts (may_free c.args.command.now) (is_done (Ok c.args.own))
    (is_automatic (day_after c.args.self.now.core.day c.args.change)) c.requires.followed in
    let here = subst (IsCoreOf p.book) (sym c.in_ok-between.ensures)
    (between_is (goal.at.returns-in_default-clause-prepared c).In_ok-between book is p) in
    prepared_still book c.args.self.now.core c.args.command.now c.args.own c.args.change is p k.0
    c.requires.answered.0 k.1 k.2 (subst (λ (core : Core). IsPreparedByItself p.book core Resolve Nothing [])
    c.in_ok-between.ensures (c.in_ok-settlement.ensures.none p.book here c.in_default.is))

-- what the command changes by itself, without its balances, and what is settled after it
whole : (c : In_ok-extend_from_slice) → c.extend_from_slice.new.self.items ≡ without_balances c.args.change
    ++ settling c.in-Some.settlement.orders.items c.in-Some.settlement.mark c.args.self.now.core.accounts
    c.in-Some.settlement.accounts.accounts
unfolding sets_no_balance
whole c =
    let s = c.in-Some.settlement in
    let own : c.take_balances_out.new.rows.items ≡ without_balances c.args.change = c.take_balances_out.ensures
    ∙ ap without_balances c.into_vec-rows.ensures in
    let next : c.deref.result.now ≡ settling s.orders.items s.mark c.args.self.now.core.accounts s.accounts.accounts =
    c.deref.ensures.value ∙ c.in_ok-settling.ensures ∙ ap (λ (h : Held). settling s.orders.items s.mark
    h.core.accounts s.accounts.accounts) c.self.view_is in
    c.in_ok-extend_from_slice.ensures.items ∙ (λ i. own i ++ next i)

pub returns-clause-made : goal.returns-clause-made
returns-clause-made c =
    let s = c.in-Some.settlement in
    let counted = c.counts_marks.ensures.0 (let test = c.if-not-counts_marks.false in grind (arith, nat_tests, test)) in
    let next = ap (λ (h : Held). h.core.next_mark) c.self.view_is in
    let few : c.args.self.now.core.next_mark + 2 ≤ 2 ^ 63 = omega (arith, counted, next) in
    rw (c.from_vec.ensures ∙ whole (goal.at.returns-clause-made c).In_ok-extend_from_slice)
    (joined_can_be_made c.args.self.now.core c.args.change s.orders.items s.mark c.args.self.now.core.accounts
    s.accounts.accounts c.requires.made c.requires.frees few)

pub returns-clause-answered : goal.returns-clause-answered
returns-clause-answered c =
    let k = all_parts (may_free c.args.command.now) (is_done (Ok c.args.own))
    (is_automatic (day_after c.args.self.now.core.day c.args.change)) c.requires.followed in
    let acted = ap (λ (free : Bool). free && is_done (Ok c.args.own)) k.0 ∙ k.1 in
    ((c.requires.answered.0, λ _. acted), loud c.args.command.now c.args.own _ k.0 c.requires.answered.0 k.1)

pub returns-clause-prepared : goal.returns-clause-prepared
returns-clause-prepared c book is calm p =
    let k = all_parts (may_free c.args.command.now) (is_done (Ok c.args.own))
    (is_automatic (day_after c.args.self.now.core.day c.args.change)) c.requires.followed in
    let s = c.in-Some.settlement in
    let at = goal.at.returns-clause-prepared c in
    let between = between_is at.In_ok-between book is p in
    let here = subst (IsCoreOf p.book) (sym c.in_ok-between.ensures) between in
    let found = rw c.in-Some.is at (c.in_ok-settlement.ensures.some p.book here) in
    rw (c.from_vec.ensures ∙ whole at.In_ok-extend_from_slice, c.resolution.ensures) (prepared_joined book
    c.args.self.now.core c.args.command.now c.args.own c.args.change is p k.0 c.requires.answered.0 k.1 k.2
    c.changes_join.ensures c.new_credit_leaves_the_accounts.ensures c.judge.ensures c.requires.frees between
    s.orders.items s.mark s.accounts.accounts (subst (λ (core : Core). IsSettlement p.book core s.orders.items s.mark
    s.accounts.accounts) c.in_ok-between.ensures found))
