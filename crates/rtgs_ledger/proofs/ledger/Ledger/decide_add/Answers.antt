use Rattle.rtgs_book.specs.declared.command.Command.TheVariants as command
use Rattle.std.proofs.Common.{◌≡◌, ◌∙◌, sym, nat_le, length, true, false, ◌&&◌, inr, refl, arith}
use Rattle.std.proofs.lemmas.Bool.Decides.{nat_tests}
use Rattle.std.proofs.lemmas.Result.{err_from_is_err_and}
use Rattle.std.specs.Str.{bytes_eq}
use Rattle.std.specs.List.{list_any}
use Rattle.rtgs_book.specs.declared.answer.Known.TheVariants.{Nothing}
use Rattle.rtgs_book.specs.declared.limits.TheConstants.{MOST_PARTICIPANTS}
use Rattle.rtgs_book.specs.declared.book.Book.{Book}
use Rattle.rtgs_book.specs.declared.refusal.Refusal.TheVariants.{OutOfMemory}
use Rattle.rtgs_records.specs.accounts.Accounts.{has_key}
use Rattle.rtgs_book.specs.cores.Cores.{IsCoreOf}
use Rattle.rtgs_ledger.specs.Kept.{IsRefusedByItself}
use Rattle.rtgs_ledger.proofs.Adding.{repeats, code_taken, key_taken, too_many, prepared_add}
use Rattle.rtgs_ledger.proofs.Kept.{participant_at, participant_none, prepared_repeat, any-participants}
use Rattle.rtgs_ledger.proofs.Kept.{length-participants}
use Rattle.rtgs_ledger.proofs.Whole.{held_of, whole, is_of_book, to_lacking, to_refused, to_prepared}
use Rattle.rtgs_ledger.proofs.ledger.Ledger.decide_add.Goals as goal
use Rattle.rtgs_ledger.proofs.ledger.Ledger.decide_add.Goals.{else-eq-via-then-eq+else-eq-2, else-eq-via-else-eq}
use Rattle.rtgs_ledger.proofs.ledger.Ledger.decide_add.Goals.{After-len}
use Rattle.rtgs_lists.proofs.Bools.{and_left_false, and_right_false, and_true}

pub returns-then-eq-2-clause-prepared : goal.returns-then-eq-2-clause-prepared
returns-then-eq-2-clause-prepared c book is =
    let of = is_of_book book c.self.inside.records c.args.self.now c.self.view_is is in
    let r = whole book c.self.inside.records in
    let found = sym c.get.ensures ∙ c.in-Some.is in
    let same = and_true (bytes_eq c.in-Some.found.participant.name c.args.name)
    (bytes_eq c.in-Some.found.participant.key c.args.key) (sym c.eq.ensures ∙ c.if-eq.true)
    (sym c.eq-then-eq.ensures ∙ c.if-eq-2.true) in
    let step = repeats (held_of r).content c.args.code c.args.name c.args.key c.in-Some.found.participant
    (participant_at r of.kept c.args.code c.in-Some.found found) same in
    rw (c.repeated.ensures.answer, c.repeated.ensures.change) (to_prepared book c.self.inside.records
    c.args.self.now.core of _ _ _ (prepared_repeat (held_of r) _ Nothing of.kept step))

pub returns-in-Some-clause-refused : goal.returns-in-Some-clause-refused
returns-in-Some-clause-refused c book is =
    let of = is_of_book book c.self.inside.records c.args.self.now c.self.view_is is in
    let r = whole book c.self.inside.records in
    let found = sym c.get.ensures ∙ c.in-Some.is in
    let other : (bytes_eq c.in-Some.found.participant.name c.args.name && bytes_eq c.in-Some.found.participant.key
    c.args.key) ≡ false = elim c.else-eq.branch [
      | else-eq-via-then-eq+else-eq-2 w ↦ and_right_false (bytes_eq c.in-Some.found.participant.name c.args.name)
          (bytes_eq c.in-Some.found.participant.key c.args.key) (sym w.eq-then-eq.ensures ∙ w.if-eq-2.false)
      | else-eq-via-else-eq w ↦ and_left_false (bytes_eq c.in-Some.found.participant.name c.args.name)
          (bytes_eq c.in-Some.found.participant.key c.args.key) (sym c.eq.ensures ∙ w.if-eq.false)
    ] in
    to_refused book c.self.inside.records c.args.self.now.core of (command.Add c.args.code c.args.name c.args.key) _
    (inr (
      code_taken (held_of r).content c.args.code c.args.name c.args.key
          c.in-Some.found.participant (participant_at r of.kept c.args.code c.in-Some.found found) other,
      refl,
    ))

pub returns-then-has_key-clause-refused : goal.returns-then-has_key-clause-refused
returns-then-has_key-clause-refused c book is =
    let of = is_of_book book c.self.inside.records c.args.self.now c.self.view_is is in
    let r = whole book c.self.inside.records in
    let absent = sym c.get.ensures ∙ c.in_default.is in
    to_refused book c.self.inside.records c.args.self.now.core of (command.Add c.args.code c.args.name c.args.key) _
    (inr (
      key_taken (held_of r).content c.args.code c.args.name c.args.key
          (participant_none r of.kept c.args.code absent)
          (any-participants c.args.key r.accounts.accounts ∙ sym c.has_key.ensures ∙ c.if-has_key.true),
      refl,
    ))

pub returns-then-len-ge-MOST_PARTICIPANTS-clause-refused : goal.returns-then-len-ge-MOST_PARTICIPANTS-clause-refused
returns-then-len-ge-MOST_PARTICIPANTS-clause-refused c book is =
    let of = is_of_book book c.self.inside.records c.args.self.now c.self.view_is is in
    let r = whole book c.self.inside.records in
    let absent = sym c.get.ensures ∙ c.in_default.is in
    let many : nat_le MOST_PARTICIPANTS (length r.accounts.accounts)
    ≡ true = grind (arith, nat_tests, c.len.ensures, c.if-len-ge-MOST_PARTICIPANTS.true) in
    to_refused book c.self.inside.records c.args.self.now.core of (command.Add c.args.code c.args.name c.args.key) _
    (inr (
      too_many (held_of r).content c.args.code c.args.name c.args.key
          (participant_none r of.kept c.args.code absent)
          (any-participants c.args.key r.accounts.accounts ∙ sym c.has_key.ensures ∙ c.if-has_key.false)
          (rw (length-participants r.accounts.accounts) many),
      refl,
    ))

-- a participant that passed the tests would be added
lacking : (c : After-len) (book : Book) → IsCoreOf book c.args.self.now.core
    → nat_le MOST_PARTICIPANTS (length c.self.inside.records.accounts.accounts) ≡ false
    → IsRefusedByItself book (command.Add c.args.code c.args.name c.args.key) OutOfMemory
lacking c book is few =
    let of = is_of_book book c.self.inside.records c.args.self.now c.self.view_is is in
    let r = whole book c.self.inside.records in
    let absent = sym c.get.ensures ∙ c.in_default.is in
    let free : list_any (has_key c.args.key) r.accounts.accounts ≡ false = sym c.has_key.ensures ∙ c.if-has_key.false in
    to_lacking book c.self.inside.records c.args.self.now.core of _ _ _
    (prepared_add r of.kept c.args.code c.args.name c.args.key absent free few) refl

pub returns-in_err-rows-clause-refused : goal.returns-in_err-rows-clause-refused
returns-in_err-rows-clause-refused c book is =
    let refused = err_from_is_err_and c.from_residual.result c.from_residual.ensures.1 in
    rw (refused.1, refused.2) (lacking (goal.at.returns-in_err-rows-clause-refused c).After-len book is
    (grind (arith, nat_tests, c.len.ensures, c.if-len-ge-MOST_PARTICIPANTS.false)))

pub returns-clause-prepared : goal.returns-clause-prepared
returns-clause-prepared c book is =
    let of = is_of_book book c.self.inside.records c.args.self.now c.self.view_is is in
    let r = whole book c.self.inside.records in
    let absent = sym c.get.ensures ∙ c.in_default.is in
    let few : nat_le MOST_PARTICIPANTS (length r.accounts.accounts)
    ≡ false = grind (arith, nat_tests, c.len.ensures, c.if-len-ge-MOST_PARTICIPANTS.false) in
    let free : list_any (has_key c.args.key) r.accounts.accounts ≡ false = sym c.has_key.ensures ∙ c.if-has_key.false in
    rw (c.from_vec.ensures, c.in_ok-rows.ensures.items) (to_prepared book c.self.inside.records c.args.self.now.core of
    _ _ _ (prepared_add r of.kept c.args.code c.args.name c.args.key absent free few))
