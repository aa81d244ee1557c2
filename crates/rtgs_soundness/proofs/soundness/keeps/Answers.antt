use Rattle.std.proofs.Common.{◌≡◌, List, true, IfOk, IsTrue, map, ◌↔◌, ◌≤ℤ◌, pos, lit<, length, ◌≤◌, sym, subst}
use Rattle.std.specs.List.{IsDistinct}
use Rattle.std.specs.Str.{bytes_eq}
use Rattle.rtgs_book.specs.declared.participant.Participant.{Participant}
use Rattle.rtgs_book.specs.declared.posting.Posting.{Posting}
use Rattle.rtgs_book.specs.declared.order.Order.{Order}
use Rattle.rtgs_book.specs.declared.mark.Mark.{Mark}
use Rattle.rtgs_book.specs.IntSum.{int_sum_by}
use Rattle.rtgs_book.specs.Lookup.{codes_of}
use Rattle.rtgs_book.specs.Soundness.{AreNumbered, AreCodes, is_same_name}
use Rattle.rtgs_book.specs.declared.rule.Rule.TheVariants.{PostingNumbers, MarkNumbers, ParticipantCodes, Parties}
use Rattle.rtgs_book.specs.declared.rule.Rule.TheVariants.{Marks, Floors, Total}
use Rattle.rtgs_book.specs.declared.limits.TheConstants.{LARGEST_NUMBER, LARGEST_TOTAL}
use Rattle.rtgs_soundness.proofs.RuleOrder.{earlier, few_postings, total_by_issue}
use Rattle.rtgs_soundness.proofs.soundness.keeps.Goals as goal

pub floors_hold-requires-clause-codes : goal.floors_hold-requires-clause-codes
floors_hold-requires-clause-codes c = earlier c.args.book.now c.args.rule Floors ParticipantCodes c.in-Floors.is
    (lit< tt) c.requires.before

pub floors_hold-requires-clause-few_postings : goal.floors_hold-requires-clause-few_postings
floors_hold-requires-clause-few_postings c = few_postings c.args.book.now
    (earlier c.args.book.now c.args.rule Floors PostingNumbers c.in-Floors.is (lit< tt) c.requires.before)

pub marks_fit-requires-clause-numbered : goal.marks_fit-requires-clause-numbered
marks_fit-requires-clause-numbered c = earlier c.args.book.now c.args.rule Marks MarkNumbers c.in-Marks.is (lit< tt)
    c.requires.before

pub is_issue_small-requires : goal.is_issue_small-requires
is_issue_small-requires c = subst (λ (ps : List Posting). length ps ≤ LARGEST_NUMBER) (sym c.as_slice-postings.ensures)
    (few_postings c.args.book.now (earlier c.args.book.now c.args.rule Total PostingNumbers c.in-Total.is (lit< tt)
    c.requires.before))

pub returns-in-OrderNumbers-clause-kept : goal.returns-in-OrderNumbers-clause-kept
returns-in-OrderNumbers-clause-kept c = rw c.in-OrderNumbers.is
    (subst (λ (xs : List Order). (c.are_numbered.result ≡ true) ↔ AreNumbered (map (λ (x : Order). x.number) xs))
    c.as_slice-orders.ensures c.are_numbered.ensures)

pub returns-in-PostingNumbers-clause-kept : goal.returns-in-PostingNumbers-clause-kept
returns-in-PostingNumbers-clause-kept c = rw c.in-PostingNumbers.is
    (subst (λ (xs : List Posting). (c.are_numbered-in-PostingNumbers.result ≡ true) ↔ AreNumbered
    (map (λ (x : Posting). x.number) xs)) c.as_slice-postings.ensures c.are_numbered-in-PostingNumbers.ensures)

pub returns-in-MarkNumbers-clause-kept : goal.returns-in-MarkNumbers-clause-kept
returns-in-MarkNumbers-clause-kept c = rw c.in-MarkNumbers.is
    (subst (λ (xs : List Mark). (c.are_numbered-in-MarkNumbers.result ≡ true) ↔ AreNumbered
    (map (λ (x : Mark). x.number) xs)) c.as_slice.ensures c.are_numbered-in-MarkNumbers.ensures)

pub returns-in-ParticipantCodes-clause-kept : goal.returns-in-ParticipantCodes-clause-kept
unfolding codes_of
returns-in-ParticipantCodes-clause-kept c = rw c.in-ParticipantCodes.is
    (subst (λ (xs : List Participant). (c.codes_rise.result ≡ true) ↔ AreCodes (map (λ (x : Participant). x.code) xs))
    c.as_slice-participants.ensures c.codes_rise.ensures)

pub returns-in-Keys-clause-kept : goal.returns-in-Keys-clause-kept
returns-in-Keys-clause-kept c = rw c.in-Keys.is (subst (λ (xs : List Participant). IfOk c.keys_are_distinct.result
    (λ yes. IsTrue yes ↔ IsDistinct bytes_eq (map (λ (x : Participant). x.key) xs))) c.as_slice-participants.ensures
    c.keys_are_distinct.ensures)

pub returns-in-OrderReferences-clause-kept : goal.returns-in-OrderReferences-clause-kept
returns-in-OrderReferences-clause-kept c = rw c.in-OrderReferences.is
    (subst (λ (xs : List Order). IfOk c.order_references_are_distinct.result
    (λ yes. IsTrue yes ↔ IsDistinct is_same_name (map (λ (x : Order). (x.sender, x.reference)) xs)))
    c.as_slice-orders.ensures c.order_references_are_distinct.ensures)

pub returns-in-PostingReferences-clause-kept : goal.returns-in-PostingReferences-clause-kept
returns-in-PostingReferences-clause-kept c = rw c.in-PostingReferences.is
    (subst (λ (xs : List Posting). IfOk c.posting_references_are_distinct.result
    (λ yes. IsTrue yes ↔ IsDistinct bytes_eq (map (λ (x : Posting). x.reference) xs))) c.as_slice-postings.ensures
    c.posting_references_are_distinct.ensures)

pub returns-in-Queues-clause-kept : goal.returns-in-Queues-clause-kept
returns-in-Queues-clause-kept c = rw c.in-Queues.is c.queues_fit.ensures

pub returns-in-Total-clause-kept : goal.returns-in-Total-clause-kept
returns-in-Total-clause-kept c =
    rw c.in-Total.is
    (total_by_issue c.args.book.now c.is_issue_small.result (c.total_is_issued.ensures c.args.book.now
    (earlier c.args.book.now c.args.rule Total ParticipantCodes c.in-Total.is (lit< tt) c.requires.before)
    (earlier c.args.book.now c.args.rule Total Parties c.in-Total.is (lit< tt) c.requires.before))
    (subst (λ (xs : List Posting). (c.is_issue_small.result ≡ true) ↔
    (int_sum_by (λ (x : Posting). x.cents) xs ≤ℤ pos LARGEST_TOTAL)) c.as_slice-postings.ensures
    c.is_issue_small.ensures))
