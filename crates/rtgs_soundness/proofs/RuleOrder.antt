-- Rules one after another.
use Rattle.std.proofs.Common.{◌≡◌, ℕ, ◌+◌, pos, ◌≤ℤ◌, Bool, true, ◌↔◌, ◌<◌, ◌≤◌, sym, ap}
use Rattle.std.proofs.Common.{subst, length, get_or, [], ◌∷◌, arith}
use Rattle.std.proofs.lemmas.List.{length-map}
use Rattle.rtgs_book.specs.declared.rule.Rule.{Rule}
use Rattle.rtgs_book.specs.declared.rule.Rule.TheVariants.{OrderNumbers, PostingNumbers, MarkNumbers, ParticipantCodes}
use Rattle.rtgs_book.specs.declared.rule.Rule.TheVariants.{Keys, OrderReferences, PostingReferences, Parties, Marks}
use Rattle.rtgs_book.specs.declared.rule.Rule.TheVariants.{Queues, Dates, Floors, Total, StoredBalances}
use Rattle.rtgs_book.specs.declared.rule.Rule.TheVariants.{AutomaticDay, Calm}
use Rattle.rtgs_book.specs.declared.limits.TheConstants.{LARGEST_NUMBER, LARGEST_TOTAL}
use Rattle.rtgs_book.specs.declared.book.Book.{Book}
use Rattle.rtgs_book.specs.declared.posting.Posting.{Posting}
use Rattle.rtgs_book.specs.declared.order.Order.{Order}
use Rattle.rtgs_book.specs.Judgement.{Keeps, KeepsBefore, rule_number}
use Rattle.rtgs_book.specs.Soundness.{TotalFits, IsSound}
use Rattle.rtgs_book.specs.Balance.{issued, total}
use Rattle.rtgs_book.specs.IntSum.{int_sum_by}

-- a rule before this one
pub earlier : (book : Book) (rule this other : Rule) → rule ≡ this → rule_number other < rule_number this
    → KeepsBefore book rule → Keeps book other
earlier book rule this other is less h = h other (subst (λ r. rule_number other < rule_number r) (sym is) less)

pub few_orders : (book : Book) → Keeps book OrderNumbers → length book.orders ≤ LARGEST_NUMBER
few_orders book h = let long = length-map book.orders (λ (o : Order). o.number) in let few = h.1 in omega arith

pub few_postings : (book : Book) → Keeps book PostingNumbers → length book.postings ≤ LARGEST_NUMBER
few_postings book h = let long = length-map book.postings (λ (p : Posting). p.number) in let few = h.1 in omega arith

-- The place of a rule among those that are tested. That on stored balances comes first, since each book keeps it.
abbrev pub place : Rule → ℕ
place StoredBalances = 0
place OrderNumbers = 1
place PostingNumbers = 2
place MarkNumbers = 3
place ParticipantCodes = 4
place Keys = 5
place OrderReferences = 6
place PostingReferences = 7
place Parties = 8
place Marks = 9
place Queues = 10
place Dates = 11
place Floors = 12
place Total = 13
place AutomaticDay = 14
place Calm = 15

-- the rule with a place
abbrev pub placed : ℕ → Rule
placed n = get_or (StoredBalances ∷ OrderNumbers ∷ PostingNumbers ∷ MarkNumbers ∷ ParticipantCodes ∷ Keys
    ∷ OrderReferences ∷ PostingReferences ∷ Parties ∷ Marks ∷ Queues ∷ Dates ∷ Floors ∷ Total ∷ AutomaticDay
    ∷ Calm ∷ []) n StoredBalances

-- the rules in the first places are kept
abbrev pub KeepsFirst : Book → ℕ → Type 0
KeepsFirst book count = (rule : Rule) → place rule ≤ count → Keeps book rule

-- the last rule is none of the first
pub not_the_last : (rule : Rule) (count : ℕ) → place rule ≡ count + 1 → count < 14 → rule ≡ Calm → ⊥
not_the_last rule count next few is = let last = ap place is in omega (arith, next, few, last)

pub sound_from_rules : (book : Book) (count : ℕ) → 14 ≤ count → KeepsFirst book count → IsSound book
sound_from_rules book count past kept = record {
  orders_numbered = kept OrderNumbers (omega arith);
  postings_numbered = kept PostingNumbers (omega arith);
  marks_numbered = kept MarkNumbers (omega arith);
  codes_rise = kept ParticipantCodes (omega arith);
  keys_distinct = kept Keys (omega arith);
  order_references = kept OrderReferences (omega arith);
  posting_references = kept PostingReferences (omega arith);
  parties = kept Parties (omega arith);
  marks = kept Marks (omega arith);
  queues = kept Queues (omega arith);
  dates = kept Dates (omega arith);
  floors = kept Floors (omega arith);
  total_fits = kept Total (omega arith);
  automatic_fits = kept AutomaticDay (omega arith);
}

-- the total by what was issued
pub total_by_issue : (book : Book) (b : Bool) → total book ≡ issued book
    → (b ≡ true) ↔ (int_sum_by (λ (p : Posting). p.cents) book.postings ≤ℤ pos LARGEST_TOTAL)
    → (b ≡ true) ↔ TotalFits book
unfolding issued
total_by_issue book b is_issued judged =
    let same : total book ≡ int_sum_by (λ (p : Posting). p.cents) book.postings = is_issued in
    (λ e. rw same (judged.0 e), λ fits. judged.1 (rw same at fits))
