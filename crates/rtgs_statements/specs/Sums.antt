-- What records add up to for a participant, in cents.
use Rattle.std.specs.Prelude.{ℕ, ◌^◌, ℤ, pos, neg_ℤ, ◌+ℤ◌, ◌-ℤ◌, ◌≤ℤ◌, ◌&&◌, List, filter, unwrap_or}
use Rattle.std.specs.BTreeMap.{BTreeMap, get}
use Rattle.std.specs.Cmp.Lexicographic.{slice_cmp}
use Rattle.std.specs.Ordering.{nat_cmp}
use Rattle.std.specs.Str.{bytes_eq}
use Rattle.rtgs_book.specs.declared.posting.Posting.{Posting}
use Rattle.rtgs_book.specs.declared.order.Order.{Order}
use Rattle.rtgs_book.specs.Books.{is_settled}
use Rattle.rtgs_book.specs.IntSum.{int_sum_by}
use Rattle.rtgs_statements.specs.declared.party.Party.{Party}
use Rattle.rtgs_statements.specs.declared.party.Party.TheVariants.{Sender, Receiver}
use Rattle.rtgs_statements.specs.declared.sums.Sums.{Sums}

abbrev pub cents_of : Posting → ℤ
cents_of posting = posting.cents

abbrev pub amount_of : Order → ℤ
amount_of order = pos order.amount

-- all that was posted to the participant
abbrev pub posted : List ℕ → List Posting → ℤ
posted code postings = int_sum_by cents_of (filter (λ posting. bytes_eq posting.code code) postings)

abbrev pub party_code : Party → Order → List ℕ
party_code Sender order = order.sender
party_code Receiver order = order.receiver

-- the settled orders in which the participant is this party
abbrev pub settled_for : Party → List ℕ → List Order → ℤ
settled_for party code orders = int_sum_by amount_of (filter
    (λ order. is_settled order && bytes_eq (party_code party order) code) orders)

abbrev pub sent : List ℕ → List Order → ℤ
sent code orders = settled_for Sender code orders

abbrev pub received : List ℕ → List Order → ℤ
received code orders = settled_for Receiver code orders

abbrev pub sums_of : List ℕ → List Posting → List Order → Sums
sums_of code postings orders = record {
  posted = posted code postings;
  sent = sent code orders;
  received = received code orders;
}

-- what the records leave to it: what was posted, less what it sent, and what it received
abbrev pub net : Sums → ℤ
net sums = sums.posted -ℤ sums.sent +ℤ sums.received

-- the sum under a code in a map, where a code without an entry has nothing
abbrev pub sum_at : BTreeMap (List ℕ) ℤ → List ℕ → ℤ
sum_at totals code = unwrap_or (get (slice_cmp nat_cmp) totals code) (pos 0)

-- the sums under a code
abbrev pub sums_at : BTreeMap (List ℕ) ℤ → BTreeMap (List ℕ) ℤ → BTreeMap (List ℕ) ℤ → List ℕ → Sums
sums_at posted sent received code = record {
  posted = sum_at posted code;
  sent = sum_at sent code;
  received = sum_at received code;
}

-- far within 128 bits
abbrev pub IsSmall : ℤ → Type 0
IsSmall z = (neg_ℤ (pos (10 ^ 36)) ≤ℤ z) × (z ≤ℤ pos (10 ^ 36))
