use Rattle.std.proofs.Common.{◌≡◌, ℕ, zero, suc, ◌≤◌, true, List, [], ◌∷◌, get_or, nat_lt, is_ok}
use Rattle.std.proofs.Common.{rules, of_calls, ap, ◌∙◌, sym, subst, arith}
use Rattle.std.proofs.lemmas.Bool.Decides.{nat_tests}
use Rattle.std.proofs.lemmas.List.Sorted.{IsPartitionPoint-from_clause}
use Rattle.std.specs.List.{insert}
use Rattle.std.specs.List.Sorted.{IsPartitionedBy}
use Rattle.rtgs_lists.proofs.Filters.{put_in}
use Rattle.rtgs_lists.proofs.Lists.{all_at_place}
use Rattle.rtgs_lists.proofs.Places.{put_in_at}
use Rattle.rtgs_records.specs.queues.QueueNumbers.{AreInOrder}
use Rattle.rtgs_records.proofs.queues.queues.insert_in_order.Goals as goal

-- what is below a number comes first
partitioned : (number : ℕ) (ns : List ℕ) → AreInOrder ns → IsPartitionedBy (λ n. nat_lt n number) ns
partitioned number [] h i j d le within below = absurd (omega arith)
partitioned number (n ∷ ns) h zero zero d le within below = below
partitioned number (n ∷ ns) h zero (suc j) d le within below =
    let after : n ≤ get_or ns j d = all_at_place (λ later. n ≤ later) ns h.0 j d (omega arith) in
    grind (arith, nat_tests, after, below)
partitioned number (n ∷ ns) h (suc i) zero d le within below = absurd (omega arith)
partitioned number (n ∷ ns) h (suc i) (suc j) d le within below =
    partitioned number ns h.1 i j d (omega arith) (omega arith) below

pub returns-clause-items : goal.returns-clause-items
returns-clause-items c = λ order.
    let number = c.args.number in
    let place = c.partition_point-place.result in
    let same : c.as_slice.result.now ≡ c.args.numbers.now.items = c.as_slice.ensures.value in
    let order_here : AreInOrder c.as_slice.result.now = subst AreInOrder (sym same) order in
    let point = IsPartitionPoint-from_clause (λ n. nat_lt n number) c.as_slice.result.now place
    c.partition_point-place.ensures.partitioned (partitioned number c.as_slice.result.now order_here)
    (λ a r f k. search (rules, of_calls)) in
    let put : insert c.as_slice.result.now place number ≡ put_in (λ n. nat_lt n number) number c.as_slice.result.now =
    put_in_at (λ n. nat_lt n number) number c.as_slice.result.now place
    c.partition_point-place.ensures.bound point.0 point.1 in
    let done : is_ok c.insert.result ≡ true = ap is_ok c.unwrap.ensures in
    rw done at c.insert.ensures.items ∙ subst (λ xs. insert xs place number
    ≡ put_in (λ n. nat_lt n number) number xs) same put
