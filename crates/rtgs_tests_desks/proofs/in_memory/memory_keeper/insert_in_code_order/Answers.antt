use Rattle.std.proofs.Common.{◌≡◌, true, is_ok, rules, of_calls, ap, ◌∙◌, sym, subst}
use Rattle.std.proofs.lemmas.List.Sorted.{IsPartitionPoint-from_clause}
use Rattle.std.specs.List.{insert}
use Rattle.rtgs_book.specs.declared.participant.Participant.{Participant}
use Rattle.rtgs_book.specs.Commands.{is_before}
use Rattle.rtgs_tests_desks.specs.in_memory.Memory.{AreInCodeOrder}
use Rattle.rtgs_tests_desks.proofs.in_memory.CodeOrder.{partitioned}
use Rattle.rtgs_lists.proofs.Filters.{put_in}
use Rattle.rtgs_lists.proofs.Places.{put_in_at}
use Rattle.rtgs_tests_desks.proofs.in_memory.memory_keeper.insert_in_code_order.Goals as goal

pub returns-clause-items : goal.returns-clause-items
returns-clause-items c = λ order.
    let code = c.args.new.code in
    let place = c.partition_point-place.result in
    let same : c.as_slice.result.now ≡ c.args.participants.now.items = c.as_slice.ensures.value in
    let order_here : AreInCodeOrder c.as_slice.result.now = subst AreInCodeOrder (sym same) order in
    let point = IsPartitionPoint-from_clause (λ (p : Participant). is_before p.code code) c.as_slice.result.now place
    c.partition_point-place.ensures.partitioned (partitioned code c.as_slice.result.now order_here)
    (λ a r f k. search (rules, of_calls)) in
    let put : insert c.as_slice.result.now place c.args.new ≡ put_in (λ (p : Participant). is_before p.code code)
    c.args.new c.as_slice.result.now =
    put_in_at (λ (p : Participant). is_before p.code code) c.args.new c.as_slice.result.now place
    c.partition_point-place.ensures.bound point.0 point.1 in
    let done : is_ok c.insert.result ≡ true = ap is_ok c.unwrap.ensures in
    rw done at c.insert.ensures.items ∙ subst (λ xs. insert xs place c.args.new
    ≡ put_in (λ (p : Participant). is_before p.code code) c.args.new xs) same put
