use Rattle.std.proofs.Common.{◌∙◌, ap, subst, sym, slice_get}
use Rattle.std.proofs.lemmas.Result.{on_ok_weaker}
use Rattle.rtgs_records.specs.Held.{HasRoom}
use Rattle.rtgs_ledger.specs.Rooms.{Covers}
use Rattle.rtgs_ledger.proofs.Rooms.{room_of_first}
use Rattle.rtgs_ledger.proofs.ledger.Ledger.make_room.Goals as goal

pub returns-in-Some-clause-room : goal.returns-in-Some-clause-room
returns-in-Some-clause-room c =
    let change = c.args.change.now in
    let new = c.make_room_for.new.self in
    let first = c.in-Some.ensures.value ∙ ap (λ rows. slice_get rows 0) c.as_slice.ensures in
    on_ok_weaker c.make_room_for.result (λ covers. subst (λ core. HasRoom (record { core = core; room = new.room })
    change) (sym c.make_room_for.ensures.core) (c.requires new.room
    (subst (Covers new.room) (sym (room_of_first change c.in-Some.row.now first)) covers)))
    c.make_room_for.ensures.room
