use Rattle.std.proofs.Common.{◌≡◌, false, length, get_or, ap, arith, rules}
use Rattle.rtgs_gridlock.proofs.ListedLemmas.{room_for_one}
use Rattle.rtgs_gridlock.proofs.worklist.Worklist.put.Goals as goal

-- a list of indexes with one to come is shorter than there are flags, so the push has room
pub push_reserved-requires : goal.push_reserved-requires
push_reserved-requires c =
    let flags = c.self.inside.is_listed in
    let off : get_or flags.items c.args.index false ≡ false = search rules in
    let room = room_for_one c.self.inside.stack.items flags.items c.args.index c.self.invariant.0
    (omega (arith, ap length c.self.view_is)) off in
    omega (arith, flags.ok.0, c.self.inside.stack.ok.0, c.self.invariant.1, room)
