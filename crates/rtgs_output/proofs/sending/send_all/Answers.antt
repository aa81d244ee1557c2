use Rattle.std.proofs.Common.{arith, subst}
use Rattle.std.proofs.lemmas.List.{length-drop, take_all}
use Rattle.std.specs.Io.KnownBytes.{Appends}
use Rattle.rtgs_output.proofs.Growth.{appends-more, rest-of}
use Rattle.rtgs_output.proofs.sending.send_all.Goals as goal

pub loop-preserved : goal.loop-preserved
loop-preserved g c =
    let inv = c.loop.invariant in
    let rest = rest-of c.loop.at c.args.bytes.now in
    let some = c.in_ok-taken.ensures.some in
    let grew = rw rest at c.in_ok-taken.ensures.bytes in (
      omega (arith, inv.0, some.0),
      omega (arith, rw rest at some.1, length-drop c.loop.at c.args.bytes.now),
      appends-more _ _ _ c.loop.at c.in_ok-taken.taken c.args.bytes.now inv.2 grew,
    )

pub returns-clause-sent : goal.returns-clause-sent
returns-clause-sent g c =
    let inv = c.loop.invariant in
    subst (Appends (g.W.Write.contents c.args.out.now) (g.W.Write.contents c.loop.out))
    (take_all c.loop.at c.args.bytes.now (omega (arith, inv.0, c.loop-test.false))) inv.2
