use Rattle.std.proofs.lemmas.Grind.{common_steps}
use Rattle.std.proofs.Common.{rules, ◌≡◌, true, ◌+◌, ◌∷◌, [], ◌++◌, ◌∙◌, get_or, arith}
use Rattle.std.specs.Result.{is_ok}
use Rattle.rtgs_http_requests.specs.declared.feeds.limits.TheConstants.{LONGEST_HEAD}
use Rattle.rtgs_http_requests.specs.feeds.Region.{HasNoEnd}
use Rattle.rtgs_http_requests.proofs.feeds.Growth.{taken_more, no_end_more, front_of}
use Rattle.rtgs_http_requests.proofs.feeds.head_feed.take_head.Goals as goal

pub is_end-requires : goal.is_end-requires
is_end-requires c =
    let good : is_ok c.push.result ≡ true = search rules in
    let pushed : c.push.new.self.items ≡ c.loop-index.seen.items ++ get_or c.args.piece.now c.loop-index.index 0 ∷ [] =
    rw good at c.push.ensures.items in
    let lent : c.deref.result.now ≡ c.push.new.self.items = search rules in
    (c.loop-index.seen.items, lent ∙ pushed)

pub returns-then-len-eq-LONGEST_HEAD-clause-step : goal.returns-then-len-eq-LONGEST_HEAD-clause-step
returns-then-len-eq-LONGEST_HEAD-clause-step c =
    let good : is_ok c.push.result ≡ true = search rules in
    let pushed : c.push.new.self.items ≡ c.loop-index.seen.items ++ get_or c.args.piece.now c.loop-index.index 0 ∷ [] =
    rw good at c.push.ensures.items in
    let taken = taken_more c.args.seen.now.items c.loop-index.seen.items c.push.new.self.items c.args.piece.now
    c.loop-index.index c.loop-index-test.true c.loop-index.invariant.taken pushed in
    let front = front_of c.args.seen.now.items c.args.piece.now c.push.new.self.items (c.loop-index.index + 1)
    LONGEST_HEAD (omega arith) taken (search rules) in
    let none : HasNoEnd c.push.new.self.items = no_end_more c.loop-index.seen.items c.push.new.self.items _ pushed
    c.loop-index.invariant.unfinished.0 (search rules) in
    (front.0, (front.1, rw front.0 at none))

pub loop-index-preserved : goal.loop-index-preserved
loop-index-preserved c =
    let good : is_ok c.push.result ≡ true = search rules in
    let pushed : c.push.new.self.items ≡ c.loop-index.seen.items ++ get_or c.args.piece.now c.loop-index.index 0 ∷ [] =
    rw good at c.push.ensures.items in
    record {
      taken = taken_more c.args.seen.now.items c.loop-index.seen.items c.push.new.self.items c.args.piece.now
          c.loop-index.index c.loop-index-test.true c.loop-index.invariant.taken pushed;
      unfinished = (
        no_end_more c.loop-index.seen.items c.push.new.self.items _ pushed
            c.loop-index.invariant.unfinished.0 (search rules),
        omega arith,
      );
      room = omega arith;
    }

pub returns-then-is_end-clause-step : goal.returns-then-is_end-clause-step
returns-then-is_end-clause-step c = grind (arith, common_steps)

pub returns-then-is_end-clause-room : goal.returns-then-is_end-clause-room
returns-then-is_end-clause-room c = grind (arith, common_steps)

pub returns-then-len-eq-LONGEST_HEAD-clause-room : goal.returns-then-len-eq-LONGEST_HEAD-clause-room
returns-then-len-eq-LONGEST_HEAD-clause-room c = grind (arith, common_steps)

pub returns-clause-step : goal.returns-clause-step
returns-clause-step c = grind (arith, common_steps)

pub returns-clause-room : goal.returns-clause-room
returns-clause-room c = grind (arith, common_steps)
