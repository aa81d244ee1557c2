use Rattle.std.proofs.Common.{rules}
use Rattle.rtgs_desk.proofs.HoldingLemmas.{works_held, has_held_in_memory, remembered}
use Rattle.rtgs_desk.proofs.AccountLemmas.{answered_more, answered_to_the_last, answered_up_to_the_most}
use Rattle.rtgs_desk.proofs.desk.Desk.accounts.Goals as goal

pub loop-index-preserved : goal.loop-index-preserved
loop-index-preserved g c = record {
  answered = λ book memory. answered_more book c.loop-index.readings.items c.push.new.self.items c.loop-index.index
      c.in-Some.account c.in_ok-reading_of.field-0 (c.in-Some.ensures book memory)
      (c.in_ok-reading_of.ensures book memory) (c.loop-index.invariant.answered book memory) (search rules);
}

pub returns-then-self-clause-answered : goal.returns-then-self-clause-answered
returns-then-self-clause-answered g c book held = let works = works_held g.K.Keeper c.args.self.now book held
    in search rules

pub returns-in_default-clause-remembered : goal.returns-in_default-clause-remembered
returns-in_default-clause-remembered g c book memory works = answered_to_the_last book c.loop-index.readings.items
    c.loop-index.index (c.loop-index.invariant.answered book memory) (c.in_default.ensures book memory)

pub returns-in_default-clause-answered : goal.returns-in_default-clause-answered
returns-in_default-clause-answered g c book held = returns-in_default-clause-remembered g c book
    (has_held_in_memory g.K.Keeper c.args.self.now book held) (works_held g.K.Keeper c.args.self.now book held)

pub returns-clause-remembered : goal.returns-clause-remembered
returns-clause-remembered g c book memory works = answered_up_to_the_most book c.loop-index.readings.items
    c.loop-index.index (remembered c.args.self.now book memory).sound (c.loop-index.invariant.answered book memory)
    c.loop-index-test.false

pub returns-clause-answered : goal.returns-clause-answered
returns-clause-answered g c book held = returns-clause-remembered g c book
    (has_held_in_memory g.K.Keeper c.args.self.now book held) (works_held g.K.Keeper c.args.self.now book held)
