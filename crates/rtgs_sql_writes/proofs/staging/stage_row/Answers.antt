use Rattle.rtgs_sql_writes.proofs.staging.stage_row.Goals as goal

pub returns-in_ok-add_participant-in-AddParticipant-clause-made :
    goal.returns-in_ok-add_participant-in-AddParticipant-clause-made
returns-in_ok-add_participant-in-AddParticipant-clause-made g c content before after = rw c.in-AddParticipant.is
    (c.in_ok-add_participant-in-AddParticipant.ensures.made content before)

pub returns-in_ok-add_posting-in-AddPosting-clause-made : goal.returns-in_ok-add_posting-in-AddPosting-clause-made
returns-in_ok-add_posting-in-AddPosting-clause-made g c content before after = rw c.in-AddPosting.is
    (c.in_ok-add_posting-in-AddPosting.ensures.made content (rw c.in-AddPosting.is at after))

pub returns-in_ok-add_order-in-AddOrder-clause-made : goal.returns-in_ok-add_order-in-AddOrder-clause-made
returns-in_ok-add_order-in-AddOrder-clause-made g c content before after = rw c.in-AddOrder.is
    (c.in_ok-add_order-in-AddOrder.ensures.made content (rw c.in-AddOrder.is at after))

pub returns-in_ok-add_mark-in-AddMark-clause-made : goal.returns-in_ok-add_mark-in-AddMark-clause-made
returns-in_ok-add_mark-in-AddMark-clause-made g c content before after = rw c.in-AddMark.is
    (c.in_ok-add_mark-in-AddMark.ensures.made content (rw c.in-AddMark.is at after))

pub returns-in_ok-set_credit-in-SetCredit-clause-made : goal.returns-in_ok-set_credit-in-SetCredit-clause-made
returns-in_ok-set_credit-in-SetCredit-clause-made g c content before after = rw c.in-SetCredit.is
    (c.in_ok-set_credit-in-SetCredit.ensures.made content before)

pub returns-in_ok-set_balance-in-SetBalance-clause-made : goal.returns-in_ok-set_balance-in-SetBalance-clause-made
returns-in_ok-set_balance-in-SetBalance-clause-made g c content before after = rw c.in-SetBalance.is
    (c.in_ok-set_balance-in-SetBalance.ensures.made content before)

pub returns-in_ok-set_state-in-SetState-clause-made : goal.returns-in_ok-set_state-in-SetState-clause-made
returns-in_ok-set_state-in-SetState-clause-made g c content before after = rw c.in-SetState.is
    (c.in_ok-set_state-in-SetState.ensures.made content before)

pub returns-in_ok-enter_queue-in-EnterQueue-clause-made : goal.returns-in_ok-enter_queue-in-EnterQueue-clause-made
returns-in_ok-enter_queue-in-EnterQueue-clause-made g c content before after = rw c.in-EnterQueue.is
    (c.in_ok-enter_queue-in-EnterQueue.ensures.made content before)

pub returns-in_ok-set_day-in-SetDay-clause-made : goal.returns-in_ok-set_day-in-SetDay-clause-made
returns-in_ok-set_day-in-SetDay-clause-made g c content before after = rw c.in-SetDay.is
    (c.in_ok-set_day-in-SetDay.ensures.made content before)
