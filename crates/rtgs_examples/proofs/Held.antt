-- The examples of orders for a later date, computed.
use Rattle.std.proofs.Common.{pos, false, List, [], ◌∷◌, Some, None, Ok, Err, codes, refl, inl}
use Rattle.rtgs_book.specs.declared.command.Command.TheVariants.{Post, Withdraw, Resolve, CutOff, CloseDay}
use Rattle.rtgs_book.specs.declared.answer.Answer.TheVariants as answer
use Rattle.rtgs_book.specs.declared.answer.Known.TheVariants as known
use Rattle.rtgs_book.specs.declared.refusal.Refusal.TheVariants as refusal
use Rattle.rtgs_book.specs.declared.order_state.OrderState.TheVariants as state
use Rattle.rtgs_book.specs.declared.book.Book.{Book}
use Rattle.rtgs_book.specs.declared.command.Command.{Command}
use Rattle.rtgs_book.specs.Outcome.{OwnReply}
use Rattle.rtgs_book.specs.Choice.{Choice, IsGreatest}
use Rattle.rtgs_book.specs.Commands.{order, resolve, post, withdraw, open_day, cut_off, close_day}
use Rattle.rtgs_book.specs.Procedure.{everything, taken_back, All, Without_newest}
use Rattle.rtgs_examples.specs.Examples.{alfa, beta, gama, zeta, monday, tuesday, wednesday, thursday, saturday}
use Rattle.rtgs_examples.specs.Examples.{start, says, opens, new_day, pays, pays_on, Comes, LeavesQueue, LeavesDates}
use Rattle.rtgs_examples.proofs.WholeRuns.{as_whole_run}
use Rattle.rtgs_examples.proofs.Computed.{computed, FindsGreatest}

-- ---- due order

abbrev due_1 : Book
due_1 = (post start alfa (codes "P-1") (pos 100)).book

abbrev due_2 : Book
due_2 = (order due_1 alfa (says (codes "A-1") beta 60 (Some tuesday))).book

abbrev due_3 : Book
due_3 = (order due_2 alfa (says (codes "A-2") beta 50 None)).book

abbrev due_4 : Book
due_4 = (order due_3 alfa (says (codes "A-1") beta 60 (Some tuesday))).book

abbrev due_5 : Book
due_5 = (order due_4 alfa (says (codes "A-1") beta 60 None)).book

abbrev due_6 : Book
due_6 = (order due_5 alfa (says (codes "A-3") beta 60 (Some monday))).book

abbrev due_7 : Book
due_7 = (order due_6 alfa (says (codes "A-3") beta 60 (Some saturday))).book

abbrev due_8 : Book
due_8 = (cut_off due_7 monday).book

abbrev due_9_choice : Choice
due_9_choice = everything due_8

due_9_greatest : FindsGreatest → IsGreatest due_8 due_9_choice
unfolding computed
due_9_greatest law = law due_8 due_9_choice
    All
    (record { le = tt }, (record { le = tt }, (record { le = tt }, tt)))

abbrev due_9 : Book
due_9 = (close_day due_8 due_9_choice monday).book

abbrev due_10 : Book
due_10 = (open_day due_9 (new_day tuesday false)).book

abbrev due_11 : Book
due_11 = (order due_10 alfa (says (codes "A-3") gama 10 None)).book

abbrev due_12_choice : Choice
due_12_choice = taken_back alfa (taken_back alfa (everything due_11))

due_12_greatest : FindsGreatest → IsGreatest due_11 due_12_choice
unfolding computed
due_12_greatest law = law due_11 due_12_choice
    (Without_newest (Without_newest All alfa (inl refl) (record { lt = tt })) alfa (inl refl) (record { lt = tt }))
    (record { le = tt }, (record { le = tt }, (record { le = tt }, tt)))

abbrev due_12 : Book
due_12 = (resolve due_11 due_12_choice).book

abbrev due_13 : Book
due_13 = (post due_12 alfa (codes "P-2") (pos 10)).book

abbrev due_14_choice : Choice
due_14_choice = taken_back alfa (everything due_13)

due_14_greatest : FindsGreatest → IsGreatest due_13 due_14_choice
unfolding computed
due_14_greatest law = law due_13 due_14_choice
    (Without_newest All alfa (inl refl) (record { lt = tt }))
    (record { le = tt }, (record { le = tt }, (record { le = tt }, tt)))

abbrev due_14 : Book
due_14 = (resolve due_13 due_14_choice).book

abbrev due_order_commands : List Command
due_order_commands =
    Post alfa (codes "P-1") (pos 100) ∷ pays_on tuesday alfa beta 60 (codes "A-1") ∷ pays alfa beta 50 (codes "A-2")
    ∷ pays_on tuesday alfa beta 60 (codes "A-1") ∷ pays alfa beta 60 (codes "A-1")
    ∷ pays_on monday alfa beta 60 (codes "A-3") ∷ pays_on saturday alfa beta 60 (codes "A-3") ∷ CutOff monday
    ∷ CloseDay monday ∷ opens tuesday false ∷ pays alfa gama 10 (codes "A-3") ∷ Resolve
    ∷ Post alfa (codes "P-2") (pos 10) ∷ Resolve ∷ []

abbrev due_order_replies : List OwnReply
due_order_replies =
    Ok (answer.Posted 1) ∷ Ok (answer.Held 1 tuesday) ∷ Ok (answer.Settled 2 1)
    ∷ Ok (answer.Repeated (known.Order 1 state.Held)) ∷ Err refusal.ReferenceUsed ∷ Err refusal.DueNotLater
    ∷ Err refusal.Weekend ∷ Ok answer.CutOffDone ∷ Ok (answer.Closed 0) ∷ Ok answer.Opened ∷ Ok (answer.Queued 3 2)
    ∷ Ok answer.Nothing ∷ Ok (answer.Posted 2) ∷ Ok (answer.Resolved 2 1 (pos 60)) ∷ []

pub due_order_comes : FindsGreatest → Comes due_order_commands due_order_replies
    (pos 0 ∷ pos 110 ∷ pos 0 ∷ [])
unfolding computed
due_order_comes law = (
  due_14,
  as_whole_run start due_14 due_order_commands due_order_replies (
    due_1,
    refl,
    (
      due_2,
      refl,
      (
        due_3,
        refl,
        (
          due_4,
          refl,
          (
            due_5,
            refl,
            (
              due_6,
              refl,
              (
                due_7,
                refl,
                (
                  due_8,
                  refl,
                  (
                    due_9,
                    (due_9_choice, due_9_greatest law, refl),
                    (
                      due_10,
                      refl,
                      (
                        due_11,
                        refl,
                        (
                          due_12,
                          (due_12_choice, due_12_greatest law, refl),
                          (
                            due_13,
                            refl,
                            (due_14, (due_14_choice, due_14_greatest law, refl), refl),
                          ),
                        ),
                      ),
                    ),
                  ),
                ),
              ),
            ),
          ),
        ),
      ),
    ),
  ) refl,
  refl,
)

-- ---- held order moves nothing

abbrev held_order_moves_nothing_commands : List Command
held_order_moves_nothing_commands =
    Post alfa (codes "P-1") (pos 100) ∷ pays_on tuesday alfa beta 60 (codes "A-1") ∷ pays alfa beta 50 (codes "A-2")
    ∷ []

abbrev held_order_moves_nothing_replies : List OwnReply
held_order_moves_nothing_replies =
    Ok (answer.Posted 1) ∷ Ok (answer.Held 1 tuesday) ∷ Ok (answer.Settled 2 1) ∷ []

pub held_order_moves_nothing_comes : Comes held_order_moves_nothing_commands held_order_moves_nothing_replies
    (pos 50 ∷ pos 50 ∷ pos 0 ∷ [])
unfolding computed
held_order_moves_nothing_comes = (
  due_3,
  as_whole_run start due_3 held_order_moves_nothing_commands held_order_moves_nothing_replies
      (due_1, refl, (due_2, refl, (due_3, refl, refl))) refl,
  refl,
)

-- ---- due order enters its queue

abbrev due_order_enters_its_queue_commands : List Command
due_order_enters_its_queue_commands =
    Post alfa (codes "P-1") (pos 100) ∷ pays_on tuesday alfa beta 60 (codes "A-1") ∷ pays alfa beta 50 (codes "A-2")
    ∷ pays_on tuesday alfa beta 60 (codes "A-1") ∷ pays alfa beta 60 (codes "A-1")
    ∷ pays_on monday alfa beta 60 (codes "A-3") ∷ pays_on saturday alfa beta 60 (codes "A-3") ∷ CutOff monday
    ∷ CloseDay monday ∷ opens tuesday false ∷ []

abbrev due_order_enters_its_queue_replies : List OwnReply
due_order_enters_its_queue_replies =
    Ok (answer.Posted 1) ∷ Ok (answer.Held 1 tuesday) ∷ Ok (answer.Settled 2 1)
    ∷ Ok (answer.Repeated (known.Order 1 state.Held)) ∷ Err refusal.ReferenceUsed ∷ Err refusal.DueNotLater
    ∷ Err refusal.Weekend ∷ Ok answer.CutOffDone ∷ Ok (answer.Closed 0) ∷ Ok answer.Opened ∷ []

pub due_order_enters_its_queue_comes : FindsGreatest
    → LeavesQueue due_order_enters_its_queue_commands due_order_enters_its_queue_replies
    alfa (1 ∷ [])
unfolding computed
due_order_enters_its_queue_comes law = (
  due_10,
  as_whole_run start due_10 due_order_enters_its_queue_commands due_order_enters_its_queue_replies (
    due_1,
    refl,
    (
      due_2,
      refl,
      (
        due_3,
        refl,
        (
          due_4,
          refl,
          (
            due_5,
            refl,
            (
              due_6,
              refl,
              (
                due_7,
                refl,
                (
                  due_8,
                  refl,
                  (due_9, (due_9_choice, due_9_greatest law, refl), (due_10, refl, refl)),
                ),
              ),
            ),
          ),
        ),
      ),
    ),
  ) refl,
  refl,
)

-- ---- later order stays held

abbrev late_1 : Book
late_1 = (order start alfa (says (codes "A-1") beta 10 (Some wednesday))).book

abbrev late_2 : Book
late_2 = (order late_1 alfa (says (codes "A-2") beta 20 (Some thursday))).book

abbrev late_3 : Book
late_3 = (order late_2 alfa (says (codes "A-3") gama 30 (Some tuesday))).book

abbrev late_4 : Book
late_4 = (cut_off late_3 monday).book

abbrev late_5_choice : Choice
late_5_choice = everything late_4

late_5_greatest : FindsGreatest → IsGreatest late_4 late_5_choice
unfolding computed
late_5_greatest law = law late_4 late_5_choice
    All
    (record { le = tt }, (record { le = tt }, (record { le = tt }, tt)))

abbrev late_5 : Book
late_5 = (close_day late_4 late_5_choice monday).book

abbrev late_6 : Book
late_6 = (open_day late_5 (new_day wednesday false)).book

abbrev late_7 : Book
late_7 = (order late_6 alfa (says (codes "A-2") beta 20 (Some thursday))).book

abbrev late_8 : Book
late_8 = (order late_7 alfa (says (codes "A-3") gama 30 (Some tuesday))).book

abbrev later_order_stays_held_commands : List Command
later_order_stays_held_commands =
    pays_on wednesday alfa beta 10 (codes "A-1") ∷ pays_on thursday alfa beta 20 (codes "A-2")
    ∷ pays_on tuesday alfa gama 30 (codes "A-3") ∷ CutOff monday ∷ CloseDay monday ∷ opens wednesday false
    ∷ pays_on thursday alfa beta 20 (codes "A-2") ∷ pays_on tuesday alfa gama 30 (codes "A-3") ∷ []

abbrev later_order_stays_held_replies : List OwnReply
later_order_stays_held_replies =
    Ok (answer.Held 1 wednesday) ∷ Ok (answer.Held 2 thursday) ∷ Ok (answer.Held 3 tuesday) ∷ Ok answer.CutOffDone
    ∷ Ok (answer.Closed 0) ∷ Ok answer.Opened ∷ Ok (answer.Repeated (known.Order 2 state.Held))
    ∷ Ok (answer.Repeated (known.Order 3 state.Queued)) ∷ []

pub later_order_stays_held_comes : FindsGreatest
    → LeavesQueue later_order_stays_held_commands later_order_stays_held_replies
    alfa (1 ∷ 3 ∷ [])
unfolding computed
later_order_stays_held_comes law = (
  late_8,
  as_whole_run start late_8 later_order_stays_held_commands later_order_stays_held_replies (
    late_1,
    refl,
    (
      late_2,
      refl,
      (
        late_3,
        refl,
        (
          late_4,
          refl,
          (
            late_5,
            (late_5_choice, late_5_greatest law, refl),
            (late_6, refl, (late_7, refl, (late_8, refl, refl))),
          ),
        ),
      ),
    ),
  ) refl,
  refl,
)

-- ---- entered order has the date

abbrev entered_order_has_the_date_commands : List Command
entered_order_has_the_date_commands =
    pays_on wednesday alfa beta 10 (codes "A-1") ∷ pays_on thursday alfa beta 20 (codes "A-2")
    ∷ pays_on tuesday alfa gama 30 (codes "A-3") ∷ CutOff monday ∷ CloseDay monday ∷ opens wednesday false ∷ []

abbrev entered_order_has_the_date_replies : List OwnReply
entered_order_has_the_date_replies =
    Ok (answer.Held 1 wednesday) ∷ Ok (answer.Held 2 thursday) ∷ Ok (answer.Held 3 tuesday) ∷ Ok answer.CutOffDone
    ∷ Ok (answer.Closed 0) ∷ Ok answer.Opened ∷ []

pub entered_order_has_the_date_comes : FindsGreatest
    → LeavesDates entered_order_has_the_date_commands entered_order_has_the_date_replies
    (wednesday ∷ thursday ∷ wednesday ∷ [])
unfolding computed
entered_order_has_the_date_comes law = (
  late_6,
  as_whole_run start late_6 entered_order_has_the_date_commands entered_order_has_the_date_replies (
    late_1,
    refl,
    (
      late_2,
      refl,
      (
        late_3,
        refl,
        (
          late_4,
          refl,
          (
            late_5,
            (late_5_choice, late_5_greatest law, refl),
            (late_6, refl, refl),
          ),
        ),
      ),
    ),
  ) refl,
  refl,
)

-- ---- due date is content

abbrev content_1 : Book
content_1 = (order start alfa (says (codes "A-1") beta 60 (Some tuesday))).book

abbrev content_2 : Book
content_2 = (order content_1 alfa (says (codes "A-1") beta 60 (Some tuesday))).book

abbrev content_3 : Book
content_3 = (order content_2 alfa (says (codes "A-1") beta 60 None)).book

abbrev content_4 : Book
content_4 = (order content_3 alfa (says (codes "A-1") beta 60 (Some wednesday))).book

abbrev content_5 : Book
content_5 = (order content_4 alfa (says (codes "A-2") beta 60 None)).book

abbrev content_6 : Book
content_6 = (order content_5 alfa (says (codes "A-2") beta 60 None)).book

abbrev content_7 : Book
content_7 = (order content_6 alfa (says (codes "A-2") beta 60 (Some tuesday))).book

abbrev due_date_is_content_commands : List Command
due_date_is_content_commands =
    pays_on tuesday alfa beta 60 (codes "A-1") ∷ pays_on tuesday alfa beta 60 (codes "A-1")
    ∷ pays alfa beta 60 (codes "A-1") ∷ pays_on wednesday alfa beta 60 (codes "A-1") ∷ pays alfa beta 60 (codes "A-2")
    ∷ pays alfa beta 60 (codes "A-2") ∷ pays_on tuesday alfa beta 60 (codes "A-2") ∷ []

abbrev due_date_is_content_replies : List OwnReply
due_date_is_content_replies =
    Ok (answer.Held 1 tuesday) ∷ Ok (answer.Repeated (known.Order 1 state.Held)) ∷ Err refusal.ReferenceUsed
    ∷ Err refusal.ReferenceUsed ∷ Ok (answer.Queued 2 1) ∷ Ok (answer.Repeated (known.Order 2 state.Queued))
    ∷ Err refusal.ReferenceUsed ∷ []

pub due_date_is_content_comes : Comes due_date_is_content_commands due_date_is_content_replies
    (pos 0 ∷ pos 0 ∷ pos 0 ∷ [])
unfolding computed
due_date_is_content_comes = (
  content_7,
  as_whole_run start content_7 due_date_is_content_commands due_date_is_content_replies (
    content_1,
    refl,
    (
      content_2,
      refl,
      (
        content_3,
        refl,
        (
          content_4,
          refl,
          (
            content_5,
            refl,
            (
              content_6,
              refl,
              (content_7, refl, refl),
            ),
          ),
        ),
      ),
    ),
  ) refl,
  refl,
)

-- ---- due date is a later weekday

abbrev weekday_1 : Book
weekday_1 = (order start alfa (says (codes "A-1") beta 60 (Some monday))).book

abbrev weekday_2 : Book
weekday_2 = (order weekday_1 alfa (says (codes "A-1") beta 60 (Some 20240302))).book

abbrev weekday_3 : Book
weekday_3 = (order weekday_2 alfa (says (codes "A-1") beta 60 (Some saturday))).book

abbrev weekday_4 : Book
weekday_4 = (order weekday_3 alfa (says (codes "A-1") beta 60 (Some 20240310))).book

abbrev weekday_5 : Book
weekday_5 = (order weekday_4 alfa (says (codes "A-1") beta 60 (Some 20240311))).book

abbrev due_date_is_a_later_weekday_commands : List Command
due_date_is_a_later_weekday_commands =
    pays_on monday alfa beta 60 (codes "A-1") ∷ pays_on 20240302 alfa beta 60 (codes "A-1")
    ∷ pays_on saturday alfa beta 60 (codes "A-1") ∷ pays_on 20240310 alfa beta 60 (codes "A-1")
    ∷ pays_on 20240311 alfa beta 60 (codes "A-1") ∷ []

abbrev due_date_is_a_later_weekday_replies : List OwnReply
due_date_is_a_later_weekday_replies =
    Err refusal.DueNotLater ∷ Err refusal.DueNotLater ∷ Err refusal.Weekend ∷ Err refusal.Weekend
    ∷ Ok (answer.Held 1 20240311) ∷ []

pub due_date_is_a_later_weekday_comes : Comes due_date_is_a_later_weekday_commands due_date_is_a_later_weekday_replies
    (pos 0 ∷ pos 0 ∷ pos 0 ∷ [])
unfolding computed
due_date_is_a_later_weekday_comes = (
  weekday_5,
  as_whole_run start weekday_5 due_date_is_a_later_weekday_commands due_date_is_a_later_weekday_replies
      (weekday_1, refl, (weekday_2, refl, (weekday_3, refl, (weekday_4, refl, (weekday_5, refl, refl))))) refl,
  refl,
)

-- ---- due date is judged last

abbrev judged_1 : Book
judged_1 = (order start zeta (says (codes "Z-1") beta 60 (Some monday))).book

abbrev judged_2 : Book
judged_2 = (order judged_1 alfa (says (codes "A-1") zeta 60 (Some monday))).book

abbrev judged_3 : Book
judged_3 = (order judged_2 alfa (says (codes "A-1") alfa 60 (Some saturday))).book

abbrev judged_4 : Book
judged_4 = (cut_off judged_3 monday).book

abbrev judged_5 : Book
judged_5 = (order judged_4 alfa (says (codes "A-1") beta 60 (Some monday))).book

abbrev judged_6 : Book
judged_6 = (order judged_5 alfa (says (codes "A-1") beta 60 (Some tuesday))).book

abbrev due_date_is_judged_last_commands : List Command
due_date_is_judged_last_commands =
    pays_on monday zeta beta 60 (codes "Z-1") ∷ pays_on monday alfa zeta 60 (codes "A-1")
    ∷ pays_on saturday alfa alfa 60 (codes "A-1") ∷ CutOff monday ∷ pays_on monday alfa beta 60 (codes "A-1")
    ∷ pays_on tuesday alfa beta 60 (codes "A-1") ∷ []

abbrev due_date_is_judged_last_replies : List OwnReply
due_date_is_judged_last_replies =
    Err refusal.UnknownParticipant ∷ Err refusal.UnknownReceiver ∷ Err refusal.SameParty ∷ Ok answer.CutOffDone
    ∷ Err refusal.NotOpen ∷ Err refusal.NotOpen ∷ []

pub due_date_is_judged_last_comes : Comes due_date_is_judged_last_commands due_date_is_judged_last_replies
    (pos 0 ∷ pos 0 ∷ pos 0 ∷ [])
unfolding computed
due_date_is_judged_last_comes = (
  judged_6,
  as_whole_run start judged_6 due_date_is_judged_last_commands due_date_is_judged_last_replies
      (judged_1, refl, (judged_2, refl, (judged_3, refl, (judged_4, refl, (judged_5, refl, (judged_6, refl, refl))))))
      refl,
  refl,
)

-- ---- held orders are withdrawn

abbrev withdrawn_1 : Book
withdrawn_1 = (order start alfa (says (codes "A-1") beta 10 (Some tuesday))).book

abbrev withdrawn_2 : Book
withdrawn_2 = (order withdrawn_1 alfa (says (codes "A-2") beta 20 (Some tuesday))).book

abbrev withdrawn_3 : Book
withdrawn_3 = (order withdrawn_2 alfa (says (codes "A-3") beta 30 (Some tuesday))).book

abbrev withdrawn_4 : Book
withdrawn_4 = (withdraw withdrawn_3 alfa (codes "A-1")).book

abbrev withdrawn_5 : Book
withdrawn_5 = (cut_off withdrawn_4 monday).book

abbrev withdrawn_6 : Book
withdrawn_6 = (withdraw withdrawn_5 alfa (codes "A-2")).book

abbrev withdrawn_7_choice : Choice
withdrawn_7_choice = everything withdrawn_6

withdrawn_7_greatest : FindsGreatest → IsGreatest withdrawn_6 withdrawn_7_choice
unfolding computed
withdrawn_7_greatest law = law withdrawn_6 withdrawn_7_choice
    All
    (record { le = tt }, (record { le = tt }, (record { le = tt }, tt)))

abbrev withdrawn_7 : Book
withdrawn_7 = (close_day withdrawn_6 withdrawn_7_choice monday).book

abbrev withdrawn_8 : Book
withdrawn_8 = (withdraw withdrawn_7 alfa (codes "A-3")).book

abbrev withdrawn_9 : Book
withdrawn_9 = (withdraw withdrawn_8 alfa (codes "A-3")).book

abbrev withdrawn_10 : Book
withdrawn_10 = (open_day withdrawn_9 (new_day tuesday false)).book

abbrev held_orders_are_withdrawn_commands : List Command
held_orders_are_withdrawn_commands =
    pays_on tuesday alfa beta 10 (codes "A-1") ∷ pays_on tuesday alfa beta 20 (codes "A-2")
    ∷ pays_on tuesday alfa beta 30 (codes "A-3") ∷ Withdraw alfa (codes "A-1") ∷ CutOff monday
    ∷ Withdraw alfa (codes "A-2") ∷ CloseDay monday ∷ Withdraw alfa (codes "A-3") ∷ Withdraw alfa (codes "A-3")
    ∷ opens tuesday false ∷ []

abbrev held_orders_are_withdrawn_replies : List OwnReply
held_orders_are_withdrawn_replies =
    Ok (answer.Held 1 tuesday) ∷ Ok (answer.Held 2 tuesday) ∷ Ok (answer.Held 3 tuesday) ∷ Ok (answer.Withdrawn 1)
    ∷ Ok answer.CutOffDone ∷ Ok (answer.Withdrawn 2) ∷ Ok (answer.Closed 0) ∷ Ok (answer.Withdrawn 3)
    ∷ Ok (answer.Repeated (known.Order 3 state.Withdrawn)) ∷ Ok answer.Opened ∷ []

pub held_orders_are_withdrawn_comes : FindsGreatest
    → LeavesQueue held_orders_are_withdrawn_commands held_orders_are_withdrawn_replies
    alfa []
unfolding computed
held_orders_are_withdrawn_comes law = (
  withdrawn_10,
  as_whole_run start withdrawn_10 held_orders_are_withdrawn_commands held_orders_are_withdrawn_replies (
    withdrawn_1,
    refl,
    (
      withdrawn_2,
      refl,
      (
        withdrawn_3,
        refl,
        (
          withdrawn_4,
          refl,
          (
            withdrawn_5,
            refl,
            (
              withdrawn_6,
              refl,
              (
                withdrawn_7,
                (withdrawn_7_choice, withdrawn_7_greatest law, refl),
                (
                  withdrawn_8,
                  refl,
                  (withdrawn_9, refl, (withdrawn_10, refl, refl)),
                ),
              ),
            ),
          ),
        ),
      ),
    ),
  ) refl,
  refl,
)

-- ---- close leaves held orders

abbrev close_1 : Book
close_1 = (order start alfa (says (codes "A-1") beta 60 None)).book

abbrev close_2 : Book
close_2 = (order close_1 alfa (says (codes "A-2") beta 60 (Some tuesday))).book

abbrev close_3 : Book
close_3 = (cut_off close_2 monday).book

abbrev close_4_choice : Choice
close_4_choice = taken_back alfa (everything close_3)

close_4_greatest : FindsGreatest → IsGreatest close_3 close_4_choice
unfolding computed
close_4_greatest law = law close_3 close_4_choice
    (Without_newest All alfa (inl refl) (record { lt = tt }))
    (record { le = tt }, (record { le = tt }, (record { le = tt }, tt)))

abbrev close_4 : Book
close_4 = (close_day close_3 close_4_choice monday).book

abbrev close_5 : Book
close_5 = (order close_4 alfa (says (codes "A-1") beta 60 None)).book

abbrev close_6 : Book
close_6 = (order close_5 alfa (says (codes "A-2") beta 60 (Some tuesday))).book

abbrev close_leaves_held_orders_commands : List Command
close_leaves_held_orders_commands =
    pays alfa beta 60 (codes "A-1") ∷ pays_on tuesday alfa beta 60 (codes "A-2") ∷ CutOff monday ∷ CloseDay monday
    ∷ pays alfa beta 60 (codes "A-1") ∷ pays_on tuesday alfa beta 60 (codes "A-2") ∷ []

abbrev close_leaves_held_orders_replies : List OwnReply
close_leaves_held_orders_replies =
    Ok (answer.Queued 1 1) ∷ Ok (answer.Held 2 tuesday) ∷ Ok answer.CutOffDone ∷ Ok (answer.Closed 1)
    ∷ Ok (answer.Repeated (known.Order 1 state.Rejected)) ∷ Ok (answer.Repeated (known.Order 2 state.Held)) ∷ []

pub close_leaves_held_orders_comes : FindsGreatest
    → Comes close_leaves_held_orders_commands close_leaves_held_orders_replies
    (pos 0 ∷ pos 0 ∷ pos 0 ∷ [])
unfolding computed
close_leaves_held_orders_comes law = (
  close_6,
  as_whole_run start close_6 close_leaves_held_orders_commands close_leaves_held_orders_replies (
    close_1,
    refl,
    (
      close_2,
      refl,
      (
        close_3,
        refl,
        (
          close_4,
          (close_4_choice, close_4_greatest law, refl),
          (close_5, refl, (close_6, refl, refl)),
        ),
      ),
    ),
  ) refl,
  refl,
)

-- ---- due order waits to be resolved

abbrev idle_1 : Book
idle_1 = (post start alfa (codes "P-1") (pos 60)).book

abbrev idle_2 : Book
idle_2 = (order idle_1 alfa (says (codes "A-1") beta 60 (Some tuesday))).book

abbrev idle_3 : Book
idle_3 = (cut_off idle_2 monday).book

abbrev idle_4_choice : Choice
idle_4_choice = everything idle_3

idle_4_greatest : FindsGreatest → IsGreatest idle_3 idle_4_choice
unfolding computed
idle_4_greatest law = law idle_3 idle_4_choice
    All
    (record { le = tt }, (record { le = tt }, (record { le = tt }, tt)))

abbrev idle_4 : Book
idle_4 = (close_day idle_3 idle_4_choice monday).book

abbrev idle_5 : Book
idle_5 = (open_day idle_4 (new_day tuesday false)).book

abbrev idle_6 : Book
idle_6 = (order idle_5 alfa (says (codes "A-1") beta 60 (Some tuesday))).book

abbrev idle_7_choice : Choice
idle_7_choice = everything idle_6

idle_7_greatest : FindsGreatest → IsGreatest idle_6 idle_7_choice
unfolding computed
idle_7_greatest law = law idle_6 idle_7_choice
    All
    (record { le = tt }, (record { le = tt }, (record { le = tt }, tt)))

abbrev idle_7 : Book
idle_7 = (resolve idle_6 idle_7_choice).book

abbrev idle_8 : Book
idle_8 = (order idle_7 alfa (says (codes "A-1") beta 60 (Some tuesday))).book

abbrev due_order_waits_to_be_resolved_commands : List Command
due_order_waits_to_be_resolved_commands =
    Post alfa (codes "P-1") (pos 60) ∷ pays_on tuesday alfa beta 60 (codes "A-1") ∷ CutOff monday ∷ CloseDay monday
    ∷ opens tuesday false ∷ pays_on tuesday alfa beta 60 (codes "A-1") ∷ Resolve
    ∷ pays_on tuesday alfa beta 60 (codes "A-1") ∷ []

abbrev due_order_waits_to_be_resolved_replies : List OwnReply
due_order_waits_to_be_resolved_replies =
    Ok (answer.Posted 1) ∷ Ok (answer.Held 1 tuesday) ∷ Ok answer.CutOffDone ∷ Ok (answer.Closed 0) ∷ Ok answer.Opened
    ∷ Ok (answer.Repeated (known.Order 1 state.Queued)) ∷ Ok (answer.Resolved 1 1 (pos 60))
    ∷ Ok (answer.Repeated (known.Order 1 (state.Settled 1))) ∷ []

pub due_order_waits_to_be_resolved_comes : FindsGreatest
    → Comes due_order_waits_to_be_resolved_commands due_order_waits_to_be_resolved_replies
    (pos 0 ∷ pos 60 ∷ pos 0 ∷ [])
unfolding computed
due_order_waits_to_be_resolved_comes law = (
  idle_8,
  as_whole_run start idle_8 due_order_waits_to_be_resolved_commands due_order_waits_to_be_resolved_replies (
    idle_1,
    refl,
    (
      idle_2,
      refl,
      (
        idle_3,
        refl,
        (
          idle_4,
          (idle_4_choice, idle_4_greatest law, refl),
          (
            idle_5,
            refl,
            (idle_6, refl, (idle_7, (idle_7_choice, idle_7_greatest law, refl), (idle_8, refl, refl))),
          ),
        ),
      ),
    ),
  ) refl,
  refl,
)
