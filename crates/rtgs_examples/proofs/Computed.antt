-- The examples, computed.
use Rattle.std.proofs.Common.{pos, ◌≤ℤ◌, negsuc, false, List, [], ◌∷◌, None, Ok, Err, codes, refl, inl, inr}
use Rattle.std.specs.Bool.{⊤}
use Rattle.std.specs.List.{AllByRecursion}
use Rattle.rtgs_book.specs.declared.command.Command.TheVariants.{SetCredit, Post, Withdraw, Resolve, CutOff}
use Rattle.rtgs_book.specs.declared.command.Command.TheVariants.{CloseDay}
use Rattle.rtgs_book.specs.declared.answer.Answer.TheVariants as answer
use Rattle.rtgs_book.specs.declared.answer.Known.TheVariants as known
use Rattle.rtgs_book.specs.declared.refusal.Refusal.TheVariants as refusal
use Rattle.rtgs_book.specs.declared.order_state.OrderState.TheVariants as state
use Rattle.jiff_core.specs.Calendar.{days_from_civil, weekday_number, day_count, days_of_years, days_of_months}
use Rattle.rtgs_money.specs.Date.{is_weekend}
use Rattle.rtgs_book.specs.declared.book.Book.{Book}
use Rattle.rtgs_book.specs.declared.command.Command.{Command}
use Rattle.rtgs_book.specs.Outcome.{OwnReply, first_of}
use Rattle.rtgs_book.specs.Lookup.{participant_of, credit_of, codes_of, is_participant, order_named, posting_named}
use Rattle.rtgs_book.specs.Balance.{gain, balance, floor, total}
use Rattle.rtgs_book.specs.Queue.{queue, waiting, orders_before}
use Rattle.rtgs_book.specs.Choice.{Choice, is_chosen, chosen, balance_after, IsGreatest}
use Rattle.rtgs_book.specs.Settle.{settle, mark_of}
use Rattle.rtgs_book.specs.Commands.{order, takes, settles_at_once, resolve, set_credit, post, withdraw, let_in}
use Rattle.rtgs_book.specs.Commands.{open_day, cut_off, close_day, with_credit, with_state, overdrawn}
use Rattle.rtgs_book.specs.Procedure.{everything, taken_back, Reaches, All, Without_newest}
use Rattle.rtgs_examples.proofs.WholeRuns.{as_whole_run}
use Rattle.rtgs_examples.specs.Examples.{alfa, beta, gama, zeta, monday, start, unopened, says, opens, new_day, pays}
use Rattle.rtgs_examples.specs.Examples.{Comes}
use Rattle.rtgs_examples.specs.Examples.{ComesFrom}

-- All that the examples compute with, named once: a proof that names this one unfolds them all.
unfoldable pub computed : ⊤
unfolding first_of order takes settles_at_once queue waiting orders_before balance gain floor credit_of participant_of
    codes_of is_participant order_named posting_named settle mark_of let_in open_day is_weekend days_from_civil
    weekday_number day_count days_of_years days_of_months withdraw balance_after chosen is_chosen resolve set_credit
    with_credit post total cut_off close_day with_state overdrawn
computed = tt

-- where nobody is short any more, the procedure's choice is the greatest
abbrev pub FindsGreatest : Type 0
FindsGreatest = (book : Book) (choice : Choice) → Reaches book choice → AllByRecursion (λ code. floor book code
    ≤ℤ balance_after book choice code) (codes_of book) → IsGreatest book choice

-- ---- ring

abbrev ring_1 : Book
ring_1 = (order start alfa (says (codes "A-1") beta 100 None)).book

abbrev ring_2 : Book
ring_2 = (order ring_1 beta (says (codes "B-1") gama 100 None)).book

abbrev ring_3 : Book
ring_3 = (order ring_2 gama (says (codes "G-1") alfa 100 None)).book

abbrev ring_4_choice : Choice
ring_4_choice = (everything ring_3)

ring_4_greatest : FindsGreatest → IsGreatest ring_3 ring_4_choice
unfolding computed
ring_4_greatest law = law ring_3 ring_4_choice All (record { le = tt }, (record { le = tt }, (record { le = tt }, tt)))

abbrev ring_4 : Book
ring_4 = (resolve ring_3 ring_4_choice).book

abbrev ring_5_choice : Choice
ring_5_choice = (everything ring_4)

ring_5_greatest : FindsGreatest → IsGreatest ring_4 ring_5_choice
unfolding computed
ring_5_greatest law = law ring_4 ring_5_choice All (record { le = tt }, (record { le = tt }, (record { le = tt }, tt)))

abbrev ring_5 : Book
ring_5 = (resolve ring_4 ring_5_choice).book

abbrev ring_commands : List Command
ring_commands =
    pays alfa beta 100 (codes "A-1") ∷ pays beta gama 100 (codes "B-1") ∷ pays gama alfa 100 (codes "G-1") ∷ Resolve
    ∷ Resolve ∷ []

abbrev ring_replies : List OwnReply
ring_replies =
    Ok (answer.Queued 1 1) ∷ Ok (answer.Queued 2 1) ∷ Ok (answer.Queued 3 1) ∷ Ok (answer.Resolved 1 3 (pos 300))
    ∷ Ok answer.Nothing ∷ []

pub ring_comes : FindsGreatest → Comes ring_commands ring_replies
    (pos 0 ∷ pos 0 ∷ pos 0 ∷ [])
unfolding computed
ring_comes law = (
  ring_5,
  as_whole_run start ring_5 ring_commands ring_replies (
    ring_1,
    refl,
    (
      ring_2,
      refl,
      (
        ring_3,
        refl,
        (
          ring_4,
          (ring_4_choice, ring_4_greatest law, refl),
          (
            ring_5,
            (ring_5_choice, ring_5_greatest law, refl),
            refl,
          ),
        ),
      ),
    ),
  ) refl,
  refl,
)

-- ---- deadlock

abbrev deadlock_1 : Book
deadlock_1 = (order start alfa (says (codes "A-1") beta 100 None)).book

abbrev deadlock_2 : Book
deadlock_2 = (order deadlock_1 beta (says (codes "B-1") gama 90 None)).book

abbrev deadlock_3_choice : Choice
deadlock_3_choice = (taken_back beta (taken_back alfa (everything deadlock_2)))

deadlock_3_greatest : FindsGreatest → IsGreatest deadlock_2 deadlock_3_choice
unfolding computed
deadlock_3_greatest law = law deadlock_2 deadlock_3_choice (Without_newest (Without_newest All alfa (inl refl)
    (record { lt = tt })) beta (inr (inl refl)) (record { lt = tt })) (
      record { le = tt },
      (
        record { le = tt },
        (record { le = tt }, tt),
      ),
    )

abbrev deadlock_3 : Book
deadlock_3 = (resolve deadlock_2 deadlock_3_choice).book

abbrev deadlock_4 : Book
deadlock_4 = (cut_off deadlock_3 monday).book

abbrev deadlock_5_choice : Choice
deadlock_5_choice = (taken_back beta (taken_back alfa (everything deadlock_4)))

deadlock_5_greatest : FindsGreatest → IsGreatest deadlock_4 deadlock_5_choice
unfolding computed
deadlock_5_greatest law = law deadlock_4 deadlock_5_choice (Without_newest (Without_newest All alfa (inl refl)
    (record { lt = tt })) beta (inr (inl refl)) (record { lt = tt })) (
      record { le = tt },
      (
        record { le = tt },
        (record { le = tt }, tt),
      ),
    )

abbrev deadlock_5 : Book
deadlock_5 = (close_day deadlock_4 deadlock_5_choice monday).book

abbrev deadlock_6_choice : Choice
deadlock_6_choice = (everything deadlock_5)

deadlock_6_greatest : FindsGreatest → IsGreatest deadlock_5 deadlock_6_choice
unfolding computed
deadlock_6_greatest law = law deadlock_5 deadlock_6_choice All (
  record { le = tt },
  (
    record { le = tt },
    (record { le = tt }, tt),
  ),
)

abbrev deadlock_6 : Book
deadlock_6 = (close_day deadlock_5 deadlock_6_choice monday).book

abbrev deadlock_7 : Book
deadlock_7 = (open_day deadlock_6 (new_day 20240309 false)).book

abbrev deadlock_8 : Book
deadlock_8 = (open_day deadlock_7 (new_day 20240304 false)).book

abbrev deadlock_9 : Book
deadlock_9 = (open_day deadlock_8 (new_day 20240305 false)).book

abbrev deadlock_10 : Book
deadlock_10 = (open_day deadlock_9 (new_day 20240305 false)).book

abbrev deadlock_commands : List Command
deadlock_commands =
    pays alfa beta 100 (codes "A-1") ∷ pays beta gama 90 (codes "B-1") ∷ Resolve ∷ CutOff monday ∷ CloseDay monday
    ∷ CloseDay monday ∷ opens 20240309 false ∷ opens 20240304 false ∷ opens 20240305 false
    ∷ opens 20240305 false ∷ []

abbrev deadlock_replies : List OwnReply
deadlock_replies =
    Ok (answer.Queued 1 1) ∷ Ok (answer.Queued 2 1) ∷ Ok answer.Nothing ∷ Ok answer.CutOffDone ∷ Ok (answer.Closed 2)
    ∷ Ok (answer.Repeated known.Nothing) ∷ Err refusal.Weekend ∷ Err refusal.WrongDate ∷ Ok answer.Opened
    ∷ Ok (answer.Repeated known.Nothing) ∷ []

pub deadlock_comes : FindsGreatest → Comes deadlock_commands deadlock_replies
    (pos 0 ∷ pos 0 ∷ pos 0 ∷ [])
unfolding computed
deadlock_comes law = (
  deadlock_10,
  as_whole_run start deadlock_10 deadlock_commands deadlock_replies (
    deadlock_1,
    refl,
    (
      deadlock_2,
      refl,
      (
        deadlock_3,
        (deadlock_3_choice, deadlock_3_greatest law, refl),
        (
          deadlock_4,
          refl,
          (
            deadlock_5,
            (deadlock_5_choice, deadlock_5_greatest law, refl),
            (
              deadlock_6,
              (deadlock_6_choice, deadlock_6_greatest law, refl),
              (
                deadlock_7,
                refl,
                (
                  deadlock_8,
                  refl,
                  (
                    deadlock_9,
                    refl,
                    (deadlock_10, refl, refl),
                  ),
                ),
              ),
            ),
          ),
        ),
      ),
    ),
  ) refl,
  refl,
)

-- ---- partial

abbrev partial_1 : Book
partial_1 = (order start alfa (says (codes "A-1") beta 100 None)).book

abbrev partial_2 : Book
partial_2 = (order partial_1 alfa (says (codes "A-2") gama 50 None)).book

abbrev partial_3 : Book
partial_3 = (order partial_2 beta (says (codes "B-1") alfa 100 None)).book

abbrev partial_4_choice : Choice
partial_4_choice = (taken_back alfa (everything partial_3))

partial_4_greatest : FindsGreatest → IsGreatest partial_3 partial_4_choice
unfolding computed
partial_4_greatest law = law partial_3 partial_4_choice (Without_newest All alfa (inl refl) (record { lt = tt }))
    (record { le = tt }, (record { le = tt }, (record { le = tt }, tt)))

abbrev partial_4 : Book
partial_4 = (resolve partial_3 partial_4_choice).book

abbrev partial_commands : List Command
partial_commands =
    pays alfa beta 100 (codes "A-1") ∷ pays alfa gama 50 (codes "A-2") ∷ pays beta alfa 100 (codes "B-1") ∷ Resolve
    ∷ []

abbrev partial_replies : List OwnReply
partial_replies =
    Ok (answer.Queued 1 1) ∷ Ok (answer.Queued 2 2) ∷ Ok (answer.Queued 3 1) ∷ Ok (answer.Resolved 1 2 (pos 200)) ∷ []

pub partial_comes : FindsGreatest → Comes partial_commands partial_replies
    (pos 0 ∷ pos 0 ∷ pos 0 ∷ [])
unfolding computed
partial_comes law = (
  partial_4,
  as_whole_run start partial_4 partial_commands partial_replies (
    partial_1,
    refl,
    (
      partial_2,
      refl,
      (
        partial_3,
        refl,
        (
          partial_4,
          (
            partial_4_choice,
            partial_4_greatest law,
            refl,
          ),
          refl,
        ),
      ),
    ),
  ) refl,
  refl,
)

-- ---- cascade

abbrev cascade_1 : Book
cascade_1 = (post start alfa (codes "P-1") (pos 10)).book

abbrev cascade_2 : Book
cascade_2 = (order cascade_1 alfa (says (codes "A-1") beta 60 None)).book

abbrev cascade_3 : Book
cascade_3 = (order cascade_2 alfa (says (codes "A-2") gama 10 None)).book

abbrev cascade_4 : Book
cascade_4 = (order cascade_3 beta (says (codes "B-1") alfa 50 None)).book

abbrev cascade_5 : Book
cascade_5 = (order cascade_4 beta (says (codes "B-2") gama 20 None)).book

abbrev cascade_6 : Book
cascade_6 = (order cascade_5 gama (says (codes "G-1") alfa 5 None)).book

abbrev cascade_7_choice : Choice
cascade_7_choice = (taken_back gama (taken_back beta (taken_back alfa (everything cascade_6))))

cascade_7_greatest : FindsGreatest → IsGreatest cascade_6 cascade_7_choice
unfolding computed
cascade_7_greatest law = law cascade_6 cascade_7_choice (Without_newest (Without_newest (Without_newest All alfa
    (inl refl) (record { lt = tt })) beta (inr (inl refl)) (record { lt = tt })) gama (inr (inr (inl refl)))
    (record { lt = tt })) (record { le = tt }, (record { le = tt }, (record { le = tt }, tt)))

abbrev cascade_7 : Book
cascade_7 = (resolve cascade_6 cascade_7_choice).book

abbrev cascade_commands : List Command
cascade_commands =
    Post alfa (codes "P-1") (pos 10) ∷ pays alfa beta 60 (codes "A-1") ∷ pays alfa gama 10 (codes "A-2")
    ∷ pays beta alfa 50 (codes "B-1") ∷ pays beta gama 20 (codes "B-2") ∷ pays gama alfa 5 (codes "G-1") ∷ Resolve
    ∷ []

abbrev cascade_replies : List OwnReply
cascade_replies =
    Ok (answer.Posted 1) ∷ Ok (answer.Queued 1 1) ∷ Ok (answer.Queued 2 2) ∷ Ok (answer.Queued 3 1)
    ∷ Ok (answer.Queued 4 2) ∷ Ok (answer.Queued 5 1) ∷ Ok (answer.Resolved 1 2 (pos 110)) ∷ []

pub cascade_comes : FindsGreatest → Comes cascade_commands cascade_replies
    (pos 0 ∷ pos 10 ∷ pos 0 ∷ [])
unfolding computed
cascade_comes law = (
  cascade_7,
  as_whole_run start cascade_7 cascade_commands cascade_replies (
    cascade_1,
    refl,
    (
      cascade_2,
      refl,
      (
        cascade_3,
        refl,
        (
          cascade_4,
          refl,
          (
            cascade_5,
            refl,
            (
              cascade_6,
              refl,
              (cascade_7, (cascade_7_choice, cascade_7_greatest law, refl), refl),
            ),
          ),
        ),
      ),
    ),
  ) refl,
  refl,
)

-- ---- boundary of credit

abbrev boundary_of_credit_1 : Book
boundary_of_credit_1 = (set_credit start alfa 100).book

abbrev boundary_of_credit_2 : Book
boundary_of_credit_2 = (order boundary_of_credit_1 alfa (says (codes "A-1") beta 100 None)).book

abbrev boundary_of_credit_3 : Book
boundary_of_credit_3 = (order boundary_of_credit_2 alfa (says (codes "A-2") beta 1 None)).book

abbrev boundary_of_credit_4 : Book
boundary_of_credit_4 = (order boundary_of_credit_3 alfa (says (codes "A-1") beta 100 None)).book

abbrev boundary_of_credit_5 : Book
boundary_of_credit_5 = (order boundary_of_credit_4 alfa (says (codes "A-1") beta 99 None)).book

abbrev boundary_of_credit_6 : Book
boundary_of_credit_6 = (set_credit boundary_of_credit_5 alfa 99).book

abbrev boundary_of_credit_7 : Book
boundary_of_credit_7 = (set_credit boundary_of_credit_6 alfa 100).book

abbrev boundary_of_credit_commands : List Command
boundary_of_credit_commands =
    SetCredit alfa 100 ∷ pays alfa beta 100 (codes "A-1") ∷ pays alfa beta 1 (codes "A-2")
    ∷ pays alfa beta 100 (codes "A-1") ∷ pays alfa beta 99 (codes "A-1") ∷ SetCredit alfa 99 ∷ SetCredit alfa 100 ∷ []

abbrev boundary_of_credit_replies : List OwnReply
boundary_of_credit_replies =
    Ok answer.CreditSet ∷ Ok (answer.Settled 1 1) ∷ Ok (answer.Queued 2 1)
    ∷ Ok (answer.Repeated (known.Order 1 (state.Settled 1))) ∷ Err refusal.ReferenceUsed ∷ Err refusal.NoCover
    ∷ Ok answer.CreditSet ∷ []

pub boundary_of_credit_comes : Comes boundary_of_credit_commands boundary_of_credit_replies
    (negsuc 99 ∷ pos 100 ∷ pos 0 ∷ [])
unfolding computed
boundary_of_credit_comes = (
  boundary_of_credit_7,
  as_whole_run start boundary_of_credit_7 boundary_of_credit_commands boundary_of_credit_replies (
    boundary_of_credit_1,
    refl,
    (
      boundary_of_credit_2,
      refl,
      (
        boundary_of_credit_3,
        refl,
        (
          boundary_of_credit_4,
          refl,
          (boundary_of_credit_5, refl, (boundary_of_credit_6, refl, (boundary_of_credit_7, refl, refl))),
        ),
      ),
    ),
  ) refl,
  refl,
)

-- ---- no bypass

abbrev no_bypass_1 : Book
no_bypass_1 = (post start alfa (codes "P-1") (pos 100)).book

abbrev no_bypass_2 : Book
no_bypass_2 = (order no_bypass_1 alfa (says (codes "A-1") beta 150 None)).book

abbrev no_bypass_3 : Book
no_bypass_3 = (order no_bypass_2 alfa (says (codes "A-2") beta 20 None)).book

abbrev no_bypass_4_choice : Choice
no_bypass_4_choice = (taken_back alfa (taken_back alfa (everything no_bypass_3)))

no_bypass_4_greatest : FindsGreatest → IsGreatest no_bypass_3 no_bypass_4_choice
unfolding computed
no_bypass_4_greatest law = law no_bypass_3 no_bypass_4_choice (Without_newest (Without_newest All alfa (inl refl)
    (record { lt = tt })) alfa (inl refl) (record { lt = tt })) (
      record { le = tt },
      (
        record { le = tt },
        (record { le = tt }, tt),
      ),
    )

abbrev no_bypass_4 : Book
no_bypass_4 = (resolve no_bypass_3 no_bypass_4_choice).book

abbrev no_bypass_commands : List Command
no_bypass_commands =
    Post alfa (codes "P-1") (pos 100) ∷ pays alfa beta 150 (codes "A-1") ∷ pays alfa beta 20 (codes "A-2") ∷ Resolve
    ∷ []

abbrev no_bypass_replies : List OwnReply
no_bypass_replies =
    Ok (answer.Posted 1) ∷ Ok (answer.Queued 1 1) ∷ Ok (answer.Queued 2 2) ∷ Ok answer.Nothing ∷ []

pub no_bypass_comes : FindsGreatest → Comes no_bypass_commands no_bypass_replies
    (pos 100 ∷ pos 0 ∷ pos 0 ∷ [])
unfolding computed
no_bypass_comes law = (
  no_bypass_4,
  as_whole_run start no_bypass_4 no_bypass_commands no_bypass_replies (
    no_bypass_1,
    refl,
    (
      no_bypass_2,
      refl,
      (
        no_bypass_3,
        refl,
        (
          no_bypass_4,
          (
            no_bypass_4_choice,
            no_bypass_4_greatest law,
            refl,
          ),
          refl,
        ),
      ),
    ),
  ) refl,
  refl,
)

-- ---- finality

abbrev finality_1 : Book
finality_1 = (set_credit start alfa 100).book

abbrev finality_2 : Book
finality_2 = (order finality_1 alfa (says (codes "A-1") beta 100 None)).book

abbrev finality_3 : Book
finality_3 = (order finality_2 alfa (says (codes "A-2") beta 1 None)).book

abbrev finality_4 : Book
finality_4 = (withdraw finality_3 alfa (codes "A-1")).book

abbrev finality_5 : Book
finality_5 = (withdraw finality_4 alfa (codes "A-2")).book

abbrev finality_6 : Book
finality_6 = (withdraw finality_5 alfa (codes "A-2")).book

abbrev finality_7 : Book
finality_7 = (withdraw finality_6 alfa (codes "A-3")).book

abbrev finality_commands : List Command
finality_commands =
    SetCredit alfa 100 ∷ pays alfa beta 100 (codes "A-1") ∷ pays alfa beta 1 (codes "A-2")
    ∷ Withdraw alfa (codes "A-1") ∷ Withdraw alfa (codes "A-2") ∷ Withdraw alfa (codes "A-2")
    ∷ Withdraw alfa (codes "A-3") ∷ []

abbrev finality_replies : List OwnReply
finality_replies =
    Ok answer.CreditSet ∷ Ok (answer.Settled 1 1) ∷ Ok (answer.Queued 2 1) ∷ Err refusal.NotQueued
    ∷ Ok (answer.Withdrawn 2) ∷ Ok (answer.Repeated (known.Order 2 state.Withdrawn)) ∷ Err refusal.UnknownOrder ∷ []

pub finality_comes : Comes finality_commands finality_replies
    (negsuc 99 ∷ pos 100 ∷ pos 0 ∷ [])
unfolding computed
finality_comes = (
  finality_7,
  as_whole_run start finality_7 finality_commands finality_replies (
    finality_1,
    refl,
    (
      finality_2,
      refl,
      (
        finality_3,
        refl,
        (
          finality_4,
          refl,
          (
            finality_5,
            refl,
            (
              finality_6,
              refl,
              (finality_7, refl, refl),
            ),
          ),
        ),
      ),
    ),
  ) refl,
  refl,
)

-- ---- largest posting

abbrev largest_posting_1 : Book
largest_posting_1 = (post start alfa (codes "P-1") (pos 1000000000000000)).book

abbrev largest_posting_2 : Book
largest_posting_2 = (post largest_posting_1 beta (codes "P-2") (pos 1)).book

abbrev largest_posting_3 : Book
largest_posting_3 = (post largest_posting_2 alfa (codes "P-3") (negsuc 0)).book

abbrev largest_posting_commands : List Command
largest_posting_commands =
    Post alfa (codes "P-1") (pos 1000000000000000) ∷ Post beta (codes "P-2") (pos 1)
    ∷ Post alfa (codes "P-3") (negsuc 0) ∷ []

abbrev largest_posting_replies : List OwnReply
largest_posting_replies =
    Ok (answer.Posted 1) ∷ Err refusal.TotalTooLarge ∷ Ok (answer.Posted 2) ∷ []

pub largest_posting_comes : Comes largest_posting_commands largest_posting_replies
    (pos 999999999999999 ∷ pos 0 ∷ pos 0 ∷ [])
unfolding computed
largest_posting_comes = (
  largest_posting_3,
  as_whole_run start largest_posting_3 largest_posting_commands largest_posting_replies
      (largest_posting_1, refl, (largest_posting_2, refl, (largest_posting_3, refl, refl))) refl,
  refl,
)

-- ---- cut off stops orders

abbrev cut_off_stops_orders_1 : Book
cut_off_stops_orders_1 = (order start alfa (says (codes "A-1") beta 100 None)).book

abbrev cut_off_stops_orders_2 : Book
cut_off_stops_orders_2 = (order cut_off_stops_orders_1 beta (says (codes "B-1") alfa 100 None)).book

abbrev cut_off_stops_orders_3 : Book
cut_off_stops_orders_3 = (order cut_off_stops_orders_2 gama (says (codes "G-1") alfa 1 None)).book

abbrev cut_off_stops_orders_4 : Book
cut_off_stops_orders_4 = (cut_off cut_off_stops_orders_3 monday).book

abbrev cut_off_stops_orders_5 : Book
cut_off_stops_orders_5 = (order cut_off_stops_orders_4 alfa (says (codes "A-2") beta 5 None)).book

abbrev cut_off_stops_orders_6 : Book
cut_off_stops_orders_6 = (order cut_off_stops_orders_5 alfa (says (codes "A-1") beta 100 None)).book

abbrev cut_off_stops_orders_7 : Book
cut_off_stops_orders_7 = (withdraw cut_off_stops_orders_6 gama (codes "G-1")).book

abbrev cut_off_stops_orders_8_choice : Choice
cut_off_stops_orders_8_choice = (everything cut_off_stops_orders_7)

cut_off_stops_orders_8_greatest : FindsGreatest → IsGreatest cut_off_stops_orders_7 cut_off_stops_orders_8_choice
unfolding computed
cut_off_stops_orders_8_greatest law = law cut_off_stops_orders_7 cut_off_stops_orders_8_choice All
    (record { le = tt }, (record { le = tt }, (record { le = tt }, tt)))

abbrev cut_off_stops_orders_8 : Book
cut_off_stops_orders_8 = (resolve cut_off_stops_orders_7 cut_off_stops_orders_8_choice).book

abbrev cut_off_stops_orders_commands : List Command
cut_off_stops_orders_commands =
    pays alfa beta 100 (codes "A-1") ∷ pays beta alfa 100 (codes "B-1") ∷ pays gama alfa 1 (codes "G-1")
    ∷ CutOff monday ∷ pays alfa beta 5 (codes "A-2") ∷ pays alfa beta 100 (codes "A-1") ∷ Withdraw gama (codes "G-1")
    ∷ Resolve ∷ []

abbrev cut_off_stops_orders_replies : List OwnReply
cut_off_stops_orders_replies =
    Ok (answer.Queued 1 1) ∷ Ok (answer.Queued 2 1) ∷ Ok (answer.Queued 3 1) ∷ Ok answer.CutOffDone
    ∷ Err refusal.NotOpen ∷ Ok (answer.Repeated (known.Order 1 state.Queued)) ∷ Ok (answer.Withdrawn 3)
    ∷ Ok (answer.Resolved 1 2 (pos 200)) ∷ []

pub cut_off_stops_orders_comes : FindsGreatest → Comes cut_off_stops_orders_commands cut_off_stops_orders_replies
    (pos 0 ∷ pos 0 ∷ pos 0 ∷ [])
unfolding computed
cut_off_stops_orders_comes law = (
  cut_off_stops_orders_8,
  as_whole_run start cut_off_stops_orders_8 cut_off_stops_orders_commands cut_off_stops_orders_replies (
    cut_off_stops_orders_1,
    refl,
    (
      cut_off_stops_orders_2,
      refl,
      (
        cut_off_stops_orders_3,
        refl,
        (
          cut_off_stops_orders_4,
          refl,
          (
            cut_off_stops_orders_5,
            refl,
            (
              cut_off_stops_orders_6,
              refl,
              (
                cut_off_stops_orders_7,
                refl,
                (
                  cut_off_stops_orders_8,
                  (
                    cut_off_stops_orders_8_choice,
                    cut_off_stops_orders_8_greatest law,
                    refl,
                  ),
                  refl,
                ),
              ),
            ),
          ),
        ),
      ),
    ),
  ) refl,
  refl,
)

-- ---- close with gridlock

abbrev close_with_gridlock_1 : Book
close_with_gridlock_1 = (order start alfa (says (codes "A-1") beta 100 None)).book

abbrev close_with_gridlock_2 : Book
close_with_gridlock_2 = (order close_with_gridlock_1 beta (says (codes "B-1") gama 100 None)).book

abbrev close_with_gridlock_3 : Book
close_with_gridlock_3 = (order close_with_gridlock_2 gama (says (codes "G-1") alfa 100 None)).book

abbrev close_with_gridlock_4_choice : Choice
close_with_gridlock_4_choice = (everything close_with_gridlock_3)

close_with_gridlock_4_greatest : FindsGreatest → IsGreatest close_with_gridlock_3 close_with_gridlock_4_choice
unfolding computed
close_with_gridlock_4_greatest law = law close_with_gridlock_3 close_with_gridlock_4_choice All (
  record { le = tt },
  (record { le = tt }, (record { le = tt }, tt)),
)

abbrev close_with_gridlock_4 : Book
close_with_gridlock_4 = (close_day close_with_gridlock_3 close_with_gridlock_4_choice monday).book

abbrev close_with_gridlock_5 : Book
close_with_gridlock_5 = (cut_off close_with_gridlock_4 monday).book

abbrev close_with_gridlock_6_choice : Choice
close_with_gridlock_6_choice = (everything close_with_gridlock_5)

close_with_gridlock_6_greatest : FindsGreatest → IsGreatest close_with_gridlock_5 close_with_gridlock_6_choice
unfolding computed
close_with_gridlock_6_greatest law = law close_with_gridlock_5 close_with_gridlock_6_choice All (
  record { le = tt },
  (record { le = tt }, (record { le = tt }, tt)),
)

abbrev close_with_gridlock_6 : Book
close_with_gridlock_6 = (close_day close_with_gridlock_5 close_with_gridlock_6_choice monday).book

abbrev close_with_gridlock_commands : List Command
close_with_gridlock_commands =
    pays alfa beta 100 (codes "A-1") ∷ pays beta gama 100 (codes "B-1") ∷ pays gama alfa 100 (codes "G-1")
    ∷ CloseDay monday ∷ CutOff monday ∷ CloseDay monday ∷ []

abbrev close_with_gridlock_replies : List OwnReply
close_with_gridlock_replies =
    Ok (answer.Queued 1 1) ∷ Ok (answer.Queued 2 1) ∷ Ok (answer.Queued 3 1) ∷ Err refusal.WrongPhase
    ∷ Ok answer.CutOffDone ∷ Err refusal.Resolvable ∷ []

pub close_with_gridlock_comes : FindsGreatest → Comes close_with_gridlock_commands close_with_gridlock_replies
    (pos 0 ∷ pos 0 ∷ pos 0 ∷ [])
unfolding computed
close_with_gridlock_comes law = (
  close_with_gridlock_6,
  as_whole_run start close_with_gridlock_6 close_with_gridlock_commands close_with_gridlock_replies (
    close_with_gridlock_1,
    refl,
    (
      close_with_gridlock_2,
      refl,
      (
        close_with_gridlock_3,
        refl,
        (
          close_with_gridlock_4,
          (close_with_gridlock_4_choice, close_with_gridlock_4_greatest law, refl),
          (
            close_with_gridlock_5,
            refl,
            (
              close_with_gridlock_6,
              (
                close_with_gridlock_6_choice,
                close_with_gridlock_6_greatest law,
                refl,
              ),
              refl,
            ),
          ),
        ),
      ),
    ),
  ) refl,
  refl,
)

-- ---- close with overdraft

abbrev close_with_overdraft_1 : Book
close_with_overdraft_1 = (set_credit start alfa 100).book

abbrev close_with_overdraft_2 : Book
close_with_overdraft_2 = (order close_with_overdraft_1 alfa (says (codes "A-1") beta 100 None)).book

abbrev close_with_overdraft_3 : Book
close_with_overdraft_3 = (order close_with_overdraft_2 alfa (says (codes "A-2") beta 1 None)).book

abbrev close_with_overdraft_4 : Book
close_with_overdraft_4 = (cut_off close_with_overdraft_3 monday).book

abbrev close_with_overdraft_5_choice : Choice
close_with_overdraft_5_choice = (taken_back alfa (everything close_with_overdraft_4))

close_with_overdraft_5_greatest : FindsGreatest → IsGreatest close_with_overdraft_4 close_with_overdraft_5_choice
unfolding computed
close_with_overdraft_5_greatest law = law close_with_overdraft_4 close_with_overdraft_5_choice
    (Without_newest All alfa (inl refl) (record { lt = tt })) (
      record { le = tt },
      (
        record { le = tt },
        (record { le = tt }, tt),
      ),
    )

abbrev close_with_overdraft_5 : Book
close_with_overdraft_5 = (close_day close_with_overdraft_4 close_with_overdraft_5_choice monday).book

abbrev close_with_overdraft_commands : List Command
close_with_overdraft_commands =
    SetCredit alfa 100 ∷ pays alfa beta 100 (codes "A-1") ∷ pays alfa beta 1 (codes "A-2") ∷ CutOff monday
    ∷ CloseDay monday ∷ []

abbrev close_with_overdraft_replies : List OwnReply
close_with_overdraft_replies =
    Ok answer.CreditSet ∷ Ok (answer.Settled 1 1) ∷ Ok (answer.Queued 2 1) ∷ Ok answer.CutOffDone
    ∷ Err (refusal.Overdrawn alfa 1) ∷ []

pub close_with_overdraft_comes : FindsGreatest → Comes close_with_overdraft_commands close_with_overdraft_replies
    (negsuc 99 ∷ pos 100 ∷ pos 0 ∷ [])
unfolding computed
close_with_overdraft_comes law = (
  close_with_overdraft_5,
  as_whole_run start close_with_overdraft_5 close_with_overdraft_commands close_with_overdraft_replies (
    close_with_overdraft_1,
    refl,
    (
      close_with_overdraft_2,
      refl,
      (
        close_with_overdraft_3,
        refl,
        (
          close_with_overdraft_4,
          refl,
          (
            close_with_overdraft_5,
            (
              close_with_overdraft_5_choice,
              close_with_overdraft_5_greatest law,
              refl,
            ),
            refl,
          ),
        ),
      ),
    ),
  ) refl,
  refl,
)

-- ---- first day

abbrev first_day_1_choice : Choice
first_day_1_choice = (everything unopened)

first_day_1_greatest : FindsGreatest → IsGreatest unopened first_day_1_choice
unfolding computed
first_day_1_greatest law = law unopened first_day_1_choice All (
  record { le = tt },
  (
    record { le = tt },
    (record { le = tt }, tt),
  ),
)

abbrev first_day_1 : Book
first_day_1 = (close_day unopened first_day_1_choice monday).book

abbrev first_day_2_choice : Choice
first_day_2_choice = (everything first_day_1)

first_day_2_greatest : FindsGreatest → IsGreatest first_day_1 first_day_2_choice
unfolding computed
first_day_2_greatest law = law first_day_1 first_day_2_choice All (
  record { le = tt },
  (
    record { le = tt },
    (record { le = tt }, tt),
  ),
)

abbrev first_day_2 : Book
first_day_2 = (resolve first_day_1 first_day_2_choice).book

abbrev first_day_3 : Book
first_day_3 = (order first_day_2 alfa (says (codes "A-1") beta 1 None)).book

abbrev first_day_4 : Book
first_day_4 = (open_day first_day_3 (new_day monday false)).book

abbrev first_day_5 : Book
first_day_5 = (order first_day_4 alfa (says (codes "A-1") alfa 1 None)).book

abbrev first_day_6 : Book
first_day_6 = (order first_day_5 alfa (says (codes "A-1") zeta 1 None)).book

abbrev first_day_7 : Book
first_day_7 = (order first_day_6 zeta (says (codes "Z-1") alfa 1 None)).book

abbrev first_day_commands : List Command
first_day_commands =
    CloseDay monday ∷ Resolve ∷ pays alfa beta 1 (codes "A-1") ∷ opens monday false ∷ pays alfa alfa 1 (codes "A-1")
    ∷ pays alfa zeta 1 (codes "A-1") ∷ pays zeta alfa 1 (codes "Z-1") ∷ []

abbrev first_day_replies : List OwnReply
first_day_replies =
    Err refusal.WrongPhase ∷ Err refusal.WrongPhase ∷ Err refusal.NotOpen ∷ Ok answer.Opened ∷ Err refusal.SameParty
    ∷ Err refusal.UnknownReceiver ∷ Err refusal.UnknownParticipant ∷ []

pub first_day_comes : FindsGreatest → ComesFrom unopened first_day_commands first_day_replies
    (pos 0 ∷ pos 0 ∷ pos 0 ∷ [])
unfolding computed
first_day_comes law = (
  first_day_7,
  as_whole_run unopened first_day_7 first_day_commands first_day_replies (
    first_day_1,
    (first_day_1_choice, first_day_1_greatest law, refl),
    (
      first_day_2,
      (
        first_day_2_choice,
        first_day_2_greatest law,
        refl,
      ),
      (
        first_day_3,
        refl,
        (
          first_day_4,
          refl,
          (
            first_day_5,
            refl,
            (
              first_day_6,
              refl,
              (first_day_7, refl, refl),
            ),
          ),
        ),
      ),
    ),
  ) refl,
  refl,
)
