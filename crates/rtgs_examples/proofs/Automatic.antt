-- The examples of automatic days, computed.
use Rattle.std.proofs.Common.{pos, [], ◌∷◌, true, Some, None, Ok, codes, refl, inl, inr}
use Rattle.rtgs_book.specs.declared.command.Command.TheVariants.{Post, Resolve, CutOff, CloseDay}
use Rattle.rtgs_book.specs.declared.answer.Answer.TheVariants as answer
use Rattle.rtgs_book.specs.declared.book.Book.{Book}
use Rattle.rtgs_book.specs.Choice.{Choice, IsGreatest}
use Rattle.rtgs_book.specs.Commands.{order, resolve, post, open_day, cut_off, close_day}
use Rattle.rtgs_book.specs.Outcome.{Outcome, alone}
use Rattle.rtgs_book.specs.Procedure.{everything, taken_back, All, Without_newest}
use Rattle.rtgs_examples.specs.Examples.{alfa, beta, gama, monday, tuesday, start, automatic_start, opens, new_day}
use Rattle.rtgs_examples.specs.Examples.{pays, pays_on}
use Rattle.rtgs_examples.specs.Examples.{says, and_settles, ComesWholeFrom}
use Rattle.rtgs_examples.proofs.Computed.{computed, FindsGreatest}

-- ---- a ring that its last order closes

abbrev ring_1 : Outcome
ring_1 = order automatic_start alfa (says (codes "A-1") beta 100 None)

abbrev ring_1_choice : Choice
ring_1_choice = taken_back alfa (everything ring_1.book)

ring_1_greatest : FindsGreatest → IsGreatest ring_1.book ring_1_choice
unfolding computed
ring_1_greatest law = law ring_1.book ring_1_choice
    (Without_newest All alfa (inl refl) (record { lt = tt }))
    (record { le = tt }, (record { le = tt }, (record { le = tt }, tt)))

abbrev ring_2 : Outcome
ring_2 = order ring_1.book beta (says (codes "B-1") gama 100 None)

abbrev ring_2_choice : Choice
ring_2_choice = taken_back beta (taken_back alfa (everything ring_2.book))

ring_2_greatest : FindsGreatest → IsGreatest ring_2.book ring_2_choice
unfolding computed
ring_2_greatest law = law ring_2.book ring_2_choice
    (Without_newest (Without_newest All alfa (inl refl) (record { lt = tt })) beta (inr (inl refl))
    (record { lt = tt }))
    (record { le = tt }, (record { le = tt }, (record { le = tt }, tt)))

abbrev ring_3 : Outcome
ring_3 = order ring_2.book gama (says (codes "G-1") alfa 100 None)

abbrev ring_3_choice : Choice
ring_3_choice = everything ring_3.book

ring_3_greatest : FindsGreatest → IsGreatest ring_3.book ring_3_choice
unfolding computed
ring_3_greatest law = law ring_3.book ring_3_choice
    All
    (record { le = tt }, (record { le = tt }, (record { le = tt }, tt)))

abbrev ring_resolved : Book
ring_resolved = (resolve ring_3.book ring_3_choice).book

abbrev ring_4_choice : Choice
ring_4_choice = everything ring_resolved

ring_4_greatest : FindsGreatest → IsGreatest ring_resolved ring_4_choice
unfolding computed
ring_4_greatest law = law ring_resolved ring_4_choice
    All
    (record { le = tt }, (record { le = tt }, (record { le = tt }, tt)))

pub order_closes_a_ring_comes : FindsGreatest → ComesWholeFrom automatic_start
    (pays alfa beta 100 (codes "A-1") ∷ pays beta gama 100 (codes "B-1") ∷ pays gama alfa 100 (codes "G-1") ∷ Resolve
    ∷ [])
    (alone (Ok (answer.Queued 1 1)) ∷ alone (Ok (answer.Queued 2 1))
    ∷ and_settles (Ok (answer.Queued 3 1)) 1 3 (pos 300) ∷ alone (Ok answer.Nothing) ∷ [])
    (pos 0 ∷ pos 0 ∷ pos 0 ∷ [])
unfolding computed
order_closes_a_ring_comes law = (
  ring_resolved,
  (
    ring_1.book,
    (ring_1, refl, (Ok answer.Nothing, (ring_1_choice, ring_1_greatest law, refl), refl)),
    (
      ring_2.book,
      (ring_2, refl, (Ok answer.Nothing, (ring_2_choice, ring_2_greatest law, refl), refl)),
      (
        ring_resolved,
        (ring_3, refl, (Ok (answer.Resolved 1 3 (pos 300)), (ring_3_choice, ring_3_greatest law, refl), refl)),
        (
          ring_resolved,
          (resolve ring_resolved ring_4_choice, (ring_4_choice, ring_4_greatest law, refl), (refl, refl)),
          refl,
        ),
      ),
    ),
  ),
  refl,
)

-- ---- an order that settles at once, and what it frees

abbrev two_1 : Outcome
two_1 = post automatic_start beta (codes "P-1") (pos 30)

abbrev two_1_choice : Choice
two_1_choice = everything two_1.book

two_1_greatest : FindsGreatest → IsGreatest two_1.book two_1_choice
unfolding computed
two_1_greatest law = law two_1.book two_1_choice
    All
    (record { le = tt }, (record { le = tt }, (record { le = tt }, tt)))

abbrev two_2 : Outcome
two_2 = order two_1.book alfa (says (codes "A-1") gama 20 None)

abbrev two_2_choice : Choice
two_2_choice = taken_back alfa (everything two_2.book)

two_2_greatest : FindsGreatest → IsGreatest two_2.book two_2_choice
unfolding computed
two_2_greatest law = law two_2.book two_2_choice
    (Without_newest All alfa (inl refl) (record { lt = tt }))
    (record { le = tt }, (record { le = tt }, (record { le = tt }, tt)))

abbrev two_3 : Outcome
two_3 = order two_2.book beta (says (codes "B-1") alfa 30 None)

abbrev two_3_choice : Choice
two_3_choice = everything two_3.book

two_3_greatest : FindsGreatest → IsGreatest two_3.book two_3_choice
unfolding computed
two_3_greatest law = law two_3.book two_3_choice
    All
    (record { le = tt }, (record { le = tt }, (record { le = tt }, tt)))

abbrev two_resolved : Book
two_resolved = (resolve two_3.book two_3_choice).book

pub order_frees_another_comes : FindsGreatest → ComesWholeFrom automatic_start
    (Post beta (codes "P-1") (pos 30) ∷ pays alfa gama 20 (codes "A-1") ∷ pays beta alfa 30 (codes "B-1") ∷ [])
    (alone (Ok (answer.Posted 1)) ∷ alone (Ok (answer.Queued 1 1)) ∷ and_settles (Ok (answer.Settled 2 1)) 2 1 (pos 20)
    ∷ [])
    (pos 10 ∷ pos 0 ∷ pos 20 ∷ [])
unfolding computed
order_frees_another_comes law = (
  two_resolved,
  (
    two_1.book,
    (two_1, refl, (Ok answer.Nothing, (two_1_choice, two_1_greatest law, refl), refl)),
    (
      two_2.book,
      (two_2, refl, (Ok answer.Nothing, (two_2_choice, two_2_greatest law, refl), refl)),
      (
        two_resolved,
        (two_3, refl, (Ok (answer.Resolved 2 1 (pos 20)), (two_3_choice, two_3_greatest law, refl), refl)),
        refl,
      ),
    ),
  ),
  refl,
)

-- ---- a due order that settles at the opening

abbrev due_1 : Outcome
due_1 = post start alfa (codes "P-1") (pos 60)

abbrev due_2 : Outcome
due_2 = order due_1.book alfa (says (codes "A-1") beta 60 (Some tuesday))

abbrev due_3 : Outcome
due_3 = cut_off due_2.book monday

abbrev due_4_choice : Choice
due_4_choice = everything due_3.book

due_4_greatest : FindsGreatest → IsGreatest due_3.book due_4_choice
unfolding computed
due_4_greatest law = law due_3.book due_4_choice
    All
    (record { le = tt }, (record { le = tt }, (record { le = tt }, tt)))

abbrev due_4 : Outcome
due_4 = close_day due_3.book due_4_choice monday

abbrev due_5 : Outcome
due_5 = open_day due_4.book (new_day tuesday true)

abbrev due_5_choice : Choice
due_5_choice = everything due_5.book

due_5_greatest : FindsGreatest → IsGreatest due_5.book due_5_choice
unfolding computed
due_5_greatest law = law due_5.book due_5_choice
    All
    (record { le = tt }, (record { le = tt }, (record { le = tt }, tt)))

abbrev due_resolved : Book
due_resolved = (resolve due_5.book due_5_choice).book

pub due_order_settles_at_the_opening_comes : FindsGreatest → ComesWholeFrom start
    (Post alfa (codes "P-1") (pos 60) ∷ pays_on tuesday alfa beta 60 (codes "A-1") ∷ CutOff monday ∷ CloseDay monday
    ∷ opens tuesday true ∷ [])
    (alone (Ok (answer.Posted 1)) ∷ alone (Ok (answer.Held 1 tuesday)) ∷ alone (Ok answer.CutOffDone)
    ∷ alone (Ok (answer.Closed 0)) ∷ and_settles (Ok answer.Opened) 1 1 (pos 60) ∷ [])
    (pos 0 ∷ pos 60 ∷ pos 0 ∷ [])
unfolding computed
due_order_settles_at_the_opening_comes law = (
  due_resolved,
  (
    due_1.book,
    (due_1, refl, (refl, refl)),
    (
      due_2.book,
      (due_2, refl, (refl, refl)),
      (
        due_3.book,
        (due_3, refl, (refl, refl)),
        (
          due_4.book,
          (due_4, (due_4_choice, due_4_greatest law, refl), (refl, refl)),
          (
            due_resolved,
            (due_5, refl, (Ok (answer.Resolved 1 1 (pos 60)), (due_5_choice, due_5_greatest law, refl), refl)),
            refl,
          ),
        ),
      ),
    ),
  ),
  refl,
)
