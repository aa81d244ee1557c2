-- What is said of what a desk tells.
use Rattle.std.proofs.Common.{◌≡◌, ◌≢◌, ◌⊎◌, true, false, Bool, Result, Ok, Err, refl, ap, ◌∙◌, subst, inl, inr}
use Rattle.rtgs_book.specs.Session.{is_store_fault}
use Rattle.rtgs_book.specs.declared.book.Book.{Book}
use Rattle.rtgs_book.specs.declared.refusal.Refusal.{Refusal}
use Rattle.rtgs_book.specs.declared.refusal.Refusal.TheVariants.{StoreFault}
use Rattle.rtgs_keeper.specs.declared.keeper.Keeper.{Ghosts}
use Rattle.rtgs_desk.specs.Holding.{Holds}
use Rattle.rtgs_desk.specs.Readings.{Tells}
use Rattle.rtgs_desk.specs.Seen.{Seen}
use Rattle.rtgs_http_bodies.specs.desks.Written.{LeavesBook, StillHolds}
use Rattle.rtgs_http_bodies.specs.Refusals.{refused_message}
use Rattle.rtgs_http_bodies.specs.replies.Messages.{Message}
use Rattle.rtgs_http_server.specs.exchange.Handling.{IsReadOf}
use Rattle.rtgs_http_server.specs.exchange.ReplyMessages.{IsSaid, result_message}

pub refused_said : {X Y : Type 0} (view : Y → X) (answer : Result X Refusal) (refusal : Refusal) (say : X → Message)
    (sent : Message) → Tells view answer (Err refusal) → IsSaid (refused_message refusal) sent
    → IsSaid (result_message say answer) sent
refused_said view (Err other) refusal say sent e h =
    let same : refusal ≡ other = cc in subst (λ r. IsSaid (refused_message r) sent) same h
refused_said view (Ok x) refusal say sent e (inl h) = inr (h ∙ ap refused_message e)
refused_said view (Ok x) refusal say sent e (inr h) = inr h

pub value_said : {X Y : Type 0} (view : Y → X) (answer : Result X Refusal) (y : Y) (say : X → Message) (sent : Message)
    → Tells view answer (Ok y) → sent ≡ say (view y) → IsSaid (result_message say answer) sent
value_said view (Err other) y say sent e h = let no : ⊥ = cc in absurd no
value_said view (Ok x) y say sent e h = inl (h ∙ ap say e)

-- a value that was answered is the one that the book has
pub is_answered : {X Y : Type 0} (view : Y → X) (answer : Result X Refusal) (y : Y) → Tells view answer (Ok y)
    → answer ≡ Ok (view y)
is_answered view (Err other) y e = let no : ⊥ = cc in absurd no
is_answered view (Ok x) y e = cc

-- ---- readings for which the store is asked

store_fault : (refusal : Refusal) → is_store_fault (Err refusal) ≡ true → refusal ≡ StoreFault
store_fault StoreFault e = refl
store_fault refusal e = absurd (cc)

module _ {K V : Type 0} (g : Ghosts K) (old desk : Seen K) (sent : Message) (works : g.has_failed old.keeper ≡ false)
  where
    -- such a reading was refused
    pub refused_read : (wanted : Message) (refusal : Refusal)
        → (◌≡◌ {A = Result V Refusal} (Err refusal) (Err StoreFault)
        → (g.has_failed old.keeper ≡ false) × (g.has_failed desk.keeper ≡ true))
        → (◌≢◌ {A = Result V Refusal} (Err refusal) (Err StoreFault)
        → g.has_failed desk.keeper ≡ g.has_failed old.keeper)
        → (refusal ≢ StoreFault → IsSaid wanted sent) → IsSaid (refused_message refusal) sent
        → IsReadOf g wanted desk sent
    refused_read wanted refusal fault only_fault other_said said = by (is_store_fault (Err refusal)) refl
      where
        by : (b : Bool) → is_store_fault (Err refusal) ≡ b → IsReadOf g wanted desk sent
        by true e =
            let same = store_fault refusal e in
            inr ((fault (ap Err same)).1, subst (λ r. IsSaid (refused_message r) sent) same said)
        by false e =
            let other : refusal ≢ StoreFault = λ f. let h = ap (λ r. is_store_fault (Err r)) f in cc in
            inl (only_fault (λ f. other cc) ∙ works, other_said other)

    -- such a reading was answered
    pub answered_read : (wanted : Message) (v : V)
        → (◌≢◌ {A = Result V Refusal} (Ok v) (Err StoreFault) → g.has_failed desk.keeper ≡ g.has_failed old.keeper)
        → IsSaid wanted sent → IsReadOf g wanted desk sent
    answered_read wanted v only_fault said = inl (only_fault (λ f. cc) ∙ works, said)

module _ {X Y : Type 0} (view : Y → X) (wanted : Result X Refusal) (say : X → Message) (sent : Message)
    (Lost : Type 0) where
  pub refused_text : (refusal : Refusal) → (Lost → refusal ≡ StoreFault) → Tells view wanted (Err refusal) ⊎ Lost
      → IsSaid (refused_message refusal) sent → refusal ≢ StoreFault → IsSaid (result_message say wanted) sent
  refused_text refusal lost (inl answer) said other = refused_said view wanted refusal say sent answer said
  refused_text refusal lost (inr gone) said other = absurd (other (lost gone))

  pub text_said : (y : Y) → (Lost → ⊥) → Tells view wanted (Ok y) ⊎ Lost → sent ≡ say (view y)
      → IsSaid (result_message say wanted) sent
  text_said y lost (inl answer) h = value_said view wanted y say sent answer h
  text_said y lost (inr gone) h = absurd (lost gone)

-- a text that was read leaves the desk as it stood
pub stands_after : {K : Type 0} (g : Ghosts K) (old new : Seen K) (book : Book) → LeavesBook g old new
    → g.is_honest new.keeper → Holds g old book → StillHolds g book new
stands_after g old new book leaves honest held = record {
  kept = λ works. leaves.kept honest book held works;
  after_a_crash = λ found left. (leaves.left honest book held).after_a_crash found left;
  whole_after_a_crash = (leaves.left honest book held).whole_after_a_crash;
}
