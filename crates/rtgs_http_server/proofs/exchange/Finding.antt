-- What is said of an order that was looked up.
use Rattle.std.proofs.Common.{◌≡◌, ◌≢◌, true, Result, Ok, Err, subst, inl, inr, ap, ◌∙◌}
use Rattle.rtgs_book.specs.declared.book.Book.{Book}
use Rattle.rtgs_book.specs.declared.order.Order.{Order}
use Rattle.rtgs_book.specs.declared.refusal.Refusal.{Refusal}
use Rattle.rtgs_book.specs.declared.refusal.Refusal.TheVariants.{OutOfMemory, StoreFault}
use Rattle.rtgs_keeper.specs.declared.keeper.Keeper.{Ghosts}
use Rattle.rtgs_desk.specs.Holding.{Holds}
use Rattle.rtgs_desk.specs.Readings.{Finds}
use Rattle.rtgs_desk.specs.Seen.{Seen}
use Rattle.rtgs_http_bodies.specs.Refusals.{refused_message}
use Rattle.rtgs_http_bodies.specs.replies.Messages.{Message}
use Rattle.rtgs_http_bodies.specs.desks.Written.{StillHolds}
use Rattle.rtgs_http_server.specs.exchange.ReplyMessages.{IsSaid, result_message, order_message}

-- a look-up does nothing to the book
pub stood_still : {K : Type 0} (g : Ghosts K) (book : Book) (desk : Seen K) (result : Result Order Refusal)
    → (result ≢ Err StoreFault → Holds g desk book)
    → ((found : Book) → g.leaves desk.keeper found → found ≡ book) → g.is_whole desk.keeper
    → (result ≡ Err StoreFault → g.has_failed desk.keeper ≡ true) → StillHolds g book desk
stood_still g book desk result kept left whole fault = record {
  kept = λ works. kept (λ e. let failed = fault e in cc);
  after_a_crash = left;
  whole_after_a_crash = whole;
}

-- where an order was not found for another cause than the store's
pub refused_found : (answer : Result Order Refusal) (refusal : Refusal) (sent : Message) → Finds answer (Err refusal)
    → IsSaid (refused_message refusal) sent → refusal ≢ StoreFault → IsSaid (result_message order_message answer) sent
refused_found answer refusal sent (inl e) said other = subst (λ t. IsSaid (result_message order_message t) sent) e said
refused_found answer refusal sent (inr (known, inl e)) (inl h) other =
    let same : refusal ≡ OutOfMemory = cc in inr (h ∙ ap refused_message same)
refused_found answer refusal sent (inr (known, inl e)) (inr h) other = inr h
refused_found answer refusal sent (inr (known, inr e)) said other =
    let same : refusal ≡ StoreFault = cc in absurd (other same)

pub found_said : (answer : Result Order Refusal) (order : Order) (sent : Message) → Finds answer (Ok order)
    → sent ≡ order_message order → IsSaid (result_message order_message answer) sent
found_said answer order sent (inl e) h = subst (λ t. IsSaid (result_message order_message t) sent) e (inl h)
found_said answer order sent (inr (known, inl e)) h = let no : ⊥ = cc in absurd no
found_said answer order sent (inr (known, inr e)) h = let no : ⊥ = cc in absurd no
