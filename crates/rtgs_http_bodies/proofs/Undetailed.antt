-- Refusals whose value has no more than the number and the name.
use Rattle.std.proofs.Common.{◌≡◌, ℕ, List, refl}
use Rattle.rtgs_book.specs.Refusals.{refusal_kind_of}
use Rattle.rtgs_book.specs.declared.refusal.Refusal.{Refusal}
use Rattle.rtgs_book.specs.declared.refusal.Refusal.TheVariants.{UnknownParticipant, UnknownReceiver, SameParty}
use Rattle.rtgs_book.specs.declared.refusal.Refusal.TheVariants.{ReferenceUsed, NotOpen, NoCover, QueueFull}
use Rattle.rtgs_book.specs.declared.refusal.Refusal.TheVariants.{NumbersUsedUp, UnknownOrder, CodeTaken, KeyTaken}
use Rattle.rtgs_book.specs.declared.refusal.Refusal.TheVariants.{TooManyParticipants, TotalTooLarge, WrongPhase}
use Rattle.rtgs_book.specs.declared.refusal.Refusal.TheVariants.{WrongDate, Weekend, NotQueued, Resolvable, Overdrawn}
use Rattle.rtgs_book.specs.declared.refusal.Refusal.TheVariants.{DueNotLater}
use Rattle.rtgs_book.specs.declared.refusal.Refusal.TheVariants.{OutOfMemory, StoreFault, Failed}
use Rattle.rtgs_http_bodies.specs.replies.Kinds.{kind_data}
use Rattle.rtgs_http_bodies.specs.Refusals.{refused_data}

pub undetailed : (refusal : Refusal) → ((first : List ℕ) (count : ℕ) → refusal ≡ Overdrawn first count → ⊥)
    → kind_data (refusal_kind_of refusal) ≡ refused_data refusal
undetailed UnknownParticipant other = refl
undetailed UnknownReceiver other = refl
undetailed SameParty other = refl
undetailed ReferenceUsed other = refl
undetailed NotOpen other = refl
undetailed NoCover other = refl
undetailed QueueFull other = refl
undetailed NumbersUsedUp other = refl
undetailed UnknownOrder other = refl
undetailed CodeTaken other = refl
undetailed KeyTaken other = refl
undetailed TooManyParticipants other = refl
undetailed TotalTooLarge other = refl
undetailed WrongPhase other = refl
undetailed WrongDate other = refl
undetailed Weekend other = refl
undetailed NotQueued other = refl
undetailed Resolvable other = refl
undetailed (Overdrawn first count) other = absurd (other first count refl)
undetailed DueNotLater other = refl
undetailed OutOfMemory other = refl
undetailed StoreFault other = refl
undetailed Failed other = refl
