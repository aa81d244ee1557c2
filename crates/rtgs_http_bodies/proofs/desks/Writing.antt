-- What a writer holds after a text.
use Rattle.std.proofs.Common.{◌≡◌, ◌≢◌, ◌<◌, ◌⊎◌, ℕ, [], List, length, Option, Some, None, Result, Ok, Err, OnOk, OnErr}
use Rattle.std.proofs.Common.{IfSome, IfErr, refl, sym, ap, subst, inl, inr}
use Rattle.std.proofs.lemmas.List.{append-nil}
use Rattle.std.specs.Prelude.{⊤, ok_or}
use Rattle.std.specs.Io.KnownBytes.{Appends}
use Rattle.rtgs_book.specs.declared.order.Order.{Order}
use Rattle.rtgs_book.specs.declared.participant.Participant.{Participant}
use Rattle.rtgs_book.specs.declared.refusal.Refusal.{Refusal}
use Rattle.rtgs_book.specs.declared.refusal.Refusal.TheVariants.{OutOfMemory, StoreFault, UnknownParticipant}
use Rattle.rtgs_book.specs.declared.refusal.Refusal.TheVariants.{UnknownOrder}
use Rattle.serde_json.specs.Data.{Data}
use Rattle.rtgs_desk.specs.Readings.{Tells, Finds, if_known}
use Rattle.rtgs_output.specs.Sent.{AppendsPart}
use Rattle.rtgs_statements.specs.Reads.{read_refused_by}
use Rattle.rtgs_statements.specs.declared.BookTextFault.{BookTextFault}
use Rattle.rtgs_statements.specs.declared.BookTextFault.TheVariants.{Refused, Text}
use Rattle.rtgs_http_bodies.specs.desks.Readings.{json_line}
use Rattle.rtgs_http_bodies.specs.desks.Written.{Writes}

appends-none : (old : Option (List ℕ)) → Appends old old []
appends-none None = tt
appends-none (Some bytes) = sym (append-nil bytes)

module _ {X : Type 0} (old : Option (List ℕ)) (text : List ℕ) (account : Participant → X) where
  pub refused_account : (known : Option Participant) (refusal : Refusal) → 0 < length text
      → Tells {X = X} {Y = X} (λ a. a) (if_known known (λ p. Ok (account p))) (Err refusal)
      → Writes old (if_known known (λ p. Ok text)) (Err (Refused refusal)) old
  refused_account None refusal some answered =
      let same : refusal ≡ UnknownParticipant = cc in (ap (λ r. Err (Refused r)) same, refl)
  refused_account (Some p) refusal some answered = (inl answered, (0, some, appends-none old))

  -- an account that was answered
  pub known_account : (known : Option Participant) (a : X) (result : Result ⊤ BookTextFault) (new : Option (List ℕ))
      → Tells {X = X} {Y = X} (λ a. a) (if_known known (λ p. Ok (account p))) (Ok a) → Writes old (Ok text) result new
      → Writes old (if_known known (λ p. Ok text)) result new
  known_account None a result new answered writes = let no : ⊥ = cc in absurd no
  known_account (Some p) a result new answered writes = writes

pub written : (old new : Option (List ℕ)) (text : List ℕ) (result : Result ⊤ BookTextFault)
    → OnOk result (Appends old new text) → OnErr result (AppendsPart old new text)
    → IfSome (read_refused_by result) (λ refusal. (refusal ≡ OutOfMemory) ⊎ (refusal ≡ StoreFault))
    → Writes old (Ok text) result new
written old new text (Ok done) whole part kinds = whole
written old new text (Err (Refused refusal)) whole part kinds = (kinds, part)
written old new text (Err (Text fault)) whole part kinds = part

-- what is said of a refusal is said of this one
pub refusal_says : {V P : Type 0} (result : Result V BookTextFault) (refusal : Refusal)
    → IfErr result (λ fault. fault ≡ Refused refusal → P) → result ≡ Err (Refused refusal) → P
refusal_says (Ok v) refusal says is = let no : ⊥ = cc in absurd no
refusal_says (Err fault) refusal says is = says cc

-- an order that was not found
pub refused_order : {V F : Type 0} (text_of : V → List ℕ) (value_of : Order → Data) (known : Option Participant)
    (named : Option Order) (refusal : Refusal) → Finds (if_known known (λ p. ok_or named UnknownOrder)) (Err refusal)
    → (refusal ≡ StoreFault → F)
    → Tells {Y = V} text_of (json_line value_of (if_known known (λ p. ok_or named UnknownOrder))) (Err refusal)
    ⊎ ((known ≢ None) × (◌≡◌ {A = Result V Refusal} (Err refusal) (Err OutOfMemory)
    ⊎ (F × ◌≡◌ {A = Result V Refusal} (Err refusal) (Err StoreFault))))
refused_order text_of value_of known named refusal (inl is) fault =
    inl (subst (λ answered. Tells text_of (json_line value_of answered) (Err refusal)) is refl)
refused_order text_of value_of known named refusal (inr (some, inl is)) fault =
    let same : refusal ≡ OutOfMemory = cc in
    inr ((λ none. some (ap (λ o. if_known o (λ p. ok_or named UnknownOrder)) none)), inl (ap Err same))
refused_order text_of value_of known named refusal (inr (some, inr is)) fault =
    let same : refusal ≡ StoreFault = cc in
    inr ((λ none. some (ap (λ o. if_known o (λ p. ok_or named UnknownOrder)) none)), inr (fault same, ap Err same))
