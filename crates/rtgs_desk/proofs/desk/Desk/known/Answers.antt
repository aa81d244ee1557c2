use Rattle.std.proofs.Common.{◌≡◌, ◌∙◌, List, ℕ, Option, Some, None, Ok, Err, refl, subst, option_map}
use Rattle.std.specs.Prelude.{IfSome, ok_or}
use Rattle.rtgs_book.specs.declared.account.Account.{Account}
use Rattle.rtgs_book.specs.declared.book.Book.{Book}
use Rattle.rtgs_book.specs.declared.participant.Participant.{Participant}
use Rattle.rtgs_book.specs.declared.refusal.Refusal.TheVariants.{UnknownParticipant}
use Rattle.rtgs_book.specs.Balance.{balance}
use Rattle.rtgs_book.specs.Lookup as lookup
use Rattle.rtgs_book.specs.cores.Following.{participant_in}
use Rattle.rtgs_desk.specs.Readings.{account_known, if_known}
use Rattle.rtgs_desk.proofs.HoldingLemmas.{core_remembered}
use Rattle.rtgs_desk.proofs.desk.Desk.known.Goals as goal

-- an account with its participant and balance is what is known of the code
known_account : (book : Book) (code : List ℕ) (found : Option Account)
    → option_map participant_in found ≡ lookup.participant_of book code
    → IfSome found (λ (a : Account). a.balance ≡ balance book code)
    → ok_or found UnknownParticipant ≡ account_known book code
known_account book code None e is = subst (λ (o : Option Participant). Err UnknownParticipant ≡ if_known {X = Account} o
    (λ participant. Ok (record { participant = participant; balance = balance book code }))) e refl
known_account book code (Some a) e is = subst (λ (o : Option Participant). Ok a ≡ if_known {X = Account} o
    (λ participant. Ok (record { participant = participant; balance = balance book code }))) e
    (λ i. Ok (record { participant = a.participant; balance = is i }))

pub returns-clause-answered : goal.returns-clause-answered
returns-clause-answered g c book memory works =
    let core = core_remembered c.self.inside.keeper c.self.inside.ledger.core c.args.self.now book c.self.view_is memory
    in
    c.ok_or.ensures.value ∙ known_account book c.args.code.now c.account.result (c.account.ensures.participant book
    core)
    (c.account.ensures.balance book core)
