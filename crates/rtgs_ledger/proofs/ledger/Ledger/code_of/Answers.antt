use Rattle.std.proofs.Common.{◌≡◌, ◌∙◌, sym, ap, map, List, find}
use Rattle.std.specs.Option.{option_map}
use Rattle.rtgs_book.specs.declared.participant.Participant.{Participant}
use Rattle.rtgs_records.specs.accounts.Accounts.{code_of, participant_in}
use Rattle.rtgs_records.specs.Held.{Held}
use Rattle.rtgs_ledger.specs.Keys.{is_key_of}
use Rattle.rtgs_ledger.proofs.Keys.{code_of-bearer}
use Rattle.rtgs_ledger.proofs.ledger.Ledger.code_of.Goals as goal

pub returns-in-Some : goal.returns-in-Some
returns-in-Some c book same =
    let r = c.self.inside.records in
    let own : map participant_in r.accounts.accounts ≡ book.participants =
    ap (λ (h : Held). map participant_in h.core.accounts) c.self.view_is ∙ same in
    ap (option_map code_of) (sym c.in-Some.is ∙ c.bearer.ensures)
    ∙ sym (code_of-bearer c.args.digest.now r.accounts.accounts)
    ∙ ap (λ (ps : List Participant). option_map (λ (p : Participant). p.code) (find (is_key_of c.args.digest.now) ps))
    own

pub returns-in-None : goal.returns-in-None
returns-in-None c book same =
    let r = c.self.inside.records in
    let own : map participant_in r.accounts.accounts ≡ book.participants =
    ap (λ (h : Held). map participant_in h.core.accounts) c.self.view_is ∙ same in
    ap (option_map code_of) (sym c.in-None.is ∙ c.bearer.ensures)
    ∙ sym (code_of-bearer c.args.digest.now r.accounts.accounts)
    ∙ ap (λ (ps : List Participant). option_map (λ (p : Participant). p.code) (find (is_key_of c.args.digest.now) ps))
    own
