use Rattle.std.proofs.Common.{◌∙◌, ℕ, List, map, sym, ap}
use Rattle.std.proofs.lemmas.List.Sorted.{IsPermutation-map}
use Rattle.rtgs_book.specs.declared.participant.Participant.{Participant}
use Rattle.rtgs_book.specs.declared.posting.Posting.{Posting}
use Rattle.rtgs_book.specs.Balance.{balance, total, issued}
use Rattle.rtgs_book.specs.IntSum.{int_sum_by}
use Rattle.rtgs_book.specs.Lookup.{codes_of}
use Rattle.rtgs_rows.specs.Content.{Holding}
use Rattle.rtgs_rows.proofs.Money.{int_sum_by-permuted, stored_sum}
use Rattle.rtgs_rows.proofs.laws.stored_balances_are_the_postings.Goals as goal

pub returns : goal.returns
unfolding total issued codes_of
returns c book content of =
    let code : Participant → List ℕ = λ p. p.code in
    let who = map (λ (h : Holding). h.participant) content.holdings in
    stored_sum book content.holdings of.balances
    ∙ sym (int_sum_by-permuted (balance book) (map code who) (map code book.participants)
    (IsPermutation-map code who book.participants of.records.participants))
    ∙ c.total_is_issued.ensures book of.sound.codes_rise of.sound.parties
    ∙ ap (int_sum_by (λ (p : Posting). p.cents)) (sym of.records.lists.postings)
