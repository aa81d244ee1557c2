-- Whose key a desk tells.
use Rattle.std.proofs.Common.{◌≡◌, true, false, Bool, ℕ, List, Option, Result, Ok, Err, refl, sym, ap, ◌∙◌}
use Rattle.rtgs_book.specs.declared.book.Book.{Book}
use Rattle.rtgs_book.specs.declared.refusal.Refusal.{Refusal}
use Rattle.rtgs_book.specs.declared.refusal.Refusal.TheVariants.{Failed}
use Rattle.rtgs_keeper.specs.declared.Keeper.{Ghosts}
use Rattle.rtgs_ledger.specs.Keys.{code_under}
use Rattle.rtgs_desk.specs.Holding.{HasParticipants}
use Rattle.rtgs_desk.specs.Seen.{Seen}
use Rattle.rtgs_http_server.specs.input.Known.{KnowsOf}

answers_work : (failed : Bool) (result : Result (Option (List ℕ)) Refusal) (code : Option (List ℕ)) → result ≡ Ok code
    → (failed ≡ true → result ≡ Err Failed) → failed ≡ false
answers_work false result code e h = refl
answers_work true result code e h = let f = h refl in let no : ⊥ = cc in absurd no

-- what an open desk tells is of the book that it has in memory
pub believed : {K : Type 0} (g : Ghosts K) (desk : Seen K) (digest : List ℕ) (result : Result (Option (List ℕ)) Refusal)
    (code : Option (List ℕ)) (code_of : List ℕ → Option (List ℕ)) → result ≡ Ok code
    → ((book : Book) → HasParticipants desk book → g.has_failed desk.keeper ≡ false → result ≡ Ok
    (code_under book digest))
    → (g.has_failed desk.keeper ≡ true → result ≡ Err Failed) → KnowsOf g desk code_of → code ≡ code_of digest
believed g desk digest result code code_of is remembered failed known =
    let works = answers_work (g.has_failed desk.keeper) result code is failed in
    let memory = known works in
    let e = remembered memory.0 memory.1 works in
    let same : code ≡ code_under memory.0 digest = cc in
    same ∙ sym (ap (λ (f : List ℕ → Option (List ℕ)). f digest) memory.2)
