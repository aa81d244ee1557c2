use Rattle.std.proofs.Common.{◌≡◌, ◌∙◌, length, refl, sym, ap, true≢false, arith}
use Rattle.std.proofs.lemmas.Bool.Decides.{nat_tests}
use Rattle.rtgs_book.specs.declared.book.Book.{Book}
use Rattle.rtgs_book.specs.Books.{is_automatic, is_empty}
use Rattle.rtgs_book.specs.Choice.{Choice, chosen}
use Rattle.rtgs_ledger.proofs.Resolving.{none_chosen, none_taken}
use Rattle.rtgs_ledger.proofs.Whole.{is_of_book}
use Rattle.rtgs_ledger.proofs.ledger.Ledger.is_calm.Goals as goal

pub returns-then-not-is_automatic : goal.returns-then-not-is_automatic
returns-then-not-is_automatic c book is =
    let of = is_of_book book c.self.inside.records c.args.self.now c.self.view_is is in
    let day = ap (λ (b : Book). is_automatic b.day) of.same in (
      λ _ automatic. absurd (true≢false (sym automatic ∙ sym day ∙ sym c.is_automatic.ensures
          ∙ c.if-not-is_automatic.true)),
      λ _. refl,
    )

pub returns : goal.returns
returns c book is =
    let of = is_of_book book c.self.inside.records c.args.self.now c.self.view_is is in
    let day = ap (λ (b : Book). is_automatic b.day) of.same in
    let g = c.in_ok-orders.ensures book is in
    let orders = c.in_ok-orders.orders.items in (
      λ empty automatic choice greatest.
          let test = sym c.is_empty.ensures ∙ empty in
          let none : length orders ≡ 0 = grind (arith, nat_tests, c.in_ok-orders.orders.ok.0) in
          ap (λ (k : Choice). is_empty (chosen book k))
          (c.greatest_is_unique.ensures book choice g.choice greatest g.greatest)
          ∙ none_chosen c.chosen_numbers.ensures.count c.taken_are_chosen.ensures.numbers book orders g is.sound none,
      λ calm.
          let none = none_taken c.chosen_numbers.ensures.count c.taken_are_chosen.ensures.numbers book orders g is.sound
          (calm (sym day ∙ sym c.is_automatic.ensures ∙ c.if-not-is_automatic.false)
          g.choice g.greatest) in
          c.is_empty.ensures ∙ grind (arith, nat_tests, none, c.in_ok-orders.orders.ok.0),
    )
