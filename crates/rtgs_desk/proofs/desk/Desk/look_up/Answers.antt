use Rattle.std.proofs.Common.{◌≡◌, ◌≢◌, ◌∙◌, ℕ, ℤ, List, Option, None, refl, ap, sym, subst}
use Rattle.rtgs_book.specs.declared.book.Book.{Book}
use Rattle.rtgs_book.specs.declared.command.Command.{Command}
use Rattle.rtgs_book.specs.declared.command.Command.TheVariants as command
use Rattle.rtgs_book.specs.declared.new_order.NewOrder.{NewOrder}
use Rattle.rtgs_book.specs.declared.order.Order.{Order}
use Rattle.rtgs_book.specs.declared.posting.Posting.{Posting}
use Rattle.rtgs_book.specs.Lookup.{order_named, posting_named}
use Rattle.rtgs_book.specs.cores.Cores.{found_for}
use Rattle.rtgs_desk.specs.LookUps.{LooksUp}
use Rattle.rtgs_desk.specs.Seen.{Seen}
use Rattle.rtgs_desk.proofs.LookUpLemmas.{failed_before, looks_at_nothing}
use Rattle.rtgs_desk.proofs.desk.Desk.look_up.Goals as goal
use Rattle.rtgs_desk.proofs.desk.Desk.look_up.Goals.{in-Order+in_ok-found-in-Order, in-Withdraw+in_ok-found-in-Withdraw}
use Rattle.rtgs_desk.proofs.desk.Desk.look_up.Goals.{in-Post+in_ok-found-in-Post, in_default}

-- what was found for each kind of command
found_posting : (book : Book) (code reference : List ℕ) (cents : ℤ) (posting : Option Posting)
    → posting ≡ posting_named book reference
    → record { order = None; posting = posting } ≡ found_for book (command.Post code reference cents)
unfolding found_for
found_posting book code reference cents posting e = λ i. record { order = None; posting = e i }

found_order : (book : Book) (sender : List ℕ) (new_order : NewOrder) (order : Option Order)
    → order ≡ order_named book sender new_order.reference
    → record { order = order; posting = None } ≡ found_for book (command.Order sender new_order)
unfolding found_for
found_order book sender new_order order e = λ i. record { order = e i; posting = None }

found_withdrawn : (book : Book) (sender reference : List ℕ) (order : Option Order)
    → order ≡ order_named book sender reference
    → record { order = order; posting = None } ≡ found_for book (command.Withdraw sender reference)
unfolding found_for
found_withdrawn book sender reference order e = λ i. record { order = e i; posting = None }

found_nothing : (book : Book) (c : Command)
    → ((code reference : List ℕ) (cents : ℤ) → c ≢ command.Post code reference cents)
    → ((sender : List ℕ) (new_order : NewOrder) → c ≢ command.Order sender new_order)
    → ((sender reference : List ℕ) → c ≢ command.Withdraw sender reference)
    → record { order = None; posting = None } ≡ found_for book c
unfolding found_for
found_nothing book (command.Post code reference cents) post order withdraw = absurd (post code reference cents refl)
found_nothing book (command.Order sender new_order) post order withdraw = absurd (order sender new_order refl)
found_nothing book (command.Withdraw sender reference) post order withdraw = absurd (withdraw sender reference refl)
found_nothing book (command.Add code name key) post order withdraw = refl
found_nothing book (command.SetCredit code credit) post order withdraw = refl
found_nothing book (command.OpenDay new_day) post order withdraw = refl
found_nothing book command.Resolve post order withdraw = refl
found_nothing book (command.CutOff date) post order withdraw = refl
found_nothing book (command.CloseDay date) post order withdraw = refl

pub returns-then-self-clause-looked : goal.returns-then-self-clause-looked
returns-then-self-clause-looked g c = failed_before g.K.Keeper g.met.K.Keeper.still
    c.self.inside.keeper c.self.inside.ledger.core
    c.args.self.now c.self.inside.failed c.self.view_is c.self.invariant c.if-self.true

pub returns-clause-looked : goal.returns-clause-looked
returns-clause-looked g c = elim c.match-command.branch [
  | in-Order+in_ok-found-in-Order w ↦ subst
      (λ (s : Seen g.row.K.Denot). LooksUp g.K.Keeper c.args.self.now s None) (sym w.self-is)
      w.in_ok-found-in-Order.ensures.looked
  | in-Withdraw+in_ok-found-in-Withdraw w ↦ subst
      (λ (s : Seen g.row.K.Denot). LooksUp g.K.Keeper c.args.self.now s None) (sym w.self-is)
      w.in_ok-found-in-Withdraw.ensures.looked
  | in-Post+in_ok-found-in-Post w ↦ subst
      (λ (s : Seen g.row.K.Denot). LooksUp g.K.Keeper c.args.self.now s None) (sym w.self-is)
      w.in_ok-found-in-Post.ensures.looked
  | in_default w ↦ subst (λ (s : Seen g.row.K.Denot). LooksUp g.K.Keeper c.args.self.now s None) (sym w.self-is)
      (looks_at_nothing g.K.Keeper g.met.K.Keeper.still
      c.self.inside.keeper c.self.inside.ledger.core c.args.self.now c.self.inside.failed c.self.view_is
      c.self.invariant
      c.if-self.false)
]

pub returns-clause-found : goal.returns-clause-found
returns-clause-found g c honest book held = elim c.match-command.branch [
  | in-Order+in_ok-found-in-Order w ↦
      let found = w.in_ok-found-in-Order.ensures.found
      (subst (λ (s : Seen g.row.K.Denot). g.K.Keeper.is_honest s.keeper) w.self-is honest) book held in
      w.found-is ∙ found_order book w.in-Order.sender w.in-Order.order w.in_ok-found-in-Order.field-0 found
      ∙ ap (found_for book) (sym w.in-Order.is)
  | in-Withdraw+in_ok-found-in-Withdraw w ↦
      let found = w.in_ok-found-in-Withdraw.ensures.found
      (subst (λ (s : Seen g.row.K.Denot). g.K.Keeper.is_honest s.keeper) w.self-is honest) book held in
      w.found-is ∙ found_withdrawn book w.in-Withdraw.sender w.in-Withdraw.reference w.in_ok-found-in-Withdraw.field-0
      found ∙ ap (found_for book) (sym w.in-Withdraw.is)
  | in-Post+in_ok-found-in-Post w ↦
      let found = w.in_ok-found-in-Post.ensures.found
      (subst (λ (s : Seen g.row.K.Denot). g.K.Keeper.is_honest s.keeper) w.self-is honest) book held in
      w.found-is ∙ found_posting book w.in-Post.code w.in-Post.reference w.in-Post.cents w.in_ok-found-in-Post.field-0
      found
      ∙ ap (found_for book) (sym w.in-Post.is)
  | in_default w ↦ w.found-is ∙ found_nothing book c.args.command.now w.in_default.not-Post w.in_default.not-Order
      w.in_default.not-Withdraw
]
