-- What a ledger asks of the core that it is given.
use Rattle.std.proofs.Common.{◌≡◌, ◌+◌, ◌<◌, ◌≤◌, List, [], ◌∷◌, map, filter, length, refl, sym, ap, subst}
use Rattle.std.proofs.lemmas.List.{length-map}
use Rattle.std.specs.List.{AllByRecursion, IsDistinct}
use Rattle.std.specs.Str.{bytes_eq}
use Rattle.rtgs_book.specs.declared.book.Book.{Book}
use Rattle.rtgs_book.specs.declared.order.Order.{Order}
use Rattle.rtgs_book.specs.declared.limits.TheConstants.{MOST_PARTICIPANTS}
use Rattle.rtgs_book.specs.declared.participant.Participant.{Participant}
use Rattle.rtgs_book.specs.Books.{is_waiting}
use Rattle.rtgs_book.specs.Lookup.{codes_of}
use Rattle.rtgs_book.specs.Soundness.{OrdersAreNumbered}
use Rattle.rtgs_book.specs.declared.cores.cores.Core.{Core}
use Rattle.rtgs_book.specs.cores.Cores.{account_of, core_of, IsCoreOf}
use Rattle.rtgs_records.specs.accounts.Accounts.{CodesRiseStrictly, AreOfABook, code_of, key_of}
use Rattle.rtgs_records.specs.queues.Orders.{AreRising, AreWaiting}

own_codes : (book : Book) (ps : List Participant) → map code_of (map (account_of book) ps) ≡ map (λ
    (p : Participant). p.code) ps
own_codes book [] = refl
own_codes book (p ∷ ps) = ap (λ cs. p.code ∷ cs) (own_codes book ps)

own_keys : (book : Book) (ps : List Participant) → map key_of (map (account_of book) ps) ≡ map (λ (p : Participant).
    p.key)
    ps
own_keys book [] = refl
own_keys book (p ∷ ps) = ap (λ ks. p.key ∷ ks) (own_keys book ps)

module _ (book : Book) (core : Core) (is : IsCoreOf book core) where
  waits : core.waiting ≡ filter is_waiting book.orders
  unfolding core_of
  waits = ap (λ (c : Core). c.waiting) is.is

  pub in_order : CodesRiseStrictly core.accounts
  unfolding core_of codes_of
  in_order = subst CodesRiseStrictly (sym (ap (λ (c : Core). c.accounts) is.is))
      (rw (own_codes book book.participants) is.sound.codes_rise.0)

  pub of_a_book : AreOfABook core.accounts
  unfolding core_of codes_of
  of_a_book =
      let own : core.accounts ≡ map (account_of book) book.participants = ap (λ (c : Core). c.accounts) is.is in
      record {
        ordered = in_order;
        keys = subst (λ xs. IsDistinct bytes_eq (map key_of xs)) (sym own)
            (rw (own_keys book book.participants) is.sound.keys_distinct);
        few = subst (λ xs. length xs ≤ MOST_PARTICIPANTS) (sym own)
            (rw (length-map book.participants (account_of book))
            (rw (length-map book.participants (λ (p : Participant). p.code)) at is.sound.codes_rise.1));
      }

  pub rising : ((b : Book) → OrdersAreNumbered b → AreRising (filter is_waiting b.orders)) → AreRising core.waiting
  rising law = subst AreRising (sym waits) (law book is.sound.orders_numbered)

  pub before : ((b : Book) → OrdersAreNumbered b
      → AllByRecursion (λ (o : Order). o.number < length b.orders + 1) (filter is_waiting b.orders))
      → AllByRecursion (λ (o : Order). o.number < core.next_order) core.waiting
  unfolding core_of
  before law =
      let next : core.next_order ≡ length book.orders + 1 = ap (λ (c : Core). c.next_order) is.is in
      subst (AllByRecursion (λ (o : Order). o.number < core.next_order)) (sym waits)
      (subst (λ n. AllByRecursion (λ (o : Order). o.number < n) (filter is_waiting book.orders)) (sym next)
      (law book is.sound.orders_numbered))

  pub waiting : ((b : Book) → AreWaiting (filter is_waiting b.orders)) → AreWaiting core.waiting
  waiting law = subst AreWaiting (sym waits) (law book)
