-- An order among others, as the resolver is given its queue with it and without.
use Rattle.std.proofs.Common.{◌≡◌, ℕ, ◌<◌, Bool, true, false, cond, ◌&&◌, List, [], ◌∷◌, ◌++◌, map, length}
use Rattle.std.proofs.Common.{get_or, refl, sym, ap, ◌∙◌, inl, inr, arith, ℤ, ◌+ℤ◌, ◌≤ℤ◌, pos, Some, None}
use Rattle.std.proofs.lemmas.Bool.{cases_lt, ne_eqb}
use Rattle.std.proofs.lemmas.List.{append-nil, length-map, get_or-map, get_or_past, map-append, nil_from_length}
use Rattle.std.proofs.lemmas.List.Elements.{filter-append}
use Rattle.std.specs.List.{position_or_len}
use Rattle.std.specs.Str.{bytes_eq}
use Rattle.std.specs.Cmp.Lexicographic.{bytes_decides}
use Rattle.rtgs_book.specs.declared.change.RowChange.TheVariants.{AddOrder}
use Rattle.rtgs_book.specs.declared.cores.cores.Core.{Core}
use Rattle.rtgs_book.specs.declared.order.Order.{Order}
use Rattle.rtgs_book.specs.Books.{is_queued, is_waiting}
use Rattle.rtgs_book.specs.Queue.{queued_among}
use Rattle.rtgs_book.specs.cores.Following.{core_after_row}
use Rattle.rtgs_gridlock.specs.declared.queues.Payment.{Payment}
use Rattle.rtgs_gridlock.specs.Choices.{amount_to, queue_of}
use Rattle.rtgs_gridlock.specs.Slack.{IsAppended, IsCeiling, IsWithdrawn}
use Rattle.rtgs_choices.proofs.Indexes.{code_at_index, has_index}
use Rattle.rtgs_records.specs.accounts.Accounts.{code_of, CodesRiseStrictly}
use Rattle.rtgs_ledger.specs.Choosing.{payment_in, queues_in, payments_in}
use Rattle.rtgs_ledger.specs.Limits.{Lowers}
use Rattle.rtgs_ledger.proofs.Limits.{queue_with, payment_among, queues_by_code}

pub count : (core : Core) → length (queues_in core) ≡ length core.accounts
count core = length-map core.accounts (λ a. payments_in core (code_of a))

queue_at : (core : Core) (p : ℕ) → p < length core.accounts → queue_of (queues_in core) p
    ≡ queue_with (map code_of core.accounts) core.waiting (get_or (map code_of core.accounts) p [])
queue_at core p less =
    ap (λ (qs : List (List Payment)). queue_of qs p) (queues_by_code core)
    ∙ get_or-map (queue_with (map code_of core.accounts) core.waiting) (map code_of core.accounts) p [] []
    (omega (arith, less, length-map core.accounts code_of))

-- the queue of a code among orders that stand behind others
joined : (codes : List (List ℕ)) (xs ys : List Order) (code : List ℕ)
    → queue_with codes (xs ++ ys) code ≡ queue_with codes xs code ++ queue_with codes ys code
joined codes xs ys code =
    ap (map (payment_among codes)) (filter-append (λ x. is_queued x && bytes_eq x.sender code) xs ys)
    ∙ map-append (payment_among codes) (queued_among xs code) (queued_among ys code)

-- and with an order before them
behind : (codes : List (List ℕ)) (o : Order) (ys : List Order) (code : List ℕ) → is_queued o ≡ true → (b : Bool)
    → bytes_eq o.sender code ≡ b → queue_with codes (o ∷ ys) code
    ≡ cond b (payment_among codes o ∷ queue_with codes ys code) (queue_with codes ys code)
behind codes o ys code queued true e = rw (queued, e) refl
behind codes o ys code queued false e = rw (queued, e) refl

-- the queues of cores with the same accounts, the one with an order and the other without it
module _ (full rest : Core) (o : Order) (earlier later : List Order) (accounts : rest.accounts ≡ full.accounts)
    (with_it : full.waiting ≡ earlier ++ o ∷ later) (without : rest.waiting ≡ earlier ++ later)
    (rise : CodesRiseStrictly full.accounts) (queued : is_queued o ≡ true)
    (inside : position_or_len (bytes_eq o.sender) (map code_of full.accounts) < length full.accounts) where
  abbrev codes : List (List ℕ)
  codes = map code_of full.accounts

  abbrev sender : ℕ
  sender = position_or_len (bytes_eq o.sender) codes

  in_codes : (p : ℕ) → p < length full.accounts → p < length codes
  in_codes p less = omega (arith, less, length-map full.accounts code_of)

  same_count : length (queues_in rest) ≡ length (queues_in full)
  same_count = count rest ∙ ap length accounts ∙ sym (count full)

  full_at : (p : ℕ) → p < length full.accounts → queue_of (queues_in full) p
      ≡ queue_with codes earlier (get_or codes p []) ++ queue_with codes (o ∷ later) (get_or codes p [])
  full_at p less = queue_at full p less ∙ ap (λ (os : List Order). queue_with codes os (get_or codes p [])) with_it
      ∙ joined codes earlier (o ∷ later) (get_or codes p [])

  pub rest_at : (p : ℕ) → p < length full.accounts → queue_of (queues_in rest) p
      ≡ queue_with codes earlier (get_or codes p []) ++ queue_with codes later (get_or codes p [])
  rest_at p less =
      queue_at rest p (omega (arith, less, ap length accounts))
      ∙ (λ i. queue_with (map code_of (accounts i)) (without i) (get_or (map code_of (accounts i)) p []))
      ∙ joined codes earlier later (get_or codes p [])

  -- it stands in the queue of its sender
  full_sender : queue_of (queues_in full) sender ≡ queue_with codes earlier (get_or codes sender [])
      ++ payment_in full o ∷ queue_with codes later (get_or codes sender [])
  full_sender =
      full_at sender inside
      ∙ ap (λ (ys : List Payment). queue_with codes earlier (get_or codes sender []) ++ ys)
      (behind codes o later (get_or codes sender []) queued true
      ((bytes_decides o.sender (get_or codes sender [])).1 (code_at_index codes o.sender (in_codes sender inside))))

  elsewhere : (p : ℕ) → (p ≡ sender → ⊥) → queue_of (queues_in full) p ≡ queue_of (queues_in rest) p
  elsewhere p ne =
      elim (cases_lt p (length full.accounts)) [
        | inl less ↦
            full_at p less
            ∙ ap (λ (ys : List Payment). queue_with codes earlier (get_or codes p []) ++ ys)
            (behind codes o later (get_or codes p []) queued false
            (sym (has_index codes o.sender p rise (in_codes p less))
            ∙ ne_eqb sender p (λ (e : sender ≡ p). ne (sym e))))
            ∙ sym (rest_at p less)
        | inr past ↦
            get_or_past (queues_in full) p [] (omega (arith, past, count full))
            ∙ sym (get_or_past (queues_in rest) p [] (omega (arith, past, count full, same_count)))
      ]

  pub withdrawn : IsWithdrawn (queues_in full) sender (payment_in full o) (queues_in rest)
  withdrawn = record {
    sender_is = omega (arith, inside, count full);
    count = same_count;
    earlier = queue_with codes earlier (get_or codes sender []);
    later = queue_with codes later (get_or codes sender []);
    before = full_sender;
    after = rest_at sender inside;
    others = λ p ne. sym (elsewhere p ne);
  }

  -- where nothing stands behind it, it is appended
  pub appended : queue_with codes later (get_or codes sender []) ≡ []
      → IsAppended (queues_in rest) sender (payment_in full o) (queues_in full)
  appended none = record {
    sender_is = omega (arith, inside, count full, same_count);
    count = sym same_count;
    longer = full_sender
        ∙ (λ i. queue_with codes earlier (get_or codes sender []) ++ payment_in full o ∷ none i)
        ∙ ap (λ (xs : List Payment). xs ++ payment_in full o ∷ []) (sym (rest_at sender inside
        ∙ (λ i. queue_with codes earlier (get_or codes sender []) ++ none i)
        ∙ append-nil (queue_with codes earlier (get_or codes sender []))));
    others = elsewhere;
  }

-- the law of the resolver that is used here
abbrev pub AppendedWithinSlack : Type 0
AppendedWithinSlack = (queues new : List (List Payment)) → (sender : ℕ) → (payment : Payment)
    → (limits lower : ℕ → ℤ) → IsCeiling queues (λ _. 0) limits → IsAppended queues sender payment new
    → (payment.receiver ≡ sender → ⊥)
    → ((p : ℕ) → p < length queues → (lower p +ℤ pos (amount_to p payment)) ≤ℤ limits p)
    → (queue_of queues sender ≡ [] → lower sender ≤ℤ pos payment.amount) → IsCeiling new (λ _. 0) lower

-- an order more that is queued
module _ (law : AppendedWithinSlack) (core : Core) (o : Order) (rise : CodesRiseStrictly core.accounts)
    (queued : is_queued o ≡ true) (waits : is_waiting o ≡ true)
    (inside : position_or_len (bytes_eq o.sender) (map code_of core.accounts) < length core.accounts)
    (apart : (payment_in core o).receiver ≡ position_or_len (bytes_eq o.sender) (map code_of core.accounts) → ⊥) where
  abbrev at : ℕ
  at = position_or_len (bytes_eq o.sender) (map code_of core.accounts)

  abbrev more : Core
  more = core_after_row core (AddOrder o)

  at_end : IsAppended (queues_in core) at (payment_in core o) (queues_in more)
  at_end = appended more core o core.waiting [] refl
      (ap (λ (b : Bool). cond b (core.waiting ++ o ∷ []) core.waiting) waits) (sym
      (append-nil core.waiting)) rise queued
      inside refl

  own_queue : queued_among core.waiting o.sender ≡ [] → queue_of (queues_in core) at ≡ []
  own_queue none =
      queue_at core at inside
      ∙ ap (queue_with (map code_of core.accounts) core.waiting) (sym (code_at_index
      (map code_of core.accounts) o.sender
      (omega (arith, inside, length-map core.accounts code_of))))
      ∙ ap (map (payment_among (map code_of core.accounts))) none

  -- who had nothing queued begins its queue
  pub begins_queue : queued_among core.waiting o.sender ≡ [] → Lowers core more (record {
    index = (payment_in core o).receiver;
    cents = o.amount;
    begins = Some at;
    empties = None;
  })
  begins_queue none = record {
    count = at_end.count;
    ceiling = λ limits lower is less most. law (queues_in core) (queues_in more) at (payment_in core o) limits lower is
        at_end apart less (λ _. most);
    begins = (at_end.sender_is, own_queue none);
    empties = tt;
  }

  -- and otherwise its limit stays
  pub stands_behind : (queued_among core.waiting o.sender ≡ [] → ⊥) → Lowers core more (record {
    index = (payment_in core o).receiver;
    cents = o.amount;
    begins = None;
    empties = None;
  })
  stands_behind some = record {
    count = at_end.count;
    ceiling = λ limits lower is less _. law (queues_in core) (queues_in more) at (payment_in core o) limits lower is
        at_end apart less (λ none. absurd (some (unmapped none)));
    begins = tt;
    empties = tt;
  }
    where
      unmapped : queue_of (queues_in core) at ≡ [] → queued_among core.waiting o.sender ≡ []
      unmapped none =
          let here : queue_with (map code_of core.accounts) core.waiting o.sender ≡ [] =
          ap (queue_with (map code_of core.accounts) core.waiting) (code_at_index (map code_of core.accounts) o.sender
          (omega (arith, inside, length-map core.accounts code_of))) ∙ sym (queue_at core at inside) ∙ none in
          nil_from_length (queued_among core.waiting o.sender) (sym (length-map (queued_among core.waiting o.sender)
          (payment_among (map code_of core.accounts))) ∙ ap length here)
