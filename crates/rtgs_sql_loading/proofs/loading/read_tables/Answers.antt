use Rattle.std.proofs.Common.{◌≡◌, List, [], ◌∷◌, None, map, sym, ap, subst, subst₂, ◌∙◌}
use Rattle.sqlite_keyed.proofs.ListLemmas.{all_weaker}
use Rattle.rtgs_book.specs.declared.order.Order.{Order}
use Rattle.rtgs_book.specs.declared.account.Account.{Account}
use Rattle.rtgs_rows.specs.Dues.{without_due, forwards_of}
use Rattle.rtgs_rows.specs.TableRecords.{desk_records}
use Rattle.rtgs_rows.specs.declared.forward.Forward.{Forward}
use Rattle.rtgs_sql_loading.specs.Joining.{AreJoined}
use Rattle.sqlite.specs.Held.{state}
use Rattle.rtgs_sql_loading.proofs.Blank.{unshown}
use Rattle.rtgs_sql_loading.proofs.AllTables.{renamed, tells, each_formed, one_unread, ComeOfRows}
use Rattle.rtgs_sql_loading.proofs.Dues.{stops_apart}
use Rattle.rtgs_sql_loading.proofs.Joining.{taken_apart}
use Rattle.rtgs_sql_loading.proofs.ReadTables.{at_once, stops_after, stops_never, not_foreign}
use Rattle.rtgs_sql_loading.proofs.loading.read_tables.Goals as goal

pub returns-in_err-all-clause-stops : goal.returns-in_err-all-clause-stops
returns-in_err-all-clause-stops g c =
    let version = c.args.version in
    stops_after c.read.result _ c.from_residual.result (at_once (state g.S.Store c.args.conn.now))
    c.in_err-all.was c.from_residual.ensures.1
    (λ known trees bad formed.
    let all = (each_formed version known trees formed).1 in
    bad (
      formed.desk,
      (
        formed.choice,
        (all.0, (all.1.0, (all.1.1.0, (all.1.1.1.0, (all.1.1.1.1.0, tt))))),
      ),
    ))
    (one_unread version) c.read.ensures.stops

pub returns-in_err-orders-clause-stops : goal.returns-in_err-orders-clause-stops
returns-in_err-orders-clause-stops g c =
    stops_apart _ _ _ c.in_ok-all.ensures.on (λ clean. (c.in_ok-all.ensures.read clean).1.1.1.1.0)
    (λ clean. (c.in_ok-all.ensures.read clean).1.1.1.1.1.1.0)
    (λ all. rw c.as_slice.ensures.value at (c.in_err-orders.ensures.apart all))

pub returns-in_err-participants-clause-stops : goal.returns-in_err-participants-clause-stops
returns-in_err-participants-clause-stops g c = stops_never _ c.in_ok-all.ensures.on (not_foreign _
    c.from_residual-in_err-participants.ensures.1)

pub returns-clause-stops : goal.returns-clause-stops
returns-clause-stops g c = stops_never _ c.in_ok-all.ensures.on (λ e. cc)

pub returns-clause-blank : goal.returns-clause-blank
returns-clause-blank g c known clean blank =
    let s = state g.S.Store c.args.conn.now in
    let shown = ((c.in_ok-all.ensures.read clean).0.1.has_rows known).1 in
    absurd (unshown s blank shown.0 shown.1)

pub invariant_of-result : goal.invariant_of-result
invariant_of-result g c = record {
  participants = c.from_vec.ensures ∙ c.in_ok-participants.ensures
      ∙ ap (map (λ (a : Account). a.participant)) c.as_slice-2.ensures.value;
}

pub returns-clause-read : goal.returns-clause-read
returns-clause-read g c known clean =
    let read = c.in_ok-all.ensures.read clean in
    let participants = c.from_vec.ensures ∙ c.in_ok-participants.ensures
    ∙ ap (map (λ (a : Account). a.participant)) c.as_slice-2.ensures.value in
    let s = state g.S.Store c.args.conn.now in
    let row = c.in_ok-all.all.0 in
    let desk = renamed {records = desk_records} {s = s} {all = record row { version = c.args.version } ∷ []}
    {found = row ∷ []} (λ i. record row { version = sym read.0.0 i } ∷ []) read.0.1 in
    let stored = read.1.1.0.reads in
    let lists = read.1.1.1 in
    let postings = renamed c.from_vec-2.ensures lists.0.reads in
    let undated_orders = c.in_ok-all.all.1.1.1.1.0.items in
    let dues = c.in_ok-all.all.1.1.1.1.1.1.0.items in
    let joined : AreJoined undated_orders dues c.in_ok-orders.orders.items =
    rw c.as_slice.ensures.value at c.in_ok-orders.ensures.joined in
    let parts = taken_apart undated_orders dues c.in_ok-orders.orders.items joined
    (all_weaker _ (λ (o : Order). o.due ≡ None) (λ o fit. fit.1) undated_orders lists.1.0.reads.fit) in
    let is = c.from_vec-3.ensures in
    let orders = renamed (ap (map without_due) is ∙ parts.0) lists.1.0.reads in
    let marks = renamed c.from_vec-4.ensures lists.1.1.0.reads in
    let forwards = renamed (ap forwards_of is ∙ parts.1) lists.1.1.1.0.reads in
    let whole : ComeOfRows c.from_vec-3.result = subst ComeOfRows (sym is)
    (subst₂ (λ (ps : List Order) (fs : List Forward). AreJoined ps fs c.in_ok-orders.orders.items) (sym parts.0)
    (sym parts.1) joined) in
    tells c.args.version known s _ _ participants whole
    (desk, (stored, (postings, (orders, (marks, (forwards, (read.1.0, tt)))))))
