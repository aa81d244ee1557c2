use Rattle.std.proofs.Common.{◌≡◌, ◌∙◌, codes, string_bytes, refl, sym, ap, rules}
use Rattle.serde_json.specs.Data.{object, string}
use Rattle.serde_json.specs.View.{view, members_view}
use Rattle.serde_json.proofs.Views.{view-Object, members_view-insert_entry}
use Rattle.rtgs_money.specs.Date.{date_text}
use Rattle.rtgs_http_bodies.proofs.order.with_due.Goals as goal

pub returns-in_ok-insert-in-Object : goal.returns-in_ok-insert-in-Object
returns-in_ok-insert-in-Object c members e =
    let old = c.in-Object.members in
    let due = c.in_ok-due-in-Object.due in
    let key = c.in_ok-from_str-in-Object.field-0 in
    let spelled : view due ≡ string (date_text c.args.due) = search rules in
    let named : string_bytes key ≡ codes "due" = search rules in
    let whole : object (members_view old.entries) ≡ object members =
    sym (view-Object old) ∙ ap view (sym c.in-Object.is) ∙ e in
    let before : members_view old.entries ≡ members = cc whole in
    view-Object c.insert.new.self ∙ ap (λ es. object (members_view es)) c.in_ok-insert-in-Object.ensures.entries
    ∙ ap object (members_view-insert_entry old.entries key due) ∙ rw (named, spelled, before) refl
