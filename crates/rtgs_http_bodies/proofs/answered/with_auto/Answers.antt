use Rattle.std.proofs.Common.{◌≡◌, ◌∙◌, codes, string_bytes, refl, sym, ap, rules}
use Rattle.serde_json.specs.Data.{object}
use Rattle.serde_json.specs.View.{view, members_view}
use Rattle.serde_json.proofs.Views.{view-Object, members_view-insert_entry}
use Rattle.rtgs_http_bodies.proofs.answered.with_auto.Goals as goal

pub returns-in_ok-insert-in-Object : goal.returns-in_ok-insert-in-Object
returns-in_ok-insert-in-Object c members e =
    let old = c.in-Object.members in
    let auto = c.in_ok-auto-in-Object.auto in
    let key = c.in_ok-from_str-in-Object.field-0 in
    let named : string_bytes key ≡ codes "auto" = search rules in
    let whole : object (members_view old.entries) ≡ object members =
    sym (view-Object old) ∙ ap view (sym c.in-Object.is) ∙ e in
    let before : members_view old.entries ≡ members = cc whole in
    view-Object c.insert.new.self ∙ ap (λ es. object (members_view es)) c.in_ok-insert-in-Object.ensures.entries
    ∙ ap object (members_view-insert_entry old.entries key auto)
    ∙ rw (named, c.in_ok-auto-in-Object.ensures, before) refl
