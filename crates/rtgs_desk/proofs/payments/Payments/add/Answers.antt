use Rattle.std.proofs.Common.{rules, ◌≡◌, ◌∙◌, ◌++◌, ◌∷◌, List, [], ℕ, cond, Option, Some, None, Vec, Global}
use Rattle.std.proofs.Common.{BTreeMap, vec_len, subst, sym, ap, refl}
use Rattle.std.specs.Option.{option_map_or, UnwrapsOrElse}
use Rattle.std.specs.BTreeMap.Entry.{map_with_value}
use Rattle.std.specs.Str.{bytes_eq}
use Rattle.rtgs_book.specs.declared.order.Order.{Order}
use Rattle.rtgs_desk.specs.Payments.{paid_in}
use Rattle.rtgs_desk.proofs.QueueLemmas.{read_after}
use Rattle.rtgs_desk.proofs.payments.Payments.add.Goals as goal

items_of : (o : Option (Vec Order Global)) (orders : Vec Order Global)
    → UnwrapsOrElse o (λ orders. (orders.items ≡ []) × (vec_len orders ≡ 0)) orders
    → orders.items ≡ option_map_or (λ (orders : Vec Order Global). orders.items) o []
items_of None orders h = h.0
items_of (Some found) orders h = ap (λ (orders : Vec Order Global). orders.items) h

pub returns : goal.returns
returns c = λ code.
    let o = c.args.order.now in
    let found = subst (λ x. UnwrapsOrElse x (λ (orders : Vec Order Global). (orders.items ≡ []) × (vec_len orders ≡ 0))
    c.or_default-orders.result.now) c.in_ok-self.ensures.value c.or_default-orders.ensures.value in
    let here : c.push.new.self.items ≡ paid_in c.args.self.now o.receiver ++ o ∷ [] = c.in_ok-push.ensures.items
    ∙ ap (λ orders. orders ++ o ∷ []) (items_of _ c.or_default-orders.result.now found) in
    let there : paid_in (record { orders = map_with_value c.in_ok-self.field-0 c.push.new.self }) code
    ≡ cond (bytes_eq o.receiver code) (paid_in c.args.self.now code ++ o ∷ []) (paid_in c.args.self.now code) =
    read_after (λ orders. orders.items) []
    (λ b before after. after ≡ cond b (before ++ o ∷ []) before) (λ a. refl)
    c.args.self.now.orders (map_with_value c.in_ok-self.field-0 c.push.new.self) o.receiver c.push.new.self
    (c.in_ok-self.ensures.update.0 c.push.new.self) here code in
    let after = λ (n : BTreeMap (List ℕ) (Vec Order Global)) (e : n
    ≡ map_with_value c.in_ok-self.field-0 c.push.new.self). subst
    (λ n. paid_in (record { orders = n }) code ≡ cond (bytes_eq o.receiver code)
    (paid_in c.args.self.now code ++ o ∷ []) (paid_in c.args.self.now code)) (sym e) there in
    search (rules, after)
