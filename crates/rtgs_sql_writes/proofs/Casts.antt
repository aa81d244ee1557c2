-- A strict column leaves a value of its type as it is.
use Rattle.std.proofs.Common.{◌≡◌, ℕ, ℤ, pos, Bool, true, false, cond, Option, Some, None, option_map, refl}
use Rattle.sqlite.specs.declared.types.Value.{Value}
use Rattle.sqlite.specs.declared.types.Value.TheVariants.{Null, Int, Text}
use Rattle.sqlite.specs.Ops.{unary}
use Rattle.sqlite.specs.Kind.TheVariants.{Integer}
use Rattle.sqlite.specs.Kind.TheVariants as kind
use Rattle.sqlite.specs.Values.{or_null, bound_value}
use Rattle.rtgs_money.specs.Date.{date_text}
use Rattle.rtgs_book.specs.declared.order_state.OrderState.{OrderState}
use Rattle.rtgs_book.specs.declared.order_state.OrderState.TheVariants.{Queued, Held, Settled, Withdrawn, Rejected}
use Rattle.rtgs_rows.specs.Rows.{date_value, mark_value}
use Rattle.sqlite.specs.Cast.{cast}

either : (b : Bool) (x : Value) → cond b x x ≡ x
either true x = refl
either false x = refl

pub cast_null : cast Integer Null ≡ Null
unfolding unary
cast_null = either _ Null

pub cast_int : (n : ℤ) → cast Integer (Int n) ≡ Int n
unfolding unary
cast_int n = either _ (Int n)

pub cast_date : (date : Option ℕ) → cast kind.Text (date_value date) ≡ date_value date
cast_date None = refl
cast_date (Some d) = refl

pub bound_date : (date : Option ℕ) → bound_value (date_value date) ≡ date_value date
bound_date None = refl
bound_date (Some d) = refl

-- the text of the date, or null
pub date_bound : (date : Option ℕ) → or_null Text (option_map date_text date) ≡ date_value date
date_bound None = refl
date_bound (Some d) = refl

pub cast_mark : (state : OrderState) → cast Integer (mark_value state) ≡ mark_value state
cast_mark Queued = cast_null
cast_mark Held = cast_null
cast_mark (Settled mark) = cast_int (pos mark)
cast_mark Withdrawn = cast_null
cast_mark Rejected = cast_null

pub bound_mark : (state : OrderState) → bound_value (mark_value state) ≡ mark_value state
bound_mark Queued = refl
bound_mark Held = refl
bound_mark (Settled mark) = refl
bound_mark Withdrawn = refl
bound_mark Rejected = refl
