-- No account tells a float.
use Rattle.std.proofs.Common.{◌≡◌, ℕ, ℤ, pos, negsuc, List, [], ◌∷◌, map, Option, Some, None, false, refl}
use Rattle.serde_json.specs.Data.{Members}
use Rattle.serde_json.specs.View.{items_of}
use Rattle.serde_json.specs.Written.{has_float, items_have_float, members_have_float}
use Rattle.rtgs_book.specs.declared.day.Day.{Day}
use Rattle.rtgs_book.specs.declared.account_reading.AccountReading.{AccountReading}
use Rattle.rtgs_http_bodies.specs.desks.Accounts.{account_members, account_with, accounts_data, day_members, listed}
use Rattle.rtgs_http_bodies.specs.desks.Accounts.{listed_with, with_date}
use Rattle.rtgs_http_bodies.specs.desks.Status.{status_data}
use Rattle.rtgs_http_bodies.specs.desks.Waiting.{held_data, held_list_data, waiting_data}
use Rattle.rtgs_http_bodies.specs.replies.Bodies.{signed}
use Rattle.rtgs_book.specs.declared.order.Order.{Order}
use Rattle.rtgs_book.specs.declared.status.Status.{Status}
use Rattle.rtgs_book.specs.declared.waiting_reading.WaitingReading.{WaitingReading}

signed_has_no_float : (z : ℤ) → has_float (signed z) ≡ false
signed_has_no_float (pos n) = refl
signed_has_no_float (negsuc n) = refl

members_have_no_float : (value : ℤ) (reading : AccountReading)
    → members_have_float (account_members value reading) ≡ false
members_have_no_float value reading = rw (signed_has_no_float value) refl

dated_have_no_float : (date : Option ℕ) (members : Members) → members_have_float members ≡ false
    → members_have_float (with_date date members) ≡ false
dated_have_no_float (Some date) answered none = none
dated_have_no_float None answered none = none

pub account_has_no_float : (value : ℤ) (reading : AccountReading) → has_float (account_with value reading) ≡ false
account_has_no_float value reading = rw (
  signed_has_no_float reading.balance,
  dated_have_no_float reading.day.date (account_members value reading) (members_have_no_float value reading),
) refl

listed_has_no_float : (value : ℤ) (reading : AccountReading) → has_float (listed_with value reading) ≡ false
listed_has_no_float value reading = rw (signed_has_no_float reading.balance, signed_has_no_float value) refl

listed_have_no_float : (readings : List AccountReading) → items_have_float (items_of (map listed readings)) ≡ false
listed_have_no_float [] = refl
listed_have_no_float (reading ∷ readings) =
    rw (listed_has_no_float reading.queued_value reading, listed_have_no_float readings) refl

day_has_no_float : (day : Day) → members_have_float (day_members day) ≡ false
day_has_no_float day = dated_have_no_float day.date _ refl

pub accounts_have_no_float : (day : Day) (readings : List AccountReading)
    → has_float (accounts_data day readings) ≡ false
accounts_have_no_float day readings = rw (listed_have_no_float readings, day_has_no_float day) refl

held_have_no_float : (orders : List Order) → items_have_float (items_of (map held_data orders)) ≡ false
held_have_no_float [] = refl
held_have_no_float (order ∷ orders) = held_have_no_float orders

pub held_has_no_float : (orders : List Order) → has_float (held_list_data orders) ≡ false
held_has_no_float orders = rw (held_have_no_float orders) refl

pub waiting_has_no_float : (reading : WaitingReading) → has_float (waiting_data reading) ≡ false
waiting_has_no_float reading = by reading.first
  where
    by : (first : Option Order) → has_float (waiting_data (record reading { first = first })) ≡ false
    by None = rw (
      signed_has_no_float reading.headroom,
      signed_has_no_float reading.held.value,
      signed_has_no_float reading.queued.value,
      signed_has_no_float reading.short,
    ) refl
    by (Some order) = rw (
      signed_has_no_float reading.headroom,
      signed_has_no_float reading.held.value,
      signed_has_no_float reading.queued.value,
      signed_has_no_float reading.short,
    ) refl

pub status_has_no_float : (status : Status) → has_float (status_data status) ≡ false
status_has_no_float status = by status.day.date
  where
    by : (date : Option ℕ)
        → has_float (status_data (record status { day = record status.day { date = date } })) ≡ false
    by None = rw (
      signed_has_no_float status.held.value,
      signed_has_no_float status.queued.value,
      signed_has_no_float status.sum,
    ) refl
    by (Some date) = rw (
      signed_has_no_float status.held.value,
      signed_has_no_float status.queued.value,
      signed_has_no_float status.sum,
    ) refl
