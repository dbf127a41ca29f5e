-- The numbers of an order's type and of its states.
use Rattle.std.specs.Prelude.{ℕ}
use Rattle.books.specs.declared.records.OrderType.{OrderType}
use Rattle.books.specs.declared.records.OrderType.TheVariants.{Customer, Bank}
use Rattle.books.specs.declared.records.State.{State}
use Rattle.books.specs.declared.records.State.TheVariants.{Sent, RecallAsked, ReportedSettled, Confirmed, Ended}

abbrev pub type_number : OrderType → ℕ
type_number Customer = 103
type_number Bank = 202

-- the whole list of states
abbrev pub state_number : State → ℕ
state_number Sent = 1
state_number RecallAsked = 2
state_number ReportedSettled = 3
state_number Confirmed = 4
state_number Ended = 5
