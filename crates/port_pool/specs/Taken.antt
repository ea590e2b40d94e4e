-- What a `Pool` shows to its users: the kind of its numbers, and which are taken (own).
use Rattle.std.specs.Prelude.{ℕ, Bool, ◌&&◌, ◌==◌}
use Rattle.port_pool.specs.declared.order.Order.{Order}
use Rattle.port_pool.specs.declared.order.Order.TheVariants as orders
use Rattle.port_pool.specs.declared.pool.Pool.{Pool}
use Rattle.port_pool.specs.declared.pool.TakenNumbers.{TakenNumbers}
use Rattle.port_pool.specs.declared.pool.TakenNumbers.TheVariants.{Ports, Identifiers, Zero}
use Rattle.port_pool.specs.steps.Bits.{bit}

abbrev pub order_in : TakenNumbers → Order
order_in (Ports bitmap) = orders.Ports
order_in (Identifiers bitmap) = orders.Identifiers
order_in (Zero taken) = orders.Zero

abbrev pub taken_in : TakenNumbers → ℕ → Bool
taken_in (Ports bitmap) p = bit bitmap p
taken_in (Identifiers bitmap) p = bit bitmap p
taken_in (Zero taken) p = taken && p == 0

-- the kind of the pool's numbers
unfoldable pub order_of : Pool → Order
order_of pool = order_in pool.numbers

-- whether a number is taken
unfoldable pub is_taken : Pool → ℕ → Bool
is_taken pool p = taken_in pool.numbers p
