-- `orders::order` meets its contract. After i places the array has the order's first i blocks, and they are done.
use Rattle.closure.specs.Tables.{edge_in}
use Rattle.orders.proofs.Turns.{Sofar}
use Rattle.orders.proofs.order.Given as goal

abbrev pub invariant-loop-i : goal.invariant-loop-i
invariant-loop-i l = Sofar l.n (edge_in l.edges) l.i l.out l.done
