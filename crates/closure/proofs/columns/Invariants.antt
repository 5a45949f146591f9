-- `closure::columns` meets its contract. After k variables the masks are the sums over those below k, for every flow that the tables tell of.
use Rattle.definitions.specs.Columns.{Flow}
use Rattle.closure.specs.Tables.{Tables, Columned}
use Rattle.closure.proofs.columns.Given as goal

abbrev pub invariant-loop-k : goal.invariant-loop-k
invariant-loop-k l = (g : Flow) → Tables g l.n l.v l.fv l.bv l.gotos l.jumps → Columned g l.n l.k l.inputs l.outputs l.j
