-- What the tags of operators, comparisons and joints name. That the grammar reads them so is shown in proofs/Tags.antt.
use Rattle.std.specs.Prelude.{ℕ, cond, eqb}
use Rattle.definitions.specs.declared.Operator.{Operator}
use Rattle.definitions.specs.declared.Operator.TheVariants.{Add, Subtract, Multiply, Divide, Remainder}
use Rattle.definitions.specs.declared.Relation.{Relation}
use Rattle.definitions.specs.declared.Relation.TheVariants.{Less, Equal}
use Rattle.definitions.specs.declared.Joint.{Joint}
use Rattle.definitions.specs.declared.Joint.TheVariants.{And, Or}

-- of 04 to 08
unfoldable pub operator_of : ℕ → Operator
operator_of t =
    cond (eqb t 0x04) Add
    (cond (eqb t 0x05) Subtract
    (cond (eqb t 0x06) Multiply
    (cond (eqb t 0x07) Divide Remainder)))

-- of 10 and 11
unfoldable pub relation_of : ℕ → Relation
relation_of t = cond (eqb t 0x10) Less Equal

-- of 13 and 14
unfoldable pub joint_of : ℕ → Joint
joint_of t = cond (eqb t 0x13) And Or
