-- Where an ending leads, it names: by a goto, or by a jump. Assumes nothing.
use Prim.Native.Nat.{ℕ, ◌+◌}
use mathlib.Core.Path.{◌≡◌}
use mathlib.Core.Bool.{Bool, true, false, cond}
use mathlib.Core.List.{List}
use borrow.Author.Tests.{eq-eqb}
use Rattle.definitions.specs.Values.{Val, Out, value, fault, also}
use Rattle.definitions.specs.declared.Flaw.{Flaw}
use Rattle.definitions.specs.Rule.{End, Goto, Jump, Stop, If}
use Rattle.definitions.specs.Spelling.{cond_size, end_size}
use Rattle.definitions.specs.Meaning.{Where, further, holds}
use Rattle.definitions.specs.Direct.{Exit, to_block, to_round, exit}
use Rattle.definitions.specs.Columns.{goes_to, jumps_to}
use Rattle.definitions.proofs.Tests.{or_left, or_right}

pub record Named (e : End) (o : Out Flaw Exit) : Type 0 where
  pub goes : (t : ℕ) → o ≡ value (to_block t) → goes_to e t ≡ true
  pub jumps : (t : ℕ) → o ≡ value (to_round t) → jumps_to e t ≡ true

pub exit_named : (e : End) (w : Where) (env : List Val) → Named e (exit e w env)
unfolding goes_to jumps_to exit
exit_named (Goto u) w env = record { goes = λ t p. eq-eqb u t (cc); jumps = λ t p. cc }
exit_named (Jump u) w env = record { goes = λ t p. cc; jumps = λ t p. eq-eqb u t (cc) }
exit_named Stop w env = record { goes = λ t p. cc; jumps = λ t p. cc }
exit_named (If c x y) w env = go (holds c (further w 1) env) (exit_named x (further w (1 + cond_size c)) env) (exit_named y (further w (1 + cond_size c + end_size x)) env)
  where
    go : {p q : Out Flaw Exit} (o : Out Flaw Bool) → Named x p → Named y q → Named (If c x y) (also o (λ h. cond h p q))
    go (value true) m n = record {
      goes = λ t p. or_left (goes_to x t) _ (m.goes t p);
      jumps = λ t p. or_left (jumps_to x t) _ (m.jumps t p);
    }
    go (value false) m n = record {
      goes = λ t p. or_right (goes_to x t) _ (n.goes t p);
      jumps = λ t p. or_right (jumps_to x t) _ (n.jumps t p);
    }
    go (fault k) m n = record { goes = λ t p. cc; jumps = λ t p. cc }
