-- What the tables tell of a flow: a smallest set by the tables is the flow's inputs, and what names one of it its outputs. Assumes nothing.
use mathlib.Core.Path.{◌≡◌, refl, sym, ap, ◌∙◌}
use mathlib.Core.Bool.{Bool, ◌&&◌, ◌||◌}
use lib.Dec.{eqb}
use mathlib.Core.List.{List}
use Prim.Native.Nat.{ℕ, ◌<◌}
use Rattle.definitions.specs.Columns.{Flow, names, J, some, outputs, passes, among, inputs_of, outputs_of}
use Rattle.definitions.proofs.Tests.{some_same}
use Rattle.definitions.specs.Smallest.{Smallest}
use Rattle.definitions.proofs.Smallest.{smallest-only, alike}
use Rattle.definitions.proofs.Reached.{closure-smallest}
use Rattle.closure.specs.Tables.{edge_in, variable_in, passing, Tables}

-- the flow that has just what the tables hold
module _ (fv bv gotos jumps : List Bool) where
  abbrev flow_in : ℕ → ℕ → Flow
  flow_in n v = record {
    blocks = n;
    variables = v;
    FV = variable_in fv;
    BV = variable_in bv;
    gotos = edge_in gotos;
    jumps = edge_in jumps;
  }

  pub tables-own : (n v : ℕ) → Tables (flow_in n v) n v fv bv gotos jumps
  tables-own n v = record { blocks = refl; FV = λ b k h l. refl; BV = λ b k h l. refl; gotos' = λ b t h l. refl; jumps' = λ b t h l. refl }

of_size : {x n : ℕ} {seed : ℕ → Bool} {edge : ℕ → ℕ → Bool} {s : ℕ → Bool} → x ≡ n → Smallest x seed edge s → Smallest n seed edge s
of_size e m = rw e at m

-- every flow that they tell of, with its names and J as tables too
module _ (g : Flow) {n v : ℕ} {fv bv gotos jumps : List Bool} (named j : List Bool) (t : Tables g n v fv bv gotos jumps)
    (naming : (b t : ℕ) → b < n → t < n → edge_in named b t ≡ (edge_in gotos b t || edge_in jumps b t))
    (restarting : (t : ℕ) → t < n → among j t ≡ (eqb t 0 || some n (λ b. edge_in jumps b t))) where
  is-named : (b d : ℕ) → b < n → d < n → edge_in named b d ≡ names g b d
  is-named b d h i = naming b d h i ∙ rw (t.gotos' b d h i, t.jumps' b d h i)

  pub is-joined : (d : ℕ) → d < n → among j d ≡ J g d
  is-joined d i =
      restarting d i ∙ ap (λ (x : Bool). eqb d 0 || x)
      (some_same n _ (λ b. g.jumps b d) (λ b h. t.jumps' b d h i) ∙ ap (λ (x : ℕ). some x (λ b. g.jumps b d)) (sym t.blocks))

  module _ (k : ℕ) (l : k < v) (s : ℕ → Bool) (m : Smallest n (λ b. variable_in fv b k) (passing bv named j k) s) where
    pub is-input : (b : ℕ) → b < n → s b ≡ inputs_of g b k
    unfolding inputs_of
    is-input b h =
        smallest-only
        (alike (λ c h. t.FV c k h l) (λ c d h i. rw (is-named c d h i, t.BV c k h l, is-joined c h, is-joined d i)) m)
        (of_size t.blocks (closure-smallest g.blocks (λ c. g.FV c k) (passes g k))) b h

    pub is-output : (b : ℕ) → b < n → some n (λ d. edge_in named b d && s d) ≡ outputs_of g b k
    unfolding outputs
    is-output b h =
        some_same n _ (λ d. names g b d && inputs_of g d k) (λ d i. rw (is-named b d h i, is-input d i))
        ∙ ap (λ (x : ℕ). some x (λ d. names g b d && inputs_of g d k)) (sym t.blocks)
