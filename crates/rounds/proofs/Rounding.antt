-- One block after the other on a plan is the walk on its columns. Assumes nothing.
use Prim.Native.Nat.{ℕ, suc, ◌+◌, ◌-◌, ◌*◌, ◌≤◌, ◌<◌}
use Prim.{Unit, tt}
use mathlib.Core.Path.{◌≡◌, refl, sym, ap, ◌∙◌}
use mathlib.Core.Bool.{Bool}
use mathlib.Core.List.{List, []}
use native.Mathlib.Omega.{arith}
use lib.ListN.{length, get_or}
use borrow.Author.Tests.{eqb-true, ne_eqb}
use Rattle.definitions.specs.Values.{Word, Val, values_in, Out, value, fault}
use Rattle.definitions.specs.declared.Flaw.{Flaw}
use Rattle.definitions.specs.declared.Finish.{Finish}
use Rattle.definitions.specs.Rule.{Rule, size, block_of}
use Rattle.definitions.specs.Grammar.{}
use Rattle.definitions.specs.Columns.{flow_of, inputs_of, outputs_of}
use Rattle.definitions.specs.Plan.{mask_of, bit_of, place_of, word_at, bodies_at, carried}
use Rattle.definitions.specs.Spelling.{body_size, block_place}
use Rattle.definitions.specs.Meaning.{at_byte}
use Rattle.definitions.specs.Direct.{Way, on, ended, steps, body_at, ending_at, origin, Exit, to_block, to_round, to_stop, exit, Round, jumped, finished, leave}
use Rattle.definitions.proofs.Masks.{read_back}
use Rattle.columns.specs.OnPlan.{kept, entered, handed, leaving, plan_walk}
use Rattle.columns.specs.Proper.{Proper}
use Rattle.columns.proofs.Endings.{Named, exit_named}
use Rattle.columns.proofs.Keeping.{KeptWay, steps-kept, leave-kept}
use Rattle.plans.specs.Accepted.{rule_in, Accepted}
use Rattle.plans.proofs.Carried.{carried-rule, at-variables, at-blocks, at-past, at_offset, at-inputs, at-outputs, at_place}
use Rattle.std.specs.Prelude.{Ok}
use Rattle.rounds.specs.declared.blocks.Leading.{Leading}
use Rattle.rounds.specs.declared.blocks.Entry.{Entry}
use Rattle.rounds.specs.Run.{Prefix, BlockHere, labels_in, Passage, round_of, left_by, BlockRun}
use Rattle.rounds.specs.Round.{Entered, ended_as, jump_to, Walked, Going}
use Rattle.rounds.proofs.Keeping.{kept_same}
use Rattle.rounds.proofs.Placing.{place_is}
use Rattle.rounds.proofs.Longer.{block-over}
use Rattle.definitions.specs.declared.Finish.TheVariants.{Unfinished}
use Rattle.definitions.proofs.Ends.{above-ended, no-both}
use Rattle.definitions.specs.Direct.{status_number}

module _ (p : List ℕ) (a : Accepted p) where
  abbrev r : Rule
  r = rule_in p

  abbrev v : ℕ
  v = r.variables

  -- a set and the bits of its mask keep the same
  masked : (f : ℕ → Bool) (env : List Val) → kept v (bit_of (mask_of v f)) env ≡ kept v f env
  masked f env = kept_same v (bit_of (mask_of v f)) f env (λ k l. read_back v f k l)

  module _ (b : ℕ) (h : b < size r) where
    -- the block stands where the entry says
    abbrev pub here : (v' : ℕ) (s : List ℕ) (at : ℕ) → v' ≡ get_or p 1 0 → Prefix (carried p) s → at ≡ place_of r (carried p) b → BlockHere v' s at
    here v' s at ev es ea = record {
      bound = length (carried p);
      targets = (size r);
      what = block_of r b;
      next = place_of r (carried p) (suc b);
      reads = rw (ev ∙ at-variables p a, ea) (block-over (size r) v (carried p) s es (length (carried p)) (place_of r (carried p) b) (block_of r b) (place_of r (carried p) (suc b)) (at_place p a b h));
    }

    -- what the entry's words say
    pub entry-is : (bodies at offset place inputs outputs : ℕ) → bodies ≡ bodies_at p → at ≡ 6 + 8 * b → offset ≡ word_at p at → place ≡ offset - bodies + 4 → inputs ≡ word_at p (at + 2) → outputs ≡ word_at p (at + 4)
        → Entered p b (record { place = place; inputs = inputs; outputs = outputs })
    entry-is bodies at offset place inputs outputs en ea eo ep ei eu =
        let z : at ≡ 6 + (8 * b + 0) = omega arith in
        let i : at + 2 ≡ 6 + (8 * b + 2) = omega arith in
        let o : at + 4 ≡ 6 + (8 * b + 4) = omega arith in
        record {
          place' = omega (arith, eo ∙ ap (word_at p) z ∙ at_offset p a b h, at-past p a b h);
          inputs' = ei ∙ ap (word_at p) i ∙ at-inputs p a b h;
          outputs' = eu ∙ ap (word_at p) o ∙ at-outputs p a b h;
        }

    -- the offset is one of the bodies
    pub entry_past : (bodies at offset : ℕ) → bodies ≡ bodies_at p → at ≡ 6 + 8 * b → offset ≡ word_at p at → bodies ≤ offset
    entry_past bodies at offset en ea eo =
        let z : at ≡ 6 + (8 * b + 0) = omega arith in
        omega (arith, eo ∙ ap (word_at p) z ∙ at_offset p a b h)

    -- ---- a block that was run, in the words of the walk
    module _ {v' : ℕ} {s : List ℕ} (ev : v' ≡ get_or p 1 0) (es : Prefix (carried p) s) {e : Entry} (said : Entered p b e)
        {q count : ℕ} {vars labels : List Word} {w : Passage} {k : ℕ} {vars' labels' : List Word}
        (passed : (x : BlockHere v' s e.place) → BlockRun v' s e x q count vars labels w k vars' labels') where
      ran : BlockRun v' s e (here v' s e.place ev es said.place') q count vars labels w k vars' labels'
      ran = passed (here v' s e.place ev es said.place')

      abbrev way : Way
      way = steps q (block_of r b).body (body_at origin r b) (entered r b (values_in vars)) (labels_in count labels)

      -- the entry's place is the block's
      stands : e.place ≡ 0 + block_place r b
      stands = omega (arith, said.place', place_is (carried p) r a.next (carried-rule p a) b (omega arith))

      left_is : (o : Way) (W : ℕ → List Val → List Val → Round) → left_by v' (bit_of e.outputs) o (block_of r b).ending (ending_at origin r b) W ≡ leaving r b o (block_of r b).ending W
      left_is (on env ls) W = rw (ev ∙ at-variables p a, said.outputs', masked (outputs_of (flow_of r) b) env)
      left_is (ended how ls) W = refl

      pub next-round : (W : ℕ → List Val → List Val → Round) → round_of w k vars' labels' W ≡ leaving r b way (block_of r b).ending W
      next-round W =
          ran.round W
          ∙ ap (λ k. left_by v' (bit_of e.outputs) (steps q (block_of r b).body (at_byte k) (kept v' (bit_of e.inputs) (values_in vars)) (labels_in count labels)) (block_of r b).ending (at_byte (k + body_size (block_of r b))) W) stands
          ∙ ap (λ env. left_by v' (bit_of e.outputs) (steps q (block_of r b).body (body_at origin r b) env (labels_in count labels)) (block_of r b).ending (ending_at origin r b) W)
          (rw (ev ∙ at-variables p a, said.inputs') (masked (inputs_of (flow_of r) b) (values_in vars)))
          ∙ left_is way W

      pub labels-within : k ≤ q
      labels-within = ran.within

      -- a goto leads to a block that is there
      pub goto-below : (ok : Proper r) (t : ℕ) → w ≡ Ok (Leading.Goto t) → t < size r
      goto-below ok t g = go way refl
        where
          goes : (W : ℕ → List Val → List Val → Round) → W t (values_in vars') (labels_in k labels') ≡ leaving r b way (block_of r b).ending W
          goes W = sym (ap (λ x. round_of x k vars' labels' W) g) ∙ next-round W

          exits : (env ls : List Val) (o : Out Flaw Exit) → Named (block_of r b).ending o → ((W : ℕ → List Val → List Val → Round) → W t (values_in vars') (labels_in k labels') ≡ leave o (handed r b env) ls (λ u. W u (handed r b env) ls)) → t < size r
          exits env ls (value (to_block u)) n f =
              let e = f (λ x _ _. jumped x [] []) in
              let same : t ≡ u = cc in
              rw same (ok.goto-below b u h (n.goes u refl))
          exits env ls (value (to_round u)) n f = let e = f (λ _ _ _. finished Unfinished []) in let z : ◌≡◌ {A = ℕ} 0 1 = cc in absurd (omega arith)
          exits env ls (value to_stop) n f = let e = f (λ x _ _. jumped x [] []) in let z : ◌≡◌ {A = ℕ} 0 1 = cc in absurd (omega arith)
          exits env ls (fault x) n f = let e = f (λ x _ _. jumped x [] []) in let z : ◌≡◌ {A = ℕ} 0 1 = cc in absurd (omega arith)

          go : (o : Way) → way ≡ o → t < size r
          go (on env ls) i = exits env ls (exit (block_of r b).ending (ending_at origin r b) env) (exit_named (block_of r b).ending (ending_at origin r b) env) (λ W. goes W ∙ ap (λ o. leaving r b o (block_of r b).ending W) i)
          go (ended how ls) i = let e = goes (λ x _ _. jumped x [] []) ∙ ap (λ o. leaving r b o (block_of r b).ending (λ x _ _. jumped x [] [])) i in let z : ◌≡◌ {A = ℕ} 0 1 = cc in absurd (omega arith)

      -- a row that has ended does not go on
      pub ends : (how : Finish) → ((W : ℕ → List Val → List Val → Round) → round_of w k vars' labels' W ≡ finished how (labels_in k labels')) → 0 < status_number how
      ends how g = go way (steps-kept q (λ _. Unit {0}) (λ _. Unit {0}) (λ _. Unit {0}) (λ _ _ _ _ _ _ _ _. tt) (λ _ _ _ _ _ _ _ _ _ _. tt) (block_of r b).body (body_at origin r b) (entered r b (values_in vars)) (labels_in count labels) (λ _ _. tt) tt tt) refl
        where
          W : ℕ → List Val → List Val → Round
          W x env ls = jumped x env ls

          go : (o : Way) → KeptWay (λ _. Unit {0}) (λ _. Unit {0}) o → way ≡ o → 0 < status_number how
          go (on env ls) kept i =
              let l = leave-kept q (λ _. Unit {0}) (λ _. Unit {0}) (λ _. Unit {0}) (λ _ _ _ _ _ _ _ _. tt) (λ _ _ _ _ _ _ _ _ _ _. tt) (exit (block_of r b).ending (ending_at origin r b) env) (handed r b env) ls (λ u. W u (handed r b env) ls) tt tt (λ u. (tt, tt)) in
              let e : finished how (labels_in k labels') ≡ leave (exit (block_of r b).ending (ending_at origin r b) env) (handed r b env) ls (λ u. W u (handed r b env) ls) =
              sym (g W) ∙ next-round W ∙ ap (λ o. leaving r b o (block_of r b).ending W) i in
              (rw (← e) at l).0.0
          go (ended such ls) kept i =
              let e : finished how (labels_in k labels') ≡ finished such ls = sym (g W) ∙ next-round W ∙ ap (λ o. leaving r b o (block_of r b).ending W) i in
              let same : such ≡ how = cc in
              rw same at kept.0.0

      -- ---- one step of the walk
      pub goto-step : (f t : ℕ) → w ≡ Ok (Leading.Goto t) → plan_walk (suc f) r q b (values_in vars) (labels_in count labels) ≡ plan_walk f r q t (values_in vars') (labels_in k labels')
      unfolding plan_walk
      goto-step f t g = sym (next-round (λ t env ls. plan_walk f r q t env ls)) ∙ ap (λ x. round_of x k vars' labels' (λ t env ls. plan_walk f r q t env ls)) g

      pub jump-step : (f t : ℕ) → w ≡ Ok (Leading.Jump t) → plan_walk (suc f) r q b (values_in vars) (labels_in count labels) ≡ ended_as Unfinished t (labels_in k labels') (values_in vars')
      unfolding plan_walk ended_as
      jump-step f t g = sym (next-round (λ t env ls. plan_walk f r q t env ls)) ∙ ap (λ x. round_of x k vars' labels' (λ t env ls. plan_walk f r q t env ls)) g

      pub end_step : (f x : ℕ) (how : Finish) → ((W : ℕ → List Val → List Val → Round) → round_of w k vars' labels' W ≡ finished how (labels_in k labels')) → plan_walk (suc f) r q b (values_in vars) (labels_in count labels) ≡ ended_as how x (labels_in k labels') (values_in vars')
      unfolding plan_walk ended_as
      end_step f x how g =
          sym (next-round (λ t env ls. plan_walk f r q t env ls)) ∙ g (λ t env ls. plan_walk f r q t env ls)
          ∙ rw (above-ended how (ends how g))

-- ---- the loop of a round
module _ {p : List ℕ} {q block count : ℕ} {vars₀ labels₀ : List Word} where
  -- before the first block
  pub started : Accepted p → block < size (rule_in p) → count ≤ q → (left : ℕ) → left ≡ get_or p 3 0 → Going p q block count vars₀ labels₀ left block count vars₀ labels₀
  started a h l left e = record { below = h; few = l; walk' = ap (λ f. plan_walk f (rule_in p) q block (values_in vars₀) (labels_in count labels₀)) (e ∙ at-blocks p a) }

  -- nothing is left of the bound: the walk's own answer there
  pub spent : {left b n : ℕ} {vars labels : List Word} → Going p q block count vars₀ labels₀ left b n vars labels → left ≡ 0
      → Walked p q block count vars₀ labels₀ (jump_to b n) vars labels
  unfolding plan_walk ended_as
  spent g e = record { round = rw e at g.walk'; unended = λ _. refl; within = g.few }

  module _ (a : Accepted p) {left b n : ℕ} {vars labels : List Word} (g : Going p q block count vars₀ labels₀ left b n vars labels) (some : 0 < left)
      {v' : ℕ} {s : List ℕ} (ev : v' ≡ get_or p 1 0) (es : Prefix (carried p) s) {e : Entry} (said : Entered p b e) {w : Passage} {k : ℕ} {vars' labels' : List Word}
      (passed : (x : BlockHere v' s e.place) → BlockRun v' s e x q n vars labels w k vars' labels') where
    more : plan_walk (suc (left - 1)) (rule_in p) q b (values_in vars) (labels_in n labels) ≡ plan_walk (size (rule_in p)) (rule_in p) q block (values_in vars₀) (labels_in count labels₀)
    more = let l : suc (left - 1) ≡ left = omega arith in ap (λ f. plan_walk f (rule_in p) q b (values_in vars) (labels_in n labels)) l ∙ g.walk'

    fits : k ≤ q
    fits = labels-within p a b g.below ev es said passed

    pub walked_end : (how : Finish) → ((W : ℕ → List Val → List Val → Round) → round_of w k vars' labels' W ≡ finished how (labels_in k labels')) → Walked p q block count vars₀ labels₀ (record { finish = how; block = b; count = k }) vars' labels'
    walked_end how i = record { round = sym (end_step p a b g.below ev es said passed (left - 1) b how i) ∙ more; unended = λ z. no-both how z (above-ended how (ends p a b g.below ev es said passed how i)); within = fits }

    pub walked-jump : (t : ℕ) → w ≡ Ok (Leading.Jump t) → Walked p q block count vars₀ labels₀ (jump_to t k) vars' labels'
    walked-jump t i = record { round = sym (jump-step p a b g.below ev es said passed (left - 1) t i) ∙ more; unended = λ _. refl; within = fits }

    pub walked_on : Proper (rule_in p) → (t : ℕ) → w ≡ Ok (Leading.Goto t) → Going p q block count vars₀ labels₀ (left - 1) t k vars' labels'
    walked_on ok t i = record {
      below = goto-below p a b g.below ev es said passed ok t i;
      few = fits;
      walk' = sym (goto-step p a b g.below ev es said passed (left - 1) t i) ∙ more;
    }
