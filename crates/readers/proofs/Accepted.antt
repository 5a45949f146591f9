-- Statements, endings, blocks and rules that are read can be relied on, and are refused as expressions are. Assumes nothing.
use Prim.Native.Nat.{ℕ, zero, suc, ◌+◌, ◌<◌, ◌≤◌}
use native.Mathlib.Omega.{arith}
use mathlib.Core.Path.{◌≡◌, refl}
use mathlib.Core.Bool.{Bool, true, false, not, ◌&&◌}
use mathlib.Core.List.{List, [], ◌∷◌, ◌++◌}
use lib.Dec.{ltb, leb, eqb}
use lib.ListN.{length, get_or, length-append, get_or-append, get_or-eq_default}
use lib.Seq.{get_or_at}
use borrow.Author.Tests.{ltb-true, ltb-false, leb-true, eqb-true, eqb-false, not-false}
use Rattle.definitions.specs.Rule.{Stmt, Set, Emit, End, Goto, Jump, Stop, If, Block, Rule, size, block_of}
use Rattle.definitions.specs.Columns.{reads, looks, end_looks, read_first, sets, goes_to, jumps_to}
use Rattle.definitions.specs.Grammar.{Got, got, refused, then, one, depth, levels, set_at, emit_at, end_at, end_body, end_tag, EndTag, goto_tag, jump_tag, stop_tag, if_tag, bad_end}
use Rattle.definitions.specs.Grammar.{StmtTag, set_tag, emit_tag, no_stmt, stmt_tag, with_first, block_body, block_from, between, form_in, variables_in, arguments_in, blocks_in, headed, blocks_to, whole_rule, parsed}
use Rattle.readers.specs.Readings.{stmt_at, stmt_body}
use Rattle.readers.specs.Accepted.{Below, ExprIn, CondIn, StmtIn, BodyIn, EndIn, BlockIn, no_block, RuleIn}
use Rattle.readers.proofs.Sound.{Sound, both, nothing, single, earlier, refusal, found, next, made, pair, tagged, choice, tested, deep, variable_sound, expr_sound, cond-sound, sound-got}
use Rattle.definitions.specs.declared.Reason.{Reason}
use Rattle.definitions.specs.Refusals.{number_of}
use Rattle.definitions.specs.declared.Reason.TheVariants.{BadHeader, BadTag, BadTarget, EndsEarly, BytesAfter}

-- both tests pass
passed : (a b : Bool) → a && b ≡ true → (a ≡ true) × (b ≡ true)
passed true b e = (refl, e)
passed false b e = let z : ◌≡◌ {A = ℕ} 0 1 = cc in absurd (omega arith)

-- ---- statements
module _ (v : ℕ) (s : List ℕ) where
  pub set-sound : (at : ℕ) → Sound (StmtIn v) at (length s) (set_at v s at)
  set-sound at =
      next (length s) (λ x. x < v) (StmtIn v) at _ _ (variable_sound s v at) (λ x n l u h.
      earlier (length s) (StmtIn v) at n _ (omega arith) (made (length s) (ExprIn v) (StmtIn v) (Set x) (λ e i. (h, i)) n _ (expr_sound depth v s n)))

  pub emit_sound : (at : ℕ) → Sound (StmtIn v) at (length s) (emit_at v s at)
  emit_sound at = made (length s) (ExprIn v) (StmtIn v) Emit (λ e i. i) at _ (expr_sound depth v s at)

  pub stmt_sound : (at : ℕ) → Sound (StmtIn v) at (length s) (stmt_at v s at)
  unfolding stmt_at
  stmt_sound at = tagged s (StmtIn v) at (λ t. stmt_body (stmt_tag t) v s at) (λ h. go h (stmt_tag (get_or s at 0)))
    where
      go : at < length s → (t : StmtTag) → Sound (StmtIn v) at (length s) (stmt_body t v s at)
      go h set_tag = earlier (length s) (StmtIn v) at (at + 1) _ (omega arith) (set-sound (at + 1))
      go h emit_tag = earlier (length s) (StmtIn v) at (at + 1) _ (omega arith) (emit_sound (at + 1))
      go h no_stmt = refusal (length s) (StmtIn v) at BadTag at (omega arith) (omega arith) (omega arith)

-- what statements read before they set it, and what they set
sets-in : (v : ℕ) (xs : List Stmt) → BodyIn v xs → Below v (sets xs)
unfolding sets
sets-in v [] h = nothing (λ k. k < v)
sets-in v (Set x a ∷ xs) h = both (λ k. k < v) (λ k. eqb x k) (sets xs) (single (λ k. k < v) x h.0.0) (sets-in v xs h.1)
sets-in v (Emit a ∷ xs) h = sets-in v xs h.1

read_first-in : (v : ℕ) (xs : List Stmt) (e : End) → BodyIn v xs → Below v (end_looks e) → Below v (read_first xs e)
unfolding read_first
read_first-in v [] e h g = g
read_first-in v (Set x a ∷ xs) e h g = both (λ k. k < v) (reads a) (λ k. not (eqb x k) && read_first xs e k) h.0.1 (λ k i. read_first-in v xs e h.1 g k (passed (not (eqb x k)) (read_first xs e k) i).1)
read_first-in v (Emit a ∷ xs) e h g = both (λ k. k < v) (reads a) (read_first xs e) h.0 (read_first-in v xs e h.1 g)

-- ---- endings
module _ (ts : ℕ) (v : ℕ) where
  abbrev In : End → Type 0
  In = EndIn ts v

  goto-in : (t : ℕ) → t < ts → In (Goto t)
  unfolding end_looks jumps_to goes_to
  goto-in t h = record { variables_exist = nothing (λ k. k < v); gotos-in = single (λ u. u < ts) t h; jumps_in = nothing (λ u. u < ts) }

  jump_in : (t : ℕ) → t < ts → In (Jump t)
  unfolding end_looks jumps_to goes_to
  jump_in t h = record { variables_exist = nothing (λ k. k < v); gotos-in = nothing (λ u. u < ts); jumps_in = single (λ u. u < ts) t h }

  stop_in : In Stop
  unfolding end_looks jumps_to goes_to
  stop_in = record { variables_exist = nothing (λ k. k < v); gotos-in = nothing (λ u. u < ts); jumps_in = nothing (λ u. u < ts) }

  if_in : (c : _) → CondIn v c → (x y : End) → In x → In y → In (If c x y)
  unfolding end_looks jumps_to goes_to
  if_in c h x y f g = record {
    variables_exist = both (λ k. k < v) (looks c) _ h (both (λ k. k < v) (end_looks x) (end_looks y) f.variables_exist g.variables_exist);
    gotos-in = both (λ u. u < ts) (goes_to x) (goes_to y) f.gotos-in g.gotos-in;
    jumps_in = both (λ u. u < ts) (jumps_to x) (jumps_to y) f.jumps_in g.jumps_in;
  }

  module _ (s : List ℕ) where
    end_body_lem : (E : ℕ → Got End) → ((m : ℕ) → Sound In m (length s) (E m)) → (at : ℕ) → at < length s → (t : EndTag) → Sound In at (length s) (end_body t ts v s E at)
    end_body_lem E g at h goto_tag = earlier (length s) In at (at + 1) _ (omega arith) (made (length s) (λ t. t < ts) In Goto goto-in (at + 1) _ (tested s _ (λ t. ltb t ts) BadTarget (at + 1) (omega arith) (omega arith) (λ t e. ltb-true t ts e)))
    end_body_lem E g at h jump_tag = earlier (length s) In at (at + 1) _ (omega arith) (made (length s) (λ t. t < ts) In Jump jump_in (at + 1) _ (tested s _ (λ t. ltb t ts) BadTarget (at + 1) (omega arith) (omega arith) (λ t e. ltb-true t ts e)))
    end_body_lem E g at h stop_tag = found (length s) In at Stop (at + 1) (omega arith) (omega arith) stop_in
    end_body_lem E g at h if_tag =
        earlier (length s) In at (at + 1) _ (omega arith) (next (length s) (CondIn v) In (at + 1) _ _ (cond-sound depth v s (at + 1)) (λ c m l u i.
        earlier (length s) In (at + 1) m _ (omega arith) (pair (length s) In In (If c) (if_in c i) E g m)))
    end_body_lem E g at h bad_end = refusal (length s) In at BadTag at (omega arith) (omega arith) (omega arith)

    pub end-sound : (d at : ℕ) → Sound In at (length s) (end_at d ts v s at)
    unfolding end_at
    end-sound zero at = deep In s at
    end-sound (suc d) at = tagged s In at (λ t. end_body (end_tag t) ts v s (λ m. end_at d ts v s m) at) (λ h. end_body_lem (λ m. end_at d ts v s m) (λ m. end-sound d m) at h (end_tag (get_or s at 0)))

    -- ---- blocks
    abbrev Whole : Block → Type 0
    Whole = BlockIn ts v

    one_more : (x : Stmt) (y : Block) → StmtIn v x → Whole y → Whole (with_first x y)
    one_more x y h g = record { body-in = (h, g.body-in); ending-in = g.ending-in }

    module _ (B : ℕ → Got Block) (g : (m : ℕ) → Sound Whole m (length s) (B m)) where
      -- a statement after its tag, and the block after it
      further : (at : ℕ) (p : Got Stmt) → Sound (StmtIn v) (at + 1) (length s) p → Sound Whole at (length s) (then p (λ x m. one (with_first x) B m))
      further at p h =
          earlier (length s) Whole at (at + 1) _ (omega arith) (next (length s) (StmtIn v) Whole (at + 1) p _ h (λ x m l u i.
          earlier (length s) Whole (at + 1) m _ (omega arith) (made (length s) Whole Whole (with_first x) (λ y j. one_more x y i j) m _ (g m))))

      block-body : (at : ℕ) (t : StmtTag) → Sound Whole at (length s) (block_body t ts v s B at)
      block-body at set_tag = further at (set_at v s (at + 1)) (set-sound v s (at + 1))
      block-body at emit_tag = further at (emit_at v s (at + 1)) (emit_sound v s (at + 1))
      block-body at no_stmt = made (length s) In Whole _ (λ e i. record { body-in = tt; ending-in = i }) at _ (end-sound levels at)

    pub block-sound : (f at : ℕ) → Sound Whole at (length s) (block_from f ts v s at)
    unfolding block_from
    block-sound zero at = refusal (length s) Whole at EndsEarly (length s) (omega arith) (omega arith) (omega arith)
    block-sound (suc f) at = block-body (λ m. block_from f ts v s m) (λ m. block-sound f m) at (stmt_tag (get_or s at 0))

-- ---- rules
-- the first k blocks; past them stands a block that only stops
pub record First (n v k : ℕ) (bs : List Block) : Type 0 where
  pub count : length bs ≡ k
  pub each : (b : ℕ) → BlockIn n v (get_or bs b no_block)

module _ (n v : ℕ) where
  past-in : (b : ℕ) → BlockIn n v no_block
  past-in b = record { body-in = tt; ending-in = stop_in n v }

  first-none : First n v 0 []
  first-none = record { count = refl; each = past-in }

  first_more : (k : ℕ) (bs : List Block) (x : Block) → First n v k bs → BlockIn n v x → First n v (suc k) (bs ++ (x ∷ []))
  first_more k bs x f g = record { count = long; each = λ b. go b (ltb b k) (eqb b k) refl refl }
    where
      long : length (bs ++ (x ∷ [])) ≡ suc k
      long = let h = f.count in simp length-append (omega arith)

      go : (b : ℕ) (p q : Bool) → ltb b k ≡ p → eqb b k ≡ q → BlockIn n v (get_or (bs ++ (x ∷ [])) b no_block)
      go b true q e i = let l = ltb-true b k e in let h = f.count in rw (get_or-append bs (x ∷ []) _ b (omega arith)) (f.each b)
      go b false true e i = let h = f.count in rw (eqb-true b k i, get_or_at bs x [] _ k h) g
      go b false false e i = let l = ltb-false b k e in let d = eqb-false b k i in let m = long in rw (get_or-eq_default (bs ++ (x ∷ [])) _ {n = b} (omega arith)) (past-in b)

  module _ (s : List ℕ) (there : 4 ≤ length s) where
    pub blocks-sound : (k : ℕ) → Sound (First n v k) 3 (length s) (blocks_to n v s k)
    unfolding blocks_to
    blocks-sound zero = found (length s) (First n v 0) 3 [] 4 (omega arith) there first-none
    blocks-sound (suc k) =
        next (length s) (First n v k) (First n v (suc k)) 3 (blocks_to n v s k) _ (blocks-sound k) (λ bs at l u h.
        earlier (length s) (First n v (suc k)) 3 at _ (omega arith) (made (length s) (BlockIn n v) (First n v (suc k)) (λ x. bs ++ (x ∷ [])) (λ x g. first_more k bs x h g) at _ (block-sound n v s (length s) at)))

-- a test that holds where its opposite fails
holds : (low high x : ℕ) → not (between low high x) ≡ false → (low ≤ x) × (x ≤ high)
holds low high x e = let q = passed (leb low x) (leb x high) (not-false (between low high x) e) in (leb-true low x q.0, leb-true x high q.1)

module _ (s : List ℕ) where
  abbrev Good : Rule → Type 0
  Good = RuleIn s

  bad : (k : Reason) (p : ℕ) → 4 ≤ number_of k → number_of k ≤ 10 → p ≤ length s → Sound Good 3 (length s) (refused k p)
  bad k p l u h = refusal (length s) Good 3 k p l u h

  accepted :
      form_in s ≡ 1 → (1 ≤ variables_in s) × (variables_in s ≤ 16) → arguments_in s ≤ variables_in s → (1 ≤ blocks_in s) × (blocks_in s ≤ 64) →
      (bs : List Block) → First (blocks_in s) (variables_in s) (blocks_in s) bs → Good (record { form = form_in s; variables = variables_in s; arguments = arguments_in s; blocks = bs })
  accepted m v a n bs f = record {
    form-stands = refl;
    variables_are = refl;
    arguments_are = refl;
    blocks_are = f.count;
    form-is = m;
    variables-from = v.0;
    variables-to = v.1;
    arguments-to = a;
    blocks_from = rw f.count n.0;
    blocks_to = rw f.count n.1;
    block_in = λ b. rw f.count (f.each b);
  }

  pub rule-sound : Sound Good 3 (length s) (parsed s)
  unfolding parsed headed
  rule-sound =
      choice Good (length s) 3 (ltb (length s) 4) _ _ (λ _. bad EndsEarly (length s) (omega arith) (omega arith) (omega arith)) (λ e. let l = ltb-false (length s) 4 e in
      choice Good (length s) 3 (not (eqb (form_in s) 1)) _ _ (λ _. bad BadHeader 0 (omega arith) (omega arith) (omega arith)) (λ m.
      choice Good (length s) 3 (not (between 1 16 (variables_in s))) _ _ (λ _. bad BadHeader 1 (omega arith) (omega arith) (omega arith)) (λ v.
      choice Good (length s) 3 (not (leb (arguments_in s) (variables_in s))) _ _ (λ _. bad BadHeader 2 (omega arith) (omega arith) (omega arith)) (λ a.
      choice Good (length s) 3 (not (between 1 64 (blocks_in s))) _ _ (λ _. bad BadHeader 3 (omega arith) (omega arith) (omega arith)) (λ n.
      next (length s) (First (blocks_in s) (variables_in s) (blocks_in s)) Good 3 _ (whole_rule s) (blocks-sound (blocks_in s) (variables_in s) s l (blocks_in s)) (λ bs at h u f.
      choice Good (length s) 3 (ltb at (length s)) _ _ (λ _. bad BytesAfter at (omega arith) (omega arith) u) (λ _. found (length s) Good 3 _ at h u
      (accepted (eqb-true (form_in s) 1 (not-false _ m)) (holds 1 16 (variables_in s) v) (leb-true (arguments_in s) (variables_in s) (not-false _ a)) (holds 1 64 (blocks_in s) n) bs f))))))))

  -- ---- what is to be had of an accepted rule
  module _ (r : Rule) (n : ℕ) (e : parsed s ≡ got r n) where
    pub rule-in : RuleIn s r
    rule-in = (sound-got Good 3 (length s) (parsed s) rule-sound r n e).2

    pub gotos-exist : (b t : ℕ) → goes_to (block_of r b).ending t ≡ true → t < size r
    gotos-exist b t h = (rule-in.block_in b).ending-in.gotos-in t h

    pub jumps-exist : (b t : ℕ) → jumps_to (block_of r b).ending t ≡ true → t < size r
    jumps-exist b t h = (rule-in.block_in b).ending-in.jumps_in t h

    pub reads-exist : (b k : ℕ) → read_first (block_of r b).body (block_of r b).ending k ≡ true → k < r.variables
    reads-exist b k h = read_first-in r.variables (block_of r b).body (block_of r b).ending (rule-in.block_in b).body-in (rule-in.block_in b).ending-in.variables_exist k h

    pub sets-exist : (b k : ℕ) → sets (block_of r b).body k ≡ true → k < r.variables
    sets-exist b k h = sets-in r.variables (block_of r b).body (rule-in.block_in b).body-in k h
