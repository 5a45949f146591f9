-- One statement: what stands there, and what running it comes to. Then a block's statements: what is left to run after one. Assumes nothing.
use Prim.Native.Nat.{ℕ, zero, suc, ◌+◌, ◌-◌, ◌<◌, ◌≤◌}
use native.Mathlib.Numerals.{add-one}
use native.Mathlib.Omega.{arith}
use native.Mathlib.Decide.{ℕ_discrete}
use borrow.Author.Tests.{lt-ltb, le-ltb, ne_eqb}
use mathlib.Core.Path.{◌≡◌, refl, sym, ap, subst, ◌∙◌}
use mathlib.Core.Bool.{Bool, true, false, cond}
use mathlib.Core.List.{List, [], ◌∷◌, ◌++◌}
use lib.Dec.{eqb}
use lib.IntN.{ℤ}
use lib.ListN.{length, get_or, take, drop, set}
use lib.Seq.{length-take-le, take-suc-set, drop-set-lt, drop-drop}
use Rattle.definitions.specs.Values.{Word, number, values_in, value, fault}
use Rattle.definitions.specs.Rule.{Expr, Set, Emit, End, Block}
use Rattle.definitions.specs.Grammar.{Got, got, then, one, variable_at, depth, levels, expr_at, set_at, emit_at, end_at, with_first, StmtTag, set_tag, emit_tag, no_stmt, stmt_tag, block_body, block_from}
use Rattle.definitions.specs.Spelling.{stmt_size, in_turn, body_size}
use Rattle.definitions.specs.Meaning.{at_byte, eval}
use Rattle.definitions.specs.Direct.{on, ended, onward, step, steps}
use Rattle.definitions.specs.declared.Flaw.{Flaw}
use Rattle.definitions.specs.declared.Finish.{Finish}
use Rattle.definitions.proofs.Values.{values_length, values-set, values-append}
use Rattle.readers.specs.Readings.{stmt_body, stmt_at}
use Rattle.evaluators.specs.Answer.{Readable, answer}
use Rattle.rounds.specs.Run.{StmtHere, Ran, labels_in, StmtRun, BlockHere, BodyRun}
use Rattle.std.specs.Prelude.{Ok, Err}
use Rattle.evaluators.proofs.Reading.{no_got, then-got, one-got, byte-got, variable_got}
use Rattle.evaluators.proofs.Skipping.{past-grows, past_one, expr_past}
use Rattle.evaluators.proofs.Sizes.{set-size, emit_size, first-size}
use Rattle.evaluators.proofs.Answers.{is-got, value-is, fault-is}
use Rattle.evaluators.proofs.Evaluating.{expr_there}
use Rattle.rounds.proofs.Ending.{end-there}
use Rattle.definitions.specs.declared.Reason.TheVariants.{BadTag, EndsEarly}
use Rattle.definitions.specs.declared.Finish.TheVariants.{Faulted, QuotaFull}

-- what is read ends past where it begins
expr_grows : (d v : ℕ) (s : List ℕ) (at : ℕ) (e : Expr) (n : ℕ) → expr_at d v s at ≡ got e n → (at < length s) × (at < n)
expr_grows d v s at e n q =
    let h = (expr_there d v s at (is-got (expr_at d v s at) e n q)).0 in
    (h, rw (past_one s (expr_at d v s) (expr_past d v s) at e n q) at (past-grows s 0 at h))

-- ---- one statement
module _ (v : ℕ) (s : List ℕ) (at : ℕ) (h : StmtHere v s at) where
  stmt_there : (at < length s) × (stmt_body (stmt_tag (get_or s at 0)) v s at ≡ got h.what h.next)
  unfolding stmt_at
  stmt_there = byte-got s at (λ t _. stmt_body (stmt_tag t) v s at) h.what h.next h.reads

  record SetHere : Type 0 where
    there : at + 1 < length s
    below : get_or s (at + 1) 0 < v
    value : Expr
    reads : expr_at depth v s (at + 2) ≡ got value h.next
    is : h.what ≡ Set (get_or s (at + 1) 0) value

  set_here : get_or s at 0 ≡ 0x20 → SetHere
  set_here e =
      let q : set_at v s (at + 1) ≡ got h.what h.next = rw e at stmt_there.1 in
      let u = then-got (variable_at v s (at + 1)) (λ x n. one (Set x) (expr_at depth v s) n) h.what h.next q in
      let k = variable_got s (at + 1) v u.0 u.1 u.2 in
      let p = one-got (Set u.0) (expr_at depth v s) u.1 h.what h.next u.3 in
      let place : u.1 ≡ at + 2 = omega arith in
      record { there = k.0; below = k.1; value = p.0; reads = ap (expr_at depth v s) (sym place) ∙ p.1; is = p.2 ∙ ap (λ (x : ℕ). Set x p.0) k.2 }

  record EmitHere : Type 0 where
    value : Expr
    reads : expr_at depth v s (at + 1) ≡ got value h.next
    is : h.what ≡ Emit value

  -- no other tag is left
  emit_here : (get_or s at 0 ≡ 0x20 → ⊥) → EmitHere
  emit_here f = go (eqb (get_or s at 0) 0x21) (rw (ne_eqb (get_or s at 0) 0x20 f) at stmt_there.1)
    where
      go : (b : Bool) → stmt_body (cond b emit_tag no_stmt) v s at ≡ got h.what h.next → EmitHere
      go true q = let p = one-got Emit (expr_at depth v s) (at + 1) h.what h.next q in record { value = p.0; reads = p.1; is = p.2 }
      go false q = absurd (no_got BadTag at h.what h.next q)

  stmt_grows : at < h.next
  stmt_grows = go (ℕ_discrete (get_or s at 0) 0x20)
    where
      go : Dec (get_or s at 0 ≡ 0x20) → at < h.next
      go (yes e) = let w = set_here e in omega (arith, (expr_grows depth v s (at + 2) w.value h.next w.reads).1)
      go (no f) = let w = emit_here f in omega (arith, (expr_grows depth v s (at + 1) w.value h.next w.reads).1)

  -- it ends where its bytes end
  stmt_size_lem : h.next ≡ at + stmt_size h.what
  stmt_size_lem = go (stmt_tag (get_or s at 0)) stmt_there.1
    where
      go : (t : StmtTag) → stmt_body t v s at ≡ got h.what h.next → h.next ≡ at + stmt_size h.what
      go set_tag q = set-size v s at h.what h.next q
      go emit_tag q = emit_size v s at h.what h.next q
      go no_stmt q = absurd (no_got BadTag at h.what h.next q)

-- what the evaluator's answer says of the expression that stands there
module _ {p : Got Expr} {e : Expr} {n : ℕ} (reads : p ≡ got e n) (at : ℕ) (env : List Word) where
  valued : (z : ℤ) (m : ℕ) → answer p at env ≡ Ok (z, m) → (n ≡ m) × (eval e (at_byte at) (values_in env) ≡ value (number z))
  valued z m a =
      let u = value-is env at p z m a in
      let both = sym reads ∙ u.1 in
      let same : n ≡ m = cc in
      let expr : e ≡ u.0 = cc in
      (same, rw expr u.2)

  faulty : (k : Flaw) → answer p at env ≡ Err k → eval e (at_byte at) (values_in env) ≡ fault k
  faulty k a =
      let u = fault-is env at p k (is-got p e n reads) a in
      let both = sym reads ∙ u.2 in
      let expr : e ≡ u.0 = cc in
      rw expr u.3

module _ {v : ℕ} {s : List ℕ} {at : ℕ} (h : StmtHere v s at) {q count : ℕ} {vars labels : List Word} (few : count ≤ q) where
  -- the row ends so, here
  ends : (how : Finish) → step q h.what (at_byte at) (values_in vars) (labels_in count labels) ≡ ended how (labels_in count labels) → StmtRun h.what at h.next q count vars labels (Err how) count vars labels
  ends how e = record { way = sym e; place = λ p r. let z : ◌≡◌ {A = ℕ} 0 1 = cc in absurd (omega arith); grows = omega arith; within = few; rest = refl }

  -- ---- a set
  pub set_on : (z : ℤ) (m : ℕ) → get_or s at 0 ≡ 0x20 → answer (expr_at depth v s (at + 2)) (at + 2) vars ≡ Ok (z, m) → StmtRun h.what at h.next q count vars labels (Ok m) count (set vars (get_or s (at + 1) 0) z) labels
  unfolding step
  set_on z m e a =
      let w = set_here v s at h e in
      let u = valued w.reads (at + 2) vars z m a in
      let same = u.0 in
      record { way = rw (w.is, u.1, values-set vars (get_or s (at + 1) 0) z); place = λ p r. cc; grows = omega arith; within = few; rest = refl }

  pub set-fault : (k : Flaw) → get_or s at 0 ≡ 0x20 → answer (expr_at depth v s (at + 2)) (at + 2) vars ≡ Err k → StmtRun h.what at h.next q count vars labels (Err (Faulted k)) count vars labels
  unfolding step
  set-fault k e a = let w = set_here v s at h e in ends (Faulted k) (rw (w.is, faulty w.reads (at + 2) vars k a))

  -- ---- an emit
  pub emit_on : (z : ℤ) (m : ℕ) → (get_or s at 0 ≡ 0x20 → ⊥) → answer (expr_at depth v s (at + 1)) (at + 1) vars ≡ Ok (z, m) → count < q → q ≤ length labels → StmtRun h.what at h.next q count vars labels (Ok m) (count + 1) vars (set labels count z)
  unfolding step
  emit_on z m f a l room =
      let w = emit_here v s at h f in
      let u = valued w.reads (at + 1) vars z m a in
      let same = u.0 in
      let more : labels_in (count + 1) (set labels count z) ≡ labels_in count labels ++ (number z ∷ []) = rw (add-one, take-suc-set labels count z (omega arith)) (values-append (take count labels) (z ∷ [])) in
      let size : length (labels_in count labels) ≡ count = values_length (take count labels) ∙ length-take-le count labels (omega arith) in
      record { way = rw (w.is, u.1, size, lt-ltb count q l, more); place = λ p r. cc; grows = omega arith; within = omega arith; rest = drop-set-lt (count + 1) labels count z (omega arith) }

  pub emit_full : (z : ℤ) (m : ℕ) → (get_or s at 0 ≡ 0x20 → ⊥) → answer (expr_at depth v s (at + 1)) (at + 1) vars ≡ Ok (z, m) → q ≤ count → q ≤ length labels → StmtRun h.what at h.next q count vars labels (Err QuotaFull) count vars labels
  unfolding step
  emit_full z m f a l room =
      let w = emit_here v s at h f in
      let u = valued w.reads (at + 1) vars z m a in
      let size : length (labels_in count labels) ≡ count = values_length (take count labels) ∙ length-take-le count labels (omega arith) in
      ends QuotaFull (rw (w.is, u.1, size, le-ltb count q l))

  pub emit_fault : (k : Flaw) → (get_or s at 0 ≡ 0x20 → ⊥) → answer (expr_at depth v s (at + 1)) (at + 1) vars ≡ Err k → StmtRun h.what at h.next q count vars labels (Err (Faulted k)) count vars labels
  unfolding step
  emit_fault k g a = let w = emit_here v s at h g in ends (Faulted k) (rw (w.is, faulty w.reads (at + 1) vars k a))

-- what a call of the evaluator asks
module _ (v : ℕ) (s : List ℕ) (at : ℕ) (h : StmtHere v s at) where
  pub tag_there : at < length s
  tag_there = (stmt_there v s at h).0

  pub set_there : get_or s at 0 ≡ 0x20 → (at + 1 < length s) × (get_or s (at + 1) 0 < v)
  set_there e = let w = set_here v s at h e in (w.there, w.below)

  pub set_readable : get_or s at 0 ≡ 0x20 → Readable (expr_at depth v s (at + 2))
  set_readable e = let w = set_here v s at h e in is-got (expr_at depth v s (at + 2)) w.value h.next w.reads

  pub emit_readable : (get_or s at 0 ≡ 0x20 → ⊥) → Readable (expr_at depth v s (at + 1))
  emit_readable f = let w = emit_here v s at h f in is-got (expr_at depth v s (at + 1)) w.value h.next w.reads

-- ---- a block's statements
module _ (v : ℕ) (s : List ℕ) (at : ℕ) (h : BlockHere v s at) where
  -- what follows, by the tag
  block-is : (f : ℕ) × (block_body (stmt_tag (get_or s at 0)) h.targets v s (λ m. block_from f h.targets v s m) at ≡ got h.what h.next)
  unfolding block_from
  block-is = go h.bound h.reads
    where
      go : (k : ℕ) → block_from k h.targets v s at ≡ got h.what h.next → (f : ℕ) × (block_body (stmt_tag (get_or s at 0)) h.targets v s (λ m. block_from f h.targets v s m) at ≡ got h.what h.next)
      go zero q = absurd (no_got EndsEarly (length s) h.what h.next q)
      go (suc f) q = (f, q)

  -- a byte stands there
  pub block-there : at < length s
  block-there = go (stmt_tag (get_or s at 0)) block-is.1
    where
      go : (t : StmtTag) → block_body t h.targets v s (λ m. block_from block-is.0 h.targets v s m) at ≡ got h.what h.next → at < length s
      go set_tag q =
          let w = then-got (set_at v s (at + 1)) (λ x m. one (with_first x) (λ m. block_from block-is.0 h.targets v s m) m) h.what h.next q in
          let u = then-got (variable_at v s (at + 1)) (λ x n. one (Set x) (expr_at depth v s) n) w.0 w.1 w.2 in
          omega (arith, (variable_got s (at + 1) v u.0 u.1 u.2).0)
      go emit_tag q =
          let w = then-got (emit_at v s (at + 1)) (λ x m. one (with_first x) (λ m. block_from block-is.0 h.targets v s m) m) h.what h.next q in
          let p = one-got Emit (expr_at depth v s) (at + 1) w.0 w.1 w.2 in
          omega (arith, (expr_grows depth v s (at + 1) p.0 w.1 p.1).0)
      go no_stmt q =
          let w = one-got (λ e. record { body = []; ending = e }) (end_at levels h.targets v s) at h.what h.next q in
          (end-there levels v s at (record { targets = h.targets; ending = w.0; next = h.next; reads = w.1 })).0

  -- a statement stands there, and after it the rest of the block
  record Followed : Type 0 where
    stmt : StmtHere v s at
    rest : BlockHere v s stmt.next
    targets : rest.targets ≡ h.targets
    next : rest.next ≡ h.next
    is : h.what ≡ with_first stmt.what rest.what

  followed : (f : ℕ) → then (stmt_at v s at) (λ x m. one (with_first x) (λ m. block_from f h.targets v s m) m) ≡ got h.what h.next → Followed
  followed f q =
      let w = then-got (stmt_at v s at) (λ x m. one (with_first x) (λ m. block_from f h.targets v s m) m) h.what h.next q in
      let u = one-got (with_first w.0) (λ m. block_from f h.targets v s m) w.1 h.what h.next w.3 in
      record { stmt = record { what = w.0; next = w.1; reads = w.2 }; rest = record { bound = f; targets = h.targets; what = u.0; next = h.next; reads = u.1 }; targets = refl; next = refl; is = u.2 }

  stmt_follows : 0x20 ≤ get_or s at 0 → get_or s at 0 ≤ 0x21 → Followed
  unfolding stmt_at
  stmt_follows l u = go (ℕ_discrete (get_or s at 0) 0x20)
    where
      go : Dec (get_or s at 0 ≡ 0x20) → Followed
      go (yes e) = followed block-is.0 (rw (lt-ltb at (length s) block-there, e) (rw e at block-is.1))
      go (no f) = let e : get_or s at 0 ≡ 0x21 = omega arith in followed block-is.0 (rw (lt-ltb at (length s) block-there, e) (rw e at block-is.1))

  -- the block's ending
  end-here : (get_or s at 0 ≡ 0x20 → ⊥) → (get_or s at 0 ≡ 0x21 → ⊥) → (end_at levels h.targets v s at ≡ got h.what.ending h.next) × (h.what.body ≡ [])
  end-here a c =
      let b = block-is in
      let t : stmt_tag (get_or s at 0) ≡ no_stmt = simp (ne_eqb (get_or s at 0) 0x20 a, ne_eqb (get_or s at 0) 0x21 c) in
      let w = one-got (λ e. record { body = []; ending = e }) (end_at levels h.targets v s) at h.what h.next (rw t at b.1) in
      let e : h.what.ending ≡ w.0 = ap (λ (k : Block). k.ending) w.2 in
      (w.1 ∙ ap (λ (x : End). got x h.next) (sym e), ap (λ (k : Block). k.body) w.2)

-- what is read is the same where all that it depends on is
moved : (v : ℕ) (s : List ℕ) (g g' : ℕ) (e e' : End) (m m' i p : ℕ) → g ≡ g' → e ≡ e' → m ≡ m' → i ≡ p → end_at levels g v s i ≡ got e m → end_at levels g' v s p ≡ got e' m'
moved v s g g' e e' m m' i p h₁ h₂ h₃ h₄ q = cc

-- lists that are the same from n on are so from a later place on
drop-further : (n m : ℕ) (xs ys : List Word) → n ≤ m → drop n xs ≡ drop n ys → drop m xs ≡ drop m ys
drop-further n m xs ys l e =
    let k : n + (m - n) ≡ m = omega arith in
    rw k at (sym (drop-drop (m - n) n xs) ∙ ap (drop (m - n)) e ∙ drop-drop (m - n) n ys)

-- ---- the run so far
-- at the place i, with n labels: the statements left give what all of them give
pub record Rest (v : ℕ) (s : List ℕ) (at : ℕ) (h : BlockHere v s at) (q count : ℕ) (vars labels vars' labels' : List Word) (i n : ℕ) : Type 0 where
  pub here : BlockHere v s i
  pub targets : here.targets ≡ h.targets
  pub next : here.next ≡ h.next
  pub ending : here.what.ending ≡ h.what.ending
  pub passed : i + body_size here.what ≡ at + body_size h.what
  pub left : steps q here.what.body (at_byte i) (values_in vars') (labels_in n labels') ≡ steps q h.what.body (at_byte at) (values_in vars) (labels_in count labels)
  pub within : n ≤ q
  pub room : q ≤ length labels'
  pub size : length labels' ≡ length labels
  pub stays : drop n labels' ≡ drop n labels

module _ {v : ℕ} {s : List ℕ} {at : ℕ} {h : BlockHere v s at} {q count : ℕ} {vars labels vars' labels' : List Word} {i n : ℕ} (R : Rest v s at h q count vars labels vars' labels' i n) where
  -- a byte stands there
  pub rest-there : i < length s
  rest-there = block-there v s i R.here

  module _ (l : 0x20 ≤ get_or s i 0) (u : get_or s i 0 ≤ 0x21) where
    pub stmt-next : StmtHere v s i
    stmt-next = (stmt_follows v s i R.here l u).stmt

    -- the statements from here on: this one, and the others
    split : steps q R.here.what.body (at_byte i) (values_in vars') (labels_in n labels') ≡ onward (step q stmt-next.what (at_byte i) (values_in vars') (labels_in n labels')) (λ env ls. steps q (stmt_follows v s i R.here l u).rest.what.body (at_byte stmt-next.next) env ls)
    unfolding steps stmt-next
    split =
        let w = stmt_follows v s i R.here l u in
        ap (λ (b : Block). steps q b.body (at_byte i) (values_in vars') (labels_in n labels')) w.is
        ∙ ap (λ k. onward (step q w.stmt.what (at_byte i) (values_in vars') (labels_in n labels')) (λ env ls. steps q w.rest.what.body (at_byte k) env ls)) (sym (stmt_size_lem v s i w.stmt))

    module _ {r : Ran} {m : ℕ} {env out : List Word} (ran : (x : StmtHere v s i) → StmtRun x.what i x.next q n vars' labels' r m env out) where
      pub went_on : (p : ℕ) → r ≡ Ok p → length out ≡ length labels' → (i < p) × Rest v s at h q count vars labels env out p m
      unfolding stmt-next
      went_on p e size =
          let w = stmt_follows v s i R.here l u in
          let x = rw e at (ran stmt-next) in
          let place : w.stmt.next ≡ p = sym (x.place p refl) in
          let g = stmt_grows v s i w.stmt in
          let later : drop m out ≡ drop m labels = x.rest ∙ drop-further n m labels' labels x.grows R.stays in
          let left : steps q w.rest.what.body (at_byte w.stmt.next) (values_in env) (labels_in m out) ≡ steps q h.what.body (at_byte at) (values_in vars) (labels_in count labels) = rw (← x.way) at (sym split) ∙ R.left in (
            omega arith,
            subst (λ k. Rest v s at h q count vars labels env out k m) place (record {
              here = w.rest;
              targets = w.targets ∙ R.targets;
              next = w.next ∙ R.next;
              ending = sym (ap (λ (b : Block). b.ending) w.is) ∙ R.ending;
              passed = omega (arith, stmt_size_lem v s i w.stmt, first-size w.stmt.what w.rest.what, ap body_size w.is, R.passed);
              left = left;
              within = x.within;
              room = rw size R.room;
              size = size ∙ R.size;
              stays = later;
            }),
          )

      pub ended-there : (how : Finish) → r ≡ Err how → BodyRun v s at h q count vars labels (Err how) m env out
      ended-there how e =
          let x = rw e at (ran stmt-next) in
          let way : ended how (labels_in m out) ≡ steps q h.what.body (at_byte at) (values_in vars) (labels_in count labels) = rw (← x.way) at (sym split) ∙ R.left in
          record { way = way; ending = λ p q. let z : ◌≡◌ {A = ℕ} 0 1 = cc in absurd (omega arith); place = λ p q. let z : ◌≡◌ {A = ℕ} 0 1 = cc in absurd (omega arith); within = x.within; rest = x.rest ∙ drop-further n m labels' labels x.grows R.stays }

  -- ---- the end of the statements
  pub all_run : (get_or s i 0 ≡ 0x20 → ⊥) → (get_or s i 0 ≡ 0x21 → ⊥) → BodyRun v s at h q count vars labels (Ok i) n vars' labels'
  unfolding steps in_turn
  all_run a c =
      let w = end-here v s i R.here a c in
      let size : body_size R.here.what ≡ 0 = rw w.1 in
      let none : steps q R.here.what.body (at_byte i) (values_in vars') (labels_in n labels') ≡ on (values_in vars') (labels_in n labels') = rw w.1 in
      record { way = sym none ∙ R.left; ending = λ p e. moved v s _ _ _ _ _ _ i p R.targets R.ending R.next (cc) w.0; place = λ p e. let same : i ≡ p = cc in omega (arith, same, size, R.passed); within = R.within; rest = R.stays }
