-- What is passed over ends where the reading of it ends.
use Prim.Native.Nat.{ℕ, zero, suc, ◌+◌, ◌-◌, ◌<◌, ◌≤◌}
use native.Mathlib.Omega.{arith}
use native.Mathlib.Decide.{dec_lt}
use borrow.Author.Tests.{lt-ltb, le-ltb}
use mathlib.Core.Path.{◌≡◌, refl, sym, ◌∙◌}
use mathlib.Core.Bool.{Bool, true, false, cond}
use mathlib.Core.List.{List}
use lib.Dec.{ltb}
use lib.ListN.{length, get_or}
use Rattle.definitions.specs.Rule.{Expr, Cond, End, Const, Var, Neg, Op, Case, Compare, Not, Join, Goto, Jump, If}
use Rattle.definitions.specs.Grammar.{Got, got, refused, then, two, constant_at, variable_at, target_at, expr_at, cond_at, end_at, expr_body, cond_body, end_body, depth}
use Rattle.definitions.specs.Grammar.{ExprTag, const_tag, var_tag, neg_tag, case_tag, bad_expr, op_tag, expr_tag}
use Rattle.definitions.specs.Grammar.{CondTag, not_tag, bad_cond, compare_tag, join_tag, cond_tag, EndTag, goto_tag, jump_tag, stop_tag, if_tag, bad_end, end_tag}
use Rattle.evaluators.specs.Skip.{Token, token, end_token, cond_token, expr_token, token_of, pass, past}
use Rattle.evaluators.proofs.Tags.{expr_bad, cond-bad, end-bad}
use Rattle.evaluators.proofs.Reading.{no_got, then-got, one-got, two-got, byte-got, constant-got, variable_got, target_got}
use Rattle.definitions.specs.declared.Reason.TheVariants.{BadTag, TooDeep}

-- ---- tokens
expr_token_lem : (t : ℕ) (x : ExprTag) → expr_tag t ≡ x → token_of t ≡ expr_token x (cond_token (cond_tag t) (end_token (end_tag t)))
unfolding token_of
expr_token_lem t x e = rw e

cond-token : (t : ℕ) (x : CondTag) → cond_tag t ≡ x → (bad_cond ≡ x → ⊥) → token_of t ≡ cond_token x (end_token (end_tag t))
unfolding token_of
cond-token t x e good = go (dec_lt t 0x10)
  where
    go : Dec (t < 0x10) → expr_token (expr_tag t) (cond_token (cond_tag t) (end_token (end_tag t))) ≡ cond_token x (end_token (end_tag t))
    go (yes l) = absurd (good (sym (cond-bad t (λ a b. omega arith)) ∙ e))
    go (no l) = rw (expr_bad t (λ a b. omega arith), e)

end_token_lem : (t : ℕ) (x : EndTag) → end_tag t ≡ x → (bad_end ≡ x → ⊥) → token_of t ≡ end_token x
unfolding token_of
end_token_lem t x e good = go (dec_lt t 0x20)
  where
    go : Dec (t < 0x20) → expr_token (expr_tag t) (cond_token (cond_tag t) (end_token (end_tag t))) ≡ end_token x
    go (yes l) = absurd (good (sym (end-bad t (λ a b. omega arith)) ∙ e))
    go (no l) = rw (expr_bad t (λ a b. omega arith), cond-bad t (λ a b. omega arith), e)

-- each has a byte, at most five, and at most three items follow it
pub record Small (k : Token) : Type 0 where
  pub some : 1 ≤ k.bytes
  pub five : k.bytes ≤ 5
  pub three : k.items ≤ 3

pub small : (t : ℕ) → Small (token_of t)
unfolding token_of
small t = expr (expr_tag t)
  where
    end : (z : EndTag) → Small (end_token z)
    end goto_tag = omega arith
    end jump_tag = omega arith
    end stop_tag = omega arith
    end if_tag = omega arith
    end bad_end = omega arith

    con : (y : CondTag) → Small (cond_token y (end_token (end_tag t)))
    con (compare_tag r) = omega arith
    con not_tag = omega arith
    con (join_tag j) = omega arith
    con bad_cond = end (end_tag t)

    expr : (x : ExprTag) → Small (expr_token x (cond_token (cond_tag t) (end_token (end_tag t))))
    expr const_tag = omega arith
    expr var_tag = omega arith
    expr neg_tag = omega arith
    expr (op_tag o) = omega arith
    expr case_tag = omega arith
    expr bad_expr = con (cond_tag t)

-- ---- passing over
module _ (s : List ℕ) where
  pass-out : (f p at : ℕ) → length s ≤ at → pass f p s at ≡ at
  unfolding pass
  pass-out zero p at h = refl
  pass-out (suc f) zero at h = refl
  pass-out (suc f) (suc p) at h = rw (le-ltb at (length s) h)

  -- a bound that is enough gives what any other gives
  enough : (f g p at : ℕ) → length s ≤ at + f → length s ≤ at + g → pass f p s at ≡ pass g p s at
  unfolding pass
  enough zero g p at h k = sym (pass-out g p at (omega arith))
  enough (suc f) zero p at h k = pass-out (suc f) p at (omega arith)
  enough (suc f) (suc g) zero at h k = refl
  enough (suc f) (suc g) (suc p) at h k =
      let b = small (get_or s at 0) in
      rw (enough f g (p + (token_of (get_or s at 0)).items) (at + (token_of (get_or s at 0)).bytes) (omega arith) (omega arith))

  pub past-none : (at : ℕ) → past 0 s at ≡ at
  unfolding past pass
  past-none at = go (length s)
    where
      go : (f : ℕ) → pass f 0 s at ≡ at
      go zero = refl
      go (suc f) = refl

  pub past-out : (p at : ℕ) → length s ≤ at → past p s at ≡ at
  unfolding past
  past-out p at h = pass-out (length s) p at h

  pub past-step : (p at : ℕ) → at < length s → past (suc p) s at ≡ past (p + (token_of (get_or s at 0)).items) s (at + (token_of (get_or s at 0)).bytes)
  unfolding past pass
  past-step p at h = go (length s) (omega arith)
    where
      go : (f : ℕ) → length s ≤ at + f → pass f (suc p) s at ≡ pass (length s) (p + (token_of (get_or s at 0)).items) s (at + (token_of (get_or s at 0)).bytes)
      go zero l = absurd (omega arith)
      go (suc f) l =
          let b = small (get_or s at 0) in
          rw (lt-ltb at (length s) h) (enough f (length s) (p + (token_of (get_or s at 0)).items) (at + (token_of (get_or s at 0)).bytes) (omega arith) (omega arith))

  -- one token more
  pub past_next : (p at : ℕ) → 0 < p → at < length s → past p s at ≡ past (p - 1 + (token_of (get_or s at 0)).items) s (at + (token_of (get_or s at 0)).bytes)
  past_next zero at l h = absurd (omega arith)
  past_next (suc p) at l h = let e : suc p - 1 ≡ p = omega arith in rw e (past-step p at h)

  -- it goes on
  pass-grows : (f p at : ℕ) → at ≤ pass f p s at
  unfolding pass
  pass-grows zero p at = omega arith
  pass-grows (suc f) zero at = omega arith
  pass-grows (suc f) (suc p) at = go (ltb at (length s)) (pass-grows f (p + (token_of (get_or s at 0)).items) (at + (token_of (get_or s at 0)).bytes))
    where
      go : (b : Bool) → at + (token_of (get_or s at 0)).bytes ≤ pass f (p + (token_of (get_or s at 0)).items) s (at + (token_of (get_or s at 0)).bytes) → at ≤ cond b (pass f (p + (token_of (get_or s at 0)).items) s (at + (token_of (get_or s at 0)).bytes)) at
      go true h = omega arith
      go false h = omega arith

  pub past-grows : (p at : ℕ) → at < length s → at < past (suc p) s at
  unfolding past
  past-grows p at h = rw (past-step p at h) (omega (arith, small (get_or s at 0), pass-grows (length s) (p + (token_of (get_or s at 0)).items) (at + (token_of (get_or s at 0)).bytes)))

  -- ---- what is read is passed over
  -- where the tag's token has so many bytes and items
  after-token : (p at w k m : ℕ) → at < length s → token_of (get_or s at 0) ≡ token w k → past (p + k) s (at + w) ≡ past p s m → past (p + 1) s at ≡ past p s m
  after-token p at w k m h e q = let z : p + 1 ≡ suc p = omega arith in rw (z, past-step p at h, e) q

  -- bytes with no items after them
  ends : (p at w n : ℕ) → n ≡ at + 1 + w → past (p + 0) s (at + (w + 1)) ≡ past p s n
  ends p at w n e = let y : at + (w + 1) ≡ n = omega arith in let o : p + 0 ≡ p = omega arith in rw (o, y)

  -- what every reading of a kind does
  abbrev Passes : {A : Type 0} → (ℕ → Got A) → Type 0
  Passes {A = A} E = (p at : ℕ) (a : A) (n : ℕ) → E at ≡ got a n → past (p + 1) s at ≡ past p s n

  two_past : {A B : Type 0} (make : A → A → B) (E : ℕ → Got A) → Passes E → (p at : ℕ) (b : B) (m : ℕ) → two make E at ≡ got b m → past (p + 2) s at ≡ past p s m
  two_past make E h p at b m e =
      let w = two-got make E at b m e in
      let z : p + 2 ≡ p + 1 + 1 = omega arith in
      rw z (h (p + 1) at w.0 w.1 w.3 ∙ h p w.1 w.2 m w.4)

  three-past : {H A B : Type 0} (make : H → A → A → B) (C : ℕ → Got H) (E : ℕ → Got A) → Passes C → Passes E → (p at : ℕ) (b : B) (m : ℕ) → then (C at) (λ c n. two (make c) E n) ≡ got b m → past (p + 3) s at ≡ past p s m
  three-past make C E g h p at b m e =
      let w = then-got (C at) (λ c n. two (make c) E n) b m e in
      let z : p + 3 ≡ p + 2 + 1 = omega arith in
      rw z (g (p + 2) at w.0 w.1 w.2 ∙ two_past (make w.0) E h p w.1 b m w.3)

  module _ (v : ℕ) (E : ℕ → Got Expr) (C : ℕ → Got Cond) (hE : Passes E) (hC : Passes C) (p at : ℕ) (there : at < length s) where
    expr_body_lem : (x : ExprTag) → expr_tag (get_or s at 0) ≡ x → (a : Expr) (n : ℕ) → expr_body x v s E C at ≡ got a n → past (p + 1) s at ≡ past p s n
    expr_body_lem const_tag q a n e = let w = one-got Const (constant_at s) (at + 1) a n e in after-token p at 5 0 n there (expr_token_lem _ _ q) (ends p at 4 n (constant-got s (at + 1) w.0 n w.1).2)
    expr_body_lem var_tag q a n e = let w = one-got Var (variable_at v s) (at + 1) a n e in after-token p at 2 0 n there (expr_token_lem _ _ q) (ends p at 1 n (variable_got s (at + 1) v w.0 n w.1).3)
    expr_body_lem neg_tag q a n e = after-token p at 1 1 n there (expr_token_lem _ _ q) (let w = one-got Neg E (at + 1) a n e in hE p (at + 1) w.0 n w.1)
    expr_body_lem (op_tag o) q a n e = after-token p at 1 2 n there (expr_token_lem _ _ q) (two_past (Op o) E hE p (at + 1) a n e)
    expr_body_lem case_tag q a n e = after-token p at 1 3 n there (expr_token_lem _ _ q) (three-past Case C E hC hE p (at + 1) a n e)
    expr_body_lem bad_expr q a n e = absurd (no_got BadTag at a n e)

    cond-body : (x : CondTag) → cond_tag (get_or s at 0) ≡ x → (a : Cond) (n : ℕ) → cond_body x E C at ≡ got a n → past (p + 1) s at ≡ past p s n
    cond-body (compare_tag r) q a n e = after-token p at 1 2 n there (cond-token _ _ q (λ z. let o : ◌≡◌ {A = ℕ} 0 1 = cc in omega arith)) (two_past (Compare r) E hE p (at + 1) a n e)
    cond-body not_tag q a n e = after-token p at 1 1 n there (cond-token _ _ q (λ z. let o : ◌≡◌ {A = ℕ} 0 1 = cc in omega arith)) (let w = one-got Not C (at + 1) a n e in hC p (at + 1) w.0 n w.1)
    cond-body (join_tag j) q a n e = after-token p at 1 2 n there (cond-token _ _ q (λ z. let o : ◌≡◌ {A = ℕ} 0 1 = cc in omega arith)) (two_past (Join j) C hC p (at + 1) a n e)
    cond-body bad_cond q a n e = absurd (no_got BadTag at a n e)

-- an expression, or a condition
mutual
  unfolding expr_at

  pub expr_past : (d v : ℕ) (s : List ℕ) → Passes s (λ at. expr_at d v s at)
  expr_past zero v s p at a n e = absurd (no_got TooDeep at a n (byte-got s at (λ t _. refused TooDeep at) a n e).1)
  expr_past (suc d) v s p at a n e =
      let b = byte-got s at (λ t _. expr_body (expr_tag t) v s (λ n. expr_at d v s n) (λ n. cond_at d v s n) at) a n e in
      expr_body_lem s v (λ n. expr_at d v s n) (λ n. cond_at d v s n) (λ p at a n e. expr_past d v s p at a n e) (λ p at a n e. cond-past d v s p at a n e) p at b.0 (expr_tag (get_or s at 0)) refl a n b.1

  pub cond-past : (d v : ℕ) (s : List ℕ) → Passes s (λ at. cond_at d v s at)
  cond-past zero v s p at a n e = absurd (no_got TooDeep at a n (byte-got s at (λ t _. refused TooDeep at) a n e).1)
  cond-past (suc d) v s p at a n e =
      let b = byte-got s at (λ t _. cond_body (cond_tag t) (λ n. expr_at d v s n) (λ n. cond_at d v s n) at) a n e in
      cond-body s v (λ n. expr_at d v s n) (λ n. cond_at d v s n) (λ p at a n e. expr_past d v s p at a n e) (λ p at a n e. cond-past d v s p at a n e) p at b.0 (cond_tag (get_or s at 0)) refl a n b.1

-- an ending
module _ (ts : ℕ) (v : ℕ) (s : List ℕ) (p at : ℕ) (there : at < length s) (E : ℕ → Got End) (hE : Passes s E) where
  end_body_lem : (x : EndTag) → end_tag (get_or s at 0) ≡ x → (a : End) (m : ℕ) → end_body x ts v s E at ≡ got a m → past (p + 1) s at ≡ past p s m
  end_body_lem goto_tag q a m e = let w = one-got Goto (target_at ts s) (at + 1) a m e in after-token s p at 2 0 m there (end_token_lem _ _ q (λ z. let o : ◌≡◌ {A = ℕ} 0 1 = cc in omega arith)) (ends s p at 1 m (target_got s (at + 1) ts w.0 m w.1).3)
  end_body_lem jump_tag q a m e = let w = one-got Jump (target_at ts s) (at + 1) a m e in after-token s p at 2 0 m there (end_token_lem _ _ q (λ z. let o : ◌≡◌ {A = ℕ} 0 1 = cc in omega arith)) (ends s p at 1 m (target_got s (at + 1) ts w.0 m w.1).3)
  end_body_lem stop_tag q a m e = after-token s p at 1 0 m there (end_token_lem _ _ q (λ z. let o : ◌≡◌ {A = ℕ} 0 1 = cc in omega arith)) (let o : m ≡ at + 1 = cc in ends s p at 0 m (omega arith))
  end_body_lem if_tag q a m e = after-token s p at 1 3 m there (end_token_lem _ _ q (λ z. let o : ◌≡◌ {A = ℕ} 0 1 = cc in omega arith)) (three-past s If (λ k. cond_at depth v s k) E (cond-past depth v s) hE p (at + 1) a m e)
  end_body_lem bad_end q a m e = absurd (no_got BadTag at a m e)

pub end-past : (d : ℕ) (ts : ℕ) (v : ℕ) (s : List ℕ) → Passes s (λ at. end_at d ts v s at)
unfolding end_at
end-past zero ts v s p at a m e = absurd (no_got TooDeep at a m (byte-got s at (λ t _. refused TooDeep at) a m e).1)
end-past (suc d) ts v s p at a m e =
    let w = byte-got s at (λ t _. end_body (end_tag t) ts v s (λ m. end_at d ts v s m) at) a m e in
    end_body_lem ts v s p at w.0 (λ m. end_at d ts v s m) (λ p at a m e. end-past d ts v s p at a m e) (end_tag (get_or s at 0)) refl a m w.1

-- where one reading of a kind ends
pub past_one : (s : List ℕ) {A : Type 0} (E : ℕ → Got A) → Passes s E → (at : ℕ) (a : A) (n : ℕ) → E at ≡ got a n → past 1 s at ≡ n
past_one s E h at a n e = h 0 at a n e ∙ past-none s n
