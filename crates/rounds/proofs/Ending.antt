-- Each step of running an ending: what stands after its tag, and where it leads. Assumes nothing.
use Prim.Native.Nat.{ℕ, zero, suc, ◌+◌, ◌-◌, ◌<◌, ◌≤◌}
use native.Mathlib.Numerals.{sub-one}
use native.Mathlib.Omega.{arith}
use native.Mathlib.Decide.{dec_lt}
use mathlib.Core.Path.{◌≡◌, sym, ◌∙◌}
use mathlib.Core.Bool.{Bool, true, false}
use mathlib.Core.List.{List}
use lib.ListN.{length, get_or}
use Rattle.definitions.specs.Values.{Word, values_in, value}
use Rattle.definitions.specs.Rule.{Cond, End, Goto, Jump, Stop, If}
use Rattle.definitions.specs.Grammar.{got, refused, two, target_at, depth, cond_at, end_at, end_body, end_tag}
use Rattle.definitions.specs.Spelling.{cond_size, end_size}
use Rattle.definitions.specs.Meaning.{at_byte, holds}
use Rattle.definitions.specs.Direct.{exit}
use Rattle.definitions.specs.declared.Flaw.{Flaw}
use Rattle.evaluators.specs.Skip.{past}
use Rattle.evaluators.specs.Answer.{Readable, holding}
use Rattle.rounds.specs.Run.{EndHere, leading_of}
use Rattle.std.specs.Prelude.{Result, Ok, Err}
use Rattle.rounds.specs.declared.blocks.Leading.{Leading}
use Rattle.evaluators.proofs.Tags.{end-bad}
use Rattle.evaluators.proofs.Reading.{no_got, then-got, one-got, two-got, byte-got, target_got}
use Rattle.evaluators.proofs.Skipping.{end-past, past_one}
use Rattle.evaluators.proofs.Sizes.{cond-size, end-size}
use Rattle.evaluators.proofs.Answers.{is-got, holds-is, held_fault_is}
use Rattle.definitions.specs.declared.Reason.TheVariants.{BadTag, TooDeep}

module _ (left v : ℕ) (s : List ℕ) (at : ℕ) (h : EndHere left v s at) where
  -- a tag stands there, and a level is left
  pub end-there : (at < length s) × (1 ≤ left)
  unfolding end_at
  end-there = go left h.reads
    where
      go : (d : ℕ) → end_at d h.targets v s at ≡ got h.ending h.next → (at < length s) × (1 ≤ d)
      go zero q = absurd (no_got TooDeep at _ _ (byte-got s at (λ t _. refused TooDeep at) _ _ q).1)
      go (suc d) q = ((byte-got s at (λ t _. end_body (end_tag t) h.targets v s (λ m. end_at d h.targets v s m) at) _ _ q).0, omega arith)

  -- what follows the tag
  end_is : end_body (end_tag (get_or s at 0)) h.targets v s (λ m. end_at (left - 1) h.targets v s m) at ≡ got h.ending h.next
  unfolding end_at
  end_is = go left end-there.1 h.reads
    where
      go : (d : ℕ) → 1 ≤ d → end_at d h.targets v s at ≡ got h.ending h.next → end_body (end_tag (get_or s at 0)) h.targets v s (λ m. end_at (d - 1) h.targets v s m) at ≡ got h.ending h.next
      go zero l q = absurd (omega arith)
      go (suc d) l q = simp sub-one (byte-got s at (λ t _. end_body (end_tag t) h.targets v s (λ m. end_at d h.targets v s m) at) _ _ q).1

  end_as : (tag : ℕ) → get_or s at 0 ≡ tag → end_body (end_tag tag) h.targets v s (λ m. end_at (left - 1) h.targets v s m) at ≡ got h.ending h.next
  end_as tag e = rw (← e) end_is

  -- a goto, a jump, a stop
  end-goto : get_or s at 0 ≡ 0x30 → (at + 1 < length s) × (h.ending ≡ Goto (get_or s (at + 1) 0))
  end-goto e =
      let w = one-got Goto (target_at h.targets s) (at + 1) h.ending h.next (end_as 0x30 e) in
      let c = target_got s (at + 1) h.targets w.0 h.next w.1 in
      (c.0, w.2 ∙ rw c.2)

  end_jump : get_or s at 0 ≡ 0x31 → (at + 1 < length s) × (h.ending ≡ Jump (get_or s (at + 1) 0))
  end_jump e =
      let w = one-got Jump (target_at h.targets s) (at + 1) h.ending h.next (end_as 0x31 e) in
      let c = target_got s (at + 1) h.targets w.0 h.next w.1 in
      (c.0, w.2 ∙ rw c.2)

  pub goto-there : get_or s at 0 ≡ 0x30 → at + 1 < length s
  goto-there e = (end-goto e).0

  pub jump_there : get_or s at 0 ≡ 0x31 → at + 1 < length s
  jump_there e = (end_jump e).0

  pub goto-answer : (env : List Word) → get_or s at 0 ≡ 0x30 → Ok (Leading.Goto (get_or s (at + 1) 0)) ≡ leading_of (exit h.ending (at_byte at) (values_in env))
  unfolding exit
  goto-answer env e = rw (end-goto e).1

  pub jump_answer : (env : List Word) → get_or s at 0 ≡ 0x31 → Ok (Leading.Jump (get_or s (at + 1) 0)) ≡ leading_of (exit h.ending (at_byte at) (values_in env))
  unfolding exit
  jump_answer env e = rw (end_jump e).1

  pub stop_answer : (env : List Word) → get_or s at 0 ≡ 0x32 → Ok Leading.Stop ≡ leading_of (exit h.ending (at_byte at) (values_in env))
  unfolding exit
  stop_answer env e = let w = end_as 0x32 e in let q : h.ending ≡ Stop = cc in rw q

  -- an if: no other tag is left
  pub if_tag_lem : (get_or s at 0 ≡ 0x30 → ⊥) → (get_or s at 0 ≡ 0x31 → ⊥) → (get_or s at 0 ≡ 0x32 → ⊥) → get_or s at 0 ≡ 0x33
  if_tag_lem a b c = go (dec_lt (get_or s at 0) 0x30) (dec_lt 0x33 (get_or s at 0))
    where
      bad : (0x30 ≤ get_or s at 0 → get_or s at 0 ≤ 0x33 → ⊥) → ⊥
      bad out = no_got BadTag at h.ending h.next (rw (end-bad (get_or s at 0) out) at end_is)

      go : Dec (get_or s at 0 < 0x30) → Dec (0x33 < get_or s at 0) → get_or s at 0 ≡ 0x33
      go (yes l) r = absurd (bad (λ x y. omega arith))
      go (no l) (yes r) = absurd (bad (λ x y. omega arith))
      go (no l) (no r) = omega arith

  module _ (tag : get_or s at 0 ≡ 0x33) where
    -- its condition and its two endings
    record Parts : Type 0 where
      test : Cond
      first : End
      second : End
      m : ℕ
      k : ℕ
      test-reads : cond_at depth v s (at + 1) ≡ got test m
      first_reads : end_at (left - 1) h.targets v s m ≡ got first k
      second_reads : end_at (left - 1) h.targets v s k ≡ got second h.next
      is : h.ending ≡ If test first second

    parts : Parts
    parts =
        let w = then-got (cond_at depth v s (at + 1)) (λ c m. two (If c) (λ m. end_at (left - 1) h.targets v s m) m) h.ending h.next (end_as 0x33 tag) in
        let u = two-got (If w.0) (λ m. end_at (left - 1) h.targets v s m) w.1 h.ending h.next w.3 in
        record { test = w.0; first = u.0; second = u.2; m = w.1; k = u.1; test-reads = w.2; first_reads = u.3; second_reads = u.4; is = u.5 }

    pub if-stands : Readable (cond_at depth v s (at + 1))
    if-stands = is-got (cond_at depth v s (at + 1)) parts.test parts.m parts.test-reads

    pub if-fault : (env : List Word) (f : Flaw) → holding (cond_at depth v s (at + 1)) (at + 1) env ≡ Err f → Err f ≡ leading_of (exit h.ending (at_byte at) (values_in env))
    unfolding exit
    if-fault env f e =
        let w = held_fault_is env (at + 1) (cond_at depth v s (at + 1)) f if-stands e in
        let q = sym w.2 ∙ parts.test-reads in
        let same : w.0 ≡ parts.test = cc in
        rw (parts.is, ← same, w.3)

    -- which ending is taken, and where it stands
    module _ (env : List Word) (b : Bool) (n : ℕ) (e : holding (cond_at depth v s (at + 1)) (at + 1) env ≡ Ok (b, n)) where
      held : (parts.m ≡ n) × (holds parts.test (at_byte (at + 1)) (values_in env) ≡ value b)
      held =
          let w = holds-is env (at + 1) (cond_at depth v s (at + 1)) b n e in
          let q = sym w.1 ∙ parts.test-reads in
          let same : w.0 ≡ parts.test = cc in
          (cc, rw (← same) w.2)

      -- where its endings stand
      first-at : at + (1 + cond_size parts.test) ≡ n
      first-at = omega (arith, held.0, cond-size depth v s (at + 1) parts.test parts.m parts.test-reads)

      pub if-first : EndHere (left - 1) v s n
      if-first = record { targets = h.targets; ending = parts.first; next = parts.k; reads = rw held.0 at parts.first_reads }

      pub if-second : EndHere (left - 1) v s (past 1 s n)
      unfolding if-first
      if-second = record {
        targets = h.targets;
        ending = parts.second;
        next = h.next;
        reads = rw (past_one s (λ m. end_at (left - 1) h.targets v s m) (end-past (left - 1) h.targets v s) n parts.first parts.k if-first.reads) parts.second_reads;
      }

      second_at : at + (1 + cond_size parts.test + end_size parts.first) ≡ past 1 s n
      unfolding if-first
      second_at =
          let p = past_one s (λ m. end_at (left - 1) h.targets v s m) (end-past (left - 1) h.targets v s) n parts.first parts.k if-first.reads in
          omega (arith, p, first-at, end-size (left - 1) h.targets v s n parts.first parts.k if-first.reads)

      pub if-true : (r : Result Leading Flaw) → b ≡ true → ((g : EndHere (left - 1) v s n) → r ≡ leading_of (exit g.ending (at_byte n) (values_in env))) → r ≡ leading_of (exit h.ending (at_byte at) (values_in env))
      unfolding exit if-first
      if-true r t q = rw (parts.is, held.1, t, first-at) (q if-first)

      pub if-false : (r : Result Leading Flaw) → b ≡ false → ((g : EndHere (left - 1) v s (past 1 s n)) → r ≡ leading_of (exit g.ending (at_byte (past 1 s n)) (values_in env))) → r ≡ leading_of (exit h.ending (at_byte at) (values_in env))
      unfolding exit if-second
      if-false r t q = rw (parts.is, held.1, t, second_at) (q if-second)
