-- What compiling comes to, from what opening the file left. Assumes nothing.
use Prim.Native.Nat.{ℕ, ◌≤◌}
use mathlib.Core.Path.{◌≡◌, refl, sym, ap, ◌∙◌}
use mathlib.Core.List.{List}
use native.Mathlib.Omega.{arith}
use lib.ListN.{length, take}
use Rattle.buffers.specs.Words.{over}
use Rattle.definitions.specs.Rule.{Rule}
use Rattle.definitions.specs.Grammar.{Got, got, refused, then, rule_of}
use Rattle.definitions.specs.Plan.{plan_of, end_of}
use Rattle.definitions.specs.Pages.{unpacked}
use Rattle.definitions.specs.Calls.{to_read, to_compile, bytes_in, Wrote}
use Rattle.definitions.specs.declared.Refusal.{Refusal}
use Rattle.definitions.specs.Refusals.{Reply}
use Rattle.pages.specs.Answers.{scan_of}
use Rattle.pages.proofs.Reading.{scan_got, scan_refused, absurd_got}
use Rattle.rules.specs.Opened.{Opened}
use Rattle.rules.proofs.FileLaws.{wrote-all}
use Rattle.plans.specs.Laid.{IsRule, OrderFor, size_for}
use Rattle.plans.proofs.Ruling.{plan-sized}
use Rattle.std.specs.Prelude.{Ok, Err}
use Rattle.definitions.specs.declared.Reason.{Reason}

-- reading and compiling go the same way up to the last step
compiles : (g : Got (List ℕ)) (s : List ℕ) (m : ℕ) → then g (λ s _. then (rule_of s) (λ r n. got s n)) ≡ got s m
    → (r : Rule) × (rule_of s ≡ got r m) × (then g (λ s _. then (rule_of s) (λ r n. got (plan_of r s) n)) ≡ got (plan_of r s) m)
compiles (got xs k) s m e = go (rule_of xs) refl e
  where
    go : (q : Got Rule) → rule_of xs ≡ q → then q (λ r n. got xs n) ≡ got s m
        → (r : Rule) × (rule_of s ≡ got r m) × (then (rule_of xs) (λ r n. got (plan_of r xs) n) ≡ got (plan_of r s) m)
    go (got r n) i e =
        let x : xs ≡ s = cc in
        let y : n ≡ m = cc in
        (r, rw (← x, ← y) i, rw (i, x, y))
    go (refused k p) i e = absurd_got e
compiles (refused k p) s m e = absurd_got e

refuses : (g : Got (List ℕ)) (k : Reason) (p : ℕ) → then g (λ s _. then (rule_of s) (λ r n. got s n)) ≡ refused k p
    → then g (λ s _. then (rule_of s) (λ r n. got (plan_of r s) n)) ≡ refused k p
refuses (got xs m) k p e = go (rule_of xs) refl e
  where
    go : (q : Got Rule) → rule_of xs ≡ q → then q (λ r n. got xs n) ≡ refused k p → then (rule_of xs) (λ r n. got (plan_of r xs) n) ≡ refused k p
    go (got r n) i e = absurd_got (sym e)
    go (refused a b) i e = let x : a ≡ k = cc in let y : b ≡ p = cc in rw (i, x, y)
refuses (refused a b) k p e = let x : a ≡ k = cc in let y : b ≡ p = cc in rw (x, y)

pub compile_not : (file : List ℕ) (w : Refusal) → Err w ≡ scan_of (to_read file) → Err w ≡ scan_of (to_compile file)
unfolding to_read to_compile scan_of
compile_not file w e = rw (refuses (unpacked file) w.reason w.place (scan_refused (to_read file) w (sym e)))

-- the rule in the buffer, and the plan that is to be written
pub record Ready (file s : List ℕ) : Type 0 where
  pub ruled : IsRule s
  pub what : to_compile file ≡ got (plan_of ruled.rule s) ruled.end

pub ready : {file buffer : List ℕ} {r : Reply} (n : ℕ) → Opened (to_read file) r buffer → r ≡ Ok n → Ready file (take n buffer)
unfolding to_read to_compile
ready {file} {buffer} n o e =
    let found = scan_got (to_read file) n (sym o.reply ∙ e) in
    let bytes : take n buffer ≡ bytes_in (to_read file) = o.bytes n e in
    let c = compiles (unpacked file) (bytes_in (to_read file)) (end_of (to_read file)) found.0 in
    record {
      ruled = record { rule = c.0; end = end_of (to_read file); is = rw bytes c.1; short = omega (arith, ap length bytes, found.1, o.short n e) };
      what = rw bytes c.2;
    }

module _ {file s : List ℕ} (d : Ready file s) {order : List ℕ} (o : OrderFor s order) {size : ℕ} (is : size ≡ size_for s order) where
  pub compile_size : Ok size ≡ scan_of (to_compile file)
  unfolding scan_of
  compile_size = rw d.what (ap Ok (is ∙ sym (plan-sized s d.ruled.rule d.ruled.end d.ruled.is order o)))

  pub compile_all : (old new : List ℕ) → size ≤ length old → ((r : Rule) (m : ℕ) → rule_of s ≡ got r m → new ≡ over old 0 (plan_of r s))
      → Wrote (to_compile file) old (Ok size) new
  unfolding bytes_in
  compile_all old new h w = wrote-all (to_compile file) old size compile_size new h (w d.ruled.rule d.ruled.end d.ruled.is ∙ rw d.what)

pub ready_ruled : (file : List ℕ) {buffer : List ℕ} {r : Reply} (n : ℕ) → Opened (to_read file) r buffer → r ≡ Ok n → IsRule (take n buffer)
ready_ruled file n o e = (ready n o e).ruled
