-- Which bytes are which rule, said without the reader: a rule's bytes are those that its tree is written in, and every tree within the limits is one.
-- Assumes that every byte is below 256, where a reading is given.
use Prim.Native.Nat.{ℕ, ◌≤◌}
use native.Mathlib.Omega.{arith}
use mathlib.Core.Path.{◌≡◌, refl, sym, ap, ◌∙◌}
use mathlib.Core.Logic.{◌↔◌}
use mathlib.Core.List.{List}
use lib.ListN.{length}
use Rattle.definitions.specs.Rule.{Rule, size}
use Rattle.definitions.specs.Grammar.{got, then, rule_of, longest}
use Rattle.definitions.specs.Pages.{file_of, unpacked}
use Rattle.definitions.specs.Calls.{to_read, to_write, Wrote}
use Rattle.definitions.specs.Spelling.{in_turn, block_bytes, bytes_of}
use Rattle.definitions.specs.Values.{Val}
use Rattle.definitions.specs.Direct.{start, after}
use Rattle.definitions.specs.Faulting.{Among, Telling}
use Rattle.definitions.specs.Limits.{Every, BlockKeeps, Limits}
use Rattle.definitions.specs.Refusals.{Reply}
use Rattle.definitions.proofs.Faults.{run_tells}
use Rattle.pages.proofs.Trip.{Bytes, read_write}
use Rattle.rules.specs.Replies.{Make, OfRule, bad, cycle, short, done, OfFile, page, holds, ToWrite, long, may}
use Rattle.rules.specs.Spelling.{Accepts}
use Rattle.readers.proofs.Accepted.{rule-in}
use Rattle.readers.proofs.Places.{rule-blocks, rule_end, rule-header}
use Rattle.readers.proofs.Spelt.{Spelt, spelt_whole}
use Rattle.readers.proofs.SpeltRead.{rule_gives}
use Rattle.readers.proofs.SpeltSmall.{rule-small}
use Rattle.readers.proofs.ReadSpelt.{blocks-spelt}
use Rattle.rules.proofs.Uncycled.{rule-parsed, rule_no_cycle, rule-whole}
use Rattle.rules.proofs.Promises.{file-exactly, write_exactly}
use Rattle.std.specs.Prelude.{Ok}

-- ---- what is read
module _ (s : List ℕ) (r : Rule) (n : ℕ) (e : rule_of s ≡ got r n) where
  module _ (small : Bytes s) where
    spelt : Every (BlockKeeps (size r) r.variables) r.blocks × Spelt s 4 (in_turn block_bytes r.blocks) n
    spelt = blocks-spelt s small r.variables (size r) (size r) r.blocks n (rule-blocks s r n (rule-parsed s r n e))

    read-limits : Limits r
    read-limits =
        let i = rule-in s r n (rule-parsed s r n e) in
        record {
          form-is = i.form-is;
          variables-from = i.variables-from;
          variables-to = i.variables-to;
          arguments-to = i.arguments-to;
          blocks_from = i.blocks_from;
          blocks_to = i.blocks_to;
          blocks_keep = spelt.0;
          no_cycle = rule_no_cycle s r n e;
        }

    read-bytes : s ≡ bytes_of r
    unfolding bytes_of
    read-bytes =
        let i = rule-in s r n (rule-parsed s r n e) in
        let l = rule-header s r n (rule-parsed s r n e) in
        let h : Spelt s 4 (in_turn block_bytes r.blocks) (length s) = rw (rule_end s r n (rule-parsed s r n e)) at spelt.1 in
        spelt_whole s (bytes_of r) (omega arith, sym i.form-stands, (omega arith, sym i.variables_are, (omega arith, sym i.arguments_are, (omega arith, sym i.blocks_are, h))))

-- ---- the theorem: accepted as r exactly if these are the bytes of r, and r keeps to the limits
pub rule-exactly : (s : List ℕ) → Bytes s → (r : Rule) (n : ℕ) → (rule_of s ≡ got r n) ↔ ((s ≡ bytes_of r) × Limits r × (n ≡ length s))
rule-exactly s small r n = (
  λ e. (read-bytes s r n e small, read-limits s r n e small, rule_end s r n (rule-parsed s r n e)),
  λ h. rw (h.2, h.0) (rule-whole (bytes_of r) r (length (bytes_of r)) (rule_gives r h.1) h.1.no_cycle),
)

-- a tree is some rule's exactly if it keeps to the limits
pub tree_exactly : (r : Rule) → Limits r ↔ ((s : List ℕ) × Bytes s × (rule_of s ≡ got r (length s)))
tree_exactly r = (λ l. (bytes_of r, rule-small r l, rule-whole (bytes_of r) r (length (bytes_of r)) (rule_gives r l) l.no_cycle), λ h. read-limits h.0 r (length h.0) h.2 h.1)

-- each string of bytes is the writing of one tree
pub one-reading : (r r' : Rule) → Limits r → Limits r' → bytes_of r ≡ bytes_of r' → r ≡ r'
one-reading r r' l l' e = let p = rule-whole (bytes_of r) r (length (bytes_of r)) (rule_gives r l) l.no_cycle in let q = rule-whole (bytes_of r') r' (length (bytes_of r')) (rule_gives r' l') l'.no_cycle in cc (ap rule_of e)

-- each tree has one writing
pub one_writing : (s s' : List ℕ) → Bytes s → Bytes s' → (r : Rule) (n n' : ℕ) → rule_of s ≡ got r n → rule_of s' ≡ got r n' → s ≡ s'
one_writing s s' b b' r n n' e e' = read-bytes s r n e b ∙ sym (read-bytes s' r n' e' b')

-- 02, K4: of accepted bytes, a row tells where the operator at fault stands in them, and 0 if none is
pub row_tells : (s : List ℕ) → Bytes s → (r : Rule) (n : ℕ) → rule_of s ≡ got r n → (q rounds : ℕ) (args : List Val) → Telling (Among 0 s) (after r q rounds (start r args)).finish
row_tells s small r n e q rounds args = rw (read-bytes s r n e small) (run_tells r q rounds args)

-- ---- the calls
module _ (make : Make) (s : List ℕ) (room n : ℕ) where
  rule-accepted : Bytes s → (q : Reply) → q ≡ Ok n → OfRule make s room q → Accepts make s room n
  rule-accepted small q i (bad e _ _ _) = let z : ◌≡◌ {A = ℕ} 0 1 = cc in absurd (omega arith)
  rule-accepted small q i (cycle e l) = let z : ◌≡◌ {A = ℕ} 0 1 = cc in absurd (omega arith)
  rule-accepted small q i (short e l) = let z : ◌≡◌ {A = ℕ} 0 1 = cc in absurd (omega arith)
  rule-accepted small q i (done {r} e l) =
      let h = (rule-exactly s small r _).0 e in
      let w : length (make r s) ≡ n = cc in
      record { rule = r; limits = h.1; written = h.0; size = sym w; fits = omega arith }

  accepted-rule : Accepts make s room n → OfRule make s room (Ok n)
  accepted-rule a =
      let r = a.rule in
      let e : rule_of s ≡ got r (length (bytes_of r)) = rw a.written (rule-whole (bytes_of r) r (length (bytes_of r)) (rule_gives r a.limits) a.limits.no_cycle) in
      rw a.size (done e (omega (arith, a.size, a.fits)))

-- writing: a rule that is not over-long, in its pages
pub write_accepts : (s old : List ℕ) (q : Reply) (new : List ℕ) → Bytes s → Wrote (to_write s) old q new → (n : ℕ) → (q ≡ Ok n) ↔ ((length s ≤ longest) × Accepts (λ r s. file_of s) s (length old) n)
write_accepts s old q new small w n = (
  λ i. to q i ((write_exactly s old q new w q).0 refl),
  λ h. (write_exactly s old q new w (Ok n)).1 (may h.0 (accepted-rule (λ r s. file_of s) s (length old) n h.1)),
)
  where
    to : (q : Reply) → q ≡ Ok n → ToWrite s (length old) q → (length s ≤ longest) × Accepts (λ r s. file_of s) s (length old) n
    to q i (long l) = let z : ◌≡◌ {A = ℕ} 0 1 = cc in absurd (omega arith)
    to q i (may l h) = (l, rule-accepted (λ r s. file_of s) s (length old) n small q i h)

-- reading and compiling: a file whose pages hold a rule
pub file-accepts :
    (make : Make) (file old : List ℕ) (q : Reply) (new : List ℕ) → Bytes file → Wrote (then (unpacked file) (λ s _. then (rule_of s) (λ r n. got (make r s) n))) old q new →
    (n : ℕ) → (q ≡ Ok n) ↔ ((s : List ℕ) × (m : ℕ) × (unpacked file ≡ got s m) × Accepts make s (length old) n)
file-accepts make file old q new small w n = (
  λ i. to q i ((file-exactly make file old q new w q).0 refl),
  λ h. (file-exactly make file old q new w (Ok n)).1 (holds h.2 (accepted-rule make h.0 (length old) n h.3)),
)
  where
    to : (q : Reply) → q ≡ Ok n → OfFile make file (length old) q → (s : List ℕ) × (m : ℕ) × (unpacked file ≡ got s m) × Accepts make s (length old) n
    to q i (page h) = let z : ◌≡◌ {A = ℕ} 0 1 = cc in absurd (omega arith)
    to q i (holds {s} e h) = (s, _, e, rule-accepted make s (length old) n (read_write file s _ small e).bytes q i h)

pub read-accepts : (file old : List ℕ) (q : Reply) (new : List ℕ) → Bytes file → Wrote (to_read file) old q new → (n : ℕ) → (q ≡ Ok n) ↔ ((s : List ℕ) × (m : ℕ) × (unpacked file ≡ got s m) × Accepts (λ r s. s) s (length old) n)
unfolding to_read
read-accepts file old q new small w = file-accepts (λ r s. s) file old q new small w
