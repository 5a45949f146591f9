-- The numbers of the reasons: from 1 to 16, and each stands for one reason. Assumes nothing.
use Rattle.std.proofs.Common.{◌≡◌, ℕ, ◌≤◌, [], ◌∷◌, get_or, refl, sym, ap, ◌∙◌, arith}
use Rattle.definitions.specs.Refusals.{number_of}
use Rattle.definitions.specs.declared.Reason.{Reason}
use Rattle.definitions.specs.declared.Reason.TheVariants.{FileSize, PageCheck, PageForm, BadHeader, BadTag, BadVariable, BadTarget, TooDeep, EndsEarly, BytesAfter, TooLong, NoRoom, Misfit, OverLimit, NotPlan, GotoCycle}

pub number_low : (k : Reason) → (1 ≤ number_of k) × (number_of k ≤ 16)
number_low FileSize = (omega arith, omega arith)
number_low PageCheck = (omega arith, omega arith)
number_low PageForm = (omega arith, omega arith)
number_low BadHeader = (omega arith, omega arith)
number_low BadTag = (omega arith, omega arith)
number_low BadVariable = (omega arith, omega arith)
number_low BadTarget = (omega arith, omega arith)
number_low TooDeep = (omega arith, omega arith)
number_low EndsEarly = (omega arith, omega arith)
number_low BytesAfter = (omega arith, omega arith)
number_low TooLong = (omega arith, omega arith)
number_low NoRoom = (omega arith, omega arith)
number_low Misfit = (omega arith, omega arith)
number_low OverLimit = (omega arith, omega arith)
number_low NotPlan = (omega arith, omega arith)
number_low GotoCycle = (omega arith, omega arith)

-- the reason with a number
abbrev numbered : ℕ → Reason
numbered n = get_or (FileSize ∷ FileSize ∷ PageCheck ∷ PageForm ∷ BadHeader ∷ BadTag ∷ BadVariable ∷ BadTarget ∷ TooDeep ∷ EndsEarly ∷ BytesAfter ∷ TooLong ∷ NoRoom ∷ Misfit ∷ OverLimit ∷ NotPlan ∷ GotoCycle ∷ []) n FileSize

found : (k : Reason) → numbered (number_of k) ≡ k
found FileSize = refl
found PageCheck = refl
found PageForm = refl
found BadHeader = refl
found BadTag = refl
found BadVariable = refl
found BadTarget = refl
found TooDeep = refl
found EndsEarly = refl
found BytesAfter = refl
found TooLong = refl
found NoRoom = refl
found Misfit = refl
found OverLimit = refl
found NotPlan = refl
found GotoCycle = refl

pub number_once : (j k : Reason) → number_of j ≡ number_of k → j ≡ k
number_once j k e = sym (found j) ∙ ap numbered e ∙ found k
