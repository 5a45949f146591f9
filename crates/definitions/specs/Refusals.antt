-- 01, Reply numbers: why bad input is refused, and what a call answers.
use Rattle.std.specs.Prelude.{ℕ, List, [], ◌∷◌, ◌++◌, Result, Err}
use Rattle.std.specs.Fmt.{decimal}
use Rattle.definitions.specs.declared.Reason.{Reason}
use Rattle.definitions.specs.declared.Reason.TheVariants.{FileSize, PageCheck, PageForm, BadHeader, BadTag, BadVariable, BadTarget, TooDeep, EndsEarly, BytesAfter, TooLong, NoRoom, Misfit, OverLimit, NotPlan, GotoCycle}
use Rattle.definitions.specs.declared.Refusal.{Refusal}
use Rattle.definitions.specs.declared.ByNumber.{ByNumber}

-- the numbers of the table
abbrev pub number_of : Reason → ℕ
number_of FileSize = 1
number_of PageCheck = 2
number_of PageForm = 3
number_of BadHeader = 4
number_of BadTag = 5
number_of BadVariable = 6
number_of BadTarget = 7
number_of TooDeep = 8
number_of EndsEarly = 9
number_of BytesAfter = 10
number_of TooLong = 11
number_of NoRoom = 12
number_of Misfit = 13
number_of OverLimit = 14
number_of NotPlan = 15
number_of GotoCycle = 16

-- a number that the call tells, or a refusal
abbrev pub Reply : Type 0
Reply = Result ℕ Refusal

abbrev pub refusal : Reason → ℕ → Reply
refusal k p = Err (record { reason = k; place = p })

-- by any number, also by none of the table's
abbrev pub numbered : {A : Type 0} → ℕ → ℕ → Result A ByNumber
numbered k p = Err (record { number = k; place = p })

-- a refusal as it is printed: `refused `, the number and the place
abbrev pub refusal_shown : Refusal → List ℕ
refusal_shown f = (114 ∷ 101 ∷ 102 ∷ 117 ∷ 115 ∷ 101 ∷ 100 ∷ 32 ∷ []) ++ (decimal (number_of f.reason) ++ ((32 ∷ []) ++ decimal f.place))
