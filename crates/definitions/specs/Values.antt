-- 01, Meaning: values and words, and what the operators give. Each is its exact result over the integers, then a test of its range.
use Rattle.std.specs.Prelude.{Bool, false, cond, ◌||◌, List, map, Result, Ok, Err, ℕ, eqb, ℤ, pos, negsuc, neg_ℤ, nat_abs, ◌+ℤ◌, ◌-ℤ◌, ◌*ℤ◌}
use Rattle.std.specs.Int.Signed.{lt_z, quot_z}
use Rattle.definitions.specs.declared.Kind.{Kind}
use Rattle.definitions.specs.declared.Kind.TheVariants.{ZeroDivisor, OutOfRange}

-- ---- values and words

-- a word of a buffer holds a value, or a number from 0 up
abbrev pub Word : Type 0
Word = ℤ

-- what a variable holds, an expression gives and a label is
pub data Val : Type 0 where
  number : ℤ → Val

-- a value as the word of a buffer
abbrev pub as_word : Val → Word
as_word (number z) = z

-- the values of words, and their words
abbrev pub values_in : List Word → List Val
values_in ws = map number ws

abbrev pub words_of : List Val → List Word
words_of xs = map as_word xs

-- what a variable holds that nothing has set
abbrev pub unset : Val
unset = number (pos 0)

-- ---- what is worked out

-- the number of each kind of fault: 2 for a divisor of 0, 3 for a result out of range
abbrev pub kind_number : Kind → ℕ
kind_number ZeroDivisor = 2
kind_number OutOfRange = 3

-- a result of some type, or the fault that stands in its place
pub data Out (F B : Type 0) : Type 0 where
  value : B → Out F B
  fault : F → Out F B

-- the first fault stands: what comes later is worked out only from a value
abbrev pub also : {F B C : Type 0} → Out F B → (B → Out F C) → Out F C
also (value b) f = f b
also (fault k) f = fault k

-- ---- the operators, over the integers: a fault is told by its kind

-- the answer of the code for each case
abbrev pub outcome_of : Out Kind ℤ → Result ℤ Kind
outcome_of (value z) = Ok z
outcome_of (fault k) = Err k

-- the ends of the range
abbrev pub lowest : ℤ
lowest = neg_ℤ (pos 2147483648)

abbrev pub highest : ℤ
highest = pos 2147483647

-- an exact result: itself where it lies in the range, else fault 3
unfoldable pub settled : ℤ → Out Kind ℤ
settled z = cond (lt_z z lowest || lt_z highest z) (fault OutOfRange) (value z)

abbrev pub negation : ℤ → Out Kind ℤ
negation x = settled (neg_ℤ x)

abbrev pub sum : ℤ → ℤ → Out Kind ℤ
sum x y = settled (x +ℤ y)

abbrev pub difference : ℤ → ℤ → Out Kind ℤ
difference x y = settled (x -ℤ y)

abbrev pub product : ℤ → ℤ → Out Kind ℤ
product x y = settled (x *ℤ y)

-- a divisor of 0 is fault 2, in division and in remainder
abbrev pub divided : ℤ → Out Kind ℤ → Out Kind ℤ
divided y o = cond (eqb (nat_abs y) 0) (fault ZeroDivisor) o

-- division rounds toward zero, as `quot_z` does
unfoldable pub quotient : ℤ → ℤ → Out Kind ℤ
quotient x y = divided y (settled (quot_z x y))

-- what is left of x when y is taken off as often as the quotient says
unfoldable pub remainder : ℤ → ℤ → Out Kind ℤ
remainder x y = divided y (settled (x -ℤ y *ℤ quot_z x y))

-- the two comparisons
abbrev pub is_less : ℤ → ℤ → Bool
is_less x y = lt_z x y

abbrev pub is_equal : ℤ → ℤ → Bool
is_equal (pos a) (pos b) = eqb a b
is_equal (pos a) (negsuc b) = false
is_equal (negsuc a) (pos b) = false
is_equal (negsuc a) (negsuc b) = eqb a b
