-- The values of words, list by list. Assumes nothing.
use Prim.Native.Nat.{ℕ, zero, suc}
use mathlib.Core.Path.{◌≡◌, refl, sym, ap, ◌∙◌}
use mathlib.Core.List.{List, [], ◌∷◌, ◌++◌}
use lib.IntN.{pos}
use lib.ListN.{length, get_or, set}
use Rattle.definitions.specs.Values.{Word, Val, number, as_word, values_in, words_of, unset}

pub values_length : (ws : List Word) → length (values_in ws) ≡ length ws
values_length [] = refl
values_length (w ∷ ws) = ap suc (values_length ws)

pub words-length : (xs : List Val) → length (words_of xs) ≡ length xs
words-length [] = refl
words-length (x ∷ xs) = ap suc (words-length xs)

-- what is read of the values is read of the words
pub value-at : (ws : List Word) (k : ℕ) → get_or (values_in ws) k unset ≡ number (get_or ws k (pos 0))
value-at [] k = refl
value-at (w ∷ ws) zero = refl
value-at (w ∷ ws) (suc k) = value-at ws k

pub values-set : (ws : List Word) (k : ℕ) (z : Word) → values_in (set ws k z) ≡ set (values_in ws) k (number z)
values-set [] k z = refl
values-set (w ∷ ws) zero z = refl
values-set (w ∷ ws) (suc k) z = ap (λ (l : List Val). number w ∷ l) (values-set ws k z)

pub values-append : (ws us : List Word) → values_in (ws ++ us) ≡ values_in ws ++ values_in us
values-append [] us = refl
values-append (w ∷ ws) us = ap (λ (l : List Val). number w ∷ l) (values-append ws us)

-- the words of values that come from words are these
pub words-again : (ws : List Word) → words_of (values_in ws) ≡ ws
words-again [] = refl
words-again (w ∷ ws) = ap (λ (l : List Word). w ∷ l) (words-again ws)

pub words_append : (xs ys : List Val) → words_of (xs ++ ys) ≡ words_of xs ++ words_of ys
words_append [] ys = refl
words_append (x ∷ xs) ys = ap (λ (l : List Word). as_word x ∷ l) (words_append xs ys)

-- and the values of their words are these values
pub values-again : (xs : List Val) → values_in (words_of xs) ≡ xs
values-again [] = refl
values-again (number z ∷ xs) = ap (λ (l : List Val). number z ∷ l) (values-again xs)

pub word_at : (xs : List Val) (k : ℕ) → number (get_or (words_of xs) k (pos 0)) ≡ get_or xs k unset
word_at xs k = sym (value-at (words_of xs) k) ∙ ap (λ (l : List Val). get_or l k unset) (values-again xs)
