-- What the exit of a `?` answers where the error is handed on as it is, and what `ok` and `ok_or` were asked of. Assumes nothing.
use Rattle.std.proofs.Common.{◌≡◌, ap, ◌∙◌, Result, Ok, Err, Option, Some, None}
use Rattle.std.specs.Result.{IsErr, IsErrAnd, result_ok}
use Rattle.std.specs.Option.{ok_or}
use Rattle.std.proofs.lemmas.Result.{err_from_is_err_and}

module _ {T E : Type 0} where
  pub handed : (r : Result T E) (e : E) → IsErr r × IsErrAnd r (λ y. y ≡ e) → r ≡ Err e
  handed r e h = let p = err_from_is_err_and r h.1 in p.1 ∙ ap Err p.2

  pub ok-some : (r : Result T E) (x : T) → result_ok r ≡ Some x → r ≡ Ok x
  ok-some (Ok y) x h = cc
  ok-some (Err e) x h = cc

  pub ok-none : (r : Result T E) → result_ok r ≡ None → (e : E) × (r ≡ Err e)
  ok-none (Ok y) h = cc
  ok-none (Err e) h = (e, cc)

  pub ok_or-some : (o : Option T) (e : E) (x : T) → ok_or o e ≡ Ok x → o ≡ Some x
  ok_or-some (Some y) e x h = cc
  ok_or-some None e x h = cc

  pub ok_or-none : (o : Option T) (e d : E) → ok_or o e ≡ Err d → (o ≡ None) × (d ≡ e)
  ok_or-none (Some y) e d h = (cc, cc)
  ok_or-none None e d h = (cc, cc)
