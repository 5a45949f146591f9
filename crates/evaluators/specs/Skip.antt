-- Passing over what stands at a place, token by token, without reading it as a tree.
use Rattle.std.specs.Prelude.{ℕ, zero, suc, ◌+◌, cond, List, ltb, length, get_or}
use Rattle.definitions.specs.Grammar.{ExprTag, const_tag, var_tag, neg_tag, case_tag, bad_expr, op_tag, expr_tag}
use Rattle.definitions.specs.Grammar.{CondTag, not_tag, bad_cond, compare_tag, join_tag, cond_tag, EndTag, goto_tag, jump_tag, stop_tag, if_tag, bad_end, end_tag}

-- a token: how many bytes it has, its tag among them, and how many expressions, conditions or endings follow it
pub record Token : Type 0 where
  pub bytes : ℕ
  pub items : ℕ

abbrev pub token : ℕ → ℕ → Token
token w k = record { bytes = w; items = k }

abbrev pub end_token : EndTag → Token
end_token goto_tag = token 2 0
end_token jump_tag = token 2 0
end_token stop_tag = token 1 0
end_token if_tag = token 1 3
end_token bad_end = token 1 0

abbrev pub cond_token : CondTag → Token → Token
cond_token (compare_tag r) other = token 1 2
cond_token not_tag other = token 1 1
cond_token (join_tag j) other = token 1 2
cond_token bad_cond other = other

abbrev pub expr_token : ExprTag → Token → Token
expr_token const_tag other = token 5 0
expr_token var_tag other = token 2 0
expr_token neg_tag other = token 1 1
expr_token (op_tag o) other = token 1 2
expr_token case_tag other = token 1 3
expr_token bad_expr other = other

-- the token that a tag begins
unfoldable pub token_of : ℕ → Token
token_of t = expr_token (expr_tag t) (cond_token (cond_tag t) (end_token (end_tag t)))

-- the place where so many items due at a place end. The first number bounds how many tokens are passed: each has a byte, so the length is enough
unfoldable pub pass : ℕ → ℕ → List ℕ → ℕ → ℕ
pass zero due s at = at
pass (suc f) zero s at = at
pass (suc f) (suc due) s at = cond (ltb at (length s)) (pass f (due + (token_of (get_or s at 0)).items) s (at + (token_of (get_or s at 0)).bytes)) at

unfoldable pub past : ℕ → List ℕ → ℕ → ℕ
past due s at = pass (length s) due s at
