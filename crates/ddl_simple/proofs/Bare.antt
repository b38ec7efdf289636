-- Parentheses count for nothing.
use Rattle.std.proofs.Common.{◌≡◌, Option, Some, None, refl, ap, sym, ◌∙◌}
use Rattle.std.specs.Option.{option_or}
use Rattle.ddl_base.specs.declared.span.Span.{Span}
use Rattle.ddl_tree.specs.ExprTree as ex
use Rattle.ddl_simple.specs.Scope.{Scope}
use Rattle.ddl_simple.specs.Form.{bare, local_at, pure_at, pure_of}
use Rattle.ddl_simple.specs.Grammars.{grammar}

grammar_bare : (e : ex.Expr) (scope : Scope) → grammar (bare e) scope ≡ grammar e scope
grammar_bare (ex.Paren e None s) scope = grammar_bare e scope
grammar_bare e scope = refl

or_none : {A : Type 0} (o : Option A) → option_or o None ≡ o
or_none None = refl
or_none (Some x) = refl

-- a plain item that is `^` of a form
pub alone_pure : (e a : ex.Expr) (s : Span) (scope : Scope) → bare e ≡ ex.Pure a s
    → option_or (pure_at (bare e) scope) (grammar e scope) ≡ pure_of s (local_at (bare a) scope)
alone_pure e a s scope h =
    ap (λ g. option_or (pure_at (bare e) scope) g) (sym (grammar_bare e scope) ∙ ap (λ d. grammar d scope) h)
    ∙ or_none (pure_at (bare e) scope)
    ∙ ap (λ d. pure_at d scope) h

pub ruleset alone = (alone_pure)
