-- What the parser answers, in words of modules and their prints alone.
use Rattle.std.specs.Prelude.{ℕ, ◌≡◌, ◌≤◌, ◌<◌, List, [], ◌∷◌, map, take, drop, length, Result, Ok, Err}
use Rattle.ddl_base.specs.declared.span.Span.{Span}
use Rattle.ddl_token.specs.declared.token.Tok.{Tok}
use Rattle.ddl_token.specs.declared.token.Token.{Token}
use Rattle.ddl_tree.specs.declared.module.Module as code_module
use Rattle.ddl_tree.specs.Depth.{module_depth}
use Rattle.ddl_tree.specs.GrammarModule.{IsModule}
use Rattle.ddl_tree.specs.PrintModule.{print_module}
use Rattle.ddl_tree.specs.SpansModule.{StandsAt}
use Rattle.ddl_tree.specs.ViewModule.{module_view}
use Rattle.ddl_reader.specs.Answers.{BeginsWithin, TooNested, Unexpected}
use Rattle.ddl_syntax.specs.declared.error.SyntaxError as code_error
use Rattle.ddl_syntax.specs.declared.error.SyntaxError.TheVariants as e

-- what the tokens are
abbrev pub kinds_of : List Token → List Tok
kinds_of ts = map (λ t. t.kind) ts

-- where a token stands in the module at this place of the list
abbrev pub place_of : ℕ → Token → Span
place_of m t = record { «module» = m; from = t.from; to = t.to }

abbrev pub places_of : ℕ → List Token → List Span
places_of m ts = map (place_of m) ts

-- with the first of the tokens that are left, each module is too deep
abbrev pub NextTooNested : ℕ → List Tok → List Tok → Type 0
NextTooNested d used [] = ⊥
NextTooNested d used (x ∷ rest) = TooNested d used x

-- the module within d that has these tokens at these places; or the first token where none goes on, or none within d
abbrev pub Answers : ℕ → ℕ → List Token → Result code_module.Module code_error.SyntaxError → Type 0
Answers d m ts (Ok a) = IsModule (module_view a) × (print_module (module_view a) ≡ kinds_of ts) × StandsAt (module_view a) (places_of m ts)
    × (module_depth (module_view a) ≤ d)
Answers d m ts (Err (e.Unexpected k)) = (k ≤ length ts) × BeginsWithin d (take k (kinds_of ts)) × Unexpected (take k (kinds_of ts)) (drop k (kinds_of ts))
Answers d m ts (Err (e.TooNested k)) = (k < length ts) × NextTooNested d (take k (kinds_of ts)) (drop k (kinds_of ts))
Answers d m ts (Err e.NoMemory) = Unit {0}
