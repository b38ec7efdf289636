-- The forms without parts that are grammars or items, and their types.
use Rattle.std.specs.Prelude.{ℕ, List, Option, Some, None, option_map, if◌then◌else◌, bytes_eq, codes}
use Rattle.ddl_base.specs.declared.span.Span.{Span}
use Rattle.ddl_types.specs.Types.{Ty, con, uint, array_of, place}
use Rattle.ddl_types.specs.Types as ty
use Rattle.ddl_tree.specs.declared.name.Name.{Name}
use Rattle.ddl_tree.specs.ExprTree as ex
use Rattle.ddl_typed.specs.Tree as t
use Rattle.ddl_simple.specs.Scope.{Scope, Meaning, meaning}

-- `uint 8`
abbrev pub byte_type : Ty
byte_type = con (uint 8) ty.none

-- `[uint 8]`
abbrev pub text_type : Ty
text_type = con array_of (ty.more byte_type ty.none)

-- `{}`
abbrev pub unit_type : Ty
unit_type = con ty.unit ty.none

-- the record of the block whose text begins at this byte
abbrev pub record_type : ℕ → Ty
record_type from = con (place from) ty.none

-- a form without the parentheses around it; one with a written type keeps them
abbrev pub bare : ex.Expr → ex.Expr
bare (ex.Paren e None s) = bare e
bare e = e

-- `UInt8` or `END`
abbrev pub primitive : Name → Option t.Expr
primitive x =
    if bytes_eq x.text (codes "UInt8") then Some (t.expr t.uint8 byte_type x.span)
    else (if bytes_eq x.text (codes "END") then Some (t.expr t.end unit_type x.span)
    else None)

-- a text
abbrev pub text_at : ex.Expr → Option t.Expr
text_at (ex.Text bs s) = Some (t.expr (t.text bs) text_type s)
text_at e = None

-- `Match` of a text
abbrev pub match_of : Name → ex.Expr → Span → Option t.Expr
match_of x e s =
    if bytes_eq x.text (codes "Match") then option_map (λ text. t.expr (t.match text) text_type s) (text_at (bare e)) else None

-- a name that is in scope, with the type of its value
abbrev pub local_at : ex.Expr → Scope → Option t.Expr
local_at (ex.Lower x) scope = option_map (λ m. t.expr (t.local m.number) m.of x.span) (meaning scope x.text)
local_at e scope = None

-- the type of a form
abbrev pub type_of : t.Expr → Ty
type_of (t.expr form of s) = of

-- `^` of a value form
abbrev pub pure_of : Span → Option t.Expr → Option t.Expr
pure_of s x = option_map (λ e. t.expr (t.pure e) (type_of e) s) x

-- `^` of a name that is in scope
abbrev pub pure_at : ex.Expr → Scope → Option t.Expr
pure_at (ex.Pure e s) scope = pure_of s (local_at (bare e) scope)
pure_at e scope = None
