-- One token of a written type.
use Rattle.std.specs.Prelude.{ℕ, ◌+◌, max, List, ◌∷◌, Option, Some, None, if◌then◌else◌, codes}
use Rattle.std.specs.Str.{bytes_eq}
use Rattle.ddl_base.specs.declared.span.Span.{Span}
use Rattle.ddl_token.specs.declared.token.Tok.{Tok}
use Rattle.ddl_token.specs.declared.token.Tok.TheVariants as k
use Rattle.ddl_token.specs.declared.token.Base.{Base}
use Rattle.ddl_token.specs.declared.mark.Mark.TheVariants as m
use Rattle.ddl_tree.specs.declared.name.Number.{Number}
use Rattle.ddl_tree.specs.TypeTree as ty
use Rattle.ddl_tree.specs.ExprTree as ex
use Rattle.ddl_reader.specs.Frames.{Frame, Focus, State, FoundType, Found}
use Rattle.ddl_reader.specs.Frames as frame
use Rattle.ddl_tree.specs.ExprTree.{expr_span}

-- from the beginning of one part to the end of another
abbrev pub joined : Span → Span → Span
joined a b = record { «module» = a.module; from = a.from; to = b.to }

abbrev pub found_type : ty.TypeExpr → ℕ → FoundType
found_type t n = record { type = t; deep = n }

abbrev pub found : ex.Expr → ℕ → Found
found e n = record { expr = e; deep = n }

-- a type that has been read whole ends the forms whose last part it is
abbrev pub type_done : List Frame → ty.TypeExpr → ℕ → State
type_done (frame.in_maybe s ∷ fs) t n = type_done fs (ty.Maybe t (joined s (ty.type_span t))) (1 + n)
type_done (frame.in_cast o a ∷ fs) t n = (fs, frame.have (found (ex.Cast o a.expr t (joined (expr_span a.expr) (ty.type_span t))) (1 + max a.deep n)))
type_done fs t n = (fs, frame.have_type (found_type t n))

abbrev pub number_at : ℕ → Base → ℕ → Span → Number
number_at v b d s = record { value = v; base = b; digits = d; span = s }

-- the words of types are names elsewhere
abbrev pub type_word : List ℕ → Span → List Frame → Option State
type_word x s fs =
    if bytes_eq x (codes "int") then Some (type_done fs (ty.Int s) 1)
    else (if bytes_eq x (codes "uint") then Some (fs, frame.want_uint s)
    else (if bytes_eq x (codes "sint") then Some (fs, frame.want_sint s)
    else (if bytes_eq x (codes "bool") then Some (type_done fs (ty.Bool s) 1)
    else (if bytes_eq x (codes "stream") then Some (type_done fs (ty.Stream s) 1)
    else (if bytes_eq x (codes "float") then Some (type_done fs (ty.Float s) 1)
    else (if bytes_eq x (codes "double") then Some (type_done fs (ty.Double s) 1)
    else (if bytes_eq x (codes "maybe") then Some (frame.in_maybe s ∷ fs, frame.want_type)
    else None)))))))

-- the first token of a type
abbrev pub begin_type : Tok → Span → List Frame → Option State
begin_type (k.Lower x) s fs = type_word x s fs
begin_type (k.Upper x) s fs = Some (type_done fs (ty.Named (record { text = x; span = s })) 1)
begin_type (k.Mark m.OpenBracket) s fs = Some (frame.in_bracket s ∷ fs, frame.want_type)
begin_type (k.Mark m.OpenBrace) s fs = Some (fs, frame.open_empty s)
begin_type (k.Mark m.OpenParen) s fs = Some (frame.in_within s ∷ fs, frame.want_type)
begin_type _ s fs = None

-- the width after `uint` and after `sint`
abbrev pub width_uint : Tok → Span → Span → List Frame → Option State
width_uint (k.Number v b d) s from fs = Some (type_done fs (ty.Uint (number_at v b d s) (joined from s)) 1)
width_uint _ s from fs = None

abbrev pub width_sint : Tok → Span → Span → List Frame → Option State
width_sint (k.Number v b d) s from fs = Some (type_done fs (ty.Sint (number_at v b d s) (joined from s)) 1)
width_sint _ s from fs = None

-- the second brace of `{}`
abbrev pub close_empty : Tok → Span → Span → List Frame → Option State
close_empty (k.Mark m.CloseBrace) s from fs = Some (type_done fs (ty.Empty (joined from s)) 1)
close_empty _ s from fs = None

-- after the first type in brackets
abbrev pub after_element : Tok → Span → Span → FoundType → List Frame → Option State
after_element (k.Mark m.CloseBracket) s from t fs = Some (type_done fs (ty.ArrayOf t.type (joined from s)) (1 + t.deep))
after_element (k.Mark m.Arrow) s from t fs = Some (frame.in_map_value from t ∷ fs, frame.want_type)
after_element _ s from t fs = None

abbrev pub after_map_value : Tok → Span → Span → FoundType → FoundType → List Frame → Option State
after_map_value (k.Mark m.CloseBracket) s from t u fs = Some (type_done fs (ty.MapOf t.type u.type (joined from s)) (1 + max t.deep u.deep))
after_map_value _ s from t u fs = None

abbrev pub after_within : Tok → Span → Span → FoundType → List Frame → Option State
after_within (k.Mark m.CloseParen) s from t fs = Some (type_done fs (ty.Within t.type (joined from s)) (1 + t.deep))
after_within _ s from t fs = None
