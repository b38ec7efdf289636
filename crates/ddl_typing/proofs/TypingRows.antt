-- Worked rows: what the bodies of small groups ask, computed on the definitions, and whether it is met.
use Rattle.std.proofs.Common.{◌≡◌, ℕ, zero, suc, ◌==◌, List, [], ◌∷◌, None, Some, true, false, Bool, refl, if◌then◌else◌}
use Rattle.std.specs.Prelude.{codes, get_or}
use Rattle.ddl_base.specs.declared.span.Span.{Span}
use Rattle.ddl_kinds.specs.declared.bound.Bound.{Bound}
use Rattle.ddl_kinds.specs.declared.bound.Bound.TheVariants.{Decl, Local}
use Rattle.ddl_kinds.specs.declared.bound.Use.{Use}
use Rattle.ddl_token.specs.declared.token.Base.TheVariants.{Decimal}
use Rattle.ddl_tree.specs.ExprTree as ex
use Rattle.ddl_tree.specs.TypeTree as w
use Rattle.ddl_tree.specs.declared.kind.Kind.TheVariants as k
use Rattle.ddl_tree.specs.declared.name.Name.{Name}
use Rattle.ddl_tree.specs.declared.name.Number.{Number}
use Rattle.ddl_tree.specs.declared.operator.CastOp.TheVariants as cast
use Rattle.ddl_tree.specs.declared.operator.InfixOp.TheVariants as i
use Rattle.ddl_tree.specs.declared.pattern.Pat.TheVariants as p
use Rattle.ddl_tree.specs.declared.pattern.Shape.TheVariants as h
use Rattle.ddl_types.specs.Types.{Ty, var, con, none, more, uint, int, bool, array_of, Sub}
use Rattle.ddl_types.specs.Conditions.{field, lit, lossless, num, tag}
use Rattle.ddl_unify.specs.Equations.{Solves}
use Rattle.ddl_judging.specs.Demands.{condition, on_demand}
use Rattle.ddl_judging.specs.Judging.{Judged, false_for, holds, undecided, literal_range, not_lossless}
use Rattle.ddl_judging.specs.Shapes.{Shapes}
use Rattle.ddl_ops.specs.declared.pattern.Pattern.TheVariants as pattern
use Rattle.ddl_typed.specs.Tree as t
use Rattle.ddl_rules.specs.Asks as a
use Rattle.ddl_rules.specs.Asks.{Ask, Env, Known, State, asks_for, unknown, wants}
use Rattle.ddl_rules.specs.Refusing.{type_refusal}
use Rattle.ddl_rules.specs.declared.refusing.TypeRefusal.TheVariants.{FloatOut, WidthRange}
use Rattle.ddl_typing.specs.Gaps.{first_gap}
use Rattle.ddl_typing.specs.Groups.{Body, TypedGroup, elaborated_group, equations_of, group_on}
use Rattle.ddl_typing.specs.Making.{elaborated}
use Rattle.ddl_typing.specs.Replaced.{tree_on}

abbrev place : ℕ → ℕ → Span
place from to = record { «module» = 0; from = from; to = to }

abbrev name : List ℕ → ℕ → ℕ → Name
name x from to = record { text = x; span = place from to }

-- a number of so many digits
abbrev number : ℕ → ℕ → ℕ → ℕ → Number
number v d from to = record { value = v; base = Decimal; digits = d; span = place from to }

abbrev use_at : ℕ → ℕ → Bound → Use
use_at from to b = record { span = place from to; bound = b }

abbrev uint_type : ℕ → ℕ → ℕ → ℕ → ℕ → w.TypeExpr
uint_type n d from at to = w.Uint (number n d at to) (place from to)

-- ---- groups of one declaration, whose type is `?0`, and which is known as such

abbrev own : Known
own = record { vars = 0; kinds = []; params = []; of = var 0; conditions = [] }

abbrev alone : List Use → ex.Expr → TypedGroup
alone uses tree = elaborated_group (record { locals = []; of = var 0; header = []; uses = uses; tree = tree } ∷ []) (λ d. own)
    (record { uses = []; next = 1; places = []; texts = []; sites = 0 })

abbrev no_shapes : Shapes
no_shapes = record { places = []; bitdata = [] }

-- each variable is of this type
abbrev always : Ty → Sub
always u v = u

abbrev byte : Ty
byte = con (uint 8) none

-- ---- `def Main = ^ (256 : uint 8)`: the number has no room in its type

abbrev wide_number : TypedGroup
wide_number = alone [] (ex.Pure (ex.Paren (ex.Num (number 256 3 14 17)) (Some (uint_type 8 1 20 25 26)) (place 13 27)) (place 11 27))

wide_number_asks : wide_number.asks ≡ wants (var 0) byte (place 11 27) ∷ wants byte (var 1) (place 14 17) ∷ asks_for (lit 256 (var 1)) (place 14 17) ∷ []
wide_number_asks = refl

wide_number_solved : Solves (always byte) (equations_of wide_number.asks)
wide_number_solved = (refl, (refl, tt))

wide_number_false : Judged no_shapes (on_demand (always byte) (condition (lit 256 (var 1)))) (false_for (literal_range 256 byte))
wide_number_false = refl

-- `255` has
widest_number : Judged no_shapes (on_demand (always byte) (condition (lit 255 (var 1)))) holds
widest_number = refl

-- ---- `def Main = ^ (0 : uint 129)` and `def Main = ^ (0 : float)`: the written types are none

wide_type : type_refusal (uint_type 129 3 18 23 26) ≡ Some (WidthRange (place 18 26) 129)
wide_type = refl

float_type : type_refusal (w.Float (place 18 23)) ≡ Some (FloatOut (place 18 23))
float_type = refl

-- ---- `def Main = ^ ((1 : int) as uint 8)`: an `int` may have no room in a byte

abbrev cast_number : TypedGroup
cast_number = alone [] (ex.Pure (ex.Cast cast.Lossless (ex.Paren (ex.Num (number 1 1 15 16)) (Some (w.Int (place 19 22))) (place 14 23))
    (uint_type 8 1 27 32 33) (place 14 33)) (place 11 34))

cast_number_asks : cast_number.asks ≡ wants (var 0) byte (place 11 34) ∷ asks_for (lossless (con int none) byte) (place 14 33)
    ∷ wants (con int none) (var 1) (place 15 16) ∷ asks_for (lit 1 (var 1)) (place 15 16) ∷ []
cast_number_asks = refl

cast_number_false : Judged no_shapes (on_demand (always byte) (condition (lossless (con int none) byte))) (false_for (not_lossless (con int none) byte))
cast_number_false = Rattle.ddl_judging.specs.Judging.IsEqual.never (λ f e. let q : con int none ≡ con (uint 8) none = e in absurd (cc))

-- ---- `def Main = block { let b = true; ^ case b of { true -> 1 } }`: nothing stands for `false`

abbrev one_case : TypedGroup
one_case = alone (use_at 40 41 (Local (place 23 24)) ∷ [])
    (ex.Block (ex.an_item (ex.Let (name (codes "b") 23 24) (ex.True (place 27 31)) (place 19 31))
    (ex.an_item (ex.Plain (ex.Pure (ex.Case (ex.Lower (name (codes "b") 40 41))
    (ex.an_alt (p.True (place 47 51)) (ex.Num (number 1 1 55 56)) (place 47 56) ex.no_alts) (place 35 58)) (place 33 58)))
    ex.no_items)) (place 11 60))

one_case_asks : one_case.asks ≡ wants (var 0) (var 1) (place 11 60) ∷ wants (con bool none) (con bool none) (place 47 51)
    ∷ asks_for (lit 1 (var 1)) (place 55 56) ∷ []
one_case_asks = refl

one_case_tree : one_case.trees ≡
    t.expr (t.block (t.item (t.let_ 0 (t.expr (t.pure (t.expr (t.truth true) (con bool none) (place 27 31))) (con bool none) (place 27 31)))
    (t.item (t.plain (t.expr (t.pure (t.expr (t.case_ (t.expr (t.local 0) (con bool none) (place 40 41))
    (t.when (pattern.Truth true) (t.expr (t.literal 1) (var 1) (place 55 56)) t.no_cases)) (var 1) (place 35 58))) (var 1) (place 33 58)))
    t.no_items))) (var 1) (place 11 60) ∷ []
one_case_tree = refl

-- the first gap in trees, under a map
abbrev gap_under : Sub → List t.Expr → Rattle.std.specs.Prelude.Option Rattle.ddl_typing.specs.Gaps.Gap
gap_under f [] = None
gap_under f (e ∷ es) = first_gap false no_shapes (tree_on e f)

one_case_gap : gap_under (always (con int none)) one_case.trees ≡ Some (record { at = place 35 58; form = pattern.Truth false })
one_case_gap = refl

-- ---- `def Main = (true + 1) is foo`: the tag is asked at the whole form, before what its subject asks

abbrev tag_of_sum : TypedGroup
tag_of_sum = alone [] (ex.Is (ex.Paren (ex.Infix i.Add (ex.True (place 12 16)) (ex.Num (number 1 1 19 20)) (place 12 20)) None (place 11 21))
    (h.IsTag (name (codes "foo") 25 28)) (place 11 28))

tag_of_sum_asks : tag_of_sum.asks ≡ wants (var 0) (var 2) (place 11 28) ∷ asks_for (tag (con bool none) (codes "foo") (var 2)) (place 11 28)
    ∷ asks_for (num (con bool none)) (place 12 20) ∷ wants (con bool none) (var 1) (place 19 20) ∷ asks_for (lit 1 (var 1)) (place 19 20) ∷ []
tag_of_sum_asks = refl

-- ---- `def F = block { let x = F; ^ x as F }`: the type of F is one variable, which a cast to itself keeps

abbrev cast_to_itself : TypedGroup
cast_to_itself = alone (use_at 24 25 (Decl 0) ∷ use_at 29 30 (Local (place 20 21)) ∷ use_at 34 35 (Decl 0) ∷ [])
    (ex.Block (ex.an_item (ex.Let (name (codes "x") 20 21) (ex.Upper (name (codes "F") 24 25)) (place 16 25))
    (ex.an_item (ex.Plain (ex.Pure (ex.Cast cast.Lossless (ex.Lower (name (codes "x") 29 30)) (w.Named (name (codes "F") 34 35)) (place 29 35)) (place 27 35)))
    ex.no_items)) (place 8 37))

cast_to_itself_asks : cast_to_itself.asks ≡ wants (var 0) (var 0) (place 8 37) ∷ asks_for (lossless (var 0) (var 0)) (place 29 35) ∷ []
cast_to_itself_asks = refl

cast_to_itself_holds : Judged no_shapes (condition (lossless (var 0) (var 0))) holds
cast_to_itself_holds = Rattle.ddl_judging.specs.Judging.IsUnknown.itself refl

-- ---- a use of an earlier declaration of two types has types of its own for them: `f 1`, where `f` takes a number and is a list

abbrev of_number : Known
of_number = record { vars = 2; kinds = k.Value ∷ []; params = var 0 ∷ []; of = con array_of (more (var 1) none); conditions = num (var 0) ∷ [] }

abbrev call : TypedGroup
call = elaborated_group (record {
  locals = [];
  of = var 0;
  header = [];
  uses = use_at 11 12 (Decl 0) ∷ [];
  tree =
      ex.CallValue (name (codes "f") 11 12) (ex.an_expr (ex.Num (number 1 1 13 14)) ex.no_exprs) (place 11 14);
} ∷ [])
    (λ d. of_number) (record { uses = []; next = 1; places = []; texts = []; sites = 0 })

call_asks : call.asks ≡ wants (var 0) (con array_of (more (var 2) none)) (place 11 14) ∷ asks_for (num (var 1)) (place 11 14)
    ∷ wants (var 1) (var 3) (place 13 14) ∷ asks_for (lit 1 (var 3)) (place 13 14) ∷ []
call_asks = refl

call_tree : call.trees ≡ t.expr (t.value_call 0 (t.by_type 0 (var 1)
    (t.by_type 1 (var 2) (t.by_value 0 (t.expr (t.literal 1) (var 3) (place 13 14)) t.no_args)))) (con array_of (more (var 2) none)) (place 11 14) ∷ []
call_tree = refl

-- ---- `def v = v.x.y`: each `.x` has a free type of its own, and what it asks stands before what its part asks

abbrev fields : TypedGroup
fields = alone (use_at 8 9 (Decl 0) ∷ [])
    (ex.Select (ex.Select (ex.Lower (name (codes "v") 8 9)) (name (codes "x") 10 11) (place 8 11)) (name (codes "y") 12 13) (place 8 13))

fields_asks : fields.asks ≡ wants (var 0) (var 2) (place 8 13) ∷ asks_for (field (var 1) (codes "y") (var 2)) (place 8 13)
    ∷ asks_for (field (var 0) (codes "x") (var 1)) (place 8 11) ∷ []
fields_asks = refl

-- ---- `def F = P ($d) Q`: a name in an argument for a class takes its use, so the next argument has its own

abbrev taking : Known
taking = record { vars = 0; kinds = k.Class ∷ k.Grammar ∷ []; params = byte ∷ var 0 ∷ []; of = var 0; conditions = [] }

abbrev class_call : TypedGroup
class_call = elaborated_group (record {
  locals = [];
  of = var 0;
  header = [];
  uses = use_at 8 9 (Decl 1) ∷ use_at 11 13 (Decl 2) ∷ use_at 15 16 (Decl 3) ∷ [];
  tree =
      ex.CallGrammar (name (codes "P") 8 9) (ex.an_expr (ex.Paren (ex.Class (name (codes "d") 11 13)) None (place 10 14))
      (ex.an_expr (ex.Upper (name (codes "Q") 15 16)) ex.no_exprs)) (place 8 16);
} ∷ [])
    (λ d. taking) (record { uses = []; next = 1; places = []; texts = []; sites = 0 })

class_call_tree : class_call.trees ≡ t.expr (t.call 1 (t.by_class 0 (t.declared 2) (t.by_grammar 1
    (record { place = 0; values = []; grammars = []; classes = []; types = [] }) (t.expr (t.call 3 t.no_args) (var 0) (place 15 16)) t.no_args)))
    (var 0) (place 8 16) ∷ []
class_call_tree = refl
