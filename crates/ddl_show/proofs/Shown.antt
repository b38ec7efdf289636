-- Each production shown once.
use Rattle.std.proofs.Common.{◌≡◌, ℕ, List, [], ◌∷◌, ◌++◌, Some, None, refl}
use Rattle.std.specs.Prelude.{codes}
use Rattle.ddl_token.specs.declared.token.Base.TheVariants.{Decimal, Binary}
use Rattle.ddl_tree.specs.declared.name.Name.{Name}
use Rattle.ddl_tree.specs.declared.name.ByteLit.TheVariants.{Code, Quoted}
use Rattle.ddl_tree.specs.declared.operator.Bias.TheVariants.{Biased, Unbiased}
use Rattle.ddl_tree.specs.declared.operator.CastOp.TheVariants as cast
use Rattle.ddl_tree.specs.declared.operator.InfixOp.TheVariants as op
use Rattle.ddl_tree.specs.declared.operator.PrefixOp.TheVariants as pre
use Rattle.ddl_tree.specs.declared.pattern.Pat.TheVariants as pat
use Rattle.ddl_tree.specs.declared.pattern.Binder.TheVariants.{Called, Ignored}
use Rattle.ddl_tree.specs.declared.pattern.Shape.TheVariants.{IsJust}
use Rattle.ddl_tree.specs.TypeTree as ty
use Rattle.ddl_tree.specs.ClassTree as cls
use Rattle.ddl_tree.specs.ExprTree as ex
use Rattle.ddl_tree.specs.ModuleTree as mo
use Rattle.ddl_tree.specs.Spans.{nowhere}
use Rattle.ddl_show.specs.Show.{spelled, spaced, show_text}

abbrev name : List ℕ → Name
name x = record { text = x; span = nowhere }

abbrev declared : mo.Decl → List ℕ
declared d = show_text (record { imports = []; decls = d ∷ [] })

-- the text of `def F = e`
abbrev written : ex.Expr → List ℕ
written e = declared (mo.Grammar (name (codes "F")) [] None e nowhere)

-- ---- expressions

operator_between : written (ex.Infix op.AppendWithin (ex.Lower (name (codes "x"))) (ex.Lower (name (codes "y"))) nowhere) ≡ codes "def F = x <# y" ++ 10 ∷ []
unfolding spelled spaced
operator_between = refl

operator_before : written (ex.Prefix pre.Complement (ex.Lower (name (codes "x"))) nowhere) ≡ codes "def F = ~ x" ++ 10 ∷ []
unfolding spelled spaced
operator_before = refl

cast_fit : written (ex.Cast cast.Fit (ex.Lower (name (codes "x"))) (ty.Int nowhere) nowhere) ≡ codes "def F = x as? int" ++ 10 ∷ []
unfolding spelled spaced
cast_fit = refl

is_just : written (ex.Is (ex.Lower (name (codes "x"))) (IsJust nowhere) nowhere) ≡ codes "def F = x is just" ++ 10 ∷ []
unfolding spelled spaced
is_just = refl

select : written (ex.Select (ex.Lower (name (codes "x"))) (name (codes "a")) nowhere) ≡ codes "def F = x . a" ++ 10 ∷ []
unfolding spelled spaced
select = refl

pure : written (ex.Pure (ex.Lower (name (codes "x"))) nowhere) ≡ codes "def F = ^ x" ++ 10 ∷ []
unfolding spelled spaced
pure = refl

condition : written (ex.If (ex.Lower (name (codes "x"))) (ex.Lower (name (codes "y"))) (ex.Lower (name (codes "z"))) nowhere)
    ≡ codes "def F = if x then y else z" ++ 10 ∷ []
unfolding spelled spaced
condition = refl

fold : written (ex.For (name (codes "s")) (ex.Lower (name (codes "x"))) (record {
  first = (name (codes "i"));
  second = Some (name (codes "v"));
  span =
      nowhere;
}) (ex.Lower (name (codes "y"))) (ex.Lower (name (codes "z"))) nowhere) ≡ codes "def F = for ( s = x ; i , v in y ) z" ++ 10 ∷ []
unfolding spelled spaced
fold = refl

map_over : written (ex.Map (record { first = (name (codes "i")); second = None; span = nowhere }) (ex.Lower (name (codes "y"))) (ex.Lower (name (codes "z")))
    nowhere) ≡ codes "def F = map ( i in y ) z" ++ 10 ∷ []
unfolding spelled spaced
map_over = refl

call_grammar : written (ex.CallGrammar (name (codes "P")) (ex.an_expr (ex.Lower (name (codes "x"))) (ex.an_expr (ex.Lower (name (codes "y"))) ex.no_exprs))
    nowhere) ≡ codes "def F = P x y" ++ 10 ∷ []
unfolding spelled spaced
call_grammar = refl

call_value : written (ex.CallValue (name (codes "f")) (ex.an_expr (ex.Lower (name (codes "x"))) (ex.an_expr (ex.Lower (name (codes "y"))) ex.no_exprs)) nowhere)
    ≡ codes "def F = f x y" ++ 10 ∷ []
unfolding spelled spaced
call_value = refl

just_x : written (ex.Just (ex.Lower (name (codes "x"))) nowhere) ≡ codes "def F = just x" ++ 10 ∷ []
unfolding spelled spaced
just_x = refl

optional : written (ex.Optional Unbiased (ex.Lower (name (codes "x"))) nowhere) ≡ codes "def F = Optional? x" ++ 10 ∷ []
unfolding spelled spaced
optional = refl

many : written (ex.Many Biased ex.Free (ex.Lower (name (codes "z"))) nowhere) ≡ codes "def F = Many z" ++ 10 ∷ []
unfolding spelled spaced
many = refl

many_exactly : written (ex.Many Unbiased (ex.Exactly (ex.Lower (name (codes "x")))) (ex.Lower (name (codes "z"))) nowhere) ≡ codes "def F = Many? x z" ++ 10
    ∷ []
unfolding spelled spaced
many_exactly = refl

many_at_least : written (ex.Many Biased (ex.AtLeast (ex.Lower (name (codes "x"))) nowhere) (ex.Lower (name (codes "z"))) nowhere)
    ≡ codes "def F = Many ( x .. ) z" ++ 10 ∷ []
unfolding spelled spaced
many_at_least = refl

many_at_most : written (ex.Many Biased (ex.AtMost (ex.Lower (name (codes "x"))) nowhere) (ex.Lower (name (codes "z"))) nowhere)
    ≡ codes "def F = Many ( .. x ) z" ++ 10 ∷ []
unfolding spelled spaced
many_at_most = refl

many_between : written (ex.Many Biased (ex.Between (ex.Lower (name (codes "x"))) (ex.Lower (name (codes "y"))) nowhere) (ex.Lower (name (codes "z"))) nowhere)
    ≡ codes "def F = Many ( x .. y ) z" ++ 10 ∷ []
unfolding spelled spaced
many_between = refl

truth : written (ex.True nowhere) ≡ codes "def F = true" ++ 10 ∷ []
unfolding spelled spaced
truth = refl

falsehood : written (ex.False nowhere) ≡ codes "def F = false" ++ 10 ∷ []
unfolding spelled spaced
falsehood = refl

nothing : written (ex.Nothing nowhere) ≡ codes "def F = nothing" ++ 10 ∷ []
unfolding spelled spaced
nothing = refl

known_class : written (ex.Class (name (codes "$d"))) ≡ codes "def F = $d" ++ 10 ∷ []
unfolding spelled spaced
known_class = refl

class_set : written (ex.Set (cls.Known (name (codes "$d"))) nowhere) ≡ codes "def F = $[ $d ]" ++ 10 ∷ []
unfolding spelled spaced
class_set = refl

typed : written (ex.Paren (ex.Lower (name (codes "x"))) (Some (ty.Bool nowhere)) nowhere) ≡ codes "def F = ( x : bool )" ++ 10 ∷ []
unfolding spelled spaced
typed = refl

array : written (ex.Array (ex.an_expr (ex.Lower (name (codes "x"))) (ex.an_expr (ex.Lower (name (codes "y"))) ex.no_exprs)) nowhere) ≡ codes "def F = [ x , y ]"
    ++ 10 ∷ []
unfolding spelled spaced
array = refl

record_of : written (ex.RecordOf (ex.a_binding (name (codes "a")) (ex.Lower (name (codes "x"))) nowhere
    (ex.a_binding (name (codes "b")) (ex.Lower (name (codes "y"))) nowhere ex.no_bindings)) nowhere) ≡ codes "def F = { a = x , b = y }" ++ 10 ∷ []
unfolding spelled spaced
record_of = refl

unit : written (ex.RecordOf ex.no_bindings nowhere) ≡ codes "def F = { }" ++ 10 ∷ []
unfolding spelled spaced
unit = refl

tag : written (ex.Tag (name (codes "t")) nowhere) ≡ codes "def F = {| t |}" ++ 10 ∷ []
unfolding spelled spaced
tag = refl

tag_with : written (ex.TagWith (name (codes "t")) (ex.Lower (name (codes "x"))) nowhere) ≡ codes "def F = {| t = x |}" ++ 10 ∷ []
unfolding spelled spaced
tag_with = refl

block : written (ex.Block (ex.an_item (ex.Let (name (codes "a")) (ex.Lower (name (codes "x"))) nowhere)
    (ex.an_item (ex.Field (name (codes "b")) (ex.Lower (name (codes "y"))) nowhere) (ex.an_item (ex.Result (ex.Lower (name (codes "z"))) nowhere) ex.no_items)))
    nowhere) ≡ codes "def F = block { let a = x ; b = y ; $$ = z }" ++ 10 ∷ []
unfolding spelled spaced
block = refl

first : written (ex.Choice Biased (ex.WithTags (ex.a_binding (name (codes "a")) (ex.Lower (name (codes "x"))) nowhere
    (ex.a_binding (name (codes "b")) (ex.Lower (name (codes "y"))) nowhere ex.no_bindings))) nowhere) ≡ codes "def F = First { a = x ; b = y }" ++ 10 ∷ []
unfolding spelled spaced
first = refl

choose : written (ex.Choice Unbiased (ex.Untagged (ex.an_expr (ex.Lower (name (codes "x"))) (ex.an_expr (ex.Lower (name (codes "y"))) ex.no_exprs))) nowhere)
    ≡ codes "def F = Choose { x ; y }" ++ 10 ∷ []
unfolding spelled spaced
choose = refl

cases : written (ex.Case (ex.Lower (name (codes "x"))) (ex.an_alt (pat.Just (Ignored nowhere) nowhere) (ex.Lower (name (codes "y"))) nowhere
    (ex.an_alt (pat.Tag (name (codes "t")) (Some (Called (name (codes "v")))) nowhere) (ex.Lower (name (codes "z"))) nowhere
    (ex.an_alt (pat.Any nowhere) (ex.Lower (name (codes "x"))) nowhere ex.no_alts))) nowhere) ≡ codes "def F = case x of { just _ -> y ; t v -> z ; _ -> x }"
    ++ 10 ∷ []
unfolding spelled spaced
cases = refl

types : written (ex.Cast cast.Lossless (ex.Lower (name (codes "x")))
    (ty.MapOf (ty.Uint (record { value = 8; base = Decimal; digits = 1; span = nowhere }) nowhere)
    (ty.Maybe (ty.ArrayOf (ty.Within (ty.Named (name (codes "P"))) nowhere) nowhere) nowhere) nowhere) nowhere)
    ≡ codes "def F = x as [ uint 8 -> maybe [ ( P ) ] ]" ++ 10 ∷ []
unfolding spelled spaced
types = refl

-- ---- declarations

parameters : declared (mo.Value (name (codes "f")) (mo.Upper (name (codes "P")) ∷ mo.Lower (name (codes "x")) ∷ mo.Class (name (codes "$d"))
    ∷ mo.TypedUpper (name (codes "Q")) (ty.Int nowhere) nowhere ∷ mo.TypedLower (name (codes "y")) (ty.Stream nowhere) nowhere ∷ []) (Some (ty.Bool nowhere))
    (ex.Lower (name (codes "x"))) nowhere) ≡ codes "def f P x $d ( Q : int ) ( y : stream ) : bool = x" ++ 10 ∷ []
unfolding spelled spaced
parameters = refl

class_def : declared (mo.ClassDef (name (codes "$c")) (cls.Union (cls.Other (cls.One (Quoted 48 nowhere)) nowhere)
    (cls.Range (Quoted 48 nowhere) (Code (record { value = 8; base = Decimal; digits = 1; span = nowhere })) nowhere) nowhere) nowhere)
    ≡ codes "def $c = ! '0' | '0' .. 8" ++ 10 ∷ []
unfolding spelled spaced
class_def = refl

parts : declared (mo.BitsDef (name (codes "B")) (mo.Parts (mo.Fixed (record { value = 0; base = Binary; digits = 4; span = nowhere })
    ∷ mo.Named (name (codes "a")) (ty.Named (name (codes "C"))) nowhere ∷ mo.Unnamed (ty.Named (name (codes "C"))) nowhere ∷ []) nowhere) nowhere)
    ≡ codes "bitdata B = { 0b0000 , a : C , _ : C }" ++ 10 ∷ []
unfolding spelled spaced
parts = refl

constructors : declared (mo.BitsUnion (name (codes "C"))
    (record { name = (name (codes "c")); bits = mo.Exactly (record { value = 0; base = Binary; digits = 4; span = nowhere }); span = nowhere } ∷ record {
      name =
          (name (codes "d"));
      bits = mo.Exactly (record { value = 0; base = Binary; digits = 4; span = nowhere });
      span = nowhere;
    } ∷ []) nowhere)
    ≡ codes "bitdata C where { c = 0b0000 ; d = 0b0000 }" ++ 10 ∷ []
unfolding spelled spaced
constructors = refl
