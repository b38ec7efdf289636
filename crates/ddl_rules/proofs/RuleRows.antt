-- Worked rows: what single forms ask, and what they give, computed on the definitions.
use Rattle.std.proofs.Common.{◌≡◌, ℕ, List, [], ◌∷◌, None, Some, true, refl}
use Rattle.std.specs.Prelude.{codes, get_or}
use Rattle.ddl_arith.specs.declared.operation.Op.TheVariants as o
use Rattle.ddl_base.specs.declared.span.Span.{Span}
use Rattle.ddl_kinds.specs.declared.builtin.BuiltIn.TheVariants as n
use Rattle.ddl_kinds.specs.declared.bound.Bound.{Bound}
use Rattle.ddl_kinds.specs.declared.bound.Bound.TheVariants.{Decl, Local}
use Rattle.ddl_kinds.specs.declared.bound.Use.{Use}
use Rattle.ddl_token.specs.declared.token.Base.TheVariants.{Decimal}
use Rattle.ddl_tree.specs.ClassTree as y
use Rattle.ddl_tree.specs.TypeTree as w
use Rattle.ddl_tree.specs.declared.kind.Kind.TheVariants as k
use Rattle.ddl_tree.specs.declared.name.ByteLit.TheVariants.{Code, Quoted}
use Rattle.ddl_tree.specs.declared.name.Name.{Name}
use Rattle.ddl_tree.specs.declared.name.Number.{Number}
use Rattle.ddl_tree.specs.declared.operator.InfixOp.TheVariants as i
use Rattle.ddl_tree.specs.declared.pattern.Binder.TheVariants.{Called, Ignored}
use Rattle.ddl_tree.specs.declared.pattern.Pat.TheVariants as p
use Rattle.ddl_tree.specs.declared.pattern.Shape.TheVariants as h
use Rattle.ddl_types.specs.Types.{Ty, var, con, none, more, array_of, bool, map_of, maybe_of, uint, unit}
use Rattle.ddl_types.specs.Conditions.{key, lit, num, tag}
use Rattle.ddl_ops.specs.declared.pattern.Pattern.TheVariants as pattern
use Rattle.ddl_typed.specs.Tree as t
use Rattle.ddl_rules.specs.Asks.{Ask, Env, Known, State, asks_for, unknown, wants, with_value}
use Rattle.ddl_rules.specs.Asks as a
use Rattle.ddl_rules.specs.BuiltInTypes.{builtin_row}
use Rattle.ddl_rules.specs.ClassForms.{class_made}
use Rattle.ddl_rules.specs.Operators.{typing}
use Rattle.ddl_rules.specs.Patterns.{fitted, guarded, turn_binder, with_names}
use Rattle.ddl_rules.specs.Refusing.{type_refusal}
use Rattle.ddl_rules.specs.Targets.{target}
use Rattle.ddl_rules.specs.Writing.{written}
use Rattle.ddl_rules.specs.declared.operators.Typing.TheVariants.{Joins, Shifts, ShiftsIn}
use Rattle.ddl_rules.specs.declared.refusing.TypeRefusal.TheVariants.{FloatOut, WidthRange}
use Rattle.ddl_rules.specs.declared.target.Meant.TheVariants as m

abbrev place : ℕ → ℕ → Span
place from to = record { «module» = 0; from = from; to = to }

abbrev name : List ℕ → ℕ → ℕ → Name
name x from to = record { text = x; span = place from to }

-- a number of so many digits
abbrev number : ℕ → ℕ → ℕ → ℕ → Number
number v d from to = record { value = v; base = Decimal; digits = d; span = place from to }

abbrev use_at : ℕ → ℕ → Bound → Use
use_at from to b = record { span = place from to; bound = b }

-- so many variables were given out, and these uses are left
abbrev before : ℕ → List Use → State
before next uses = record { uses = uses; next = next; places = []; texts = []; sites = 0 }

abbrev byte_type : Ty
byte_type = con (uint 8) none

abbrev maybe_type : Ty → Ty
maybe_type u = con maybe_of (more u none)

-- one name is in scope, the subject, at 5, of type `?3`; the declarations are K of any type, F of arrays, with a number as its
-- parameter, and G, which is being typed
abbrev subject : Ty
subject = var 3

abbrev any_type : Known
any_type = record { vars = 1; kinds = []; params = []; of = var 0; conditions = [] }

abbrev of_number : Known
of_number = record { vars = 2; kinds = k.Value ∷ []; params = var 0 ∷ []; of = con array_of (more (var 1) none); conditions = num (var 0) ∷ [] }

abbrev being_typed : Known
being_typed = record { vars = 0; kinds = k.Value ∷ []; params = var 2 ∷ []; of = var 3; conditions = [] }

abbrev known : ℕ → Known
known d = get_or (any_type ∷ of_number ∷ being_typed ∷ []) d unknown

abbrev value : ℕ → ℕ → ℕ → Ty → a.Local
value number from to u = record { at = place from to; kind = k.Value; number = number; of = u }

abbrev v : a.Local
v = value 0 5 6 subject

abbrev scope : List a.Local → Env
scope locals = record { locals = locals; known = known }

-- ---- written types

-- uint 128
widest : type_refusal (w.Uint (number 128 3 5 8) (place 0 8)) ≡ None
widest = refl

-- uint 129
too_wide : type_refusal (w.Uint (number 129 3 5 8) (place 0 8)) ≡ Some (WidthRange (place 0 8) 129)
too_wide = refl

-- [float -> uint 0]
first_in_order : type_refusal (w.MapOf (w.Float (place 1 6)) (w.Uint (number 0 1 15 16) (place 10 16)) (place 0 17)) ≡ Some (FloatOut (place 1 6))
first_in_order = refl

-- [K -> F]: their variables are `?5`, and `?6` and `?7`
two_uses : written known (w.MapOf (w.Named (name (codes "K") 1 2)) (w.Named (name (codes "F") 6 7)) (place 0 8))
    (before 5 (use_at 1 2 (Decl 0) ∷ use_at 6 7 (Decl 1) ∷ use_at 9 10 (Decl 2) ∷ []))
    ≡ record { of = con map_of (more (var 5) (more (con array_of (more (var 7) none)) none)); state = before 8 (use_at 9 10 (Decl 2) ∷ []) }
two_uses = refl

-- ---- patterns

-- just x
just_x : fitted (p.Just (Called (name (codes "x") 25 26)) (place 20 26)) subject (scope (v ∷ [])) (before 7 [])
    ≡ record {
      pattern = pattern.Just (Some 1);
      asks = wants subject (maybe_type (var 7)) (place 20 26) ∷ [];
      env = scope (v ∷ value 1 25 26 (var 7) ∷ []);
      state = before 8 [];
    }
just_x = refl

-- 'a'
letter : fitted (p.Char 97 (place 20 23)) subject (scope (v ∷ [])) (before 7 [])
    ≡ record { pattern = pattern.Number 97; asks = wants subject byte_type (place 20 23) ∷ []; env = scope (v ∷ []); state = before 7 [] }
letter = refl

-- some _: what is asked stands at the whole pattern
some_content : fitted (p.Tag (name (codes "some") 20 24) (Some (Ignored (place 25 26))) (place 20 26)) subject (scope (v ∷ [])) (before 7 [])
    ≡ record {
      pattern = pattern.Tag (codes "some") None;
      asks = asks_for (tag subject (codes "some") (var 7)) (place 20 26) ∷ [];
      env = scope (v ∷ []);
      state =
          before 8 [];
    }
some_content = refl

-- v is some: the tag is asked at the whole form, before what its subject asks
is_some : guarded (h.IsTag (name (codes "some") 15 19)) subject (place 10 19) (before 7 [])
    ≡ record {
      pattern = pattern.Tag (codes "some") None;
      before = asks_for (tag subject (codes "some") (var 7)) (place 10 19) ∷ [];
      behind = [];
      of = var 7;
      state =
          before 8 [];
    }
is_some = refl

-- v is true: `bool` is asked at the word
is_true : guarded (h.IsTrue (place 15 19)) subject (place 10 19) (before 7 [])
    ≡ record { pattern = pattern.Truth true; before = []; behind = wants subject (con bool none) (place 15 19) ∷ []; of = con unit none; state = before 7 [] }
is_true = refl

-- ---- turns

-- for (.. ; x in v): it is the element
one_name : turn_binder None (scope (v ∷ [])) ≡ record { key = None; element = 1 }
one_name = refl

one_in_scope : with_names (place 20 21) None (var 8) (var 9) (scope (v ∷ [])) ≡ scope (v ∷ value 1 20 21 (var 9) ∷ [])
one_in_scope = refl

-- for (.. ; i, x in v): the first one is the key or the position
two_names : turn_binder (Some (name (codes "x") 23 24)) (scope (v ∷ [])) ≡ record { key = Some 1; element = 2 }
two_names = refl

two_in_scope : with_names (place 20 21) (Some (name (codes "x") 23 24)) (var 8) (var 9) (scope (v ∷ []))
    ≡ scope (v ∷ value 1 20 21 (var 8) ∷ value 2 23 24 (var 9) ∷ [])
two_in_scope = refl

-- ---- classes

-- 300 .. 'z'
not_a_byte : class_made (y.Range (Code (number 300 3 20 23)) (Quoted 122 (place 27 30)) (place 20 30)) (scope []) (before 7 [])
    ≡ record { class = t.range 0 122; asks = asks_for (lit 300 byte_type) (place 20 23) ∷ []; state = before 7 [] }
not_a_byte = refl

-- $c | 65
named : class_made (y.Union (y.Known (name (codes "$c") 20 22)) (y.One (Code (number 65 2 25 27))) (place 20 27)) (scope [])
    (before 7 (use_at 20 22 (Decl 4) ∷ use_at 30 31 (Decl 2) ∷ []))
    ≡ record {
      class = t.or_ (t.declared 4) (t.range 65 65);
      asks = asks_for (lit 65 byte_type) (place 25 27) ∷ [];
      state =
          before 7 (use_at 30 31 (Decl 2) ∷ []);
    }
named = refl

-- ---- names with arguments

-- Lookup k m: keys of `?7`, values of `?8`
lookup : builtin_row n.Lookup 7
    ≡ record { params = var 7 ∷ con map_of (more (var 7) (more (var 8) none)) ∷ []; of = var 8; conditions = key (var 7) ∷ []; vars = 2 }
lookup = refl

-- F e: its variables are the next two here
at_new_variables : target (Some (Decl 1)) (scope []) (before 7 [])
    ≡ record {
      meant = m.Declaration 1 2 7;
      kinds = k.Value ∷ [];
      params = var 7 ∷ [];
      of = con array_of (more (var 8) none);
      conditions =
          num (var 7) ∷ [];
      state = before 9 [];
    }
at_new_variables = refl

-- G e: its types are those of the group
stands_for_itself : target (Some (Decl 2)) (scope []) (before 7 [])
    ≡ record { meant = m.Declaration 2 0 7; kinds = k.Value ∷ []; params = var 2 ∷ []; of = var 3; conditions = []; state = before 7 [] }
stands_for_itself = refl

-- v: the name whose binder stands there
local_name : target (Some (Local (place 5 6))) (scope (value 0 3 4 (var 1) ∷ value 1 5 6 subject ∷ [])) (before 7 [])
    ≡ record { meant = m.Local k.Value 1; kinds = []; params = []; of = subject; conditions = []; state = before 7 [] }
local_name = refl

-- ---- operators

-- a << n, a # b, a <# b
shift : typing i.ShiftLeft ≡ Shifts o.Shl
shift = refl

side_by_side : typing i.Append ≡ Joins
side_by_side = refl

into_the_left : typing i.AppendWithin ≡ ShiftsIn
into_the_left = refl
