-- Worked rows: what the headers of small groups give, and what is wrong with them, computed on the definitions.
use Rattle.std.proofs.Common.{◌≡◌, ℕ, List, [], ◌∷◌, None, Some, true, false, refl}
use Rattle.std.specs.Prelude.{codes, Option}
use Rattle.ddl_base.specs.declared.span.Span.{Span}
use Rattle.ddl_kinds.specs.declared.bound.Bound.{Bound}
use Rattle.ddl_kinds.specs.declared.bound.Bound.TheVariants.{Decl, Local}
use Rattle.ddl_kinds.specs.declared.bound.Use.{Use}
use Rattle.ddl_token.specs.declared.token.Base.{Base}
use Rattle.ddl_token.specs.declared.token.Base.TheVariants.{Binary, Decimal}
use Rattle.ddl_tree.specs.ClassTree as cls
use Rattle.ddl_tree.specs.ExprTree as ex
use Rattle.ddl_tree.specs.ModuleTree as mo
use Rattle.ddl_tree.specs.TypeTree as y
use Rattle.ddl_tree.specs.declared.kind.Kind.TheVariants as k
use Rattle.ddl_tree.specs.declared.name.Name.{Name}
use Rattle.ddl_tree.specs.declared.name.Number.{Number}
use Rattle.ddl_tree.specs.declared.operator.InfixOp.TheVariants as i
use Rattle.ddl_types.specs.Types.{bool, con, none, uint, var}
use Rattle.ddl_judging.specs.Shapes.{BitShape}
use Rattle.ddl_rules.specs.Asks.{unknown, wants}
use Rattle.ddl_rules.specs.declared.refusing.TypeRefusal.TheVariants.{FloatOut}
use Rattle.ddl_group_typing.specs.Tables.{Opening, Table}
use Rattle.ddl_headers.specs.Layouts.{overlap, too_wide, widths}
use Rattle.ddl_headers.specs.Opened.{first_refused, opened}
use Rattle.ddl_headers.specs.Parts.{HeaderRefusal, endless_class, no_layout, no_word, written}

abbrev place : ℕ → ℕ → Span
place from to = record { «module» = 0; from = from; to = to }

abbrev name : List ℕ → ℕ → ℕ → Name
name x from to = record { text = x; span = place from to }

abbrev use_at : ℕ → ℕ → Bound → Use
use_at from to b = record { span = place from to; bound = b }

abbrev number : Base → ℕ → ℕ → ℕ → ℕ → Number
number base v d from to = record { value = v; base = base; digits = d; span = place from to }

abbrev uint_type : ℕ → ℕ → ℕ → ℕ → ℕ → y.TypeExpr
uint_type n d from at to = y.Uint (number Decimal n d at to) (place from to)

-- nothing before the group
abbrev empty : Table
empty = record { known = λ d. unknown; done = []; places = []; bitdata = []; declared = []; texts = []; sites = 0 }

-- all declarations are one group
abbrev members : ℕ → List mo.Decl → List ℕ
members n [] = []
members n (d ∷ ds) = n ∷ members (Rattle.std.proofs.Common.suc n) ds

abbrev wrong_in : List mo.Decl → List (List Use) → Option HeaderRefusal
wrong_in ds us = first_refused ds us (members 0 ds ∷ []) (members 0 ds) empty

abbrev given_by : List mo.Decl → List (List Use) → Opening
given_by ds us = opened ds us (members 0 ds ∷ []) (members 0 ds) empty

-- a constructor of given bits alone
abbrev bits_con : List ℕ → ℕ → ℕ → ℕ → ℕ → ℕ → mo.Con
bits_con x v d from at to = record { name = name x from (Rattle.std.proofs.Common.suc from); bits = mo.Exactly (number Binary v d at to); span = place from to }

-- ---- `bitdata B where { a = 0b0; b = 0b00 }`: constructors of two widths

two_widths : wrong_in (mo.BitsUnion (name (codes "B") 8 9) (bits_con (codes "a") 0 1 18 22 25 ∷ bits_con (codes "b") 0 2 27 31 35 ∷ []) (place 0 37) ∷ [])
    ([] ∷ []) ≡ Some (no_layout (place 8 9) (widths (codes "a") (codes "b")))
two_widths = refl

-- ---- `bitdata B = { x : uint 128, y : uint 1 }`: more than 128 bits

wide_parts : wrong_in (mo.BitsDef (name (codes "B") 8 9) (mo.Parts (mo.Named (name (codes "x") 14 15) (uint_type 128 3 18 23 26) (place 14 26)
    ∷ mo.Named (name (codes "y") 28 29) (uint_type 1 1 32 37 38) (place 28 38) ∷ []) (place 12 40)) (place 0 40) ∷ [])
    ([] ∷ []) ≡ Some (no_layout (place 8 9) too_wide)
wide_parts = refl

-- ---- `bitdata B where { a = { 0b0, _ : uint 1 }; b = 0b00 }`: 0 fits both

two_fit : wrong_in (mo.BitsUnion (name (codes "B") 8 9)
    (record {
      name = name (codes "a") 18 19;
      bits = mo.Parts (mo.Fixed (number Binary 0 1 24 27) ∷ mo.Unnamed (uint_type 1 1 33 38 39) (place 29 39) ∷ [])
          (place 22 41);
      span = place 18 41;
    } ∷ bits_con (codes "b") 0 2 43 47 51 ∷ []) (place 0 53) ∷ [])
    ([] ∷ []) ≡ Some (no_layout (place 8 9) (overlap (codes "a") (codes "b") 0))
two_fit = refl

-- ---- `bitdata B where { a = 0b00; b = 0b01; c = 0b10 }`: 3 fits none

abbrev first_gap : List BitShape → Option ℕ
first_gap [] = None
first_gap (s ∷ ss) = s.gap

abbrev three : mo.Decl
three = mo.BitsUnion (name (codes "B") 8 9) (bits_con (codes "a") 0 2 18 22 26 ∷ bits_con (codes "b") 1 2 28 32 36 ∷ bits_con (codes "c") 2 2 38 42 46 ∷ [])
    (place 0 48)

three_accepted : wrong_in (three ∷ []) ([] ∷ []) ≡ None
three_accepted = refl

three_left_out : first_gap (given_by (three ∷ []) ([] ∷ [])).bitdata ≡ Some 3
three_left_out = refl

-- ---- `bitdata B = { x : B }`: it contains itself; `bitdata B = { x : bool }`: no bits

contains_itself : wrong_in (mo.BitsDef (name (codes "B") 8 9)
    (mo.Parts (mo.Named (name (codes "x") 14 15) (y.Named (name (codes "B") 18 19)) (place 14 19) ∷ [])
    (place 12 21)) (place 0 21) ∷ []) ((use_at 18 19 (Decl 0) ∷ []) ∷ []) ≡ Some (no_layout (place 8 9) too_wide)
contains_itself = refl

no_bits : wrong_in (mo.BitsDef (name (codes "B") 8 9) (mo.Parts (mo.Named (name (codes "x") 14 15) (y.Bool (place 18 22)) (place 14 22) ∷ []) (place 12 24))
    (place 0 24) ∷ []) ([] ∷ []) ≡ Some (no_word (place 18 22) (con bool none))
no_bits = refl

-- ---- `bitdata B = { x : G }` and `def G = ^ (0 as B)`: in its own group G has no type yet

abbrev of_grammar : List mo.Decl
of_grammar = mo.BitsDef (name (codes "B") 8 9) (mo.Parts (mo.Named (name (codes "x") 14 15) (y.Named (name (codes "G") 18 19)) (place 14 19) ∷ [])
    (place 12 21))
    (place 0 21)
    ∷ mo.Grammar (name (codes "G") 26 27) [] None (ex.Pure (ex.True (place 32 40)) (place 30 41)) (place 22 41) ∷ []

grammar_unknown : wrong_in of_grammar ((use_at 18 19 (Decl 1) ∷ []) ∷ (use_at 38 39 (Decl 0) ∷ []) ∷ []) ≡ Some (no_word (place 18 19) (var 1))
grammar_unknown = refl

-- ---- `def $c = $c`: it reaches itself

class_of_itself : wrong_in (mo.ClassDef (name (codes "c") 4 6) (cls.Known (name (codes "c") 9 11)) (place 0 11) ∷ []) ((use_at 9 11 (Decl 0) ∷ []) ∷ [])
    ≡ Some (endless_class (place 4 6))
class_of_itself = refl

-- ---- `def f x = g x + (x : float)` and `def g (y : uint 0) = f y`: header, body, then the next header

float_in_a_body : wrong_in (mo.Value (name (codes "f") 4 5) (mo.Lower (name (codes "x") 6 7) ∷ []) None
    (ex.Infix i.Add (ex.CallValue (name (codes "g") 10 11) (ex.an_expr (ex.Lower (name (codes "x") 12 13)) ex.no_exprs) (place 10 13))
    (ex.Paren (ex.Lower (name (codes "x") 17 18)) (Some (y.Float (place 21 26))) (place 16 27)) (place 10 27)) (place 0 27)
    ∷ mo.Value (name (codes "g") 32 33) (mo.TypedLower (name (codes "y") 35 36) (uint_type 0 1 39 44 45) (place 34 46) ∷ []) None
    (ex.CallValue (name (codes "f") 49 50) (ex.an_expr (ex.Lower (name (codes "y") 51 52)) ex.no_exprs) (place 49 52)) (place 28 52) ∷ [])
    ([] ∷ [] ∷ []) ≡ Some (written (FloatOut (place 21 26)))
float_in_a_body = refl

-- ---- `def f (x : uint 8) y : uint 16 = x`: the written types are those of the parameter and of the body

abbrev with_types : Opening
with_types = given_by (mo.Value (name (codes "f") 4 5)
    (mo.TypedLower (name (codes "x") 7 8) (uint_type 8 1 11 16 17) (place 6 18) ∷ mo.Lower (name (codes "y") 19 20) ∷ [])
    (Some (uint_type 16 2 23 28 30)) (ex.Lower (name (codes "x") 33 34)) (place 0 34) ∷ [])
    ((use_at 33 34 (Local (place 7 8)) ∷ []) ∷ [])

types_of_header : with_types.roots ≡ con (uint 8) none ∷ var 1 ∷ var 0 ∷ []
types_of_header = refl

body_of_header : with_types.bodies ≡ record {
  locals = record { at = place 7 8; kind = k.Value; number = 0; of = con (uint 8) none } ∷ record { at = place 19 20; kind = k.Value; number = 1; of = var 1 }
      ∷ [];
  of = con (uint 16) none;
  header = wants (var 0) (con (uint 16) none) (place 23 30) ∷ [];
  uses = use_at 33 34 (Local (place 7 8)) ∷ [];
  tree =
      ex.Lower (name (codes "x") 33 34);
} ∷ []
body_of_header = refl

known_of_header : with_types.own 0 ≡ Some (record {
  vars = 0;
  kinds = k.Value ∷ k.Value ∷ [];
  params = con (uint 8) none ∷ var 1 ∷ [];
  of = var 0;
  conditions = [];
})
known_of_header = refl

next_of_header : with_types.state.next ≡ 2
next_of_header = refl
