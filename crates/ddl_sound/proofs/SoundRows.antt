-- Worked rows: specifications that are typed, and ill typed ones that are refused.
use Rattle.std.proofs.Common.{◌≡◌, ℕ, zero, suc, List, [], ◌∷◌, true, false, Some, None, refl, sym, subst, ◌∙◌}
use Rattle.std.specs.Prelude.{codes, pos}
use Rattle.ddl_tree.specs.declared.kind.Kind.{Kind}
use Rattle.ddl_tree.specs.declared.kind.Kind.TheVariants as K
use Rattle.ddl_types.specs.declared.num.NumType.{NumType}
use Rattle.ddl_types.specs.declared.num.NumType.TheVariants as num
use Rattle.ddl_types.specs.Num.{in_range}
use Rattle.ddl_types.specs.Types.{Ty, con, none}
use Rattle.ddl_types.specs.Types as t
use Rattle.ddl_arith.specs.declared.operation.Op.TheVariants.{Add}
use Rattle.ddl_ops.specs.declared.operators.Infix.TheVariants.{Arithmetic, Compare}
use Rattle.ddl_ops.specs.declared.operators.Comparison.TheVariants.{Less}
use Rattle.ddl_ops.specs.declared.operators.Cast.TheVariants.{Keep}
use Rattle.ddl_ops.specs.declared.pattern.Pattern.TheVariants.{Truth}
use Rattle.ddl_ops.specs.Numbers.{number_type}
use Rattle.ddl_typed.specs.Tree.{Name, own, Expr, Cases, expr, local, literal, truth, list, infix_, cast, value_call, case_, if_, pure, match, end, choose}
use Rattle.ddl_typed.specs.Tree.{call, no_alts, more, no_exprs, when, no_cases, no_args, by_value, block, no_items, item, plain, let_, field}
use Rattle.ddl_typed.specs.Meaning.{form_at}
use Rattle.ddl_typed.specs.Specification.{Place}
use Rattle.ddl_typed.proofs.RowForms.{span, byte, named, match_text, int_at, byte_type, bytes_type, int_type, bool_type, unit_type, record_type}
use Rattle.ddl_mono.specs.Copies.{Copy, Mono, spec_of}
use Rattle.ddl_sound.specs.Context.{Context, no_names, name}
use Rattle.ddl_sound.specs.BlockTypes.{type_of}
use Rattle.ddl_sound.specs.Operations.{Lossless}
use Rattle.ddl_sound.specs.Operations as op
use Rattle.ddl_sound.specs.Exhaustive.{Exhaustive, by_any, by_truths, by_maybe, by_tags, by_constructors, has_pattern, is_any, is_truth}
use Rattle.ddl_sound.specs.Typed.{Sort, values, grammars, IsDeclared, TypedValue, TypedGrammar, AreTyped}
use Rattle.ddl_sound.specs.IsTyped.{IsTyped, signature_of}
use Rattle.ddl_sound.proofs.Reading.{none_some, some_is, false_true}

abbrev copy : Kind → List Name → List Ty → Ty → Expr → Copy
copy kind names params result body = record {
  declaration = 0;
  unit = 0;
  name = codes "Main";
  span = span 4 8;
  kind = kind;
  names = names;
  params = params;
  result = result;
  body = body;
}

abbrev mono : ℕ → List Place → List Copy → Mono
mono entry places copies = record { units = []; texts = []; entry = entry; copies = copies; places = places; bitdata = [] }

-- one grammar without parameters
abbrev one : List Place → Expr → Mono
one places e = mono 0 places (copy K.Grammar [] [] (type_of e) e ∷ [])

-- it is typed where its form is
one_bodies : (places : List Place) (e : Expr) → TypedGrammar places (spec_of (one places e)) (signature_of (one places e)) e no_names →
    AreTyped places (spec_of (one places e)) (signature_of (one places e))
one_bodies places e h zero x is =
    subst (λ y. TypedGrammar places (spec_of (one places e)) (signature_of (one places e)) y no_names × (type_of y ≡ type_of e)) (some_is is) (h, refl)
one_bodies places e h (suc f) x is = absurd (none_some is)

one_typed : (places : List Place) (e : Expr) → TypedGrammar places (spec_of (one places e)) (signature_of (one places e)) e no_names → IsTyped (one places e)
one_typed places e h = record { bodies = one_bodies places e h; entry = (refl, refl, refl, (e, refl)) }

-- and only there
one_form : (places : List Place) (e : Expr) → IsTyped (one places e) → TypedGrammar places (spec_of (one places e)) (signature_of (one places e)) e no_names
one_form places e h = (h.bodies 0 e refl).0

-- ---- typed

-- def Main = UInt8
byte_typed : IsTyped (one [] (byte 11 16))
byte_typed = one_typed [] (byte 11 16) refl

-- def Main = block { x = UInt8; let y = Match "b"; ^ y; END }, whose value is the record of x
abbrev with_x : Place
with_x = record { span = span 11 59; vars = 0; tagged = false; names = codes "x" ∷ []; types = byte_type ∷ [] }

abbrev field_and_let : Expr
field_and_let = expr (block (
    item (field (codes "x") 0 (byte 23 28))
    (item (let_ 1 (match_text (codes "b") 38 44 47))
    (item (plain (named 1 bytes_type 49 51 52))
    (item (plain (expr end unit_type (span 54 57))) no_items))))) record_type (span 11 59)

field_and_let_typed : IsTyped (one (with_x ∷ []) field_and_let)
field_and_let_typed =
    one_typed (with_x ∷ []) field_and_let (refl, ((((refl, refl), tt), refl, refl), ((refl, refl), (refl, (with_x, refl, refl, refl, refl)))))

-- def Main = case true of { true -> UInt8 }: a grammar may leave a value out
abbrev truth_at : Expr
truth_at = expr (truth true) bool_type (span 16 20)

abbrev some_truth : Expr
some_truth = expr (case_ truth_at (when (Truth true) (byte 34 39) no_cases)) byte_type (span 11 41)

some_truth_typed : IsTyped (one [] some_truth)
some_truth_typed = one_typed [] some_truth (tt, ((t.con t.unit none, (tt, refl), refl, refl), tt))

-- def Main = block { let k = UInt8; ^ (f k) }
-- def f x = x + x
abbrev byte_local : Expr
byte_local = expr (local 0) byte_type (span 40 41)

abbrev f_k : Expr
f_k =
    expr (block (item (let_ 0 (byte 27 32)) (item (plain (expr (pure (expr (value_call 1 (by_value 0 byte_local no_args)) byte_type (span 37 40))) byte_type
    (span 34 41))) no_items))) byte_type (span 11 43)

abbrev twice_x : Expr
twice_x = expr (infix_ (Arithmetic Add) byte_local byte_local) byte_type (span 54 59)

abbrev doubled : Mono
doubled = mono 0 [] (copy K.Grammar [] [] byte_type f_k ∷ copy K.Value (own 0 ∷ []) (byte_type ∷ []) byte_type twice_x ∷ [])

main_is : TypedGrammar [] (spec_of doubled) (signature_of doubled) f_k no_names
main_is = (refl, (((name 0 byte_type no_names, (refl, refl), (refl, refl, refl, (twice_x, refl))), refl), refl))

twice_is : TypedValue [] (spec_of doubled) (signature_of doubled) twice_x (name 0 byte_type no_names)
twice_is = (refl, refl, (num.Uint 8, refl, refl, refl, refl))

doubled_bodies : AreTyped [] (spec_of doubled) (signature_of doubled)
doubled_bodies zero x is =
    subst (λ y. TypedGrammar [] (spec_of doubled) (signature_of doubled) y no_names × (type_of y ≡ byte_type)) (some_is is) (main_is, refl)
doubled_bodies (suc zero) x is =
    subst (λ y. TypedValue [] (spec_of doubled) (signature_of doubled) y (name 0 byte_type no_names) × (type_of y ≡ byte_type)) (some_is is) (twice_is, refl)
doubled_bodies (suc (suc f)) x is = absurd (none_some is)

doubled_typed : IsTyped doubled
doubled_typed = record { bodies = doubled_bodies; entry = (refl, refl, refl, (f_k, refl)) }

-- ---- refused

-- def Main = ^ x: a name without a binding
unbound_refused : IsTyped (one [] (named 0 byte_type 11 13 14)) → ⊥
unbound_refused h = none_some (one_form [] (named 0 byte_type 11 13 14) h).0

no_declared : (m : Mono) (f : ℕ) (sort : Sort) (Γ : Context) (ty : Ty) → form_at (spec_of m).decls f ≡ None →
    IsDeclared m.places (spec_of m) (signature_of m) f sort Γ ty → ⊥
no_declared m f sort Γ ty missing (a, b, c, (e, is)) = none_some (sym missing ∙ is)

-- what is run has no form
abbrev no_form : Mono
no_form = mono 1 [] (copy K.Grammar [] [] byte_type (byte 11 16) ∷ [])

no_form_refused : IsTyped no_form → ⊥
no_form_refused h = no_declared no_form 1 grammars no_names unit_type refl h.entry

-- what is run is a value
abbrev a_value : Mono
a_value = mono 0 [] (copy K.Value [] [] int_type (int_at 1 11 12) ∷ [])

values_no_grammars : values ≡ grammars → ⊥
values_no_grammars e = absurd cc

a_value_refused : IsTyped a_value → ⊥
a_value_refused h = values_no_grammars h.entry.0

-- def Main = ^ (case true of { true -> 1 }): a `case` of values leaves `false` out
gap : (cs : Cases) (ty : Ty) → ty ≡ bool_type → Exhaustive [] [] cs ty → has_pattern is_any cs ≡ false → has_pattern (is_truth false) cs ≡ false → ⊥
gap cs ty same (by_any e) a f = false_true (sym a ∙ e)
gap cs ty same (by_truths e g) a f = false_true (sym f ∙ g)
gap cs ty same (by_maybe e g) a f = absurd cc
gap cs ty same (by_tags e g k) a f = absurd cc
gap cs ty same (by_constructors e k) a f = absurd cc

abbrev one_case : Cases
one_case = when (Truth true) (int_at 1 37 38) no_cases

abbrev with_gap : Expr
with_gap = expr (pure (expr (case_ truth_at one_case) int_type (span 13 40))) int_type (span 11 40)

gap_refused : IsTyped (one [] with_gap) → ⊥
gap_refused h = gap one_case bool_type refl (one_form [] with_gap h).0.1 refl refl

-- def Main = ^ (1 < (1 : uint 8)): numbers of two types have no order
abbrev two_types : Expr
two_types =
    expr (pure (expr (infix_ (Compare Less) (int_at 1 14 15) (expr (literal 1) byte_type (span 18 19))) bool_type (span 13 30))) bool_type (span 11 30)

byte_is_int : byte_type ≡ int_type → ⊥
byte_is_int e = absurd cc

two_types_refused : IsTyped (one [] two_types) → ⊥
two_types_refused h = byte_is_int (one_form [] two_types h).0.2.1

-- def Main = Match [97 : int]: a number that is no byte
abbrev no_bytes : Expr
no_bytes = expr (match (expr (list (more (int_at 97 18 20) no_exprs)) (con t.array_of (t.more int_type none)) (span 17 21))) bytes_type (span 11 21)

ints_are_bytes : con t.array_of (t.more int_type none) ≡ bytes_type → ⊥
ints_are_bytes e = absurd cc

no_bytes_refused : IsTyped (one [] no_bytes) → ⊥
no_bytes_refused h = ints_are_bytes (one_form [] no_bytes h).1

-- def Main = ^ (256 : uint 8)
abbrev too_large : Expr
too_large = expr (pure (expr (literal 256) byte_type (span 14 17))) byte_type (span 11 26)

out_of_range : (s : NumType) → Some (num.Uint 8) ≡ Some s → in_range s (pos 256) ≡ true → ⊥
out_of_range s e i = false_true (subst (λ r. in_range r (pos 256) ≡ true) (sym (some_is e)) i)

too_large_refused : IsTyped (one [] too_large) → ⊥
too_large_refused h = by (one_form [] too_large h).0
  where
    by : (s : NumType) × (Some (num.Uint 8) ≡ Some s) × (in_range s (pos 256) ≡ true) → ⊥
    by (s, e, i) = out_of_range s e i

-- def Main = Choose {}
abbrev no_choice : Expr
no_choice = expr (choose no_alts) byte_type (span 11 20)

no_choice_refused : IsTyped (one [] no_choice) → ⊥
no_choice_refused h = (one_form [] no_choice h).0

-- def Main = if 1 then UInt8 else UInt8
abbrev if_one : Expr
if_one = expr (if_ (int_at 1 14 15) (byte 21 26) (byte 32 37)) byte_type (span 11 37)

if_one_refused : IsTyped (one [] if_one) → ⊥
if_one_refused h = (one_form [] if_one h).1

-- def Main = ^ (true as {}): a truth value is no `{}`
lossy : (a b : Ty) → a ≡ bool_type → b ≡ unit_type → Lossless [] a b → ⊥
lossy a b e f op.same = absurd cc
lossy a b e f (op.numbers {s = s} g h k) = none_some (subst (λ y. number_type y ≡ Some s) e g)
lossy a b e f (op.bits_number g h k) = absurd cc
lossy a b e f (op.number_bits g h k) = absurd cc

abbrev as_unit : Expr
as_unit = expr (pure (expr (cast Keep truth_at) unit_type (span 14 24))) unit_type (span 11 25)

as_unit_refused : IsTyped (one [] as_unit) → ⊥
as_unit_refused h = lossy bool_type unit_type refl refl (one_form [] as_unit h).0.1

-- def Main = F, where F takes a number
abbrev without_argument : Mono
without_argument = mono 0 []
    (copy K.Grammar [] [] byte_type (expr (call 1 no_args) byte_type (span 11 12)) ∷
    copy K.Grammar (own 0 ∷ []) (byte_type ∷ []) byte_type (named 0 byte_type 23 25 26) ∷ [])

no_names_is : (ty : Ty) (Γ callee : Context) → no_names ≡ callee → callee ≡ name 0 ty Γ → ⊥
no_names_is ty Γ callee e f = absurd cc

without_argument_refused : IsTyped without_argument → ⊥
without_argument_refused h = by (h.bodies 0 _ refl).0
  where
    by : TypedGrammar [] (spec_of without_argument) (signature_of without_argument) (expr (call 1 no_args) byte_type (span 11 12)) no_names → ⊥
    by (callee, e, (a, f, b, there)) = no_names_is byte_type no_names callee e f
