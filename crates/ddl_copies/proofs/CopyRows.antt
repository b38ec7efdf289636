-- Worked rows: shapes, the copies that are used, their texts, and what they mean. Where nothing rests on it, a span is 0 to 0.
use Rattle.std.proofs.Common.{◌≡◌, ℕ, Bool, List, [], ◌∷◌, map, refl}
use Rattle.std.specs.Prelude.{codes}
use Rattle.ddl_types.specs.Types.{Ty, var}
use Rattle.ddl_types.specs.Value.{no_fields}
use Rattle.ddl_types.specs.Value as v
use Rattle.ddl_types.specs.Outcome.{parsed, unticked}
use Rattle.ddl_ops.specs.declared.operators.Infix.TheVariants.{Beside}
use Rattle.ddl_typed.specs.Tree.{Expr, Form, Spec, Args, Site, Items, expr, literal, local, infix_, pure, paren, block, item, plain, let_, field}
use Rattle.ddl_typed.specs.Tree.{first, alt, uint8, class, range, class_parameter, those, call, by_value, by_grammar, by_class, by_type, by_hand, no_args}
use Rattle.ddl_typed.specs.Tree.{no_items, no_alts, parameter, own, under}
use Rattle.ddl_typed.specs.Denoted.{Denoted}
use Rattle.ddl_typed.proofs.RowForms.{span, other, uint_type, byte_type, main_decl, rest_of, an_int, int_type}
use Rattle.ddl_copies.specs.Shapes.{Origin, Instance, member, argument, no_parameters, grammar_at, class_at, type_at, at_place, at_name}
use Rattle.ddl_copies.specs.LocalTypes.{captured_types}
use Rattle.ddl_copies.specs.Copied.{copied}
use Rattle.ddl_copies.specs.Queue.{Within, Joins, all_there, is_there, is_new, MetInAll, at_first, and_then, at_front, behind}
use Rattle.ddl_copies.specs.Needed.{copy_uses, member_uses, all_arguments}

abbrev form : Form → Expr
form f = expr f other (span 0 0)

abbrev specification : List Expr → Spec
specification es = record { decls = map main_decl es; bits = [] }

abbrev byte : Expr
byte = expr uint8 byte_type (span 0 0)

abbrev value : ℕ → Expr
value x = expr (local x) byte_type (span 0 0)

-- a place in the text, with the values that are captured there and the grammar parameters that are used
abbrev site : ℕ → List ℕ → List ℕ → Site
site n values grammars = record { place = n; values = values; grammars = grammars; classes = []; types = [] }

abbrev items_of : List Expr → Items
items_of [] = no_items
items_of (e ∷ es) = item (plain e) (items_of es)

abbrev lines : List Expr → Expr
lines es = form (block (items_of es))

-- ---- an argument that captures a value, used twice
-- def Main = block { let k = UInt8; P (block { UInt8; ^ k }) }
-- def P X = block { a = X; b = X }

abbrev captured_here : Site
captured_here = site 0 (0 ∷ []) []

abbrev captured_byte_and_k : Expr
captured_byte_and_k = form (paren (lines (byte ∷ form (pure (value 0)) ∷ [])))

abbrev captured_main_with : Args → Expr
captured_main_with args = form (block (item (let_ 0 byte) (item (plain (form (call 1 args))) no_items)))

abbrev captured_p_text : Expr
captured_p_text = form (block (item (field (codes "a") 0 (form (parameter 0))) (item (field (codes "b") 1 (form (parameter 0))) no_items)))

abbrev captured_whole : Spec
captured_whole = specification (captured_main_with (by_grammar 0 captured_here captured_byte_and_k no_args) ∷ captured_p_text ∷ [])

abbrev captured_number : Origin → ℕ
captured_number (member f τs) = f
captured_number (argument place e τs) = 2

abbrev captured_inst : Instance
captured_inst = grammar_at 0 (at_place captured_here captured_byte_and_k no_parameters) no_parameters

-- the entry needs the copy of P at that shape, and that of the argument
captured_needed : copy_uses captured_whole (member 0 no_parameters) ≡ member 1 captured_inst ∷ argument captured_here captured_byte_and_k no_parameters ∷ []
captured_needed = refl

-- they have their numbers in this order
captured_new : Within (member 1 captured_inst) (member 0 no_parameters ∷ []) → ⊥
captured_new (behind i) = elim i [ ]

captured_met : MetInAll (member_uses captured_whole) (member 0 no_parameters) (member 0 no_parameters ∷ member 1 captured_inst ∷ [])
captured_met = and_then (and_then at_first refl (is_new captured_new all_there)) refl all_there

captured_behind : Joins [] (all_arguments captured_whole (member 0 no_parameters ∷ member 1 captured_inst ∷ []))
    (argument captured_here captured_byte_and_k no_parameters ∷ [])
captured_behind = is_new (λ i. elim i [ ]) all_there

-- k is a byte there
captured_k : captured_types (at_place captured_here captured_byte_and_k no_parameters) ≡ byte_type ∷ []
captured_k = refl

-- the call of P hands k on, and no grammar
captured_main_copied : copied captured_whole captured_number (captured_main_with (by_grammar 0 captured_here captured_byte_and_k no_args)) no_parameters
    ≡ captured_main_with (by_hand (under 0 (own 0)) (own 0) no_args)
captured_main_copied = refl

abbrev captured_made : Spec
captured_made = specification (copied captured_whole captured_number (captured_main_with (by_grammar 0 captured_here captured_byte_and_k no_args)) no_parameters
    ∷ copied captured_whole captured_number captured_p_text captured_inst ∷ copied captured_whole captured_number captured_byte_and_k no_parameters ∷ [])

-- the same parse, with the same ticks, since no parameter is handed on
captured_on_kab : Denoted 3 captured_made 0 (codes "kab") ≡ Denoted 3 captured_whole 0 (codes "kab")
captured_on_kab = refl

-- ---- the queue goes on while there is something new
-- def A = First { B; UInt8 } and def B = A

abbrev mutually_whole : Spec
mutually_whole = specification (form (first (alt (form (call 1 no_args)) (alt byte no_alts))) ∷ form (call 0 no_args) ∷ [])

abbrev mutually_a : Origin
mutually_a = member 0 no_parameters

abbrev mutually_b : Origin
mutually_b = member 1 no_parameters

mutually_new : Within mutually_b (mutually_a ∷ []) → ⊥
mutually_new (behind i) = elim i [ ]

mutually_met : MetInAll (member_uses mutually_whole) mutually_a (mutually_a ∷ mutually_b ∷ [])
mutually_met = and_then (and_then at_first refl (is_new mutually_new all_there)) refl (is_there at_front all_there)

-- ---- a declaration at two types
-- def Main = block { F (1 : uint 8); F (1 : uint 16) }
-- def F n = ^ (n # 1)

abbrev typed_one : Ty → Expr
typed_one ty = expr (literal 1) ty (span 0 0)

abbrev typed_f_text : Ty → Expr
typed_f_text ty = form (pure (expr (infix_ Beside (expr (local 0) ty (span 0 0)) (typed_one ty)) ty (span 0 0)))

abbrev typed_f_of : Ty → Expr
typed_f_of ty = form (call 1 (by_type 0 ty (by_value 0 (typed_one ty) no_args)))

abbrev typed_whole : Spec
typed_whole = specification (lines (typed_f_of byte_type ∷ typed_f_of (uint_type 16) ∷ []) ∷ typed_f_text (var 0) ∷ [])

typed_needed : copy_uses typed_whole (member 0 no_parameters) ≡ member 1 (type_at 0 byte_type no_parameters) ∷ member 1 (type_at 0 (uint_type 16) no_parameters)
    ∷ []
typed_needed = refl

typed_f_copied : (number : Origin → ℕ) → copied typed_whole number (typed_f_text (var 0)) (type_at 0 (uint_type 16) no_parameters) ≡ typed_f_text (uint_type 16)
typed_f_copied number = refl

-- ---- a declaration with a class
-- def Main = P $['a' .. 'b']
-- def P $c = $c

abbrev classed_whole : Spec
classed_whole = specification (form (call 1 (by_class 0 (range 97 98) no_args)) ∷ form (class (class_parameter 0)) ∷ [])

abbrev classed_number : Origin → ℕ
classed_number (member f τs) = f
classed_number (argument place e τs) = 9

abbrev classed_p : Instance → Expr
classed_p τs = copied classed_whole classed_number (form (class (class_parameter 0))) τs

-- the copy has the bytes, and its call no argument
classed_call_copied : (τs : Instance) → copied classed_whole classed_number (form (call 1 (by_class 0 (range 97 98) no_args))) τs ≡ form (call 1 no_args)
classed_call_copied τs = refl

classed_class_copied : (set : ℕ → Bool) → classed_p (class_at 0 set no_parameters) ≡ form (class (those set))
classed_class_copied set = refl

-- ---- a declaration as an argument has itself as its shape, whatever its place; in parentheses it has its place
-- def Main = block { P D; P D; P (D) }
-- def P X = X and def D = UInt8

abbrev bare_d : Expr
bare_d = form (call 2 no_args)

abbrev bare_p_of : ℕ → Expr → Expr
bare_p_of n e = form (call 1 (by_grammar 0 (site n [] []) e no_args))

abbrev bare_whole : Spec
bare_whole = specification (lines (bare_p_of 0 bare_d ∷ bare_p_of 1 bare_d ∷ bare_p_of 2 (form (paren bare_d)) ∷ []) ∷ form (parameter 0) ∷ byte ∷ [])

abbrev bare_by_name : Instance
bare_by_name = grammar_at 0 (at_name 2 no_parameters) no_parameters

abbrev bare_by_place : Instance
bare_by_place = grammar_at 0 (at_place (site 2 [] []) (form (paren bare_d)) no_parameters) no_parameters

bare_needed : copy_uses bare_whole (member 0 no_parameters) ≡
    member 1 bare_by_name ∷ member 2 no_parameters ∷ member 1 bare_by_name ∷ member 2 no_parameters ∷ member 1 bare_by_place
    ∷ argument (site 2 [] []) (form (paren bare_d)) no_parameters ∷ member 2 no_parameters ∷ []
bare_needed = refl

-- ---- a grammar parameter that is handed on
-- def Main = block { let k = UInt8; P (^ k) }
-- def P X = Q X and def Q Y = block { Y; Y }

abbrev handed_here : Site
handed_here = site 0 (0 ∷ []) []

abbrev handed_k : Expr
handed_k = form (pure (value 0))

abbrev handed_main_with : Args → Expr
handed_main_with args = form (block (item (let_ 0 byte) (item (plain (form (call 1 args))) no_items)))

abbrev handed_p_text : Expr
handed_p_text = form (call 2 (by_grammar 0 (site 1 [] (0 ∷ [])) (form (parameter 0)) no_args))

abbrev handed_q_text : Expr
handed_q_text = lines (form (parameter 0) ∷ form (parameter 0) ∷ [])

abbrev handed_whole : Spec
handed_whole = specification (handed_main_with (by_grammar 0 handed_here handed_k no_args) ∷ handed_p_text ∷ handed_q_text ∷ [])

-- the shape is handed on as it is
abbrev handed_inst : Instance
handed_inst = grammar_at 0 (at_place handed_here handed_k no_parameters) no_parameters

handed_p_uses : copy_uses handed_whole (member 1 handed_inst) ≡ member 2 handed_inst ∷ []
handed_p_uses = refl

abbrev handed_number : Origin → ℕ
handed_number (member f τs) = f
handed_number (argument place e τs) = 3

handed_p_copied : copied handed_whole handed_number handed_p_text handed_inst ≡ form (call 2 (by_hand (under 0 (own 0)) (under 0 (own 0)) no_args))
handed_p_copied = refl

handed_q_copied : copied handed_whole handed_number handed_q_text handed_inst
    ≡ lines (form (call 3 (by_hand (own 0) (under 0 (own 0)) no_args)) ∷ form (call 3 (by_hand (own 0) (under 0 (own 0)) no_args)) ∷ [])
handed_q_copied = refl

abbrev handed_made : Spec
handed_made = specification (copied handed_whole handed_number (handed_main_with (by_grammar 0 handed_here handed_k no_args)) no_parameters
    ∷ copied handed_whole handed_number handed_p_text handed_inst ∷ copied handed_whole handed_number handed_q_text handed_inst
    ∷ copied handed_whole handed_number handed_k no_parameters ∷ [])

-- the same but for the two ticks with which each use goes through the parameter that is handed on
handed_on_k : unticked (Denoted 5 handed_made 0 (codes "k")) ≡ unticked (Denoted 5 handed_whole 0 (codes "k"))
handed_on_k = refl

-- ---- one copy for two uses that capture different values
-- def Main = block { a = Q 1; b = Q 2 }
-- def Q k = P (^ k) and def P X = X

abbrev shared_q_of : ℕ → Expr
shared_q_of n = form (call 1 (by_value 0 (expr (literal n) int_type (span 0 0)) no_args))

abbrev shared_main_text : Expr
shared_main_text = form (block (item (field (codes "a") 0 (shared_q_of 1)) (item (field (codes "b") 1 (shared_q_of 2)) no_items)))

abbrev shared_here : Site
shared_here = site 0 (0 ∷ []) []

abbrev shared_k : Expr
shared_k = form (pure (expr (local 0) int_type (span 0 0)))

abbrev shared_q_text : Expr
shared_q_text = form (call 2 (by_grammar 0 shared_here shared_k no_args))

abbrev shared_whole : Spec
shared_whole = specification (shared_main_text ∷ shared_q_text ∷ form (parameter 0) ∷ [])

abbrev shared_number : Origin → ℕ
shared_number (member f τs) = f
shared_number (argument place e τs) = 3

abbrev shared_inst : Instance
shared_inst = grammar_at 0 (at_place shared_here shared_k no_parameters) no_parameters

abbrev shared_made : Spec
shared_made = specification (copied shared_whole shared_number shared_main_text no_parameters ∷ copied shared_whole shared_number shared_q_text no_parameters
    ∷ copied shared_whole shared_number (form (parameter 0)) shared_inst ∷ copied shared_whole shared_number shared_k no_parameters ∷ [])

-- each use has the value that it captured
shared_one_and_two : unticked (Denoted 5 shared_made 0 []) ≡ parsed (v.fields (v.field (codes "a") (an_int 1) (v.field (codes "b") (an_int 2) no_fields)))
    (rest_of [] 0 0)
shared_one_and_two = refl

shared_as_before : Denoted 5 shared_made 0 [] ≡ Denoted 5 shared_whole 0 []
shared_as_before = refl
