-- One token, and all of them.
use Rattle.std.specs.Prelude.{◌≡◌, nat_le, nat_eq, List, [], ◌∷◌, Option, Some, None, option_and_then, if◌then◌else◌}
use Rattle.ddl_base.specs.declared.span.Span.{Span}
use Rattle.ddl_token.specs.declared.token.Tok.{Tok}
use Rattle.ddl_token.specs.declared.token.Tok.TheVariants as k
use Rattle.ddl_token.specs.declared.mark.Mark.TheVariants as m
use Rattle.ddl_tree.specs.declared.name.ByteLit.{ByteLit}
use Rattle.ddl_tree.specs.ClassTree as cls
use Rattle.ddl_tree.specs.ModuleTree as mo
use Rattle.ddl_reader.specs.Frames.{Seen, Frame, Focus, State, Found, FoundType, FoundClass}
use Rattle.ddl_reader.specs.Frames as frame
use Rattle.ddl_reader.specs.StepType.{begin_type, width_uint, width_sint, close_empty, after_element, after_map_value, after_within}
use Rattle.ddl_reader.specs.StepClass.{class_done, begin_class, last_byte, after_grouped, after_class_set}
use Rattle.ddl_reader.specs.StepExpr.{hole, binds, begin, extend, with_argument, closes}
use Rattle.ddl_reader.specs.StepParts.{after_paren, after_paren_type, after_high, after_between, after_condition, after_then, after_start, after_for_list}
use Rattle.ddl_reader.specs.StepParts.{after_map_list, open_for_with, for_name_with, for_equals_with, open_map_with, first_name, after_first_name, second_name}
use Rattle.ddl_reader.specs.StepParts.{in_with, shape_with, field_with, after_set, after_array, first_field, next_field, record_equals_with, after_field}
use Rattle.ddl_reader.specs.StepParts.{tag_name_with, after_tag_with, after_tagged}
use Rattle.ddl_reader.specs.StepLists.{open_block_with, let_name_with, item_equals_with, after_item, open_choice_with, after_untagged, want_tag_with}
use Rattle.ddl_reader.specs.StepLists.{tag_equals_with, after_with_tags, after_subject, open_case_with, pattern_with, just_with, tag_with, arrow_with}
use Rattle.ddl_reader.specs.StepLists.{after_alt}
use Rattle.ddl_reader.specs.StepDecl.{begin_decl, begin_import, import_name, decl_name, param_with, param_name, param_colon_with, after_param_type}
use Rattle.ddl_reader.specs.StepDecl.{after_result, close_body, class_equals_with, close_class_body, after_class_body, bits_name, after_bits_name_with}
use Rattle.ddl_reader.specs.StepDecl.{open_cons_with, con_name, con_equals_with, after_con_with, bits_with, with_part, part_with, part_colon_with, part_of}
use Rattle.ddl_reader.specs.StepDecl.{after_part_with}

-- the token after a type
abbrev pub step_type : List Frame → FoundType → Tok → Span → Option State
step_type (frame.in_bracket from ∷ fs) t x s = after_element x s from t fs
step_type (frame.in_map_value from u ∷ fs) t x s = after_map_value x s from u t fs
step_type (frame.in_within from ∷ fs) t x s = after_within x s from t fs
step_type (frame.in_paren_type from a ∷ fs) t x s = after_paren_type x s from a t fs
step_type (frame.in_param h from o y ∷ fs) t x s = after_param_type x s h from o y t fs
step_type (frame.in_result h ∷ fs) t x s = after_result x h t fs
step_type (frame.in_part p o ∷ fs) t x s = after_part_with x s (with_part p (part_of o t.type) t.deep) fs
step_type _ t x s = None

-- the token after a class
abbrev pub step_class : List Frame → FoundClass → Tok → Span → Option State
step_class (frame.in_grouped from ∷ fs) c x s = after_grouped x s from c fs
step_class (frame.in_class_set from ∷ fs) c x s = after_class_set x s from c fs
step_class (frame.in_set from ∷ fs) c x s = after_set x s from c fs
step_class (frame.in_class_body from y ∷ fs) c x s = after_class_body x s from y c fs
step_class _ c x s = None

abbrev pub class_on : State → Tok → Span → Option State
class_on (fs, frame.have_class c) x s = step_class fs c x s
class_on _ x s = None

-- the token after a byte of a class
abbrev pub step_byte : List Frame → ByteLit → Tok → Span → Option State
step_byte fs b (k.Mark m.DotDot) s = Some (fs, frame.want_last b)
step_byte fs b x s = class_on (class_done fs (cls.One b) 1) x s

-- the token after a part of an expression that is not its last
abbrev pub passes : Frame → Tok → Span → Found → List Frame → Option State
passes (frame.in_paren from) x s a fs = after_paren x s from a fs
passes (frame.in_at_most r from) x s a fs = after_high x s r from a fs
passes (frame.in_between r from b) x s a fs = after_between x s r from b a fs
passes (frame.in_if from) x s a fs = after_condition x from a fs
passes (frame.in_then from c) x s a fs = after_then x from c a fs
passes (frame.in_for_start from y) x s a fs = after_start x from y a fs
passes (frame.in_for_list from y i ns) x s a fs = after_for_list x from y i ns a fs
passes (frame.in_map_list from ns) x s a fs = after_map_list x from ns a fs
passes (frame.in_array from xs n) x s a fs = after_array x s from xs n a fs
passes (frame.in_record from bs n y) x s a fs = after_field x s from bs n y a fs
passes (frame.in_tagged from y) x s a fs = after_tagged x s from y a fs
passes (frame.in_block from is n b) x s a fs = after_item x s from is n b a fs
passes (frame.in_untagged r xs n) x s a fs = after_untagged x s r xs n a fs
passes (frame.in_with_tags r bs n y) x s a fs = after_with_tags x s r bs n y a fs
passes (frame.in_subject from) x s a fs = after_subject x from a fs
passes (frame.in_alt from e xs n p) x s a fs = after_alt x s from e xs n p a fs
passes (frame.in_body h t n) x s a fs = begin_decl x s (close_body h t n a fs)
passes _ x s a fs = None

-- an atom after an argument begins another
abbrev pub argue : Frame → Tok → Span → Found → List Frame → Option State
argue f x s a fs = option_and_then (λ g. begin x s (g ∷ fs)) (with_argument f a)

-- a form that ends gives itself to the form around it
abbrev pub closed : Option Found → (Found → Option State) → Option State → Option State
closed (Some a) around other = around a
closed None around other = other

-- the token after an expression
abbrev pub step_have : List Frame → Found → Tok → Span → Option State
step_have [] a x s = if nat_le 1 (binds x) then extend x s a [] else None
step_have (f ∷ fs) a x s =
    if nat_le (hole f) (binds x) then extend x s a (f ∷ fs)
    else (if nat_eq (binds x) 16 then argue f x s a fs
    else closed (closes f a) (λ b. step_have fs b x s) (passes f x s a fs))

abbrev pub step_at : Focus → List Frame → Tok → Span → Option State
step_at frame.at_import fs x s = begin_import x s fs
step_at frame.at_decl fs x s = begin_decl x s fs
step_at frame.want_type fs x s = begin_type x s fs
step_at (frame.have_type t) fs x s = step_type fs t x s
step_at (frame.want_uint from) fs x s = width_uint x s from fs
step_at (frame.want_sint from) fs x s = width_sint x s from fs
step_at (frame.open_empty from) fs x s = close_empty x s from fs
step_at frame.want_class fs x s = begin_class x s fs
step_at (frame.have_class c) fs x s = step_class fs c x s
step_at (frame.have_byte b) fs x s = step_byte fs b x s
step_at (frame.want_last b) fs x s = last_byte x s b fs
step_at frame.want fs x s = begin x s fs
step_at (frame.have a) fs x s = step_have fs a x s
step_at (frame.open_for from) fs x s = open_for_with x from fs
step_at (frame.for_name from) fs x s = for_name_with x s from fs
step_at (frame.for_equals from y) fs x s = for_equals_with x from y fs
step_at (frame.open_map from) fs x s = open_map_with x from fs
step_at (frame.loop_first l) fs x s = first_name x s l fs
step_at (frame.loop_after_first l y) fs x s = after_first_name x l y fs
step_at (frame.loop_second l y) fs x s = second_name x s l y fs
step_at (frame.loop_in l ns) fs x s = in_with x l ns fs
step_at (frame.want_shape a) fs x s = shape_with x s a fs
step_at (frame.want_field a) fs x s = field_with x s a fs
step_at (frame.first_of_record from) fs x s = first_field x s from fs
step_at (frame.next_of_record from bs n) fs x s = next_field x s from bs n fs
step_at (frame.record_equals from bs n y) fs x s = record_equals_with x from bs n y fs
step_at (frame.open_tagged from) fs x s = tag_name_with x s from fs
step_at (frame.after_tag from y) fs x s = after_tag_with x s from y fs
step_at (frame.open_block from) fs x s = open_block_with x from fs
step_at (frame.item_equals from is n b) fs x s = item_equals_with x from is n b fs
step_at (frame.let_name from is n at) fs x s = let_name_with x s from is n at fs
step_at (frame.open_choice r) fs x s = open_choice_with x r fs
step_at (frame.want_tag r bs n) fs x s = want_tag_with x s r bs n fs
step_at (frame.tag_equals r bs n y) fs x s = tag_equals_with x r bs n y fs
step_at (frame.open_case from a) fs x s = open_case_with x from a fs
step_at (frame.want_pattern c) fs x s = pattern_with x s c fs
step_at (frame.pattern_just c from) fs x s = just_with x s c from fs
step_at (frame.pattern_tag c y) fs x s = tag_with x s c y fs
step_at (frame.have_pattern c p) fs x s = arrow_with x c p fs
step_at (frame.want_import from) fs x s = import_name x s from fs
step_at (frame.want_name from) fs x s = decl_name x s from fs
step_at (frame.want_param h) fs x s = param_with x s h fs
step_at (frame.open_param h from) fs x s = param_name x s h from fs
step_at (frame.param_colon h from o y) fs x s = param_colon_with x h from o y fs
step_at (frame.class_equals from y) fs x s = class_equals_with x from y fs
step_at (frame.want_bits_name from) fs x s = bits_name x s from fs
step_at (frame.after_bits_name from y) fs x s = after_bits_name_with x from y fs
step_at (frame.open_cons from y) fs x s = open_cons_with x from y fs
step_at (frame.want_con from y cs n) fs x s = con_name x s from y cs n fs
step_at (frame.con_equals from y cs n z) fs x s = con_equals_with x from y cs n z fs
step_at (frame.after_con from y cs n) fs x s = after_con_with x s from y cs n fs
step_at (frame.want_bits l) fs x s = bits_with x s l fs
step_at (frame.want_part p) fs x s = part_with x s p fs
step_at (frame.after_part p) fs x s = after_part_with x s p fs
step_at (frame.part_colon p o) fs x s = part_colon_with x p o fs

-- ---- the end of the tokens

abbrev pub whole : List Frame → Option mo.Module
whole (frame.in_module a n ∷ []) = Some a
whole _ = None

abbrev pub finish_class : List Frame → FoundClass → Option mo.Module
finish_class (frame.in_class_body from y ∷ fs) c = whole (close_class_body from y c fs)
finish_class _ c = None

abbrev pub finish_class_at : State → Option mo.Module
finish_class_at (fs, frame.have_class c) = finish_class fs c
finish_class_at _ = None

abbrev pub finished : Option Found → (Found → Option mo.Module) → Option mo.Module → Option mo.Module
finished (Some a) around other = around a
finished None around other = other

abbrev pub finish_body : Frame → Found → List Frame → Option mo.Module
finish_body (frame.in_body h t n) a fs = whole (close_body h t n a fs)
finish_body _ a fs = None

abbrev pub finish_have : List Frame → Found → Option mo.Module
finish_have [] a = None
finish_have (f ∷ fs) a = finished (closes f a) (λ b. finish_have fs b) (finish_body f a fs)

abbrev pub finish : Focus → List Frame → Option mo.Module
finish frame.at_import fs = whole fs
finish frame.at_decl fs = whole fs
finish (frame.have a) fs = finish_have fs a
finish (frame.have_class c) fs = finish_class fs c
finish (frame.have_byte b) fs = finish_class_at (class_done fs (cls.One b) 1)
finish _ fs = None

-- ---- all tokens

abbrev pub goes : (State → Option mo.Module) → Option State → Option mo.Module
goes on None = None
goes on (Some z) = on z

-- the module whose tokens these are, after those that made the state
abbrev pub run : List Seen → State → Option mo.Module
run [] z = finish z.1 z.0
run (x ∷ xs) z = goes (run xs) (step_at z.1 z.0 x.kind x.at)

abbrev pub begun : State
begun = (frame.in_module (record { imports = []; decls = [] }) 0 ∷ [], frame.at_import)

abbrev pub parsed : List Seen → Option mo.Module
parsed xs = run xs begun

-- the state after these tokens, where each goes on with those before it
abbrev pub reach : List Seen → State → Option State
reach [] z = Some z
reach (x ∷ xs) z = option_and_then (reach xs) (step_at z.1 z.0 x.kind x.at)

-- what tokens are, and where they stand
abbrev pub kinds : List Seen → List Tok
kinds [] = []
kinds (x ∷ xs) = x.kind ∷ kinds xs

abbrev pub places : List Seen → List Span
places [] = []
places (x ∷ xs) = x.at ∷ places xs

-- no token is taken here, or the tokens end too early
abbrev pub IsStuck : State → List Seen → Type 0
IsStuck z [] = finish z.1 z.0 ≡ None
IsStuck z (x ∷ xs) = step_at z.1 z.0 x.kind x.at ≡ None
