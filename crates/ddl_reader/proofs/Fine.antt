-- Each token leads to a state that has read it.
use Rattle.std.proofs.Common.{◌≡◌, true, false, cond, nat_le, nat_eq, List, [], ◌∷◌, Option, Some, None, IfSome, refl, ap, ◌∙◌, arith}
use Rattle.ddl_base.specs.declared.span.Span.{Span}
use Rattle.ddl_token.specs.declared.token.Tok.{Tok}
use Rattle.ddl_token.specs.declared.token.Tok.TheVariants as k
use Rattle.ddl_token.specs.declared.mark.Mark.TheVariants as m
use Rattle.ddl_tree.specs.declared.name.ByteLit.{ByteLit}
use Rattle.ddl_tree.specs.ClassTree as cls
use Rattle.ddl_tree.specs.ClassTree.{byte_span, class_span}
use Rattle.ddl_tree.specs.Grammar.{IsClass, IsExpr}
use Rattle.ddl_reader.specs.Frames.{Frame, Focus, State, Found, FoundType, FoundClass, Head, Sort, Layout, Parted, PartStart, Repeat, Start, Loop, Cases}
use Rattle.ddl_reader.specs.Frames as frame
use Rattle.ddl_reader.specs.StepExpr.{hole, binds}
use Rattle.ddl_reader.specs.StepClass.{class_done}
use Rattle.ddl_reader.specs.StepExpr.{extend, closes}
use Rattle.ddl_reader.specs.Step.{step_type, step_class, class_on, step_byte, passes, argue, closed, step_have, step_at}
use Rattle.ddl_reader.proofs.Before.{read}
use Rattle.ddl_reader.proofs.Fits.{wanted, AreFrames, IsFocus, Steps, shift, le_of}
use Rattle.ddl_reader.proofs.FineTypes.{begin_type_fine, width_uint_fine, width_sint_fine, close_empty_fine, after_element_fine, after_map_value_fine}
use Rattle.ddl_reader.proofs.FineTypes.{after_within_fine, class_done_fine, begin_class_fine, last_byte_fine, after_grouped_fine, after_class_set_fine}
use Rattle.ddl_reader.proofs.FineExprs.{begin_fine, extend_fine, Closes, closes_fine, argument_fine}
use Rattle.ddl_reader.proofs.FineParts.{after_paren_fine, after_paren_type_fine, after_high_fine, after_between_fine, after_condition_fine, after_then_fine}
use Rattle.ddl_reader.proofs.FineParts.{after_start_fine, after_for_list_fine, after_map_list_fine, open_for_fine, for_name_fine, for_equals_fine}
use Rattle.ddl_reader.proofs.FineParts.{open_map_fine, first_name_fine, after_first_fine, second_name_fine, in_fine, shape_fine, field_fine, after_set_fine}
use Rattle.ddl_reader.proofs.FineParts.{after_array_fine, first_field_fine, next_field_fine, record_equals_fine, after_field_fine, tag_name_fine}
use Rattle.ddl_reader.proofs.FineParts.{after_tag_fine, after_tagged_fine}
use Rattle.ddl_reader.proofs.FineLists.{open_block_fine, let_name_fine, item_equals_fine, after_item_fine, open_choice_fine, after_untagged_fine, want_tag_fine}
use Rattle.ddl_reader.proofs.FineLists.{tag_equals_fine, after_with_tags_fine, after_subject_fine, open_case_fine, pattern_fine, just_fine, tag_fine}
use Rattle.ddl_reader.proofs.FineLists.{arrow_fine, after_alt_fine}
use Rattle.ddl_reader.proofs.FineDecls.{begin_decl_fine, begin_import_fine, import_name_fine, decl_name_fine, param_fine, param_name_fine, param_colon_fine}
use Rattle.ddl_reader.proofs.FineDecls.{after_param_type_fine, after_result_fine, after_body_fine, class_equals_fine, after_class_body_fine, bits_name_fine}
use Rattle.ddl_reader.proofs.FineDecls.{after_bits_name_fine, open_cons_fine, con_name_fine, con_equals_fine, after_con_fine, bits_fine, part_fine}
use Rattle.ddl_reader.proofs.FineDecls.{part_colon_fine, after_part_fine, after_typed_part_fine}

step_type_fine : (fs : List Frame) (t : FoundType) (x : Tok) (s : Span) → AreFrames fs → Steps fs (frame.have_type t) x (step_type fs t x s)
step_type_fine [] t x s h = tt
step_type_fine (frame.in_bracket from ∷ fs) t x s h = after_element_fine x s from t fs h.4 h.1
step_type_fine (frame.in_map_value from u ∷ fs) t x s h = after_map_value_fine x s from u t fs h.4 h.1
step_type_fine (frame.in_within from ∷ fs) t x s h = after_within_fine x s from t fs h.4 h.1
step_type_fine (frame.in_paren_type from a ∷ fs) t x s h = after_paren_type_fine x s from a t fs h.4 h.1 h.0
step_type_fine (frame.in_param d from o y ∷ fs) t x s h = after_param_type_fine x s d from o y t fs h.4 h.1
step_type_fine (frame.in_result d ∷ fs) t x s h = after_result_fine x d t fs h.4 h.1
step_type_fine (frame.in_part p o ∷ fs) t x s h = after_typed_part_fine x s p o t fs h
step_type_fine (_ ∷ fs) t x s h = tt

step_class_fine : (fs : List Frame) (c : FoundClass) (x : Tok) (s : Span) → AreFrames fs → IsClass c.class
    → Steps fs (frame.have_class c) x (step_class fs c x s)
step_class_fine [] c x s h i = tt
step_class_fine (frame.in_grouped from ∷ fs) c x s h i = after_grouped_fine x s from c fs h i
step_class_fine (frame.in_class_set from ∷ fs) c x s h i = after_class_set_fine x s from c fs h i
step_class_fine (frame.in_set from ∷ fs) c x s h i = after_set_fine x s from c fs h i
step_class_fine (frame.in_class_body from y ∷ fs) c x s h i = after_class_body_fine x s from y c fs h i
step_class_fine (_ ∷ fs) c x s h i = tt

class_on_fine : (fs : List Frame) (f : Focus) (x : Tok) (s : Span) → AreFrames fs → IsFocus fs f → Steps fs f x (class_on (fs, f) x s)
class_on_fine fs (frame.have_class c) x s h i = step_class_fine fs c x s h i.0
class_on_fine fs _ x s h i = tt

byte_goes_on : (fs : List Frame) (b : ByteLit) (x : Tok) (s : Span) → AreFrames fs → wanted fs ≡ 3
    → Steps fs (frame.have_byte b) x (class_on (class_done fs (cls.One b) 1) x s)
byte_goes_on fs b x s h w =
    let z = class_done fs (cls.One b) 1 in
    let g = class_done_fine fs (cls.One b) 1 h w tt (omega arith) in
    shift z.0 fs z.1 (frame.have_byte b) x (class_on z x s) (λ r. g.0 (x ∷ r)) (class_on_fine z.0 z.1 x s g.1 g.2)

step_byte_fine : (fs : List Frame) (b : ByteLit) (x : Tok) (s : Span) → AreFrames fs → wanted fs ≡ 3 → Steps fs (frame.have_byte b) x (step_byte fs b x s)
step_byte_fine fs b (k.Mark m.DotDot) s h w = ((λ r. refl), h, w)
step_byte_fine fs b x s h w = byte_goes_on fs b x s h w

passes_fine : (f : Frame) (x : Tok) (s : Span) (a : Found) (fs : List Frame) → AreFrames (f ∷ fs) → IsExpr a.expr
    → Steps (f ∷ fs) (frame.have a) x (passes f x s a fs)
passes_fine (frame.in_paren from) x s a fs h i = after_paren_fine x s from a fs h.4 h.1 i
passes_fine (frame.in_at_most o from) x s a fs h i = after_high_fine x s o from a fs h i
passes_fine (frame.in_between o from b) x s a fs h i = after_between_fine x s o from b a fs h i
passes_fine (frame.in_if from) x s a fs h i = after_condition_fine x from a fs h i
passes_fine (frame.in_then from c) x s a fs h i = after_then_fine x from c a fs h i
passes_fine (frame.in_for_start from y) x s a fs h i = after_start_fine x from y a fs h i
passes_fine (frame.in_for_list from y j ns) x s a fs h i = after_for_list_fine x from y j ns a fs h i
passes_fine (frame.in_map_list from ns) x s a fs h i = after_map_list_fine x from ns a fs h i
passes_fine (frame.in_array from xs n) x s a fs h i = after_array_fine x s from xs n a fs h i
passes_fine (frame.in_record from bs n y) x s a fs h i = after_field_fine x s from bs n y a fs h i
passes_fine (frame.in_tagged from y) x s a fs h i = after_tagged_fine x s from y a fs h i
passes_fine (frame.in_block from is n b) x s a fs h i = after_item_fine x s from is n b a fs h i
passes_fine (frame.in_untagged o xs n) x s a fs h i = after_untagged_fine x s o xs n a fs h i
passes_fine (frame.in_with_tags o bs n y) x s a fs h i = after_with_tags_fine x s o bs n y a fs h i
passes_fine (frame.in_subject from) x s a fs h i = after_subject_fine x from a fs h i
passes_fine (frame.in_alt from e xs n p) x s a fs h i = after_alt_fine x s from e xs n p a fs h i
passes_fine (frame.in_body d t n) x s a fs h i = after_body_fine x s d t n a fs h.4 h.1 i
passes_fine _ x s a fs h i = tt

-- the form around takes the form that ends
closed_fine : (f : Frame) (fs : List Frame) (a : Found) (x : Tok) (o : Option Found) (on : Found → Option State) (other : Option State)
    → IfSome o (λ u. Closes f a u)
    → ((u : Found) → Closes f a u → Steps fs (frame.have u) x (on u)) → Steps (f ∷ fs) (frame.have a) x other
    → Steps (f ∷ fs) (frame.have a) x (closed o on other)
closed_fine f fs a x None on other h go stay = stay
closed_fine f fs a x (Some u) on other h go stay = shift fs (f ∷ fs) (frame.have u) (frame.have a) x (on u) (λ r. ap (read fs) (h.text (x ∷ r))) (go u h)

step_have_fine : (fs : List Frame) (a : Found) (x : Tok) (s : Span) → AreFrames fs → IsFocus fs (frame.have a) → Steps fs (frame.have a) x (step_have fs a x s)
step_have_fine [] a x s h i = let w = i.1 in absurd (omega arith)
step_have_fine (f ∷ fs) a x s h i =
    elim (nat_le (hole f) (binds x)) as (λ b. nat_le (hole f) (binds x) ≡ b
    → Steps (f ∷ fs) (frame.have a) x (cond b (extend x s a (f ∷ fs))
    (cond (nat_eq (binds x) 16) (argue f x s a fs) (closed (closes f a) (λ u. step_have fs u x s) (passes f x s a fs))))) [
      | true ↦ λ e. extend_fine x s a (f ∷ fs) h i.1 i.0 (le_of (hole f) (binds x) e)
      | false ↦ λ _.
          elim (nat_eq (binds x) 16) as (λ b. Steps (f ∷ fs) (frame.have a) x
          (cond b (argue f x s a fs) (closed (closes f a) (λ u. step_have fs u x s) (passes f x s a fs)))) [
            | true ↦ argument_fine f x s a fs h i.0 i.2
            | false ↦ closed_fine f fs a x (closes f a) (λ u. step_have fs u x s) (passes f x s a fs) (closes_fine f a h.0 i.0 i.2)
                (λ u c. step_have_fine fs u x s h.4 (c.tree, h.1 ∙ c.kind, let at = c.at in let up = h.2 in omega arith))
                (passes_fine f x s a fs h i.0)
          ]
    ] refl

-- a token that the machine takes leads to a state that has read it
pub step_fine : (f : Focus) (fs : List Frame) (x : Tok) (s : Span) → AreFrames fs → IsFocus fs f → Steps fs f x (step_at f fs x s)
step_fine frame.at_import fs x s h i = begin_import_fine x s fs h i
step_fine frame.at_decl fs x s h i = begin_decl_fine x s fs h i
step_fine frame.want_type fs x s h i = begin_type_fine x s fs h i
step_fine (frame.have_type t) fs x s h i = step_type_fine fs t x s h
step_fine (frame.want_uint from) fs x s h i = width_uint_fine x s from fs h i
step_fine (frame.want_sint from) fs x s h i = width_sint_fine x s from fs h i
step_fine (frame.open_empty from) fs x s h i = close_empty_fine x s from fs h i
step_fine frame.want_class fs x s h i = begin_class_fine x s fs h i
step_fine (frame.have_class c) fs x s h i = step_class_fine fs c x s h i.0
step_fine (frame.have_byte b) fs x s h i = step_byte_fine fs b x s h i
step_fine (frame.want_last b) fs x s h i = last_byte_fine x s b fs h i
step_fine frame.want fs x s h i = begin_fine x s fs h i
step_fine (frame.have a) fs x s h i = step_have_fine fs a x s h i
step_fine (frame.open_for from) fs x s h i = open_for_fine x from fs h i
step_fine (frame.for_name from) fs x s h i = for_name_fine x s from fs h i
step_fine (frame.for_equals from y) fs x s h i = for_equals_fine x from y fs h i
step_fine (frame.open_map from) fs x s h i = open_map_fine x from fs h i
step_fine (frame.loop_first l) fs x s h i = first_name_fine x s l fs h i
step_fine (frame.loop_after_first l y) fs x s h i = after_first_fine x l y fs h i
step_fine (frame.loop_second l y) fs x s h i = second_name_fine x s l y fs h i
step_fine (frame.loop_in l ns) fs x s h i = in_fine x l ns fs h i
step_fine (frame.want_shape a) fs x s h i = shape_fine x s a fs h i
step_fine (frame.want_field a) fs x s h i = field_fine x s a fs h i
step_fine (frame.first_of_record from) fs x s h i = first_field_fine x s from fs h i
step_fine (frame.next_of_record from bs n) fs x s h i = next_field_fine x s from bs n fs h i
step_fine (frame.record_equals from bs n y) fs x s h i = record_equals_fine x from bs n y fs h i
step_fine (frame.open_tagged from) fs x s h i = tag_name_fine x s from fs h i
step_fine (frame.after_tag from y) fs x s h i = after_tag_fine x s from y fs h i
step_fine (frame.open_block from) fs x s h i = open_block_fine x from fs h i
step_fine (frame.item_equals from is n b) fs x s h i = item_equals_fine x from is n b fs h i
step_fine (frame.let_name from is n t) fs x s h i = let_name_fine x s from is n t fs h i
step_fine (frame.open_choice o) fs x s h i = open_choice_fine x o fs h i
step_fine (frame.want_tag o bs n) fs x s h i = want_tag_fine x s o bs n fs h i
step_fine (frame.tag_equals o bs n y) fs x s h i = tag_equals_fine x o bs n y fs h i
step_fine (frame.open_case from e) fs x s h i = open_case_fine x from e fs h i
step_fine (frame.want_pattern c) fs x s h i = pattern_fine x s c fs h i
step_fine (frame.pattern_just c from) fs x s h i = just_fine x s c from fs h i
step_fine (frame.pattern_tag c y) fs x s h i = tag_fine x s c y fs h i
step_fine (frame.have_pattern c p) fs x s h i = arrow_fine x c p fs h i
step_fine (frame.want_import from) fs x s h i = import_name_fine x s from fs h i
step_fine (frame.want_name from) fs x s h i = decl_name_fine x s from fs h i
step_fine (frame.want_param d) fs x s h i = param_fine x s d fs h i
step_fine (frame.open_param d from) fs x s h i = param_name_fine x s d from fs h i
step_fine (frame.param_colon d from o y) fs x s h i = param_colon_fine x d from o y fs h i
step_fine (frame.class_equals from y) fs x s h i = class_equals_fine x from y fs h i
step_fine (frame.want_bits_name from) fs x s h i = bits_name_fine x s from fs h i
step_fine (frame.after_bits_name from y) fs x s h i = after_bits_name_fine x from y fs h i
step_fine (frame.open_cons from y) fs x s h i = open_cons_fine x from y fs h i
step_fine (frame.want_con from y cs n) fs x s h i = con_name_fine x s from y cs n fs h i
step_fine (frame.con_equals from y cs n z) fs x s h i = con_equals_fine x from y cs n z fs h i
step_fine (frame.after_con from y cs n) fs x s h i = after_con_fine x s from y cs n fs h i
step_fine (frame.want_bits l) fs x s h i = bits_fine x s l fs h i
step_fine (frame.want_part p) fs x s h i = part_fine x s p fs h i
step_fine (frame.after_part p) fs x s h i = after_part_fine x s p fs h i
step_fine (frame.part_colon p o) fs x s h i = part_colon_fine x p o fs h i
