-- Each token keeps the depths, and makes no module shallower.
use Rattle.std.proofs.Common.{◌≡◌, true, false, cond, nat_le, nat_eq, List, [], ◌∷◌, Option, Some, None, IfSome, refl, arith}
use Rattle.ddl_base.specs.declared.span.Span.{Span}
use Rattle.ddl_token.specs.declared.token.Tok.{Tok}
use Rattle.ddl_token.specs.declared.token.Tok.TheVariants as k
use Rattle.ddl_token.specs.declared.mark.Mark.TheVariants as m
use Rattle.ddl_tree.specs.declared.name.ByteLit.{ByteLit}
use Rattle.ddl_tree.specs.ClassTree as cls
use Rattle.ddl_tree.specs.Depth.{type_depth, class_depth}
use Rattle.ddl_reader.specs.Frames.{Frame, Focus, State, Found, FoundType, FoundClass}
use Rattle.ddl_reader.specs.Frames as frame
use Rattle.ddl_reader.specs.StepExpr.{hole, binds, extend, closes}
use Rattle.ddl_reader.specs.StepClass.{class_done}
use Rattle.ddl_reader.specs.Step.{step_type, step_class, class_on, step_byte, passes, argue, closed, step_have, step_at}
use Rattle.ddl_reader.specs.Depths.{around_in, low, need, lowest}
use Rattle.ddl_reader.proofs.Fits.{wanted, AreFrames, IsFocus}
use Rattle.ddl_reader.proofs.FineTypes.{class_done_fine}
use Rattle.ddl_reader.proofs.Deep.{IsDeep, AreDeep, IsDeepFocus, Deeps, weaken, low_grows}
use Rattle.ddl_reader.proofs.DeepTypes.{begin_type_deep, width_uint_deep, width_sint_deep, close_empty_deep, after_element_deep, after_map_value_deep}
use Rattle.ddl_reader.proofs.DeepTypes.{after_within_deep, class_done_deep, begin_class_deep, last_byte_deep, after_grouped_deep, after_class_set_deep}
use Rattle.ddl_reader.proofs.DeepExprs.{begin_deep, extend_deep, ClosesDeep, closes_deep, argument_deep}
use Rattle.ddl_reader.proofs.DeepParts.{after_paren_deep, after_paren_type_deep, after_high_deep, after_between_deep, after_condition_deep, after_then_deep}
use Rattle.ddl_reader.proofs.DeepParts.{after_start_deep, after_for_list_deep, after_map_list_deep, open_for_deep, for_name_deep, for_equals_deep}
use Rattle.ddl_reader.proofs.DeepParts.{open_map_deep, first_name_deep, after_first_deep, second_name_deep, in_deep, shape_deep, field_deep, after_set_deep}
use Rattle.ddl_reader.proofs.DeepParts.{after_array_deep, first_field_deep, next_field_deep, record_equals_deep, after_field_deep, tag_name_deep}
use Rattle.ddl_reader.proofs.DeepParts.{after_tag_deep, after_tagged_deep}
use Rattle.ddl_reader.proofs.DeepLists.{open_block_deep, let_name_deep, item_equals_deep, after_item_deep, open_choice_deep, after_untagged_deep, want_tag_deep}
use Rattle.ddl_reader.proofs.DeepLists.{tag_equals_deep, after_with_tags_deep, after_subject_deep, open_case_deep, pattern_deep, just_deep, tag_deep}
use Rattle.ddl_reader.proofs.DeepLists.{arrow_deep, after_alt_deep}
use Rattle.ddl_reader.proofs.DeepDecls.{begin_decl_deep, begin_import_deep, import_name_deep, decl_name_deep, param_deep, param_name_deep, param_colon_deep}
use Rattle.ddl_reader.proofs.DeepDecls.{after_param_type_deep, after_result_deep, after_body_deep, class_equals_deep, after_class_body_deep, bits_name_deep}
use Rattle.ddl_reader.proofs.DeepDecls.{after_bits_name_deep, open_cons_deep, con_name_deep, con_equals_deep, after_con_deep, bits_deep, part_deep}
use Rattle.ddl_reader.proofs.DeepDecls.{part_colon_deep, after_part_deep, after_typed_part_deep}

step_type_deep : (fs : List Frame) (t : FoundType) (x : Tok) (s : Span) → AreFrames fs → AreDeep fs → t.deep ≡ type_depth t.type
    → Deeps (low fs t.deep) (step_type fs t x s)
step_type_deep [] t x s h d e = tt
step_type_deep (frame.in_bracket from ∷ fs) t x s h d e = after_element_deep x s from t fs d.1 e
step_type_deep (frame.in_map_value from u ∷ fs) t x s h d e = after_map_value_deep x s from u t fs d.1 d.0 e
step_type_deep (frame.in_within from ∷ fs) t x s h d e = after_within_deep x s from t fs d.1 e
step_type_deep (frame.in_paren_type from a ∷ fs) t x s h d e = after_paren_type_deep x s from a t fs d.1 d.0 e
step_type_deep (frame.in_param c from o y ∷ fs) t x s h d e = after_param_type_deep x s c from o y t fs d.1 d.0 e
step_type_deep (frame.in_result c ∷ fs) t x s h d e = after_result_deep x c t fs d.1 d.0 e
step_type_deep (frame.in_part p o ∷ fs) t x s h d e = after_typed_part_deep x s p o t fs d.1 h.1 d.0 e
step_type_deep (_ ∷ fs) t x s h d e = tt

step_class_deep : (fs : List Frame) (c : FoundClass) (x : Tok) (s : Span) → AreFrames fs → AreDeep fs → c.deep ≡ class_depth c.class
    → Deeps (low fs c.deep) (step_class fs c x s)
step_class_deep [] c x s h d e = tt
step_class_deep (frame.in_grouped from ∷ fs) c x s h d e = after_grouped_deep x s from c fs d.1 e
step_class_deep (frame.in_class_set from ∷ fs) c x s h d e = after_class_set_deep x s from c fs d.1 e
step_class_deep (frame.in_set from ∷ fs) c x s h d e = after_set_deep x s from c fs d.1 e
step_class_deep (frame.in_class_body from y ∷ fs) c x s h d e = after_class_body_deep x s from y c fs d.1 h.1 e
step_class_deep (_ ∷ fs) c x s h d e = tt

class_on_deep : (fs : List Frame) (f : Focus) (x : Tok) (s : Span) → AreFrames fs → AreDeep fs → IsDeepFocus f
    → Deeps (low fs (need fs f)) (class_on (fs, f) x s)
class_on_deep fs (frame.have_class c) x s h d e = step_class_deep fs c x s h d e
class_on_deep fs _ x s h d e = tt

byte_goes_on : (fs : List Frame) (b : ByteLit) (x : Tok) (s : Span) → AreFrames fs → wanted fs ≡ 3 → AreDeep fs
    → Deeps (low fs 1) (class_on (class_done fs (cls.One b) 1) x s)
byte_goes_on fs b x s h w d =
    let z = class_done fs (cls.One b) 1 in
    let f = class_done_fine fs (cls.One b) 1 h w tt (omega arith) in
    let g = class_done_deep fs (cls.One b) 1 d refl in
    weaken (low fs 1) (lowest z) (class_on z x s) g.2 (class_on_deep z.0 z.1 x s f.1 g.0 g.1)

step_byte_deep : (fs : List Frame) (b : ByteLit) (x : Tok) (s : Span) → AreFrames fs → wanted fs ≡ 3 → AreDeep fs → Deeps (low fs 1) (step_byte fs b x s)
step_byte_deep fs b (k.Mark m.DotDot) s h w d = (d, tt, omega arith)
step_byte_deep fs b x s h w d = byte_goes_on fs b x s h w d

passes_deep : (f : Frame) (x : Tok) (s : Span) (a : Found) (fs : List Frame) → AreFrames (f ∷ fs) → AreDeep (f ∷ fs) → IsDeep a
    → Deeps (low (f ∷ fs) a.deep) (passes f x s a fs)
passes_deep (frame.in_paren from) x s a fs h d i = after_paren_deep x s from a fs d.1 i
passes_deep (frame.in_at_most r from) x s a fs h d i = after_high_deep x s r from a fs d.1 i
passes_deep (frame.in_between r from b) x s a fs h d i = after_between_deep x s r from b a fs d.1 d.0 i
passes_deep (frame.in_if from) x s a fs h d i = after_condition_deep x from a fs d.1 i
passes_deep (frame.in_then from c) x s a fs h d i = after_then_deep x from c a fs d.1 d.0 i
passes_deep (frame.in_for_start from y) x s a fs h d i = after_start_deep x from y a fs d.1 i
passes_deep (frame.in_for_list from y j ns) x s a fs h d i = after_for_list_deep x from y j ns a fs d.1 d.0 i
passes_deep (frame.in_map_list from ns) x s a fs h d i = after_map_list_deep x from ns a fs d.1 i
passes_deep (frame.in_array from xs n) x s a fs h d i = after_array_deep x s from xs n a fs d.1 d.0 i
passes_deep (frame.in_record from bs n y) x s a fs h d i = after_field_deep x s from bs n y a fs d.1 d.0 i
passes_deep (frame.in_tagged from y) x s a fs h d i = after_tagged_deep x s from y a fs d.1 i
passes_deep (frame.in_block from is n b) x s a fs h d i = after_item_deep x s from is n b a fs d.1 d.0 i
passes_deep (frame.in_untagged r xs n) x s a fs h d i = after_untagged_deep x s r xs n a fs d.1 d.0 i
passes_deep (frame.in_with_tags r bs n y) x s a fs h d i = after_with_tags_deep x s r bs n y a fs d.1 d.0 i
passes_deep (frame.in_subject from) x s a fs h d i = after_subject_deep x from a fs d.1 i
passes_deep (frame.in_alt from e xs n p) x s a fs h d i = let c = d.0 in after_alt_deep x s from e xs n p a fs d.1 c.0 c.1 i
passes_deep (frame.in_body c t n) x s a fs h d i = let b = d.0 in after_body_deep x s c t n a fs d.1 h.1 b.0 b.1 i
passes_deep _ x s a fs h d i = tt

-- the form around takes the form that ends
closed_deep : (f : Frame) (fs : List Frame) (a : Found) (o : Option Found) (on : Found → Option State) (other : Option State)
    → IfSome o (λ u. ClosesDeep f a u fs)
    → ((u : Found) → ClosesDeep f a u fs → Deeps (low fs u.deep) (on u)) → Deeps (low (f ∷ fs) a.deep) other → Deeps (low (f ∷ fs) a.deep) (closed o on other)
closed_deep f fs a None on other h go stay = stay
closed_deep f fs a (Some u) on other h go stay = let e =
    h.around in weaken (low (f ∷ fs) a.deep) (low fs u.deep) (on u) (low_grows fs (around_in f fs a.deep) u.deep (omega arith)) (go u h)

step_have_deep : (fs : List Frame) (a : Found) (x : Tok) (s : Span) → AreFrames fs → AreDeep fs → IsDeep a → Deeps (low fs a.deep) (step_have fs a x s)
step_have_deep [] a x s h d i =
    elim (nat_le 1 (binds x)) as (λ b. Deeps (low [] a.deep) (cond b (extend x s a []) None)) [
      | true ↦ extend_deep x s a [] d i
      | false ↦ tt
    ]
step_have_deep (f ∷ fs) a x s h d i =
    let n = low (f ∷ fs) a.deep in
    elim (nat_le (hole f) (binds x)) as (λ b. Deeps n (cond b (extend x s a (f ∷ fs))
    (cond (nat_eq (binds x) 16) (argue f x s a fs) (closed (closes f a) (λ u. step_have fs u x s) (passes f x s a fs))))) [
      | true ↦ extend_deep x s a (f ∷ fs) d i
      | false ↦
          elim (nat_eq (binds x) 16) as (λ b. Deeps n (cond b (argue f x s a fs) (closed (closes f a) (λ u. step_have fs u x s) (passes f x s a fs)))) [
            | true ↦ argument_deep f x s a fs d i
            | false ↦ closed_deep f fs a (closes f a) (λ u. step_have fs u x s) (passes f x s a fs) (closes_deep f a fs d.0 i)
                (λ u c. step_have_deep fs u x s h.4 d.1 c.tree)
                (passes_deep f x s a fs h d i)
          ]
    ]

-- a token that the machine takes keeps the depths, and makes no module shallower
pub step_deep : (f : Focus) (fs : List Frame) (x : Tok) (s : Span) → AreFrames fs → IsFocus fs f → AreDeep fs → IsDeepFocus f
    → Deeps (low fs (need fs f)) (step_at f fs x s)
step_deep frame.at_import fs x s h i d e = begin_import_deep x s fs d
step_deep frame.at_decl fs x s h i d e = begin_decl_deep x s fs d
step_deep frame.want_type fs x s h i d e = begin_type_deep x s fs d
step_deep (frame.have_type t) fs x s h i d e = step_type_deep fs t x s h d e
step_deep (frame.want_uint from) fs x s h i d e = width_uint_deep x s from fs d
step_deep (frame.want_sint from) fs x s h i d e = width_sint_deep x s from fs d
step_deep (frame.open_empty from) fs x s h i d e = close_empty_deep x s from fs d
step_deep frame.want_class fs x s h i d e = begin_class_deep x s fs d
step_deep (frame.have_class c) fs x s h i d e = step_class_deep fs c x s h d e
step_deep (frame.have_byte b) fs x s h i d e = step_byte_deep fs b x s h i d
step_deep (frame.want_last b) fs x s h i d e = last_byte_deep x s b fs d
step_deep frame.want fs x s h i d e = begin_deep x s fs d
step_deep (frame.have a) fs x s h i d e = step_have_deep fs a x s h d e
step_deep (frame.open_for from) fs x s h i d e = open_for_deep x from fs d
step_deep (frame.for_name from) fs x s h i d e = for_name_deep x s from fs d
step_deep (frame.for_equals from y) fs x s h i d e = for_equals_deep x from y fs d
step_deep (frame.open_map from) fs x s h i d e = open_map_deep x from fs d
step_deep (frame.loop_first l) fs x s h i d e = first_name_deep x s l fs d e
step_deep (frame.loop_after_first l y) fs x s h i d e = after_first_deep x l y fs d e
step_deep (frame.loop_second l y) fs x s h i d e = second_name_deep x s l y fs d e
step_deep (frame.loop_in l ns) fs x s h i d e = in_deep x l ns fs d e
step_deep (frame.want_shape a) fs x s h i d e = shape_deep x s a fs d e
step_deep (frame.want_field a) fs x s h i d e = field_deep x s a fs d e
step_deep (frame.first_of_record from) fs x s h i d e = first_field_deep x s from fs d
step_deep (frame.next_of_record from bs n) fs x s h i d e = next_field_deep x s from bs n fs d e
step_deep (frame.record_equals from bs n y) fs x s h i d e = record_equals_deep x from bs n y fs d e
step_deep (frame.open_tagged from) fs x s h i d e = tag_name_deep x s from fs d
step_deep (frame.after_tag from y) fs x s h i d e = after_tag_deep x s from y fs d
step_deep (frame.open_block from) fs x s h i d e = open_block_deep x from fs d
step_deep (frame.item_equals from is n b) fs x s h i d e = item_equals_deep x from is n b fs d e
step_deep (frame.let_name from is n t) fs x s h i d e = let_name_deep x s from is n t fs d e
step_deep (frame.open_choice o) fs x s h i d e = open_choice_deep x o fs d
step_deep (frame.want_tag o bs n) fs x s h i d e = want_tag_deep x s o bs n fs d e
step_deep (frame.tag_equals o bs n y) fs x s h i d e = tag_equals_deep x o bs n y fs d e
step_deep (frame.open_case from a) fs x s h i d e = open_case_deep x from a fs d e
step_deep (frame.want_pattern c) fs x s h i d e = pattern_deep x s c fs d e
step_deep (frame.pattern_just c from) fs x s h i d e = just_deep x s c from fs d e
step_deep (frame.pattern_tag c y) fs x s h i d e = tag_deep x s c y fs d e
step_deep (frame.have_pattern c p) fs x s h i d e = arrow_deep x c p fs d e
step_deep (frame.want_import from) fs x s h i d e = import_name_deep x s from fs d
step_deep (frame.want_name from) fs x s h i d e = decl_name_deep x s from fs d
step_deep (frame.want_param c) fs x s h i d e = param_deep x s c fs d e
step_deep (frame.open_param c from) fs x s h i d e = param_name_deep x s c from fs d e
step_deep (frame.param_colon c from o y) fs x s h i d e = param_colon_deep x c from o y fs d e
step_deep (frame.class_equals from y) fs x s h i d e = class_equals_deep x from y fs d
step_deep (frame.want_bits_name from) fs x s h i d e = bits_name_deep x s from fs d
step_deep (frame.after_bits_name from y) fs x s h i d e = after_bits_name_deep x from y fs d
step_deep (frame.open_cons from y) fs x s h i d e = open_cons_deep x from y fs d
step_deep (frame.want_con from y cs n) fs x s h i d e = con_name_deep x s from y cs n fs d e
step_deep (frame.con_equals from y cs n z) fs x s h i d e = con_equals_deep x from y cs n z fs d e
step_deep (frame.after_con from y cs n) fs x s h i d e = after_con_deep x s from y cs n fs d i.1 e
step_deep (frame.want_bits l) fs x s h i d e = bits_deep x s l fs d i.1 e
step_deep (frame.want_part p) fs x s h i d e = part_deep x s p fs d e
step_deep (frame.after_part p) fs x s h i d e = after_part_deep x s p fs d i.1 e
step_deep (frame.part_colon p o) fs x s h i d e = part_colon_deep x p o fs d e
