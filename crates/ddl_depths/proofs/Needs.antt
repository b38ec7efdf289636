-- What stands at the hole needs as much as comes there, but before an expression.
use Rattle.std.proofs.Common.{◌≡◌, refl, List}
use Rattle.ddl_states.specs.declared.focus.TypeFocus.{TypeFocus}
use Rattle.ddl_states.specs.declared.focus.TypeFocus.TheVariants as at_type
use Rattle.ddl_states.specs.declared.focus.ClassFocus.{ClassFocus}
use Rattle.ddl_states.specs.declared.focus.ClassFocus.TheVariants as at_class
use Rattle.ddl_states.specs.declared.focus.LoopFocus.{LoopFocus}
use Rattle.ddl_states.specs.declared.focus.LoopFocus.TheVariants as at_loop
use Rattle.ddl_states.specs.declared.focus.FieldFocus.{FieldFocus}
use Rattle.ddl_states.specs.declared.focus.FieldFocus.TheVariants as at_field
use Rattle.ddl_states.specs.declared.focus.ListFocus.{ListFocus}
use Rattle.ddl_states.specs.declared.focus.ListFocus.TheVariants as at_list
use Rattle.ddl_states.specs.declared.focus.CaseFocus.{CaseFocus}
use Rattle.ddl_states.specs.declared.focus.CaseFocus.TheVariants as at_case
use Rattle.ddl_states.specs.declared.focus.HeadFocus.{HeadFocus}
use Rattle.ddl_states.specs.declared.focus.HeadFocus.TheVariants as at_head
use Rattle.ddl_states.specs.declared.focus.BitsFocus.{BitsFocus}
use Rattle.ddl_states.specs.declared.focus.BitsFocus.TheVariants as at_bits
use Rattle.ddl_states.specs.FocusView.{type_focus_view, class_focus_view, loop_focus_view, field_focus_view, list_focus_view, case_focus_view, head_focus_view}
use Rattle.ddl_states.specs.FocusView.{bits_focus_view}
use Rattle.ddl_states.specs.Heights.{coming}
use Rattle.ddl_reader.specs.Depths.{need}
use Rattle.ddl_reader.specs.Frames.{Frame}

pub need_type : (f : TypeFocus) (fs : List Frame) → need fs (type_focus_view f) ≡ coming (type_focus_view f)
need_type at_type.Want fs = refl
need_type _ fs = refl

pub need_class : (f : ClassFocus) (fs : List Frame) → need fs (class_focus_view f) ≡ coming (class_focus_view f)
need_class at_class.Want fs = refl
need_class _ fs = refl

pub need_loop : (f : LoopFocus) (fs : List Frame) → need fs (loop_focus_view f) ≡ coming (loop_focus_view f)
need_loop (at_loop.OpenFor s) fs = refl
need_loop _ fs = refl

pub need_field : (f : FieldFocus) (fs : List Frame) → need fs (field_focus_view f) ≡ coming (field_focus_view f)
need_field (at_field.Shape a) fs = refl
need_field _ fs = refl

pub need_list : (f : ListFocus) (fs : List Frame) → need fs (list_focus_view f) ≡ coming (list_focus_view f)
need_list (at_list.OpenBlock s) fs = refl
need_list _ fs = refl

pub need_case : (f : CaseFocus) (fs : List Frame) → need fs (case_focus_view f) ≡ coming (case_focus_view f)
need_case (at_case.Pattern c) fs = refl
need_case _ fs = refl

pub need_head : (f : HeadFocus) (fs : List Frame) → need fs (head_focus_view f) ≡ coming (head_focus_view f)
need_head (at_head.Import s) fs = refl
need_head _ fs = refl

pub need_bits : (f : BitsFocus) (fs : List Frame) → need fs (bits_focus_view f) ≡ coming (bits_focus_view f)
need_bits (at_bits.Name s) fs = refl
need_bits _ fs = refl

pub ruleset needs = (need_type, need_class, need_loop, need_field, need_list, need_case, need_head, need_bits)
