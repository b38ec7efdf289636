-- What ends no module.
use Rattle.std.proofs.Common.{◌≡◌, refl, List, ◌∷◌, None}
use Rattle.ddl_states.specs.declared.frame.TypeFrame.{TypeFrame}
use Rattle.ddl_states.specs.declared.frame.TypeFrame.TheVariants as type
use Rattle.ddl_states.specs.declared.frame.ClassFrame.{ClassFrame}
use Rattle.ddl_states.specs.declared.frame.ClassFrame.TheVariants as class
use Rattle.ddl_states.specs.declared.frame.LastFrame.{LastFrame}
use Rattle.ddl_states.specs.declared.frame.LastFrame.TheVariants as last
use Rattle.ddl_states.specs.declared.frame.InnerFrame.{InnerFrame}
use Rattle.ddl_states.specs.declared.frame.InnerFrame.TheVariants as inner
use Rattle.ddl_states.specs.declared.frame.ListFrame.{ListFrame}
use Rattle.ddl_states.specs.declared.frame.ListFrame.TheVariants as list
use Rattle.ddl_states.specs.declared.focus.TypeFocus.{TypeFocus}
use Rattle.ddl_states.specs.declared.focus.TypeFocus.TheVariants as at_type
use Rattle.ddl_states.specs.declared.focus.LoopFocus.{LoopFocus}
use Rattle.ddl_states.specs.declared.focus.LoopFocus.TheVariants as at_loop
use Rattle.ddl_states.specs.declared.focus.FieldFocus.{FieldFocus}
use Rattle.ddl_states.specs.declared.focus.FieldFocus.TheVariants as at_field
use Rattle.ddl_states.specs.declared.focus.ListFocus.{ListFocus}
use Rattle.ddl_states.specs.declared.focus.ListFocus.TheVariants as at_list
use Rattle.ddl_states.specs.declared.focus.CaseFocus.{CaseFocus}
use Rattle.ddl_states.specs.declared.focus.CaseFocus.TheVariants as at_case
use Rattle.ddl_states.specs.declared.focus.HeadFocus.{HeadFocus}
use Rattle.ddl_states.specs.declared.focus.HeadFocus.TheVariants as at_head
use Rattle.ddl_states.specs.declared.focus.BitsFocus.{BitsFocus}
use Rattle.ddl_states.specs.declared.focus.BitsFocus.TheVariants as at_bits
use Rattle.ddl_states.specs.FocusView.{type_focus_view, loop_focus_view, field_focus_view, list_focus_view, case_focus_view, head_focus_view, bits_focus_view}
use Rattle.ddl_states.specs.FrameView.{type_frame_view, class_frame_view, last_frame_view, inner_frame_view, list_frame_view}
use Rattle.ddl_reader.specs.Frames.{Frame, Found, FoundClass}
use Rattle.ddl_reader.specs.Step.{whole, finish_class, finish_body, finish}

pub no_whole_type : (f : TypeFrame) (fs : List Frame) → whole (type_frame_view f ∷ fs) ≡ None
no_whole_type (type.Maybe v0) fs = refl
no_whole_type _ fs = refl

pub no_class_end_type : (f : TypeFrame) (fs : List Frame) (c : FoundClass) → finish_class (type_frame_view f ∷ fs) c ≡ None
no_class_end_type (type.Maybe v0) fs c = refl
no_class_end_type _ fs c = refl

pub no_body_end_type : (f : TypeFrame) (a : Found) (fs : List Frame) → finish_body (type_frame_view f) a fs ≡ None
no_body_end_type (type.Maybe v0) a fs = refl
no_body_end_type _ a fs = refl

pub no_whole_class : (f : ClassFrame) (fs : List Frame) → whole (class_frame_view f ∷ fs) ≡ None
no_whole_class (class.Union v0) fs = refl
no_whole_class _ fs = refl

pub no_class_end_class : (f : ClassFrame) (fs : List Frame) (c : FoundClass) → finish_class (class_frame_view f ∷ fs) c ≡ None
no_class_end_class (class.Union v0) fs c = refl
no_class_end_class _ fs c = refl

pub no_body_end_class : (f : ClassFrame) (a : Found) (fs : List Frame) → finish_body (class_frame_view f) a fs ≡ None
no_body_end_class (class.Union v0) a fs = refl
no_body_end_class _ a fs = refl

pub no_whole_last : (f : LastFrame) (fs : List Frame) → whole (last_frame_view f ∷ fs) ≡ None
no_whole_last (last.Infix v0 v1) fs = refl
no_whole_last _ fs = refl

pub no_class_end_last : (f : LastFrame) (fs : List Frame) (c : FoundClass) → finish_class (last_frame_view f ∷ fs) c ≡ None
no_class_end_last (last.Infix v0 v1) fs c = refl
no_class_end_last _ fs c = refl

pub no_body_end_last : (f : LastFrame) (a : Found) (fs : List Frame) → finish_body (last_frame_view f) a fs ≡ None
no_body_end_last (last.Infix v0 v1) a fs = refl
no_body_end_last _ a fs = refl

pub no_whole_inner : (f : InnerFrame) (fs : List Frame) → whole (inner_frame_view f ∷ fs) ≡ None
no_whole_inner (inner.If v0) fs = refl
no_whole_inner _ fs = refl

pub no_class_end_inner : (f : InnerFrame) (fs : List Frame) (c : FoundClass) → finish_class (inner_frame_view f ∷ fs) c ≡ None
no_class_end_inner (inner.If v0) fs c = refl
no_class_end_inner _ fs c = refl

pub no_body_end_inner : (f : InnerFrame) (a : Found) (fs : List Frame) → finish_body (inner_frame_view f) a fs ≡ None
no_body_end_inner (inner.If v0) a fs = refl
no_body_end_inner _ a fs = refl

pub no_whole_list : (f : ListFrame) (fs : List Frame) → whole (list_frame_view f ∷ fs) ≡ None
no_whole_list (list.Array v0 v1 v2) fs = refl
no_whole_list _ fs = refl

pub no_class_end_list : (f : ListFrame) (fs : List Frame) (c : FoundClass) → finish_class (list_frame_view f ∷ fs) c ≡ None
no_class_end_list (list.Array v0 v1 v2) fs c = refl
no_class_end_list _ fs c = refl

pub no_body_end_list : (f : ListFrame) (a : Found) (fs : List Frame) → finish_body (list_frame_view f) a fs ≡ None
no_body_end_list (list.Array v0 v1 v2) a fs = refl
no_body_end_list _ a fs = refl

pub no_end_type : (f : TypeFocus) (fs : List Frame) → finish (type_focus_view f) fs ≡ None
no_end_type at_type.Want fs = refl
no_end_type _ fs = refl

pub no_end_loop : (f : LoopFocus) (fs : List Frame) → finish (loop_focus_view f) fs ≡ None
no_end_loop (at_loop.OpenFor v0) fs = refl
no_end_loop _ fs = refl

pub no_end_field : (f : FieldFocus) (fs : List Frame) → finish (field_focus_view f) fs ≡ None
no_end_field (at_field.Shape v0) fs = refl
no_end_field _ fs = refl

pub no_end_list : (f : ListFocus) (fs : List Frame) → finish (list_focus_view f) fs ≡ None
no_end_list (at_list.OpenBlock v0) fs = refl
no_end_list _ fs = refl

pub no_end_case : (f : CaseFocus) (fs : List Frame) → finish (case_focus_view f) fs ≡ None
no_end_case (at_case.Open v0 v1) fs = refl
no_end_case _ fs = refl

pub no_end_head : (f : HeadFocus) (fs : List Frame) → finish (head_focus_view f) fs ≡ None
no_end_head (at_head.Import v0) fs = refl
no_end_head _ fs = refl

pub no_end_bits : (f : BitsFocus) (fs : List Frame) → finish (bits_focus_view f) fs ≡ None
no_end_bits (at_bits.Name v0) fs = refl
no_end_bits _ fs = refl

pub ruleset no_whole = (no_whole_type, no_whole_class, no_whole_last, no_whole_inner, no_whole_list)

pub ruleset no_class_end = (no_class_end_type, no_class_end_class, no_class_end_last, no_class_end_inner, no_class_end_list)

pub ruleset no_body_end = (no_body_end_type, no_body_end_class, no_body_end_last, no_body_end_inner, no_body_end_list)

pub ruleset no_end = (no_end_type, no_end_loop, no_end_field, no_end_list, no_end_case, no_end_head, no_end_bits)
