-- After which forms no class stands.
use Rattle.std.proofs.Common.{◌≡◌, refl, List, ◌∷◌, None}
use Rattle.ddl_states.specs.declared.frame.TypeFrame.{TypeFrame}
use Rattle.ddl_states.specs.declared.frame.TypeFrame.TheVariants as type
use Rattle.ddl_states.specs.declared.frame.LastFrame.{LastFrame}
use Rattle.ddl_states.specs.declared.frame.LastFrame.TheVariants as last
use Rattle.ddl_states.specs.declared.frame.InnerFrame.{InnerFrame}
use Rattle.ddl_states.specs.declared.frame.InnerFrame.TheVariants as inner
use Rattle.ddl_states.specs.declared.frame.ListFrame.{ListFrame}
use Rattle.ddl_states.specs.declared.frame.ListFrame.TheVariants as list
use Rattle.ddl_states.specs.FrameView.{type_frame_view, last_frame_view, inner_frame_view, list_frame_view}
use Rattle.ddl_base.specs.declared.span.Span.{Span}
use Rattle.ddl_token.specs.declared.token.Tok.{Tok}
use Rattle.ddl_reader.specs.Frames.{Frame, FoundClass}
use Rattle.ddl_reader.specs.Step.{step_class}

pub no_class_type : (f : TypeFrame) (fs : List Frame) (c : FoundClass) (x : Tok) (s : Span) → step_class (type_frame_view f ∷ fs) c x s ≡ None
no_class_type (type.Maybe v0) fs c x s = refl
no_class_type _ fs c x s = refl

pub no_class_last : (f : LastFrame) (fs : List Frame) (c : FoundClass) (x : Tok) (s : Span) → step_class (last_frame_view f ∷ fs) c x s ≡ None
no_class_last (last.Infix v0 v1) fs c x s = refl
no_class_last _ fs c x s = refl

pub no_class_inner : (f : InnerFrame) (fs : List Frame) (c : FoundClass) (x : Tok) (s : Span) → step_class (inner_frame_view f ∷ fs) c x s ≡ None
no_class_inner (inner.If v0) fs c x s = refl
no_class_inner _ fs c x s = refl

pub no_class_list : (f : ListFrame) (fs : List Frame) (c : FoundClass) (x : Tok) (s : Span) → step_class (list_frame_view f ∷ fs) c x s ≡ None
no_class_list (list.Array v0 v1 v2) fs c x s = refl
no_class_list _ fs c x s = refl

pub ruleset no_class_here = (no_class_type, no_class_last, no_class_inner, no_class_list)
