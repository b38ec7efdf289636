-- After which forms no type stands.
use Rattle.std.proofs.Common.{◌≡◌, refl, List, ◌∷◌, None}
use Rattle.ddl_states.specs.declared.frame.ClassFrame.{ClassFrame}
use Rattle.ddl_states.specs.declared.frame.ClassFrame.TheVariants as class
use Rattle.ddl_states.specs.declared.frame.LastFrame.{LastFrame}
use Rattle.ddl_states.specs.declared.frame.LastFrame.TheVariants as last
use Rattle.ddl_states.specs.declared.frame.InnerFrame.{InnerFrame}
use Rattle.ddl_states.specs.declared.frame.InnerFrame.TheVariants as inner
use Rattle.ddl_states.specs.declared.frame.ListFrame.{ListFrame}
use Rattle.ddl_states.specs.declared.frame.ListFrame.TheVariants as list
use Rattle.ddl_states.specs.FrameView.{class_frame_view, last_frame_view, inner_frame_view, list_frame_view}
use Rattle.ddl_base.specs.declared.span.Span.{Span}
use Rattle.ddl_token.specs.declared.token.Tok.{Tok}
use Rattle.ddl_reader.specs.Frames.{Frame, FoundType}
use Rattle.ddl_reader.specs.Step.{step_type}

pub no_type_class : (f : ClassFrame) (fs : List Frame) (t : FoundType) (x : Tok) (s : Span) → step_type (class_frame_view f ∷ fs) t x s ≡ None
no_type_class (class.Union v0) fs t x s = refl
no_type_class _ fs t x s = refl

pub no_type_last : (f : LastFrame) (fs : List Frame) (t : FoundType) (x : Tok) (s : Span) → step_type (last_frame_view f ∷ fs) t x s ≡ None
no_type_last (last.Infix v0 v1) fs t x s = refl
no_type_last _ fs t x s = refl

pub no_type_inner : (f : InnerFrame) (fs : List Frame) (t : FoundType) (x : Tok) (s : Span) → step_type (inner_frame_view f ∷ fs) t x s ≡ None
no_type_inner (inner.If v0) fs t x s = refl
no_type_inner _ fs t x s = refl

pub no_type_list : (f : ListFrame) (fs : List Frame) (t : FoundType) (x : Tok) (s : Span) → step_type (list_frame_view f ∷ fs) t x s ≡ None
no_type_list (list.Array v0 v1 v2) fs t x s = refl
no_type_list _ fs t x s = refl

pub ruleset no_type_here = (no_type_class, no_type_last, no_type_inner, no_type_list)
