-- Which forms have no part before their last.
use Rattle.std.proofs.Common.{◌≡◌, refl, List, None}
use Rattle.ddl_states.specs.declared.frame.TypeFrame.{TypeFrame}
use Rattle.ddl_states.specs.declared.frame.TypeFrame.TheVariants as type
use Rattle.ddl_states.specs.declared.frame.ClassFrame.{ClassFrame}
use Rattle.ddl_states.specs.declared.frame.ClassFrame.TheVariants as class
use Rattle.ddl_states.specs.declared.frame.LastFrame.{LastFrame}
use Rattle.ddl_states.specs.declared.frame.LastFrame.TheVariants as last
use Rattle.ddl_states.specs.FrameView.{type_frame_view, class_frame_view, last_frame_view}
use Rattle.ddl_base.specs.declared.span.Span.{Span}
use Rattle.ddl_token.specs.declared.token.Tok.{Tok}
use Rattle.ddl_reader.specs.Frames.{Frame, Found}
use Rattle.ddl_reader.specs.Step.{passes}

pub no_pass_type : (f : TypeFrame) (x : Tok) (s : Span) (a : Found) (fs : List Frame) → passes (type_frame_view f) x s a fs ≡ None
no_pass_type (type.Maybe v0) x s a fs = refl
no_pass_type (type.Bracket v0) x s a fs = refl
no_pass_type (type.MapValue v0 v1) x s a fs = refl
no_pass_type (type.Within v0) x s a fs = refl
no_pass_type (type.Cast v0 v1) x s a fs = refl
no_pass_type (type.Paren v0 v1) x s a fs = refl

pub no_pass_class : (f : ClassFrame) (x : Tok) (s : Span) (a : Found) (fs : List Frame) → passes (class_frame_view f) x s a fs ≡ None
no_pass_class (class.Union v0) x s a fs = refl
no_pass_class (class.Other v0) x s a fs = refl
no_pass_class (class.Grouped v0) x s a fs = refl
no_pass_class (class.Set v0) x s a fs = refl
no_pass_class (class.Atom v0) x s a fs = refl

pub no_pass_last : (f : LastFrame) (x : Tok) (s : Span) (a : Found) (fs : List Frame) → passes (last_frame_view f) x s a fs ≡ None
no_pass_last (last.Infix v0 v1) x s a fs = refl
no_pass_last (last.Pure v0) x s a fs = refl
no_pass_last (last.Else v0 v1 v2) x s a fs = refl
no_pass_last (last.For v0 v1 v2 v3 v4) x s a fs = refl
no_pass_last (last.Map v0 v1 v2) x s a fs = refl
no_pass_last (last.Prefix v0 v1) x s a fs = refl
no_pass_last (last.CallGrammar v0 v1 v2) x s a fs = refl
no_pass_last (last.CallValue v0 v1 v2) x s a fs = refl
no_pass_last (last.Just v0) x s a fs = refl
no_pass_last (last.Many v0 v1 v2) x s a fs = refl
no_pass_last (last.Optional v0) x s a fs = refl

pub ruleset no_pass_here = (no_pass_type, no_pass_class, no_pass_last)
