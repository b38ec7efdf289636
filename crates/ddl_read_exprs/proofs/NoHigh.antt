-- Which open forms are no `Many`, before `..`.
use Rattle.std.proofs.Common.{◌≡◌, refl, List, ◌∷◌, None}
use Rattle.ddl_states.specs.declared.frame.TypeFrame.{TypeFrame}
use Rattle.ddl_states.specs.declared.frame.TypeFrame.TheVariants as type
use Rattle.ddl_states.specs.declared.frame.ClassFrame.{ClassFrame}
use Rattle.ddl_states.specs.declared.frame.ClassFrame.TheVariants as class
use Rattle.ddl_states.specs.declared.frame.InnerFrame.{InnerFrame}
use Rattle.ddl_states.specs.declared.frame.InnerFrame.TheVariants as inner
use Rattle.ddl_states.specs.declared.frame.ListFrame.{ListFrame}
use Rattle.ddl_states.specs.declared.frame.ListFrame.TheVariants as list
use Rattle.ddl_states.specs.declared.frame.DeclFrame.{DeclFrame}
use Rattle.ddl_states.specs.declared.frame.DeclFrame.TheVariants as decl
use Rattle.ddl_states.specs.FrameView.{type_frame_view, class_frame_view, inner_frame_view, list_frame_view, decl_frame_view}
use Rattle.ddl_base.specs.declared.span.Span.{Span}
use Rattle.ddl_reader.specs.Frames.{Frame, Found}
use Rattle.ddl_reader.specs.Frames as m
use Rattle.ddl_reader.specs.StepExpr.{begin_high}
use Rattle.ddl_reader.specs.StepParts.{bound_low}

pub no_high_type : (f : TypeFrame) (at from : Span) (fs : List Frame) → begin_high at (m.in_paren from ∷ type_frame_view f ∷ fs) ≡ None
no_high_type (type.Maybe v0) at from fs = refl
no_high_type (type.Bracket v0) at from fs = refl
no_high_type (type.MapValue v0 v1) at from fs = refl
no_high_type (type.Within v0) at from fs = refl
no_high_type (type.Cast v0 v1) at from fs = refl
no_high_type (type.Paren v0 v1) at from fs = refl

pub no_low_type : (f : TypeFrame) (from : Span) (a : Found) (fs : List Frame) → bound_low from a (type_frame_view f ∷ fs) ≡ None
no_low_type (type.Maybe v0) from a fs = refl
no_low_type (type.Bracket v0) from a fs = refl
no_low_type (type.MapValue v0 v1) from a fs = refl
no_low_type (type.Within v0) from a fs = refl
no_low_type (type.Cast v0 v1) from a fs = refl
no_low_type (type.Paren v0 v1) from a fs = refl

pub no_high_class : (f : ClassFrame) (at from : Span) (fs : List Frame) → begin_high at (m.in_paren from ∷ class_frame_view f ∷ fs) ≡ None
no_high_class (class.Union v0) at from fs = refl
no_high_class (class.Other v0) at from fs = refl
no_high_class (class.Grouped v0) at from fs = refl
no_high_class (class.Set v0) at from fs = refl
no_high_class (class.Atom v0) at from fs = refl

pub no_low_class : (f : ClassFrame) (from : Span) (a : Found) (fs : List Frame) → bound_low from a (class_frame_view f ∷ fs) ≡ None
no_low_class (class.Union v0) from a fs = refl
no_low_class (class.Other v0) from a fs = refl
no_low_class (class.Grouped v0) from a fs = refl
no_low_class (class.Set v0) from a fs = refl
no_low_class (class.Atom v0) from a fs = refl

pub no_high_inner : (f : InnerFrame) (at from : Span) (fs : List Frame) → begin_high at (m.in_paren from ∷ inner_frame_view f ∷ fs) ≡ None
no_high_inner (inner.If v0) at from fs = refl
no_high_inner (inner.Then v0 v1) at from fs = refl
no_high_inner (inner.ForStart v0 v1) at from fs = refl
no_high_inner (inner.ForList v0 v1 v2 v3) at from fs = refl
no_high_inner (inner.MapList v0 v1) at from fs = refl
no_high_inner (inner.AtMost v0 v1) at from fs = refl
no_high_inner (inner.Between v0 v1 v2) at from fs = refl
no_high_inner (inner.Paren v0) at from fs = refl
no_high_inner (inner.Tagged v0 v1) at from fs = refl
no_high_inner (inner.Subject v0) at from fs = refl

pub no_low_inner : (f : InnerFrame) (from : Span) (a : Found) (fs : List Frame) → bound_low from a (inner_frame_view f ∷ fs) ≡ None
no_low_inner (inner.If v0) from a fs = refl
no_low_inner (inner.Then v0 v1) from a fs = refl
no_low_inner (inner.ForStart v0 v1) from a fs = refl
no_low_inner (inner.ForList v0 v1 v2 v3) from a fs = refl
no_low_inner (inner.MapList v0 v1) from a fs = refl
no_low_inner (inner.AtMost v0 v1) from a fs = refl
no_low_inner (inner.Between v0 v1 v2) from a fs = refl
no_low_inner (inner.Paren v0) from a fs = refl
no_low_inner (inner.Tagged v0 v1) from a fs = refl
no_low_inner (inner.Subject v0) from a fs = refl

pub no_high_list : (f : ListFrame) (at from : Span) (fs : List Frame) → begin_high at (m.in_paren from ∷ list_frame_view f ∷ fs) ≡ None
no_high_list (list.Array v0 v1 v2) at from fs = refl
no_high_list (list.Record v0 v1 v2 v3) at from fs = refl
no_high_list (list.Block v0 v1 v2 v3) at from fs = refl
no_high_list (list.Untagged v0 v1 v2) at from fs = refl
no_high_list (list.WithTags v0 v1 v2 v3) at from fs = refl
no_high_list (list.Alt v0 v1 v2 v3 v4) at from fs = refl

pub no_low_list : (f : ListFrame) (from : Span) (a : Found) (fs : List Frame) → bound_low from a (list_frame_view f ∷ fs) ≡ None
no_low_list (list.Array v0 v1 v2) from a fs = refl
no_low_list (list.Record v0 v1 v2 v3) from a fs = refl
no_low_list (list.Block v0 v1 v2 v3) from a fs = refl
no_low_list (list.Untagged v0 v1 v2) from a fs = refl
no_low_list (list.WithTags v0 v1 v2 v3) from a fs = refl
no_low_list (list.Alt v0 v1 v2 v3 v4) from a fs = refl

pub no_high_decl : (f : DeclFrame) (at from : Span) (fs : List Frame) → begin_high at (m.in_paren from ∷ decl_frame_view f ∷ fs) ≡ None
no_high_decl (decl.Module v0 v1) at from fs = refl
no_high_decl (decl.Param v0 v1 v2 v3) at from fs = refl
no_high_decl (decl.Result v0) at from fs = refl
no_high_decl (decl.Body v0 v1 v2) at from fs = refl
no_high_decl (decl.ClassBody v0 v1) at from fs = refl
no_high_decl (decl.Part v0 v1) at from fs = refl

pub no_low_decl : (f : DeclFrame) (from : Span) (a : Found) (fs : List Frame) → bound_low from a (decl_frame_view f ∷ fs) ≡ None
no_low_decl (decl.Module v0 v1) from a fs = refl
no_low_decl (decl.Param v0 v1 v2 v3) from a fs = refl
no_low_decl (decl.Result v0) from a fs = refl
no_low_decl (decl.Body v0 v1 v2) from a fs = refl
no_low_decl (decl.ClassBody v0 v1) from a fs = refl
no_low_decl (decl.Part v0 v1) from a fs = refl

pub ruleset no_high = (no_high_type, no_high_class, no_high_inner, no_high_list, no_high_decl)

pub ruleset no_low = (no_low_type, no_low_class, no_low_inner, no_low_list, no_low_decl)
