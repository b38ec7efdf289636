-- Which forms take no argument.
use Rattle.std.proofs.Common.{◌≡◌, refl, None}
use Rattle.ddl_states.specs.declared.frame.TypeFrame.{TypeFrame}
use Rattle.ddl_states.specs.declared.frame.TypeFrame.TheVariants as type
use Rattle.ddl_states.specs.declared.frame.ClassFrame.{ClassFrame}
use Rattle.ddl_states.specs.declared.frame.ClassFrame.TheVariants as class
use Rattle.ddl_states.specs.declared.frame.InnerFrame.{InnerFrame}
use Rattle.ddl_states.specs.declared.frame.InnerFrame.TheVariants as inner
use Rattle.ddl_states.specs.declared.frame.ListFrame.{ListFrame}
use Rattle.ddl_states.specs.declared.frame.ListFrame.TheVariants as list
use Rattle.ddl_states.specs.declared.frame.DeclFrame.{DeclFrame}
use Rattle.ddl_states.specs.declared.frame.DeclFrame.TheVariants as decl
use Rattle.ddl_states.specs.FrameView.{type_frame_view, class_frame_view, inner_frame_view, list_frame_view, decl_frame_view}
use Rattle.ddl_reader.specs.Frames.{Found}
use Rattle.ddl_reader.specs.StepExpr.{with_argument}

pub no_argument_type : (f : TypeFrame) (a : Found) → with_argument (type_frame_view f) a ≡ None
no_argument_type (type.Maybe v0) a = refl
no_argument_type (type.Bracket v0) a = refl
no_argument_type (type.MapValue v0 v1) a = refl
no_argument_type (type.Within v0) a = refl
no_argument_type (type.Cast v0 v1) a = refl
no_argument_type (type.Paren v0 v1) a = refl

pub no_argument_class : (f : ClassFrame) (a : Found) → with_argument (class_frame_view f) a ≡ None
no_argument_class (class.Union v0) a = refl
no_argument_class (class.Other v0) a = refl
no_argument_class (class.Grouped v0) a = refl
no_argument_class (class.Set v0) a = refl
no_argument_class (class.Atom v0) a = refl

pub no_argument_inner : (f : InnerFrame) (a : Found) → with_argument (inner_frame_view f) a ≡ None
no_argument_inner (inner.If v0) a = refl
no_argument_inner (inner.Then v0 v1) a = refl
no_argument_inner (inner.ForStart v0 v1) a = refl
no_argument_inner (inner.ForList v0 v1 v2 v3) a = refl
no_argument_inner (inner.MapList v0 v1) a = refl
no_argument_inner (inner.AtMost v0 v1) a = refl
no_argument_inner (inner.Between v0 v1 v2) a = refl
no_argument_inner (inner.Paren v0) a = refl
no_argument_inner (inner.Tagged v0 v1) a = refl
no_argument_inner (inner.Subject v0) a = refl

pub no_argument_list : (f : ListFrame) (a : Found) → with_argument (list_frame_view f) a ≡ None
no_argument_list (list.Array v0 v1 v2) a = refl
no_argument_list (list.Record v0 v1 v2 v3) a = refl
no_argument_list (list.Block v0 v1 v2 v3) a = refl
no_argument_list (list.Untagged v0 v1 v2) a = refl
no_argument_list (list.WithTags v0 v1 v2 v3) a = refl
no_argument_list (list.Alt v0 v1 v2 v3 v4) a = refl

pub no_argument_decl : (f : DeclFrame) (a : Found) → with_argument (decl_frame_view f) a ≡ None
no_argument_decl (decl.Module v0 v1) a = refl
no_argument_decl (decl.Param v0 v1 v2 v3) a = refl
no_argument_decl (decl.Result v0) a = refl
no_argument_decl (decl.Body v0 v1 v2) a = refl
no_argument_decl (decl.ClassBody v0 v1) a = refl
no_argument_decl (decl.Part v0 v1) a = refl

pub ruleset no_argument_here = (no_argument_type, no_argument_class, no_argument_inner, no_argument_list, no_argument_decl)
