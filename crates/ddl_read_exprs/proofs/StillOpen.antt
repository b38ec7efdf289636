-- Which forms an expression does not end.
use Rattle.std.proofs.Common.{◌≡◌, refl, None}
use Rattle.ddl_states.specs.declared.frame.TypeFrame.{TypeFrame}
use Rattle.ddl_states.specs.declared.frame.TypeFrame.TheVariants as type
use Rattle.ddl_states.specs.declared.frame.ClassFrame.{ClassFrame}
use Rattle.ddl_states.specs.declared.frame.ClassFrame.TheVariants as class
use Rattle.ddl_states.specs.declared.frame.InnerFrame.{InnerFrame}
use Rattle.ddl_states.specs.declared.frame.InnerFrame.TheVariants as inner
use Rattle.ddl_states.specs.declared.frame.ListFrame.{ListFrame}
use Rattle.ddl_states.specs.declared.frame.ListFrame.TheVariants as list
use Rattle.ddl_states.specs.declared.frame.DeclFrame.{DeclFrame}
use Rattle.ddl_states.specs.declared.frame.DeclFrame.TheVariants as decl
use Rattle.ddl_states.specs.FrameView.{type_frame_view, class_frame_view, inner_frame_view, list_frame_view, decl_frame_view}
use Rattle.ddl_reader.specs.Frames.{Found}
use Rattle.ddl_reader.specs.StepExpr.{closes}

pub open_type : (f : TypeFrame) (a : Found) → closes (type_frame_view f) a ≡ None
open_type (type.Maybe v0) a = refl
open_type (type.Bracket v0) a = refl
open_type (type.MapValue v0 v1) a = refl
open_type (type.Within v0) a = refl
open_type (type.Cast v0 v1) a = refl
open_type (type.Paren v0 v1) a = refl

pub open_class : (f : ClassFrame) (a : Found) → closes (class_frame_view f) a ≡ None
open_class (class.Union v0) a = refl
open_class (class.Other v0) a = refl
open_class (class.Grouped v0) a = refl
open_class (class.Set v0) a = refl
open_class (class.Atom v0) a = refl

pub open_inner : (f : InnerFrame) (a : Found) → closes (inner_frame_view f) a ≡ None
open_inner (inner.If v0) a = refl
open_inner (inner.Then v0 v1) a = refl
open_inner (inner.ForStart v0 v1) a = refl
open_inner (inner.ForList v0 v1 v2 v3) a = refl
open_inner (inner.MapList v0 v1) a = refl
open_inner (inner.AtMost v0 v1) a = refl
open_inner (inner.Between v0 v1 v2) a = refl
open_inner (inner.Paren v0) a = refl
open_inner (inner.Tagged v0 v1) a = refl
open_inner (inner.Subject v0) a = refl

pub open_list : (f : ListFrame) (a : Found) → closes (list_frame_view f) a ≡ None
open_list (list.Array v0 v1 v2) a = refl
open_list (list.Record v0 v1 v2 v3) a = refl
open_list (list.Block v0 v1 v2 v3) a = refl
open_list (list.Untagged v0 v1 v2) a = refl
open_list (list.WithTags v0 v1 v2 v3) a = refl
open_list (list.Alt v0 v1 v2 v3 v4) a = refl

pub open_decl : (f : DeclFrame) (a : Found) → closes (decl_frame_view f) a ≡ None
open_decl (decl.Module v0 v1) a = refl
open_decl (decl.Param v0 v1 v2 v3) a = refl
open_decl (decl.Result v0) a = refl
open_decl (decl.Body v0 v1 v2) a = refl
open_decl (decl.ClassBody v0 v1) a = refl
open_decl (decl.Part v0 v1) a = refl

pub ruleset still_open = (open_type, open_class, open_inner, open_list, open_decl)
