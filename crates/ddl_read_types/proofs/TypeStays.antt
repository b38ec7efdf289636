-- Which forms a type does not end.
use Rattle.std.proofs.Common.{◌≡◌, refl}
use Rattle.ddl_states.specs.declared.frame.ClassFrame.{ClassFrame}
use Rattle.ddl_states.specs.declared.frame.ClassFrame.TheVariants as class
use Rattle.ddl_states.specs.declared.frame.LastFrame.{LastFrame}
use Rattle.ddl_states.specs.declared.frame.LastFrame.TheVariants as last
use Rattle.ddl_states.specs.declared.frame.InnerFrame.{InnerFrame}
use Rattle.ddl_states.specs.declared.frame.InnerFrame.TheVariants as inner
use Rattle.ddl_states.specs.declared.frame.ListFrame.{ListFrame}
use Rattle.ddl_states.specs.declared.frame.ListFrame.TheVariants as list
use Rattle.ddl_states.specs.declared.frame.DeclFrame.{DeclFrame}
use Rattle.ddl_states.specs.declared.frame.DeclFrame.TheVariants as decl
use Rattle.ddl_states.specs.FrameView.{class_frame_view, last_frame_view, inner_frame_view, list_frame_view, decl_frame_view}
use Rattle.ddl_reader.specs.Frames.{FoundType}
use Rattle.ddl_states.specs.Ends.{ends_type, stays}

pub stays_class : (f : ClassFrame) (t : FoundType) → ends_type (class_frame_view f) t ≡ stays
stays_class (class.Union v0) t = refl
stays_class (class.Other v0) t = refl
stays_class (class.Grouped v0) t = refl
stays_class (class.Set v0) t = refl
stays_class (class.Atom v0) t = refl

pub stays_last : (f : LastFrame) (t : FoundType) → ends_type (last_frame_view f) t ≡ stays
stays_last (last.Infix v0 v1) t = refl
stays_last (last.Pure v0) t = refl
stays_last (last.Else v0 v1 v2) t = refl
stays_last (last.For v0 v1 v2 v3 v4) t = refl
stays_last (last.Map v0 v1 v2) t = refl
stays_last (last.Prefix v0 v1) t = refl
stays_last (last.CallGrammar v0 v1 v2) t = refl
stays_last (last.CallValue v0 v1 v2) t = refl
stays_last (last.Just v0) t = refl
stays_last (last.Many v0 v1 v2) t = refl
stays_last (last.Optional v0) t = refl

pub stays_inner : (f : InnerFrame) (t : FoundType) → ends_type (inner_frame_view f) t ≡ stays
stays_inner (inner.If v0) t = refl
stays_inner (inner.Then v0 v1) t = refl
stays_inner (inner.ForStart v0 v1) t = refl
stays_inner (inner.ForList v0 v1 v2 v3) t = refl
stays_inner (inner.MapList v0 v1) t = refl
stays_inner (inner.AtMost v0 v1) t = refl
stays_inner (inner.Between v0 v1 v2) t = refl
stays_inner (inner.Paren v0) t = refl
stays_inner (inner.Tagged v0 v1) t = refl
stays_inner (inner.Subject v0) t = refl

pub stays_list : (f : ListFrame) (t : FoundType) → ends_type (list_frame_view f) t ≡ stays
stays_list (list.Array v0 v1 v2) t = refl
stays_list (list.Record v0 v1 v2 v3) t = refl
stays_list (list.Block v0 v1 v2 v3) t = refl
stays_list (list.Untagged v0 v1 v2) t = refl
stays_list (list.WithTags v0 v1 v2 v3) t = refl
stays_list (list.Alt v0 v1 v2 v3 v4) t = refl

pub stays_decl : (f : DeclFrame) (t : FoundType) → ends_type (decl_frame_view f) t ≡ stays
stays_decl (decl.Module v0 v1) t = refl
stays_decl (decl.Param v0 v1 v2 v3) t = refl
stays_decl (decl.Result v0) t = refl
stays_decl (decl.Body v0 v1 v2) t = refl
stays_decl (decl.ClassBody v0 v1) t = refl
stays_decl (decl.Part v0 v1) t = refl

pub ruleset type_stays = (stays_class, stays_last, stays_inner, stays_list, stays_decl)
