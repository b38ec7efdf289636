-- Which forms a factor of a class does not end.
use Rattle.std.proofs.Common.{◌≡◌, refl}
use Rattle.ddl_states.specs.declared.frame.TypeFrame.{TypeFrame}
use Rattle.ddl_states.specs.declared.frame.TypeFrame.TheVariants as type
use Rattle.ddl_states.specs.declared.frame.LastFrame.{LastFrame}
use Rattle.ddl_states.specs.declared.frame.LastFrame.TheVariants as last
use Rattle.ddl_states.specs.declared.frame.InnerFrame.{InnerFrame}
use Rattle.ddl_states.specs.declared.frame.InnerFrame.TheVariants as inner
use Rattle.ddl_states.specs.declared.frame.ListFrame.{ListFrame}
use Rattle.ddl_states.specs.declared.frame.ListFrame.TheVariants as list
use Rattle.ddl_states.specs.declared.frame.DeclFrame.{DeclFrame}
use Rattle.ddl_states.specs.declared.frame.DeclFrame.TheVariants as decl
use Rattle.ddl_states.specs.FrameView.{type_frame_view, last_frame_view, inner_frame_view, list_frame_view, decl_frame_view}
use Rattle.ddl_reader.specs.Frames.{FoundClass}
use Rattle.ddl_states.specs.Ends.{ends_class, alone}

pub alone_type : (f : TypeFrame) (c : FoundClass) → ends_class (type_frame_view f) c ≡ alone
alone_type (type.Maybe v0) c = refl
alone_type (type.Bracket v0) c = refl
alone_type (type.MapValue v0 v1) c = refl
alone_type (type.Within v0) c = refl
alone_type (type.Cast v0 v1) c = refl
alone_type (type.Paren v0 v1) c = refl

pub alone_last : (f : LastFrame) (c : FoundClass) → ends_class (last_frame_view f) c ≡ alone
alone_last (last.Infix v0 v1) c = refl
alone_last (last.Pure v0) c = refl
alone_last (last.Else v0 v1 v2) c = refl
alone_last (last.For v0 v1 v2 v3 v4) c = refl
alone_last (last.Map v0 v1 v2) c = refl
alone_last (last.Prefix v0 v1) c = refl
alone_last (last.CallGrammar v0 v1 v2) c = refl
alone_last (last.CallValue v0 v1 v2) c = refl
alone_last (last.Just v0) c = refl
alone_last (last.Many v0 v1 v2) c = refl
alone_last (last.Optional v0) c = refl

pub alone_inner : (f : InnerFrame) (c : FoundClass) → ends_class (inner_frame_view f) c ≡ alone
alone_inner (inner.If v0) c = refl
alone_inner (inner.Then v0 v1) c = refl
alone_inner (inner.ForStart v0 v1) c = refl
alone_inner (inner.ForList v0 v1 v2 v3) c = refl
alone_inner (inner.MapList v0 v1) c = refl
alone_inner (inner.AtMost v0 v1) c = refl
alone_inner (inner.Between v0 v1 v2) c = refl
alone_inner (inner.Paren v0) c = refl
alone_inner (inner.Tagged v0 v1) c = refl
alone_inner (inner.Subject v0) c = refl

pub alone_list : (f : ListFrame) (c : FoundClass) → ends_class (list_frame_view f) c ≡ alone
alone_list (list.Array v0 v1 v2) c = refl
alone_list (list.Record v0 v1 v2 v3) c = refl
alone_list (list.Block v0 v1 v2 v3) c = refl
alone_list (list.Untagged v0 v1 v2) c = refl
alone_list (list.WithTags v0 v1 v2 v3) c = refl
alone_list (list.Alt v0 v1 v2 v3 v4) c = refl

pub alone_decl : (f : DeclFrame) (c : FoundClass) → ends_class (decl_frame_view f) c ≡ alone
alone_decl (decl.Module v0 v1) c = refl
alone_decl (decl.Param v0 v1 v2 v3) c = refl
alone_decl (decl.Result v0) c = refl
alone_decl (decl.Body v0 v1 v2) c = refl
alone_decl (decl.ClassBody v0 v1) c = refl
alone_decl (decl.Part v0 v1) c = refl

pub ruleset class_alone = (alone_type, alone_last, alone_inner, alone_list, alone_decl)
