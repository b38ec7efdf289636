-- Which open forms take no declaration and no import.
use Rattle.std.proofs.Common.{◌≡◌, refl, ℕ, List, ◌∷◌}
use Rattle.ddl_states.specs.declared.frame.TypeFrame.{TypeFrame}
use Rattle.ddl_states.specs.declared.frame.TypeFrame.TheVariants as type
use Rattle.ddl_states.specs.declared.frame.ClassFrame.{ClassFrame}
use Rattle.ddl_states.specs.declared.frame.ClassFrame.TheVariants as class
use Rattle.ddl_states.specs.declared.frame.LastFrame.{LastFrame}
use Rattle.ddl_states.specs.declared.frame.LastFrame.TheVariants as last
use Rattle.ddl_states.specs.declared.frame.InnerFrame.{InnerFrame}
use Rattle.ddl_states.specs.declared.frame.InnerFrame.TheVariants as inner
use Rattle.ddl_states.specs.declared.frame.ListFrame.{ListFrame}
use Rattle.ddl_states.specs.declared.frame.ListFrame.TheVariants as list
use Rattle.ddl_states.specs.FrameView.{type_frame_view, class_frame_view, last_frame_view, inner_frame_view, list_frame_view}
use Rattle.ddl_tree.specs.declared.module.Import.{Import}
use Rattle.ddl_tree.specs.ModuleTree.{Decl}
use Rattle.ddl_reader.specs.Frames.{Frame}
use Rattle.ddl_reader.specs.StepDecl.{with_decl, with_import}

pub keeps_decl_type : (f : TypeFrame) (d : Decl) (n : ℕ) (fs : List Frame) → with_decl d n (type_frame_view f ∷ fs) ≡ type_frame_view f ∷ fs
keeps_decl_type (type.Maybe v0) d n fs = refl
keeps_decl_type (type.Bracket v0) d n fs = refl
keeps_decl_type (type.MapValue v0 v1) d n fs = refl
keeps_decl_type (type.Within v0) d n fs = refl
keeps_decl_type (type.Cast v0 v1) d n fs = refl
keeps_decl_type (type.Paren v0 v1) d n fs = refl

pub keeps_import_type : (f : TypeFrame) (i : Import) (fs : List Frame) → with_import i (type_frame_view f ∷ fs) ≡ type_frame_view f ∷ fs
keeps_import_type (type.Maybe v0) i fs = refl
keeps_import_type (type.Bracket v0) i fs = refl
keeps_import_type (type.MapValue v0 v1) i fs = refl
keeps_import_type (type.Within v0) i fs = refl
keeps_import_type (type.Cast v0 v1) i fs = refl
keeps_import_type (type.Paren v0 v1) i fs = refl

pub keeps_decl_class : (f : ClassFrame) (d : Decl) (n : ℕ) (fs : List Frame) → with_decl d n (class_frame_view f ∷ fs) ≡ class_frame_view f ∷ fs
keeps_decl_class (class.Union v0) d n fs = refl
keeps_decl_class (class.Other v0) d n fs = refl
keeps_decl_class (class.Grouped v0) d n fs = refl
keeps_decl_class (class.Set v0) d n fs = refl
keeps_decl_class (class.Atom v0) d n fs = refl

pub keeps_import_class : (f : ClassFrame) (i : Import) (fs : List Frame) → with_import i (class_frame_view f ∷ fs) ≡ class_frame_view f ∷ fs
keeps_import_class (class.Union v0) i fs = refl
keeps_import_class (class.Other v0) i fs = refl
keeps_import_class (class.Grouped v0) i fs = refl
keeps_import_class (class.Set v0) i fs = refl
keeps_import_class (class.Atom v0) i fs = refl

pub keeps_decl_last : (f : LastFrame) (d : Decl) (n : ℕ) (fs : List Frame) → with_decl d n (last_frame_view f ∷ fs) ≡ last_frame_view f ∷ fs
keeps_decl_last (last.Infix v0 v1) d n fs = refl
keeps_decl_last (last.Pure v0) d n fs = refl
keeps_decl_last (last.Else v0 v1 v2) d n fs = refl
keeps_decl_last (last.For v0 v1 v2 v3 v4) d n fs = refl
keeps_decl_last (last.Map v0 v1 v2) d n fs = refl
keeps_decl_last (last.Prefix v0 v1) d n fs = refl
keeps_decl_last (last.CallGrammar v0 v1 v2) d n fs = refl
keeps_decl_last (last.CallValue v0 v1 v2) d n fs = refl
keeps_decl_last (last.Just v0) d n fs = refl
keeps_decl_last (last.Many v0 v1 v2) d n fs = refl
keeps_decl_last (last.Optional v0) d n fs = refl

pub keeps_import_last : (f : LastFrame) (i : Import) (fs : List Frame) → with_import i (last_frame_view f ∷ fs) ≡ last_frame_view f ∷ fs
keeps_import_last (last.Infix v0 v1) i fs = refl
keeps_import_last (last.Pure v0) i fs = refl
keeps_import_last (last.Else v0 v1 v2) i fs = refl
keeps_import_last (last.For v0 v1 v2 v3 v4) i fs = refl
keeps_import_last (last.Map v0 v1 v2) i fs = refl
keeps_import_last (last.Prefix v0 v1) i fs = refl
keeps_import_last (last.CallGrammar v0 v1 v2) i fs = refl
keeps_import_last (last.CallValue v0 v1 v2) i fs = refl
keeps_import_last (last.Just v0) i fs = refl
keeps_import_last (last.Many v0 v1 v2) i fs = refl
keeps_import_last (last.Optional v0) i fs = refl

pub keeps_decl_inner : (f : InnerFrame) (d : Decl) (n : ℕ) (fs : List Frame) → with_decl d n (inner_frame_view f ∷ fs) ≡ inner_frame_view f ∷ fs
keeps_decl_inner (inner.If v0) d n fs = refl
keeps_decl_inner (inner.Then v0 v1) d n fs = refl
keeps_decl_inner (inner.ForStart v0 v1) d n fs = refl
keeps_decl_inner (inner.ForList v0 v1 v2 v3) d n fs = refl
keeps_decl_inner (inner.MapList v0 v1) d n fs = refl
keeps_decl_inner (inner.AtMost v0 v1) d n fs = refl
keeps_decl_inner (inner.Between v0 v1 v2) d n fs = refl
keeps_decl_inner (inner.Paren v0) d n fs = refl
keeps_decl_inner (inner.Tagged v0 v1) d n fs = refl
keeps_decl_inner (inner.Subject v0) d n fs = refl

pub keeps_import_inner : (f : InnerFrame) (i : Import) (fs : List Frame) → with_import i (inner_frame_view f ∷ fs) ≡ inner_frame_view f ∷ fs
keeps_import_inner (inner.If v0) i fs = refl
keeps_import_inner (inner.Then v0 v1) i fs = refl
keeps_import_inner (inner.ForStart v0 v1) i fs = refl
keeps_import_inner (inner.ForList v0 v1 v2 v3) i fs = refl
keeps_import_inner (inner.MapList v0 v1) i fs = refl
keeps_import_inner (inner.AtMost v0 v1) i fs = refl
keeps_import_inner (inner.Between v0 v1 v2) i fs = refl
keeps_import_inner (inner.Paren v0) i fs = refl
keeps_import_inner (inner.Tagged v0 v1) i fs = refl
keeps_import_inner (inner.Subject v0) i fs = refl

pub keeps_decl_list : (f : ListFrame) (d : Decl) (n : ℕ) (fs : List Frame) → with_decl d n (list_frame_view f ∷ fs) ≡ list_frame_view f ∷ fs
keeps_decl_list (list.Array v0 v1 v2) d n fs = refl
keeps_decl_list (list.Record v0 v1 v2 v3) d n fs = refl
keeps_decl_list (list.Block v0 v1 v2 v3) d n fs = refl
keeps_decl_list (list.Untagged v0 v1 v2) d n fs = refl
keeps_decl_list (list.WithTags v0 v1 v2 v3) d n fs = refl
keeps_decl_list (list.Alt v0 v1 v2 v3 v4) d n fs = refl

pub keeps_import_list : (f : ListFrame) (i : Import) (fs : List Frame) → with_import i (list_frame_view f ∷ fs) ≡ list_frame_view f ∷ fs
keeps_import_list (list.Array v0 v1 v2) i fs = refl
keeps_import_list (list.Record v0 v1 v2 v3) i fs = refl
keeps_import_list (list.Block v0 v1 v2 v3) i fs = refl
keeps_import_list (list.Untagged v0 v1 v2) i fs = refl
keeps_import_list (list.WithTags v0 v1 v2 v3) i fs = refl
keeps_import_list (list.Alt v0 v1 v2 v3 v4) i fs = refl

pub ruleset no_module = (
  keeps_decl_type,
  keeps_import_type,
  keeps_decl_class,
  keeps_import_class,
  keeps_decl_last,
  keeps_import_last,
  keeps_decl_inner,
  keeps_import_inner,
  keeps_decl_list,
  keeps_import_list,
)
