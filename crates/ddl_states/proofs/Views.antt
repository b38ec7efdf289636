-- What steps make of the forms of a family.
use Rattle.std.proofs.Common.{◌≡◌, refl}
use Rattle.ddl_states.specs.declared.frame.TypeFrame.{TypeFrame}
use Rattle.ddl_states.specs.declared.frame.TypeFrame.TheVariants as type
use Rattle.ddl_states.specs.declared.frame.ClassFrame.{ClassFrame}
use Rattle.ddl_states.specs.declared.frame.ClassFrame.TheVariants as class
use Rattle.ddl_states.specs.declared.frame.InnerFrame.{InnerFrame}
use Rattle.ddl_states.specs.declared.frame.InnerFrame.TheVariants as inner
use Rattle.ddl_states.specs.declared.frame.ListFrame.{ListFrame}
use Rattle.ddl_states.specs.declared.frame.ListFrame.TheVariants as list
use Rattle.ddl_states.specs.declared.frame.DeclFrame.{DeclFrame}
use Rattle.ddl_states.specs.declared.frame.DeclFrame.TheVariants as decl
use Rattle.ddl_states.specs.FrameView.{type_frame_view, class_frame_view, inner_frame_view, list_frame_view, decl_frame_view}
use Rattle.ddl_reader.specs.StepExpr.{hole}

pub hole_type : (f : TypeFrame) → hole (type_frame_view f) ≡ 1
hole_type (type.Maybe s) = refl
hole_type (type.Bracket s) = refl
hole_type (type.MapValue s t) = refl
hole_type (type.Within s) = refl
hole_type (type.Cast o a) = refl
hole_type (type.Paren s a) = refl

pub hole_class : (f : ClassFrame) → hole (class_frame_view f) ≡ 1
hole_class (class.Union c) = refl
hole_class (class.Other s) = refl
hole_class (class.Grouped s) = refl
hole_class (class.Set s) = refl
hole_class (class.Atom s) = refl

pub hole_inner : (f : InnerFrame) → hole (inner_frame_view f) ≡ 1
hole_inner (inner.If s) = refl
hole_inner (inner.Then s c) = refl
hole_inner (inner.ForStart s x) = refl
hole_inner (inner.ForList s x i ns) = refl
hole_inner (inner.MapList s ns) = refl
hole_inner (inner.AtMost r s) = refl
hole_inner (inner.Between r s a) = refl
hole_inner (inner.Paren s) = refl
hole_inner (inner.Tagged s x) = refl
hole_inner (inner.Subject s) = refl

pub hole_list : (f : ListFrame) → hole (list_frame_view f) ≡ 1
hole_list (list.Array s xs n) = refl
hole_list (list.Record s bs n x) = refl
hole_list (list.Block s is n b) = refl
hole_list (list.Untagged r xs n) = refl
hole_list (list.WithTags r bs n x) = refl
hole_list (list.Alt s a xs n p) = refl

pub hole_decl : (f : DeclFrame) → hole (decl_frame_view f) ≡ 1
hole_decl (decl.Module a n) = refl
hole_decl (decl.Param h s o x) = refl
hole_decl (decl.Result h) = refl
hole_decl (decl.Body h t n) = refl
hole_decl (decl.ClassBody s x) = refl
hole_decl (decl.Part p o) = refl

pub ruleset views = (hole_type, hole_class, hole_inner, hole_list, hole_decl)
