-- Marks and words that begin no expression, but where a form of another family is open.
use Rattle.std.proofs.Common.{◌≡◌, refl, List, ◌∷◌, None}
use Rattle.ddl_states.specs.declared.frame.TypeFrame.{TypeFrame}
use Rattle.ddl_states.specs.declared.frame.TypeFrame.TheVariants as type
use Rattle.ddl_states.specs.declared.frame.ClassFrame.{ClassFrame}
use Rattle.ddl_states.specs.declared.frame.ClassFrame.TheVariants as class
use Rattle.ddl_states.specs.declared.frame.LastFrame.{LastFrame}
use Rattle.ddl_states.specs.declared.frame.LastFrame.TheVariants as last
use Rattle.ddl_states.specs.declared.frame.InnerFrame.{InnerFrame}
use Rattle.ddl_states.specs.declared.frame.InnerFrame.TheVariants as inner
use Rattle.ddl_states.specs.declared.frame.ListFrame.{ListFrame}
use Rattle.ddl_states.specs.declared.frame.ListFrame.TheVariants as list
use Rattle.ddl_states.specs.declared.frame.DeclFrame.{DeclFrame}
use Rattle.ddl_states.specs.declared.frame.DeclFrame.TheVariants as decl
use Rattle.ddl_states.specs.FrameView.{type_frame_view, class_frame_view, last_frame_view, inner_frame_view, list_frame_view, decl_frame_view}
use Rattle.ddl_base.specs.declared.span.Span.{Span}
use Rattle.ddl_reader.specs.Frames.{Frame}
use Rattle.ddl_reader.specs.StepExpr.{begin_result, begin_let, close_array, begin_high, close_low}

pub no_begin_result_type : (f : TypeFrame) (at : Span) (fs : List Frame) → begin_result at (type_frame_view f ∷ fs) ≡ None
no_begin_result_type (type.Maybe v0) at fs = refl
no_begin_result_type (type.Bracket v0) at fs = refl
no_begin_result_type (type.MapValue v0 v1) at fs = refl
no_begin_result_type (type.Within v0) at fs = refl
no_begin_result_type (type.Cast v0 v1) at fs = refl
no_begin_result_type (type.Paren v0 v1) at fs = refl

pub no_begin_result_class : (f : ClassFrame) (at : Span) (fs : List Frame) → begin_result at (class_frame_view f ∷ fs) ≡ None
no_begin_result_class (class.Union v0) at fs = refl
no_begin_result_class (class.Other v0) at fs = refl
no_begin_result_class (class.Grouped v0) at fs = refl
no_begin_result_class (class.Set v0) at fs = refl
no_begin_result_class (class.Atom v0) at fs = refl

pub no_begin_result_last : (f : LastFrame) (at : Span) (fs : List Frame) → begin_result at (last_frame_view f ∷ fs) ≡ None
no_begin_result_last (last.Infix v0 v1) at fs = refl
no_begin_result_last (last.Pure v0) at fs = refl
no_begin_result_last (last.Else v0 v1 v2) at fs = refl
no_begin_result_last (last.For v0 v1 v2 v3 v4) at fs = refl
no_begin_result_last (last.Map v0 v1 v2) at fs = refl
no_begin_result_last (last.Prefix v0 v1) at fs = refl
no_begin_result_last (last.CallGrammar v0 v1 v2) at fs = refl
no_begin_result_last (last.CallValue v0 v1 v2) at fs = refl
no_begin_result_last (last.Just v0) at fs = refl
no_begin_result_last (last.Many v0 v1 v2) at fs = refl
no_begin_result_last (last.Optional v0) at fs = refl

pub no_begin_result_inner : (f : InnerFrame) (at : Span) (fs : List Frame) → begin_result at (inner_frame_view f ∷ fs) ≡ None
no_begin_result_inner (inner.If v0) at fs = refl
no_begin_result_inner (inner.Then v0 v1) at fs = refl
no_begin_result_inner (inner.ForStart v0 v1) at fs = refl
no_begin_result_inner (inner.ForList v0 v1 v2 v3) at fs = refl
no_begin_result_inner (inner.MapList v0 v1) at fs = refl
no_begin_result_inner (inner.AtMost v0 v1) at fs = refl
no_begin_result_inner (inner.Between v0 v1 v2) at fs = refl
no_begin_result_inner (inner.Paren v0) at fs = refl
no_begin_result_inner (inner.Tagged v0 v1) at fs = refl
no_begin_result_inner (inner.Subject v0) at fs = refl

pub no_begin_result_decl : (f : DeclFrame) (at : Span) (fs : List Frame) → begin_result at (decl_frame_view f ∷ fs) ≡ None
no_begin_result_decl (decl.Module v0 v1) at fs = refl
no_begin_result_decl (decl.Param v0 v1 v2 v3) at fs = refl
no_begin_result_decl (decl.Result v0) at fs = refl
no_begin_result_decl (decl.Body v0 v1 v2) at fs = refl
no_begin_result_decl (decl.ClassBody v0 v1) at fs = refl
no_begin_result_decl (decl.Part v0 v1) at fs = refl

pub no_begin_let_type : (f : TypeFrame) (at : Span) (fs : List Frame) → begin_let at (type_frame_view f ∷ fs) ≡ None
no_begin_let_type (type.Maybe v0) at fs = refl
no_begin_let_type (type.Bracket v0) at fs = refl
no_begin_let_type (type.MapValue v0 v1) at fs = refl
no_begin_let_type (type.Within v0) at fs = refl
no_begin_let_type (type.Cast v0 v1) at fs = refl
no_begin_let_type (type.Paren v0 v1) at fs = refl

pub no_begin_let_class : (f : ClassFrame) (at : Span) (fs : List Frame) → begin_let at (class_frame_view f ∷ fs) ≡ None
no_begin_let_class (class.Union v0) at fs = refl
no_begin_let_class (class.Other v0) at fs = refl
no_begin_let_class (class.Grouped v0) at fs = refl
no_begin_let_class (class.Set v0) at fs = refl
no_begin_let_class (class.Atom v0) at fs = refl

pub no_begin_let_last : (f : LastFrame) (at : Span) (fs : List Frame) → begin_let at (last_frame_view f ∷ fs) ≡ None
no_begin_let_last (last.Infix v0 v1) at fs = refl
no_begin_let_last (last.Pure v0) at fs = refl
no_begin_let_last (last.Else v0 v1 v2) at fs = refl
no_begin_let_last (last.For v0 v1 v2 v3 v4) at fs = refl
no_begin_let_last (last.Map v0 v1 v2) at fs = refl
no_begin_let_last (last.Prefix v0 v1) at fs = refl
no_begin_let_last (last.CallGrammar v0 v1 v2) at fs = refl
no_begin_let_last (last.CallValue v0 v1 v2) at fs = refl
no_begin_let_last (last.Just v0) at fs = refl
no_begin_let_last (last.Many v0 v1 v2) at fs = refl
no_begin_let_last (last.Optional v0) at fs = refl

pub no_begin_let_inner : (f : InnerFrame) (at : Span) (fs : List Frame) → begin_let at (inner_frame_view f ∷ fs) ≡ None
no_begin_let_inner (inner.If v0) at fs = refl
no_begin_let_inner (inner.Then v0 v1) at fs = refl
no_begin_let_inner (inner.ForStart v0 v1) at fs = refl
no_begin_let_inner (inner.ForList v0 v1 v2 v3) at fs = refl
no_begin_let_inner (inner.MapList v0 v1) at fs = refl
no_begin_let_inner (inner.AtMost v0 v1) at fs = refl
no_begin_let_inner (inner.Between v0 v1 v2) at fs = refl
no_begin_let_inner (inner.Paren v0) at fs = refl
no_begin_let_inner (inner.Tagged v0 v1) at fs = refl
no_begin_let_inner (inner.Subject v0) at fs = refl

pub no_begin_let_decl : (f : DeclFrame) (at : Span) (fs : List Frame) → begin_let at (decl_frame_view f ∷ fs) ≡ None
no_begin_let_decl (decl.Module v0 v1) at fs = refl
no_begin_let_decl (decl.Param v0 v1 v2 v3) at fs = refl
no_begin_let_decl (decl.Result v0) at fs = refl
no_begin_let_decl (decl.Body v0 v1 v2) at fs = refl
no_begin_let_decl (decl.ClassBody v0 v1) at fs = refl
no_begin_let_decl (decl.Part v0 v1) at fs = refl

pub no_close_array_type : (f : TypeFrame) (at : Span) (fs : List Frame) → close_array at (type_frame_view f ∷ fs) ≡ None
no_close_array_type (type.Maybe v0) at fs = refl
no_close_array_type (type.Bracket v0) at fs = refl
no_close_array_type (type.MapValue v0 v1) at fs = refl
no_close_array_type (type.Within v0) at fs = refl
no_close_array_type (type.Cast v0 v1) at fs = refl
no_close_array_type (type.Paren v0 v1) at fs = refl

pub no_close_array_class : (f : ClassFrame) (at : Span) (fs : List Frame) → close_array at (class_frame_view f ∷ fs) ≡ None
no_close_array_class (class.Union v0) at fs = refl
no_close_array_class (class.Other v0) at fs = refl
no_close_array_class (class.Grouped v0) at fs = refl
no_close_array_class (class.Set v0) at fs = refl
no_close_array_class (class.Atom v0) at fs = refl

pub no_close_array_last : (f : LastFrame) (at : Span) (fs : List Frame) → close_array at (last_frame_view f ∷ fs) ≡ None
no_close_array_last (last.Infix v0 v1) at fs = refl
no_close_array_last (last.Pure v0) at fs = refl
no_close_array_last (last.Else v0 v1 v2) at fs = refl
no_close_array_last (last.For v0 v1 v2 v3 v4) at fs = refl
no_close_array_last (last.Map v0 v1 v2) at fs = refl
no_close_array_last (last.Prefix v0 v1) at fs = refl
no_close_array_last (last.CallGrammar v0 v1 v2) at fs = refl
no_close_array_last (last.CallValue v0 v1 v2) at fs = refl
no_close_array_last (last.Just v0) at fs = refl
no_close_array_last (last.Many v0 v1 v2) at fs = refl
no_close_array_last (last.Optional v0) at fs = refl

pub no_close_array_inner : (f : InnerFrame) (at : Span) (fs : List Frame) → close_array at (inner_frame_view f ∷ fs) ≡ None
no_close_array_inner (inner.If v0) at fs = refl
no_close_array_inner (inner.Then v0 v1) at fs = refl
no_close_array_inner (inner.ForStart v0 v1) at fs = refl
no_close_array_inner (inner.ForList v0 v1 v2 v3) at fs = refl
no_close_array_inner (inner.MapList v0 v1) at fs = refl
no_close_array_inner (inner.AtMost v0 v1) at fs = refl
no_close_array_inner (inner.Between v0 v1 v2) at fs = refl
no_close_array_inner (inner.Paren v0) at fs = refl
no_close_array_inner (inner.Tagged v0 v1) at fs = refl
no_close_array_inner (inner.Subject v0) at fs = refl

pub no_close_array_decl : (f : DeclFrame) (at : Span) (fs : List Frame) → close_array at (decl_frame_view f ∷ fs) ≡ None
no_close_array_decl (decl.Module v0 v1) at fs = refl
no_close_array_decl (decl.Param v0 v1 v2 v3) at fs = refl
no_close_array_decl (decl.Result v0) at fs = refl
no_close_array_decl (decl.Body v0 v1 v2) at fs = refl
no_close_array_decl (decl.ClassBody v0 v1) at fs = refl
no_close_array_decl (decl.Part v0 v1) at fs = refl

pub no_begin_high_type : (f : TypeFrame) (at : Span) (fs : List Frame) → begin_high at (type_frame_view f ∷ fs) ≡ None
no_begin_high_type (type.Maybe v0) at fs = refl
no_begin_high_type (type.Bracket v0) at fs = refl
no_begin_high_type (type.MapValue v0 v1) at fs = refl
no_begin_high_type (type.Within v0) at fs = refl
no_begin_high_type (type.Cast v0 v1) at fs = refl
no_begin_high_type (type.Paren v0 v1) at fs = refl

pub no_begin_high_class : (f : ClassFrame) (at : Span) (fs : List Frame) → begin_high at (class_frame_view f ∷ fs) ≡ None
no_begin_high_class (class.Union v0) at fs = refl
no_begin_high_class (class.Other v0) at fs = refl
no_begin_high_class (class.Grouped v0) at fs = refl
no_begin_high_class (class.Set v0) at fs = refl
no_begin_high_class (class.Atom v0) at fs = refl

pub no_begin_high_last : (f : LastFrame) (at : Span) (fs : List Frame) → begin_high at (last_frame_view f ∷ fs) ≡ None
no_begin_high_last (last.Infix v0 v1) at fs = refl
no_begin_high_last (last.Pure v0) at fs = refl
no_begin_high_last (last.Else v0 v1 v2) at fs = refl
no_begin_high_last (last.For v0 v1 v2 v3 v4) at fs = refl
no_begin_high_last (last.Map v0 v1 v2) at fs = refl
no_begin_high_last (last.Prefix v0 v1) at fs = refl
no_begin_high_last (last.CallGrammar v0 v1 v2) at fs = refl
no_begin_high_last (last.CallValue v0 v1 v2) at fs = refl
no_begin_high_last (last.Just v0) at fs = refl
no_begin_high_last (last.Many v0 v1 v2) at fs = refl
no_begin_high_last (last.Optional v0) at fs = refl

pub no_begin_high_list : (f : ListFrame) (at : Span) (fs : List Frame) → begin_high at (list_frame_view f ∷ fs) ≡ None
no_begin_high_list (list.Array v0 v1 v2) at fs = refl
no_begin_high_list (list.Record v0 v1 v2 v3) at fs = refl
no_begin_high_list (list.Block v0 v1 v2 v3) at fs = refl
no_begin_high_list (list.Untagged v0 v1 v2) at fs = refl
no_begin_high_list (list.WithTags v0 v1 v2 v3) at fs = refl
no_begin_high_list (list.Alt v0 v1 v2 v3 v4) at fs = refl

pub no_begin_high_decl : (f : DeclFrame) (at : Span) (fs : List Frame) → begin_high at (decl_frame_view f ∷ fs) ≡ None
no_begin_high_decl (decl.Module v0 v1) at fs = refl
no_begin_high_decl (decl.Param v0 v1 v2 v3) at fs = refl
no_begin_high_decl (decl.Result v0) at fs = refl
no_begin_high_decl (decl.Body v0 v1 v2) at fs = refl
no_begin_high_decl (decl.ClassBody v0 v1) at fs = refl
no_begin_high_decl (decl.Part v0 v1) at fs = refl

pub no_close_low_type : (f : TypeFrame) (at : Span) (fs : List Frame) → close_low at (type_frame_view f ∷ fs) ≡ None
no_close_low_type (type.Maybe v0) at fs = refl
no_close_low_type (type.Bracket v0) at fs = refl
no_close_low_type (type.MapValue v0 v1) at fs = refl
no_close_low_type (type.Within v0) at fs = refl
no_close_low_type (type.Cast v0 v1) at fs = refl
no_close_low_type (type.Paren v0 v1) at fs = refl

pub no_close_low_class : (f : ClassFrame) (at : Span) (fs : List Frame) → close_low at (class_frame_view f ∷ fs) ≡ None
no_close_low_class (class.Union v0) at fs = refl
no_close_low_class (class.Other v0) at fs = refl
no_close_low_class (class.Grouped v0) at fs = refl
no_close_low_class (class.Set v0) at fs = refl
no_close_low_class (class.Atom v0) at fs = refl

pub no_close_low_last : (f : LastFrame) (at : Span) (fs : List Frame) → close_low at (last_frame_view f ∷ fs) ≡ None
no_close_low_last (last.Infix v0 v1) at fs = refl
no_close_low_last (last.Pure v0) at fs = refl
no_close_low_last (last.Else v0 v1 v2) at fs = refl
no_close_low_last (last.For v0 v1 v2 v3 v4) at fs = refl
no_close_low_last (last.Map v0 v1 v2) at fs = refl
no_close_low_last (last.Prefix v0 v1) at fs = refl
no_close_low_last (last.CallGrammar v0 v1 v2) at fs = refl
no_close_low_last (last.CallValue v0 v1 v2) at fs = refl
no_close_low_last (last.Just v0) at fs = refl
no_close_low_last (last.Many v0 v1 v2) at fs = refl
no_close_low_last (last.Optional v0) at fs = refl

pub no_close_low_list : (f : ListFrame) (at : Span) (fs : List Frame) → close_low at (list_frame_view f ∷ fs) ≡ None
no_close_low_list (list.Array v0 v1 v2) at fs = refl
no_close_low_list (list.Record v0 v1 v2 v3) at fs = refl
no_close_low_list (list.Block v0 v1 v2 v3) at fs = refl
no_close_low_list (list.Untagged v0 v1 v2) at fs = refl
no_close_low_list (list.WithTags v0 v1 v2 v3) at fs = refl
no_close_low_list (list.Alt v0 v1 v2 v3 v4) at fs = refl

pub no_close_low_decl : (f : DeclFrame) (at : Span) (fs : List Frame) → close_low at (decl_frame_view f ∷ fs) ≡ None
no_close_low_decl (decl.Module v0 v1) at fs = refl
no_close_low_decl (decl.Param v0 v1 v2 v3) at fs = refl
no_close_low_decl (decl.Result v0) at fs = refl
no_close_low_decl (decl.Body v0 v1 v2) at fs = refl
no_close_low_decl (decl.ClassBody v0 v1) at fs = refl
no_close_low_decl (decl.Part v0 v1) at fs = refl

pub ruleset no_begin = (
  no_begin_result_type,
  no_begin_result_class,
  no_begin_result_last,
  no_begin_result_inner,
  no_begin_result_decl,
  no_begin_let_type,
  no_begin_let_class,
  no_begin_let_last,
  no_begin_let_inner,
  no_begin_let_decl,
  no_close_array_type,
  no_close_array_class,
  no_close_array_last,
  no_close_array_inner,
  no_close_array_decl,
  no_begin_high_type,
  no_begin_high_class,
  no_begin_high_last,
  no_begin_high_list,
  no_begin_high_decl,
  no_close_low_type,
  no_close_low_class,
  no_close_low_last,
  no_close_low_list,
  no_close_low_decl,
)
