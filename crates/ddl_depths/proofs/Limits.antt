-- How the least depth goes through the forms of a family.
use Rattle.std.proofs.Common.{◌≡◌, ◌≤◌, ◌<◌, ◌+◌, ◌&&◌, ℕ, min, length, map, true, false, nat_lt, List, [], ◌∷◌, ◌++◌, if◌then◌else◌, refl, ap, sym, ◌∙◌, arith}
use Rattle.std.proofs.lemmas.Bool.Decides.{nat_tests}
use Rattle.ddl_base.specs.declared.span.Span.{Span}
use Rattle.ddl_tree.specs.declared.expr.Expr as code_expr
use Rattle.ddl_tree.specs.ExprTree as ex
use Rattle.ddl_tree.specs.View.{view}
use Rattle.ddl_states.specs.declared.frame.Frame as code_frame
use Rattle.ddl_states.specs.declared.frame.TypeFrame.{TypeFrame}
use Rattle.ddl_states.specs.declared.frame.TypeFrame.TheVariants as type
use Rattle.ddl_states.specs.declared.frame.ClassFrame.{ClassFrame}
use Rattle.ddl_states.specs.declared.frame.ClassFrame.TheVariants as class
use Rattle.ddl_states.specs.declared.frame.LastFrame.{LastFrame}
use Rattle.ddl_states.specs.declared.frame.LastFrame.TheVariants as last
use Rattle.ddl_states.specs.declared.frame.InnerFrame.{InnerFrame}
use Rattle.ddl_states.specs.declared.frame.InnerFrame.TheVariants as inner
use Rattle.ddl_states.specs.declared.frame.ListFrame.{ListFrame}
use Rattle.ddl_states.specs.declared.frame.ListFrame.TheVariants as list
use Rattle.ddl_states.specs.declared.frame.DeclFrame.{DeclFrame}
use Rattle.ddl_states.specs.declared.frame.DeclFrame.TheVariants as decl
use Rattle.ddl_states.specs.FrameView.{frame_view, type_frame_view, class_frame_view, last_frame_view, inner_frame_view, list_frame_view, decl_frame_view}
use Rattle.ddl_depths.specs.Limit.{is_paren, is_free_many, opens_free_many, hole_need}
use Rattle.ddl_states.specs.StackView.{stack_view}
use Rattle.ddl_states.proofs.Opened.{view-push}
use Rattle.ddl_reader.specs.Depths.{around, around_in, low, need_expr}
use Rattle.ddl_reader.specs.Frames.{Frame}
use Rattle.ddl_reader.specs.Frames as m
use Rattle.ddl_reader.proofs.Flat.{low_flat}

pub around_here : (f : Frame) (fs : List Frame) (n : ℕ) → around_in f fs n ≡ (if is_paren f && opens_free_many fs then n else around f n)
around_here (m.in_paren s) (m.in_many r ex.Free d ∷ fs) n = refl
around_here f fs n = refl

pub need_here : (f : Frame) (fs : List Frame) → need_expr (f ∷ fs) ≡ hole_need f
need_here (m.in_array s [] n) fs = refl
need_here f fs = refl

pub view-split : (xs : List code_frame.Frame) (f : code_frame.Frame) (rest : List code_frame.Frame) → xs ≡ rest ++ f ∷ []
    → stack_view xs [] ≡ frame_view f ∷ stack_view rest []
view-split xs f rest e = ap (λ z. stack_view z []) e ∙ view-push rest f []

-- what stands around a part adds to its depth
pub low_most : (fs : List Frame) (n : ℕ) → n ≤ low fs n
low_most fs n = omega (arith, low_flat fs n)

-- ---- from the innermost form outwards

pub one_out : (rest outer : List code_frame.Frame) (f : code_frame.Frame) (n deep whole : ℕ) → rest ≡ outer ++ f ∷ []
    → deep ≡ around_in (frame_view f) (stack_view outer []) n → low (stack_view rest []) n ≡ whole → low (stack_view outer []) deep ≡ whole
one_out rest outer f n deep whole e is same = ap (λ k. low (stack_view outer []) k) is ∙ sym (ap (λ fs. low fs n) (view-split rest f outer e)) ∙ same

above : (n : ℕ) → 200 < n → true ≡ nat_lt 200 n
above n h = grind (arith, nat_tests)

pub deep_already : (rest : List code_frame.Frame) (n whole : ℕ) → 200 < n → low (stack_view rest []) n ≡ whole → true ≡ nat_lt 200 whole
deep_already rest n whole h same = above whole (omega (arith, low_most (stack_view rest []) n, same))

pub not_paren_type : (f : TypeFrame) → is_paren (type_frame_view f) ≡ false
not_paren_type (type.Maybe s) = refl
not_paren_type _ = refl

pub not_paren_class : (f : ClassFrame) → is_paren (class_frame_view f) ≡ false
not_paren_class (class.Other s) = refl
not_paren_class _ = refl

pub not_paren_last : (f : LastFrame) → is_paren (last_frame_view f) ≡ false
not_paren_last (last.Pure s) = refl
not_paren_last _ = refl

pub not_paren_list : (f : ListFrame) → is_paren (list_frame_view f) ≡ false
not_paren_list (list.Array s xs n) = refl
not_paren_list _ = refl

pub not_paren_decl : (f : DeclFrame) → is_paren (decl_frame_view f) ≡ false
not_paren_decl (decl.Result h) = refl
not_paren_decl _ = refl

pub ruleset not_paren = (not_paren_type, not_paren_class, not_paren_last, not_paren_list, not_paren_decl)

pub not_many_type : (f : TypeFrame) → is_free_many (type_frame_view f) ≡ false
not_many_type (type.Maybe s) = refl
not_many_type _ = refl

pub not_many_class : (f : ClassFrame) → is_free_many (class_frame_view f) ≡ false
not_many_class (class.Other s) = refl
not_many_class _ = refl

pub not_many_inner : (f : InnerFrame) → is_free_many (inner_frame_view f) ≡ false
not_many_inner (inner.If s) = refl
not_many_inner _ = refl

pub not_many_list : (f : ListFrame) → is_free_many (list_frame_view f) ≡ false
not_many_list (list.Array s xs n) = refl
not_many_list _ = refl

pub not_many_decl : (f : DeclFrame) → is_free_many (decl_frame_view f) ≡ false
not_many_decl (decl.Result h) = refl
not_many_decl _ = refl

pub ruleset not_many = (not_many_type, not_many_class, not_many_inner, not_many_list, not_many_decl)

pub need_type_frame : (f : TypeFrame) → hole_need (type_frame_view f) ≡ 1
need_type_frame (type.Maybe s) = refl
need_type_frame _ = refl

pub need_class_frame : (f : ClassFrame) → hole_need (class_frame_view f) ≡ 1
need_class_frame (class.Other s) = refl
need_class_frame _ = refl

pub need_last_frame : (f : LastFrame) → hole_need (last_frame_view f) ≡ 1
need_last_frame (last.Pure s) = refl
need_last_frame _ = refl

pub need_inner_frame : (f : InnerFrame) → hole_need (inner_frame_view f) ≡ 1
need_inner_frame (inner.If s) = refl
need_inner_frame _ = refl

pub need_decl_frame : (f : DeclFrame) → hole_need (decl_frame_view f) ≡ 1
need_decl_frame (decl.Result h) = refl
need_decl_frame _ = refl

pub need_array : (s : Span) (xs : List code_expr.Expr) (n : ℕ) → hole_need (m.in_array s (map view xs) n) ≡ min (length xs) 1
need_array s [] n = refl
need_array s (x ∷ xs) n = omega arith

pub ruleset hole_needs = (need_type_frame, need_class_frame, need_last_frame, need_inner_frame, need_decl_frame, need_array)
