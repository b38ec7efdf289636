-- Each token of a type or a class leads to a state that has read it.
use Rattle.std.proofs.Common.{◌≡◌, ℕ, ◌+◌, ◌≤◌, max, true, false, cond, List, [], ◌∷◌, Option, Some, None, refl, sym, arith, subst}
use Rattle.std.specs.Prelude.{codes}
use Rattle.std.specs.Str.{bytes_eq}
use Rattle.std.proofs.lemmas.Slice.Eq.{bytes_eq-Decides}
use Rattle.ddl_base.specs.declared.span.Span.{Span}
use Rattle.ddl_token.specs.declared.token.Tok.{Tok}
use Rattle.ddl_token.specs.declared.token.Tok.TheVariants as k
use Rattle.ddl_token.specs.declared.mark.Mark.TheVariants as m
use Rattle.ddl_tree.specs.declared.name.ByteLit.{ByteLit}
use Rattle.ddl_tree.specs.declared.name.ByteLit.TheVariants.{Code, Quoted}
use Rattle.ddl_tree.specs.TypeTree as ty
use Rattle.ddl_tree.specs.TypeTree.{type_span}
use Rattle.ddl_tree.specs.ClassTree as cls
use Rattle.ddl_tree.specs.ClassTree.{byte_span, class_span}
use Rattle.ddl_tree.specs.Print.{print_type, print_class}
use Rattle.ddl_tree.specs.Grammar.{class_level, IsClass}
use Rattle.ddl_reader.specs.Frames.{Frame, Focus, State, Found, FoundType, FoundClass, Head, Sort, Layout, Parted, PartStart, Repeat, Start, Loop, Cases}
use Rattle.ddl_reader.specs.Frames as frame
use Rattle.ddl_reader.specs.StepType.{joined}
use Rattle.ddl_reader.specs.StepExpr.{least}
use Rattle.ddl_reader.specs.StepType.{type_done, type_word, begin_type, width_uint, width_sint, close_empty, after_element, after_map_value, after_within}
use Rattle.ddl_reader.specs.StepType.{number_at}
use Rattle.ddl_reader.specs.StepClass.{class_done, begin_class, last_byte, after_grouped, after_class_set}
use Rattle.ddl_reader.proofs.Fits.{wanted, AreFrames, Reads, Steps, least_small}

small : (fs : List Frame) → least fs ≤ 18
small fs = let h = least_small fs in omega arith

-- ---- types

pub type_done_fine : (fs : List Frame) (t : ty.TypeExpr) (n : ℕ) → AreFrames fs → wanted fs ≡ 2 → Reads fs (print_type t) (type_done fs t n)
type_done_fine [] t n a h = absurd (omega arith)
type_done_fine (frame.in_maybe s ∷ fs) t n a h = type_done_fine fs (ty.Maybe t (joined s (type_span t))) (1 + n) a.4 a.1
type_done_fine (frame.in_cast o x ∷ fs) t n a h = ((λ r. refl), a.4, (a.0, a.1, a.2))
type_done_fine (frame.in_bracket s ∷ fs) t n a h = ((λ r. refl), a, h)
type_done_fine (frame.in_map_value s u ∷ fs) t n a h = ((λ r. refl), a, h)
type_done_fine (frame.in_within s ∷ fs) t n a h = ((λ r. refl), a, h)
type_done_fine (frame.in_paren_type s x ∷ fs) t n a h = ((λ r. refl), a, h)
type_done_fine (frame.in_param d s o x ∷ fs) t n a h = ((λ r. refl), a, h)
type_done_fine (frame.in_result d ∷ fs) t n a h = ((λ r. refl), a, h)
type_done_fine (frame.in_part p o ∷ fs) t n a h = ((λ r. refl), a, h)
type_done_fine (_ ∷ fs) t n a h = absurd (omega arith)

same_text : (x y : List ℕ) → bytes_eq x y ≡ true → x ≡ y
same_text x y e = (bytes_eq-Decides x y).0 e

word_case : (x y : List ℕ) (fs : List Frame) (z o : Option State) → Steps fs frame.want_type (k.Lower y) z → Steps fs frame.want_type (k.Lower x) o
    → Steps fs frame.want_type (k.Lower x) (cond (bytes_eq x y) z o)
word_case x y fs z o h g =
    elim (bytes_eq x y) as (λ b. bytes_eq x y ≡ b → Steps fs frame.want_type (k.Lower x) (cond b z o)) [
      | true ↦ λ e. subst (λ v. Steps fs frame.want_type (k.Lower v) z) (sym (same_text x y e)) h
      | false ↦ λ e. g
    ] refl

type_word_fine : (x : List ℕ) (s : Span) (fs : List Frame) → AreFrames fs → wanted fs ≡ 2 → Steps fs frame.want_type (k.Lower x) (type_word x s fs)
type_word_fine x s fs a h =
    word_case x (codes "int") fs (Some (type_done fs (ty.Int s) 1)) _ (type_done_fine fs (ty.Int s) 1 a h)
    (word_case x (codes "uint") fs (Some (fs, frame.want_uint s)) _ ((λ r. refl), a, h)
    (word_case x (codes "sint") fs (Some (fs, frame.want_sint s)) _ ((λ r. refl), a, h)
    (word_case x (codes "bool") fs (Some (type_done fs (ty.Bool s) 1)) _ (type_done_fine fs (ty.Bool s) 1 a h)
    (word_case x (codes "stream") fs (Some (type_done fs (ty.Stream s) 1)) _ (type_done_fine fs (ty.Stream s) 1 a h)
    (word_case x (codes "float") fs (Some (type_done fs (ty.Float s) 1)) _ (type_done_fine fs (ty.Float s) 1 a h)
    (word_case x (codes "double") fs (Some (type_done fs (ty.Double s) 1)) _ (type_done_fine fs (ty.Double s) 1 a h)
    (word_case x (codes "maybe") fs (Some (frame.in_maybe s ∷ fs, frame.want_type)) None ((λ r. refl), (tt, h, small fs, tt, a), refl) tt)))))))

pub begin_type_fine : (x : Tok) (s : Span) (fs : List Frame) → AreFrames fs → wanted fs ≡ 2 → Steps fs frame.want_type x (begin_type x s fs)
begin_type_fine (k.Lower x) s fs a h = type_word_fine x s fs a h
begin_type_fine (k.Upper x) s fs a h = type_done_fine fs (ty.Named (record { text = x; span = s })) 1 a h
begin_type_fine (k.Mark m.OpenBracket) s fs a h = ((λ r. refl), (tt, h, small fs, tt, a), refl)
begin_type_fine (k.Mark m.OpenBrace) s fs a h = ((λ r. refl), a, h)
begin_type_fine (k.Mark m.OpenParen) s fs a h = ((λ r. refl), (tt, h, small fs, tt, a), refl)
begin_type_fine _ s fs a h = tt

pub width_uint_fine : (x : Tok) (s from : Span) (fs : List Frame) → AreFrames fs → wanted fs ≡ 2 → Steps fs (frame.want_uint from) x (width_uint x s from fs)
width_uint_fine (k.Number v b d) s from fs a h = type_done_fine fs (ty.Uint (number_at v b d s) (joined from s)) 1 a h
width_uint_fine _ s from fs a h = tt

pub width_sint_fine : (x : Tok) (s from : Span) (fs : List Frame) → AreFrames fs → wanted fs ≡ 2 → Steps fs (frame.want_sint from) x (width_sint x s from fs)
width_sint_fine (k.Number v b d) s from fs a h = type_done_fine fs (ty.Sint (number_at v b d s) (joined from s)) 1 a h
width_sint_fine _ s from fs a h = tt

pub close_empty_fine : (x : Tok) (s from : Span) (fs : List Frame) → AreFrames fs → wanted fs ≡ 2 → Steps fs (frame.open_empty from) x (close_empty x s from fs)
close_empty_fine (k.Mark m.CloseBrace) s from fs a h = type_done_fine fs (ty.Empty (joined from s)) 1 a h
close_empty_fine _ s from fs a h = tt

pub after_element_fine : (x : Tok) (s from : Span) (t : FoundType) (fs : List Frame) → AreFrames fs → wanted fs ≡ 2
    → Steps (frame.in_bracket from ∷ fs) (frame.have_type t) x (after_element x s from t fs)
after_element_fine (k.Mark m.CloseBracket) s from t fs a h = type_done_fine fs (ty.ArrayOf t.type (joined from s)) (1 + t.deep) a h
after_element_fine (k.Mark m.Arrow) s from t fs a h = ((λ r. refl), (tt, h, small fs, tt, a), refl)
after_element_fine _ s from t fs a h = tt

pub after_map_value_fine : (x : Tok) (s from : Span) (t u : FoundType) (fs : List Frame) → AreFrames fs → wanted fs ≡ 2
    → Steps (frame.in_map_value from t ∷ fs) (frame.have_type u) x (after_map_value x s from t u fs)
after_map_value_fine (k.Mark m.CloseBracket) s from t u fs a h = type_done_fine fs (ty.MapOf t.type u.type (joined from s)) (1 + max t.deep u.deep) a h
after_map_value_fine _ s from t u fs a h = tt

pub after_within_fine : (x : Tok) (s from : Span) (t : FoundType) (fs : List Frame) → AreFrames fs → wanted fs ≡ 2
    → Steps (frame.in_within from ∷ fs) (frame.have_type t) x (after_within x s from t fs)
after_within_fine (k.Mark m.CloseParen) s from t fs a h = type_done_fine fs (ty.Within t.type (joined from s)) (1 + t.deep) a h
after_within_fine _ s from t fs a h = tt

-- ---- classes

pub class_done_fine : (fs : List Frame) (c : cls.Cls) (n : ℕ) → AreFrames fs → wanted fs ≡ 3 → IsClass c → 2 ≤ class_level c
    → Reads fs (print_class c) (class_done fs c n)
class_done_fine [] c n a h i l = absurd (omega arith)
class_done_fine (frame.in_other s ∷ fs) c n a h i l = class_done_fine fs (cls.Other c (joined s (class_span c))) (1 + n) a.4 a.1 (i, l) (omega arith)
class_done_fine (frame.in_union x ∷ fs) c n a h i l = ((λ r. refl), a.4, ((a.0, i, l), a.3))
class_done_fine (frame.in_grouped s ∷ fs) c n a h i l = ((λ r. refl), a, (i, tt))
class_done_fine (frame.in_class_set s ∷ fs) c n a h i l = ((λ r. refl), a, (i, tt))
class_done_fine (frame.in_set s ∷ fs) c n a h i l = ((λ r. refl), a, (i, tt))
class_done_fine (frame.in_class_body s x ∷ fs) c n a h i l = ((λ r. refl), a, (i, tt))
class_done_fine (_ ∷ fs) c n a h i l = absurd (omega arith)

pub begin_class_fine : (x : Tok) (s : Span) (fs : List Frame) → AreFrames fs → wanted fs ≡ 3 → Steps fs frame.want_class x (begin_class x s fs)
begin_class_fine (k.Number v b d) s fs a h = ((λ r. refl), a, h)
begin_class_fine (k.Char b) s fs a h = ((λ r. refl), a, h)
begin_class_fine (k.Class x) s fs a h = class_done_fine fs (cls.Known (record { text = x; span = s })) 1 a h tt (omega arith)
begin_class_fine (k.Mark m.Bang) s fs a h = ((λ r. refl), (tt, h, small fs, tt, a), refl)
begin_class_fine (k.Mark m.OpenParen) s fs a h = ((λ r. refl), (tt, h, small fs, tt, a), refl)
begin_class_fine (k.Mark m.DollarBracket) s fs a h = ((λ r. refl), (tt, h, small fs, tt, a), refl)
begin_class_fine _ s fs a h = tt

pub last_byte_fine : (x : Tok) (s : Span) (b : ByteLit) (fs : List Frame) → AreFrames fs → wanted fs ≡ 3 → Steps fs (frame.want_last b) x (last_byte x s b fs)
last_byte_fine (k.Number v c d) s b fs a h = class_done_fine fs (cls.Range b (Code (number_at v c d s)) (joined (byte_span b) s)) 1 a h tt (omega arith)
last_byte_fine (k.Char c) s b fs a h = class_done_fine fs (cls.Range b (Quoted c s) (joined (byte_span b) s)) 1 a h tt (omega arith)
last_byte_fine _ s b fs a h = tt

pub after_grouped_fine : (x : Tok) (s from : Span) (c : FoundClass) (fs : List Frame) → AreFrames (frame.in_grouped from ∷ fs) → IsClass c.class
    → Steps (frame.in_grouped from ∷ fs) (frame.have_class c) x (after_grouped x s from c fs)
after_grouped_fine (k.Mark m.CloseParen) s from c fs a i = class_done_fine fs (cls.Grouped c.class (joined from s)) (1 + c.deep) a.4 a.1 i (omega arith)
after_grouped_fine (k.Mark m.Bar) s from c fs a i = ((λ r. refl), (i, refl, omega arith, tt, a), refl)
after_grouped_fine _ s from c fs a i = tt

pub after_class_set_fine : (x : Tok) (s from : Span) (c : FoundClass) (fs : List Frame) → AreFrames (frame.in_class_set from ∷ fs) → IsClass c.class
    → Steps (frame.in_class_set from ∷ fs) (frame.have_class c) x (after_class_set x s from c fs)
after_class_set_fine (k.Mark m.CloseBracket) s from c fs a i = class_done_fine fs (cls.Set c.class (joined from s)) (1 + c.deep) a.4 a.1 i (omega arith)
after_class_set_fine (k.Mark m.Bar) s from c fs a i = ((λ r. refl), (i, refl, omega arith, tt, a), refl)
after_class_set_fine _ s from c fs a i = tt
