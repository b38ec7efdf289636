-- Each token of a type or a class keeps the depths, and makes no module shallower.
use Rattle.std.proofs.Common.{◌≡◌, ℕ, ◌+◌, ◌≤◌, max, Bool, true, false, cond, List, [], ◌∷◌, Option, Some, None, refl, arith}
use Rattle.std.specs.Prelude.{codes}
use Rattle.std.specs.Str.{bytes_eq}
use Rattle.ddl_base.specs.declared.span.Span.{Span}
use Rattle.ddl_token.specs.declared.token.Tok.{Tok}
use Rattle.ddl_token.specs.declared.token.Tok.TheVariants as k
use Rattle.ddl_token.specs.declared.mark.Mark.TheVariants as m
use Rattle.ddl_tree.specs.declared.name.ByteLit.{ByteLit}
use Rattle.ddl_tree.specs.declared.name.ByteLit.TheVariants.{Code, Quoted}
use Rattle.ddl_tree.specs.TypeTree as ty
use Rattle.ddl_tree.specs.TypeTree.{type_span}
use Rattle.ddl_tree.specs.ClassTree as cls
use Rattle.ddl_tree.specs.ClassTree.{byte_span, class_span}
use Rattle.ddl_tree.specs.Depth.{type_depth, class_depth}
use Rattle.ddl_reader.specs.Frames.{Frame, FoundType, FoundClass, State}
use Rattle.ddl_reader.specs.Frames as frame
use Rattle.ddl_reader.specs.StepType.{joined, type_done, type_word, begin_type, width_uint, width_sint, close_empty, after_element, after_map_value}
use Rattle.ddl_reader.specs.StepType.{after_within, number_at}
use Rattle.ddl_reader.specs.StepClass.{class_done, begin_class, last_byte, after_grouped, after_class_set}
use Rattle.ddl_reader.specs.Depths.{low, lowest}
use Rattle.ddl_reader.proofs.Deep.{AreDeep, Goes, Deeps, low_grows}

-- ---- types

pub type_done_deep : (fs : List Frame) (t : ty.TypeExpr) (n : ℕ) → AreDeep fs → n ≡ type_depth t → Goes (low fs n) (type_done fs t n)
type_done_deep [] t n d e = (d, e, omega arith)
type_done_deep (frame.in_maybe s ∷ fs) t n d e = type_done_deep fs (ty.Maybe t (joined s (type_span t))) (1 + n) d.1 (omega arith)
type_done_deep (frame.in_cast o a ∷ fs) t n d e = let h = d.0 in (d.1, omega arith, omega arith)
type_done_deep (_ ∷ fs) t n d e = (d, e, omega arith)

-- one word, or the words that come behind it
word_case : (n : ℕ) (b : Bool) (z o : Option State) → Deeps n z → Deeps n o → Deeps n (cond b z o)
word_case n true z o h g = h
word_case n false z o h g = g

type_word_deep : (x : List ℕ) (s : Span) (fs : List Frame) → AreDeep fs → Deeps (low fs 1) (type_word x s fs)
type_word_deep x s fs d =
    let n = low fs 1 in
    word_case n (bytes_eq x (codes "int")) (Some (type_done fs (ty.Int s) 1)) _ (type_done_deep fs (ty.Int s) 1 d refl)
    (word_case n (bytes_eq x (codes "uint")) (Some (fs, frame.want_uint s)) _ (d, tt, omega arith)
    (word_case n (bytes_eq x (codes "sint")) (Some (fs, frame.want_sint s)) _ (d, tt, omega arith)
    (word_case n (bytes_eq x (codes "bool")) (Some (type_done fs (ty.Bool s) 1)) _ (type_done_deep fs (ty.Bool s) 1 d refl)
    (word_case n (bytes_eq x (codes "stream")) (Some (type_done fs (ty.Stream s) 1)) _ (type_done_deep fs (ty.Stream s) 1 d refl)
    (word_case n (bytes_eq x (codes "float")) (Some (type_done fs (ty.Float s) 1)) _ (type_done_deep fs (ty.Float s) 1 d refl)
    (word_case n (bytes_eq x (codes "double")) (Some (type_done fs (ty.Double s) 1)) _ (type_done_deep fs (ty.Double s) 1 d refl)
    (word_case n (bytes_eq x (codes "maybe")) (Some (frame.in_maybe s ∷ fs, frame.want_type)) None ((tt, d), tt, low_grows fs 1 2 (omega arith)) tt)))))))

pub begin_type_deep : (x : Tok) (s : Span) (fs : List Frame) → AreDeep fs → Deeps (low fs 1) (begin_type x s fs)
begin_type_deep (k.Lower x) s fs d = type_word_deep x s fs d
begin_type_deep (k.Upper x) s fs d = type_done_deep fs (ty.Named (record { text = x; span = s })) 1 d refl
begin_type_deep (k.Mark m.OpenBracket) s fs d = ((tt, d), tt, low_grows fs 1 2 (omega arith))
begin_type_deep (k.Mark m.OpenBrace) s fs d = (d, tt, omega arith)
begin_type_deep (k.Mark m.OpenParen) s fs d = ((tt, d), tt, low_grows fs 1 2 (omega arith))
begin_type_deep _ s fs d = tt

pub width_uint_deep : (x : Tok) (s from : Span) (fs : List Frame) → AreDeep fs → Deeps (low fs 1) (width_uint x s from fs)
width_uint_deep (k.Number v b n) s from fs d = type_done_deep fs (ty.Uint (number_at v b n s) (joined from s)) 1 d refl
width_uint_deep _ s from fs d = tt

pub width_sint_deep : (x : Tok) (s from : Span) (fs : List Frame) → AreDeep fs → Deeps (low fs 1) (width_sint x s from fs)
width_sint_deep (k.Number v b n) s from fs d = type_done_deep fs (ty.Sint (number_at v b n s) (joined from s)) 1 d refl
width_sint_deep _ s from fs d = tt

pub close_empty_deep : (x : Tok) (s from : Span) (fs : List Frame) → AreDeep fs → Deeps (low fs 1) (close_empty x s from fs)
close_empty_deep (k.Mark m.CloseBrace) s from fs d = type_done_deep fs (ty.Empty (joined from s)) 1 d refl
close_empty_deep _ s from fs d = tt

pub after_element_deep : (x : Tok) (s from : Span) (t : FoundType) (fs : List Frame) → AreDeep fs → t.deep ≡ type_depth t.type
    → Deeps (low fs (1 + t.deep)) (after_element x s from t fs)
after_element_deep (k.Mark m.CloseBracket) s from t fs d e = type_done_deep fs (ty.ArrayOf t.type (joined from s)) (1 + t.deep) d (omega arith)
after_element_deep (k.Mark m.Arrow) s from t fs d e = ((e, d), tt, low_grows fs (1 + t.deep) (1 + max t.deep 1) (omega arith))
after_element_deep _ s from t fs d e = tt

pub after_map_value_deep : (x : Tok) (s from : Span) (t u : FoundType) (fs : List Frame) → AreDeep fs → t.deep ≡ type_depth t.type → u.deep ≡ type_depth u.type
    → Deeps (low fs (1 + max t.deep u.deep)) (after_map_value x s from t u fs)
after_map_value_deep (k.Mark m.CloseBracket) s from t u fs d e h =
    type_done_deep fs (ty.MapOf t.type u.type (joined from s)) (1 + max t.deep u.deep) d (omega arith)
after_map_value_deep _ s from t u fs d e h = tt

pub after_within_deep : (x : Tok) (s from : Span) (t : FoundType) (fs : List Frame) → AreDeep fs → t.deep ≡ type_depth t.type
    → Deeps (low fs (1 + t.deep)) (after_within x s from t fs)
after_within_deep (k.Mark m.CloseParen) s from t fs d e = type_done_deep fs (ty.Within t.type (joined from s)) (1 + t.deep) d (omega arith)
after_within_deep _ s from t fs d e = tt

-- ---- classes

pub class_done_deep : (fs : List Frame) (c : cls.Cls) (n : ℕ) → AreDeep fs → n ≡ class_depth c → Goes (low fs n) (class_done fs c n)
class_done_deep [] c n d e = (d, e, omega arith)
class_done_deep (frame.in_other s ∷ fs) c n d e = class_done_deep fs (cls.Other c (joined s (class_span c))) (1 + n) d.1 (omega arith)
class_done_deep (frame.in_union a ∷ fs) c n d e = let h = d.0 in (d.1, omega arith, omega arith)
class_done_deep (_ ∷ fs) c n d e = (d, e, omega arith)

-- and no deeper
pub class_done_least : (fs : List Frame) (c : cls.Cls) (n : ℕ) → lowest (class_done fs c n) ≤ low fs n
class_done_least [] c n = omega arith
class_done_least (frame.in_other s ∷ fs) c n = class_done_least fs (cls.Other c (joined s (class_span c))) (1 + n)
class_done_least (frame.in_union a ∷ fs) c n = omega arith
class_done_least (_ ∷ fs) c n = omega arith

pub begin_class_deep : (x : Tok) (s : Span) (fs : List Frame) → AreDeep fs → Deeps (low fs 1) (begin_class x s fs)
begin_class_deep (k.Number v b n) s fs d = (d, tt, omega arith)
begin_class_deep (k.Char b) s fs d = (d, tt, omega arith)
begin_class_deep (k.Class x) s fs d = class_done_deep fs (cls.Known (record { text = x; span = s })) 1 d refl
begin_class_deep (k.Mark m.Bang) s fs d = ((tt, d), tt, low_grows fs 1 2 (omega arith))
begin_class_deep (k.Mark m.OpenParen) s fs d = ((tt, d), tt, low_grows fs 1 2 (omega arith))
begin_class_deep (k.Mark m.DollarBracket) s fs d = ((tt, d), tt, low_grows fs 1 2 (omega arith))
begin_class_deep _ s fs d = tt

pub last_byte_deep : (x : Tok) (s : Span) (b : ByteLit) (fs : List Frame) → AreDeep fs → Deeps (low fs 1) (last_byte x s b fs)
last_byte_deep (k.Number v c n) s b fs d = class_done_deep fs (cls.Range b (Code (number_at v c n s)) (joined (byte_span b) s)) 1 d refl
last_byte_deep (k.Char c) s b fs d = class_done_deep fs (cls.Range b (Quoted c s) (joined (byte_span b) s)) 1 d refl
last_byte_deep _ s b fs d = tt

pub after_grouped_deep : (x : Tok) (s from : Span) (c : FoundClass) (fs : List Frame) → AreDeep fs → c.deep ≡ class_depth c.class
    → Deeps (low fs (1 + c.deep)) (after_grouped x s from c fs)
after_grouped_deep (k.Mark m.CloseParen) s from c fs d e = class_done_deep fs (cls.Grouped c.class (joined from s)) (1 + c.deep) d (omega arith)
after_grouped_deep (k.Mark m.Bar) s from c fs d e = ((e, (tt, d)), tt, low_grows fs (1 + c.deep) (1 + (1 + max c.deep 1)) (omega arith))
after_grouped_deep _ s from c fs d e = tt

pub after_class_set_deep : (x : Tok) (s from : Span) (c : FoundClass) (fs : List Frame) → AreDeep fs → c.deep ≡ class_depth c.class
    → Deeps (low fs (1 + c.deep)) (after_class_set x s from c fs)
after_class_set_deep (k.Mark m.CloseBracket) s from c fs d e = class_done_deep fs (cls.Set c.class (joined from s)) (1 + c.deep) d (omega arith)
after_class_set_deep (k.Mark m.Bar) s from c fs d e = ((e, (tt, d)), tt, low_grows fs (1 + c.deep) (1 + (1 + max c.deep 1)) (omega arith))
after_class_set_deep _ s from c fs d e = tt
