-- Each token of an import or a declaration keeps the depths, and makes no module shallower.
use Rattle.std.proofs.Common.{◌≡◌, ℕ, ◌+◌, ◌≤◌, max, List, [], ◌∷◌, Option, Some, refl, arith}
use Rattle.ddl_base.specs.declared.span.Span.{Span}
use Rattle.ddl_token.specs.declared.token.Base.{Base}
use Rattle.ddl_token.specs.declared.token.Base.TheVariants.{Decimal, Hexadecimal, Binary}
use Rattle.ddl_token.specs.declared.token.Tok.{Tok}
use Rattle.ddl_token.specs.declared.token.Tok.TheVariants as k
use Rattle.ddl_token.specs.declared.word.Word.TheVariants as w
use Rattle.ddl_token.specs.declared.mark.Mark.TheVariants as m
use Rattle.ddl_tree.specs.declared.name.Name.{Name}
use Rattle.ddl_tree.specs.declared.module.Import.{Import}
use Rattle.ddl_tree.specs.TypeTree as ty
use Rattle.ddl_tree.specs.ClassTree.{class_span}
use Rattle.ddl_tree.specs.ExprTree.{expr_span}
use Rattle.ddl_tree.specs.ModuleTree as mo
use Rattle.ddl_tree.specs.ModuleTree.{bits_span}
use Rattle.ddl_tree.specs.Depth.{type_depth, typed_depth, class_depth, param_depth, part_depth, bits_depth, cons_depth, decl_depth}
use Rattle.ddl_reader.specs.Frames.{Frame, State, Found, FoundType, FoundClass, Head, Sort, Layout, Parted, PartStart}
use Rattle.ddl_reader.specs.Frames as frame
use Rattle.ddl_reader.specs.StepType.{joined, number_at}
use Rattle.ddl_reader.specs.StepExpr.{name_at}
use Rattle.ddl_reader.specs.StepDecl.{with_decl, with_import, begin_decl, begin_import, import_name, decl_name, with_param, param_with, param_name}
use Rattle.ddl_reader.specs.StepDecl.{param_colon_with, typed_param, after_param_type, after_result, decl_of, close_body, class_equals_with, close_class_body}
use Rattle.ddl_reader.specs.StepDecl.{after_class_body, bits_name, after_bits_name_with, open_cons_with, con_name, con_equals_with, con_of, bits_done}
use Rattle.ddl_reader.specs.StepDecl.{after_con_with, bit_pattern, bits_with, with_part, part_with, part_colon_with, part_of, after_part_with}
use Rattle.ddl_reader.specs.Depths.{layout_deep, low, lowest}
use Rattle.ddl_reader.proofs.Fits.{wanted}
use Rattle.ddl_reader.proofs.Deep.{IsDeep, IsDeepHead, IsDeepLayout, IsDeepParted, AreDeep, Goes, Deeps, weaken, low_grows, params_deep, parts_deep, cons_deep}
use Rattle.ddl_reader.proofs.Deep.{decls_deep}

-- ---- the module

-- a declaration more, whose depth is n
pub record Declares (n : ℕ) (before after : List Frame) : Type 0 where
  pub frames : AreDeep after
  pub most : low before n ≤ low after 0
  pub least : low after 0 ≤ low before n

pub with_decl_deep : (d : mo.Decl) (n : ℕ) (fs : List Frame) → AreDeep fs → wanted fs ≡ 4 → n ≡ decl_depth d → Declares n fs (with_decl d n fs)
with_decl_deep d n [] h w e = absurd (omega arith)
with_decl_deep d n (frame.in_module a m ∷ fs) h w e =
    let g = h.0 in
    record {
      frames = (omega (arith, decls_deep a.decls d), h.1);
      most = low_grows fs (max m n) (max (max m n) 0) (omega arith);
      least = low_grows fs (max (max m n) 0) (max m n) (omega arith);
    }
with_decl_deep d n (_ ∷ fs) h w e = absurd (omega arith)

with_import_deep : (i : Import) (fs : List Frame) → AreDeep fs → Goes (low fs 0) (with_import i fs, frame.at_import)
with_import_deep i [] d = (d, tt, omega arith)
with_import_deep i (frame.in_module a m ∷ fs) d = ((d.0, d.1), tt, omega arith)
with_import_deep i (_ ∷ fs) d = (d, tt, omega arith)

pub import_least : (i : Import) (fs : List Frame) → low (with_import i fs) 0 ≤ low fs 0
import_least i [] = omega arith
import_least i (frame.in_module a m ∷ fs) = omega arith
import_least i (_ ∷ fs) = omega arith

pub begin_decl_deep : (x : Tok) (s : Span) (fs : List Frame) → AreDeep fs → Deeps (low fs 0) (begin_decl x s fs)
begin_decl_deep (k.Word w.Def) s fs d = (d, tt, low_grows fs 0 1 (omega arith))
begin_decl_deep (k.Word w.Bitdata) s fs d = (d, tt, omega arith)
begin_decl_deep _ s fs d = tt

pub begin_import_deep : (x : Tok) (s : Span) (fs : List Frame) → AreDeep fs → Deeps (low fs 0) (begin_import x s fs)
begin_import_deep (k.Word w.Import) s fs d = (d, tt, omega arith)
begin_import_deep x s fs d = begin_decl_deep x s fs d

pub import_name_deep : (x : Tok) (s from : Span) (fs : List Frame) → AreDeep fs → Deeps (low fs 0) (import_name x s from fs)
import_name_deep (k.Upper x) s from fs d = with_import_deep (record { name = name_at x s; span = joined from s }) fs d
import_name_deep _ s from fs d = tt

-- ---- def

pub decl_name_deep : (x : Tok) (s from : Span) (fs : List Frame) → AreDeep fs → Deeps (low fs 1) (decl_name x s from fs)
decl_name_deep (k.Upper x) s from fs d = (d, refl, omega arith)
decl_name_deep (k.Lower x) s from fs d = (d, refl, omega arith)
decl_name_deep (k.Class x) s from fs d = (d, tt, omega arith)
decl_name_deep _ s from fs d = tt

with_param_deep : (h : Head) (p : mo.Param) (n : ℕ) (fs : List Frame) → AreDeep fs → IsDeepHead h → n ≡ param_depth p
    → Goes (low fs (max h.deep n)) (fs, frame.want_param (with_param h p n))
with_param_deep h p n fs d i e = (d, omega (arith, params_deep h.params p), low_grows fs (max h.deep n) (max (max h.deep n) 1) (omega arith))

plain_param_deep : (h : Head) (p : mo.Param) (fs : List Frame) → AreDeep fs → IsDeepHead h → 0 ≡ param_depth p
    → Goes (low fs (max h.deep 1)) (fs, frame.want_param (with_param h p 0))
plain_param_deep h p fs d i e = (d, omega (arith, params_deep h.params p), low_grows fs (max h.deep 1) (max (max h.deep 0) 1) (omega arith))

pub param_deep : (x : Tok) (s : Span) (h : Head) (fs : List Frame) → AreDeep fs → IsDeepHead h → Deeps (low fs (max h.deep 1)) (param_with x s h fs)
param_deep (k.Upper x) s h fs d i = plain_param_deep h (mo.Upper (name_at x s)) fs d i refl
param_deep (k.Lower x) s h fs d i = plain_param_deep h (mo.Lower (name_at x s)) fs d i refl
param_deep (k.Class x) s h fs d i = plain_param_deep h (mo.Class (name_at x s)) fs d i refl
param_deep (k.Mark m.OpenParen) s h fs d i = (d, i, omega arith)
param_deep (k.Mark m.Colon) s h fs d i = ((i, d), tt, omega arith)
param_deep (k.Mark m.Equals) s h fs d i = (((i, refl), d), tt, omega arith)
param_deep _ s h fs d i = tt

pub param_name_deep : (x : Tok) (s : Span) (h : Head) (from : Span) (fs : List Frame) → AreDeep fs → IsDeepHead h
    → Deeps (low fs (max h.deep 1)) (param_name x s h from fs)
param_name_deep (k.Upper x) s h from fs d i = (d, i, omega arith)
param_name_deep (k.Lower x) s h from fs d i = (d, i, omega arith)
param_name_deep _ s h from fs d i = tt

pub param_colon_deep : (x : Tok) (h : Head) (from : Span) (o : Sort) (y : Name) (fs : List Frame) → AreDeep fs → IsDeepHead h
    → Deeps (low fs (max h.deep 1)) (param_colon_with x h from o y fs)
param_colon_deep (k.Mark m.Colon) h from o y fs d i = ((i, d), tt, omega arith)
param_colon_deep _ h from o y fs d i = tt

typed_param_deep : (o : Sort) (x : Name) (t : ty.TypeExpr) (s : Span) → param_depth (typed_param o x t s) ≡ type_depth t
typed_param_deep frame.of_grammar x t s = refl
typed_param_deep frame.of_value x t s = refl

pub after_param_type_deep : (x : Tok) (s : Span) (h : Head) (from : Span) (o : Sort) (y : Name) (t : FoundType) (fs : List Frame) → AreDeep fs → IsDeepHead h
    → t.deep ≡ type_depth t.type → Deeps (low fs (max h.deep t.deep)) (after_param_type x s h from o y t fs)
after_param_type_deep (k.Mark m.CloseParen) s h from o y t fs d i e =
    with_param_deep h (typed_param o y t.type (joined from s)) t.deep fs d i (omega (arith, typed_param_deep o y t.type (joined from s)))
after_param_type_deep _ s h from o y t fs d i e = tt

pub after_result_deep : (x : Tok) (h : Head) (t : FoundType) (fs : List Frame) → AreDeep fs → IsDeepHead h → t.deep ≡ type_depth t.type
    → Deeps (low fs (max h.deep t.deep)) (after_result x h t fs)
after_result_deep (k.Mark m.Equals) h t fs d i e = (((i, e), d), tt, low_grows fs (max h.deep t.deep) (max h.deep (max t.deep 1)) (omega arith))
after_result_deep _ h t fs d i e = tt

decl_of_deep : (h : Head) (t : Option ty.TypeExpr) (n : ℕ) (e : Found) (s : Span) → IsDeepHead h → n ≡ typed_depth t → IsDeep e
    → max h.deep (max n e.deep) ≡ decl_depth (decl_of h.sort h.name h.params t e s)
decl_of_deep h t n e s i j g =
    elim h.sort as (λ o. max h.deep (max n e.deep) ≡ decl_depth (decl_of o h.name h.params t e s)) [
      | frame.of_grammar ↦ omega arith
      | frame.of_value ↦ omega arith
    ]

pub close_body_deep : (h : Head) (t : Option ty.TypeExpr) (n : ℕ) (e : Found) (fs : List Frame) → AreDeep fs → wanted fs ≡ 4 → IsDeepHead h → n ≡ typed_depth t
    → IsDeep e → Declares (max h.deep (max n e.deep)) fs (close_body h t n e fs)
close_body_deep h t n e fs d w i j g =
    let s = joined h.from (expr_span e.expr) in
    with_decl_deep (decl_of h.sort h.name h.params t e s) (max h.deep (max n e.deep)) fs d w (decl_of_deep h t n e s i j g)

pub after_body_deep : (x : Tok) (s : Span) (h : Head) (t : Option ty.TypeExpr) (n : ℕ) (e : Found) (fs : List Frame) → AreDeep fs → wanted fs ≡ 4 → IsDeepHead h
    → n ≡ typed_depth t → IsDeep e → Deeps (low fs (max h.deep (max n e.deep))) (begin_decl x s (close_body h t n e fs))
after_body_deep x s h t n e fs d w i j g =
    let c = close_body_deep h t n e fs d w i j g in
    let gs = close_body h t n e fs in
    weaken (low fs (max h.deep (max n e.deep))) (low gs 0) (begin_decl x s gs) c.most (begin_decl_deep x s gs c.frames)

pub class_equals_deep : (x : Tok) (from : Span) (y : Name) (fs : List Frame) → AreDeep fs → Deeps (low fs 1) (class_equals_with x from y fs)
class_equals_deep (k.Mark m.Equals) from y fs d = ((tt, d), tt, omega arith)
class_equals_deep _ from y fs d = tt

pub class_body_deep : (from : Span) (y : Name) (c : FoundClass) (fs : List Frame) → AreDeep fs → wanted fs ≡ 4 → c.deep ≡ class_depth c.class
    → Declares c.deep fs (close_class_body from y c fs)
class_body_deep from y c fs d w i = with_decl_deep (mo.ClassDef y c.class (joined from (class_span c.class))) c.deep fs d w i

class_ends : (x : Tok) (s from : Span) (y : Name) (c : FoundClass) (fs : List Frame) → AreDeep fs → wanted fs ≡ 4 → c.deep ≡ class_depth c.class
    → Deeps (low fs c.deep) (begin_decl x s (close_class_body from y c fs))
class_ends x s from y c fs d w i =
    let e = class_body_deep from y c fs d w i in
    let gs = close_class_body from y c fs in
    weaken (low fs c.deep) (low gs 0) (begin_decl x s gs) e.most (begin_decl_deep x s gs e.frames)

pub after_class_body_deep : (x : Tok) (s from : Span) (y : Name) (c : FoundClass) (fs : List Frame) → AreDeep fs → wanted fs ≡ 4 → c.deep ≡ class_depth c.class
    → Deeps (low fs c.deep) (after_class_body x s from y c fs)
after_class_body_deep (k.Mark m.Bar) s from y c fs d w i = ((i, (tt, d)), tt, low_grows fs c.deep (1 + max c.deep 1) (omega arith))
after_class_body_deep x s from y c fs d w i = class_ends x s from y c fs d w i

-- ---- bitdata

pub bits_name_deep : (x : Tok) (s from : Span) (fs : List Frame) → AreDeep fs → Deeps (low fs 0) (bits_name x s from fs)
bits_name_deep (k.Upper x) s from fs d = (d, tt, omega arith)
bits_name_deep _ s from fs d = tt

pub after_bits_name_deep : (x : Tok) (from : Span) (y : Name) (fs : List Frame) → AreDeep fs → Deeps (low fs 0) (after_bits_name_with x from y fs)
after_bits_name_deep (k.Mark m.Equals) from y fs d = (d, tt, omega arith)
after_bits_name_deep (k.Word w.Where) from y fs d = (d, tt, omega arith)
after_bits_name_deep _ from y fs d = tt

pub open_cons_deep : (x : Tok) (from : Span) (y : Name) (fs : List Frame) → AreDeep fs → Deeps (low fs 0) (open_cons_with x from y fs)
open_cons_deep (k.Mark m.OpenBrace) from y fs d = (d, refl, omega arith)
open_cons_deep _ from y fs d = tt

pub con_name_deep : (x : Tok) (s from : Span) (y : Name) (cs : List mo.Con) (n : ℕ) (fs : List Frame) → AreDeep fs → n ≡ cons_depth cs
    → Deeps (low fs n) (con_name x s from y cs n fs)
con_name_deep (k.Lower z) s from y cs n fs d h = (d, h, omega arith)
con_name_deep _ s from y cs n fs d h = tt

pub con_equals_deep : (x : Tok) (from : Span) (y : Name) (cs : List mo.Con) (n : ℕ) (z : Name) (fs : List Frame) → AreDeep fs → n ≡ cons_depth cs
    → Deeps (low fs n) (con_equals_with x from y cs n z fs)
con_equals_deep (k.Mark m.Equals) from y cs n z fs d h = (d, h, omega arith)
con_equals_deep _ from y cs n z fs d h = tt

pub bits_done_deep : (l : Layout) (b : mo.Bits) (n : ℕ) (fs : List Frame) → AreDeep fs → wanted fs ≡ 4 → IsDeepLayout l → n ≡ bits_depth b
    → Goes (low fs (max (layout_deep l) n)) (bits_done l b n fs)
bits_done_deep (frame.of_decl from y) b n fs d w i e =
    let c = with_decl_deep (mo.BitsDef y b (joined from (bits_span b))) n fs d w e in
    let most = c.most in
    let same = low_grows fs (max 0 n) n (omega arith) in
    (c.frames, tt, omega arith)
bits_done_deep (frame.of_con from y cs z a) b n fs d w i e = (d, omega (arith, cons_deep cs (con_of z b)), omega arith)

-- and no deeper
pub bits_done_least : (l : Layout) (b : mo.Bits) (n : ℕ) (fs : List Frame) → AreDeep fs → wanted fs ≡ 4 → n ≡ bits_depth b
    → lowest (bits_done l b n fs) ≤ low fs (max (layout_deep l) n)
bits_done_least (frame.of_decl from y) b n fs d w e =
    let c = with_decl_deep (mo.BitsDef y b (joined from (bits_span b))) n fs d w e in
    let least = c.least in
    let same = low_grows fs n (max 0 n) (omega arith) in
    omega arith
bits_done_least (frame.of_con from y cs z a) b n fs d w e = omega arith

pub after_con_deep : (x : Tok) (s from : Span) (y : Name) (cs : List mo.Con) (n : ℕ) (fs : List Frame) → AreDeep fs → wanted fs ≡ 4 → n ≡ cons_depth cs
    → Deeps (low fs n) (after_con_with x s from y cs n fs)
after_con_deep (k.Mark m.Semicolon) s from y cs n fs d w h = (d, h, omega arith)
after_con_deep (k.Mark m.CloseBrace) s from y cs n fs d w h = let c = with_decl_deep (mo.BitsUnion y cs (joined from s)) n fs d w h in (c.frames, tt, c.most)
after_con_deep _ s from y cs n fs d w h = tt

bit_pattern_deep : (n : ℕ) (b : Base) (z : State) → Goes n z → Deeps n (bit_pattern b (Some z))
bit_pattern_deep n Decimal z d = tt
bit_pattern_deep n Hexadecimal z d = d
bit_pattern_deep n Binary z d = d

pub bits_deep : (x : Tok) (s : Span) (l : Layout) (fs : List Frame) → AreDeep fs → wanted fs ≡ 4 → IsDeepLayout l
    → Deeps (low fs (layout_deep l)) (bits_with x s l fs)
bits_deep (k.Number v b n) s l fs d w i =
    let z = bits_done l (mo.Exactly (number_at v b n s)) 0 fs in
    let g = bits_done_deep l (mo.Exactly (number_at v b n s)) 0 fs d w i refl in
    let most = g.2 in
    let same = low_grows fs (layout_deep l) (max (layout_deep l) 0) (omega arith) in
    bit_pattern_deep (low fs (layout_deep l)) b z (g.0, g.1, omega arith)
bits_deep (k.Mark m.OpenBrace) s l fs d w i = (d, (i, refl), low_grows fs (layout_deep l) (max (layout_deep l) 0) (omega arith))
bits_deep _ s l fs d w i = tt

-- a part that has been read whole
with_part_deep : (p : Parted) (a : mo.Part) (n : ℕ) (fs : List Frame) → AreDeep fs → IsDeepParted p → n ≡ part_depth a
    → Goes (low fs (max (layout_deep p.layout) (max p.deep n))) (fs, frame.after_part (with_part p a n))
with_part_deep p a n fs d i e = let h = i.1 in (d, (i.0, omega (arith, parts_deep p.parts a)), omega arith)

pub part_deep : (x : Tok) (s : Span) (p : Parted) (fs : List Frame) → AreDeep fs → IsDeepParted p
    → Deeps (low fs (max (layout_deep p.layout) p.deep)) (part_with x s p fs)
part_deep (k.Number v b n) s p fs d i =
    let g = with_part_deep p (mo.Fixed (number_at v b n s)) 0 fs d i refl in
    let same = low_grows fs (max (layout_deep p.layout) p.deep) (max (layout_deep p.layout) (max p.deep 0)) (omega arith) in
    bit_pattern_deep (low fs (max (layout_deep p.layout) p.deep)) b (fs, frame.after_part (with_part p (mo.Fixed (number_at v b n s)) 0)) (g.0, g.1, same)
part_deep (k.Lower x) s p fs d i = (d, i, low_grows fs (max (layout_deep p.layout) p.deep) (max (layout_deep p.layout) (max p.deep 1)) (omega arith))
part_deep (k.Mark m.Underscore) s p fs d i = (d, i, low_grows fs (max (layout_deep p.layout) p.deep) (max (layout_deep p.layout) (max p.deep 1)) (omega arith))
part_deep _ s p fs d i = tt

pub part_colon_deep : (x : Tok) (p : Parted) (o : PartStart) (fs : List Frame) → AreDeep fs → IsDeepParted p
    → Deeps (low fs (max (layout_deep p.layout) (max p.deep 1))) (part_colon_with x p o fs)
part_colon_deep (k.Mark m.Colon) p o fs d i = ((i, d), tt, omega arith)
part_colon_deep _ p o fs d i = tt

pub after_part_deep : (x : Tok) (s : Span) (p : Parted) (fs : List Frame) → AreDeep fs → wanted fs ≡ 4 → IsDeepParted p
    → Deeps (low fs (max (layout_deep p.layout) p.deep)) (after_part_with x s p fs)
after_part_deep (k.Mark m.Comma) s p fs d w i = (d, i, omega arith)
after_part_deep (k.Mark m.CloseBrace) s p fs d w i = bits_done_deep p.layout (mo.Parts p.parts (joined p.from s)) p.deep fs d w i.0 i.1
after_part_deep _ s p fs d w i = tt

part_of_deep : (o : PartStart) (t : ty.TypeExpr) → part_depth (part_of o t) ≡ type_depth t
part_of_deep (frame.named x) t = refl
part_of_deep (frame.unnamed s) t = refl

-- a type ends its part
pub typed_part_deep : (p : Parted) (o : PartStart) (t : FoundType) (fs : List Frame) → AreDeep fs → IsDeepParted p → t.deep ≡ type_depth t.type
    → Goes (low fs (max (layout_deep p.layout) (max p.deep t.deep))) (fs, frame.after_part (with_part p (part_of o t.type) t.deep))
typed_part_deep p o t fs d i e = with_part_deep p (part_of o t.type) t.deep fs d i (omega (arith, part_of_deep o t.type))

pub after_typed_part_deep : (x : Tok) (s : Span) (p : Parted) (o : PartStart) (t : FoundType) (fs : List Frame) → AreDeep fs → wanted fs ≡ 4 → IsDeepParted p
    → t.deep ≡ type_depth t.type → Deeps (low fs (max (layout_deep p.layout) (max p.deep t.deep)))
    (after_part_with x s (with_part p (part_of o t.type) t.deep) fs)
after_typed_part_deep x s p o t fs d w i e =
    let q = with_part p (part_of o t.type) t.deep in
    let g = typed_part_deep p o t fs d i e in
    after_part_deep x s q fs d w g.1
