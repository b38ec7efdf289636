-- Each token of a declaration leads to a state that has read it.
use Rattle.std.proofs.Common.{◌≡◌, ◌≢◌, ℕ, ◌≤◌, max, List, [], ◌∷◌, ◌++◌, Option, Some, refl, sym, ap, ◌∙◌, arith}
use Rattle.ddl_base.specs.declared.span.Span.{Span}
use Rattle.ddl_token.specs.declared.token.Base.{Base}
use Rattle.ddl_token.specs.declared.token.Base.TheVariants.{Decimal, Hexadecimal, Binary}
use Rattle.ddl_token.specs.declared.token.Tok.{Tok}
use Rattle.ddl_token.specs.declared.token.Tok.TheVariants as k
use Rattle.ddl_token.specs.declared.word.Word.TheVariants as w
use Rattle.ddl_token.specs.declared.mark.Mark.TheVariants as m
use Rattle.ddl_tree.specs.declared.name.Name.{Name}
use Rattle.ddl_tree.specs.declared.module.Import.{Import}
use Rattle.ddl_tree.specs.TypeTree as ty
use Rattle.ddl_tree.specs.TypeTree.{type_span}
use Rattle.ddl_tree.specs.ClassTree.{class_span}
use Rattle.ddl_tree.specs.ExprTree.{expr_span}
use Rattle.ddl_tree.specs.ModuleTree as mo
use Rattle.ddl_tree.specs.ModuleTree.{bits_span}
use Rattle.ddl_tree.specs.Print.{print_type, print_typed, print_class, print}
use Rattle.ddl_tree.specs.PrintModule.{print_param, print_params, print_part, print_parts, print_more_parts, print_bits, print_con, print_cons, print_more_cons}
use Rattle.ddl_tree.specs.PrintModule.{print_decl, print_decls, print_imports}
use Rattle.ddl_tree.specs.Grammar.{IsClass, IsExpr}
use Rattle.ddl_tree.specs.GrammarModule.{IsPart, AreParts, IsBits, AreCons, IsDecl, AreDecls}
use Rattle.ddl_reader.specs.Frames.{Frame, Focus, State, Found, FoundType, FoundClass, Head, Sort, Layout, Parted, PartStart, Repeat, Start, Loop, Cases}
use Rattle.ddl_reader.specs.Frames as frame
use Rattle.ddl_reader.specs.StepType.{joined}
use Rattle.ddl_reader.specs.StepExpr.{least}
use Rattle.ddl_reader.specs.StepExpr.{name_at}
use Rattle.ddl_reader.specs.StepType.{number_at}
use Rattle.ddl_reader.specs.StepDecl.{with_decl, with_import, begin_decl, begin_import, import_name, decl_name, with_param, param_with, param_name}
use Rattle.ddl_reader.specs.StepDecl.{param_colon_with, typed_param, after_param_type, after_result, decl_of, close_body, class_equals_with, close_class_body}
use Rattle.ddl_reader.specs.StepDecl.{after_class_body, bits_name, after_bits_name_with, open_cons_with, con_name, con_equals_with, con_of, bits_done}
use Rattle.ddl_reader.specs.StepDecl.{after_con_with, bit_pattern, bits_with, with_part, part_with, part_colon_with, part_of, after_part_with}
use Rattle.ddl_reader.proofs.Before.{before, read, sorted_name, head_tokens, layout_tokens, part_start_tokens, part_start_begun, each_part, each_con}
use Rattle.ddl_reader.proofs.Fits.{IsLayout, IsParted, NoDecls, wanted, AreFrames, IsFocus, Reads, Steps, shift, least_small}

small : (fs : List Frame) → least fs ≤ 18
small fs = let h = least_small fs in omega arith

-- ---- the module

decls_each : (ds : List mo.Decl) (d : mo.Decl) (r : List Tok) → print_decls (ds ++ d ∷ []) r ≡ print_decls ds (print_decl d r)
decls_each [] d r = refl
decls_each (e ∷ ds) d r = ap (print_decl e) (decls_each ds d r)

decls_more : (ds : List mo.Decl) (d : mo.Decl) → AreDecls ds → IsDecl d → AreDecls (ds ++ d ∷ [])
decls_more [] d h i = (i, tt)
decls_more (e ∷ ds) d h i = (h.0, decls_more ds d h.1 i)

imports_each : (is : List Import) (i : Import) (r : List Tok) → print_imports (is ++ i ∷ []) r ≡ print_imports is (k.Word w.Import ∷ k.Upper i.name.text ∷ r)
imports_each [] i r = refl
imports_each (j ∷ is) i r = ap (λ z. k.Word w.Import ∷ k.Upper j.name.text ∷ z) (imports_each is i r)

-- the declaration is read, and another may come
pub with_decl_fine : (d : mo.Decl) (n : ℕ) (fs : List Frame) → AreFrames fs → wanted fs ≡ 4 → IsDecl d
    → Reads fs (print_decl d) (with_decl d n fs, frame.at_decl)
with_decl_fine d n [] h w i = absurd (omega arith)
with_decl_fine d n (frame.in_module a m ∷ fs) h w i = (
  (λ r. ap (λ z. read fs (print_imports a.imports z)) (decls_each a.decls d r)),
  (decls_more a.decls d h.0 i, h.1, h.2, tt, h.4),
  refl,
)
with_decl_fine d n (_ ∷ fs) h w i = absurd (omega arith)

with_import_fine : (i : Import) (fs : List Frame) → AreFrames fs → wanted fs ≡ 4 → NoDecls fs
    → Reads fs (λ r. k.Word w.Import ∷ k.Upper i.name.text ∷ r) (with_import i fs, frame.at_import)
with_import_fine i [] h g n = absurd (omega arith)
with_import_fine i (frame.in_module a m ∷ fs) h g n = (
  (λ r.
      ap (λ ds. read fs (print_imports (a.imports ++ i ∷ []) (print_decls ds r))) n
      ∙ ap (read fs) (imports_each a.imports i r)
      ∙ ap (λ ds. read fs (print_imports a.imports (print_decls ds (k.Word w.Import ∷ k.Upper i.name.text ∷ r)))) (sym n)),
  (h.0, h.1, h.2, tt, h.4),
  (refl, n),
)
with_import_fine i (_ ∷ fs) h g n = absurd (omega arith)

pub begin_decl_fine : (x : Tok) (s : Span) (fs : List Frame) → AreFrames fs → wanted fs ≡ 4 → Steps fs frame.at_decl x (begin_decl x s fs)
begin_decl_fine (k.Word w.Def) s fs h w = ((λ r. refl), h, w)
begin_decl_fine (k.Word w.Bitdata) s fs h w = ((λ r. refl), h, w)
begin_decl_fine _ s fs h w = tt

decl_of_import : (x : Tok) (fs : List Frame) (o : Option State) → Steps fs frame.at_decl x o → Steps fs frame.at_import x o
decl_of_import x fs o h = shift fs fs frame.at_decl frame.at_import x o (λ r. refl) h

pub begin_import_fine : (x : Tok) (s : Span) (fs : List Frame) → AreFrames fs → IsFocus fs frame.at_import → Steps fs frame.at_import x (begin_import x s fs)
begin_import_fine (k.Word w.Import) s fs h i = ((λ r. refl), h, i)
begin_import_fine x s fs h i = decl_of_import x fs (begin_decl x s fs) (begin_decl_fine x s fs h i.0)

pub import_name_fine : (x : Tok) (s from : Span) (fs : List Frame) → AreFrames fs → IsFocus fs (frame.want_import from)
    → Steps fs (frame.want_import from) x (import_name x s from fs)
import_name_fine (k.Upper x) s from fs h i = with_import_fine (record { name = name_at x s; span = joined from s }) fs h i.0 i.1
import_name_fine _ s from fs h i = tt

-- ---- def

pub decl_name_fine : (x : Tok) (s from : Span) (fs : List Frame) → AreFrames fs → wanted fs ≡ 4 → Steps fs (frame.want_name from) x (decl_name x s from fs)
decl_name_fine (k.Upper x) s from fs h w = ((λ r. refl), h, w)
decl_name_fine (k.Lower x) s from fs h w = ((λ r. refl), h, w)
decl_name_fine (k.Class x) s from fs h w = ((λ r. refl), h, w)
decl_name_fine _ s from fs h w = tt

params_each : (ps : List mo.Param) (a : mo.Param) (r : List Tok) → print_params (ps ++ a ∷ []) r ≡ print_params ps (print_param a r)
params_each [] a r = refl
params_each (b ∷ ps) a r = ap (print_param b) (params_each ps a r)

head_more : (h : Head) (a : mo.Param) (n : ℕ) (r : List Tok) → head_tokens (with_param h a n) r ≡ head_tokens h (print_param a r)
head_more h a n r = ap (λ z. k.Word w.Def ∷ sorted_name h.sort h.name ∷ z) (params_each h.params a r)

pub param_fine : (x : Tok) (s : Span) (d : Head) (fs : List Frame) → AreFrames fs → wanted fs ≡ 4 → Steps fs (frame.want_param d) x (param_with x s d fs)
param_fine (k.Upper x) s d fs h w = ((λ r. ap (read fs) (head_more d (mo.Upper (name_at x s)) 0 r)), h, w)
param_fine (k.Lower x) s d fs h w = ((λ r. ap (read fs) (head_more d (mo.Lower (name_at x s)) 0 r)), h, w)
param_fine (k.Class x) s d fs h w = ((λ r. ap (read fs) (head_more d (mo.Class (name_at x s)) 0 r)), h, w)
param_fine (k.Mark m.OpenParen) s d fs h w = ((λ r. refl), h, w)
param_fine (k.Mark m.Colon) s d fs h w = ((λ r. refl), (tt, w, small fs, tt, h), refl)
param_fine (k.Mark m.Equals) s d fs h w = ((λ r. refl), (tt, w, small fs, tt, h), refl)
param_fine _ s d fs h w = tt

pub param_name_fine : (x : Tok) (s : Span) (d : Head) (from : Span) (fs : List Frame) → AreFrames fs → wanted fs ≡ 4
    → Steps fs (frame.open_param d from) x (param_name x s d from fs)
param_name_fine (k.Upper x) s d from fs h w = ((λ r. refl), h, w)
param_name_fine (k.Lower x) s d from fs h w = ((λ r. refl), h, w)
param_name_fine _ s d from fs h w = tt

pub param_colon_fine : (x : Tok) (d : Head) (from : Span) (o : Sort) (y : Name) (fs : List Frame) → AreFrames fs → wanted fs ≡ 4
    → Steps fs (frame.param_colon d from o y) x (param_colon_with x d from o y fs)
param_colon_fine (k.Mark m.Colon) d from o y fs h w = ((λ r. refl), (tt, w, small fs, tt, h), refl)
param_colon_fine _ d from o y fs h w = tt

typed_tokens : (o : Sort) (y : Name) (t : ty.TypeExpr) (s : Span) (r : List Tok)
    → print_param (typed_param o y t s) r ≡ k.Mark m.OpenParen ∷ sorted_name o y ∷ k.Mark m.Colon ∷ print_type t (k.Mark m.CloseParen ∷ r)
typed_tokens frame.of_grammar y t s r = refl
typed_tokens frame.of_value y t s r = refl

pub after_param_type_fine : (x : Tok) (s : Span) (d : Head) (from : Span) (o : Sort) (y : Name) (t : FoundType) (fs : List Frame) → AreFrames fs → wanted fs ≡ 4
    → Steps (frame.in_param d from o y ∷ fs) (frame.have_type t) x (after_param_type x s d from o y t fs)
after_param_type_fine (k.Mark m.CloseParen) s d from o y t fs h w =
    ((λ r. ap (read fs) (head_more d (typed_param o y t.type (joined from s)) t.deep r ∙ ap (head_tokens d) (typed_tokens o y t.type (joined from s) r))), h, w)
after_param_type_fine _ s d from o y t fs h w = tt

pub after_result_fine : (x : Tok) (d : Head) (t : FoundType) (fs : List Frame) → AreFrames fs → wanted fs ≡ 4
    → Steps (frame.in_result d ∷ fs) (frame.have_type t) x (after_result x d t fs)
after_result_fine (k.Mark m.Equals) d t fs h w = ((λ r. refl), (tt, w, small fs, tt, h), refl)
after_result_fine _ d t fs h w = tt

decl_tokens : (o : Sort) (y : Name) (ps : List mo.Param) (t : Option ty.TypeExpr) (a : Found) (s : Span) (r : List Tok)
    → print_decl (decl_of o y ps t a s) r ≡ k.Word w.Def ∷ sorted_name o y ∷ print_params ps (print_typed t (k.Mark m.Equals ∷ print a.expr r))
decl_tokens frame.of_grammar y ps t a s r = refl
decl_tokens frame.of_value y ps t a s r = refl

decl_is : (o : Sort) (y : Name) (ps : List mo.Param) (t : Option ty.TypeExpr) (a : Found) (s : Span) → IsExpr a.expr → IsDecl (decl_of o y ps t a s)
decl_is frame.of_grammar y ps t a s i = i
decl_is frame.of_value y ps t a s i = i

-- a body ends its declaration
pub close_body_fine : (d : Head) (t : Option ty.TypeExpr) (n : ℕ) (a : Found) (fs : List Frame) → AreFrames fs → wanted fs ≡ 4 → IsExpr a.expr
    → Reads fs (λ r. before (frame.in_body d t n) (print a.expr r)) (close_body d t n a fs, frame.at_decl)
close_body_fine d t n a fs h w i =
    let e = decl_of d.sort d.name d.params t a (joined d.from (expr_span a.expr)) in
    let g = with_decl_fine e (max d.deep (max n a.deep)) fs h w (decl_is d.sort d.name d.params t a (joined d.from (expr_span a.expr)) i) in
    ((λ r. g.0 r ∙ ap (read fs) (decl_tokens d.sort d.name d.params t a (joined d.from (expr_span a.expr)) r)), g.1, g.2)

pub after_body_fine : (x : Tok) (s : Span) (d : Head) (t : Option ty.TypeExpr) (n : ℕ) (a : Found) (fs : List Frame) → AreFrames fs → wanted fs ≡ 4
    → IsExpr a.expr → Steps (frame.in_body d t n ∷ fs) (frame.have a) x (begin_decl x s (close_body d t n a fs))
after_body_fine x s d t n a fs h w i =
    let g = close_body_fine d t n a fs h w i in
    shift (close_body d t n a fs) (frame.in_body d t n ∷ fs) frame.at_decl (frame.have a) x (begin_decl x s (close_body d t n a fs)) (λ r.
    g.0 (x ∷ r)) (begin_decl_fine x s (close_body d t n a fs) g.1 g.2)

pub class_equals_fine : (x : Tok) (from : Span) (y : Name) (fs : List Frame) → AreFrames fs → wanted fs ≡ 4
    → Steps fs (frame.class_equals from y) x (class_equals_with x from y fs)
class_equals_fine (k.Mark m.Equals) from y fs h w = ((λ r. refl), (tt, w, small fs, tt, h), refl)
class_equals_fine _ from y fs h w = tt

pub class_body_fine : (from : Span) (y : Name) (c : FoundClass) (fs : List Frame) → AreFrames fs → wanted fs ≡ 4 → IsClass c.class
    → Reads fs (λ r. before (frame.in_class_body from y) (print_class c.class r)) (close_class_body from y c fs, frame.at_decl)
class_body_fine from y c fs h w i = with_decl_fine (mo.ClassDef y c.class (joined from (class_span c.class))) c.deep fs h w i

after_class_fine : (x : Tok) (s from : Span) (y : Name) (c : FoundClass) (fs : List Frame) → AreFrames fs → wanted fs ≡ 4 → IsClass c.class
    → Steps (frame.in_class_body from y ∷ fs) (frame.have_class c) x (begin_decl x s (close_class_body from y c fs))
after_class_fine x s from y c fs h w i =
    let g = class_body_fine from y c fs h w i in
    shift (close_class_body from y c fs) (frame.in_class_body from y ∷ fs) frame.at_decl (frame.have_class c) x (begin_decl x s (close_class_body from y c fs))
    (λ r. g.0 (x ∷ r)) (begin_decl_fine x s (close_class_body from y c fs) g.1 g.2)

pub after_class_body_fine : (x : Tok) (s from : Span) (y : Name) (c : FoundClass) (fs : List Frame) → AreFrames (frame.in_class_body from y ∷ fs)
    → IsClass c.class → Steps (frame.in_class_body from y ∷ fs) (frame.have_class c) x (after_class_body x s from y c fs)
after_class_body_fine (k.Mark m.Bar) s from y c fs h i = ((λ r. refl), (i, refl, omega arith, tt, h), refl)
after_class_body_fine x s from y c fs h i = after_class_fine x s from y c fs h.4 h.1 i

-- ---- bitdata

pub bits_name_fine : (x : Tok) (s from : Span) (fs : List Frame) → AreFrames fs → wanted fs ≡ 4 → Steps fs (frame.want_bits_name from) x (bits_name x s from fs)
bits_name_fine (k.Upper x) s from fs h w = ((λ r. refl), h, w)
bits_name_fine _ s from fs h w = tt

pub after_bits_name_fine : (x : Tok) (from : Span) (y : Name) (fs : List Frame) → AreFrames fs → wanted fs ≡ 4
    → Steps fs (frame.after_bits_name from y) x (after_bits_name_with x from y fs)
after_bits_name_fine (k.Mark m.Equals) from y fs h w = ((λ r. refl), h, (tt, w))
after_bits_name_fine (k.Word w.Where) from y fs h w = ((λ r. refl), h, w)
after_bits_name_fine _ from y fs h w = tt

pub open_cons_fine : (x : Tok) (from : Span) (y : Name) (fs : List Frame) → AreFrames fs → wanted fs ≡ 4
    → Steps fs (frame.open_cons from y) x (open_cons_with x from y fs)
open_cons_fine (k.Mark m.OpenBrace) from y fs h w = ((λ r. refl), h, (tt, w))
open_cons_fine _ from y fs h w = tt

pub con_name_fine : (x : Tok) (s from : Span) (y : Name) (cs : List mo.Con) (n : ℕ) (fs : List Frame) → AreFrames fs → IsFocus fs (frame.want_con from y cs n)
    → Steps fs (frame.want_con from y cs n) x (con_name x s from y cs n fs)
con_name_fine (k.Lower z) s from y cs n fs h i = ((λ r. refl), h, i)
con_name_fine _ s from y cs n fs h i = tt

pub con_equals_fine : (x : Tok) (from : Span) (y : Name) (cs : List mo.Con) (n : ℕ) (z : Name) (fs : List Frame) → AreFrames fs
    → IsFocus fs (frame.con_equals from y cs n z) → Steps fs (frame.con_equals from y cs n z) x (con_equals_with x from y cs n z fs)
con_equals_fine (k.Mark m.Equals) from y cs n z fs h i = ((λ r. refl), h, i)
con_equals_fine _ from y cs n z fs h i = tt

more_cons : (cs : List mo.Con) (c : mo.Con) (r : List Tok) → print_more_cons (cs ++ c ∷ []) r ≡ k.Mark m.Semicolon ∷ each_con cs (print_con c r)
more_cons [] c r = refl
more_cons (d ∷ cs) c r = ap (λ z. k.Mark m.Semicolon ∷ print_con d z) (more_cons cs c r)

row_cons : (cs : List mo.Con) (c : mo.Con) (r : List Tok) → print_cons (cs ++ c ∷ []) r ≡ each_con cs (print_con c r)
row_cons [] c r = refl
row_cons (d ∷ cs) c r = ap (print_con d) (more_cons cs c r)

-- constructors, and a mark after the last
cons_then : (cs : List mo.Con) (r : List Tok) → cs ≢ [] → each_con cs r ≡ print_cons cs (k.Mark m.Semicolon ∷ r)
cons_then [] r h = absurd (h refl)
cons_then (c ∷ []) r h = refl
cons_then (c ∷ d ∷ cs) r h = ap (λ z. print_con c (k.Mark m.Semicolon ∷ z)) (cons_then (d ∷ cs) r (λ e. cc))

cons_more : (cs : List mo.Con) (c : mo.Con) → AreCons cs → IsBits c.bits → AreCons (cs ++ c ∷ [])
cons_more [] c h i = (i, tt)
cons_more (d ∷ cs) c h i = (h.0, cons_more cs c h.1 i)

cons_some : (cs : List mo.Con) (c : mo.Con) → cs ++ c ∷ [] ≢ []
cons_some [] c = λ e. cc
cons_some (d ∷ cs) c = λ e. cc

pub bits_done_fine : (l : Layout) (b : mo.Bits) (n : ℕ) (fs : List Frame) → AreFrames fs → wanted fs ≡ 4 → IsLayout l → IsBits b
    → Reads fs (λ r. layout_tokens l (print_bits b r)) (bits_done l b n fs)
bits_done_fine (frame.of_decl from y) b n fs h g j i = with_decl_fine (mo.BitsDef y b (joined from (bits_span b))) n fs h g i
bits_done_fine (frame.of_con from y cs z d) b n fs h g j i = (
  (λ r. ap (λ t. read fs (k.Word w.Bitdata ∷ k.Upper y.text ∷ k.Word w.Where ∷ k.Mark m.OpenBrace ∷ t)) (row_cons cs (con_of z b) r)),
  h,
  ((cons_more cs (con_of z b) j i, cons_some cs (con_of z b)), g),
)

pub after_con_fine : (x : Tok) (s from : Span) (y : Name) (cs : List mo.Con) (n : ℕ) (fs : List Frame) → AreFrames fs → IsFocus fs (frame.after_con from y cs n)
    → Steps fs (frame.after_con from y cs n) x (after_con_with x s from y cs n fs)
after_con_fine (k.Mark m.Semicolon) s from y cs n fs h i =
    ((λ r. ap (λ t. read fs (k.Word w.Bitdata ∷ k.Upper y.text ∷ k.Word w.Where ∷ k.Mark m.OpenBrace ∷ t)) (cons_then cs r i.0.1)), h, (i.0.0, i.1))
after_con_fine (k.Mark m.CloseBrace) s from y cs n fs h i = with_decl_fine (mo.BitsUnion y cs (joined from s)) n fs h i.1 (i.0.1, i.0.0)
after_con_fine _ s from y cs n fs h i = tt

-- a number in base 2 or 16
bit_pattern_fine : (fs : List Frame) (f : Focus) (x : Tok) (b : Base) (z : State) → (b ≢ Decimal → Steps fs f x (Some z))
    → Steps fs f x (bit_pattern b (Some z))
bit_pattern_fine fs f x Decimal z h = tt
bit_pattern_fine fs f x Hexadecimal z h = h (λ e. cc)
bit_pattern_fine fs f x Binary z h = h (λ e. cc)

pub bits_fine : (x : Tok) (s : Span) (l : Layout) (fs : List Frame) → AreFrames fs → IsFocus fs (frame.want_bits l)
    → Steps fs (frame.want_bits l) x (bits_with x s l fs)
bits_fine (k.Number v b d) s l fs h i = bit_pattern_fine fs (frame.want_bits l) (k.Number v b d) b (bits_done l (mo.Exactly (number_at v b d s)) 0 fs) (λ e.
    bits_done_fine l (mo.Exactly (number_at v b d s)) 0 fs h i.1 i.0 e)
bits_fine (k.Mark m.OpenBrace) s l fs h i = ((λ r. refl), h, ((i.0, tt), i.1))
bits_fine _ s l fs h i = tt

more_parts : (ps : List mo.Part) (a : mo.Part) (r : List Tok) → print_more_parts (ps ++ a ∷ []) r ≡ k.Mark m.Comma ∷ each_part ps (print_part a r)
more_parts [] a r = refl
more_parts (b ∷ ps) a r = ap (λ z. k.Mark m.Comma ∷ print_part b z) (more_parts ps a r)

row_parts : (ps : List mo.Part) (a : mo.Part) (r : List Tok) → print_parts (ps ++ a ∷ []) r ≡ each_part ps (print_part a r)
row_parts [] a r = refl
row_parts (b ∷ ps) a r = ap (print_part b) (more_parts ps a r)

parts_then : (ps : List mo.Part) (r : List Tok) → ps ≢ [] → each_part ps r ≡ print_parts ps (k.Mark m.Comma ∷ r)
parts_then [] r h = absurd (h refl)
parts_then (a ∷ []) r h = refl
parts_then (a ∷ b ∷ ps) r h = ap (λ z. print_part a (k.Mark m.Comma ∷ z)) (parts_then (b ∷ ps) r (λ e. cc))

parts_more : (ps : List mo.Part) (a : mo.Part) → AreParts ps → IsPart a → AreParts (ps ++ a ∷ [])
parts_more [] a h i = (i, tt)
parts_more (b ∷ ps) a h i = (h.0, parts_more ps a h.1 i)

pub parts_some : (ps : List mo.Part) (a : mo.Part) → ps ++ a ∷ [] ≢ []
parts_some [] a = λ e. cc
parts_some (b ∷ ps) a = λ e. cc

-- a part that has been read whole
with_part_fine : (p : Parted) (a : mo.Part) (n : ℕ) (fs : List Frame) → AreFrames fs → wanted fs ≡ 4 → IsParted p → IsPart a
    → Reads fs (λ r. layout_tokens p.layout (k.Mark m.OpenBrace ∷ each_part p.parts (print_part a r))) (fs, frame.after_part (with_part p a n))
with_part_fine p a n fs h w j i = (
  (λ r. ap (λ z. read fs (layout_tokens p.layout (k.Mark m.OpenBrace ∷ z))) (row_parts p.parts a r)),
  h,
  (((j.0, parts_more p.parts a j.1 i), parts_some p.parts a), w),
)

pub part_fine : (x : Tok) (s : Span) (p : Parted) (fs : List Frame) → AreFrames fs → IsFocus fs (frame.want_part p)
    → Steps fs (frame.want_part p) x (part_with x s p fs)
part_fine (k.Number v b d) s p fs h i = bit_pattern_fine fs (frame.want_part p) (k.Number v b d) b (
  fs,
  frame.after_part (with_part p (mo.Fixed (number_at v b d s)) 0),
) (λ e. with_part_fine p (mo.Fixed (number_at v b d s)) 0 fs h i.1 i.0 e)
part_fine (k.Lower x) s p fs h i = ((λ r. refl), h, i)
part_fine (k.Mark m.Underscore) s p fs h i = ((λ r. refl), h, i)
part_fine _ s p fs h i = tt

colon_tokens : (o : PartStart) (r : List Tok) → part_start_tokens o r ≡ part_start_begun o (k.Mark m.Colon ∷ r)
colon_tokens (frame.named x) r = refl
colon_tokens (frame.unnamed s) r = refl

pub part_colon_fine : (x : Tok) (p : Parted) (o : PartStart) (fs : List Frame) → AreFrames fs → IsFocus fs (frame.part_colon p o)
    → Steps fs (frame.part_colon p o) x (part_colon_with x p o fs)
part_colon_fine (k.Mark m.Colon) p o fs h i = (
  (λ r. ap (λ z. read fs (layout_tokens p.layout (k.Mark m.OpenBrace ∷ each_part p.parts z))) (colon_tokens o r)),
  (i.0, i.1, small fs, tt, h),
  refl,
)
part_colon_fine _ p o fs h i = tt

pub after_part_fine : (x : Tok) (s : Span) (p : Parted) (fs : List Frame) → AreFrames fs → IsFocus fs (frame.after_part p)
    → Steps fs (frame.after_part p) x (after_part_with x s p fs)
after_part_fine (k.Mark m.Comma) s p fs h i = (
  (λ r. ap (λ z. read fs (layout_tokens p.layout (k.Mark m.OpenBrace ∷ z))) (parts_then p.parts r i.0.1)),
  h,
  (i.0.0, i.1),
)
after_part_fine (k.Mark m.CloseBrace) s p fs h i = bits_done_fine p.layout (mo.Parts p.parts (joined p.from s)) p.deep fs h i.1 i.0.0.0 (i.0.1, i.0.0.1)
after_part_fine _ s p fs h i = tt

part_tokens : (o : PartStart) (t : ty.TypeExpr) (r : List Tok) → print_part (part_of o t) r ≡ part_start_tokens o (print_type t r)
part_tokens (frame.named x) t r = refl
part_tokens (frame.unnamed s) t r = refl

part_is : (o : PartStart) (t : ty.TypeExpr) → IsPart (part_of o t)
part_is (frame.named x) t = tt
part_is (frame.unnamed s) t = tt

-- a type ends its part
pub typed_part_fine : (p : Parted) (o : PartStart) (t : FoundType) (fs : List Frame) → AreFrames (frame.in_part p o ∷ fs)
    → Reads (frame.in_part p o ∷ fs) (print_type t.type) (fs, frame.after_part (with_part p (part_of o t.type) t.deep))
typed_part_fine p o t fs h =
    let g = with_part_fine p (part_of o t.type) t.deep fs h.4 h.1 h.0 (part_is o t.type) in
    ((λ r. g.0 r ∙ ap (λ z. read fs (layout_tokens p.layout (k.Mark m.OpenBrace ∷ each_part p.parts z))) (part_tokens o t.type r)), g.1, g.2)

pub after_typed_part_fine : (x : Tok) (s : Span) (p : Parted) (o : PartStart) (t : FoundType) (fs : List Frame) → AreFrames (frame.in_part p o ∷ fs)
    → Steps (frame.in_part p o ∷ fs) (frame.have_type t) x (after_part_with x s (with_part p (part_of o t.type) t.deep) fs)
after_typed_part_fine x s p o t fs h =
    let g = typed_part_fine p o t fs h in
    let q = with_part p (part_of o t.type) t.deep in
    shift fs (frame.in_part p o ∷ fs) (frame.after_part q) (frame.have_type t) x (after_part_with x s q fs) (λ r.
    g.0 (x ∷ r)) (after_part_fine x s q fs g.1 g.2)
