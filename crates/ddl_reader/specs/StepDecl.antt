-- One token of an import or a declaration, outside of types, classes and expressions.
use Rattle.std.specs.Prelude.{ℕ, max, List, [], ◌∷◌, ◌++◌, Option, Some, None}
use Rattle.ddl_base.specs.declared.span.Span.{Span}
use Rattle.ddl_token.specs.declared.token.Base.{Base}
use Rattle.ddl_token.specs.declared.token.Base.TheVariants.{Decimal, Hexadecimal, Binary}
use Rattle.ddl_token.specs.declared.token.Tok.{Tok}
use Rattle.ddl_token.specs.declared.token.Tok.TheVariants as k
use Rattle.ddl_token.specs.declared.word.Word.TheVariants as w
use Rattle.ddl_token.specs.declared.mark.Mark.TheVariants as m
use Rattle.ddl_tree.specs.declared.name.Name.{Name}
use Rattle.ddl_tree.specs.declared.module.Import.{Import}
use Rattle.ddl_tree.specs.TypeTree as ty
use Rattle.ddl_tree.specs.TypeTree.{type_span}
use Rattle.ddl_tree.specs.ClassTree.{class_span}
use Rattle.ddl_tree.specs.ExprTree.{expr_span}
use Rattle.ddl_tree.specs.ModuleTree as mo
use Rattle.ddl_tree.specs.ModuleTree.{bits_span}
use Rattle.ddl_reader.specs.Frames.{Frame, Focus, State, Found, FoundType, FoundClass, Head, Sort, Layout, Parted, PartStart}
use Rattle.ddl_reader.specs.Frames as frame
use Rattle.ddl_reader.specs.StepType.{joined, number_at}
use Rattle.ddl_reader.specs.StepExpr.{name_at}

-- ---- the module

abbrev pub with_decl : mo.Decl → ℕ → List Frame → List Frame
with_decl d n (frame.in_module a m ∷ fs) = frame.in_module (record { imports = a.imports; decls = a.decls ++ d ∷ [] }) (max m n) ∷ fs
with_decl d n fs = fs

abbrev pub with_import : Import → List Frame → List Frame
with_import i (frame.in_module a m ∷ fs) = frame.in_module (record { imports = a.imports ++ i ∷ []; decls = a.decls }) m ∷ fs
with_import i fs = fs

abbrev pub declared : mo.Decl → ℕ → List Frame → State
declared d n fs = (with_decl d n fs, frame.at_decl)

-- the first token of a declaration
abbrev pub begin_decl : Tok → Span → List Frame → Option State
begin_decl (k.Word w.Def) s fs = Some (fs, frame.want_name s)
begin_decl (k.Word w.Bitdata) s fs = Some (fs, frame.want_bits_name s)
begin_decl _ s fs = None

abbrev pub begin_import : Tok → Span → List Frame → Option State
begin_import (k.Word w.Import) s fs = Some (fs, frame.want_import s)
begin_import x s fs = begin_decl x s fs

abbrev pub import_name : Tok → Span → Span → List Frame → Option State
import_name (k.Upper x) s from fs = Some (with_import (record { name = name_at x s; span = joined from s }) fs, frame.at_import)
import_name _ s from fs = None

-- ---- def

abbrev pub head_of : Span → Sort → Name → Head
head_of from o x = record { from = from; sort = o; name = x; params = []; deep = 0 }

abbrev pub decl_name : Tok → Span → Span → List Frame → Option State
decl_name (k.Upper x) s from fs = Some (fs, frame.want_param (head_of from frame.of_grammar (name_at x s)))
decl_name (k.Lower x) s from fs = Some (fs, frame.want_param (head_of from frame.of_value (name_at x s)))
decl_name (k.Class x) s from fs = Some (fs, frame.class_equals from (name_at x s))
decl_name _ s from fs = None

abbrev pub with_param : Head → mo.Param → ℕ → Head
with_param h p n = record { from = h.from; sort = h.sort; name = h.name; params = h.params ++ p ∷ []; deep = max h.deep n }

abbrev pub param_with : Tok → Span → Head → List Frame → Option State
param_with (k.Upper x) s h fs = Some (fs, frame.want_param (with_param h (mo.Upper (name_at x s)) 0))
param_with (k.Lower x) s h fs = Some (fs, frame.want_param (with_param h (mo.Lower (name_at x s)) 0))
param_with (k.Class x) s h fs = Some (fs, frame.want_param (with_param h (mo.Class (name_at x s)) 0))
param_with (k.Mark m.OpenParen) s h fs = Some (fs, frame.open_param h s)
param_with (k.Mark m.Colon) s h fs = Some (frame.in_result h ∷ fs, frame.want_type)
param_with (k.Mark m.Equals) s h fs = Some (frame.in_body h None 0 ∷ fs, frame.want)
param_with _ s h fs = None

abbrev pub param_name : Tok → Span → Head → Span → List Frame → Option State
param_name (k.Upper x) s h from fs = Some (fs, frame.param_colon h from frame.of_grammar (name_at x s))
param_name (k.Lower x) s h from fs = Some (fs, frame.param_colon h from frame.of_value (name_at x s))
param_name _ s h from fs = None

abbrev pub param_colon_with : Tok → Head → Span → Sort → Name → List Frame → Option State
param_colon_with (k.Mark m.Colon) h from o x fs = Some (frame.in_param h from o x ∷ fs, frame.want_type)
param_colon_with _ h from o x fs = None

abbrev pub typed_param : Sort → Name → ty.TypeExpr → Span → mo.Param
typed_param frame.of_grammar x t s = mo.TypedUpper x t s
typed_param frame.of_value x t s = mo.TypedLower x t s

abbrev pub after_param_type : Tok → Span → Head → Span → Sort → Name → FoundType → List Frame → Option State
after_param_type (k.Mark m.CloseParen) s h from o x t fs = Some (fs, frame.want_param (with_param h (typed_param o x t.type (joined from s)) t.deep))
after_param_type _ s h from o x t fs = None

abbrev pub after_result : Tok → Head → FoundType → List Frame → Option State
after_result (k.Mark m.Equals) h t fs = Some (frame.in_body h (Some t.type) t.deep ∷ fs, frame.want)
after_result _ h t fs = None

abbrev pub decl_of : Sort → Name → List mo.Param → Option ty.TypeExpr → Found → Span → mo.Decl
decl_of frame.of_grammar x ps t e s = mo.Grammar x ps t e.expr s
decl_of frame.of_value x ps t e s = mo.Value x ps t e.expr s

-- a declaration whose body this is
abbrev pub close_body : Head → Option ty.TypeExpr → ℕ → Found → List Frame → List Frame
close_body h t n e fs = with_decl (decl_of h.sort h.name h.params t e (joined h.from (expr_span e.expr))) (max h.deep (max n e.deep)) fs

abbrev pub class_equals_with : Tok → Span → Name → List Frame → Option State
class_equals_with (k.Mark m.Equals) from x fs = Some (frame.in_class_body from x ∷ fs, frame.want_class)
class_equals_with _ from x fs = None

abbrev pub close_class_body : Span → Name → FoundClass → List Frame → List Frame
close_class_body from x c fs = with_decl (mo.ClassDef x c.class (joined from (class_span c.class))) c.deep fs

-- after the class that a name is declared to be
abbrev pub after_class_body : Tok → Span → Span → Name → FoundClass → List Frame → Option State
after_class_body (k.Mark m.Bar) s from x c fs = Some (frame.in_union c ∷ frame.in_class_body from x ∷ fs, frame.want_class)
after_class_body o s from x c fs = begin_decl o s (close_class_body from x c fs)

-- ---- bitdata

abbrev pub bits_name : Tok → Span → Span → List Frame → Option State
bits_name (k.Upper x) s from fs = Some (fs, frame.after_bits_name from (name_at x s))
bits_name _ s from fs = None

abbrev pub after_bits_name_with : Tok → Span → Name → List Frame → Option State
after_bits_name_with (k.Mark m.Equals) from x fs = Some (fs, frame.want_bits (frame.of_decl from x))
after_bits_name_with (k.Word w.Where) from x fs = Some (fs, frame.open_cons from x)
after_bits_name_with _ from x fs = None

abbrev pub open_cons_with : Tok → Span → Name → List Frame → Option State
open_cons_with (k.Mark m.OpenBrace) from x fs = Some (fs, frame.want_con from x [] 0)
open_cons_with _ from x fs = None

abbrev pub con_name : Tok → Span → Span → Name → List mo.Con → ℕ → List Frame → Option State
con_name (k.Lower y) s from x cs n fs = Some (fs, frame.con_equals from x cs n (name_at y s))
con_name _ s from x cs n fs = None

abbrev pub con_equals_with : Tok → Span → Name → List mo.Con → ℕ → Name → List Frame → Option State
con_equals_with (k.Mark m.Equals) from x cs n y fs = Some (fs, frame.want_bits (frame.of_con from x cs y n))
con_equals_with _ from x cs n y fs = None

abbrev pub con_of : Name → mo.Bits → mo.Con
con_of y b = record { name = y; bits = b; span = joined y.span (bits_span b) }

-- a layout that has been read whole
abbrev pub bits_done : Layout → mo.Bits → ℕ → List Frame → State
bits_done (frame.of_decl from x) b n fs = declared (mo.BitsDef x b (joined from (bits_span b))) n fs
bits_done (frame.of_con from x cs y n) b d fs = (fs, frame.after_con from x (cs ++ con_of y b ∷ []) (max n d))

abbrev pub after_con_with : Tok → Span → Span → Name → List mo.Con → ℕ → List Frame → Option State
after_con_with (k.Mark m.Semicolon) s from x cs n fs = Some (fs, frame.want_con from x cs n)
after_con_with (k.Mark m.CloseBrace) s from x cs n fs = Some (declared (mo.BitsUnion x cs (joined from s)) n fs)
after_con_with _ s from x cs n fs = None

-- a number of a layout is written in base 2 or 16
abbrev pub bit_pattern : Base → Option State → Option State
bit_pattern Decimal z = None
bit_pattern Hexadecimal z = z
bit_pattern Binary z = z

abbrev pub parted : Layout → Span → Parted
parted l s = record { layout = l; from = s; parts = []; deep = 0 }

abbrev pub bits_with : Tok → Span → Layout → List Frame → Option State
bits_with (k.Number v b d) s l fs = bit_pattern b (Some (bits_done l (mo.Exactly (number_at v b d s)) 0 fs))
bits_with (k.Mark m.OpenBrace) s l fs = Some (fs, frame.want_part (parted l s))
bits_with _ s l fs = None

abbrev pub with_part : Parted → mo.Part → ℕ → Parted
with_part p a n = record { layout = p.layout; from = p.from; parts = p.parts ++ a ∷ []; deep = max p.deep n }

abbrev pub part_with : Tok → Span → Parted → List Frame → Option State
part_with (k.Number v b d) s p fs = bit_pattern b (Some (fs, frame.after_part (with_part p (mo.Fixed (number_at v b d s)) 0)))
part_with (k.Lower x) s p fs = Some (fs, frame.part_colon p (frame.named (name_at x s)))
part_with (k.Mark m.Underscore) s p fs = Some (fs, frame.part_colon p (frame.unnamed s))
part_with _ s p fs = None

abbrev pub part_colon_with : Tok → Parted → PartStart → List Frame → Option State
part_colon_with (k.Mark m.Colon) p o fs = Some (frame.in_part p o ∷ fs, frame.want_type)
part_colon_with _ p o fs = None

abbrev pub part_of : PartStart → ty.TypeExpr → mo.Part
part_of (frame.named x) t = mo.Named x t (joined x.span (type_span t))
part_of (frame.unnamed s) t = mo.Unnamed t (joined s (type_span t))

-- after a part
abbrev pub after_part_with : Tok → Span → Parted → List Frame → Option State
after_part_with (k.Mark m.Comma) s p fs = Some (fs, frame.want_part p)
after_part_with (k.Mark m.CloseBrace) s p fs = Some (bits_done p.layout (mo.Parts p.parts (joined p.from s)) p.deep fs)
after_part_with _ s p fs = None
