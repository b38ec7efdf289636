-- The numbers that are kept with what has been read say how deep it is.
use Rattle.std.proofs.Common.{◌≡◌, ℕ, ◌+◌, ◌≤◌, max, Bool, true, false, cond, List, [], ◌∷◌, ◌++◌, Option, Some, None, arith}
use Rattle.ddl_base.specs.declared.span.Span.{Span}
use Rattle.ddl_tree.specs.TypeTree as ty
use Rattle.ddl_tree.specs.ClassTree as cls
use Rattle.ddl_tree.specs.ExprTree as ex
use Rattle.ddl_tree.specs.ModuleTree as mo
use Rattle.ddl_tree.specs.View.{exprs_of, bindings_of, items_of, alts_of}
use Rattle.ddl_tree.specs.Depth.{type_depth, typed_depth, class_depth, depth, bound_depth, item_depth, exprs_depth, bindings_depth, items_depth, alts_depth}
use Rattle.ddl_tree.specs.Depth.{param_depth, params_depth, part_depth, parts_depth, bits_depth, cons_depth, decl_depth, decls_depth}
use Rattle.ddl_reader.specs.Frames.{Frame, Focus, State, Found, FoundType, FoundClass, Head, Layout, Parted, Loop, Cases}
use Rattle.ddl_reader.specs.Frames as frame
use Rattle.ddl_reader.specs.Depths.{around, around_in, low, need_expr, lowest}

-- ---- what is so of each form that is open

abbrev pub IsDeep : Found → Type 0
IsDeep a = a.deep ≡ depth a.expr

abbrev pub IsDeepHead : Head → Type 0
IsDeepHead h = h.deep ≡ params_depth h.params

abbrev pub IsDeepLayout : Layout → Type 0
IsDeepLayout (frame.of_decl s x) = Unit {0}
IsDeepLayout (frame.of_con s x cs y n) = n ≡ cons_depth cs

abbrev pub IsDeepParted : Parted → Type 0
IsDeepParted p = IsDeepLayout p.layout × (p.deep ≡ parts_depth p.parts)

abbrev pub IsDeepFrame : Frame → Type 0
IsDeepFrame (frame.in_module a n) = n ≡ decls_depth a.decls
IsDeepFrame (frame.in_map_value s t) = t.deep ≡ type_depth t.type
IsDeepFrame (frame.in_union a) = a.deep ≡ class_depth a.class
IsDeepFrame (frame.in_infix o a) = IsDeep a
IsDeepFrame (frame.in_then s c) = IsDeep c
IsDeepFrame (frame.in_else s c a) = IsDeep c × IsDeep a
IsDeepFrame (frame.in_for_list s x i ns) = IsDeep i
IsDeepFrame (frame.in_for_body s x i ns l) = IsDeep i × IsDeep l
IsDeepFrame (frame.in_map_body s ns l) = IsDeep l
IsDeepFrame (frame.in_cast o a) = IsDeep a
IsDeepFrame (frame.in_call_grammar x xs n) = n ≡ exprs_depth (exprs_of xs)
IsDeepFrame (frame.in_call_value x xs n) = n ≡ exprs_depth (exprs_of xs)
IsDeepFrame (frame.in_many r b n) = n ≡ bound_depth b
IsDeepFrame (frame.in_between r s a) = IsDeep a
IsDeepFrame (frame.in_paren_type s a) = IsDeep a
IsDeepFrame (frame.in_array s xs n) = n ≡ exprs_depth (exprs_of xs)
IsDeepFrame (frame.in_record s bs n x) = n ≡ bindings_depth (bindings_of bs)
IsDeepFrame (frame.in_block s is n b) = n ≡ items_depth (items_of is)
IsDeepFrame (frame.in_untagged r xs n) = n ≡ exprs_depth (exprs_of xs)
IsDeepFrame (frame.in_with_tags r bs n x) = n ≡ bindings_depth (bindings_of bs)
IsDeepFrame (frame.in_alt s e xs n p) = IsDeep e × (n ≡ alts_depth (alts_of xs))
IsDeepFrame (frame.in_param h s o x) = IsDeepHead h
IsDeepFrame (frame.in_result h) = IsDeepHead h
IsDeepFrame (frame.in_body h t n) = IsDeepHead h × (n ≡ typed_depth t)
IsDeepFrame (frame.in_part p o) = IsDeepParted p
IsDeepFrame _ = Unit {0}

abbrev pub AreDeep : List Frame → Type 0
AreDeep [] = Unit {0}
AreDeep (f ∷ fs) = IsDeepFrame f × AreDeep fs

-- ---- what is so of what stands at the hole

abbrev pub IsDeepLoop : Loop → Type 0
IsDeepLoop (frame.for_from s x i) = IsDeep i
IsDeepLoop (frame.map_from s) = Unit {0}

abbrev pub AreDeepCases : Cases → Type 0
AreDeepCases c = IsDeep c.subject × (c.deep ≡ alts_depth (alts_of c.alts))

abbrev pub IsDeepFocus : Focus → Type 0
IsDeepFocus (frame.have_type t) = t.deep ≡ type_depth t.type
IsDeepFocus (frame.have_class c) = c.deep ≡ class_depth c.class
IsDeepFocus (frame.have a) = IsDeep a
IsDeepFocus (frame.loop_first l) = IsDeepLoop l
IsDeepFocus (frame.loop_after_first l x) = IsDeepLoop l
IsDeepFocus (frame.loop_second l x) = IsDeepLoop l
IsDeepFocus (frame.loop_in l ns) = IsDeepLoop l
IsDeepFocus (frame.want_shape a) = IsDeep a
IsDeepFocus (frame.want_field a) = IsDeep a
IsDeepFocus (frame.next_of_record s bs n) = n ≡ bindings_depth (bindings_of bs)
IsDeepFocus (frame.record_equals s bs n x) = n ≡ bindings_depth (bindings_of bs)
IsDeepFocus (frame.item_equals s is n b) = n ≡ items_depth (items_of is)
IsDeepFocus (frame.let_name s is n t) = n ≡ items_depth (items_of is)
IsDeepFocus (frame.want_tag r bs n) = n ≡ bindings_depth (bindings_of bs)
IsDeepFocus (frame.tag_equals r bs n x) = n ≡ bindings_depth (bindings_of bs)
IsDeepFocus (frame.open_case s e) = IsDeep e
IsDeepFocus (frame.want_pattern c) = AreDeepCases c
IsDeepFocus (frame.pattern_just c s) = AreDeepCases c
IsDeepFocus (frame.pattern_tag c x) = AreDeepCases c
IsDeepFocus (frame.have_pattern c p) = AreDeepCases c
IsDeepFocus (frame.want_param h) = IsDeepHead h
IsDeepFocus (frame.open_param h s) = IsDeepHead h
IsDeepFocus (frame.param_colon h s o x) = IsDeepHead h
IsDeepFocus (frame.want_con s x cs n) = n ≡ cons_depth cs
IsDeepFocus (frame.con_equals s x cs n y) = n ≡ cons_depth cs
IsDeepFocus (frame.after_con s x cs n) = n ≡ cons_depth cs
IsDeepFocus (frame.want_bits l) = IsDeepLayout l
IsDeepFocus (frame.want_part p) = IsDeepParted p
IsDeepFocus (frame.after_part p) = IsDeepParted p
IsDeepFocus (frame.part_colon p o) = IsDeepParted p
IsDeepFocus _ = Unit {0}

-- ---- a state that is deep by its numbers, and no module out of it is shallower than n

abbrev pub Goes : ℕ → State → Type 0
Goes n z = AreDeep z.0 × IsDeepFocus z.1 × (n ≤ lowest z)

abbrev pub Deeps : ℕ → Option State → Type 0
Deeps n None = Unit {0}
Deeps n (Some z) = Goes n z

pub weaken : (m n : ℕ) (o : Option State) → m ≤ n → Deeps n o → Deeps m o
weaken m n None h d = tt
weaken m n (Some z) h d = let l = d.2 in (d.0, d.1, omega arith)

-- a step that is made only if a test says so
pub tested_deep : (n : ℕ) (b : Bool) (o : Option State) → Deeps n o → Deeps n (cond b o None)
tested_deep n true o d = d
tested_deep n false o d = tt

-- ---- a form is deeper, the deeper its part

around_grows : (f : Frame) (m n : ℕ) → m ≤ n → around f m ≤ around f n
around_grows (frame.in_class_body s x) m n h = h
around_grows _ m n h = omega arith

around_in_grows : (f : Frame) (fs : List Frame) (m n : ℕ) → m ≤ n → around_in f fs m ≤ around_in f fs n
around_in_grows (frame.in_paren s) (frame.in_many r ex.Free d ∷ fs) m n h = h
around_in_grows (frame.in_class_body s x) fs m n h = h
around_in_grows f fs m n h = around_grows f m n h

pub low_grows : (fs : List Frame) (m n : ℕ) → m ≤ n → low fs m ≤ low fs n
low_grows [] m n h = h
low_grows (f ∷ fs) m n h = low_grows fs (around_in f fs m) (around_in f fs n) (around_in_grows f fs m n h)

pub paren_most : (s : Span) (fs : List Frame) (n : ℕ) → n ≤ around_in (frame.in_paren s) fs n
paren_most s (frame.in_many r ex.Free m ∷ fs) n = omega arith
paren_most s _ n = omega arith

pub paren_least : (s : Span) (fs : List Frame) (n : ℕ) → around_in (frame.in_paren s) fs n ≤ 1 + n
paren_least s (frame.in_many r ex.Free m ∷ fs) n = omega arith
paren_least s _ n = omega arith

pub need_least : (fs : List Frame) → need_expr fs ≤ 1
need_least (frame.in_array s [] n ∷ fs) = omega arith
need_least _ = omega arith

-- ---- no form is of depth 0

pub type_some : (t : ty.TypeExpr) → 1 ≤ type_depth t
type_some (ty.Maybe t s) = omega arith
type_some _ = omega arith

pub class_some : (c : cls.Cls) → 1 ≤ class_depth c
class_some (cls.Union a b s) = omega arith
class_some _ = omega arith

pub expr_some : (a : ex.Expr) → 1 ≤ depth a
expr_some (ex.Infix o a b s) = omega arith
expr_some _ = omega arith

-- ---- lists

pub exprs_deep : (xs : List ex.Expr) (a : ex.Expr) → exprs_depth (exprs_of (xs ++ a ∷ [])) ≡ max (exprs_depth (exprs_of xs)) (depth a)
exprs_deep [] a = omega arith
exprs_deep (b ∷ xs) a = omega (arith, exprs_deep xs a)

pub bindings_deep : (bs : List ex.Binding) (b : ex.Binding)
    → bindings_depth (bindings_of (bs ++ b ∷ [])) ≡ max (bindings_depth (bindings_of bs)) (depth b.value)
bindings_deep [] b = omega arith
bindings_deep (c ∷ bs) b = omega (arith, bindings_deep bs b)

pub items_deep : (is : List ex.Item) (i : ex.Item) → items_depth (items_of (is ++ i ∷ [])) ≡ max (items_depth (items_of is)) (item_depth i)
items_deep [] i = omega arith
items_deep (j ∷ is) i = omega (arith, items_deep is i)

pub alts_deep : (xs : List ex.Alt) (a : ex.Alt) → alts_depth (alts_of (xs ++ a ∷ [])) ≡ max (alts_depth (alts_of xs)) (depth a.body)
alts_deep [] a = omega arith
alts_deep (b ∷ xs) a = omega (arith, alts_deep xs a)

pub params_deep : (ps : List mo.Param) (a : mo.Param) → params_depth (ps ++ a ∷ []) ≡ max (params_depth ps) (param_depth a)
params_deep [] a = omega arith
params_deep (b ∷ ps) a = omega (arith, params_deep ps a)

pub parts_deep : (ps : List mo.Part) (a : mo.Part) → parts_depth (ps ++ a ∷ []) ≡ max (parts_depth ps) (part_depth a)
parts_deep [] a = omega arith
parts_deep (b ∷ ps) a = omega (arith, parts_deep ps a)

pub cons_deep : (cs : List mo.Con) (c : mo.Con) → cons_depth (cs ++ c ∷ []) ≡ max (cons_depth cs) (bits_depth c.bits)
cons_deep [] c = omega arith
cons_deep (d ∷ cs) c = omega (arith, cons_deep cs c)

pub decls_deep : (ds : List mo.Decl) (d : mo.Decl) → decls_depth (ds ++ d ∷ []) ≡ max (decls_depth ds) (decl_depth d)
decls_deep [] d = omega arith
decls_deep (e ∷ ds) d = omega (arith, decls_deep ds d)
