-- What a module specifies is simple.
use Rattle.std.proofs.Common.{◌≡◌, ℕ, suc, ◌+◌, ◌<◌, List, [], ◌∷◌, length, Bool, true, false, cond, Option, Some, None, refl, ap, sym, ◌∙◌, subst, arith}
use Rattle.std.specs.Prelude.{IfSome, option_map, option_and_then, bytes_eq, codes, nat_le, ◌&&◌}
use Rattle.std.specs.Option.{option_or}
use Rattle.ddl_base.specs.declared.span.Span.{Span}
use Rattle.ddl_tree.specs.declared.name.Name.{Name}
use Rattle.ddl_tree.specs.declared.module.Import.{Import}
use Rattle.ddl_tree.specs.ExprTree as ex
use Rattle.ddl_tree.specs.ModuleTree as mo
use Rattle.ddl_typed.specs.Tree as t
use Rattle.ddl_typed.specs.View.{view}
use Rattle.ddl_typed.specs.Simple.{AreSimple, IsSimple, IsSimpleItem, IsSimpleValue, IsText, names_after}
use Rattle.ddl_typed.specs.declared.expr.TDecl.{TDecl}
use Rattle.ddl_simple.specs.Scope.{Meaning, Scope, meaning}
use Rattle.ddl_simple.specs.Form.{bare, local_at, match_of, primitive, pure_at, pure_of, text_at}
use Rattle.ddl_simple.specs.Blocks.{blocks, block_type, may_stand}
use Rattle.ddl_simple.specs.Grammars.{block_of, call, grammar, item, items, scope_after}
use Rattle.ddl_simple.specs.Modules.{Declared, declared_view, main_of, main_with, specified, specified_by}

-- ---- options

if_chosen : {A : Type 0} (P : A → Type 0) (b : Bool) (o p : Option A) → IfSome o P → IfSome p P → IfSome (cond b o p) P
if_chosen P true o p h k = h
if_chosen P false o p h k = k

if_or : {A : Type 0} (P : A → Type 0) (o p : Option A) → IfSome o P → IfSome p P → IfSome (option_or o p) P
if_or P None p h k = k
if_or P (Some x) p h k = h

if_map : {A B : Type 0} (P : A → Type 0) (Q : B → Type 0) (f : A → B) (o : Option A) → ((x : A) → P x → Q (f x)) → IfSome o P → IfSome (option_map f o) Q
if_map P Q f None g h = tt
if_map P Q f (Some x) g h = g x h

-- ---- forms without parts

simple_primitive : (x : Name) (n : ℕ) → IfSome (primitive x) (λ r. IsSimple r n)
simple_primitive x n =
    if_chosen (λ r. IsSimple r n) (bytes_eq x.text (codes "UInt8")) _ _ tt
    (if_chosen (λ r. IsSimple r n) (bytes_eq x.text (codes "END")) _ _ tt tt)

simple_text : (e : ex.Expr) → IfSome (text_at e) IsText
simple_text (ex.Text bs s) = tt
simple_text e = tt

simple_match : (x : Name) (e : ex.Expr) (s : Span) (n : ℕ) → IfSome (match_of x e s) (λ r. IsSimple r n)
simple_match x e s n =
    if_chosen (λ r. IsSimple r n) (bytes_eq x.text (codes "Match")) _ _
    (if_map IsText (λ r. IsSimple r n) _ (text_at (bare e)) (λ y h. h) (simple_text (bare e))) tt

simple_call : (x : Name) (es : ex.Exprs) (s : Span) (n : ℕ) → IfSome (call x es s) (λ r. IsSimple r n)
simple_call x (ex.an_expr e ex.no_exprs) s n = simple_match x e s n
simple_call x es s n = tt

meaning_below : (scope : Scope) (x : List ℕ) → IfSome (meaning scope x) (λ m. m.number < length scope)
meaning_below [] x = tt
meaning_below (b ∷ bs) x =
    if_chosen (λ m. m.number < length (b ∷ bs)) (bytes_eq b.name x) _ (meaning bs x) (let h : length bs < length (b ∷ bs) = omega arith in h)
    (weaker (meaning bs x) (meaning_below bs x))
  where
    weaker : (o : Option Meaning) → IfSome o (λ m. m.number < length bs) → IfSome o (λ m. m.number < length (b ∷ bs))
    weaker None h = tt
    weaker (Some m) h = omega arith

simple_local : (e : ex.Expr) (scope : Scope) → IfSome (local_at e scope) (λ r. IsSimpleValue r (length scope))
simple_local (ex.Lower x) scope =
    if_map (λ m. m.number < length scope) (λ r. IsSimpleValue r (length scope)) _ (meaning scope x.text) (λ m h. h) (meaning_below scope x.text)
simple_local e scope = tt

simple_pure : (e : ex.Expr) (scope : Scope) → IfSome (pure_at e scope) (λ r. IsSimple r (length scope))
simple_pure (ex.Pure e s) scope =
    if_map (λ r. IsSimpleValue r (length scope)) (λ r. IsSimple r (length scope)) _ (local_at (bare e) scope) (λ x h. h) (simple_local (bare e) scope)
simple_pure e scope = tt

-- ---- grammars and items

-- a simple item, after which as many names are in scope as the typed tree says
abbrev IsStep : ex.Item → Scope → t.Item → Type 0
IsStep i scope j = IsSimpleItem j (length scope) × (length (scope_after i j scope) ≡ names_after j (length scope))

simple_block : (s : Span) (is : ex.Items) (o : Option t.Items) (n : ℕ) → IfSome o (λ js. AreSimple js n) → IfSome (block_of s is o) (λ r. IsSimple r n)
simple_block s is o n h = if_chosen (λ r. IsSimple r n) (may_stand is) _ _ (if_map (λ js. AreSimple js n) (λ r. IsSimple r n) _ o (λ js k. k) h) tt

simple_step : (i : ex.Item) (is : ex.Items) (scope : Scope) (o : Option t.Item) → IfSome o (IsStep i scope)
    → ((j : t.Item) → IfSome (items is (scope_after i j scope)) (λ js. AreSimple js (length (scope_after i j scope))))
    → IfSome (option_and_then (λ j. option_map (t.item j) (items is (scope_after i j scope))) o) (λ js. AreSimple js (length scope))
simple_step i is scope None h k = tt
simple_step i is scope (Some j) h k =
    if_map (λ js. AreSimple js (length (scope_after i j scope))) (λ js. AreSimple js (length scope)) (t.item j) (items is (scope_after i j scope))
    (λ js z. (h.0, subst (AreSimple js) h.1 z)) (k j)

one_more : (n : ℕ) → suc n ≡ n + 1
one_more n = omega arith

mutual
  simple_grammar : (e : ex.Expr) (scope : Scope) → IfSome (grammar e scope) (λ r. IsSimple r (length scope))
  simple_grammar (ex.Upper x) scope = simple_primitive x (length scope)
  simple_grammar (ex.CallGrammar x es s) scope = simple_call x es s (length scope)
  simple_grammar (ex.Paren e None s) scope = simple_grammar e scope
  simple_grammar (ex.Block is s) scope = simple_block s is (items is scope) (length scope) (simple_items is scope)
  simple_grammar e scope = tt

  simple_items : (is : ex.Items) (scope : Scope) → IfSome (items is scope) (λ js. AreSimple js (length scope))
  simple_items ex.no_items scope = tt
  simple_items (ex.an_item i is) scope = simple_step i is scope (item i scope) (simple_item i scope) (λ j. simple_items is (scope_after i j scope))

  simple_item : (i : ex.Item) (scope : Scope) → IfSome (item i scope) (IsStep i scope)
  simple_item (ex.Result e s) scope = if_map (λ r. IsSimple r (length scope)) (IsStep (ex.Result e s) scope) t.result_ (grammar e scope) (λ r h.
      (h, refl)) (simple_grammar e scope)
  simple_item (ex.Let x e s) scope = if_map (λ r. IsSimple r (length scope)) (IsStep (ex.Let x e s) scope) (t.let_ (length scope)) (grammar e scope) (λ r h.
      ((refl, h), one_more (length scope))) (simple_grammar e scope)
  simple_item (ex.Field x e s) scope = if_map (λ r. IsSimple r (length scope)) (IsStep (ex.Field x e s) scope) (t.field x.text (length scope)) (grammar e scope)
      (λ r h. ((refl, h), one_more (length scope))) (simple_grammar e scope)
  simple_item (ex.Plain e) scope =
      if_map (λ r. IsSimple r (length scope)) (IsStep (ex.Plain e) scope) t.plain (option_or (pure_at (bare e) scope) (grammar e scope)) (λ r h. (h, refl))
      (if_or (λ r. IsSimple r (length scope)) (pure_at (bare e) scope) (grammar e scope) (simple_pure (bare e) scope) (simple_grammar e scope))

-- ---- modules

simple_main : (x : Name) (e : ex.Expr) → IfSome (main_with x e) (λ d. IsSimple d.body 0)
simple_main x e =
    if_chosen (λ d. IsSimple d.body 0) (bytes_eq x.text (codes "Main") && nat_le (blocks e) 100) _ _
    (if_map (λ r. IsSimple r 0) (λ d. IsSimple d.body 0) _ (grammar e []) (λ r h. h) (simple_grammar e [])) tt

simple_decl : (d : mo.Decl) → IfSome (main_of d) (λ d. IsSimple d.body 0)
simple_decl (mo.Grammar x [] None e s) = simple_main x e
simple_decl d = tt

simple_module : (is : List Import) (ds : List mo.Decl) → IfSome (specified_by is ds) (λ d. IsSimple d.body 0)
simple_module [] (d ∷ []) = simple_decl d
simple_module is ds = tt

-- what is specified is simple
pub simple_specified : (m : mo.Module) (d : TDecl) → specified m ≡ Some (declared_view d) → IsSimple (view d.body) 0
simple_specified m d h = subst (λ o. IfSome o (λ d. IsSimple d.body 0)) h (simple_module m.imports m.decls)
