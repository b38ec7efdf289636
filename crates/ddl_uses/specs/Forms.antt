-- What is found in types, classes and expressions, each form before its parts. A form of the wrong kind comes first.
use Rattle.std.specs.Prelude.{ℕ, ◌+◌, List, [], ◌∷◌, ◌++◌, drop, min, Option, Some, None, codes}
use Rattle.ddl_base.specs.declared.span.Span.{Span}
use Rattle.ddl_tree.specs.declared.name.Name.{Name}
use Rattle.ddl_tree.specs.TypeTree as ty
use Rattle.ddl_tree.specs.ClassTree as cls
use Rattle.ddl_tree.specs.ExprTree as ex
use Rattle.ddl_kinds.specs.declared.want.Want.{Want}
use Rattle.ddl_kinds.specs.declared.want.Want.TheVariants as w
use Rattle.ddl_kinds.specs.declared.want.Form.TheVariants as f
use Rattle.ddl_kinds.specs.Kinds.{sides, form_of_infix, form_of_cast, form_of_parens, free_want, first_want, next_want, settled}
use Rattle.ddl_uses.specs.Scope.{Scope, value, after_item, after_names, after_pattern}
use Rattle.ddl_uses.specs.Bindings.{Site, meaning}
use Rattle.ddl_kinds.specs.Findings.{Finding, fits, again, name_use, type_use, wants}

-- ---- parts

abbrev pub count : ex.Exprs → ℕ
count ex.no_exprs = 0
count (ex.an_expr a xs) = 1 + count xs

-- the mark `$$` with which an item begins
abbrev pub dollars : Span → Name
dollars s = record { text = codes "$$"; span = record { «module» = s.«module»; from = s.from; to = min (s.from + 2) s.to } }

-- what may stand once in a block: a field's name, and `$$`
abbrev pub once : ex.Item → List Name
once (ex.Result e s) = dollars s ∷ []
once (ex.Let x e s) = []
once (ex.Field x e s) = x ∷ []
once (ex.Plain e) = []

abbrev pub once_again : List Name → List Name → List Finding
once_again before [] = []
once_again before (x ∷ xs) = again before x

module _ (site : Site) where
  -- ---- types and classes

  -- the names in a type
  abbrev pub type_findings : ty.TypeExpr → Scope → List Finding
  type_findings (ty.Maybe t s) scope = type_findings t scope
  type_findings (ty.ArrayOf t s) scope = type_findings t scope
  type_findings (ty.MapOf t u s) scope = type_findings t scope ++ type_findings u scope
  type_findings (ty.Named x) scope = type_use x (meaning site scope x)
  type_findings (ty.Within t s) scope = type_findings t scope
  type_findings t scope = []

  abbrev pub typed_findings : Option ty.TypeExpr → Scope → List Finding
  typed_findings None scope = []
  typed_findings (Some t) scope = type_findings t scope

  -- the names in a class are classes
  abbrev pub class_findings : cls.Cls → Scope → List Finding
  class_findings (cls.Union a b s) scope = class_findings a scope ++ class_findings b scope
  class_findings (cls.Known x) scope = name_use w.Class x 0 (meaning site scope x)
  class_findings (cls.Other c s) scope = class_findings c scope
  class_findings (cls.Grouped c s) scope = class_findings c scope
  class_findings (cls.Set c s) scope = class_findings c scope
  class_findings c scope = []

  -- ---- expressions

  abbrev mutual
    -- a form, where this is wanted of it
    pub findings : ex.Expr → Want → Scope → List Finding
    findings (ex.Infix o a b s) want scope = fits want (form_of_infix o) s ++ findings a (sides o) scope ++ findings b (sides o) scope
    findings (ex.Pure a s) want scope = fits want f.Grammar s ++ findings a w.Value scope
    findings (ex.If c a b s) want scope = fits want f.Either s ++ findings c w.Value scope ++ findings a (settled want (free_want a)) scope
        ++ findings b (settled want (free_want a)) scope
    findings (ex.For x i ns l b s) want scope = fits want f.Either s ++ findings i w.Value scope ++ findings l w.Value scope
        ++ findings b want (after_names ns (value x ∷ scope))
    findings (ex.Map ns l b s) want scope = fits want f.Either s ++ findings l w.Value scope ++ findings b want (after_names ns scope)
    findings (ex.Is a p s) want scope = fits want f.Grammar s ++ findings a w.Value scope
    findings (ex.Prefix o a s) want scope = fits want f.Value s ++ findings a w.Value scope
    findings (ex.Cast o a t s) want scope = fits want (form_of_cast o) s ++ findings a w.Value scope ++ type_findings t scope
    findings (ex.CallGrammar x xs s) want scope = name_use want x (count xs) (meaning site scope x) ++ arguments xs (wants (meaning site scope x)) scope
    findings (ex.CallValue x xs s) want scope = name_use want x (count xs) (meaning site scope x) ++ arguments xs (wants (meaning site scope x)) scope
    findings (ex.Just a s) want scope = fits want f.Value s ++ findings a w.Value scope
    findings (ex.Many o n a s) want scope = fits want f.Grammar s ++ bound_findings n scope ++ findings a w.Grammar scope
    findings (ex.Optional o a s) want scope = fits want f.Grammar s ++ findings a w.Grammar scope
    findings (ex.Select a x s) want scope = fits want f.Value s ++ findings a w.Value scope
    findings (ex.Num n) want scope = fits want f.Value n.span
    findings (ex.Char b s) want scope = fits want f.Value s
    findings (ex.Text bs s) want scope = fits want f.Text s
    findings (ex.True s) want scope = fits want f.Value s
    findings (ex.False s) want scope = fits want f.Value s
    findings (ex.Nothing s) want scope = fits want f.Value s
    findings (ex.Upper x) want scope = name_use want x 0 (meaning site scope x)
    findings (ex.Lower x) want scope = name_use want x 0 (meaning site scope x)
    findings (ex.Class x) want scope = name_use want x 0 (meaning site scope x)
    findings (ex.Set c s) want scope = fits want f.Class s ++ class_findings c scope
    findings (ex.Paren a t s) want scope = fits want (form_of_parens t) s ++ findings a want scope ++ typed_findings t scope
    findings (ex.Array xs s) want scope = fits want f.Value s ++ each xs w.Value scope
    findings (ex.RecordOf bs s) want scope = fits want f.Value s ++ bindings bs w.Value [] scope
    findings (ex.Tag x s) want scope = fits want f.Value s
    findings (ex.TagWith x a s) want scope = fits want f.Value s ++ findings a w.Value scope
    findings (ex.Block is s) want scope = fits want f.Grammar s ++ items is [] scope
    findings (ex.Choice o xs s) want scope = fits want f.Grammar s ++ alternatives xs scope
    findings (ex.Case a xs s) want scope = fits want f.Either s ++ findings a w.Value scope ++ branches xs (settled want (first_want xs)) scope

    -- how often `Many` repeats is a value
    pub bound_findings : ex.Bound → Scope → List Finding
    bound_findings ex.Free scope = []
    bound_findings (ex.Exactly a) scope = findings a w.Value scope
    bound_findings (ex.AtLeast a s) scope = findings a w.Value scope
    bound_findings (ex.AtMost a s) scope = findings a w.Value scope
    bound_findings (ex.Between a b s) scope = findings a w.Value scope ++ findings b w.Value scope

    -- with tags, which differ, alternatives are free; without they are grammars
    pub alternatives : ex.Alternatives → Scope → List Finding
    alternatives (ex.WithTags bs) scope = bindings bs w.Free [] scope
    alternatives (ex.Untagged xs) scope = each xs w.Grammar scope

    -- an item that stands alone is a grammar, each other one is free
    pub item_findings : ex.Item → Scope → List Finding
    item_findings (ex.Result e s) scope = findings e w.Free scope
    item_findings (ex.Let x e s) scope = findings e w.Free scope
    item_findings (ex.Field x e s) scope = findings e w.Free scope
    item_findings (ex.Plain e) scope = findings e w.Grammar scope

    pub each : ex.Exprs → Want → Scope → List Finding
    each ex.no_exprs want scope = []
    each (ex.an_expr a xs) want scope = findings a want scope ++ each xs want scope

    -- each argument is what its parameter wants
    pub arguments : ex.Exprs → List Want → Scope → List Finding
    arguments ex.no_exprs ws scope = []
    arguments (ex.an_expr a xs) ws scope = findings a (next_want ws) scope ++ arguments xs (drop 1 ws) scope

    -- fields or tags after those of the names `before`: no two are the same
    pub bindings : ex.Bindings → Want → List Name → Scope → List Finding
    bindings ex.no_bindings want before scope = []
    bindings (ex.a_binding x a s bs) want before scope = again before x ++ findings a want scope ++ bindings bs want (before ++ x ∷ []) scope

    -- the items of a block after those that have `before`: what an item binds holds in the later ones
    pub items : ex.Items → List Name → Scope → List Finding
    items ex.no_items before scope = []
    items (ex.an_item i is) before scope = once_again before (once i) ++ item_findings i scope ++ items is (before ++ once i) (after_item i scope)

    -- all branches of a `case`
    pub branches : ex.Alts → Want → Scope → List Finding
    branches ex.no_alts want scope = []
    branches (ex.an_alt p b s xs) want scope = findings b want (after_pattern p scope) ++ branches xs want scope
