-- The arguments of a name are read by the kinds that are known of it, which are those that its meaning wants.
use Rattle.std.proofs.Common.{◌≡◌, ℕ, suc, List, [], ◌∷◌, ◌++◌, map, Option, Some, None, refl, ap, sym, subst, ◌∙◌, Bool, true, false, true≢false}
use Rattle.std.specs.Prelude.{drop}
use Rattle.ddl_base.specs.declared.span.Span.{Span}
use Rattle.ddl_kinds.specs.declared.bound.Bound.{Bound}
use Rattle.ddl_kinds.specs.declared.bound.Bound.TheVariants as bound
use Rattle.ddl_kinds.specs.declared.bound.Use.{Use}
use Rattle.ddl_kinds.specs.declared.error.NameError.TheVariants as e
use Rattle.ddl_kinds.specs.declared.want.Want.{Want}
use Rattle.ddl_kinds.specs.declared.want.Want.TheVariants as w
use Rattle.ddl_kinds.specs.Findings.{all_uses, name_use, wants}
use Rattle.ddl_kinds.specs.Kinds.{next_want}
use Rattle.ddl_kinds.specs.Meanings.{Meaning, nothing, two_imports, one}
use Rattle.ddl_tree.specs.declared.kind.Kind.{Kind}
use Rattle.ddl_tree.specs.declared.kind.Kind.TheVariants as k
use Rattle.ddl_tree.specs.declared.name.Name.{Name}
use Rattle.ddl_tree.specs.ExprTree as ex
use Rattle.ddl_types.specs.Types.{Ty}
use Rattle.ddl_uses.specs.Bindings.{Site, meaning, meaning_of_local, or_else, outer_meaning}
use Rattle.ddl_uses.specs.Forms.{arguments, count, findings}
use Rattle.ddl_uses.specs.Scope as scope_of
use Rattle.ddl_uses.specs.Scope.{Scope, in_scope}
use Rattle.ddl_rules.specs.Asks.{Env, Known, Local, State, after_use, after_variables, bound_next, local_at}
use Rattle.ddl_typing.specs.Typed.{Typed, TypedArgs}
use Rattle.ddl_typing.specs.Typing.{AreTypes, Typing, TypingArgs}
use Rattle.ddl_typing.specs.Names.{a_named, an_argument, before_argument, behind_argument, class_argument, local_known, next_kind, rest_kinds, target, texts_of}
use Rattle.ddl_typing.specs.Names.{wanted_at}
use Rattle.ddl_naming.specs.Laws.{IsKnownUse, want_of}
use Rattle.ddl_naming.specs.Named.{AreArgsNamed, ByKind, IsClassArgumentNamed, IsNamed, IsNext}
use Rattle.ddl_naming.proofs.Beginning.{Begins, name_next, not_none, split, used, used_so}
use Rattle.ddl_naming.proofs.NamedClasses.{class_argument_taken}
use Rattle.ddl_naming.proofs.States.{noted_uses}

-- ---- kinds of parameters, and what their arguments have to be

-- where a parameter is a class, its argument has to be one
abbrev pub AgreesAt : Kind → Want → Type 0
AgreesAt k.Class want = want ≡ w.Class
AgreesAt kind want = Unit {0}

abbrev pub Agree : List Kind → List Want → Type 0
Agree [] ws = Unit {0}
Agree (kind ∷ kinds) ws = AgreesAt kind (next_want ws) × Agree kinds (drop 1 ws)

agrees : (kind : Kind) → AgreesAt kind (want_of kind)
agrees k.Grammar = tt
agrees k.Value = tt
agrees k.Class = refl
agrees k.Bits = tt

agree : (kinds : List Kind) → Agree kinds (map want_of kinds)
agree [] = tt
agree (kind ∷ kinds) = (agrees kind, agree kinds)

pub agree_next : (kinds : List Kind) (ws : List Want) → Agree kinds ws → AgreesAt (next_kind kinds) (next_want ws)
agree_next [] ws h = tt
agree_next (kind ∷ kinds) ws h = h.0

pub agree_rest : (kinds : List Kind) (ws : List Want) → Agree kinds ws → Agree (rest_kinds kinds) (drop 1 ws)
agree_rest [] ws h = tt
agree_rest (kind ∷ kinds) ws h = h.1

local_agrees : (o : Option Local) (ws : List Want) → Agree (local_known o).kinds ws
local_agrees None ws = tt
local_agrees (Some l) ws = tt

-- the declaration that a name means has parameters of the kinds that are known of it
abbrev pub IsKnownAs : (ℕ → Known) → Meaning → Type 0
IsKnownAs known (one (bound.Decl d) kind ws) = ws ≡ map want_of (known d).kinds
IsKnownAs known m = Unit {0}

abbrev is_local : Meaning → Bool
is_local (one (bound.Local s) kind ws) = true
is_local m = false

-- a name that means a declaration means it where no local names are
outer_too : (o : Option scope_of.Local) (m : Meaning) (d : ℕ) (kind : Kind) (ws : List Want) → or_else (meaning_of_local o) m ≡ one (bound.Decl d) kind ws
    → m ≡ one (bound.Decl d) kind ws
outer_too None m d kind ws h = h
outer_too (Some l) m d kind ws h = absurd (true≢false (ap is_local h))

known_as : (site : Site) (known : ℕ → Known) (want : Want) (scope : Scope) (x : Name) (given : ℕ) (m : Meaning) (us rest : List Use)
    → meaning site scope x ≡ m → Begins (IsKnownUse site known) (name_use want x given m) us rest → IsKnownAs known m
known_as site known want scope x given nothing us rest e h = tt
known_as site known want scope x given (two_imports i j) us rest e h = tt
known_as site known want scope x given (one (bound.Decl d) kind ws) us rest e h =
    used_so (IsKnownUse site known) want x given (bound.Decl d) kind ws us rest h d x.text kind ws refl
    (outer_too (in_scope scope x.text) (outer_meaning site.units site.here x.text) d kind ws e)
known_as site known want scope x given (one (bound.BuiltIn y) kind ws) us rest e h = tt
known_as site known want scope x given (one (bound.Local y) kind ws) us rest e h = tt

bound_agrees : (b : Bound) (kind : Kind) (ws : List Want) (known : ℕ → Known) (env : Env) → env.known ≡ known → IsKnownAs known (one b kind ws)
    → Agree (target (Some b) env).kinds ws
bound_agrees (bound.Decl d) kind ws known env q h =
    subst (λ it. Agree (it d).kinds ws) (sym q) (subst (Agree (known d).kinds) (sym h) (agree (known d).kinds))
bound_agrees (bound.BuiltIn x) kind ws known env q h = tt
bound_agrees (bound.Local s) kind ws known env q h = local_agrees (local_at s env.locals) ws

-- what the next use is bound to has parameters of the kinds that its name means
name_agrees : (K : Use → Type 0) (want : Want) (x : Name) (given : ℕ) (m : Meaning) (known : ℕ → Known) (env : Env) (us rest : List Use) → env.known ≡ known
    → IsKnownAs known m → Begins K (name_use want x given m) us rest → Agree (target (bound_next us) env).kinds (wants m)
name_agrees K want x given nothing known env us rest q i h = absurd (not_none (e.Unknown x.span) h.0)
name_agrees K want x given (two_imports i j) known env us rest q p h = absurd (not_none (e.TwoImports x.span i j) h.0)
name_agrees K want x given (one b kind ws) known env us rest q i h =
    subst (λ o. Agree (target o env).kinds ws) (sym (ap bound_next (used K want x given b kind ws us rest h))) (bound_agrees b kind ws known env q i)

-- ---- arguments

module _ (site : Site) (known : ℕ → Known) where
  -- what is to be shown of forms
  abbrev pub IsTaken : ex.Expr → Type 0
  IsTaken a = (want : Want) (scope : Scope) (env : Env) (z : State) (m : Typed) (h : Typing a env z m) (rest : List Use) → env.known ≡ known
      → Begins (IsKnownUse site known) (findings site a want scope) z.uses rest → IsNamed a env z m h × (m.state.uses ≡ rest)

  -- and of arguments
  abbrev pub AreArgsTaken : ex.Exprs → Type 0
  AreArgsTaken xs = (i : ℕ) (kinds : List Kind) (us : List Ty) (ws : List Want) (scope : Scope) (env : Env) (z : State) (m : TypedArgs)
      (h : TypingArgs xs i kinds us env z m) (rest : List Use) → env.known ≡ known → Agree kinds ws
      → Begins (IsKnownUse site known) (arguments site xs ws scope) z.uses rest
      → AreArgsNamed xs i kinds us env z m h × (m.state.uses ≡ rest)

  -- the first of some arguments, of this kind, and those behind it
  abbrev pub Argument : Kind → ex.Expr → ex.Exprs → ℕ → List Kind → Ty → List Ty → Env → State → TypedArgs → Type 0
  Argument kind a xs i kinds u us env z m =
      (l : Typed) × Typing a env (before_argument kind z) l
      × ((r : TypedArgs) × TypingArgs xs (suc i) kinds us env (behind_argument kind (class_argument a env z) l) r
      × (m ≡ an_argument kind i u z.sites (class_argument a env z) l r))

  pub one_argument : (kind : Kind) (a : ex.Expr) (xs : ex.Exprs) (i : ℕ) (kinds : List Kind) (u : Ty) (us : List Ty) (want : Want) (ws : List Want)
      (scope : Scope) (env : Env) (z : State) (m : TypedArgs) (h : Argument kind a xs i kinds u us env z m) (rest : List Use) → IsTaken a → AreArgsTaken xs
      → env.known ≡ known → AgreesAt kind want → Agree kinds ws
      → Begins (IsKnownUse site known) (findings site a want scope ++ arguments site xs ws scope) z.uses rest
      → (ByKind kind (IsClassArgumentNamed a env z) (IsNamed a env (before_argument kind z) h.0 h.1)
      × AreArgsNamed xs (suc i) kinds us env (behind_argument kind (class_argument a env z) h.0) h.2.0 h.2.1) × (m.state.uses ≡ rest)
  one_argument k.Class a xs i kinds u us want ws scope env z m h rest ia ixs q g gs b =
      let fs = arguments site xs ws scope in
      let p = split (IsKnownUse site known) (findings site a want scope) fs z.uses rest b in
      let l = class_argument_taken (IsKnownUse site known) site a scope env z (all_uses fs ++ rest)
      (subst (λ v. Begins (IsKnownUse site known) (findings site a v scope) z.uses (all_uses fs ++ rest)) g p.0) in
      let r = ixs (suc i) kinds us ws scope env (class_argument a env z).state h.2.0 h.2.1 rest q gs (p.1, l.1, p.2) in
      ((l.0, r.0), ap (λ w. w.state.uses) h.2.2 ∙ r.1)
  one_argument k.Grammar a xs i kinds u us want ws scope env z m h rest ia ixs q g gs b =
      let fs = arguments site xs ws scope in
      let p = split (IsKnownUse site known) (findings site a want scope) fs z.uses rest b in
      let l = ia want scope env (before_argument k.Grammar z) h.0 h.1 (all_uses fs ++ rest) q p.0 in
      let r = ixs (suc i) kinds us ws scope env h.0.state h.2.0 h.2.1 rest q gs (p.1, l.1, p.2) in
      ((l.0, r.0), ap (λ w. w.state.uses) h.2.2 ∙ r.1)
  one_argument k.Value a xs i kinds u us want ws scope env z m h rest ia ixs q g gs b =
      let fs = arguments site xs ws scope in
      let p = split (IsKnownUse site known) (findings site a want scope) fs z.uses rest b in
      let l = ia want scope env z h.0 h.1 (all_uses fs ++ rest) q p.0 in
      let r = ixs (suc i) kinds us ws scope env h.0.state h.2.0 h.2.1 rest q gs (p.1, l.1, p.2) in
      ((l.0, r.0), ap (λ w. w.state.uses) h.2.2 ∙ r.1)
  one_argument k.Bits a xs i kinds u us want ws scope env z m h rest ia ixs q g gs b =
      let fs = arguments site xs ws scope in
      let p = split (IsKnownUse site known) (findings site a want scope) fs z.uses rest b in
      let l = ia want scope env z h.0 h.1 (all_uses fs ++ rest) q p.0 in
      let r = ixs (suc i) kinds us ws scope env h.0.state h.2.0 h.2.1 rest q gs (p.1, l.1, p.2) in
      ((l.0, r.0), ap (λ w. w.state.uses) h.2.2 ∙ r.1)

  -- ---- a name with its arguments

  abbrev pub Call : Kind → Name → ex.Exprs → Span → Env → State → Typed → Type 0
  Call kind x xs s env z m =
      (us : List Ty) × AreTypes (target (bound_next z.uses) env).vars us
      × ((r : TypedArgs) × TypingArgs xs 0 (target (bound_next z.uses) env).kinds (wanted_at (target (bound_next z.uses) env) us) env
      (after_variables (target (bound_next z.uses) env).vars (after_use z)) r
      × (m ≡ a_named (bound_next z.uses) kind s (texts_of xs) env us r))

  pub call : (kind : Kind) (x : Name) (xs : ex.Exprs) (s : Span) (want : Want) (scope : Scope) (env : Env) (z : State) (m : Typed)
      (h : Call kind x xs s env z m) (rest : List Use) → AreArgsTaken xs → env.known ≡ known
      → Begins (IsKnownUse site known) (name_use want x (count xs) (meaning site scope x) ++ arguments site xs (wants (meaning site scope x)) scope) z.uses rest
      → (IsNext x z.uses × AreArgsNamed xs 0 (target (bound_next z.uses) env).kinds (wanted_at (target (bound_next z.uses) env) h.0) env
      (after_variables (target (bound_next z.uses) env).vars (after_use z)) h.2.0 h.2.1) × (m.state.uses ≡ rest)
  call kind x xs s want scope env z m h rest ixs q b =
      let v = meaning site scope x in let fs = arguments site xs (wants v) scope in
      let o = bound_next z.uses in let it = target o env in
      let p = split (IsKnownUse site known) (name_use want x (count xs) v) fs z.uses rest b in
      let n = name_next (IsKnownUse site known) want x (count xs) v z.uses (all_uses fs ++ rest) p.0 in
      let i = known_as site known want scope x (count xs) v z.uses (all_uses fs ++ rest) refl p.0 in
      let g = name_agrees (IsKnownUse site known) want x (count xs) v known env z.uses (all_uses fs ++ rest) q i p.0 in
      let r = ixs 0 it.kinds (wanted_at it h.0) (wants v) scope env (after_variables it.vars (after_use z)) h.2.0 h.2.1 rest q g (p.1, n.1, p.2) in
      ((n.0, r.0), ap (λ w. w.state.uses) h.2.2 ∙ noted_uses o (texts_of xs) h.2.0.state ∙ r.1)
