-- What is asked of calls and turns at the depth below, and what a declaration of a form is.
use Rattle.std.proofs.Common.{◌≡◌, ℕ, List, sym, subst, ◌∙◌}
use Rattle.ddl_types.specs.Types.{Ty}
use Rattle.ddl_types.specs.Value.{Value, Values, Pairs, Stream, pair}
use Rattle.ddl_types.specs.Outcome.{Outcome}
use Rattle.ddl_typed.specs.Tree.{Expr, Spec}
use Rattle.ddl_typed.specs.Env.{Env}
use Rattle.ddl_ops.specs.Valued.{Valued}
use Rattle.ddl_typed.specs.Lower.{Lower}
use Rattle.ddl_typed.specs.Repetition.{Repetition}
use Rattle.ddl_typed.specs.Loops.{Fold, Each}
use Rattle.ddl_typed.specs.Meaning.{called, val, den}
use Rattle.ddl_typed.specs.Specification.{Place}
use Rattle.ddl_sound.specs.HasType.{HasType, AllHave, PairsHave, IsStream}
use Rattle.ddl_sound.specs.Context.{Context, name, turn_context}
use Rattle.ddl_sound.specs.BlockTypes.{type_of}
use Rattle.ddl_sound.specs.Typed.{Sort, Signature, IsDeclared, TypedValue, TypedGrammar, TypedAs, AreTyped}
use Rattle.ddl_sound.specs.BasicTypes.{array_type}
use Rattle.ddl_sound.specs.Sound.{Gives, Parses, EnvHas}
use Rattle.ddl_sound.proofs.Keys.{joined, Rising}
use Rattle.ddl_sound.proofs.Collections.{Gathered}

module _ (places : List Place) (spec : Spec) (signatures : ℕ → Signature) where
  abbrev Has : Value → Ty → Type 0
  Has w ty = HasType places spec.bits w ty

  abbrev Of : Ty → Valued → Type 0
  Of ty o = Gives (λ w. Has w ty) o

  abbrev Fine : Ty → Outcome → Type 0
  Fine ty o = Parses places spec.bits ty o

  abbrev Env_ : Env → Context → Type 0
  Env_ env Γ = EnvHas places spec.bits env Γ

  abbrev All : Values → Ty → Type 0
  All vs ty = AllHave places spec.bits vs ty

  abbrev Pairs_ : Pairs → Ty → Ty → Type 0
  Pairs_ ps key ty = PairsHave places spec.bits ps key ty

  abbrev V : Expr → Context → Type 0
  V e Γ = TypedValue places spec signatures e Γ

  abbrev G : Expr → Context → Type 0
  G e Γ = TypedGrammar places spec signatures e Γ

  -- the bodies of `for` and `map`, in their context
  abbrev FoldIs : (Expr → Context → Type 0) → Fold → Context → Ty → Ty → Ty → Type 0
  FoldIs P f Γ key element ty = P f.body (turn_context f.names key element (name f.result ty Γ)) × (type_of f.body ≡ ty)

  abbrev EachIs : (Expr → Context → Type 0) → Each → Context → Ty → Ty → Type 0
  EachIs P m Γ key element = P m.body (turn_context m.names key element Γ)

  abbrev pub Gathered_ : Each → Ty → Pairs → Type 0
  Gathered_ m key qs = Pairs_ qs key (type_of m.body) × Rising m.over_map qs

  -- so are calls and turns at the depth below
  pub record LowerFine (l : Lower) : Type 0 where
    pub den : (e : Expr) (Γ : Context) (env : Env) (s : Stream) → G e Γ → Env_ env Γ → IsStream s → Fine (type_of e) (l.den e env s)
    pub val : (e : Expr) (Γ : Context) (env : Env) → V e Γ → Env_ env Γ → Of (type_of e) (l.val e env)
    pub repeat : (r : Repetition) (Γ : Context) (env : Env) (xs : Values) (s : Stream) → G r.body Γ → Env_ env Γ → All xs (type_of r.body) → IsStream s →
        Fine (array_type (type_of r.body)) (l.repeat r env xs s)
    pub fold_value : (f : Fold) (Γ : Context) (key element ty : Ty) (env : Env) (so_far k w : Value) (ps : Pairs) → FoldIs V f Γ key element ty →
        Env_ env Γ → Has so_far ty → Has k key → Has w element → Pairs_ ps key element → Of ty (l.fold_value f env so_far k w ps)
    pub each_value : (m : Each) (Γ : Context) (key element : Ty) (env : Env) (done : Pairs) (k w : Value) (ps : Pairs) → EachIs V m Γ key element →
        Env_ env Γ → Pairs_ done key (type_of m.body) → Has k key → Has w element → Pairs_ ps key element → Rising m.over_map (joined done (pair k w ps)) →
        Gives (Gathered_ m key) (l.each_value m env done k w ps)
    pub fold : (f : Fold) (Γ : Context) (key element ty : Ty) (env : Env) (so_far k w : Value) (ps : Pairs) (s : Stream) → FoldIs G f Γ key element ty →
        Env_ env Γ → Has so_far ty → Has k key → Has w element → Pairs_ ps key element → IsStream s → Fine ty (l.fold f env so_far k w ps s)
    pub each : (m : Each) (Γ : Context) (key element ty : Ty) (env : Env) (done : Pairs) (k w : Value) (ps : Pairs) (s : Stream) →
        EachIs G m Γ key element → Gathered places spec.bits m.over_map key (type_of m.body) ty → Env_ env Γ → Pairs_ done key (type_of m.body) →
        Has k key → Has w element → Pairs_ ps key element → Rising m.over_map (joined done (pair k w ps)) → IsStream s → Fine ty (l.each m env done k w ps s)

  -- ---- declarations

  at_sort : (sort wanted : Sort) (e : Expr) (Γ : Context) → sort ≡ wanted → TypedAs places spec signatures sort e Γ →
      TypedAs places spec signatures wanted e Γ
  at_sort sort wanted e Γ same h = subst (λ q. TypedAs places spec signatures q e Γ) same h

  pub body_of : AreTyped places spec signatures → (f : ℕ) (wanted : Sort) (Γ : Context) (ty : Ty) → IsDeclared places spec signatures f wanted Γ ty →
      Gives (λ e. TypedAs places spec signatures wanted e Γ × (type_of e ≡ ty)) (called spec f)
  body_of bodies f wanted Γ ty (es, eg, et, (e, ee)) =
      let b = bodies f e ee in
      rw ee (at_sort (signatures f).sort wanted e Γ es (subst (λ q. TypedAs places spec signatures (signatures f).sort e q) (sym eg) b.0), b.1 ∙ sym et)
