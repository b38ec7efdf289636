-- Environments whose values have the types of a context.
use Rattle.std.proofs.Common.{◌≡◌, ℕ, ◌==◌, Bool, true, false, if◌then◌else◌, List, [], ◌∷◌, ◌++◌, Option, Some, None, refl, sym, subst, rules}
use Rattle.ddl_types.specs.Layout.{Layout}
use Rattle.ddl_types.specs.Types.{Ty}
use Rattle.ddl_types.specs.Value.{Value, Fields, no_fields, field}
use Rattle.ddl_typed.specs.declared.parts.Binder.{Binder}
use Rattle.ddl_typed.specs.Tree.{Name, own, under, Item, plain, let_, result_}
use Rattle.ddl_typed.specs.Tree as tree
use Rattle.ddl_typed.specs.Env.{Env, empty, with_value, with_captured, with_name, same_name, value_in, captured_in, named_in, with_optional}
use Rattle.ddl_typed.specs.Loops.{with_element}
use Rattle.ddl_typed.specs.Blocks.{Built, add_field, with_part, bound, fields_or, result_or, block_value}
use Rattle.ddl_typed.specs.Specification.{Place}
use Rattle.ddl_sound.specs.HasType.{HasType}
use Rattle.ddl_sound.specs.Context.{Context, no_names, name, captured, context_with, local_type, captured_type, named_type, optional_name, turn_context}
use Rattle.ddl_sound.specs.BlockTypes.{type_of, form_of_item, context_after, Making, made_with, FinishedBy, FieldsOrLast, Finished}
use Rattle.ddl_sound.specs.Sound.{There, EnvHas}
use Rattle.ddl_sound.proofs.Reading.{none_some, some_is}
use Rattle.ddl_sound.proofs.Members.{FieldsAre, fields_record}

module _ (places : List Place) (layouts : List Layout) where
  abbrev Has : Value → Ty → Type 0
  Has w ty = HasType places layouts w ty

  abbrev Env_ : Env → Context → Type 0
  Env_ env Γ = EnvHas places layouts env Γ

  by_test : (b : Bool) (w : Value) (u ty : Ty) (o : Option Value) (p : Option Ty) → Has w u → (p ≡ Some ty → There (λ w. Has w ty) o) →
      (if b then Some u else p) ≡ Some ty → There (λ w. Has w ty) (if b then Some w else o)
  by_test true w u ty o p h k e = let same : u ≡ ty = some_is e in subst (λ q. Has w q) same h
  by_test false w u ty o p h k e = k e

  local_there : (env : Env) (Γ : Context) (x : ℕ) (ty : Ty) → Env_ env Γ → local_type Γ x ≡ Some ty → There (λ w. Has w ty) (value_in env x)
  local_there empty no_names x ty h e = absurd (none_some e)
  local_there (with_value y w env) (name z u Γ) x ty (same, h, k) e =
      subst (λ q. There (λ w. Has w ty) (if q == x then Some w else value_in env x)) (sym same)
      (by_test (z == x) w u ty (value_in env x) (local_type Γ x) h (local_there env Γ x ty k) e)
  local_there (with_captured g n w env) (captured i m u Γ) x ty (same, same2, h, k) e = local_there env Γ x ty k e
  local_there _ Γ x ty h e = absurd (search (rules, h))

  captured_there : (env : Env) (Γ : Context) (f : ℕ) (x : Name) (ty : Ty) → Env_ env Γ → captured_type Γ f x ≡ Some ty →
      There (λ w. Has w ty) (captured_in env f x)
  captured_there empty no_names f x ty h e = absurd (none_some e)
  captured_there (with_value y w env) (name z u Γ) f x ty (same, h, k) e = captured_there env Γ f x ty k e
  captured_there (with_captured g n w env) (captured i m u Γ) f x ty (same, same2, h, k) e =
      subst (λ q. There (λ w. Has w ty) (if same_name (under q n) (under f x) then Some w else captured_in env f x)) (sym same)
      (subst (λ q. There (λ w. Has w ty) (if same_name (under i q) (under f x) then Some w else captured_in env f x)) (sym same2)
      (by_test (same_name (under i m) (under f x)) w u ty (captured_in env f x) (captured_type Γ f x) h (captured_there env Γ f x ty k) e))
  captured_there _ Γ f x ty h e = absurd (search (rules, h))

  pub named_there : (env : Env) (Γ : Context) (n : Name) (ty : Ty) → Env_ env Γ → named_type Γ n ≡ Some ty → There (λ w. Has w ty) (named_in env n)
  named_there env Γ (own x) ty h e = local_there env Γ x ty h e
  named_there env Γ (under g n) ty h e = captured_there env Γ g n ty h e

  pub value_there : (env : Env) (Γ : Context) (x : ℕ) (ty : Ty) → Env_ env Γ → local_type Γ x ≡ Some ty → There (λ w. Has w ty) (value_in env x)
  value_there env Γ x ty h e = local_there env Γ x ty h e

  pub name_has : (n : Name) (w : Value) (ty : Ty) (env : Env) (Γ : Context) → Has w ty → Env_ env Γ → Env_ (with_name n w env) (context_with n ty Γ)
  name_has (own x) w ty env Γ h k = (refl, h, k)
  name_has (under g n) w ty env Γ h k = (refl, refl, h, k)

  pub optional_has : (x : Option ℕ) (w : Value) (ty : Ty) (env : Env) (Γ : Context) → Has w ty → Env_ env Γ →
      Env_ (with_optional x w env) (optional_name x ty Γ)
  optional_has None w ty env Γ h k = k
  optional_has (Some x) w ty env Γ h k = (refl, h, k)

  pub turn_has : (names : Binder) (k w : Value) (key element : Ty) (env : Env) (Γ : Context) → Has k key → Has w element → Env_ env Γ →
      Env_ (with_element names k w env) (turn_context names key element Γ)
  turn_has names k w key element env Γ h i e = (refl, i, optional_has names.key k key env Γ h e)

  -- ---- blocks

  abbrev pub OptHas : Option Value → Option Ty → Type 0
  OptHas (Some w) (Some ty) = Has w ty
  OptHas None None = Unit {0}
  OptHas o p = ⊥

  pub record BuiltHas (b : Built) (m : Making) : Type 0 where
    pub named : FieldsAre places layouts b.named m.names m.types
    pub result : OptHas b.result m.result
    pub last : Has b.last m.last

  add_are : (fs : Fields) (xs : List (List ℕ)) (tys : List Ty) (label : List ℕ) (w : Value) (u : Ty) → FieldsAre places layouts fs xs tys → Has w u →
      FieldsAre places layouts (add_field fs label w) (xs ++ label ∷ []) (tys ++ u ∷ [])
  add_are no_fields [] [] label w u h k = (refl, k, tt)
  add_are (field other x fs) (y ∷ xs) (ty ∷ tys) label w u (e, g, h) k = (e, g, add_are fs xs tys label w u h k)
  add_are _ xs tys label w u h k = absurd (search (rules, h))

  pub built_with : (i : Item) (w : Value) (b : Built) (m : Making) → BuiltHas b m → Has w (type_of (form_of_item i)) →
      BuiltHas (with_part i w b) (made_with i m)
  built_with (plain e) w b m h k = record { named = h.named; result = h.result; last = k }
  built_with (let_ x e) w b m h k = record { named = h.named; result = h.result; last = tt }
  built_with (tree.field label x e) w b m h k = record { named = add_are b.named m.names m.types label w (type_of e) h.named k; result = h.result; last = k }
  built_with (result_ e) w b m h k = record { named = h.named; result = k; last = k }

  pub bound_has : (i : Item) (w : Value) (env : Env) (Γ : Context) → Env_ env Γ → Has w (type_of (form_of_item i)) → Env_ (bound i w env) (context_after i Γ)
  bound_has (plain e) w env Γ h k = h
  bound_has (let_ x e) w env Γ h k = (refl, k, h)
  bound_has (tree.field label x e) w env Γ h k = (refl, k, h)
  bound_has (result_ e) w env Γ h k = h

  block_last : (fs : Fields) (last : Value) (xs : List (List ℕ)) (tys : List Ty) (u ty : Ty) → FieldsAre places layouts fs xs tys → Has last u →
      FieldsOrLast places xs tys u ty → Has (fields_or fs last) ty
  block_last no_fields last [] [] u ty h k e = subst (λ q. Has last q) e k
  block_last (field label w fs) last (x ∷ xs) (t ∷ tys) u ty h k e = fields_record places layouts x xs (t ∷ tys) ty (field label w fs) e h
  block_last _ last xs tys u ty h k e = absurd (search (rules, h))

  block_by : (r : Option Value) (o : Option Ty) (b : Built) (m : Making) (ty : Ty) → OptHas r o → FieldsAre places layouts b.named m.names m.types →
      Has b.last m.last → FinishedBy places o m ty → Has (result_or r b.named b.last) ty
  block_by (Some w) (Some u) b m ty h f l e = subst (λ q. Has w q) e h
  block_by None None b m ty h f l e = block_last b.named b.last m.names m.types m.last ty f l e
  block_by (Some w) None b m ty h f l e = absurd h
  block_by None (Some u) b m ty h f l e = absurd h

  pub block_is : (b : Built) (m : Making) (ty : Ty) → BuiltHas b m → Finished places m ty → Has (block_value b) ty
  block_is b m ty h e = block_by b.result m.result b m ty h.result h.named h.last e
