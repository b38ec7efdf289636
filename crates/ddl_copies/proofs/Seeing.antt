-- An environment and that of a copy, seen by a form: its values are the same, and its shapes fit.
use Rattle.std.proofs.Common.{◌≡◌, ℕ, zero, suc, Bool, true, List, [], ◌∷◌, Option, Some, None, refl, sym, ◌∙◌, rules}
use Rattle.ddl_types.specs.Types.{Ty}
use Rattle.ddl_types.specs.Value.{Value}
use Rattle.ddl_typed.specs.Tree.{Name, under, Expr, Args, Spec, no_args, by_value, by_grammar, by_class, by_type, by_hand}
use Rattle.ddl_typed.specs.declared.parts.Binder.{Binder}
use Rattle.ddl_typed.specs.Env.{Env, empty, with_value, with_grammar, with_class, with_type, with_name, named_in, closed, with_optional}
use Rattle.ddl_ops.specs.Valued.{Given, gives, given, then_value}
use Rattle.ddl_typed.specs.Lower.{Lower}
use Rattle.ddl_typed.specs.Loops.{with_element}
use Rattle.ddl_typed.specs.Meaning.{args_env}
use Rattle.ddl_copies.specs.Shapes.{Shape, Instance, Origin, no_parameters, grammar_at, class_at, type_at, origin_of, types_alone, captured, with_set}
use Rattle.ddl_copies.specs.Shapes.{closed_in, unit_types}
use Rattle.ddl_copies.specs.Copied.{name_here, hands_on}
use Rattle.ddl_copies.specs.Scoped.{FreshGrammar, FreshClass, FreshType, TypesGiven, IsSome, with_optional_name, names_in_turn}
use Rattle.ddl_mono.specs.IsMono.{IsClosed}
use Rattle.ddl_copies.proofs.Names.{equal_self, same_under, Agree, agree_all, Gives, Have, value_or, handed, handed_local, handed_other, handed_all}
use Rattle.ddl_ops.proofs.Near.{Half}
use Rattle.ddl_ops.proofs.Meeting.{Meets}
use Rattle.ddl_copies.proofs.Fitting.{SameValues, Stands, Real, Fits, values_more, real_agree, real_have, fits_more, fits_type, fits_class, closed_same}
use Rattle.ddl_copies.proofs.Fitting.{closed_closed, types_env}

module _ (spec : Spec) (params : ℕ → List ℕ) (Needed : Origin → Type 0) where
  pub record Sees (c : ℕ) (σs : Instance) (vs : List ℕ) (env copy : Env) : Type 0 where
    pub same : SameValues vs env (named_in copy)
    pub fits : Fits spec params Needed c σs (named_in copy) env

  pub sees_more : {c : ℕ} {σs : Instance} {vs : List ℕ} {env copy : Env} (x : ℕ) (v : Value) → Sees c σs vs env copy
      → Sees c σs (x ∷ vs) (with_value x v env) (with_value x v copy)
  sees_more {c = c} {σs = σs} {vs = vs} {env = env} {copy = copy} x v h =
      record { same = values_more vs env copy x v h.same; fits = fits_more spec params Needed c σs copy env x v h.fits }

  pub sees_optional : {c : ℕ} {σs : Instance} {vs : List ℕ} {env copy : Env} (o : Option ℕ) (v : Value) → Sees c σs vs env copy
      → Sees c σs (with_optional_name o vs) (with_optional o v env) (with_optional o v copy)
  sees_optional None v h = h
  sees_optional (Some x) v h = sees_more x v h

  pub sees_turn : {c : ℕ} {σs : Instance} {vs : List ℕ} {env copy : Env} (names : Binder) (k v : Value) → Sees c σs vs env copy
      → Sees c σs (names_in_turn names vs) (with_element names k v env) (with_element names k v copy)
  sees_turn names k v h = sees_more names.element v (sees_optional names.key k h)

  pub sees_type : {c : ℕ} {τs : Instance} {zs : List ℕ} {to copy : Env} (x : ℕ) (ty inner : Ty) → ty ≡ inner → IsClosed inner → FreshType x τs
      → Sees c τs zs to copy → Sees c (type_at x inner τs) zs (with_type x ty to) copy
  sees_type {c = c} {τs = τs} {to = to} {copy = copy} x ty inner e k n h = record {
    same = λ y i. record { value = (h.same y i).value; here = (h.same y i).here; there = (h.same y i).there };
    fits = ((rw (equal_self x) e), k, fits_type spec params Needed c τs (named_in copy) to x ty n h.fits);
  }

  pub sees_class : {c : ℕ} {τs : Instance} {zs : List ℕ} {to copy : Env} (x : ℕ) (set : ℕ → Bool) → FreshClass x τs → Sees c τs zs to copy
      → Sees c (class_at x set τs) zs (with_class x set to) copy
  sees_class {c = c} {τs = τs} {to = to} {copy = copy} x set n h = record {
    same = λ y i. record { value = (h.same y i).value; here = (h.same y i).here; there = (h.same y i).there };
    fits = ((rw (equal_self x) refl), fits_class spec params Needed c τs (named_in copy) to x set n h.fits);
  }

  -- the new parameter's argument, with what it captured handed on
  pub sees_grammar : (c : ℕ) (τs : Instance) (zs : List ℕ) (x : ℕ) (p : Expr) (σ : Shape) (env copy to to' : Env) → FreshGrammar x τs
      → Stands c (Real spec params Needed c σ (λ n. named_in copy (name_here p n))) p env → Needed (origin_of σ) →
      Sees c τs zs to to' → Sees c (grammar_at x σ τs) zs (with_grammar x p env to) (handed (under x) (name_here p) (captured σ) copy to')
  sees_grammar c τs zs x p σ env copy to to' fresh st needed h =
      let look : Name → Option Value = λ n. named_in copy (name_here p n) in
      let have : Have (captured σ) look = real_have spec params Needed c σ look st.form st.last st.real in
      let agree : Agree (captured σ) look (λ n. named_in (handed (under x) (name_here p) (captured σ) copy to') (under x n)) =
      handed_all (under x) (name_here p) (same_under x) (captured σ) copy to' have in
      record {
        same = λ y i. record {
          value = (h.same y i).value;
          here = (h.same y i).here;
          there = handed_local x (name_here p) (captured σ) copy to' y
              ∙ (h.same y i).there;
        };
        fits = (
          record {
            form = p;
            env = env;
            is = rw (equal_self x) refl;
            stands = record {
              form = st.form;
              last = st.last;
              leads = st.leads;
              real = real_agree spec params Needed c σ look (λ n. named_in (handed (under x) (name_here p) (captured σ) copy to') (under x n)) st.form st.last
                  agree st.real;
            };
          },
          needed,
          others τs fresh h.fits,
        );
      }
    where
      others : (τs : Instance) → FreshGrammar x τs → Fits spec params Needed c τs (named_in to') to
          → Fits spec params Needed c τs (named_in (handed (under x) (name_here p) (captured σ) copy to')) (with_grammar x p env to)
      others no_parameters fresh fits = tt
      others (grammar_at g υ τs) (e, fresh) (found, needed, fits) = (
        record {
          form = found.form;
          env = found.env;
          is = (rw e refl) ∙ found.is;
          stands = record {
            form = found.stands.form;
            last = found.stands.last;
            leads = found.stands.leads;
            real = real_agree spec params Needed c υ (λ n. named_in to' (under g n)) (λ n.
                named_in (handed (under x) (name_here p) (captured σ) copy to') (under g n)) found.stands.form found.stands.last
                (agree_all (captured υ) (λ n. named_in to' (under g n)) (λ n. named_in (handed (under x) (name_here p) (captured σ) copy to') (under g n)) (λ n.
                sym (handed_other x (name_here p) (captured σ) copy to' g e n)))
                found.stands.real;
          };
        },
        needed,
        others τs fresh fits,
      )
      others (class_at y set τs) fresh (e, fits) = (e, others τs fresh fits)
      others (type_at j ty τs) fresh (e, k, fits) = (e, k, others τs fresh fits)

  pub sees_nothing : {c : ℕ} → Sees c no_parameters [] empty empty
  sees_nothing = record { same = λ x i. absurd i; fits = tt }

  pub units_fit : (c n : ℕ) (look : Name → Option Value) → Fits spec params Needed c (unit_types n) look empty
  units_fit c zero look = tt
  units_fit c (suc n) look = (refl, tt, units_fit c n look)

  -- a type in the copy
  pub type_there : {c : ℕ} {σs : Instance} {vs : List ℕ} {env copy : Env} (ty : Ty) → TypesGiven ty σs → Sees c σs vs env copy
      → closed env ty ≡ closed copy (closed_in σs ty)
  type_there {c = c} {σs = σs} {env = env} {copy = copy} ty i h =
      let r = closed_same spec params Needed c ty σs (named_in copy) env i h.fits in r.0 ∙ sym (closed_closed copy (closed_in σs ty) r.1)

-- ---- arguments

-- values that are handed on
given_value : (o : Option Value) (k : Value → Given Env) → Gives o → then_value (given o) k ≡ k (value_or o)
given_value o k g = (rw g.is refl)

pub env_hands : (made : Spec) (l : Lower) (to here : Name → Name) (ns : List Name) (rest : Args) (env to_ : Env) → Have ns (λ n. named_in env (here n)) →
    args_env made l (hands_on to here ns rest) env to_ ≡ args_env made l rest env (handed to here ns env to_)
env_hands made l to here [] rest env to_ h = refl
env_hands made l to here (n ∷ ns) rest env to_ (v, h) =
    given_value (named_in env (here n)) (λ w. args_env made l (hands_on to here ns rest) env (with_name (to n) w to_)) v
    ∙ env_hands made l to here ns rest env (with_name (to n) (value_or (named_in env (here n))) to_) h

-- types alone
pub env_types : (spec : Spec) (l : Lower) (args : Args) (env to_ : Env) → types_alone args ≡ true
    → args_env spec l args env to_ ≡ gives (types_env args env to_)
env_types spec l no_args env to_ only = refl
env_types spec l (by_value x e args) env to_ only = absurd (search (rules, only))
env_types spec l (by_grammar x site e args) env to_ only = absurd (search (rules, only))
env_types spec l (by_class x c args) env to_ only = absurd (search (rules, only))
env_types spec l (by_type x ty args) env to_ only = env_types spec l args env (with_type x (closed env ty) to_) only
env_types spec l (by_hand there here args) env to_ only = absurd (search (rules, only))

-- a class argument
pub given_class : {h : Half} (o : Option (ℕ → Bool)) (P : Instance → Type 0) (Q : Instance → Env → Env → Type 0) (k : (ℕ → Bool)
    → Given Env) (q : Given Env) (x : ℕ) (τs : Instance) → IsSome o → P (with_set o x τs) →
    ((set : ℕ → Bool) → P (class_at x set τs) → Meets h (Q (class_at x set τs)) (k set) q) → Meets h (Q (with_set o x τs)) (then_value (given o) k) q
given_class (Some set) P Q k q x τs some p e = e set p
given_class None P Q k q x τs some p e = absurd some
