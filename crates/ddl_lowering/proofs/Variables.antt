-- The variables of the core language and the names of the typed tree.
use Rattle.std.proofs.Common.{◌≡◌, ℕ, suc, Bool, true, false, if◌then◌else◌, List, [], ◌∷◌, Option, Some, None, refl, ap, ◌∙◌, rules}
use Rattle.ddl_types.specs.Types.{Ty, Tys}
use Rattle.ddl_types.specs.Value.{Value}
use Rattle.ddl_ops.specs.Valued.{gives, given, then_value}
use Rattle.ddl_typed.specs.Tree.{Name, own, under}
use Rattle.ddl_typed.specs.Env.{Env, empty, with_value, with_name, named_in, with_optional, closed, type_in, same_name}
use Rattle.ddl_mono.specs.Copies.{Scope}
use Rattle.ddl_mono.specs.IsMono.{IsClosed, AreClosed}
use Rattle.ddl_core.specs.Meaning.{at, all_at}
use Rattle.ddl_lowering.specs.Scopes.{index, has_name, shifted, named_at}
use Rattle.ddl_types.specs.Types.{var, con, none, on_all}
use Rattle.ddl_types.specs.Types as types

-- the values of variables, each with its name where it has one
pub data Zip : Type 0 where
  nil : Zip
  zip : Option Name → Value → Zip → Zip

abbrev pub scope : Zip → Scope
scope nil = []
scope (zip o v z) = o ∷ scope z

abbrev pub values : Zip → List Value
values nil = []
values (zip o v z) = v ∷ values z

abbrev pub look : Zip → Name → Option Value
look nil n = None
look (zip None v z) n = look z n
look (zip (Some m) v z) n = if same_name m n then Some v else look z n

pub record Matches (z : Zip) (env : Env) : Type 0 where
  pub by : (n : Name) → named_in env n ≡ look z n

at_if : (b : Bool) (v : Value) (vs : List Value) (i : ℕ) (o : Option Value) → at vs i ≡ o → at (v ∷ vs) (if b then 0 else suc i) ≡ (if b then Some v else o)
at_if true v vs i o e = refl
at_if false v vs i o e = e

pub at_index : (z : Zip) (n : Name) → at (values z) (index (scope z) n) ≡ look z n
at_index nil n = refl
at_index (zip None v z) n = at_index z n
at_index (zip (Some m) v z) n = at_if (same_name m n) v (values z) (index (scope z) n) (look z n) (at_index z n)

pub match_skip : {z : Zip} {env : Env} (v : Value) → Matches z env → Matches (zip None v z) env
match_skip v h = record { by = h.by }

named_step : (m : Name) (v : Value) (env : Env) (n : Name) → named_in (with_name m v env) n ≡ (if same_name m n then Some v else named_in env n)
named_step (own x) v env (own y) = refl
named_step (own x) v env (under h m) = refl
named_step (under g n) v env (own y) = refl
named_step (under g n) v env (under h m) = refl

pub match_name : {z : Zip} {env : Env} (m : Name) (v : Value) → Matches z env → Matches (zip (Some m) v z) (with_name m v env)
match_name {env = env} m v h = record { by = λ n. named_step m v env n ∙ ap (λ o. if same_name m n then Some v else o) (h.by n) }

pub match_value_name : {z : Zip} {env : Env} (x : ℕ) (v : Value) → Matches z env → Matches (zip (Some (own x)) v z) (with_value x v env)
match_value_name x v h = match_name (own x) v h

pub match_optional : {z : Zip} {env : Env} (o : Option ℕ) (v : Value) → Matches z env → Matches (zip (named_at o) v z) (with_optional o v env)
match_optional None v h = match_skip v h
match_optional (Some x) v h = match_value_name x v h

-- ---- lists of variables

pub all_shift : (v : Value) (env : List Value) (xs : List ℕ) → all_at (v ∷ env) (shifted xs) ≡ all_at env xs
all_shift v env [] = refl
all_shift v env (x ∷ xs) = cases (at env x) (all_shift v env xs)
  where
    cases : (o : Option Value) → all_at (v ∷ env) (shifted xs) ≡ all_at env xs
        → then_value (given o) (λ u. then_value (all_at (v ∷ env) (shifted xs)) (λ vs. gives (u ∷ vs)))
        ≡ then_value (given o) (λ u. then_value (all_at env xs) (λ vs. gives (u ∷ vs)))
    cases None e = refl
    cases (Some u) e = ap (λ o. then_value o (λ vs. gives (u ∷ vs))) e

-- ---- types without variables

mutual
  pub closed_closed : (env : Env) (ty : Ty) → IsClosed ty → closed env ty ≡ ty
  closed_closed env (var i) h = absurd h
  closed_closed env (con head ts) h = ap (con head) (all_closed env ts h)

  all_closed : (env : Env) (ts : Tys) → AreClosed ts → on_all ts (type_in env) ≡ ts
  all_closed env none h = refl
  all_closed env (types.more ty ts) (h, k) = ap (λ z. types.more z (on_all ts (type_in env))) (closed_closed env ty h)
      ∙ ap (types.more ty) (all_closed env ts k)

-- ---- names that are handed on

pub record IsThere (z : Zip) (n : Name) : Type 0 where
  pub value : Value
  pub is : look z n ≡ Some value

there_if : (b : Bool) (v : Value) (z : Zip) (n : Name) → (if b then true else has_name (scope z) n) ≡ true
    → (has_name (scope z) n ≡ true → IsThere z n) → (w : Value) × ((if b then Some v else look z n) ≡ Some w)
there_if true v z n e k = (v, refl)
there_if false v z n e k = ((k e).value, (k e).is)

pub is_there : (z : Zip) (n : Name) → has_name (scope z) n ≡ true → IsThere z n
is_there nil n e = absurd (search (rules, e))
is_there (zip None v z) n e = record { value = (is_there z n e).value; is = (is_there z n e).is }
is_there (zip (Some m) v z) n e = let r = there_if (same_name m n) v z n e (λ f. is_there z n f) in record { value = r.0; is = r.1 }

not_if : (b : Bool) (v : Value) (z : Zip) (n : Name) → (if b then true else has_name (scope z) n) ≡ false
    → (has_name (scope z) n ≡ false → look z n ≡ None) → (if b then Some v else look z n) ≡ None
not_if true v z n e k = absurd (search (rules, e))
not_if false v z n e k = k e

pub not_there : (z : Zip) (n : Name) → has_name (scope z) n ≡ false → look z n ≡ None
not_there nil n e = refl
not_there (zip None v z) n e = not_there z n e
not_there (zip (Some m) v z) n e = not_if (same_name m n) v z n e (λ f. not_there z n f)

pub none_named : (n : Name) → named_in empty n ≡ None
none_named (own x) = refl
none_named (under g n) = refl
