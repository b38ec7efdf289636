-- Names of copies, and what handing on values does to an environment.
use Rattle.std.proofs.Common.{◌≡◌, ℕ, Bool, true, false, if◌then◌else◌, ◌==◌, List, [], ◌∷◌, ◌++◌, map, Option, Some, None, refl, ap, sym, ◌∙◌, arith, rules}
use Rattle.ddl_types.specs.Value.{Value, unit}
use Rattle.ddl_typed.specs.Tree.{Name, own, under, Expr}
use Rattle.ddl_typed.specs.Env.{Env, with_grammar, with_name, same_name, value_in, named_in}

pub equal_self : (x : ℕ) → (x == x) ≡ true
equal_self x = grind arith

pub equal_is : (x y : ℕ) → (x == y) ≡ true → x ≡ y
equal_is x y e = grind arith

if_true : (a b : Bool) → (if a then b else false) ≡ true → (a ≡ true) × (b ≡ true)
if_true true b e = (refl, e)
if_true false b e = absurd (search rules)

pub same_self : (n : Name) → same_name n n ≡ true
same_self (own x) = equal_self x
same_self (under g n) = rw (equal_self g, same_self n) refl

pub same_is : (n m : Name) → same_name n m ≡ true → n ≡ m
same_is (own x) (own y) e = ap own (equal_is x y e)
same_is (own x) (under h m) e = absurd (search rules)
same_is (under g n) (own y) e = absurd (search rules)
same_is (under g n) (under h m) e =
    let r = if_true (g == h) (same_name n m) e in
    ap (λ k. under k n) (equal_is g h r.0) ∙ ap (under h) (same_is n m r.1)

pub same_under : (x : ℕ) (m n : Name) → same_name (under x m) (under x n) ≡ same_name m n
same_under x m n = rw (equal_self x) refl

-- a name after one more
pub named_step : (m : Name) (v : Value) (env : Env) (n : Name) → named_in (with_name m v env) n ≡ (if same_name m n then Some v else named_in env n)
named_step (own x) v env (own y) = refl
named_step (own x) v env (under h m) = refl
named_step (under g n) v env (own y) = refl
named_step (under g n) v env (under h m) = refl

pub named_grammar : (x : ℕ) (p : Expr) (other env : Env) (n : Name) → named_in (with_grammar x p other env) n ≡ named_in env n
named_grammar x p other env (own y) = refl
named_grammar x p other env (under h m) = refl

-- equal at each of these names
abbrev pub Agree : List Name → (Name → Option Value) → (Name → Option Value) → Type 0
Agree [] look seen = Unit {0}
Agree (n ∷ ns) look seen = (look n ≡ seen n) × Agree ns look seen

pub agree_front : (ns ms : List Name) (look seen : Name → Option Value) → Agree (ns ++ ms) look seen → Agree ns look seen
agree_front [] ms look seen a = tt
agree_front (n ∷ ns) ms look seen (e, a) = (e, agree_front ns ms look seen a)

pub agree_back : (ns ms : List Name) (look seen : Name → Option Value) → Agree (ns ++ ms) look seen → Agree ms look seen
agree_back [] ms look seen a = a
agree_back (n ∷ ns) ms look seen (e, a) = agree_back ns ms look seen a

pub agree_under : (g : ℕ) (ns : List Name) (look seen : Name → Option Value) → Agree (map (under g) ns) look seen
    → Agree ns (λ n. look (under g n)) (λ n. seen (under g n))
agree_under g [] look seen a = tt
agree_under g (n ∷ ns) look seen (e, a) = (e, agree_under g ns look seen a)

pub agree_all : (ns : List Name) (look seen : Name → Option Value) → ((n : Name) → look n ≡ seen n) → Agree ns look seen
agree_all [] look seen e = tt
agree_all (n ∷ ns) look seen e = (e n, agree_all ns look seen e)

-- each of these names has a value
pub record Gives (o : Option Value) : Type 0 where
  pub value : Value
  pub is : o ≡ Some value

abbrev pub Have : List Name → (Name → Option Value) → Type 0
Have [] look = Unit {0}
Have (n ∷ ns) look = Gives (look n) × Have ns look

pub have_both : (ns ms : List Name) (look : Name → Option Value) → Have ns look → Have ms look → Have (ns ++ ms) look
have_both [] ms look h k = k
have_both (n ∷ ns) ms look (v, h) k = (v, have_both ns ms look h k)

pub have_under : (g : ℕ) (ns : List Name) (look : Name → Option Value) → Have ns (λ n. look (under g n)) → Have (map (under g) ns) look
have_under g [] look h = tt
have_under g (n ∷ ns) look (v, h) = (v, have_under g ns look h)

-- ---- handing on

abbrev pub value_or : Option Value → Value
value_or (Some v) = v
value_or None = unit

abbrev pub handed : (Name → Name) → (Name → Name) → List Name → Env → Env → Env
handed there here [] env to = to
handed there here (n ∷ ns) env to = handed there here ns env (with_name (there n) (value_or (named_in env (here n))) to)

pub handed_local : (x : ℕ) (here : Name → Name) (ns : List Name) (env to : Env) (y : ℕ) → value_in (handed (under x) here ns env to) y ≡ value_in to y
handed_local x here [] env to y = refl
handed_local x here (n ∷ ns) env to y = handed_local x here ns env (with_name (under x n) (value_or (named_in env (here n))) to) y

pub handed_other : (x : ℕ) (here : Name → Name) (ns : List Name) (env to : Env) (h : ℕ) → (x == h) ≡ false → (m : Name)
    → named_in (handed (under x) here ns env to) (under h m) ≡ named_in to (under h m)
handed_other x here [] env to h e m = refl
handed_other x here (n ∷ ns) env to h e m =
    handed_other x here ns env (with_name (under x n) (value_or (named_in env (here n))) to) h e m ∙ (rw e refl)

-- a name that has its value keeps it
step_keeps : (b : Bool) (v : Value) (o w : Option Value) → (b ≡ true → Some v ≡ w) → o ≡ w → (if b then Some v else o) ≡ w
step_keeps true v o w e k = e refl
step_keeps false v o w e k = k

value_is : (o : Option Value) → Gives o → Some (value_or o) ≡ o
value_is o g = rw g.is refl

pub handed_keeps : (there here : Name → Name) → ((m n : Name) → same_name (there m) (there n) ≡ same_name m n) → (ns : List Name) (env to : Env)
    → Have ns (λ n. named_in env (here n)) →
    (n : Name) → named_in to (there n) ≡ named_in env (here n) → named_in (handed there here ns env to) (there n) ≡ named_in env (here n)
handed_keeps there here law [] env to h n e = e
handed_keeps there here law (m ∷ ns) env to (v, h) n e =
    handed_keeps there here law ns env (with_name (there m) (value_or (named_in env (here m))) to) h n
    (named_step (there m) (value_or (named_in env (here m))) to (there n)
    ∙ step_keeps (same_name (there m) (there n)) _ _ _ (λ t. value_is (named_in env (here m)) v
    ∙ ap (λ k. named_in env (here k)) (same_is m n (sym (law m n) ∙ t))) e)

step_is : (b : Bool) (v : Value) (o : Option Value) → b ≡ true → (if b then Some v else o) ≡ Some v
step_is true v o e = refl
step_is false v o e = absurd (search rules)

pub handed_all : (there here : Name → Name) → ((m n : Name) → same_name (there m) (there n) ≡ same_name m n) → (ns : List Name) (env to : Env)
    → Have ns (λ n. named_in env (here n)) →
    Agree ns (λ n. named_in env (here n)) (λ n. named_in (handed there here ns env to) (there n))
handed_all there here law [] env to h = tt
handed_all there here law (n ∷ ns) env to (v, h) =
    let now : named_in (with_name (there n) (value_or (named_in env (here n))) to) (there n) ≡ named_in env (here n) =
    named_step (there n) (value_or (named_in env (here n))) to (there n) ∙ step_is (same_name (there n) (there n)) _ _ (law n n ∙ same_self n)
    ∙ value_is (named_in env (here n)) v in (
      sym (handed_keeps there here law ns env (with_name (there n) (value_or (named_in env (here n))) to) h n now),
      handed_all there here law ns env (with_name (there n) (value_or (named_in env (here n))) to) h,
    )
