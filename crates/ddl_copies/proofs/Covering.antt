-- An instance covers what is in scope: it says what each parameter and each variable there stands for.
use Rattle.std.proofs.Common.{◌≡◌, ◌⊎◌, inl, inr, ℕ, zero, suc, Bool, true, false, if◌then◌else◌, ◌==◌, ◌||◌, ◌<◌, List, [], ◌∷◌, Option, Some, None, refl}
use Rattle.std.proofs.Common.{ap, subst, sym, ◌∙◌, arith, rules}
use Rattle.ddl_tree.specs.declared.kind.Kind.{Kind}
use Rattle.ddl_tree.specs.declared.kind.Kind.TheVariants as k
use Rattle.ddl_types.specs.Types.{Ty, Tys, var, con, none, Each, EachOf}
use Rattle.ddl_types.specs.Types as t
use Rattle.ddl_ops.specs.ByteSets.{Set}
use Rattle.ddl_typed.specs.Tree.{Class, range, or_, not_, declared, class_parameter, those, Site, Expr, Args, Spec, no_args, by_value}
use Rattle.ddl_typed.specs.Tree.{by_grammar, by_class, by_type, by_hand}
use Rattle.ddl_typed.specs.Env.{class_in}
use Rattle.ddl_typed.specs.Classes.{class_set, union, others}
use Rattle.ddl_typed.specs.Specification.{Specification, spec_of}
use Rattle.ddl_mono.specs.Copies.{is_value_kind}
use Rattle.ddl_copies.specs.Shapes.{Shape, Instance, no_parameters, grammar_at, class_at, type_at, shape_of, static_env, closed_in, has, used_at}
use Rattle.ddl_copies.specs.Shapes.{argument_shape, with_set, call_instance, unit_types}
use Rattle.ddl_copies.specs.Scoped.{In, AllIn, IsSome, TypesGiven, AllTypesGiven, ClassesGiven, GivesClass, GivesType, FreshGrammar, FreshClass, FreshType}
use Rattle.ddl_copies.specs.Scoped.{value_names}
use Rattle.ddl_copies.specs.Valid.{Statics, statics_of, is_grammar_kind, is_class_kind, numbers_of, numbers_below, Matches, TypesInOrder, ClassBound}
use Rattle.ddl_copies.proofs.Names.{equal_self, equal_is}

pub record Covers (σs : Instance) (S : Statics) : Type 0 where
  pub grammars : (g : ℕ) → In g S.grammars → IsSome (shape_of σs g)
  pub classes : (x : ℕ) → In x S.classes → GivesClass σs x
  pub types : (i : ℕ) → In i S.types → GivesType σs i

-- ---- lists

in_has : (x : ℕ) (xs : List ℕ) → In x xs → has x xs ≡ true
in_has x [] i = absurd i
in_has x (y ∷ ys) (inl e) = first (x == y) (subst (λ z. (z == y) ≡ true) e (equal_self y))
  where
    first : (b : Bool) → b ≡ true → (b || has x ys) ≡ true
    first true h = refl
    first false h = absurd (search (rules, h))
in_has x (y ∷ ys) (inr i) = later (x == y) (in_has x ys i)
  where
    later : (b : Bool) → has x ys ≡ true → (b || has x ys) ≡ true
    later true h = refl
    later false h = h

pub all_in : (x : ℕ) (xs ys : List ℕ) → AllIn xs ys → In x xs → In x ys
all_in x [] ys a i = absurd i
all_in x (w ∷ ws) ys (h, a) (inl e) = subst (λ z. In z ys) e h
all_in x (w ∷ ws) ys (h, a) (inr i) = all_in x ws ys a i

-- ---- what a place lists

used_shape : (site : Site) (σs : Instance) (g : ℕ) → has g site.grammars ≡ true → IsSome (shape_of σs g) → IsSome (shape_of (used_at site σs) g)
used_shape site no_parameters g e i = absurd i
used_shape site (grammar_at h σ τs) g e i = cases (h == g) refl (has h site.grammars) refl i (λ j. used_shape site τs g e j)
  where
    cases : (b : Bool) → (h == g) ≡ b → (c : Bool) → has h site.grammars ≡ c → IsSome (if b then Some σ else shape_of τs g) →
        (IsSome (shape_of τs g) → IsSome (shape_of (used_at site τs) g)) → IsSome (shape_of (if c then grammar_at h σ (used_at site τs) else used_at site τs) g)
    cases true n true m j r = rw n tt
    cases true n false m j r = let no : false ≡ true = sym m ∙ (ap (λ z. has z site.grammars) (equal_is h g n) ∙ e) in absurd (search (rules, no))
    cases false n true m j r = rw n (r j)
    cases false n false m j r = r j
used_shape site (class_at x set τs) g e i = cases (has x site.classes) (used_shape site τs g e i)
  where
    cases : (c : Bool) → IsSome (shape_of (used_at site τs) g) → IsSome (shape_of (if c then class_at x set (used_at site τs) else used_at site τs) g)
    cases true r = r
    cases false r = r
used_shape site (type_at j ty τs) g e i = cases (has j site.types) (used_shape site τs g e i)
  where
    cases : (c : Bool) → IsSome (shape_of (used_at site τs) g) → IsSome (shape_of (if c then type_at j ty (used_at site τs) else used_at site τs) g)
    cases true r = r
    cases false r = r

used_class : (site : Site) (σs : Instance) (x : ℕ) → has x site.classes ≡ true → GivesClass σs x → GivesClass (used_at site σs) x
used_class site no_parameters x e i = absurd i
used_class site (grammar_at h σ τs) x e i = cases (has h site.grammars) (used_class site τs x e i)
  where
    cases : (c : Bool) → GivesClass (used_at site τs) x → GivesClass (if c then grammar_at h σ (used_at site τs) else used_at site τs) x
    cases true r = r
    cases false r = r
used_class site (class_at y set τs) x e i = cases (has y site.classes) refl i (λ j. used_class site τs x e j)
  where
    cases : (c : Bool) → has y site.classes ≡ c → ((y ≡ x) ⊎ GivesClass τs x) → (GivesClass τs x → GivesClass (used_at site τs) x) →
        GivesClass (if c then class_at y set (used_at site τs) else used_at site τs) x
    cases true m (inl n) r = inl n
    cases true m (inr j) r = inr (r j)
    cases false m (inl n) r = let no : false ≡ true = sym m ∙ (ap (λ z. has z site.classes) n ∙ e) in absurd (search (rules, no))
    cases false m (inr j) r = r j
used_class site (type_at j ty τs) x e i = cases (has j site.types) (used_class site τs x e i)
  where
    cases : (c : Bool) → GivesClass (used_at site τs) x → GivesClass (if c then type_at j ty (used_at site τs) else used_at site τs) x
    cases true r = r
    cases false r = r

used_type : (site : Site) (σs : Instance) (v : ℕ) → has v site.types ≡ true → GivesType σs v → GivesType (used_at site σs) v
used_type site no_parameters v e i = absurd i
used_type site (grammar_at h σ τs) v e i = cases (has h site.grammars) (used_type site τs v e i)
  where
    cases : (c : Bool) → GivesType (used_at site τs) v → GivesType (if c then grammar_at h σ (used_at site τs) else used_at site τs) v
    cases true r = r
    cases false r = r
used_type site (class_at x set τs) v e i = cases (has x site.classes) (used_type site τs v e i)
  where
    cases : (c : Bool) → GivesType (used_at site τs) v → GivesType (if c then class_at x set (used_at site τs) else used_at site τs) v
    cases true r = r
    cases false r = r
used_type site (type_at j ty τs) v e i = cases (has j site.types) refl i (λ h. used_type site τs v e h)
  where
    cases : (c : Bool) → has j site.types ≡ c → ((j ≡ v) ⊎ GivesType τs v) → (GivesType τs v → GivesType (used_at site τs) v) →
        GivesType (if c then type_at j ty (used_at site τs) else used_at site τs) v
    cases true m (inl n) r = inl n
    cases true m (inr h) r = inr (r h)
    cases false m (inl n) r = let no : false ≡ true = sym m ∙ (ap (λ z. has z site.types) n ∙ e) in absurd (search (rules, no))
    cases false m (inr h) r = r h

pub covers_site : (site : Site) (σs : Instance) (S : Statics) → Covers σs S → AllIn site.grammars S.grammars → AllIn site.classes S.classes
    → AllIn site.types S.types →
    Covers (used_at site σs) (statics_of site)
covers_site site σs S c gs cs ts = record {
  grammars = λ g i. used_shape site σs g (in_has g site.grammars i) (c.grammars g (all_in g site.grammars S.grammars gs i));
  classes = λ x i. used_class site σs x (in_has x site.classes i) (c.classes x (all_in x site.classes S.classes cs i));
  types = λ v i. used_type site σs v (in_has v site.types i) (c.types v (all_in v site.types S.types ts i));
}

-- ---- types and classes

mutual
  pub types_given : (ty : Ty) (σs : Instance) (S : Statics) → Covers σs S → Each (λ v. In v S.types) ty → TypesGiven ty σs
  types_given (var v) σs S c i = c.types v i
  types_given (con h ts) σs S c i = all_types_given ts σs S c i

  all_types_given : (ts : Tys) (σs : Instance) (S : Statics) → Covers σs S → EachOf (λ v. In v S.types) ts → AllTypesGiven ts σs
  all_types_given none σs S c i = tt
  all_types_given (t.more ty ts) σs S c (i, is) = (types_given ty σs S c i, all_types_given ts σs S c is)

class_known : (σs : Instance) (x : ℕ) → GivesClass σs x → IsSome (class_in (static_env σs) x)
class_known no_parameters x i = absurd i
class_known (grammar_at h σ τs) x i = class_known τs x i
class_known (class_at y set τs) x i = cases (y == x) refl i (λ j. class_known τs x j)
  where
    cases : (b : Bool) → (y == x) ≡ b → ((y ≡ x) ⊎ GivesClass τs x) → (GivesClass τs x → IsSome (class_in (static_env τs) x))
        → IsSome (if b then Some set else class_in (static_env τs) x)
    cases true n j r = tt
    cases false n (inl m) r = absurd (search (rules, sym n ∙ subst (λ z. (y == z) ≡ true) m (equal_self y)))
    cases false n (inr j) r = r j
class_known (type_at j ty τs) x i = class_known τs x i

union_some : (a b : Option Set) → IsSome a → IsSome b → IsSome (union a b)
union_some (Some f) (Some g) h k = tt
union_some (Some f) None h k = absurd k
union_some None b h k = absurd h

others_some : (a : Option Set) → IsSome a → IsSome (others a)
others_some (Some f) h = tt
others_some None h = absurd h

pub class_given : (s : Specification) (c : Class) (σs : Instance) (S : Statics) → Covers σs S → ClassBound s c S.classes →
    ClassesGiven c σs × IsSome (class_set (spec_of s) c (static_env σs))
class_given s (range from to) σs S c b = (tt, tt)
class_given s (or_ d e) σs S c (b, f) =
    let r = class_given s d σs S c b in
    let q = class_given s e σs S c f in
    ((r.0, q.0), union_some (class_set (spec_of s) d (static_env σs)) (class_set (spec_of s) e (static_env σs)) r.1 q.1)
class_given s (not_ d) σs S c b = let r = class_given s d σs S c b in (r.0, others_some (class_set (spec_of s) d (static_env σs)) r.1)
class_given s (declared f) σs S c b = (tt, b)
class_given s (class_parameter x) σs S c b = (c.classes x b, class_known σs x (c.classes x b))
class_given s (those test) σs S c b = (tt, tt)

-- ---- arguments and the parameters that they are for

pub record After (x i : ℕ) (kind : Kind) (args : Args) (kinds : List Kind) : Type 0 where
  pub rest : List Kind
  pub is : kinds ≡ kind ∷ rest
  pub same : x ≡ i
  pub more : Matches args (suc i) rest

pub after_value : (x : ℕ) (e : Expr) (args : Args) (i : ℕ) (kinds : List Kind) → Matches (by_value x e args) i kinds → After x i k.Value args kinds
after_value x e args i [] a = absurd a
after_value x e args i (k.Value ∷ kinds) (same, more) = record { rest = kinds; is = refl; same = same; more = more }
after_value x e args i (k.Grammar ∷ kinds) a = absurd a
after_value x e args i (k.Class ∷ kinds) a = absurd a
after_value x e args i (k.Bits ∷ kinds) a = absurd a

pub after_grammar : (x : ℕ) (site : Site) (e : Expr) (args : Args) (i : ℕ) (kinds : List Kind) → Matches (by_grammar x site e args) i kinds
    → After x i k.Grammar args kinds
after_grammar x site e args i [] a = absurd a
after_grammar x site e args i (k.Grammar ∷ kinds) (same, more) = record { rest = kinds; is = refl; same = same; more = more }
after_grammar x site e args i (k.Value ∷ kinds) a = absurd a
after_grammar x site e args i (k.Class ∷ kinds) a = absurd a
after_grammar x site e args i (k.Bits ∷ kinds) a = absurd a

pub after_class : (x : ℕ) (c : Class) (args : Args) (i : ℕ) (kinds : List Kind) → Matches (by_class x c args) i kinds → After x i k.Class args kinds
after_class x c args i [] a = absurd a
after_class x c args i (k.Class ∷ kinds) (same, more) = record { rest = kinds; is = refl; same = same; more = more }
after_class x c args i (k.Value ∷ kinds) a = absurd a
after_class x c args i (k.Grammar ∷ kinds) a = absurd a
after_class x c args i (k.Bits ∷ kinds) a = absurd a

-- the value parameters are those to which arguments give values
pub value_numbers : (args : Args) (i : ℕ) (kinds : List Kind) (zs : List ℕ) → Matches args i kinds → numbers_of is_value_kind i kinds zs ≡ value_names args zs
value_numbers no_args i [] zs a = refl
value_numbers no_args i (kind ∷ kinds) zs a = absurd a
value_numbers (by_value x e args) i kinds zs a =
    let r = after_value x e args i kinds a in
    ap (λ z. numbers_of is_value_kind i z zs) r.is ∙ value_numbers args (suc i) r.rest (i ∷ zs) r.more ∙ ap (λ y. value_names args (y ∷ zs)) (sym r.same)
value_numbers (by_grammar x site e args) i kinds zs a =
    let r = after_grammar x site e args i kinds a in ap (λ z. numbers_of is_value_kind i z zs) r.is ∙ value_numbers args (suc i) r.rest zs r.more
value_numbers (by_class x c args) i kinds zs a =
    let r = after_class x c args i kinds a in ap (λ z. numbers_of is_value_kind i z zs) r.is ∙ value_numbers args (suc i) r.rest zs r.more
value_numbers (by_type x ty args) i kinds zs a = value_numbers args i kinds zs a
value_numbers (by_hand there here args) i kinds zs a = absurd a

-- ---- the instance of a call

set_given : (o : Option Set) (x : ℕ) (τs : Instance) → IsSome o → GivesClass (with_set o x τs) x
set_given None x τs i = absurd i
set_given (Some set) x τs i = inl refl

class_kept : (o : Option Set) (x : ℕ) (τs : Instance) (y : ℕ) → GivesClass τs y → GivesClass (with_set o x τs) y
class_kept None x τs y g = g
class_kept (Some set) x τs y g = inr g

type_kept : (o : Option Set) (x : ℕ) (τs : Instance) (v : ℕ) → GivesType τs v → GivesType (with_set o x τs) v
type_kept None x τs v g = g
type_kept (Some set) x τs v g = g

shape_kept : (o : Option Set) (x : ℕ) (τs : Instance) (g : ℕ) → IsSome (shape_of τs g) → IsSome (shape_of (with_set o x τs) g)
shape_kept None x τs g i = i
shape_kept (Some set) x τs g i = i

shape_more : (h : ℕ) (σ : Shape) (τs : Instance) (g : ℕ) → ((h ≡ g) ⊎ IsSome (shape_of τs g)) → IsSome (shape_of (grammar_at h σ τs) g)
shape_more h σ τs g i = cases (h == g) refl i
  where
    cases : (b : Bool) → (h == g) ≡ b → ((h ≡ g) ⊎ IsSome (shape_of τs g)) → IsSome (if b then Some σ else shape_of τs g)
    cases true n j = tt
    cases false n (inl m) = absurd (search (rules, sym n ∙ subst (λ z. (h == z) ≡ true) m (equal_self h)))
    cases false n (inr j) = j

module _ (spec : Spec) (σs : Instance) where
  -- the bytes of each class that is an argument are known
  abbrev pub Sets : Args → Type 0
  Sets no_args = Unit {0}
  Sets (by_value x e args) = Sets args
  Sets (by_grammar x site e args) = Sets args
  Sets (by_class x c args) = IsSome (class_set spec c (static_env σs)) × Sets args
  Sets (by_type x ty args) = Sets args
  Sets (by_hand there here args) = Sets args

  abbrev pub υ : Args → Instance → Instance
  υ args τs = call_instance spec args σs τs

  call_grammars : (args : Args) (i : ℕ) (kinds : List Kind) (zs : List ℕ) (τs : Instance) → Matches args i kinds → ((g : ℕ) → In g zs → IsSome (shape_of τs g))
      →
      (g : ℕ) → In g (numbers_of is_grammar_kind i kinds zs) → IsSome (shape_of (υ args τs) g)
  call_grammars no_args i [] zs τs a h g j = h g j
  call_grammars no_args i (kind ∷ kinds) zs τs a h g j = absurd a
  call_grammars (by_value x e args) i kinds zs τs a h g j =
      let r = after_value x e args i kinds a in call_grammars args (suc i) r.rest zs τs r.more h g
      (subst (λ z. In g (numbers_of is_grammar_kind i z zs)) r.is j)
  call_grammars (by_grammar x site e args) i kinds zs τs a h g j =
      let r = after_grammar x site e args i kinds a in
      call_grammars args (suc i) r.rest (i ∷ zs) (grammar_at x (argument_shape site e (used_at site σs)) τs) r.more
      (λ f k. shape_more x (argument_shape site e (used_at site σs)) τs f (at f r.same k)) g (subst (λ z. In g (numbers_of is_grammar_kind i z zs)) r.is j)
    where
      at : (f : ℕ) → x ≡ i → ((i ≡ f) ⊎ In f zs) → (x ≡ f) ⊎ IsSome (shape_of τs f)
      at f same (inl e) = inl (same ∙ e)
      at f same (inr k) = inr (h f k)
  call_grammars (by_class x c args) i kinds zs τs a h g j =
      let r = after_class x c args i kinds a in
      call_grammars args (suc i) r.rest zs (with_set (class_set spec c (static_env σs)) x τs) r.more (λ f k.
      shape_kept (class_set spec c (static_env σs)) x τs f (h f k)) g
      (subst (λ z. In g (numbers_of is_grammar_kind i z zs)) r.is j)
  call_grammars (by_type x ty args) i kinds zs τs a h g j = call_grammars args i kinds zs (type_at x (closed_in σs ty) τs) a h g j
  call_grammars (by_hand there here args) i kinds zs τs a h g j = absurd a

  call_classes : (args : Args) (i : ℕ) (kinds : List Kind) (zs : List ℕ) (τs : Instance) → Matches args i kinds → Sets args
      → ((x : ℕ) → In x zs → GivesClass τs x) →
      (x : ℕ) → In x (numbers_of is_class_kind i kinds zs) → GivesClass (υ args τs) x
  call_classes no_args i [] zs τs a q h y j = h y j
  call_classes no_args i (kind ∷ kinds) zs τs a q h y j = absurd a
  call_classes (by_value x e args) i kinds zs τs a q h y j =
      let r = after_value x e args i kinds a in call_classes args (suc i) r.rest zs τs r.more q h y (subst (λ z. In y (numbers_of is_class_kind i z zs)) r.is j)
  call_classes (by_grammar x site e args) i kinds zs τs a q h y j =
      let r = after_grammar x site e args i kinds a in
      call_classes args (suc i) r.rest zs (grammar_at x (argument_shape site e (used_at site σs)) τs) r.more q h y
      (subst (λ z. In y (numbers_of is_class_kind i z zs)) r.is j)
  call_classes (by_class x c args) i kinds zs τs a (some, q) h y j =
      let r = after_class x c args i kinds a in
      call_classes args (suc i) r.rest (i ∷ zs) (with_set (class_set spec c (static_env σs)) x τs) r.more q (λ f l. at f r.same l) y
      (subst (λ z. In y (numbers_of is_class_kind i z zs)) r.is j)
    where
      at : (f : ℕ) → x ≡ i → ((i ≡ f) ⊎ In f zs) → GivesClass (with_set (class_set spec c (static_env σs)) x τs) f
      at f same (inl e) = subst (λ z. GivesClass (with_set (class_set spec c (static_env σs)) x τs) z) (same
          ∙ e) (set_given (class_set spec c (static_env σs)) x τs some)
      at f same (inr l) = class_kept (class_set spec c (static_env σs)) x τs f (h f l)
  call_classes (by_type x ty args) i kinds zs τs a q h y j = call_classes args i kinds zs (type_at x (closed_in σs ty) τs) a q h y j
  call_classes (by_hand there here args) i kinds zs τs a q h y j = absurd a

  below_next : (v j : ℕ) → v < suc j → (v ≡ j) ⊎ (v < j)
  below_next zero zero lt = inl refl
  below_next zero (suc j) lt = inr (omega arith)
  below_next (suc v) zero lt = absurd (omega (arith, lt))
  below_next (suc v) (suc j) lt = up (below_next v j (omega (arith, lt)))
    where
      up : (v ≡ j) ⊎ (v < j) → (suc v ≡ suc j) ⊎ (suc v < suc j)
      up (inl e) = inl (ap suc e)
      up (inr h) = inr (omega (arith, h))

  call_types : (args : Args) (j n : ℕ) (τs : Instance) → TypesInOrder args j n → ((v : ℕ) → v < j → GivesType τs v) → (v : ℕ) → v < n → GivesType (υ args τs) v
  call_types no_args j n τs a h v lt = h v (omega (arith, a, lt))
  call_types (by_value x e args) j n τs a h v lt = call_types args j n τs a h v lt
  call_types (by_grammar x site e args) j n τs a h v lt = call_types args j n (grammar_at x (argument_shape site e (used_at site σs)) τs) a h v lt
  call_types (by_class x c args) j n τs a h v lt =
      call_types args j n (with_set (class_set spec c (static_env σs)) x τs) a (λ w l. type_kept (class_set spec c (static_env σs)) x τs w (h w l)) v lt
  call_types (by_type x ty args) j n τs (same, a) h v lt = call_types args (suc j) n (type_at x (closed_in σs ty) τs) a (λ w l. at w (below_next w j l)) v lt
    where
      at : (w : ℕ) → (w ≡ j) ⊎ (w < j) → (x ≡ w) ⊎ GivesType τs w
      at w (inl e) = inl (same ∙ sym e)
      at w (inr l) = inr (h w l)
  call_types (by_hand there here args) j n τs a h v lt = call_types args j n τs a h v lt

  in_below : (n v : ℕ) → In v (numbers_below n) → v < n
  in_below zero v i = absurd i
  in_below (suc n) v (inl e) = omega (arith, e)
  in_below (suc n) v (inr i) = omega (arith, in_below n v i)

  pub call_covers : (args : Args) (kinds : List Kind) (n : ℕ) → Matches args 0 kinds → TypesInOrder args 0 n → Sets args →
      Covers (υ args no_parameters) (record {
        grammars = numbers_of is_grammar_kind 0 kinds [];
        classes = numbers_of is_class_kind 0 kinds [];
        types =
            numbers_below n;
      })
  call_covers args kinds n a b q = record {
    grammars = call_grammars args 0 kinds [] no_parameters a (λ g j. absurd j);
    classes = call_classes args 0 kinds [] no_parameters a q (λ x j. absurd j);
    types = λ v i. call_types args 0 n no_parameters b (λ w l. absurd (omega (arith, l))) v (in_below n v i);
  }

-- the entry has no parameters, and `{}` for each of its variables
units_types : (n v : ℕ) → In v (numbers_below n) → GivesType (unit_types n) v
units_types zero v i = absurd i
units_types (suc n) v (inl e) = inl e
units_types (suc n) v (inr i) = inr (units_types n v i)

pub units_cover : (n : ℕ) → Covers (unit_types n) (record { grammars = []; classes = []; types = numbers_below n })
units_cover n = record { grammars = λ g i. absurd i; classes = λ x i. absurd i; types = units_types n }

-- ---- parameters of an instance have smaller numbers

abbrev pub Smaller : Instance → ℕ → ℕ → Type 0
Smaller no_parameters i j = Unit {0}
Smaller (grammar_at h σ τs) i j = (h < i) × Smaller τs i j
Smaller (class_at x set τs) i j = (x < i) × Smaller τs i j
Smaller (type_at v ty τs) i j = (v < j) × Smaller τs i j

pub smaller_next : (τs : Instance) (i j : ℕ) → Smaller τs i j → Smaller τs (suc i) j
smaller_next no_parameters i j s = tt
smaller_next (grammar_at h σ τs) i j (lt, s) = (omega (arith, lt), smaller_next τs i j s)
smaller_next (class_at x set τs) i j (lt, s) = (omega (arith, lt), smaller_next τs i j s)
smaller_next (type_at v ty τs) i j (lt, s) = (lt, smaller_next τs i j s)

pub smaller_types : (τs : Instance) (i j : ℕ) → Smaller τs i j → Smaller τs i (suc j)
smaller_types no_parameters i j s = tt
smaller_types (grammar_at h σ τs) i j (lt, s) = (lt, smaller_types τs i j s)
smaller_types (class_at x set τs) i j (lt, s) = (lt, smaller_types τs i j s)
smaller_types (type_at v ty τs) i j (lt, s) = (omega (arith, lt), smaller_types τs i j s)

pub smaller_set : (o : Option Set) (x i j : ℕ) (τs : Instance) → x ≡ i → Smaller τs i j → Smaller (with_set o x τs) (suc i) j
smaller_set None x i j τs e s = smaller_next τs i j s
smaller_set (Some set) x i j τs e s = (omega (arith, e), smaller_next τs i j s)

other : (x h i : ℕ) → x ≡ i → h < i → (x == h) ≡ false
other x h i e lt = grind (arith, e, lt)

pub fresh_grammar : (x i j : ℕ) (τs : Instance) → x ≡ i → Smaller τs i j → FreshGrammar x τs
fresh_grammar x i j no_parameters e s = tt
fresh_grammar x i j (grammar_at h σ τs) e (lt, s) = (other x h i e lt, fresh_grammar x i j τs e s)
fresh_grammar x i j (class_at y set τs) e (lt, s) = fresh_grammar x i j τs e s
fresh_grammar x i j (type_at v ty τs) e (lt, s) = fresh_grammar x i j τs e s

pub fresh_class : (x i j : ℕ) (τs : Instance) → x ≡ i → Smaller τs i j → FreshClass x τs
fresh_class x i j no_parameters e s = tt
fresh_class x i j (grammar_at h σ τs) e (lt, s) = fresh_class x i j τs e s
fresh_class x i j (class_at y set τs) e (lt, s) = (other x y i e lt, fresh_class x i j τs e s)
fresh_class x i j (type_at v ty τs) e (lt, s) = fresh_class x i j τs e s

pub fresh_type : (x i j : ℕ) (τs : Instance) → x ≡ j → Smaller τs i j → FreshType x τs
fresh_type x i j no_parameters e s = tt
fresh_type x i j (grammar_at h σ τs) e (lt, s) = fresh_type x i j τs e s
fresh_type x i j (class_at y set τs) e (lt, s) = fresh_type x i j τs e s
fresh_type x i j (type_at v ty τs) e (lt, s) = (other x v j e lt, fresh_type x i j τs e s)
