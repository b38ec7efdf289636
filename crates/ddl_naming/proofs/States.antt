-- The rules leave the uses of names as they found them.
use Rattle.std.proofs.Common.{◌≡◌, ℕ, List, [], ◌∷◌, Option, Some, None, refl}
use Rattle.ddl_base.specs.declared.span.Span.{Span}
use Rattle.ddl_kinds.specs.declared.bound.Bound.{Bound}
use Rattle.ddl_kinds.specs.declared.bound.Bound.TheVariants as b
use Rattle.ddl_kinds.specs.declared.builtin.BuiltIn.{BuiltIn}
use Rattle.ddl_kinds.specs.declared.builtin.BuiltIn.TheVariants as builtin
use Rattle.ddl_tree.specs.declared.name.Name.{Name}
use Rattle.ddl_tree.specs.declared.operator.CastOp.{CastOp}
use Rattle.ddl_tree.specs.declared.operator.CastOp.TheVariants as cast
use Rattle.ddl_tree.specs.declared.operator.PrefixOp.{PrefixOp}
use Rattle.ddl_tree.specs.declared.operator.PrefixOp.TheVariants as prefix
use Rattle.ddl_tree.specs.declared.pattern.Binder.{Binder}
use Rattle.ddl_tree.specs.declared.pattern.Binder.TheVariants.{Called, Ignored}
use Rattle.ddl_tree.specs.declared.pattern.Pat.{Pat}
use Rattle.ddl_tree.specs.declared.pattern.Pat.TheVariants as p
use Rattle.ddl_types.specs.Types.{Ty}
use Rattle.ddl_rules.specs.Asks.{Env, State}
use Rattle.ddl_rules.specs.Patterns.{with_binder, with_content, with_names}
use Rattle.ddl_typing.specs.Branches.{pattern_env}
use Rattle.ddl_typing.specs.Grammars.{block_by}
use Rattle.ddl_typing.specs.Names.{noted}
use Rattle.ddl_typing.specs.Operators.{a_cast, a_prefix}
use Rattle.ddl_typing.specs.Typed.{Typed, TypedItems, TypedNamed, TypedType}
use Rattle.ddl_typing.specs.Values.{record_by}

-- ---- states

pub prefix_uses : (o : PrefixOp) (s : Span) (l : Typed) → (a_prefix o s l).state.uses ≡ l.state.uses
prefix_uses prefix.Negate s l = refl
prefix_uses prefix.Not s l = refl
prefix_uses prefix.Complement s l = refl

pub cast_uses : (o : CastOp) (s : Span) (l : Typed) (u : TypedType) → (a_cast o s l u).state.uses ≡ u.state.uses
cast_uses cast.Lossless s l u = refl
cast_uses cast.Cut s l u = refl
cast_uses cast.Fit s l u = refl

pub record_uses : (xs : List (List ℕ)) (s : Span) (r : TypedNamed) → (record_by xs s r).state.uses ≡ r.state.uses
record_uses [] s r = refl
record_uses (x ∷ xs) s r = refl

pub block_uses : (o : Option Ty) (xs : List (List ℕ)) (s : Span) (r : TypedItems) → (block_by o xs s r).state.uses ≡ r.state.uses
block_uses (Some u) xs s r = refl
block_uses None [] s r = refl
block_uses None (x ∷ xs) s r = refl

pub noted_uses : (o : Option Bound) (xs : List (List ℕ)) (z : State) → (noted o xs z).uses ≡ z.uses
noted_uses (Some (b.Decl d)) xs z = refl
noted_uses (Some (b.Local s)) xs z = refl
noted_uses None xs z = refl
noted_uses (Some (b.BuiltIn x)) xs z = of_builtin x xs
  where
    of_builtin : (x : BuiltIn) (xs : List (List ℕ)) → (noted (Some (b.BuiltIn x)) xs z).uses ≡ z.uses
    of_builtin builtin.Fail [] = refl
    of_builtin builtin.Fail (x ∷ []) = refl
    of_builtin builtin.Fail (x ∷ x2 ∷ xs) = refl
    of_builtin other xs = refl

-- ---- what is known of declarations stays known where a name comes into scope

pub names_known : (s : Span) (o : Option Name) (k v : Ty) (env : Env) → (with_names s o k v env).known ≡ env.known
names_known s None k v env = refl
names_known s (Some x) k v env = refl

binder_known : (x : Binder) (c : Ty) (env : Env) → (with_binder x c env).known ≡ env.known
binder_known (Called x) c env = refl
binder_known (Ignored s) c env = refl

content_known : (x : Option Binder) (c : Ty) (env : Env) → (with_content x c env).known ≡ env.known
content_known None c env = refl
content_known (Some x) c env = binder_known x c env

pub pattern_known : (q : Pat) (c : Ty) (env : Env) → (pattern_env q c env).known ≡ env.known
pattern_known (p.Any s) c env = refl
pattern_known (p.Num n) c env = refl
pattern_known (p.Char b s) c env = refl
pattern_known (p.True s) c env = refl
pattern_known (p.False s) c env = refl
pattern_known (p.Nothing s) c env = refl
pattern_known (p.Just b s) c env = binder_known b c env
pattern_known (p.Tag x b s) c env = content_known b c env
