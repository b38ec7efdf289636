-- The names that are left in scope are those that stood there before others were bound.
use Rattle.std.proofs.Common.{◌≡◌, ℕ, ◌≤◌, ◌∷◌, length, Some, None, refl, ◌∙◌, arith}
use Rattle.ddl_tree.specs.declared.name.Name.{Name}
use Rattle.ddl_tree.specs.declared.pattern.Names.{Names}
use Rattle.ddl_tree.specs.declared.pattern.Binder.{Binder}
use Rattle.ddl_tree.specs.declared.pattern.Binder.TheVariants.{Called, Ignored}
use Rattle.ddl_tree.specs.declared.pattern.Pat.{Pat}
use Rattle.ddl_tree.specs.declared.pattern.Pat.TheVariants as pat
use Rattle.ddl_tree.specs.ExprTree as ex
use Rattle.std.specs.Prelude.{Option}
use Rattle.ddl_uses.specs.Scope.{Scope, after_binder, after_item, after_names, after_pattern, after_second, outermost, value}
use Rattle.ddl_uses.proofs.Outermost.{outermost_more}

after_second_left : (n : ℕ) (o : Option Name) (s : Scope) → n ≤ length s → outermost n (after_second o s) ≡ outermost n s
after_second_left n None s h = refl
after_second_left n (Some x) s h = outermost_more n (value x) s h

pub names_left : (n : ℕ) (ns : Names) (s : Scope) → n ≤ length s → outermost n (after_names ns s) ≡ outermost n s
names_left n ns s h = after_second_left n ns.second (value ns.first ∷ s) (omega arith) ∙ outermost_more n (value ns.first) s h

binder_left : (n : ℕ) (b : Binder) (s : Scope) → n ≤ length s → outermost n (after_binder b s) ≡ outermost n s
binder_left n (Called x) s h = outermost_more n (value x) s h
binder_left n (Ignored s') s h = refl

pub pattern_left : (n : ℕ) (p : Pat) (s : Scope) → n ≤ length s → outermost n (after_pattern p s) ≡ outermost n s
pattern_left n (pat.Any t) s h = refl
pattern_left n (pat.Num k) s h = refl
pattern_left n (pat.Char b t) s h = refl
pattern_left n (pat.True t) s h = refl
pattern_left n (pat.False t) s h = refl
pattern_left n (pat.Nothing t) s h = refl
pattern_left n (pat.Just b t) s h = binder_left n b s h
pattern_left n (pat.Tag x None t) s h = refl
pattern_left n (pat.Tag x (Some b) t) s h = binder_left n b s h

pub item_left : (n : ℕ) (i : ex.Item) (s : Scope) → n ≤ length s → outermost n (after_item i s) ≡ outermost n s
item_left n (ex.Result e t) s h = refl
item_left n (ex.Let x e t) s h = outermost_more n (value x) s h
item_left n (ex.Field x e t) s h = outermost_more n (value x) s h
item_left n (ex.Plain e) s h = refl

pub item_longer : (i : ex.Item) (s : Scope) → length s ≤ length (after_item i s)
item_longer (ex.Result e t) s = omega arith
item_longer (ex.Let x e t) s = omega arith
item_longer (ex.Field x e t) s = omega arith
item_longer (ex.Plain e) s = omega arith

pub ruleset lefts = (names_left, pattern_left, item_left, item_longer)
