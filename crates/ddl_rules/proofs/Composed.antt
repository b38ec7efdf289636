-- Steps of elaboration one after the other.
use Rattle.std.proofs.Common.{◌≡◌, List, [], ◌∷◌, ◌++◌, refl, ap, sym, ◌∙◌, subst}
use Rattle.std.proofs.lemmas.List.{append_assoc}
use Rattle.ddl_base.specs.declared.span.Span.{Span}
use Rattle.ddl_tree.specs.TypeTree as y
use Rattle.ddl_types.specs.TyView.{ty_view}
use Rattle.ddl_types.specs.declared.ty.Ty as program
use Rattle.ddl_rules.specs.declared.elaboration.Elaboration.{Elaboration}
use Rattle.ddl_rules.specs.Asks.{Ask, State, Env, map_type}
use Rattle.ddl_tree.specs.ClassTree as cls
use Rattle.ddl_typed.specs.Tree.{or_}
use Rattle.ddl_typed.specs.PartView.{class_view}
use Rattle.ddl_typed.specs.declared.class.TClass.{TClass}
use Rattle.ddl_rules.specs.ClassForms.{IsClass, class_made}
use Rattle.ddl_rules.specs.Steps.{GoesOn}
use Rattle.ddl_rules.specs.Views.{asks_of, state_of, env_of}
use Rattle.ddl_rules.specs.Writing.{IsWritten, Written, written}

pub none_added : {X : Type 0} (xs : List X) → xs ≡ xs ++ []
none_added [] = refl
none_added (x ∷ xs) = ap (λ ys. x ∷ ys) (none_added xs)

-- nothing is asked, and nothing changes
pub stays : (e : Elaboration) → GoesOn [] (state_of e) (env_of e) e e
stays e = record { asked = none_added (asks_of e); stated = refl; scoped = refl }

-- what is asked by one step and then by the next
pub goes_both : {xs ys : List Ask} {s z : State} {e f : Env} {old mid now : Elaboration} → GoesOn xs s e old mid → GoesOn ys z f mid now
    → GoesOn (xs ++ ys) z f old now
goes_both {xs} {ys} {s} {z} {e} {f} {old} a b = record {
  asked = b.asked ∙ ap (λ as_. as_ ++ ys) a.asked ∙ append_assoc (asks_of old) xs ys;
  stated =
      b.stated;
  scoped = b.scoped;
}

-- a written type that changes nothing
pub written_here : (t : program.Ty) (w : Written) (e : Elaboration) → ty_view t ≡ w.of → w.state ≡ state_of e → IsWritten t w (env_of e) e e
written_here t w e typed same = record { typed = typed; goes_on = record { asked = none_added (asks_of e); stated = sym same; scoped = refl } }

-- the two parts of a map, written one after the other
pub written_both : (t u : y.TypeExpr) (s : Span) (k v m : program.Ty) (old mid now : Elaboration)
    → IsWritten k (written (env_of old).known t (state_of old)) (env_of old) old mid
    → IsWritten v (written (env_of mid).known u (state_of mid)) (env_of mid) mid now → ty_view m ≡ map_type (ty_view k) (ty_view v)
    → IsWritten m (written (env_of old).known (y.MapOf t u s) (state_of old)) (env_of old) old now
written_both t u s k v m old mid now a b e =
    let l = written (env_of old).known t (state_of old) in
    let P : State → Type 0 = λ z. IsWritten v (written (env_of mid).known u z) (env_of mid) mid now in
    let Q : Env → Type 0 = λ f. IsWritten v (written f.known u l.state) f mid now in
    let second : IsWritten v (written (env_of old).known u l.state) (env_of old) mid now = subst Q a.goes_on.scoped (subst P a.goes_on.stated b) in
    record { typed = e ∙ ap (λ x. map_type x (ty_view v)) a.typed ∙ ap (map_type l.of) second.typed; goes_on = goes_both a.goes_on second.goes_on }

-- the two parts of a union of classes, one after the other
pub class_both : (a b : cls.Cls) (s : Span) (l r m : TClass) (old mid now : Elaboration)
    → IsClass l (class_made a (env_of old) (state_of old)) (env_of old) old mid → IsClass r (class_made b (env_of mid) (state_of mid)) (env_of mid) mid now
    → class_view m ≡ or_ (class_view l) (class_view r) → IsClass m (class_made (cls.Union a b s) (env_of old) (state_of old)) (env_of old) old now
class_both a b s l r m old mid now first then e =
    let made = class_made a (env_of old) (state_of old) in
    let P : State → Type 0 = λ z. IsClass r (class_made b (env_of mid) z) (env_of mid) mid now in
    let Q : Env → Type 0 = λ f. IsClass r (class_made b f made.state) f mid now in
    let second : IsClass r (class_made b (env_of old) made.state) (env_of old) mid now = subst Q first.goes_on.scoped (subst P first.goes_on.stated then) in
    record { made = e ∙ ap (λ x. or_ x (class_view r)) first.made ∙ ap (or_ made.class) second.made; goes_on = goes_both first.goes_on second.goes_on }
