-- The form that a value of the program stands for, where the layouts of the bitdata are known.
use Rattle.std.specs.Prelude.{List, [], ◌∷◌, map}
use Rattle.ddl_core.specs.declared.form.Form.{Form, Form-F, fold-Form}
use Rattle.ddl_core.specs.declared.form.Alternative.{Alternative, Alternative-F, fold-Alternative}
use Rattle.ddl_types.specs.Layout.{Layout}
use Rattle.ddl_types.specs.Types.{Ty}
use Rattle.ddl_types.specs.TyView.{ty_view}
use Rattle.ddl_ops.specs.declared.pattern.Pattern.{Pattern}
use Rattle.ddl_core.specs.OperationView.{operation_view}
use Rattle.ddl_core.specs.Core as c

-- a pattern, the type of its content, and the form
pub record OneAlternative : Type 0 where
  pub pattern : Pattern
  pub of : Ty
  pub body : c.Form

abbrev pub alternatives_of : List OneAlternative → c.Alternatives
alternatives_of [] = c.none_left
alternatives_of (a ∷ as_) = c.when a.pattern a.of a.body (alternatives_of as_)

-- one level, with each part already seen
abbrev pub form_step : List Layout → Form-F c.Form OneAlternative → c.Form
form_step ls (Form-F.Give x) = c.give x
form_step ls (Form-F.Perform op xs span) = c.perform (operation_view ls op) xs.items span
form_step ls Form-F.Stop = c.none
form_step ls (Form-F.Bind ty g k) = c.bind (ty_view ty) g.value k.value
form_step ls (Form-F.Both l r) = c.both l.value r.value
form_step ls (Form-F.Attempt ty l k r) = c.attempt (ty_view ty) l.value k.value r.value
form_step ls (Form-F.Call f xs) = c.call f xs.items
form_step ls (Form-F.Case x as_ other) = c.case_ x (alternatives_of as_.items) other.value
form_step ls (Form-F.Loop tys xs body) = c.loop (map ty_view tys.items) xs.items body.value
form_step ls (Form-F.Again xs) = c.again xs.items
form_step ls (Form-F.Inside d g) = c.inside d g.value

abbrev pub alternative_step : Alternative-F c.Form OneAlternative → OneAlternative
alternative_step a = record { pattern = a.pattern; of = ty_view a.of; body = a.body }

unfoldable pub view : List Layout → Form → c.Form
view ls = fold-Form c.Form OneAlternative (form_step ls) alternative_step

unfoldable pub alternative_view : List Layout → Alternative → OneAlternative
alternative_view ls = fold-Alternative c.Form OneAlternative (form_step ls) alternative_step

abbrev pub alternatives_view : List Layout → List Alternative → c.Alternatives
alternatives_view ls as_ = alternatives_of (map (alternative_view ls) as_)

-- one level, in terms of the views
abbrev pub form_layer : List Layout → Form-F Form Alternative → c.Form
form_layer ls (Form-F.Give x) = c.give x
form_layer ls (Form-F.Perform op xs span) = c.perform (operation_view ls op) xs.items span
form_layer ls Form-F.Stop = c.none
form_layer ls (Form-F.Bind ty g k) = c.bind (ty_view ty) (view ls g.value) (view ls k.value)
form_layer ls (Form-F.Both l r) = c.both (view ls l.value) (view ls r.value)
form_layer ls (Form-F.Attempt ty l k r) = c.attempt (ty_view ty) (view ls l.value) (view ls k.value) (view ls r.value)
form_layer ls (Form-F.Call f xs) = c.call f xs.items
form_layer ls (Form-F.Case x as_ other) = c.case_ x (alternatives_view ls as_.items) (view ls other.value)
form_layer ls (Form-F.Loop tys xs body) = c.loop (map ty_view tys.items) xs.items (view ls body.value)
form_layer ls (Form-F.Again xs) = c.again xs.items
form_layer ls (Form-F.Inside d g) = c.inside d (view ls g.value)

abbrev pub alternative_layer : List Layout → Alternative-F Form Alternative → OneAlternative
alternative_layer ls a = record { pattern = a.pattern; of = ty_view a.of; body = view ls a.body }
