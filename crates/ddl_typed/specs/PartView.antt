-- What names of copies, sites and classes stand for.
use Rattle.std.specs.Prelude.{ℕ, List, [], ◌∷◌}
use Rattle.ddl_typed.specs.declared.parts.Name.{Name}
use Rattle.ddl_typed.specs.declared.parts.Site.{Site}
use Rattle.ddl_class.specs.Class.{contains}
use Rattle.ddl_typed.specs.declared.class.TClass.{TClass, TClass-F, fold-TClass}
use Rattle.ddl_typed.specs.Tree as t

-- a name under parameters, the outermost first
abbrev pub name_under : List ℕ → ℕ → t.Name
name_under [] x = t.own x
name_under (g ∷ gs) x = t.under g (name_under gs x)

abbrev pub name_view : Name → t.Name
name_view n = name_under n.under.items n.own

abbrev pub site_view : Site → t.Site
site_view s = record { place = s.place; values = s.values.items; grammars = s.grammars.items; classes = s.classes.items; types = s.types.items }

-- one level of a class, with the classes inside already seen
abbrev pub class_step : TClass-F t.Class → t.Class
class_step (TClass-F.Range from to) = t.range from to
class_step (TClass-F.Either c d) = t.or_ c.value d.value
class_step (TClass-F.Except c) = t.not_ c.value
class_step (TClass-F.Declared f) = t.declared f
class_step (TClass-F.Parameter x) = t.class_parameter x
class_step (TClass-F.Set c) = t.those (contains c)

unfoldable pub class_view : TClass → t.Class
class_view = fold-TClass t.Class class_step

-- one level, in terms of `class_view`
abbrev pub class_layer : TClass-F TClass → t.Class
class_layer (TClass-F.Range from to) = t.range from to
class_layer (TClass-F.Either c d) = t.or_ (class_view c.value) (class_view d.value)
class_layer (TClass-F.Except c) = t.not_ (class_view c.value)
class_layer (TClass-F.Declared f) = t.declared f
class_layer (TClass-F.Parameter x) = t.class_parameter x
class_layer (TClass-F.Set c) = t.those (contains c)
