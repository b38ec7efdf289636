-- What the program's values stand for.
use Rattle.std.specs.Prelude.{ℕ, List, map, get_or}
use Rattle.ddl_types.specs.TyView.{ty_view}
use Rattle.ddl_types.specs.CondView.{cond_view}
use Rattle.ddl_unify.specs.Equations.{equal}
use Rattle.ddl_judging.specs.Views.{demand_view}
use Rattle.ddl_typed.specs.SpecificationView.{place_view}
use Rattle.ddl_rules.specs.declared.ask.Ask.{Ask}
use Rattle.ddl_rules.specs.declared.ask.Ask.TheVariants as A
use Rattle.ddl_rules.specs.declared.known.Known.{Known}
use Rattle.ddl_rules.specs.declared.local.Local.{Local}
use Rattle.ddl_rules.specs.declared.elaboration.Elaboration.{Elaboration}
use Rattle.ddl_rules.specs.Asks as a

abbrev pub ask_view : Ask → a.Ask
ask_view (A.Equates wanted has s) = a.equates (equal (ty_view wanted) (ty_view has)) s
ask_view (A.Demands what s) = a.demands (demand_view what) s

abbrev pub known_view : Known → a.Known
known_view k = record { vars = k.vars; kinds = k.kinds.items; params = map ty_view k.params.items; of = ty_view k.of; conditions = map cond_view k.conds.items }

abbrev pub local_view : Local → a.Local
local_view l = record { at = l.at; kind = l.kind; number = l.number; of = ty_view l.of }

-- what is known of a declaration by its number
abbrev pub known_at : List Known → ℕ → a.Known
known_at ks n = get_or (map known_view ks) n a.unknown

-- what has been asked so far, in order
unfoldable pub asks_of : Elaboration → List a.Ask
asks_of e = map ask_view e.asks.items

unfoldable pub state_of : Elaboration → a.State
state_of e = record { uses = e.uses.now; next = e.next; places = map place_view e.places.items; texts = e.texts.items; sites = e.sites }

unfoldable pub env_of : Elaboration → a.Env
env_of e = record { locals = map local_view e.locals.items; known = known_at e.known.now }
