-- Classes as they are written, with what binds their names.
use Rattle.std.specs.Prelude.{◌≡◌, ℕ, List, [], ◌∷◌, ◌++◌, nat_le, if◌then◌else◌, Option, Some, None}
use Rattle.ddl_kinds.specs.declared.bound.Bound.{Bound}
use Rattle.ddl_kinds.specs.declared.bound.Bound.TheVariants as b
use Rattle.ddl_tree.specs.declared.name.ByteLit.{ByteLit}
use Rattle.ddl_tree.specs.declared.name.ByteLit.TheVariants.{Code, Quoted}
use Rattle.ddl_tree.specs.ClassTree as y
use Rattle.ddl_types.specs.Conditions.{lit}
use Rattle.ddl_typed.specs.Tree.{Class, range, or_, not_, declared, class_parameter}
use Rattle.ddl_typed.specs.PartView.{class_view}
use Rattle.ddl_typed.specs.declared.class.TClass.{TClass}
use Rattle.ddl_rules.specs.declared.elaboration.Elaboration.{Elaboration}
use Rattle.ddl_rules.specs.Asks.{Ask, Env, Local, State, asks_for, word, local_at, bound_next, after_use}
use Rattle.ddl_rules.specs.Steps.{GoesOn}

-- a byte that is written as a number has to be one; a number that is none counts as 0, since it is asked for
abbrev pub byte_of : ByteLit → ℕ
byte_of (Code n) = if nat_le n.value 255 then n.value else 0
byte_of (Quoted b s) = b

abbrev pub byte_asks : ByteLit → List Ask
byte_asks (Code n) = asks_for (lit n.value (word 8)) n.span ∷ []
byte_asks (Quoted b s) = []

-- a class, what it asks in text order, and what is left
pub record MadeClass : Type 0 where
  pub class : Class
  pub asks : List Ask
  pub state : State

abbrev pub number_of : Option Local → ℕ
number_of None = 0
number_of (Some l) = l.number

-- the class that a name is bound to
abbrev pub named_class : Env → Option Bound → Class
named_class env (Some (b.Decl n)) = declared n
named_class env (Some (b.Local s)) = class_parameter (number_of (local_at s env.locals))
named_class env other = class_parameter 0

abbrev pub class_made : y.Cls → Env → State → MadeClass
class_made (y.Union a b s) env z = let l = class_made a env z in let r =
    class_made b env l.state in record { class = or_ l.class r.class; asks = l.asks ++ r.asks; state = r.state }
class_made (y.One b) env z = record { class = range (byte_of b) (byte_of b); asks = byte_asks b; state = z }
class_made (y.Range a b s) env z = record { class = range (byte_of a) (byte_of b); asks = byte_asks a ++ byte_asks b; state = z }
class_made (y.Known x) env z = record { class = named_class env (bound_next z.uses); asks = []; state = after_use z }
class_made (y.Other c s) env z = let r = class_made c env z in record { class = not_ r.class; asks = r.asks; state = r.state }
class_made (y.Grouped c s) env z = class_made c env z
class_made (y.Set c s) env z = class_made c env z

-- this is the class, and elaboration goes on so
pub record IsClass (c : TClass) (m : MadeClass) (env : Env) (old now : Elaboration) : Type 0 where
  pub made : class_view c ≡ m.class
  pub goes_on : GoesOn m.asks m.state env old now
