-- The small core language, as definitions see it.
use Rattle.std.specs.Prelude.{ℕ, Bool, List, Option}
use Rattle.ddl_base.specs.declared.span.Span.{Span}
use Rattle.ddl_types.specs.declared.num.NumType.{NumType}
use Rattle.ddl_types.specs.Types.{Ty}
use Rattle.ddl_ops.specs.declared.operators.Infix.{Infix}
use Rattle.ddl_ops.specs.declared.operators.Prefix.{Prefix}
use Rattle.ddl_ops.specs.declared.operators.Cast.{Cast}
use Rattle.ddl_ops.specs.declared.operators.Builtin.{Builtin}
use Rattle.ddl_ops.specs.declared.operators.Primitive.{Primitive}
use Rattle.ddl_ops.specs.declared.pattern.Pattern.{Pattern}
use Rattle.ddl_ops.specs.Casts.{Target}

-- what is done with values, and, from `uint8` on, what is done on the stream
pub data Operation : Type 0 where
  text : List ℕ → Operation
  literal : ℕ → Option NumType → Operation
  truth : Bool → Operation
  unit_ : Operation
  nothing_ : Operation
  just_ : Operation
  list : Operation
  record_ : List (List ℕ) → Operation
  union_ : List ℕ → Operation
  select : List ℕ → Operation
  infix_ : Infix → Operation
  prefix_ : Prefix → Operation
  cast : Cast → Target → Operation
  builtin : Builtin → Operation
  -- a truth value as it is
  truth_of_ : Operation
  -- a count as it is
  count_ : Operation
  -- the greater of two counts
  most : Operation
  -- one more at the end of an array
  push : Operation
  -- one less, but not below 0
  less_one : Operation
  -- the first position; whether an array or a map has one, its element and its key there, and the next position
  first_position : Operation
  has_position : Operation
  element_at : Operation
  key_at : Operation
  next_position : Operation
  -- the array of these elements, or the map with the keys of another one and these elements
  gather : Operation
  uint8 : Operation
  match_text : List ℕ → Operation
  match : Operation
  end : Operation
  class : (ℕ → Bool) → Operation
  fail : ℕ → Operation
  no_case : Operation
  primitive : Primitive → Operation
  guard : Pattern → Operation
  fits : Target → Operation
  -- what no valid form asks for
  wrong : Operation

mutual
  -- a form; variables are counted from the innermost, 0 first. A value form is one that gives exactly one parse, where it stands
  pub data Form : Type 0 where
    -- the value of a variable, here
    give : ℕ → Form
    perform : Operation → List ℕ → Span → Form
    -- no parse, and no failure
    none : Form
    -- the second form has the value of the first one, of this type, as its variable 0
    bind : Ty → Form → Form → Form
    both : Form → Form → Form
    -- a biased choice, with what follows each parse of its left side, which has the value, of this type, as its variable 0
    attempt : Ty → Form → Form → Form → Form
    call : ℕ → List ℕ → Form
    -- the first alternative whose pattern the value has, with its content as variable 0; else the other form
    case_ : ℕ → Alternatives → Form → Form
    -- turns that begin with these values, which stand as variables before all others
    loop : List Ty → List ℕ → Form → Form
    -- the next turn of the loop whose body this form ends
    again : List ℕ → Form
    -- in the declaration of a number
    inside : ℕ → Form → Form

  -- the alternatives of a case, in order, each with the type of its content
  pub data Alternatives : Type 0 where
    none_left : Alternatives
    when : Pattern → Ty → Form → Alternatives → Alternatives

-- a function: the declaration whose copy it is, its parameters' types, its result's type, its body
pub record Function : Type 0 where
  pub name : Option ℕ
  pub params : List Ty
  pub result : Ty
  pub body : Form

-- a program: its functions, and the number of the one that is run
pub record Core : Type 0 where
  pub functions : List Function
  pub entry : ℕ
