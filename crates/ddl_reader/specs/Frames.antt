-- What has been read of a module: the forms that are open, innermost first, each with the parts before its hole,
-- and what stands at the hole of the innermost. Forms are kept with their spans, and with how deep they are.
use Rattle.std.specs.Prelude.{ℕ, List, Option}
use Rattle.ddl_base.specs.declared.span.Span.{Span}
use Rattle.ddl_token.specs.declared.token.Tok.{Tok}
use Rattle.ddl_tree.specs.declared.name.Name.{Name}
use Rattle.ddl_tree.specs.declared.name.ByteLit.{ByteLit}
use Rattle.ddl_tree.specs.declared.operator.Bias.{Bias}
use Rattle.ddl_tree.specs.declared.operator.CastOp.{CastOp}
use Rattle.ddl_tree.specs.declared.operator.InfixOp.{InfixOp}
use Rattle.ddl_tree.specs.declared.operator.PrefixOp.{PrefixOp}
use Rattle.ddl_tree.specs.declared.pattern.Names.{Names}
use Rattle.ddl_tree.specs.declared.pattern.Pat.{Pat}
use Rattle.ddl_tree.specs.TypeTree.{TypeExpr}
use Rattle.ddl_tree.specs.ClassTree.{Cls}
use Rattle.ddl_tree.specs.ExprTree.{Expr, Bound, Binding, Item, Alt}
use Rattle.ddl_tree.specs.ModuleTree.{Module, Param, Part, Con}

-- a token and its place
pub record Seen : Type 0 where
  pub kind : Tok
  pub at : Span

-- an expression, and how deep it is
pub record Found : Type 0 where
  pub expr : Expr
  pub deep : ℕ

pub record FoundType : Type 0 where
  pub type : TypeExpr
  pub deep : ℕ

pub record FoundClass : Type 0 where
  pub class : Cls
  pub deep : ℕ

-- what is read of a declaration before its result's type or its body: from `def` on, its name, and its parameters
pub data Sort : Type 0 where
  of_grammar : Sort
  of_value : Sort

pub record Head : Type 0 where
  pub from : Span
  pub sort : Sort
  pub name : Name
  pub params : List Param
  pub deep : ℕ

-- where a layout stands: in a declaration, or in a constructor after others
pub data Layout : Type 0 where
  of_decl : Span → Name → Layout
  of_con : Span → Name → List Con → Name → ℕ → Layout

-- a layout up to one of its parts
pub record Parted : Type 0 where
  pub layout : Layout
  pub from : Span
  pub parts : List Part
  pub deep : ℕ

-- what begins a part of a block
pub data Start : Type 0 where
  plainly : Start
  result_from : Span → Start
  let_from : Span → Name → Start
  field : Name → Start

-- what begins a part of a layout
pub data PartStart : Type 0 where
  named : Name → PartStart
  unnamed : Span → PartStart

-- `Many` and its place
pub record Repeat : Type 0 where
  pub bias : Bias
  pub from : Span

pub data Frame : Type 0 where
  in_module : Module → ℕ → Frame
  -- types
  in_maybe : Span → Frame
  in_bracket : Span → Frame
  in_map_value : Span → FoundType → Frame
  in_within : Span → Frame
  -- classes
  in_union : FoundClass → Frame
  in_other : Span → Frame
  in_grouped : Span → Frame
  in_class_set : Span → Frame
  -- expressions
  in_set : Span → Frame
  in_infix : InfixOp → Found → Frame
  in_pure : Span → Frame
  in_if : Span → Frame
  in_then : Span → Found → Frame
  in_else : Span → Found → Found → Frame
  in_for_start : Span → Name → Frame
  in_for_list : Span → Name → Found → Names → Frame
  in_for_body : Span → Name → Found → Names → Found → Frame
  in_map_list : Span → Names → Frame
  in_map_body : Span → Names → Found → Frame
  in_prefix : PrefixOp → Span → Frame
  in_cast : CastOp → Found → Frame
  in_call_grammar : Name → List Expr → ℕ → Frame
  in_call_value : Name → List Expr → ℕ → Frame
  in_just : Span → Frame
  in_many : Repeat → Bound → ℕ → Frame
  in_at_most : Repeat → Span → Frame
  in_between : Repeat → Span → Found → Frame
  in_optional : Repeat → Frame
  in_paren : Span → Frame
  in_paren_type : Span → Found → Frame
  in_array : Span → List Expr → ℕ → Frame
  in_record : Span → List Binding → ℕ → Name → Frame
  in_tagged : Span → Name → Frame
  in_block : Span → List Item → ℕ → Start → Frame
  in_untagged : Repeat → List Expr → ℕ → Frame
  in_with_tags : Repeat → List Binding → ℕ → Name → Frame
  in_subject : Span → Frame
  in_alt : Span → Found → List Alt → ℕ → Pat → Frame
  -- declarations
  in_param : Head → Span → Sort → Name → Frame
  in_result : Head → Frame
  in_body : Head → Option TypeExpr → ℕ → Frame
  in_class_body : Span → Name → Frame
  in_part : Parted → PartStart → Frame

-- what stands before the names of a loop
pub data Loop : Type 0 where
  for_from : Span → Name → Found → Loop
  map_from : Span → Loop

-- a pattern stands after the subject and some alternatives
pub record Cases : Type 0 where
  pub from : Span
  pub subject : Found
  pub alts : List Alt
  pub deep : ℕ

pub data Focus : Type 0 where
  -- between declarations: imports may still come, or not
  at_import : Focus
  at_decl : Focus
  -- types
  want_type : Focus
  have_type : FoundType → Focus
  want_uint : Span → Focus
  want_sint : Span → Focus
  open_empty : Span → Focus
  -- classes
  want_class : Focus
  have_class : FoundClass → Focus
  have_byte : ByteLit → Focus
  want_last : ByteLit → Focus
  -- expressions
  want : Focus
  have : Found → Focus
  open_for : Span → Focus
  for_name : Span → Focus
  for_equals : Span → Name → Focus
  open_map : Span → Focus
  loop_first : Loop → Focus
  loop_after_first : Loop → Name → Focus
  loop_second : Loop → Name → Focus
  loop_in : Loop → Names → Focus
  want_shape : Found → Focus
  want_field : Found → Focus
  first_of_record : Span → Focus
  next_of_record : Span → List Binding → ℕ → Focus
  record_equals : Span → List Binding → ℕ → Name → Focus
  open_tagged : Span → Focus
  after_tag : Span → Name → Focus
  open_block : Span → Focus
  item_equals : Span → List Item → ℕ → Start → Focus
  let_name : Span → List Item → ℕ → Span → Focus
  open_choice : Repeat → Focus
  want_tag : Repeat → List Binding → ℕ → Focus
  tag_equals : Repeat → List Binding → ℕ → Name → Focus
  open_case : Span → Found → Focus
  want_pattern : Cases → Focus
  pattern_just : Cases → Span → Focus
  pattern_tag : Cases → Name → Focus
  have_pattern : Cases → Pat → Focus
  -- declarations
  want_import : Span → Focus
  want_name : Span → Focus
  want_param : Head → Focus
  open_param : Head → Span → Focus
  param_colon : Head → Span → Sort → Name → Focus
  class_equals : Span → Name → Focus
  want_bits_name : Span → Focus
  after_bits_name : Span → Name → Focus
  open_cons : Span → Name → Focus
  want_con : Span → Name → List Con → ℕ → Focus
  con_equals : Span → Name → List Con → ℕ → Name → Focus
  after_con : Span → Name → List Con → ℕ → Focus
  want_bits : Layout → Focus
  want_part : Parted → Focus
  after_part : Parted → Focus
  part_colon : Parted → PartStart → Focus

-- the open forms, and what stands at the hole
abbrev pub State : Type 0
State = List Frame × Focus
