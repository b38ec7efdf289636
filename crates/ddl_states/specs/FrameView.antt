-- The open form that a frame of the code stands for.
use Rattle.std.specs.Prelude.{map}
use Rattle.ddl_states.specs.declared.frame.Found as code_found
use Rattle.ddl_states.specs.declared.frame.FoundType as code_found_type
use Rattle.ddl_states.specs.declared.frame.FoundClass as code_found_class
use Rattle.ddl_states.specs.declared.frame.Sort as code_sort
use Rattle.ddl_states.specs.declared.frame.Sort.TheVariants as sort
use Rattle.ddl_states.specs.declared.frame.Head as code_head
use Rattle.ddl_states.specs.declared.frame.Layout as code_layout
use Rattle.ddl_states.specs.declared.frame.Layout.TheVariants as layout
use Rattle.ddl_states.specs.declared.frame.Parted as code_parted
use Rattle.ddl_states.specs.declared.frame.Start as code_start
use Rattle.ddl_states.specs.declared.frame.Start.TheVariants as start
use Rattle.ddl_states.specs.declared.frame.PartStart as code_part_start
use Rattle.ddl_states.specs.declared.frame.PartStart.TheVariants as part_start
use Rattle.ddl_states.specs.declared.frame.Repeat as code_repeat
use Rattle.ddl_states.specs.declared.frame.Frame as code_frame
use Rattle.ddl_states.specs.declared.frame.Frame.TheVariants as frame
use Rattle.ddl_states.specs.declared.frame.TypeFrame as code_type_frame
use Rattle.ddl_states.specs.declared.frame.TypeFrame.TheVariants as type
use Rattle.ddl_states.specs.declared.frame.ClassFrame as code_class_frame
use Rattle.ddl_states.specs.declared.frame.ClassFrame.TheVariants as class
use Rattle.ddl_states.specs.declared.frame.LastFrame as code_last_frame
use Rattle.ddl_states.specs.declared.frame.LastFrame.TheVariants as last
use Rattle.ddl_states.specs.declared.frame.InnerFrame as code_inner_frame
use Rattle.ddl_states.specs.declared.frame.InnerFrame.TheVariants as inner
use Rattle.ddl_states.specs.declared.frame.ListFrame as code_list_frame
use Rattle.ddl_states.specs.declared.frame.ListFrame.TheVariants as list
use Rattle.ddl_states.specs.declared.frame.DeclFrame as code_decl_frame
use Rattle.ddl_states.specs.declared.frame.DeclFrame.TheVariants as decl
use Rattle.ddl_tree.specs.View.{view, type_view, typed_view, class_view, bound_view, binding_view, item_view, alt_view}
use Rattle.ddl_tree.specs.ViewModule.{param_view, part_view, con_view, module_view}
use Rattle.ddl_reader.specs.Frames.{Frame, Found, FoundType, FoundClass, Sort, Head, Layout, Parted, Start, PartStart, Repeat}
use Rattle.ddl_reader.specs.Frames as m

abbrev pub found_view : code_found.Found → Found
found_view a = record { expr = view a.expr.value; deep = a.deep }

abbrev pub found_type_view : code_found_type.FoundType → FoundType
found_type_view t = record { type = type_view t.of; deep = t.deep }

abbrev pub found_class_view : code_found_class.FoundClass → FoundClass
found_class_view c = record { class = class_view c.class; deep = c.deep }

abbrev pub sort_view : code_sort.Sort → Sort
sort_view sort.Grammar = m.of_grammar
sort_view sort.Value = m.of_value

abbrev pub head_view : code_head.Head → Head
head_view h = record { from = h.from; sort = sort_view h.sort; name = h.name; params = map param_view h.params.items; deep = h.deep }

abbrev pub layout_view : code_layout.Layout → Layout
layout_view (layout.Decl s x) = m.of_decl s x
layout_view (layout.Con s x cs y n) = m.of_con s x (map con_view cs.items) y n

abbrev pub parted_view : code_parted.Parted → Parted
parted_view p = record { layout = layout_view p.layout; from = p.from; parts = map part_view p.parts.items; deep = p.deep }

abbrev pub start_view : code_start.Start → Start
start_view start.Plainly = m.plainly
start_view (start.Result s) = m.result_from s
start_view (start.Let s x) = m.let_from s x
start_view (start.Field x) = m.field x

abbrev pub part_start_view : code_part_start.PartStart → PartStart
part_start_view (part_start.Named x) = m.named x
part_start_view (part_start.Unnamed s) = m.unnamed s

abbrev pub repeat_view : code_repeat.Repeat → Repeat
repeat_view r = record { bias = r.bias; from = r.from }

abbrev pub type_frame_view : code_type_frame.TypeFrame → Frame
type_frame_view (type.Maybe s) = m.in_maybe s
type_frame_view (type.Bracket s) = m.in_bracket s
type_frame_view (type.MapValue s t) = m.in_map_value s (found_type_view t)
type_frame_view (type.Within s) = m.in_within s
type_frame_view (type.Cast o a) = m.in_cast o (found_view a)
type_frame_view (type.Paren s a) = m.in_paren_type s (found_view a)

abbrev pub class_frame_view : code_class_frame.ClassFrame → Frame
class_frame_view (class.Union c) = m.in_union (found_class_view c)
class_frame_view (class.Other s) = m.in_other s
class_frame_view (class.Grouped s) = m.in_grouped s
class_frame_view (class.Set s) = m.in_class_set s
class_frame_view (class.Atom s) = m.in_set s

abbrev pub last_frame_view : code_last_frame.LastFrame → Frame
last_frame_view (last.Infix o a) = m.in_infix o (found_view a)
last_frame_view (last.Pure s) = m.in_pure s
last_frame_view (last.Else s c a) = m.in_else s (found_view c) (found_view a)
last_frame_view (last.For s x i ns l) = m.in_for_body s x (found_view i) ns (found_view l)
last_frame_view (last.Map s ns l) = m.in_map_body s ns (found_view l)
last_frame_view (last.Prefix o s) = m.in_prefix o s
last_frame_view (last.CallGrammar x xs n) = m.in_call_grammar x (map view xs.items) n
last_frame_view (last.CallValue x xs n) = m.in_call_value x (map view xs.items) n
last_frame_view (last.Just s) = m.in_just s
last_frame_view (last.Many r b n) = m.in_many (repeat_view r) (bound_view b) n
last_frame_view (last.Optional r) = m.in_optional (repeat_view r)

abbrev pub inner_frame_view : code_inner_frame.InnerFrame → Frame
inner_frame_view (inner.If s) = m.in_if s
inner_frame_view (inner.Then s c) = m.in_then s (found_view c)
inner_frame_view (inner.ForStart s x) = m.in_for_start s x
inner_frame_view (inner.ForList s x i ns) = m.in_for_list s x (found_view i) ns
inner_frame_view (inner.MapList s ns) = m.in_map_list s ns
inner_frame_view (inner.AtMost r s) = m.in_at_most (repeat_view r) s
inner_frame_view (inner.Between r s a) = m.in_between (repeat_view r) s (found_view a)
inner_frame_view (inner.Paren s) = m.in_paren s
inner_frame_view (inner.Tagged s x) = m.in_tagged s x
inner_frame_view (inner.Subject s) = m.in_subject s

abbrev pub list_frame_view : code_list_frame.ListFrame → Frame
list_frame_view (list.Array s xs n) = m.in_array s (map view xs.items) n
list_frame_view (list.Record s bs n x) = m.in_record s (map binding_view bs.items) n x
list_frame_view (list.Block s is n b) = m.in_block s (map item_view is.items) n (start_view b)
list_frame_view (list.Untagged r xs n) = m.in_untagged (repeat_view r) (map view xs.items) n
list_frame_view (list.WithTags r bs n x) = m.in_with_tags (repeat_view r) (map binding_view bs.items) n x
list_frame_view (list.Alt s a xs n p) = m.in_alt s (found_view a) (map alt_view xs.items) n p

abbrev pub decl_frame_view : code_decl_frame.DeclFrame → Frame
decl_frame_view (decl.Module a n) = m.in_module (module_view a) n
decl_frame_view (decl.Param h s o x) = m.in_param (head_view h) s (sort_view o) x
decl_frame_view (decl.Result h) = m.in_result (head_view h)
decl_frame_view (decl.Body h t n) = m.in_body (head_view h) (typed_view t) n
decl_frame_view (decl.ClassBody s x) = m.in_class_body s x
decl_frame_view (decl.Part p o) = m.in_part (parted_view p) (part_start_view o)

abbrev pub frame_view : code_frame.Frame → Frame
frame_view (frame.Type f) = type_frame_view f
frame_view (frame.Class f) = class_frame_view f
frame_view (frame.Last f) = last_frame_view f
frame_view (frame.Inner f) = inner_frame_view f
frame_view (frame.List f) = list_frame_view f
frame_view (frame.Decl f) = decl_frame_view f
