-- What a focus of the code stands for.
use Rattle.std.specs.Prelude.{map}
use Rattle.ddl_states.specs.declared.focus.Loop as code_loop
use Rattle.ddl_states.specs.declared.focus.Loop.TheVariants as loops
use Rattle.ddl_states.specs.declared.focus.Cases as code_cases
use Rattle.ddl_states.specs.declared.focus.Focus as code_focus
use Rattle.ddl_states.specs.declared.focus.Focus.TheVariants as at
use Rattle.ddl_states.specs.declared.focus.TypeFocus as code_type_focus
use Rattle.ddl_states.specs.declared.focus.TypeFocus.TheVariants as type
use Rattle.ddl_states.specs.declared.focus.ClassFocus as code_class_focus
use Rattle.ddl_states.specs.declared.focus.ClassFocus.TheVariants as class
use Rattle.ddl_states.specs.declared.focus.LoopFocus as code_loop_focus
use Rattle.ddl_states.specs.declared.focus.LoopFocus.TheVariants as loop
use Rattle.ddl_states.specs.declared.focus.FieldFocus as code_field_focus
use Rattle.ddl_states.specs.declared.focus.FieldFocus.TheVariants as field
use Rattle.ddl_states.specs.declared.focus.ListFocus as code_list_focus
use Rattle.ddl_states.specs.declared.focus.ListFocus.TheVariants as list
use Rattle.ddl_states.specs.declared.focus.CaseFocus as code_case_focus
use Rattle.ddl_states.specs.declared.focus.CaseFocus.TheVariants as case
use Rattle.ddl_states.specs.declared.focus.HeadFocus as code_head_focus
use Rattle.ddl_states.specs.declared.focus.HeadFocus.TheVariants as head
use Rattle.ddl_states.specs.declared.focus.BitsFocus as code_bits_focus
use Rattle.ddl_states.specs.declared.focus.BitsFocus.TheVariants as bits
use Rattle.ddl_tree.specs.View.{binding_view, item_view, alt_view}
use Rattle.ddl_tree.specs.ViewModule.{con_view}
use Rattle.ddl_states.specs.FrameView.{found_view, found_type_view, found_class_view, sort_view, head_view, layout_view, parted_view, start_view}
use Rattle.ddl_states.specs.FrameView.{part_start_view, repeat_view}
use Rattle.ddl_reader.specs.Frames.{Focus, Loop, Cases}
use Rattle.ddl_reader.specs.Frames as m

abbrev pub loop_view : code_loop.Loop → Loop
loop_view (loops.For s x i) = m.for_from s x (found_view i)
loop_view (loops.Map s) = m.map_from s

abbrev pub cases_view : code_cases.Cases → Cases
cases_view c = record { from = c.from; subject = found_view c.subject; alts = map alt_view c.alts.items; deep = c.deep }

abbrev pub type_focus_view : code_type_focus.TypeFocus → Focus
type_focus_view type.Want = m.want_type
type_focus_view (type.Have t) = m.have_type (found_type_view t)
type_focus_view (type.Uint s) = m.want_uint s
type_focus_view (type.Sint s) = m.want_sint s
type_focus_view (type.Empty s) = m.open_empty s

abbrev pub class_focus_view : code_class_focus.ClassFocus → Focus
class_focus_view class.Want = m.want_class
class_focus_view (class.Have c) = m.have_class (found_class_view c)
class_focus_view (class.Byte b) = m.have_byte b
class_focus_view (class.Last b) = m.want_last b

abbrev pub loop_focus_view : code_loop_focus.LoopFocus → Focus
loop_focus_view (loop.OpenFor s) = m.open_for s
loop_focus_view (loop.State s) = m.for_name s
loop_focus_view (loop.Equals s x) = m.for_equals s x
loop_focus_view (loop.OpenMap s) = m.open_map s
loop_focus_view (loop.First l) = m.loop_first (loop_view l)
loop_focus_view (loop.AfterFirst l x) = m.loop_after_first (loop_view l) x
loop_focus_view (loop.Second l x) = m.loop_second (loop_view l) x
loop_focus_view (loop.In l ns) = m.loop_in (loop_view l) ns

abbrev pub field_focus_view : code_field_focus.FieldFocus → Focus
field_focus_view (field.Shape a) = m.want_shape (found_view a)
field_focus_view (field.Select a) = m.want_field (found_view a)
field_focus_view (field.FirstOfRecord s) = m.first_of_record s
field_focus_view (field.NextOfRecord s bs n) = m.next_of_record s (map binding_view bs.items) n
field_focus_view (field.RecordEquals s bs n x) = m.record_equals s (map binding_view bs.items) n x
field_focus_view (field.OpenTagged s) = m.open_tagged s
field_focus_view (field.AfterTag s x) = m.after_tag s x

abbrev pub list_focus_view : code_list_focus.ListFocus → Focus
list_focus_view (list.OpenBlock s) = m.open_block s
list_focus_view (list.ItemEquals s is n b) = m.item_equals s (map item_view is.items) n (start_view b)
list_focus_view (list.LetName s is n at) = m.let_name s (map item_view is.items) n at
list_focus_view (list.OpenChoice r) = m.open_choice (repeat_view r)
list_focus_view (list.WantTag r bs n) = m.want_tag (repeat_view r) (map binding_view bs.items) n
list_focus_view (list.TagEquals r bs n x) = m.tag_equals (repeat_view r) (map binding_view bs.items) n x

abbrev pub case_focus_view : code_case_focus.CaseFocus → Focus
case_focus_view (case.Open s a) = m.open_case s (found_view a)
case_focus_view (case.Pattern c) = m.want_pattern (cases_view c)
case_focus_view (case.Just c s) = m.pattern_just (cases_view c) s
case_focus_view (case.Tag c x) = m.pattern_tag (cases_view c) x
case_focus_view (case.Arrow c p) = m.have_pattern (cases_view c) p

abbrev pub head_focus_view : code_head_focus.HeadFocus → Focus
head_focus_view (head.Import s) = m.want_import s
head_focus_view (head.Name s) = m.want_name s
head_focus_view (head.Param h) = m.want_param (head_view h)
head_focus_view (head.OpenParam h s) = m.open_param (head_view h) s
head_focus_view (head.ParamColon h s o x) = m.param_colon (head_view h) s (sort_view o) x
head_focus_view (head.ClassEquals s x) = m.class_equals s x

abbrev pub bits_focus_view : code_bits_focus.BitsFocus → Focus
bits_focus_view (bits.Name s) = m.want_bits_name s
bits_focus_view (bits.AfterName s x) = m.after_bits_name s x
bits_focus_view (bits.OpenCons s x) = m.open_cons s x
bits_focus_view (bits.Con s x cs n) = m.want_con s x (map con_view cs.items) n
bits_focus_view (bits.ConEquals s x cs n y) = m.con_equals s x (map con_view cs.items) n y
bits_focus_view (bits.AfterCon s x cs n) = m.after_con s x (map con_view cs.items) n
bits_focus_view (bits.Bits l) = m.want_bits (layout_view l)
bits_focus_view (bits.Part p) = m.want_part (parted_view p)
bits_focus_view (bits.AfterPart p) = m.after_part (parted_view p)
bits_focus_view (bits.PartColon p o) = m.part_colon (parted_view p) (part_start_view o)

abbrev pub focus_view : code_focus.Focus → Focus
focus_view at.Import = m.at_import
focus_view at.Decl = m.at_decl
focus_view (at.Type f) = type_focus_view f
focus_view (at.Class f) = class_focus_view f
focus_view at.Want = m.want
focus_view (at.Have a) = m.have (found_view a)
focus_view (at.Loop f) = loop_focus_view f
focus_view (at.Field f) = field_focus_view f
focus_view (at.List f) = list_focus_view f
focus_view (at.Case f) = case_focus_view f
focus_view (at.Head f) = head_focus_view f
focus_view (at.Bits f) = bits_focus_view f
