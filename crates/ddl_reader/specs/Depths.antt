-- How deep the shallowest module is that can still come out of what has been read.
use Rattle.std.specs.Prelude.{ℕ, ◌+◌, max, List, [], ◌∷◌}
use Rattle.ddl_tree.specs.ExprTree as ex
use Rattle.ddl_reader.specs.Frames.{Frame, Focus, State, Loop, Layout}
use Rattle.ddl_reader.specs.Frames as frame

abbrev pub layout_deep : Layout → ℕ
layout_deep (frame.of_decl s x) = 0
layout_deep (frame.of_con s x cs y n) = n

-- how deep a form is around a part of this depth
abbrev pub around : Frame → ℕ → ℕ
around (frame.in_module a m) n = max m n
around (frame.in_maybe s) n = 1 + n
around (frame.in_bracket s) n = 1 + n
around (frame.in_map_value s t) n = 1 + max t.deep n
around (frame.in_within s) n = 1 + n
around (frame.in_union c) n = 1 + max c.deep n
around (frame.in_other s) n = 1 + n
around (frame.in_grouped s) n = 1 + n
around (frame.in_class_set s) n = 1 + n
around (frame.in_set s) n = 1 + n
around (frame.in_infix o a) n = 1 + max a.deep n
around (frame.in_pure s) n = 1 + n
around (frame.in_if s) n = 1 + n
around (frame.in_then s c) n = 1 + max c.deep n
around (frame.in_else s c a) n = 1 + max c.deep (max a.deep n)
around (frame.in_for_start s x) n = 1 + n
around (frame.in_for_list s x i ns) n = 1 + max i.deep n
around (frame.in_for_body s x i ns l) n = 1 + max i.deep (max l.deep n)
around (frame.in_map_list s ns) n = 1 + n
around (frame.in_map_body s ns l) n = 1 + max l.deep n
around (frame.in_prefix o s) n = 1 + n
around (frame.in_cast o a) n = 1 + max a.deep n
around (frame.in_call_grammar x xs m) n = 1 + max m n
around (frame.in_call_value x xs m) n = 1 + max m n
around (frame.in_just s) n = 1 + n
around (frame.in_many r b m) n = 1 + max m n
around (frame.in_at_most r s) n = 1 + n
around (frame.in_between r s a) n = 1 + max a.deep n
around (frame.in_optional r) n = 1 + n
around (frame.in_paren s) n = 1 + n
around (frame.in_paren_type s a) n = 1 + max a.deep n
around (frame.in_array s xs m) n = 1 + max m n
around (frame.in_record s bs m x) n = 1 + max m n
around (frame.in_tagged s x) n = 1 + n
around (frame.in_block s is m b) n = 1 + max m n
around (frame.in_untagged r xs m) n = 1 + max m n
around (frame.in_with_tags r bs m x) n = 1 + max m n
around (frame.in_subject s) n = 1 + n
around (frame.in_alt s a xs m p) n = 1 + max a.deep (max m n)
around (frame.in_param h s o x) n = max h.deep n
around (frame.in_result h) n = max h.deep n
around (frame.in_body h t m) n = max h.deep (max m n)
around (frame.in_class_body s x) n = n
around (frame.in_part p o) n = max (layout_deep p.layout) (max p.deep n)

-- a parenthesis behind `Many` may still be that of a bound, and then is no form of its own
abbrev pub around_in : Frame → List Frame → ℕ → ℕ
around_in (frame.in_paren s) (frame.in_many r ex.Free m ∷ fs) n = n
around_in f fs n = around f n

-- how deep the module is, at the least, where what stands at the hole has this depth
abbrev pub low : List Frame → ℕ → ℕ
low [] n = n
low (f ∷ fs) n = low fs (around_in f fs n)

abbrev pub loop_need : Loop → ℕ
loop_need (frame.for_from s x i) = 1 + max i.deep 1
loop_need (frame.map_from s) = 2

-- the depth of the shallowest expression that can come here; an array may end with none
abbrev pub need_expr : List Frame → ℕ
need_expr (frame.in_array s [] n ∷ fs) = 0
need_expr _ = 1

-- the depth of the shallowest form that can stand at the hole
abbrev pub need : List Frame → Focus → ℕ
need fs frame.at_import = 0
need fs frame.at_decl = 0
need fs (frame.have_type t) = t.deep
need fs (frame.have_class c) = c.deep
need fs (frame.have a) = a.deep
need fs (frame.open_for s) = 2
need fs (frame.for_name s) = 2
need fs (frame.for_equals s x) = 2
need fs (frame.open_map s) = 2
need fs (frame.loop_first l) = loop_need l
need fs (frame.loop_after_first l x) = loop_need l
need fs (frame.loop_second l x) = loop_need l
need fs (frame.loop_in l ns) = loop_need l
need fs (frame.want_shape a) = 1 + a.deep
need fs (frame.want_field a) = 1 + a.deep
need fs (frame.next_of_record s bs n) = 1 + max n 1
need fs (frame.record_equals s bs n x) = 1 + max n 1
need fs (frame.open_block s) = 2
need fs (frame.item_equals s is n b) = 1 + max n 1
need fs (frame.let_name s is n at) = 1 + max n 1
need fs (frame.open_choice r) = 2
need fs (frame.want_tag r bs n) = 1 + max n 1
need fs (frame.tag_equals r bs n x) = 1 + max n 1
need fs (frame.open_case s a) = 1 + max a.deep 1
need fs (frame.want_pattern c) = 1 + max c.subject.deep (max c.deep 1)
need fs (frame.pattern_just c s) = 1 + max c.subject.deep (max c.deep 1)
need fs (frame.pattern_tag c x) = 1 + max c.subject.deep (max c.deep 1)
need fs (frame.have_pattern c p) = 1 + max c.subject.deep (max c.deep 1)
need fs (frame.want_import s) = 0
need fs (frame.want_param h) = max h.deep 1
need fs (frame.open_param h s) = max h.deep 1
need fs (frame.param_colon h s o x) = max h.deep 1
need fs (frame.want_bits_name s) = 0
need fs (frame.after_bits_name s x) = 0
need fs (frame.open_cons s x) = 0
need fs (frame.want_con s x cs n) = n
need fs (frame.con_equals s x cs n y) = n
need fs (frame.after_con s x cs n) = n
need fs (frame.want_bits l) = layout_deep l
need fs (frame.want_part p) = max (layout_deep p.layout) p.deep
need fs (frame.after_part p) = max (layout_deep p.layout) p.deep
need fs (frame.part_colon p o) = max (layout_deep p.layout) (max p.deep 1)
need fs frame.want = need_expr fs
need fs _ = 1

-- the depth of the shallowest module that can still be read
abbrev pub lowest : State → ℕ
lowest z = low z.0 (need z.0 z.1)

-- how many levels a form adds around its part
abbrev pub adds : Frame → ℕ
adds (frame.in_module a n) = 0
adds (frame.in_param h s o x) = 0
adds (frame.in_result h) = 0
adds (frame.in_body h t n) = 0
adds (frame.in_class_body s x) = 0
adds (frame.in_part p o) = 0
adds _ = 1

abbrev pub adds_in : Frame → List Frame → ℕ
adds_in (frame.in_paren s) (frame.in_many r ex.Free m ∷ fs) = 0
adds_in f fs = adds f

-- all of them
abbrev pub levels : List Frame → ℕ
levels [] = 0
levels (f ∷ fs) = adds_in f fs + levels fs
