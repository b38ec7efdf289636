-- What bounds the depths that are counted while open forms end, one in another.
use Rattle.std.specs.Prelude.{ℕ, ◌+◌, max, List, [], ◌∷◌}
use Rattle.ddl_reader.specs.Depths.{around, layout_deep, loop_need}
use Rattle.ddl_reader.specs.Frames.{Frame, Focus}
use Rattle.ddl_reader.specs.Frames as m

-- how deep the outermost form is around a part of this depth
abbrev pub height : List Frame → ℕ → ℕ
height [] n = n
height (f ∷ fs) n = height fs (around f n)

-- how deep what comes next at the hole can be at the least
abbrev pub coming : Focus → ℕ
coming m.at_import = 0
coming m.at_decl = 0
coming m.want = 0
coming (m.have_type t) = t.deep
coming (m.have_class c) = c.deep
coming (m.have a) = a.deep
coming (m.open_for s) = 2
coming (m.for_name s) = 2
coming (m.for_equals s x) = 2
coming (m.open_map s) = 2
coming (m.loop_first l) = loop_need l
coming (m.loop_after_first l x) = loop_need l
coming (m.loop_second l x) = loop_need l
coming (m.loop_in l ns) = loop_need l
coming (m.want_shape a) = 1 + a.deep
coming (m.want_field a) = 1 + a.deep
coming (m.next_of_record s bs n) = 1 + max n 1
coming (m.record_equals s bs n x) = 1 + max n 1
coming (m.open_block s) = 2
coming (m.item_equals s is n b) = 1 + max n 1
coming (m.let_name s is n at) = 1 + max n 1
coming (m.open_choice r) = 2
coming (m.want_tag r bs n) = 1 + max n 1
coming (m.tag_equals r bs n x) = 1 + max n 1
coming (m.open_case s a) = 1 + max a.deep 1
coming (m.want_pattern c) = 1 + max c.subject.deep (max c.deep 1)
coming (m.pattern_just c s) = 1 + max c.subject.deep (max c.deep 1)
coming (m.pattern_tag c x) = 1 + max c.subject.deep (max c.deep 1)
coming (m.have_pattern c p) = 1 + max c.subject.deep (max c.deep 1)
coming (m.want_import s) = 0
coming (m.want_param h) = max h.deep 1
coming (m.open_param h s) = max h.deep 1
coming (m.param_colon h s o x) = max h.deep 1
coming (m.want_bits_name s) = 0
coming (m.after_bits_name s x) = 0
coming (m.open_cons s x) = 0
coming (m.want_con s x cs n) = n
coming (m.con_equals s x cs n y) = n
coming (m.after_con s x cs n) = n
coming (m.want_bits l) = layout_deep l
coming (m.want_part p) = max (layout_deep p.layout) p.deep
coming (m.after_part p) = max (layout_deep p.layout) p.deep
coming (m.part_colon p o) = max (layout_deep p.layout) (max p.deep 1)
coming _ = 1
