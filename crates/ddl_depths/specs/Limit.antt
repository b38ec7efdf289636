-- What the least depth of a module asks of the open forms.
use Rattle.std.specs.Prelude.{ℕ, Bool, true, false, List, [], ◌∷◌}
use Rattle.ddl_tree.specs.ExprTree as ex
use Rattle.ddl_reader.specs.Frames.{Frame}
use Rattle.ddl_reader.specs.Frames as m

abbrev pub is_paren : Frame → Bool
is_paren (m.in_paren s) = true
is_paren _ = false

-- `Many` that has no bound yet, so that a parenthesis behind it may be that of a bound
abbrev pub is_free_many : Frame → Bool
is_free_many (m.in_many r ex.Free n) = true
is_free_many _ = false

abbrev pub opens_free_many : List Frame → Bool
opens_free_many [] = false
opens_free_many (f ∷ fs) = is_free_many f

-- the depth of the shallowest expression at the hole of this form: none is needed in an array that has no element
abbrev pub hole_need : Frame → ℕ
hole_need (m.in_array s [] n) = 0
hole_need _ = 1
