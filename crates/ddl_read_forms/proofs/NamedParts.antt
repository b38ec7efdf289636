-- A part that is a name alone, before `=`.
use Rattle.std.proofs.Common.{◌≡◌, ℕ, List, [], ◌∷◌, Some, None, refl}
use Rattle.ddl_base.specs.declared.span.Span.{Span}
use Rattle.ddl_tree.specs.declared.name.Name.{Name}
use Rattle.ddl_tree.specs.ExprTree as ex
use Rattle.ddl_states.specs.Ends.{named}
use Rattle.ddl_reader.specs.Frames.{Frame, Start, Repeat}
use Rattle.ddl_reader.specs.Frames as m
use Rattle.ddl_reader.specs.StepLists.{field_of_block, first_tag}

pub field_none : (s : Span) (is : List ex.Item) (n : ℕ) (b : Start) (e : ex.Expr) (fs : List Frame) → named e ≡ None → field_of_block s is n b e fs ≡ None
field_none s is n m.plainly (ex.Lower x) fs h = cc
field_none s is n _ _ fs h = refl

pub field_some : (s : Span) (is : List ex.Item) (n : ℕ) (e : ex.Expr) (x : Name) (fs : List Frame) → named e ≡ Some x
    → field_of_block s is n m.plainly e fs ≡ Some (m.in_block s is n (m.field x) ∷ fs, m.want)
field_some s is n (ex.Lower y) x fs h = cc
field_some s is n _ x fs h = cc

pub tag_none : (r : Repeat) (xs : List ex.Expr) (e : ex.Expr) (fs : List Frame) → named e ≡ None → first_tag r xs e fs ≡ None
tag_none r [] (ex.Lower x) fs h = cc
tag_none r _ _ fs h = refl

pub tag_some : (r : Repeat) (e : ex.Expr) (x : Name) (fs : List Frame) → named e ≡ Some x → first_tag r [] e fs ≡ Some (m.in_with_tags r [] 0 x ∷ fs, m.want)
tag_some r (ex.Lower y) x fs h = cc
tag_some r _ x fs h = cc

pub ruleset named_parts = (field_none, field_some, tag_none, tag_some)
