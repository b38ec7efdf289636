-- The one width of a layout, or why it has none.
use Rattle.std.specs.Prelude.{◌≡◌, ℕ, Option, Some, None, Result, Ok, Err, refl}
use Rattle.ddl_bits.specs.declared.error.BitError.{BitError}
use Rattle.ddl_bits.specs.declared.error.BitError.TheVariants.{Widths, TooWide}
use Rattle.ddl_bits.specs.Tree.{Cons, no_cons, con, part, no_parts, fixed, any, cons_width, too_wide_from, other_width_from}

-- the width, where no constructor is found that has another
abbrev pub width_unless_other : ℕ → Option ℕ → Result ℕ BitError
width_unless_other width (Some place) = Err (Widths 0 place)
width_unless_other width None = Ok width

-- the same, where no constructor is found that is too wide
abbrev pub width_unless_too_wide : Cons → Option ℕ → Result ℕ BitError
width_unless_too_wide cons (Some place) = Err (TooWide place)
width_unless_too_wide cons None = width_unless_other (cons_width cons) (other_width_from (cons_width cons) 0 cons)

-- the one width of all constructors: first none is too wide, then none has another width than the first
abbrev pub one_width_of : Cons → Result ℕ BitError
one_width_of cons = width_unless_too_wide cons (too_wide_from 0 cons)

-- ---- worked

two_widths : one_width_of (con (part (fixed 0 1) no_parts) (con (part (fixed 0 2) no_parts) no_cons)) ≡ Err (Widths 0 1)
two_widths = refl

too_wide : one_width_of (con (part (any 128) (part (any 1) no_parts)) no_cons) ≡ Err (TooWide 0)
too_wide = refl

too_wide_first : one_width_of (con (part (any 1) no_parts) (con (part (any 129) no_parts) no_cons)) ≡ Err (TooWide 1)
too_wide_first = refl

just_wide_enough : one_width_of (con (part (any 128) no_parts) no_cons) ≡ Ok 128
just_wide_enough = refl
