-- Worked rows of `Many` and `Optional`: the same events in the typed tree and in its core, and the ticks of both.
use Rattle.std.proofs.Common.{refl}
use Rattle.std.specs.Prelude.{codes}
use Rattle.ddl_typed.specs.declared.parts.Choice.{Choice}
use Rattle.ddl_typed.specs.Tree.{Expr, pure, block, many, optional, no_items, item, plain, let_, unbounded, exactly, from_, up_to, between}
use Rattle.ddl_typed.specs.declared.parts.Choice.TheVariants as C
use Rattle.ddl_typed.specs.Tree as t
use Rattle.ddl_lowering.proofs.RowForms.{e, x, byte, num, any_byte, Agrees}

-- Many, with each kind of bounds, biased and unbiased
abbrev repeats : t.Bounds → Expr
repeats b = e (many C.Biased b any_byte)

many_on_aba : Agrees (repeats unbounded) (codes "aba")
many_on_aba = (refl, refl)

many_twice : Agrees (repeats (exactly (num 2))) (codes "aba")
many_twice = (refl, refl)

many_twice_on_a : Agrees (repeats (exactly (num 2))) (codes "ac")
many_twice_on_a = (refl, refl)

many_from : Agrees (repeats (from_ (num 2))) (codes "abac")
many_from = (refl, refl)

many_up_to : Agrees (repeats (up_to (num 2))) (codes "abac")
many_up_to = (refl, refl)

many_between : Agrees (repeats (between (num 1) (num 2))) (codes "abac")
many_between = (refl, refl)

many_between_on_a : Agrees (repeats (between (num 1) (num 3))) (codes "abd")
many_between_on_a = (refl, refl)

many_unbiased : Agrees (e (many C.Unbiased (between (num 1) (num 3)) any_byte)) (codes "abaa")
many_unbiased = (refl, refl)

-- a body that takes a name from around the repetition
abbrev after_name : t.Bounds → Choice → Expr
after_name b q = e (block (item (let_ 0 byte) (item (plain (e (many q b (e (block (item (plain any_byte) (item (plain (e (pure x))) no_items))))))) no_items)))

name_in_many : Agrees (after_name unbounded C.Biased) (codes "zab")
name_in_many = (refl, refl)

name_in_exactly : Agrees (after_name (exactly (num 2)) C.Biased) (codes "zab")
name_in_exactly = (refl, refl)

name_in_from : Agrees (after_name (from_ (num 1)) C.Biased) (codes "zab")
name_in_from = (refl, refl)

name_in_from_unbiased : Agrees (after_name (from_ (num 1)) C.Unbiased) (codes "zab")
name_in_from_unbiased = (refl, refl)

name_in_up_to : Agrees (after_name (up_to (num 1)) C.Biased) (codes "zab")
name_in_up_to = (refl, refl)

name_in_between : Agrees (after_name (between (num 1) (num 2)) C.Unbiased) (codes "zaba")
name_in_between = (refl, refl)

-- more are wanted than are allowed
name_in_contrary : Agrees (after_name (between (num 2) (num 1)) C.Biased) (codes "zaba")
name_in_contrary = (refl, refl)

-- what is wanted is not there
name_in_from_on_a : Agrees (after_name (from_ (num 3)) C.Biased) (codes "za")
name_in_from_on_a = (refl, refl)

maybe_byte : Agrees (e (optional C.Biased any_byte)) (codes "a")
maybe_byte = (refl, refl)

maybe_none : Agrees (e (optional C.Unbiased any_byte)) (codes "c")
maybe_none = (refl, refl)
