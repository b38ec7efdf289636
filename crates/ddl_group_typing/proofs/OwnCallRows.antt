-- Worked rows: the trees of a group whose one member is declaration 3, as its own trees hand on its variables.
use Rattle.std.proofs.Common.{◌≡◌, [], ◌∷◌, refl}
use Rattle.ddl_base.specs.declared.span.Span.{Span}
use Rattle.ddl_types.specs.Types.{Ty, var, con, none, more, int, place}
use Rattle.ddl_typed.specs.Tree as t
use Rattle.ddl_schemes.specs.Renaming.{shared}
use Rattle.ddl_group_typing.specs.Finals.{final_tree}

abbrev at : Span
at = record { «module» = 0; from = 0; to = 1 }

abbrev of_form : t.Form → Ty → t.Expr
of_form g u = t.expr g u at

-- of a group of two variables, whose first record or union is number 5
abbrev final : t.Expr → t.Expr
final = final_tree 2 (shared 5 2) (3 ∷ [])

-- a call of the member hands on both variables, before its arguments
own_call : final (of_form (t.value_call 3 (t.by_value 0 (of_form (t.literal 7) (var 1)) t.no_args)) (var 0))
    ≡ of_form (t.value_call 3 (t.by_type 0 (var 0) (t.by_type 1 (var 1) (t.by_value 0 (of_form (t.literal 7) (var 1)) t.no_args)))) (var 0)
own_call = refl

own_grammar : final (of_form (t.call 3 t.no_args) (var 0)) ≡ of_form (t.call 3 (t.by_type 0 (var 0) (t.by_type 1 (var 1) t.no_args))) (var 0)
own_grammar = refl

-- one of another declaration stays, with the types that it hands on
other_call : final (of_form (t.call 2 (t.by_type 0 (var 1) t.no_args)) (con int none)) ≡ of_form (t.call 2 (t.by_type 0 (var 1) t.no_args)) (con int none)
other_call = refl

-- a record of the group is at both variables, one of an earlier group where it is
own_record : final (of_form (t.local 0) (con (place 5) none)) ≡ of_form (t.local 0) (con (place 5) (more (var 0) (more (var 1) none)))
own_record = refl

other_record : final (of_form (t.local 0) (con (place 4) (more (var 1) none))) ≡ of_form (t.local 0) (con (place 4) (more (var 1) none))
other_record = refl

-- a call in an argument hands them on too
inner_call : final (of_form (t.call 2 (t.by_grammar 0 (record { place = 0; values = []; grammars = []; classes = []; types = [] })
    (of_form (t.call 3 t.no_args) (var 0)) t.no_args)) (var 0))
    ≡ of_form (t.call 2 (t.by_grammar 0 (record { place = 0; values = []; grammars = []; classes = []; types = [] })
    (of_form (t.call 3 (t.by_type 0 (var 0) (t.by_type 1 (var 1) t.no_args))) (var 0)) t.no_args)) (var 0)
inner_call = refl
