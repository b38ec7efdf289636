-- One level of a type, as it is seen.
use Rattle.std.proofs.Common.{◌≡◌, ap, sym, ◌∙◌, rules}
use Rattle.ddl_types.specs.declared.ty.Ty.{Ty, Ty-F, out-Ty, roll-Ty, roll-out-Ty, the_lemmas}
use Rattle.ddl_types.specs.TyView.{ty_view, ty_layer}

ty_view_roll : (l : Ty-F Ty) → ty_view (roll-Ty l) ≡ ty_layer l
unfolding ty_view
ty_view_roll (Ty-F.Var v) = search (rules, the_lemmas)
ty_view_roll Ty-F.Int = search (rules, the_lemmas)
ty_view_roll (Ty-F.Uint w) = search (rules, the_lemmas)
ty_view_roll (Ty-F.Sint w) = search (rules, the_lemmas)
ty_view_roll Ty-F.Bool = search (rules, the_lemmas)
ty_view_roll Ty-F.Unit = search (rules, the_lemmas)
ty_view_roll Ty-F.Stream = search (rules, the_lemmas)
ty_view_roll (Ty-F.Maybe x) = search (rules, the_lemmas)
ty_view_roll (Ty-F.Array x) = search (rules, the_lemmas)
ty_view_roll (Ty-F.Map k v) = search (rules, the_lemmas)
ty_view_roll (Ty-F.Bits n) = search (rules, the_lemmas)
ty_view_roll (Ty-F.Place n ts) = search (rules, the_lemmas)

-- a type's value, by its outermost level
pub ty_view_out : (e : Ty) → ty_view e ≡ ty_layer (out-Ty e)
ty_view_out e = ap ty_view (sym (roll-out-Ty e)) ∙ ty_view_roll (out-Ty e)

pub ruleset layers = (ty_view_out, the_lemmas)
