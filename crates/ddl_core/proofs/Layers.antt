-- One level of a form, as it is seen.
use Rattle.std.proofs.Common.{◌≡◌, List, ap, sym, ◌∙◌, rules}
use Rattle.ddl_types.specs.Layout.{Layout}
use Rattle.ddl_core.specs.declared.form.Form.{Form, Form-F, out-Form, roll-Form, roll-out-Form, the_lemmas}
use Rattle.ddl_core.specs.declared.form.Alternative.{Alternative, out-Alternative}
use Rattle.ddl_core.specs.View.{view, alternative_view, form_layer, alternative_layer}

view_roll : (ls : List Layout) (l : Form-F Form Alternative) → view ls (roll-Form l) ≡ form_layer ls l
unfolding view alternative_view
view_roll ls (Form-F.Give x) = search (rules, the_lemmas)
view_roll ls (Form-F.Perform op xs span) = search (rules, the_lemmas)
view_roll ls Form-F.Stop = search (rules, the_lemmas)
view_roll ls (Form-F.Bind ty g k) = search (rules, the_lemmas)
view_roll ls (Form-F.Both l r) = search (rules, the_lemmas)
view_roll ls (Form-F.Attempt ty l k r) = search (rules, the_lemmas)
view_roll ls (Form-F.Call f xs) = search (rules, the_lemmas)
view_roll ls (Form-F.Case x as_ other) = search (rules, the_lemmas)
view_roll ls (Form-F.Loop tys xs body) = search (rules, the_lemmas)
view_roll ls (Form-F.Again xs) = search (rules, the_lemmas)
view_roll ls (Form-F.Inside d g) = search (rules, the_lemmas)

pub view_out : (ls : List Layout) (f : Form) → view ls f ≡ form_layer ls (out-Form f)
view_out ls f = ap (view ls) (sym (roll-out-Form f)) ∙ view_roll ls (out-Form f)

pub alternative_view_out : (ls : List Layout) (a : Alternative) → alternative_view ls a ≡ alternative_layer ls (out-Alternative a)
unfolding view alternative_view
alternative_view_out ls a = search (rules, the_lemmas)

pub ruleset layers = (view_out, alternative_view_out, the_lemmas)
