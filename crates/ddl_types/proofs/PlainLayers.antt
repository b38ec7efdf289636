-- A printable value, level by level.
use Rattle.std.proofs.Common.{◌≡◌, ◌∙◌, ap, sym, rules}
use Rattle.ddl_types.specs.PlainView.{plain_view, view_layer}
use Rattle.ddl_types.specs.declared.plain.Plain.{Plain, Plain-F, out-Plain, roll-Plain, roll-out-Plain, the_lemmas}

view_roll : (l : Plain-F Plain) → plain_view (roll-Plain l) ≡ view_layer l
unfolding plain_view
view_roll Plain-F.Unit = search (rules, the_lemmas)
view_roll (Plain-F.Bool b) = search (rules, the_lemmas)
view_roll (Plain-F.Num n) = search (rules, the_lemmas)
view_roll Plain-F.Nothing = search (rules, the_lemmas)
view_roll (Plain-F.Just v) = search (rules, the_lemmas)
view_roll (Plain-F.Record names vs) = search (rules, the_lemmas)
view_roll (Plain-F.Union tag v) = search (rules, the_lemmas)
view_roll (Plain-F.Array vs) = search (rules, the_lemmas)
view_roll (Plain-F.Map ks vs) = search (rules, the_lemmas)
view_roll (Plain-F.Stream in_input from to) = search (rules, the_lemmas)

pub plain_view_out : (v : Plain) → plain_view v ≡ view_layer (out-Plain v)
plain_view_out v = ap plain_view (sym (roll-out-Plain v)) ∙ view_roll (out-Plain v)

pub ruleset plain_layers = (plain_view_out, the_lemmas)
