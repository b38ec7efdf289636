-- Expressions that are no name alone.
use Rattle.std.proofs.Common.{◌≡◌, refl, ap, sym, ◌∙◌, Some, None}
use Rattle.ddl_tree.specs.declared.name.Name.{Name}
use Rattle.ddl_tree.specs.declared.expr.Expr.{Expr, Expr-F, out-Expr, roll-Expr, roll-out-Expr}
use Rattle.ddl_tree.specs.declared.expr.Expr as expr
use Rattle.ddl_tree.specs.declared.expr.Bound.{Bound}
use Rattle.ddl_tree.specs.declared.expr.Alternatives.{Alternatives}
use Rattle.ddl_tree.specs.declared.expr.Item.{Item}
use Rattle.ddl_tree.specs.declared.expr.Alt.{Alt}
use Rattle.ddl_tree.specs.declared.expr.Binding.{Binding}
use Rattle.ddl_tree.specs.View.{view, view_layer}
use Rattle.ddl_tree.proofs.Layers.{view_out}
use Rattle.ddl_reader.specs.StepExpr.{called}
use Rattle.ddl_states.specs.Ends.{named}

unnamed_layer : (l : Expr-F Alternatives Bound Expr Item Alt Binding) → ((x : Name) → roll-Expr l ≡ expr.Lower x → ⊥) → named (view_layer l) ≡ None
unfolding roll-Expr denote.Hole.Carrier.roll
unnamed_layer (Expr-F.Lower x) h = absurd (h x refl)
unnamed_layer (Expr-F.Tagged x None s) h = refl
unnamed_layer (Expr-F.Tagged x (Some a) s) h = refl
unnamed_layer _ h = refl

pub unnamed : (e : Expr) → ((x : Name) → e ≡ expr.Lower x → ⊥) → named (view e) ≡ None
unnamed e h = ap named (view_out e) ∙ unnamed_layer (out-Expr e) (λ x is. h x (sym (roll-out-Expr e) ∙ is))

uncalled_layer : (l : Expr-F Alternatives Bound Expr Item Alt Binding) → ((x : Name) → roll-Expr l ≡ expr.Upper x → ⊥)
    → ((x : Name) → roll-Expr l ≡ expr.Lower x → ⊥) → called (view_layer l) ≡ None
unfolding roll-Expr denote.Hole.Carrier.roll
uncalled_layer (Expr-F.Upper x) g h = absurd (g x refl)
uncalled_layer (Expr-F.Lower x) g h = absurd (h x refl)
uncalled_layer (Expr-F.Tagged x None s) g h = refl
uncalled_layer (Expr-F.Tagged x (Some a) s) g h = refl
uncalled_layer _ g h = refl

pub uncalled : (e : Expr) → ((x : Name) → e ≡ expr.Upper x → ⊥) → ((x : Name) → e ≡ expr.Lower x → ⊥) → called (view e) ≡ None
uncalled e g h = ap called (view_out e) ∙ uncalled_layer (out-Expr e) (λ x is. g x (sym (roll-out-Expr e) ∙ is)) (λ x is. h x (sym (roll-out-Expr e) ∙ is))
