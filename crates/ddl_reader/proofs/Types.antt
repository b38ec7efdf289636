-- The machine reads each written type.
use Rattle.std.proofs.Common.{◌≡◌, ◌+◌, List, ◌∷◌, Option, refl, ap, ◌∙◌}
use Rattle.ddl_token.specs.declared.token.Tok.{Tok}
use Rattle.ddl_token.specs.declared.token.Tok.TheVariants as k
use Rattle.ddl_token.specs.declared.mark.Mark.TheVariants as m
use Rattle.ddl_tree.specs.TypeTree as ty
use Rattle.ddl_tree.specs.TypeTree.{type_span}
use Rattle.ddl_tree.specs.ModuleTree.{Module}
use Rattle.ddl_tree.specs.Print.{print_type}
use Rattle.ddl_tree.specs.Depth.{type_depth}
use Rattle.ddl_tree.specs.Spans.{Places, next, after, between, place_type}
use Rattle.ddl_reader.specs.Frames.{Frame, State}
use Rattle.ddl_reader.specs.Frames as frame
use Rattle.ddl_reader.specs.StepType.{joined, type_done, found_type}
use Rattle.ddl_reader.specs.Step.{run}
use Rattle.ddl_reader.proofs.Tokens.{seen}

pub type_span_placed : (t : ty.TypeExpr) (p : Places) → type_span (place_type t p).0 ≡ between p (place_type t p).1
type_span_placed (ty.Int s) p = refl
type_span_placed (ty.Uint n s) p = refl
type_span_placed (ty.Sint n s) p = refl
type_span_placed (ty.Bool s) p = refl
type_span_placed (ty.Stream s) p = refl
type_span_placed (ty.Float s) p = refl
type_span_placed (ty.Double s) p = refl
type_span_placed (ty.Maybe t s) p = refl
type_span_placed (ty.ArrayOf t s) p = refl
type_span_placed (ty.MapOf t u s) p = refl
type_span_placed (ty.Empty s) p = refl
type_span_placed (ty.Named x) p = refl
type_span_placed (ty.Within t s) p = refl

-- what a type is read to, with the forms around it
abbrev pub type_read : ty.TypeExpr → Places → List Frame → List Tok → Option Module
type_read t p fs r = run (seen r (place_type t p).1) (type_done fs (place_type t p).0 (type_depth t))

pub reads_type : (t : ty.TypeExpr) (fs : List Frame) (r : List Tok) (p : Places) → run (seen (print_type t r) p) (fs, frame.want_type) ≡ type_read t p fs r
reads_type (ty.Int s) fs r p = refl
reads_type (ty.Uint n s) fs r p = refl
reads_type (ty.Sint n s) fs r p = refl
reads_type (ty.Bool s) fs r p = refl
reads_type (ty.Stream s) fs r p = refl
reads_type (ty.Float s) fs r p = refl
reads_type (ty.Double s) fs r p = refl
reads_type (ty.Maybe t s) fs r p =
    reads_type t (frame.in_maybe (next p) ∷ fs) r (after p)
    ∙ ap (λ s. run (seen r (place_type t (after p)).1) (type_done fs (ty.Maybe (place_type t (after p)).0 (joined (next p) s)) (1 + type_depth t)))
    (type_span_placed t (after p))
reads_type (ty.ArrayOf t s) fs r p = reads_type t (frame.in_bracket (next p) ∷ fs) (k.Mark m.CloseBracket ∷ r) (after p)
reads_type (ty.MapOf t u s) fs r p =
    reads_type t (frame.in_bracket (next p) ∷ fs) (k.Mark m.Arrow ∷ print_type u (k.Mark m.CloseBracket ∷ r)) (after p)
    ∙ reads_type u (frame.in_map_value (next p) (found_type (place_type t (after p)).0 (type_depth t)) ∷ fs) (k.Mark m.CloseBracket ∷ r)
    (after (place_type t (after p)).1)
reads_type (ty.Empty s) fs r p = refl
reads_type (ty.Named x) fs r p = refl
reads_type (ty.Within t s) fs r p = reads_type t (frame.in_within (next p) ∷ fs) (k.Mark m.CloseParen ∷ r) (after p)
