-- Where each part of a tree stands, where the places of its tokens are given in order. Each function reads the places
-- of its form's tokens off the front, and gives the form with its spans, and the places that are left.
-- The span of a part is from the beginning of its first token to the end of its last.
use Rattle.std.specs.Prelude.{List, [], ◌∷◌, Option, Some, None}
use Rattle.ddl_base.specs.declared.span.Span.{Span}
use Rattle.ddl_tree.specs.declared.name.Name.{Name}
use Rattle.ddl_tree.specs.declared.name.Number.{Number}
use Rattle.ddl_tree.specs.declared.name.ByteLit.{ByteLit}
use Rattle.ddl_tree.specs.declared.name.ByteLit.TheVariants.{Code, Quoted}
use Rattle.ddl_tree.specs.declared.pattern.Names.{Names}
use Rattle.ddl_tree.specs.declared.pattern.Pat.{Pat}
use Rattle.ddl_tree.specs.declared.pattern.Pat.TheVariants as pat
use Rattle.ddl_tree.specs.declared.pattern.Binder.{Binder}
use Rattle.ddl_tree.specs.declared.pattern.Binder.TheVariants.{Called, Ignored}
use Rattle.ddl_tree.specs.declared.pattern.Shape.{Shape}
use Rattle.ddl_tree.specs.declared.pattern.Shape.TheVariants.{IsTag, IsTrue, IsFalse, IsJust, IsNothing}
use Rattle.ddl_tree.specs.TypeTree as ty
use Rattle.ddl_tree.specs.ClassTree as cls
use Rattle.ddl_tree.specs.ExprTree as ex

-- the place of the token before, and the places of those that follow
pub record Places : Type 0 where
  pub last : Span
  pub rest : List Span

-- where there is no token
abbrev pub nowhere : Span
nowhere = record { «module» = 0; from = 0; to = 0 }

abbrev pub first_of_list : List Span → Span
first_of_list [] = nowhere
first_of_list (s ∷ ss) = s

abbrev pub rest_of_list : List Span → List Span
rest_of_list [] = []
rest_of_list (s ∷ ss) = ss

-- the place of the next token
abbrev pub next : Places → Span
next p = first_of_list p.rest

-- after the next token
abbrev pub after : Places → Places
after p = record { last = first_of_list p.rest; rest = rest_of_list p.rest }

-- from the first token after p to the last before q
abbrev pub between : Places → Places → Span
between p q = record { «module» = (next p).module; from = (next p).from; to = q.last.to }

-- ---- parts of one token

abbrev pub place_name : Name → Places → Name
place_name x p = record { text = x.text; span = next p }

abbrev pub place_number : Number → Places → Number
place_number n p = record { value = n.value; base = n.base; digits = n.digits; span = next p }

abbrev pub place_byte : ByteLit → Places → ByteLit
place_byte (Code n) p = Code (place_number n p)
place_byte (Quoted b s) p = Quoted b (next p)

abbrev pub place_binder : Binder → Places → Binder
place_binder (Called x) p = Called (place_name x p)
place_binder (Ignored s) p = Ignored (next p)

abbrev pub place_shape : Shape → Places → Shape
place_shape (IsTag x) p = IsTag (place_name x p)
place_shape (IsTrue s) p = IsTrue (next p)
place_shape (IsFalse s) p = IsFalse (next p)
place_shape (IsJust s) p = IsJust (next p)
place_shape (IsNothing s) p = IsNothing (next p)

-- ---- types, classes, patterns

abbrev pub place_type : ty.TypeExpr → Places → ty.TypeExpr × Places
place_type (ty.Int s) p = (ty.Int (next p), after p)
place_type (ty.Uint n s) p = let q = after (after p) in (ty.Uint (place_number n (after p)) (between p q), q)
place_type (ty.Sint n s) p = let q = after (after p) in (ty.Sint (place_number n (after p)) (between p q), q)
place_type (ty.Bool s) p = (ty.Bool (next p), after p)
place_type (ty.Stream s) p = (ty.Stream (next p), after p)
place_type (ty.Float s) p = (ty.Float (next p), after p)
place_type (ty.Double s) p = (ty.Double (next p), after p)
place_type (ty.Maybe t s) p = let x = place_type t (after p) in (ty.Maybe x.0 (between p x.1), x.1)
place_type (ty.ArrayOf t s) p = let x = place_type t (after p) in let q = after x.1 in (ty.ArrayOf x.0 (between p q), q)
place_type (ty.MapOf t u s) p = let x = place_type t (after p) in let y = place_type u (after x.1) in let q = after y.1 in (ty.MapOf x.0 y.0 (between p q), q)
place_type (ty.Empty s) p = let q = after (after p) in (ty.Empty (between p q), q)
place_type (ty.Named n) p = (ty.Named (place_name n p), after p)
place_type (ty.Within t s) p = let x = place_type t (after p) in let q = after x.1 in (ty.Within x.0 (between p q), q)

abbrev pub place_typed : Option ty.TypeExpr → Places → Option ty.TypeExpr × Places
place_typed None p = (None, p)
place_typed (Some t) p = let x = place_type t (after p) in (Some x.0, x.1)

abbrev pub place_class : cls.Cls → Places → cls.Cls × Places
place_class (cls.Union a b s) p = let x = place_class a p in let y = place_class b (after x.1) in (cls.Union x.0 y.0 (between p y.1), y.1)
place_class (cls.One b) p = (cls.One (place_byte b p), after p)
place_class (cls.Range a b s) p = let q = after (after (after p)) in (cls.Range (place_byte a p) (place_byte b (after (after p))) (between p q), q)
place_class (cls.Known n) p = (cls.Known (place_name n p), after p)
place_class (cls.Other c s) p = let x = place_class c (after p) in (cls.Other x.0 (between p x.1), x.1)
place_class (cls.Grouped c s) p = let x = place_class c (after p) in let q = after x.1 in (cls.Grouped x.0 (between p q), q)
place_class (cls.Set c s) p = let x = place_class c (after p) in let q = after x.1 in (cls.Set x.0 (between p q), q)

abbrev pub place_content : Option Binder → Places → Option Binder × Places
place_content None p = (None, p)
place_content (Some b) p = (Some (place_binder b p), after p)

abbrev pub place_pattern : Pat → Places → Pat × Places
place_pattern (pat.Any s) p = (pat.Any (next p), after p)
place_pattern (pat.Num n) p = (pat.Num (place_number n p), after p)
place_pattern (pat.Char b s) p = (pat.Char b (next p), after p)
place_pattern (pat.True s) p = (pat.True (next p), after p)
place_pattern (pat.False s) p = (pat.False (next p), after p)
place_pattern (pat.Nothing s) p = (pat.Nothing (next p), after p)
place_pattern (pat.Just b s) p = let q = after (after p) in (pat.Just (place_binder b (after p)) (between p q), q)
place_pattern (pat.Tag n b s) p = let x = place_content b (after p) in (pat.Tag (place_name n p) x.0 (between p x.1), x.1)

abbrev pub place_second : Option Name → Places → Option Name × Places
place_second None p = (None, p)
place_second (Some n) p = let q = after (after p) in (Some (place_name n (after p)), q)

-- the names alone: the `in` that follows is not among them
abbrev pub place_names : Names → Places → Names × Places
place_names ns p =
    let x = place_second ns.second (after p) in
    (record { first = place_name ns.first p; second = x.0; span = between p x.1 }, after x.1)

-- ---- expressions

abbrev mutual
  pub place : ex.Expr → Places → ex.Expr × Places
  place (ex.Infix o a b s) p = let x = place a p in let y = place b (after x.1) in (ex.Infix o x.0 y.0 (between p y.1), y.1)
  place (ex.Pure a s) p = let x = place a (after p) in (ex.Pure x.0 (between p x.1), x.1)
  place (ex.If c a b s) p = let z = place c (after p) in let x = place a (after z.1) in let y = place b (after x.1) in (ex.If z.0 x.0 y.0 (between p y.1), y.1)
  place (ex.For n i ns l b s) p =
      let x = place i (after (after (after (after p)))) in
      let m = place_names ns (after x.1) in
      let y = place l m.1 in
      let z = place b (after y.1) in
      (ex.For (place_name n (after (after p))) x.0 m.0 y.0 z.0 (between p z.1), z.1)
  place (ex.Map ns l b s) p =
      let m = place_names ns (after (after p)) in
      let y = place l m.1 in
      let z = place b (after y.1) in
      (ex.Map m.0 y.0 z.0 (between p z.1), z.1)
  place (ex.Is a f s) p = let x = place a p in let q = after (after x.1) in (ex.Is x.0 (place_shape f (after x.1)) (between p q), q)
  place (ex.Prefix o a s) p = let x = place a (after p) in (ex.Prefix o x.0 (between p x.1), x.1)
  place (ex.Cast o a t s) p = let x = place a p in let y = place_type t (after x.1) in (ex.Cast o x.0 y.0 (between p y.1), y.1)
  place (ex.CallGrammar n xs s) p = let x = place_exprs xs (after p) in (ex.CallGrammar (place_name n p) x.0 (between p x.1), x.1)
  place (ex.CallValue n xs s) p = let x = place_exprs xs (after p) in (ex.CallValue (place_name n p) x.0 (between p x.1), x.1)
  place (ex.Just a s) p = let x = place a (after p) in (ex.Just x.0 (between p x.1), x.1)
  place (ex.Many o n a s) p = let m = place_bound n (after p) in let x = place a m.1 in (ex.Many o m.0 x.0 (between p x.1), x.1)
  place (ex.Optional o a s) p = let x = place a (after p) in (ex.Optional o x.0 (between p x.1), x.1)
  place (ex.Select a n s) p = let x = place a p in let q = after (after x.1) in (ex.Select x.0 (place_name n (after x.1)) (between p q), q)
  place (ex.Num n) p = (ex.Num (place_number n p), after p)
  place (ex.Char b s) p = (ex.Char b (next p), after p)
  place (ex.Text bs s) p = (ex.Text bs (next p), after p)
  place (ex.True s) p = (ex.True (next p), after p)
  place (ex.False s) p = (ex.False (next p), after p)
  place (ex.Nothing s) p = (ex.Nothing (next p), after p)
  place (ex.Upper n) p = (ex.Upper (place_name n p), after p)
  place (ex.Lower n) p = (ex.Lower (place_name n p), after p)
  place (ex.Class n) p = (ex.Class (place_name n p), after p)
  place (ex.Set c s) p = let x = place_class c (after p) in let q = after x.1 in (ex.Set x.0 (between p q), q)
  place (ex.Paren a t s) p = let x = place a (after p) in let y = place_typed t x.1 in let q = after y.1 in (ex.Paren x.0 y.0 (between p q), q)
  place (ex.Array xs s) p = let x = place_row xs (after p) in let q = after x.1 in (ex.Array x.0 (between p q), q)
  place (ex.RecordOf bs s) p = let x = place_bindings bs (after p) in let q = after x.1 in (ex.RecordOf x.0 (between p q), q)
  place (ex.Tag n s) p = let q = after (after (after p)) in (ex.Tag (place_name n (after p)) (between p q), q)
  place (ex.TagWith n a s) p = let x = place a (after (after (after p))) in let q = after x.1 in (ex.TagWith (place_name n (after p)) x.0 (between p q), q)
  place (ex.Block is s) p = let x = place_items is (after (after p)) in let q = after x.1 in (ex.Block x.0 (between p q), q)
  place (ex.Choice o xs s) p = let x = place_alternatives xs (after (after p)) in let q = after x.1 in (ex.Choice o x.0 (between p q), q)
  place (ex.Case a xs s) p = let x = place a (after p) in let y = place_alts xs (after (after x.1)) in let q = after y.1 in (ex.Case x.0 y.0 (between p q), q)

  pub place_bound : ex.Bound → Places → ex.Bound × Places
  place_bound ex.Free p = (ex.Free, p)
  place_bound (ex.Exactly a) p = let x = place a p in (ex.Exactly x.0, x.1)
  place_bound (ex.AtLeast a s) p = let x = place a (after p) in let q = after (after x.1) in (ex.AtLeast x.0 (between p q), q)
  place_bound (ex.AtMost a s) p = let x = place a (after (after p)) in let q = after x.1 in (ex.AtMost x.0 (between p q), q)
  place_bound (ex.Between a b s) p = let x = place a (after p) in let y = place b (after x.1) in let q = after y.1 in (ex.Between x.0 y.0 (between p q), q)

  pub place_alternatives : ex.Alternatives → Places → ex.Alternatives × Places
  place_alternatives (ex.WithTags bs) p = let x = place_bindings bs p in (ex.WithTags x.0, x.1)
  place_alternatives (ex.Untagged xs) p = let x = place_row xs p in (ex.Untagged x.0, x.1)

  pub place_item : ex.Item → Places → ex.Item × Places
  place_item (ex.Result a s) p = let x = place a (after (after p)) in (ex.Result x.0 (between p x.1), x.1)
  place_item (ex.Let n a s) p = let x = place a (after (after (after p))) in (ex.Let (place_name n (after p)) x.0 (between p x.1), x.1)
  place_item (ex.Field n a s) p = let x = place a (after (after p)) in (ex.Field (place_name n p) x.0 (between p x.1), x.1)
  place_item (ex.Plain a) p = let x = place a p in (ex.Plain x.0, x.1)

  -- one after another
  pub place_exprs : ex.Exprs → Places → ex.Exprs × Places
  place_exprs ex.no_exprs p = (ex.no_exprs, p)
  place_exprs (ex.an_expr a xs) p = let x = place a p in let y = place_exprs xs x.1 in (ex.an_expr x.0 y.0, y.1)

  -- parted by a mark
  pub place_row : ex.Exprs → Places → ex.Exprs × Places
  place_row ex.no_exprs p = (ex.no_exprs, p)
  place_row (ex.an_expr a xs) p = let x = place a p in let y = place_more_exprs xs x.1 in (ex.an_expr x.0 y.0, y.1)

  pub place_more_exprs : ex.Exprs → Places → ex.Exprs × Places
  place_more_exprs ex.no_exprs p = (ex.no_exprs, p)
  place_more_exprs (ex.an_expr a xs) p = let x = place a (after p) in let y = place_more_exprs xs x.1 in (ex.an_expr x.0 y.0, y.1)

  pub place_bindings : ex.Bindings → Places → ex.Bindings × Places
  place_bindings ex.no_bindings p = (ex.no_bindings, p)
  place_bindings (ex.a_binding n a s bs) p = let x = place a (after (after p)) in let y =
      place_more_bindings bs x.1 in (ex.a_binding (place_name n p) x.0 (between p x.1) y.0, y.1)

  pub place_more_bindings : ex.Bindings → Places → ex.Bindings × Places
  place_more_bindings ex.no_bindings p = (ex.no_bindings, p)
  place_more_bindings (ex.a_binding n a s bs) p =
      let q = after p in
      let x = place a (after (after q)) in
      let y = place_more_bindings bs x.1 in
      (ex.a_binding (place_name n q) x.0 (between q x.1) y.0, y.1)

  pub place_items : ex.Items → Places → ex.Items × Places
  place_items ex.no_items p = (ex.no_items, p)
  place_items (ex.an_item i is) p = let x = place_item i p in let y = place_more_items is x.1 in (ex.an_item x.0 y.0, y.1)

  pub place_more_items : ex.Items → Places → ex.Items × Places
  place_more_items ex.no_items p = (ex.no_items, p)
  place_more_items (ex.an_item i is) p = let x = place_item i (after p) in let y = place_more_items is x.1 in (ex.an_item x.0 y.0, y.1)

  pub place_alts : ex.Alts → Places → ex.Alts × Places
  place_alts ex.no_alts p = (ex.no_alts, p)
  place_alts (ex.an_alt f a s xs) p =
      let m = place_pattern f p in
      let x = place a (after m.1) in
      let y = place_more_alts xs x.1 in
      (ex.an_alt m.0 x.0 (between p x.1) y.0, y.1)

  pub place_more_alts : ex.Alts → Places → ex.Alts × Places
  place_more_alts ex.no_alts p = (ex.no_alts, p)
  place_more_alts (ex.an_alt f a s xs) p =
      let q = after p in
      let m = place_pattern f q in
      let x = place a (after m.1) in
      let y = place_more_alts xs x.1 in
      (ex.an_alt m.0 x.0 (between q x.1) y.0, y.1)
