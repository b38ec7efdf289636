-- Where each part of a module stands, where the places of its tokens are given in order.
use Rattle.std.specs.Prelude.{◌≡◌, List, [], ◌∷◌}
use Rattle.ddl_base.specs.declared.span.Span.{Span}
use Rattle.ddl_tree.specs.declared.module.Import.{Import}
use Rattle.ddl_tree.specs.ModuleTree as mo
use Rattle.ddl_tree.specs.Spans.{Places, nowhere, after, between, place_name, place_number, place_type, place_typed, place_class, place}

abbrev pub place_param : mo.Param → Places → mo.Param × Places
place_param (mo.Upper n) p = (mo.Upper (place_name n p), after p)
place_param (mo.Lower n) p = (mo.Lower (place_name n p), after p)
place_param (mo.Class n) p = (mo.Class (place_name n p), after p)
place_param (mo.TypedUpper n t s) p = let x = place_type t (after (after (after p))) in let q =
    after x.1 in (mo.TypedUpper (place_name n (after p)) x.0 (between p q), q)
place_param (mo.TypedLower n t s) p = let x = place_type t (after (after (after p))) in let q =
    after x.1 in (mo.TypedLower (place_name n (after p)) x.0 (between p q), q)

abbrev pub place_params : List mo.Param → Places → List mo.Param × Places
place_params [] p = ([], p)
place_params (a ∷ ps) p = let x = place_param a p in let y = place_params ps x.1 in (x.0 ∷ y.0, y.1)

abbrev pub place_part : mo.Part → Places → mo.Part × Places
place_part (mo.Fixed n) p = (mo.Fixed (place_number n p), after p)
place_part (mo.Named n t s) p = let x = place_type t (after (after p)) in (mo.Named (place_name n p) x.0 (between p x.1), x.1)
place_part (mo.Unnamed t s) p = let x = place_type t (after (after p)) in (mo.Unnamed x.0 (between p x.1), x.1)

abbrev pub place_more_parts : List mo.Part → Places → List mo.Part × Places
place_more_parts [] p = ([], p)
place_more_parts (a ∷ ps) p = let x = place_part a (after p) in let y = place_more_parts ps x.1 in (x.0 ∷ y.0, y.1)

abbrev pub place_parts : List mo.Part → Places → List mo.Part × Places
place_parts [] p = ([], p)
place_parts (a ∷ ps) p = let x = place_part a p in let y = place_more_parts ps x.1 in (x.0 ∷ y.0, y.1)

abbrev pub place_bits : mo.Bits → Places → mo.Bits × Places
place_bits (mo.Exactly n) p = (mo.Exactly (place_number n p), after p)
place_bits (mo.Parts ps s) p = let x = place_parts ps (after p) in let q = after x.1 in (mo.Parts x.0 (between p q), q)

abbrev pub place_con : mo.Con → Places → mo.Con × Places
place_con c p = let x = place_bits c.bits (after (after p)) in (record { name = place_name c.name p; bits = x.0; span = between p x.1 }, x.1)

abbrev pub place_more_cons : List mo.Con → Places → List mo.Con × Places
place_more_cons [] p = ([], p)
place_more_cons (c ∷ cs) p = let x = place_con c (after p) in let y = place_more_cons cs x.1 in (x.0 ∷ y.0, y.1)

abbrev pub place_cons : List mo.Con → Places → List mo.Con × Places
place_cons [] p = ([], p)
place_cons (c ∷ cs) p = let x = place_con c p in let y = place_more_cons cs x.1 in (x.0 ∷ y.0, y.1)

abbrev pub place_decl : mo.Decl → Places → mo.Decl × Places
place_decl (mo.Grammar n ps t e s) p =
    let x = place_params ps (after (after p)) in
    let y = place_typed t x.1 in
    let z = place e (after y.1) in
    (mo.Grammar (place_name n (after p)) x.0 y.0 z.0 (between p z.1), z.1)
place_decl (mo.Value n ps t e s) p =
    let x = place_params ps (after (after p)) in
    let y = place_typed t x.1 in
    let z = place e (after y.1) in
    (mo.Value (place_name n (after p)) x.0 y.0 z.0 (between p z.1), z.1)
place_decl (mo.ClassDef n c s) p = let x = place_class c (after (after (after p))) in (mo.ClassDef (place_name n (after p)) x.0 (between p x.1), x.1)
place_decl (mo.BitsDef n b s) p = let x = place_bits b (after (after (after p))) in (mo.BitsDef (place_name n (after p)) x.0 (between p x.1), x.1)
place_decl (mo.BitsUnion n cs s) p =
    let x = place_cons cs (after (after (after (after p)))) in
    let q = after x.1 in
    (mo.BitsUnion (place_name n (after p)) x.0 (between p q), q)

abbrev pub place_decls : List mo.Decl → Places → List mo.Decl × Places
place_decls [] p = ([], p)
place_decls (d ∷ ds) p = let x = place_decl d p in let y = place_decls ds x.1 in (x.0 ∷ y.0, y.1)

abbrev pub place_import : Import → Places → Import × Places
place_import i p = let q = after (after p) in (record { name = place_name i.name (after p); span = between p q }, q)

abbrev pub place_imports : List Import → Places → List Import × Places
place_imports [] p = ([], p)
place_imports (i ∷ is) p = let x = place_import i p in let y = place_imports is x.1 in (x.0 ∷ y.0, y.1)

-- the module, each part at the place of its tokens
abbrev pub placed : mo.Module → List Span → mo.Module
placed a spans =
    let x = place_imports a.imports (record { last = nowhere; rest = spans }) in
    let y = place_decls a.decls x.1 in
    record { imports = x.0; decls = y.0 }

-- each span of the module is that of the tokens printed for its part
abbrev pub StandsAt : mo.Module → List Span → Type 0
StandsAt a spans = placed a spans ≡ a

-- two modules differ in nothing but spans: at the same places they are the same
abbrev pub SameButSpans : mo.Module → mo.Module → Type 0
SameButSpans a b = (spans : List Span) → placed a spans ≡ placed b spans
