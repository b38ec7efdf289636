-- Whatever a name means, if it is a class it has no parameters.
use Rattle.std.proofs.Common.{◌≡◌, ℕ, ◌+◌, List, [], ◌∷◌, Bool, true, false, Option, Some, None, refl}
use Rattle.std.specs.Prelude.{bytes_eq, find, filter, nat_eq, not, if◌then◌else◌}
use Rattle.ddl_kinds.specs.declared.bound.Bound.{Bound}
use Rattle.ddl_kinds.specs.declared.bound.Bound.TheVariants as bound
use Rattle.ddl_kinds.specs.declared.builtin.BuiltIn.{BuiltIn}
use Rattle.ddl_kinds.specs.declared.builtin.BuiltIn.TheVariants as b
use Rattle.ddl_kinds.specs.BuiltIns.{builtin_named}
use Rattle.ddl_kinds.specs.Meanings.{Meaning, nothing, two_imports, one, decl_name}
use Rattle.ddl_tree.specs.declared.kind.Kind.{Kind}
use Rattle.ddl_tree.specs.declared.kind.Kind.TheVariants as k
use Rattle.ddl_tree.specs.declared.name.Name.{Name}
use Rattle.ddl_tree.specs.ModuleTree as mo
use Rattle.ddl_uses.specs.Bindings.{Loaded, Site, declared, decls_of, first_number, imported, imported_by, imports_of, is_declared, meaning, meaning_among}
use Rattle.ddl_uses.specs.Bindings.{meaning_of_builtin, meaning_of_decl, meaning_of_local, only_or_two, or_else, outer_meaning}
use Rattle.ddl_uses.specs.Scope.{Local, Scope, in_scope}

abbrev pub IsBare : Meaning → Type 0
IsBare (one x k.Class ws) = ws ≡ []
IsBare m = Unit {0}

decl_bare : (n : ℕ) (d : mo.Decl) → IsBare (meaning_of_decl n d)
decl_bare n (mo.Grammar x ps t e s) = tt
decl_bare n (mo.Value x ps t e s) = tt
decl_bare n (mo.ClassDef x c s) = refl
decl_bare n (mo.BitsDef x c s) = tt
decl_bare n (mo.BitsUnion x cs s) = tt

if_bare : (c : Bool) (x y : Meaning) → IsBare x → IsBare y → IsBare (if c then x else y)
if_bare true x y p q = p
if_bare false x y p q = q

among_bare : (n : ℕ) (ds : List mo.Decl) (text : List ℕ) → IsBare (meaning_among n ds text)
among_bare n [] text = tt
among_bare n (d ∷ ds) text =
    if_bare (bytes_eq (decl_name d).text text) (meaning_of_decl n d) (meaning_among (n + 1) ds text) (decl_bare n d) (among_bare (n + 1) ds text)

declared_bare : (units : List Loaded) (m : ℕ) (text : List ℕ) → IsBare (declared units m text)
declared_bare units m text = among_bare (first_number units m) (decls_of units m) text

or_bare : (x y : Meaning) → IsBare x → IsBare y → IsBare (or_else x y)
or_bare nothing y p q = q
or_bare (two_imports i j) y p q = tt
or_bare (one x kind ws) y p q = p

only_bare : (i : ℕ) (o : Option ℕ) (m : Meaning) → IsBare m → IsBare (only_or_two i o m)
only_bare i None m p = p
only_bare i (Some j) m p = tt

imported_bare : (units : List Loaded) (text ms : List ℕ) → IsBare (imported_by units text ms)
imported_bare units text [] = tt
imported_bare units text (m ∷ ms) = only_bare m (find (λ i. not (nat_eq i m)) ms) (declared units m text) (declared_bare units m text)

builtin_bare : (o : Option BuiltIn) → IsBare (meaning_of_builtin o)
builtin_bare None = tt
builtin_bare (Some b.UInt8) = tt
builtin_bare (Some b.Match) = tt
builtin_bare (Some b.End) = tt
builtin_bare (Some b.GetStream) = tt
builtin_bare (Some b.Offset) = tt
builtin_bare (Some b.SetStream) = tt
builtin_bare (Some b.Take) = tt
builtin_bare (Some b.Drop) = tt
builtin_bare (Some b.Index) = tt
builtin_bare (Some b.Lookup) = tt
builtin_bare (Some b.Insert) = tt
builtin_bare (Some b.Fail) = tt
builtin_bare (Some b.Length) = tt
builtin_bare (Some b.Concat) = tt
builtin_bare (Some b.ArrayStream) = tt
builtin_bare (Some b.BytesOfStream) = tt
builtin_bare (Some b.Empty) = tt
builtin_bare (Some b.Put) = tt
builtin_bare (Some b.Seek) = tt

outer_bare : (units : List Loaded) (m : ℕ) (text : List ℕ) → IsBare (outer_meaning units m text)
outer_bare units m text =
    or_bare (declared units m text) (or_else (imported units m text) (or_else (declared units 0 text) (meaning_of_builtin (builtin_named text))))
    (declared_bare units m text)
    (or_bare (imported units m text) (or_else (declared units 0 text) (meaning_of_builtin (builtin_named text)))
    (imported_bare units text (filter (is_declared units text) (imports_of units m)))
    (or_bare (declared units 0 text) (meaning_of_builtin (builtin_named text)) (declared_bare units 0 text) (builtin_bare (builtin_named text))))

kind_bare : (x : Bound) (kind : Kind) → IsBare (one x kind [])
kind_bare x k.Grammar = tt
kind_bare x k.Value = tt
kind_bare x k.Class = refl
kind_bare x k.Bits = tt

local_bare : (o : Option Local) → IsBare (meaning_of_local o)
local_bare None = tt
local_bare (Some l) = kind_bare (bound.Local l.name.span) l.kind

pub meaning_bare : (site : Site) (scope : Scope) (x : Name) → IsBare (meaning site scope x)
meaning_bare site scope x =
    or_bare (meaning_of_local (in_scope scope x.text)) (outer_meaning site.units site.here x.text) (local_bare (in_scope scope x.text))
    (outer_bare site.units site.here x.text)
