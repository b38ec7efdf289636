-- One parameter, part, constructor or declaration more.
use Rattle.std.proofs.Common.{◌≡◌, ℕ, ◌+◌, ◌<◌, ◌≤◌, List, [], ◌∷◌, ◌++◌, length, map, reverse, take, drop, get_or, refl, ap, sym, ◌∙◌, drop-cons, add-one}
use Rattle.std.specs.Prelude.{flat_map}
use Rattle.std.proofs.lemmas.List.{append-nil, drop_all, map-append, reverse-append}
use Rattle.std.proofs.Math.Seq.{take-suc}
use Rattle.ddl_tree.specs.declared.kind.Kind.{Kind}
use Rattle.ddl_tree.specs.declared.name.Name.{Name}
use Rattle.ddl_tree.specs.declared.decl.Con.{Con}
use Rattle.ddl_tree.specs.declared.decl.Decl.{Decl}
use Rattle.ddl_tree.specs.declared.decl.Param.{Param}
use Rattle.ddl_tree.specs.declared.decl.Part.{Part}
use Rattle.ddl_tree.specs.ModuleTree as mo
use Rattle.ddl_tree.specs.ViewModule.{con_view, decl_view, param_view, part_view}
use Rattle.ddl_kinds.specs.declared.error.NameError.TheVariants as e
use Rattle.ddl_uses.specs.Bindings.{Site}
use Rattle.ddl_kinds.specs.Findings.{again, demand}
use Rattle.ddl_uses.specs.Forms.{once_again, type_findings, typed_findings}
use Rattle.ddl_names.specs.Modules.{bits_findings, con_findings, decl_findings, may_take, param_findings, param_type, part_findings, part_names, part_type}
use Rattle.ddl_uses.specs.Scope.{Scope, local_of, param_kind, param_name, param_scope}

next : {X : Type 0} (xs : List X) (i : ℕ) (x : X) → x ≡ get_or xs i x → i < length xs → drop i xs ≡ x ∷ drop (i + 1) xs
next xs i x e h = rw (add-one, drop-cons xs i x, ← e) refl

-- ---- parameters

pub next_local : (ps : List Param) (i : ℕ) (p : Param) → p ≡ get_or ps i p → i < length ps →
    param_scope (map param_view (take (i + 1) ps)) ≡ local_of (param_view p) ∷ param_scope (map param_view (take i ps))
next_local ps i p e h =
    let q : take (i + 1) ps ≡ take i ps ++ p ∷ [] = rw (add-one, take-suc ps i p h, ← e) refl in
    ap (λ xs. param_scope (map param_view xs)) q
    ∙ ap (λ xs. reverse (map local_of xs)) (map-append param_view (take i ps) (p ∷ []))
    ∙ ap reverse (map-append local_of (map param_view (take i ps)) (param_view p ∷ []))
    ∙ reverse-append (map local_of (map param_view (take i ps))) (local_of (param_view p) ∷ [])

pub next_param : (site : Site) (kind : Kind) (before : List Name) (scope : Scope) (ps : List Param) (i : ℕ) (p : Param) → p ≡ get_or ps i p → i < length ps →
    param_findings site kind before scope (map param_view (drop i ps))
    ≡ again before (param_name (param_view p)) ++ demand (may_take kind (param_kind (param_view p))) (e.WrongKind (param_name (param_view p)).span)
    ++ typed_findings site (param_type (param_view p)) scope
    ++ param_findings site kind (before ++ param_name (param_view p) ∷ []) scope (map param_view (drop (i + 1) ps))
next_param site kind before scope ps i p e h = ap (λ xs. param_findings site kind before scope (map param_view xs)) (next ps i p e h)

pub no_param : (site : Site) (kind : Kind) (before : List Name) (scope : Scope) (ps : List Param) (i : ℕ) → length ps ≤ i
    → param_findings site kind before scope (map param_view (drop i ps)) ≡ []
no_param site kind before scope ps i h = ap (λ xs. param_findings site kind before scope (map param_view xs)) (drop_all i ps h)

-- ---- parts of layouts

a_part : (site : Site) (before : List Name) (p : mo.Part) (ps : List mo.Part) →
    part_findings site before (p ∷ ps) ≡ once_again before (part_names p) ++ typed_findings site (part_type p) []
    ++ part_findings site (before ++ part_names p) ps
a_part site before (mo.Fixed n) ps = ap (λ xs. part_findings site xs ps) (sym (append-nil before))
a_part site before (mo.Named x t s) ps = refl
a_part site before (mo.Unnamed t s) ps = ap (λ xs. type_findings site t [] ++ part_findings site xs ps) (sym (append-nil before))

pub next_part : (site : Site) (before : List Name) (ps : List Part) (i : ℕ) (p : Part) → p ≡ get_or ps i p → i < length ps →
    part_findings site before (map part_view (drop i ps))
    ≡ once_again before (part_names (part_view p)) ++ typed_findings site (part_type (part_view p)) []
    ++ part_findings site (before ++ part_names (part_view p)) (map part_view (drop (i + 1) ps))
next_part site before ps i p e h = ap (λ xs. part_findings site before (map part_view xs)) (next ps i p e h)
    ∙ a_part site before (part_view p) (map part_view (drop (i + 1) ps))

pub no_part : (site : Site) (before : List Name) (ps : List Part) (i : ℕ) → length ps ≤ i → part_findings site before (map part_view (drop i ps)) ≡ []
no_part site before ps i h = ap (λ xs. part_findings site before (map part_view xs)) (drop_all i ps h)

-- ---- constructors

pub next_con : (site : Site) (before : List Name) (cs : List Con) (i : ℕ) (c : Con) → c ≡ get_or cs i c → i < length cs →
    con_findings site before (map con_view (drop i cs))
    ≡ again before (con_view c).name ++ bits_findings site (con_view c).bits
    ++ con_findings site (before ++ (con_view c).name ∷ []) (map con_view (drop (i + 1) cs))
next_con site before cs i c e h = ap (λ xs. con_findings site before (map con_view xs)) (next cs i c e h)

pub no_con : (site : Site) (before : List Name) (cs : List Con) (i : ℕ) → length cs ≤ i → con_findings site before (map con_view (drop i cs)) ≡ []
no_con site before cs i h = ap (λ xs. con_findings site before (map con_view xs)) (drop_all i cs h)

-- ---- declarations

pub next_decl : (site : Site) (ds : List Decl) (i : ℕ) (d : Decl) → d ≡ get_or ds i d → i < length ds →
    flat_map (decl_findings site) (map decl_view (drop i ds)) ≡ decl_findings site (decl_view d)
    ++ flat_map (decl_findings site) (map decl_view (drop (i + 1) ds))
next_decl site ds i d e h = ap (λ xs. flat_map (decl_findings site) (map decl_view xs)) (next ds i d e h)

pub no_decl : (site : Site) (ds : List Decl) (i : ℕ) → length ds ≤ i → flat_map (decl_findings site) (map decl_view (drop i ds)) ≡ []
no_decl site ds i h = ap (λ xs. flat_map (decl_findings site) (map decl_view xs)) (drop_all i ds h)

pub ruleset declared = (next_local, next_param, no_param, next_part, no_part, next_con, no_con, next_decl, no_decl)
