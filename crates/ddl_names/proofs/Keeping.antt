-- The declarations of the modules one after the other.
use Rattle.std.proofs.Common.{◌≡◌, ℕ, ◌+◌, List, [], ◌∷◌, ◌++◌, length, map, refl, ap, sym, ◌∙◌, arith}
use Rattle.std.proofs.lemmas.List.{append_assoc, append-nil, map-append}
use Rattle.ddl_tree.specs.declared.kind.Kind.{Kind}
use Rattle.ddl_tree.specs.declared.decl.Decl.{Decl}
use Rattle.ddl_tree.specs.declared.module.SourceUnit.{SourceUnit}
use Rattle.ddl_tree.specs.ModuleTree as mo
use Rattle.ddl_tree.specs.ViewModule.{decl_view}
use Rattle.ddl_names.specs.declared.resolved.DeclInfo.{DeclInfo}
use Rattle.ddl_names.specs.declared.resolved.Resolved.{Resolved}
use Rattle.ddl_names.specs.declared.resolved.Uses.{Uses}
use Rattle.ddl_kinds.specs.Meanings.{decl_kind, decl_name, decl_params}
use Rattle.ddl_names.specs.Cutting.{cut_at}
use Rattle.ddl_uses.specs.Scope.{param_kind}
use Rattle.ddl_uses.specs.Walks.{unit_view, loaded}
use Rattle.ddl_names.specs.Resolves.{AreBound, AreResolved, Info, IsResolved, firsts_of, info, info_view, infos_from}

-- a declaration as it is kept, by its parts
abbrev parts : ℕ → mo.Decl → List ℕ → Kind → List Kind → Info
parts m d name kind params = record { unit = m; name = name; kind = kind; params = params; decl = d }

pub made : (m : ℕ) (d : mo.Decl) (name : List ℕ) (kind : Kind) (params : List Kind) → name ≡ (decl_name d).text → kind ≡ decl_kind d
    → params ≡ map param_kind (decl_params d)
    → parts m d name kind params ≡ info m d
made m d name kind params e f g =
    ap (λ x. parts m d x kind params) e ∙ ap (λ x. parts m d (decl_name d).text x params) f ∙ ap (λ x. parts m d (decl_name d).text (decl_kind d) x) g

pub pushed : (old new : List DeclInfo) (x : DeclInfo) (y : Info) → new ≡ old ++ x ∷ [] → info_view x ≡ y → map info_view new ≡ map info_view old ++ y ∷ []
pushed old new x y more same =
    ap (map info_view) more ∙ map-append info_view old (x ∷ []) ∙ ap (λ z. map info_view old ++ z ∷ []) same

-- one declaration more is kept
pub decl_kept : (m : ℕ) (d : Decl) (ds all : List Decl) (old new whole : List Info) → all ≡ d ∷ ds → new ≡ old ++ info m (decl_view d) ∷ []
    → old ++ map (info m) (map decl_view all) ≡ whole → new ++ map (info m) (map decl_view ds) ≡ whole
decl_kept m d ds all old new whole e more h =
    ap (λ xs. xs ++ map (info m) (map decl_view ds)) more ∙ append_assoc old (info m (decl_view d) ∷ []) (map (info m) (map decl_view ds))
    ∙ ap (λ es. old ++ map (info m) (map decl_view es)) (sym e) ∙ h

pub decls_kept : (m : ℕ) (ds : List Decl) (xs whole : List Info) → ds ≡ [] → xs ++ map (info m) (map decl_view ds) ≡ whole → xs ≡ whole
decls_kept m ds xs whole e h = sym (append-nil xs) ∙ ap (λ es. xs ++ map (info m) (map decl_view es)) (sym e) ∙ h

-- one module more is kept
pub unit_kept : (m : ℕ) (u : SourceUnit) (us all : List SourceUnit) (old new whole : List Info) → all ≡ u ∷ us
    → new ≡ old ++ map (info m) (unit_view u).tree.decls
    → old ++ infos_from m (loaded all) ≡ whole → new ++ infos_from (m + 1) (loaded us) ≡ whole
unit_kept m u us all old new whole e more h =
    ap (λ xs. xs ++ infos_from (m + 1) (loaded us)) more ∙ append_assoc old (map (info m) (unit_view u).tree.decls) (infos_from (m + 1) (loaded us))
    ∙ ap (λ vs. old ++ infos_from m (loaded vs)) (sym e) ∙ h

pub units_kept : (m : ℕ) (us : List SourceUnit) (xs whole : List Info) → us ≡ [] → xs ++ infos_from m (loaded us) ≡ whole → xs ≡ whole
units_kept m us xs whole e h = sym (append-nil xs) ∙ ap (λ vs. xs ++ infos_from m (loaded vs)) (sym e) ∙ h

pub name_kept : (u : SourceUnit) (us all : List SourceUnit) (old new whole : List (List ℕ)) → all ≡ u ∷ us → new ≡ old ++ u.name ∷ []
    → old ++ map (λ v. v.name) all ≡ whole → new ++ map (λ v. v.name) us ≡ whole
name_kept u us all old new whole e more h =
    ap (λ xs. xs ++ map (λ v. v.name) us) more ∙ append_assoc old (u.name ∷ []) (map (λ v. v.name) us) ∙ ap (λ vs. old ++ map (λ v. v.name) vs) (sym e) ∙ h

pub names_kept : (us : List SourceUnit) (xs whole : List (List ℕ)) → us ≡ [] → xs ++ map (λ v. v.name) us ≡ whole → xs ≡ whole
names_kept us xs whole e h = sym (append-nil xs) ∙ ap (λ vs. xs ++ map (λ v. v.name) vs) (sym e) ∙ h

-- with the uses that bind their names, the modules are resolved
pub resolved : (us : List SourceUnit) (found : Uses) (r : Resolved) → AreBound us found → IsResolved us found r → AreResolved us r
resolved us found r bound kept = (
  bound.0,
  kept.0,
  kept.1,
  kept.2 ∙ bound.1,
  kept.3 ∙ bound.2,
  ap (λ xs. cut_at xs (firsts_of r.decls.items)) kept.2 ∙ ap (cut_at found.all.items) kept.3 ∙ bound.3,
)

pub none_left : {X : Type 0} (xs : List X) → length xs ≡ 0 → xs ≡ []
none_left [] h = refl
none_left (x ∷ xs) h = absurd (omega arith)

pub ruleset keeping = (made, pushed, decl_kept, decls_kept, unit_kept, units_kept, name_kept, names_kept, resolved)
