-- The first use of each declaration that is kept.
use Rattle.std.proofs.Common.{◌≡◌, ℕ, suc, ◌+◌, ◌≤◌, List, [], ◌∷◌, ◌++◌, length, map, refl, ap, sym, ◌∙◌, length-append, arith}
use Rattle.std.proofs.lemmas.List.{length-map, take_all}
use Rattle.std.proofs.lemmas.List.Sums.{sum_by-cons}
use Rattle.ddl_tree.specs.declared.module.SourceUnit.{SourceUnit}
use Rattle.ddl_tree.specs.ViewModule.{decl_view}
use Rattle.ddl_names.specs.declared.resolved.DeclInfo.{DeclInfo}
use Rattle.ddl_names.specs.declared.resolved.Uses.{Uses}
use Rattle.ddl_uses.specs.Bindings.{Loaded, Site}
use Rattle.ddl_names.specs.Cutting.{cut_at}
use Rattle.ddl_names.specs.Modules.{uses_from, uses_in_each}
use Rattle.ddl_uses.specs.Walks.{unit_view, loaded}
use Rattle.ddl_names.specs.Resolves.{AreBound, AreFirst, HaveFirsts, Info, decl_count, firsts_of, info, info_view}

-- ---- as many as before and some more

pub more_kept : (old new : List DeclInfo) (more : List Info) → map info_view new ≡ map info_view old ++ more → length new ≡ length old + length more
more_kept old new more h =
    sym (length-map new info_view) ∙ ap length h ∙ length-append (map info_view old) more ∙ ap (λ n. n + length more) (length-map old info_view)

pub none_first : (firsts : List ℕ) → AreFirst firsts []
none_first firsts = refl

-- ---- a place for each declaration that is to come

counted : (u : SourceUnit) (us all : List SourceUnit) → all ≡ u ∷ us → decl_count all ≡ length u.tree.decls.items + decl_count us
counted u us all e = ap decl_count e ∙ sum_by-cons (λ (v : SourceUnit). length v.tree.decls.items) u us

pub room_left : (m : ℕ) (u : SourceUnit) (us all : List SourceUnit) (old new : List DeclInfo) (n : ℕ) → all ≡ u ∷ us
    → map info_view new ≡ map info_view old ++ map (info m) (unit_view u).tree.decls → length old + decl_count all ≡ n → length new + decl_count us ≡ n
room_left m u us all old new n e more room =
    let h = counted u us all e in
    let longer = more_kept old new (map (info m) (unit_view u).tree.decls) more in
    let same : length (map (info m) (unit_view u).tree.decls) ≡ length u.tree.decls.items = length-map (unit_view u).tree.decls (info m)
    ∙ length-map u.tree.decls.items decl_view in
    omega arith

-- all places are taken
pub all_first : (firsts : List ℕ) (us : List SourceUnit) (kept : List DeclInfo) → us ≡ [] → length kept + decl_count us ≡ length firsts → AreFirst firsts kept
    → firsts_of kept ≡ firsts
all_first firsts us kept e room first =
    let none : decl_count us ≡ 0 = ap decl_count e in
    let enough : length firsts ≤ length kept = omega arith in
    first ∙ take_all (length kept) firsts enough

-- ---- a first use for each declaration

-- a list that is cut at places has as many parts
pub length_cut : {A : Type 0} (xs : List A) (fs : List ℕ) → length (cut_at xs fs) ≡ length fs
length_cut xs [] = refl
length_cut xs (f ∷ []) = refl
length_cut xs (f ∷ g ∷ fs) = ap suc (length_cut xs (g ∷ fs))

as_many : (units : List Loaded) (n : ℕ) (us : List SourceUnit) → length (uses_from units n (loaded us)) ≡ decl_count us
as_many units n [] = refl
as_many units n (u ∷ us) =
    length-append (uses_in_each site (map decl_view u.tree.decls.items)) (uses_from units (n + 1) (loaded us))
    ∙ ap (λ m. m + length (uses_from units (n + 1) (loaded us))) (length-map (map decl_view u.tree.decls.items) _ ∙ length-map u.tree.decls.items decl_view)
    ∙ ap (λ m. length u.tree.decls.items + m) (as_many units (n + 1) us) ∙ sym (sum_by-cons (λ (v : SourceUnit). length v.tree.decls.items) u us)
  where
    site : Site
    site = record { units = units; here = n }

pub have_firsts : (us : List SourceUnit) (found : Uses) → AreBound us found → HaveFirsts us found
have_firsts us found h = sym (length_cut found.all.items found.firsts.items) ∙ ap length h.3 ∙ as_many (loaded us) 0 us

pub ruleset firsts = (have_firsts, none_first)
