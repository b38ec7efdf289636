-- Where the uses in each declaration begin.
use Rattle.std.proofs.Common.{◌≡◌, ℕ, ◌+◌, ◌-◌, ◌<◌, ◌≤◌, List, [], ◌∷◌, ◌++◌, length, map, take, drop, get_or, refl, ap, sym, ◌∙◌, add_assoc, add-zero}
use Rattle.std.proofs.Common.{length-append, arith}
use Rattle.std.specs.Prelude.{flat_map}
use Rattle.std.proofs.lemmas.List.{append_assoc, append-nil, drop_all}
use Rattle.std.proofs.lemmas.List.Concat.{flat_map-cons}
use Rattle.std.proofs.Math.Seq.{drop-append_seam, take-append_seam}
use Rattle.ddl_tree.specs.declared.decl.Decl.{Decl}
use Rattle.ddl_tree.specs.declared.module.SourceUnit.{SourceUnit}
use Rattle.ddl_tree.specs.ModuleTree as mo
use Rattle.ddl_tree.specs.ViewModule.{decl_view}
use Rattle.ddl_kinds.specs.declared.bound.Use.{Use}
use Rattle.ddl_uses.specs.Bindings.{Loaded, Site}
use Rattle.ddl_names.specs.Cutting.{begins, cut_at}
use Rattle.ddl_kinds.specs.Findings.{all_uses}
use Rattle.ddl_uses.specs.Walks.{unit_view, loaded}
use Rattle.ddl_names.specs.Modules.{decl_findings, findings_from, uses_from, uses_in_each, uses_of_each}
use Rattle.ddl_kinds.proofs.Finding.{uses_append}
use Rattle.ddl_names.proofs.Refusing.{next_dropped}

-- ---- a list and its parts

-- the parts one after the other
abbrev joined : {A : Type 0} → List (List A) → List A
joined [] = []
joined (xs ∷ parts) = xs ++ joined parts

joined_append : {A : Type 0} (xs ys : List (List A)) → joined (xs ++ ys) ≡ joined xs ++ joined ys
joined_append [] ys = refl
joined_append (x ∷ xs) ys = ap (λ zs. x ++ zs) (joined_append xs ys) ∙ sym (append_assoc x (joined xs) (joined ys))

begins_append : {A : Type 0} (n : ℕ) (xs ys : List (List A)) → begins n (xs ++ ys) ≡ begins n xs ++ begins (n + length (joined xs)) ys
begins_append n [] ys = ap (λ k. begins k ys) (sym (add-zero n))
begins_append n (x ∷ xs) ys =
    ap (λ ns. n ∷ ns)
    (begins_append (n + length x) xs ys
    ∙ ap (λ k. begins (n + length x) xs ++ begins k ys) (add_assoc n (length x) (length (joined xs)) ∙ ap (λ k. n + k) (sym (length-append x (joined xs)))))

-- the parts behind others, cut at the places where they begin
cut_begins : {A : Type 0} (before : List A) (parts : List (List A)) → cut_at (before ++ joined parts) (begins (length before) parts) ≡ parts
cut_begins before [] = refl
cut_begins before (xs ∷ []) = ap (λ ys. ys ∷ []) (drop-append_seam before (xs ++ []) ∙ append-nil xs)
cut_begins {A} before (xs ∷ ys ∷ parts) = ap (λ zs. zs ∷ cut_at all (begins (length before + length xs) (ys ∷ parts))) first
    ∙ ap (λ zss. xs ∷ zss) (moved ∙ cut_begins (before ++ xs) (ys ∷ parts))
  where
    behind : List A
    behind = joined (ys ∷ parts)

    all : List A
    all = before ++ (xs ++ behind)

    size : (length before + length xs) - length before ≡ length xs
    size = omega arith

    first : take ((length before + length xs) - length before) (drop (length before) all) ≡ xs
    first = ap (λ n. take n (drop (length before) all)) size ∙ ap (take (length xs)) (drop-append_seam before (xs ++ behind)) ∙ take-append_seam xs behind

    moved : cut_at all (begins (length before + length xs) (ys ∷ parts)) ≡ cut_at ((before ++ xs) ++ behind) (begins (length (before ++ xs)) (ys ∷ parts))
    moved =
        ap (λ n. cut_at all (begins n (ys ∷ parts))) (sym (length-append before xs))
        ∙ ap (λ zs. cut_at zs (begins (length (before ++ xs)) (ys ∷ parts))) (sym (append_assoc before xs behind))

-- ---- one declaration more

pub first_noted : (site : Site) (ds : List Decl) (i : ℕ) (d : Decl) (old new whole : List ℕ) (all more : List Use) → d ≡ get_or ds i d → i < length ds
    → old ++ begins (length all) (uses_in_each site (map decl_view (drop i ds))) ≡ whole → more ≡ all ++ all_uses (decl_findings site (decl_view d))
    → new ≡ old ++ length all ∷ [] → new ++ begins (length more) (uses_in_each site (map decl_view (drop (i + 1) ds))) ≡ whole
first_noted site ds i d old new whole all more e h was added noted =
    ap (λ ns. ns ++ begins (length more) rest) noted ∙ append_assoc old (length all ∷ []) (begins (length more) rest)
    ∙ ap (λ n. old ++ (length all ∷ begins n rest)) (ap length added ∙ length-append all (all_uses (decl_findings site (decl_view d))))
    ∙ ap (λ es. old ++ begins (length all) (uses_in_each site (map decl_view es))) (sym (next_dropped ds i d h e)) ∙ was
  where
    rest : List (List Use)
    rest = uses_in_each site (map decl_view (drop (i + 1) ds))

pub all_noted : (site : Site) (ds : List Decl) (i n : ℕ) (firsts whole : List ℕ) → length ds ≤ i
    → firsts ++ begins n (uses_in_each site (map decl_view (drop i ds))) ≡ whole → firsts ≡ whole
all_noted site ds i n firsts whole past h =
    sym (append-nil firsts) ∙ ap (λ es. firsts ++ begins n (uses_in_each site (map decl_view es))) (sym (drop_all i ds past)) ∙ h

-- ---- one module more

-- the uses in each declaration, one after the other, are those in all
joined_uses : (site : Site) (ds : List mo.Decl) → joined (uses_in_each site ds) ≡ all_uses (flat_map (decl_findings site) ds)
joined_uses site [] = refl
joined_uses site (d ∷ ds) =
    ap (λ xs. all_uses (decl_findings site d) ++ xs) (joined_uses site ds) ∙ sym (uses_append (decl_findings site d) (flat_map (decl_findings site) ds))
    ∙ ap all_uses (sym (flat_map-cons (decl_findings site) d ds))

joined_from : (units : List Loaded) (n : ℕ) (us : List Loaded) → joined (uses_from units n us) ≡ all_uses (findings_from units n us)
joined_from units n [] = refl
joined_from units n (u ∷ us) =
    joined_append (uses_in_each site u.tree.decls) (uses_from units (n + 1) us)
    ∙ ap (λ xs. xs ++ joined (uses_from units (n + 1) us)) (joined_uses site u.tree.decls)
    ∙ ap (λ xs. all_uses (flat_map (decl_findings site) u.tree.decls) ++ xs) (joined_from units (n + 1) us)
    ∙ sym (uses_append (flat_map (decl_findings site) u.tree.decls) (findings_from units (n + 1) us))
  where
    site : Site
    site = record { units = units; here = n }

-- as a program has its parts: what it holds are these modules
pub module_noted : (us held : List SourceUnit) (k : ℕ) (u : SourceUnit) (ds : List Decl) (old new whole : List ℕ) (all more : List Use) → held ≡ us
    → k < length us
    → u ≡ get_or us k u → ds ≡ u.tree.decls.items → old ++ begins (length all) (uses_from (loaded us) k (loaded (drop k us))) ≡ whole
    → more ≡ all ++ all_uses (flat_map (decl_findings (record { units = map unit_view held; here = k })) (map decl_view ds))
    → new ≡ old ++ begins (length all) (uses_in_each (record { units = map unit_view held; here = k }) (map decl_view ds))
    → new ++ begins (length more) (uses_from (loaded us) (k + 1) (loaded (drop (k + 1) us))) ≡ whole
module_noted us held k u ds old new whole all more same h e own was added noted =
    ap (λ ns. ns ++ begins (length more) rest) noted ∙ append_assoc old (begins (length all) here) (begins (length more) rest)
    ∙ ap (λ n. old ++ (begins (length all) here ++ begins n rest)) (ap length added ∙ length-append all found
    ∙ ap (λ xs. length all + length xs) (sym (joined_uses site (map decl_view ds))))
    ∙ ap (λ ns. old ++ ns) (sym (begins_append (length all) here rest)) ∙ ap (λ xss. old ++ begins (length all) xss) (sym next) ∙ was
  where
    site : Site
    site = record { units = map unit_view held; here = k }

    found : List Use
    found = all_uses (flat_map (decl_findings site) (map decl_view ds))

    here : List (List Use)
    here = uses_in_each site (map decl_view ds)

    rest : List (List Use)
    rest = uses_from (loaded us) (k + 1) (loaded (drop (k + 1) us))

    next : uses_from (loaded us) k (loaded (drop k us)) ≡ here ++ rest
    next =
        ap (λ vs. uses_from (loaded us) k (loaded vs)) (next_dropped us k u h e)
        ∙ ap (λ es. uses_in_each (record { units = loaded us; here = k }) (map decl_view es) ++ rest) (sym own)
        ∙ ap (λ vs. uses_in_each (record { units = map unit_view vs; here = k }) (map decl_view ds) ++ rest) (sym same)

pub modules_noted : (us : List SourceUnit) (k n : ℕ) (firsts whole : List ℕ) → length us ≤ k
    → firsts ++ begins n (uses_from (loaded us) k (loaded (drop k us))) ≡ whole → firsts ≡ whole
modules_noted us k n firsts whole past h = sym (append-nil firsts)
    ∙ ap (λ vs. firsts ++ begins n (uses_from (loaded us) k (loaded vs))) (sym (drop_all k us past)) ∙ h

-- ---- all modules

-- the uses in all modules, cut where those of each declaration begin
pub uses_cut : (us : List SourceUnit) (all : List Use) (firsts : List ℕ) → all ≡ all_uses (findings_from (loaded us) 0 (loaded us))
    → firsts ≡ begins 0 (uses_of_each (loaded us))
    → cut_at all firsts ≡ uses_of_each (loaded us)
uses_cut us all firsts taken noted =
    ap (λ xs. cut_at xs firsts) (taken ∙ sym (joined_from (loaded us) 0 (loaded us))) ∙ ap (cut_at (joined (uses_of_each (loaded us)))) noted
    ∙ cut_begins [] (uses_of_each (loaded us))

pub ruleset beginnings = (all_noted, modules_noted, uses_cut)
