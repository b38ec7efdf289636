-- The modules one after the other, and the three parts of what is found in them.
use Rattle.std.proofs.Common.{◌≡◌, ℕ, ◌+◌, ◌<◌, ◌≤◌, List, [], ◌∷◌, ◌++◌, length, map, drop, get_or, Option, Some, None, refl, ap, sym, subst, ◌∙◌}
use Rattle.std.specs.Prelude.{find, flat_map, bytes_eq}
use Rattle.std.specs.Option.{option_or}
use Rattle.std.proofs.lemmas.List.{append_assoc, append-nil, drop_all}
use Rattle.std.proofs.lemmas.List.Concat.{flat_map-cons}
use Rattle.ddl_tree.specs.declared.name.Name.{Name}
use Rattle.ddl_tree.specs.declared.decl.Decl.{Decl}
use Rattle.ddl_tree.specs.declared.module.SourceUnit.{SourceUnit}
use Rattle.ddl_tree.specs.ModuleTree as mo
use Rattle.ddl_tree.specs.ViewModule.{decl_view}
use Rattle.ddl_kinds.specs.declared.bound.Use.{Use}
use Rattle.ddl_kinds.specs.declared.error.NameError.{NameError}
use Rattle.ddl_uses.specs.Bindings.{Loaded}
use Rattle.ddl_kinds.specs.Meanings.{decl_name}
use Rattle.ddl_kinds.specs.Findings.{Finding, all_uses, first_refusal, again, twice_after, twice_among}
use Rattle.ddl_names.specs.Modules.{all_findings, decl_findings, declared_twice, findings_from, one_too_many, too_many}
use Rattle.ddl_kinds.specs.Found.{IsFirst}
use Rattle.ddl_uses.specs.Walks.{unit_view, loaded}
use Rattle.ddl_kinds.proofs.Finding.{first_append, uses_append}
use Rattle.ddl_names.proofs.Refusing.{behind, in_front, moved, next_dropped}

-- ---- one module more

-- what is found in the modules from the k-th on
abbrev rest_from : List SourceUnit → ℕ → List Finding
rest_from us k = findings_from (loaded us) k (loaded (drop k us))

abbrev found_in : List SourceUnit → ℕ → List Decl → List Finding
found_in us k ds = flat_map (decl_findings (record { units = loaded us; here = k })) (map decl_view ds)

next_module : (us : List SourceUnit) (k : ℕ) (u : SourceUnit) (ds : List Decl) → k < length us → u ≡ get_or us k u → ds ≡ u.tree.decls.items
    → rest_from us k ≡ found_in us k ds ++ rest_from us (k + 1)
next_module us k u ds h e same =
    ap (λ vs. findings_from (loaded us) k (loaded vs)) (next_dropped us k u h e) ∙ ap (λ es. found_in us k es ++ rest_from us (k + 1)) (sym same)

pub refusal_behind : (us : List SourceUnit) (k : ℕ) (u : SourceUnit) (ds : List Decl) → k < length us → u ≡ get_or us k u → ds ≡ u.tree.decls.items
    → first_refusal (rest_from us k) ≡ first_refusal (findings_from (loaded us) 0 (loaded us)) → first_refusal (found_in us k ds) ≡ None
    → first_refusal (rest_from us (k + 1)) ≡ first_refusal (findings_from (loaded us) 0 (loaded us))
refusal_behind us k u ds h e same rest none =
    behind (found_in us k ds) (rest_from us (k + 1)) (findings_from (loaded us) 0 (loaded us)) (ap first_refusal (sym (next_module us k u ds h e same))
    ∙ rest) none

pub refusal_within : (us : List SourceUnit) (k : ℕ) (u : SourceUnit) (ds : List Decl) (r : NameError) → k < length us → u ≡ get_or us k u
    → ds ≡ u.tree.decls.items
    → first_refusal (rest_from us k) ≡ first_refusal (findings_from (loaded us) 0 (loaded us)) → IsFirst (found_in us k ds) r
    → IsFirst (findings_from (loaded us) 0 (loaded us)) r
refusal_within us k u ds r h e same rest =
    in_front (found_in us k ds) (rest_from us (k + 1)) (findings_from (loaded us) 0 (loaded us)) r (ap first_refusal (sym (next_module us k u ds h e same))
    ∙ rest)

pub uses_behind : (us : List SourceUnit) (k : ℕ) (u : SourceUnit) (ds : List Decl) (old new all : List Use) → k < length us → u ≡ get_or us k u
    → ds ≡ u.tree.decls.items
    → old ++ all_uses (rest_from us k) ≡ all → new ≡ old ++ all_uses (found_in us k ds) → new ++ all_uses (rest_from us (k + 1)) ≡ all
uses_behind us k u ds old new all h e same rest more =
    ap (λ xs. xs ++ all_uses (rest_from us (k + 1))) more ∙ append_assoc old (all_uses (found_in us k ds)) (all_uses (rest_from us (k + 1)))
    ∙ ap (λ xs. old ++ xs) (sym (uses_append (found_in us k ds) (rest_from us (k + 1))) ∙ ap all_uses (sym (next_module us k u ds h e same))) ∙ rest

pub none_left : (us : List SourceUnit) (k : ℕ) → length us ≤ k → rest_from us k ≡ []
none_left us k past = ap (λ vs. findings_from (loaded us) k (loaded vs)) (drop_all k us past)

pub nothing_refused : (us : List SourceUnit) (k : ℕ) → length us ≤ k → first_refusal (rest_from us k) ≡ first_refusal (findings_from (loaded us) 0 (loaded us))
    → first_refusal (findings_from (loaded us) 0 (loaded us)) ≡ None
nothing_refused us k past rest = sym rest ∙ ap first_refusal (none_left us k past)

pub all_taken : (us : List SourceUnit) (k : ℕ) (uses all : List Use) → length us ≤ k → uses ++ all_uses (rest_from us k) ≡ all → uses ≡ all
all_taken us k uses all past rest = sym (append-nil uses) ∙ ap (λ fs. uses ++ all_uses fs) (sym (none_left us k past)) ∙ rest

-- the same, as a program has its parts: what it holds are these modules
pub module_refuses : (us held : List SourceUnit) (k : ℕ) (u : SourceUnit) (ds : List Decl) (r : NameError) → held ≡ us → k < length us → u ≡ get_or us k u
    → ds ≡ u.tree.decls.items
    → first_refusal (findings_from (loaded us) k (loaded (drop k us))) ≡ first_refusal (findings_from (loaded us) 0 (loaded us))
    → IsFirst (flat_map (decl_findings (record { units = map unit_view held; here = k })) (map decl_view ds)) r
    → IsFirst (findings_from (loaded us) 0 (loaded us)) r
module_refuses us held k u ds r all h e same rest first =
    refusal_within us k u ds r h e same rest (subst (λ (vs : List SourceUnit). IsFirst
    (flat_map (decl_findings (record { units = map unit_view vs; here = k })) (map decl_view ds)) r) all first)

pub module_passes : (us held : List SourceUnit) (k : ℕ) (u : SourceUnit) (ds : List Decl) → held ≡ us → k < length us → u ≡ get_or us k u
    → ds ≡ u.tree.decls.items
    → first_refusal (findings_from (loaded us) k (loaded (drop k us))) ≡ first_refusal (findings_from (loaded us) 0 (loaded us))
    → first_refusal (flat_map (decl_findings (record { units = map unit_view held; here = k })) (map decl_view ds)) ≡ None
    → first_refusal (findings_from (loaded us) (k + 1) (loaded (drop (k + 1) us))) ≡ first_refusal (findings_from (loaded us) 0 (loaded us))
module_passes us held k u ds all h e same rest none =
    refusal_behind us k u ds h e same rest
    (ap (λ vs. first_refusal (flat_map (decl_findings (record { units = map unit_view vs; here = k })) (map decl_view ds))) (sym all) ∙ none)

pub module_adds : (us held : List SourceUnit) (k : ℕ) (u : SourceUnit) (ds : List Decl) (old new whole : List Use) → held ≡ us → k < length us
    → u ≡ get_or us k u → ds ≡ u.tree.decls.items
    → old ++ all_uses (findings_from (loaded us) k (loaded (drop k us))) ≡ whole
    → new ≡ old ++ all_uses (flat_map (decl_findings (record { units = map unit_view held; here = k })) (map decl_view ds))
    → new ++ all_uses (findings_from (loaded us) (k + 1) (loaded (drop (k + 1) us))) ≡ whole
module_adds us held k u ds old new whole all h e same rest more =
    uses_behind us k u ds old new whole h e same rest
    (more ∙ ap (λ vs. old ++ all_uses (flat_map (decl_findings (record { units = map unit_view vs; here = k })) (map decl_view ds))) all)

-- ---- the parts

no_uses_many : (o : Option mo.Decl) → all_uses (too_many o) ≡ []
no_uses_many None = refl
no_uses_many (Some d) = refl

no_uses_again : (x : Name) (o : Option Name) → all_uses (twice_after x o) ≡ []
no_uses_again x None = refl
no_uses_again x (Some y) = refl

no_uses_twice : (before xs : List Name) → all_uses (twice_among before xs) ≡ []
no_uses_twice before [] = refl
no_uses_twice before (x ∷ xs) =
    uses_append (again before x) (twice_among (before ++ x ∷ []) xs)
    ∙ ap (λ us. us ++ all_uses (twice_among (before ++ x ∷ []) xs)) (no_uses_again x (find (λ y. bytes_eq y.text x.text) before))
    ∙ no_uses_twice (before ++ x ∷ []) xs

no_uses_declared : (units : List Loaded) → all_uses (flat_map declared_twice units) ≡ []
no_uses_declared [] = refl
no_uses_declared (u ∷ us) =
    ap all_uses (flat_map-cons declared_twice u us) ∙ uses_append (declared_twice u) (flat_map declared_twice us)
    ∙ ap (λ xs. xs ++ all_uses (flat_map declared_twice us)) (no_uses_twice [] (map decl_name u.tree.decls)) ∙ no_uses_declared us

abbrev part_1 : List SourceUnit → List Finding
part_1 us = too_many (one_too_many (loaded us))

abbrev part_2 : List SourceUnit → List Finding
part_2 us = flat_map declared_twice (loaded us)

abbrev part_3 : List SourceUnit → List Finding
part_3 us = findings_from (loaded us) 0 (loaded us)

in_parts : (us : List SourceUnit) → first_refusal (all_findings (loaded us))
    ≡ option_or (option_or (first_refusal (part_1 us)) (first_refusal (part_2 us))) (first_refusal (part_3 us))
in_parts us = first_append (part_1 us ++ part_2 us) (part_3 us) ∙ ap (λ o. option_or o (first_refusal (part_3 us))) (first_append (part_1 us) (part_2 us))

pub stops_first : (us : List SourceUnit) (r : NameError) → IsFirst (too_many (one_too_many (loaded us))) r → IsFirst (all_findings (loaded us)) r
stops_first us r = moved (part_1 us) (all_findings (loaded us)) r (λ h. in_parts us
    ∙ ap (λ o. option_or (option_or o (first_refusal (part_2 us))) (first_refusal (part_3 us))) h)

pub stops_second : (us : List SourceUnit) (r : NameError) → first_refusal (too_many (one_too_many (loaded us))) ≡ None
    → IsFirst (flat_map declared_twice (loaded us)) r → IsFirst (all_findings (loaded us)) r
stops_second us r first =
    moved (part_2 us) (all_findings (loaded us)) r
    (λ h. in_parts us ∙ ap (λ o. option_or (option_or o (first_refusal (part_2 us))) (first_refusal (part_3 us))) first
    ∙ ap (λ o. option_or o (first_refusal (part_3 us))) h)

pub stops_third : (us : List SourceUnit) (r : NameError) → first_refusal (too_many (one_too_many (loaded us))) ≡ None
    → first_refusal (flat_map declared_twice (loaded us)) ≡ None
    → IsFirst (findings_from (loaded us) 0 (loaded us)) r → IsFirst (all_findings (loaded us)) r
stops_third us r first second =
    moved (part_3 us) (all_findings (loaded us)) r
    (λ h. in_parts us ∙ ap (λ o. option_or (option_or o (first_refusal (part_2 us))) (first_refusal (part_3 us))) first
    ∙ ap (λ o. option_or o (first_refusal (part_3 us))) second ∙ h)

pub no_refusal : (us : List SourceUnit) → first_refusal (too_many (one_too_many (loaded us))) ≡ None
    → first_refusal (flat_map declared_twice (loaded us)) ≡ None
    → first_refusal (findings_from (loaded us) 0 (loaded us)) ≡ None → first_refusal (all_findings (loaded us)) ≡ None
no_refusal us first second third =
    in_parts us ∙ ap (λ o. option_or (option_or o (first_refusal (part_2 us))) (first_refusal (part_3 us))) first
    ∙ ap (λ o. option_or o (first_refusal (part_3 us))) second ∙ third

pub uses_of_all : (us : List SourceUnit) (uses : List Use) → uses ≡ all_uses (findings_from (loaded us) 0 (loaded us))
    → uses ≡ all_uses (all_findings (loaded us))
uses_of_all us uses h =
    h ∙ sym (uses_append (part_1 us ++ part_2 us) (part_3 us) ∙ ap (λ xs. xs ++ all_uses (part_3 us)) (uses_append (part_1 us) (part_2 us))
    ∙ ap (λ xs. (xs ++ all_uses (part_2 us)) ++ all_uses (part_3 us)) (no_uses_many (one_too_many (loaded us)))
    ∙ ap (λ xs. xs ++ all_uses (part_3 us)) (no_uses_declared (loaded us)))

pub ruleset gathering = (module_refuses, nothing_refused, all_taken, stops_first, stops_second, stops_third, no_refusal, uses_of_all)
