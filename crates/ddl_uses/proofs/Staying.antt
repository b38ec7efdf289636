-- What is found where a walk stands is what is found where it began.
use Rattle.std.proofs.Common.{◌≡◌, List, ◌++◌, None, ap, sym, subst, ◌∙◌}
use Rattle.ddl_kinds.specs.declared.bound.Use.{Use}
use Rattle.ddl_kinds.specs.declared.error.NameError.{NameError}
use Rattle.ddl_uses.specs.declared.outer.Outer.{Outer}
use Rattle.ddl_uses.specs.declared.walk.Walk.{Walk}
use Rattle.ddl_uses.specs.Bindings.{Site}
use Rattle.ddl_kinds.specs.Findings.{Finding, all_uses, first_refusal}
use Rattle.ddl_kinds.specs.Found.{IsFirst}
use Rattle.ddl_uses.specs.Walks.{IsKept, site_view}
use Rattle.ddl_uses.specs.Held.{scope_view}
use Rattle.ddl_uses.specs.Scope.{Scope}
use Rattle.ddl_uses.proofs.Done.{done, refused}
use Rattle.ddl_kinds.proofs.Finding.{Leaves}

stays : (f : Site → Scope → List Finding) (before after : Walk) → IsKept before after
    → f (site_view after.outer) (scope_view after.scope) ≡ f (site_view before.outer) (scope_view before.scope)
stays f before after kept = ap (λ (o : Outer). f (site_view o) (scope_view after.scope)) kept.0 ∙ ap (f (site_view before.outer)) kept.1

pub kept_on : (before mid after : Walk) → IsKept before mid → IsKept mid after → IsKept before after
kept_on before mid after first second = (second.0 ∙ first.0, second.1 ∙ first.1, second.2)

pub refused_there : (f : Site → Scope → List Finding) (before after : Walk) (all rest left : List Finding) (old now : List Use) (r : NameError)
    → IsKept before after → Leaves all old left now
    → left ≡ f (site_view before.outer) (scope_view before.scope) ++ rest → IsFirst (f (site_view after.outer) (scope_view after.scope)) r → IsFirst all r
refused_there f before after all rest left old now r kept h q first =
    refused all (f (site_view before.outer) (scope_view before.scope)) rest left old now r h q
    (subst (λ (fs : List Finding). IsFirst fs r) (stays f before after kept) first)

pub done_there : (f : Site → Scope → List Finding) (before after : Walk) (all rest left : List Finding) (old now later : List Use) → IsKept before after
    → Leaves all old left now
    → left ≡ f (site_view before.outer) (scope_view before.scope) ++ rest → first_refusal (f (site_view after.outer) (scope_view after.scope)) ≡ None
    → later ≡ now ++ all_uses (f (site_view after.outer) (scope_view after.scope)) → Leaves all old rest later
done_there f before after all rest left old now later kept h q none added =
    done all (f (site_view before.outer) (scope_view before.scope)) rest left old now later h q (ap first_refusal (sym (stays f before after kept)) ∙ none)
    (added ∙ ap (λ fs. now ++ all_uses fs) (stays f before after kept))
