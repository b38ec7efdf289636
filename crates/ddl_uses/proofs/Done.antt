-- Findings that are left, one part after the other.
use Rattle.std.proofs.Common.{◌≡◌, List, ◌++◌, Some, None, ap, sym, ◌∙◌}
use Rattle.std.specs.Option.{option_or}
use Rattle.std.proofs.lemmas.List.{append_assoc}
use Rattle.ddl_kinds.specs.declared.bound.Use.{Use}
use Rattle.ddl_kinds.specs.declared.error.NameError.{NameError}
use Rattle.ddl_kinds.specs.declared.error.NameError.TheVariants as e
use Rattle.ddl_kinds.specs.Findings.{Finding, all_uses, first_refusal}
use Rattle.ddl_kinds.specs.Found.{IsFirst}
use Rattle.ddl_kinds.proofs.Finding.{Leaves, first_append, uses_append}

-- a refusal among the first of those that are left is the first of all
refused_by : (all fs gs left : List Finding) (before after : List Use) (r : NameError) → Leaves all before left after → left ≡ fs ++ gs
    → first_refusal fs ≡ Some r → first_refusal all ≡ Some r
refused_by all fs gs left before after r h e q = h.0 ∙ ap first_refusal e ∙ first_append fs gs ∙ ap (λ o. option_or o (first_refusal gs)) q

pub refused : (all fs gs left : List Finding) (before after : List Use) (r : NameError) → Leaves all before left after → left ≡ fs ++ gs → IsFirst fs r
    → IsFirst all r
refused all fs gs left before after (e.Unknown s) h q f = refused_by all fs gs left before after (e.Unknown s) h q f
refused all fs gs left before after (e.Twice s t) h q f = refused_by all fs gs left before after (e.Twice s t) h q f
refused all fs gs left before after (e.TwoImports s i j) h q f = refused_by all fs gs left before after (e.TwoImports s i j) h q f
refused all fs gs left before after (e.WrongKind s) h q f = refused_by all fs gs left before after (e.WrongKind s) h q f
refused all fs gs left before after (e.WrongCount s i j) h q f = refused_by all fs gs left before after (e.WrongCount s i j) h q f
refused all fs gs left before after (e.TooManyDecls s) h q f = refused_by all fs gs left before after (e.TooManyDecls s) h q f
refused all fs gs left before after e.NoMemory h q f = tt

-- findings without a refusal are done
pub done : (all fs gs left : List Finding) (before after later : List Use) → Leaves all before left after → left ≡ fs ++ gs → first_refusal fs ≡ None
    → later ≡ after ++ all_uses fs → Leaves all before gs later
done all fs gs left before after later h q f u = (
  h.0 ∙ ap first_refusal q ∙ first_append fs gs ∙ ap (λ o. option_or o (first_refusal gs)) f,
  h.1 ∙ ap (λ xs. after ++ all_uses xs) q ∙ ap (λ us. after ++ us) (uses_append fs gs) ∙ sym (append_assoc after (all_uses fs) (all_uses gs))
      ∙ ap (λ us. us ++ all_uses gs) (sym u),
)

-- a refusal behind findings without one is the first of both
later_by : (fs gs : List Finding) (r : NameError) → first_refusal fs ≡ None → first_refusal gs ≡ Some r → first_refusal (fs ++ gs) ≡ Some r
later_by fs gs r q f = first_append fs gs ∙ ap (λ o. option_or o (first_refusal gs)) q ∙ f

pub later : (fs gs : List Finding) (r : NameError) → first_refusal fs ≡ None → IsFirst gs r → IsFirst (fs ++ gs) r
later fs gs (e.Unknown s) q f = later_by fs gs (e.Unknown s) q f
later fs gs (e.Twice s t) q f = later_by fs gs (e.Twice s t) q f
later fs gs (e.TwoImports s i j) q f = later_by fs gs (e.TwoImports s i j) q f
later fs gs (e.WrongKind s) q f = later_by fs gs (e.WrongKind s) q f
later fs gs (e.WrongCount s i j) q f = later_by fs gs (e.WrongCount s i j) q f
later fs gs (e.TooManyDecls s) q f = later_by fs gs (e.TooManyDecls s) q f
later fs gs e.NoMemory q f = tt
