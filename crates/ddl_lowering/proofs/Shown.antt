-- What is in the variables of a block.
use Rattle.std.proofs.Common.{◌≡◌, ℕ, List, [], ◌∷◌, ◌++◌, Option, Some, None, refl, ◌∙◌, rules}
use Rattle.ddl_types.specs.Value.{Value, Values, unit, no_values, value}
use Rattle.ddl_types.specs.Value as vs
use Rattle.ddl_ops.specs.Valued.{Given, gives, fails, deep, stuck, counts, then_value}
use Rattle.ddl_ops.specs.Records.{record_of}
use Rattle.ddl_typed.specs.Tree.{Item, plain, let_, field, result_}
use Rattle.ddl_typed.specs.Blocks.{Built, with_part, fields_or}
use Rattle.ddl_core.specs.Meaning.{at, all_at, listed}
use Rattle.ddl_core.specs.Operations.{named_fields}
use Rattle.ddl_lowering.specs.Scopes.{further, shifted}
use Rattle.ddl_lowering.specs.Parts.{Seen, after_item}
use Rattle.ddl_lowering.proofs.Variables.{all_shift}
use Rattle.ddl_lowering.proofs.Listed.{all_app, named_app}

abbrev pub ShownResult : Option ℕ → List Value → Option Value → Type 0
ShownResult None env None = Unit {0}
ShownResult None env (Some v) = ⊥
ShownResult (Some i) env None = ⊥
ShownResult (Some i) env (Some v) = at env i ≡ Some v

abbrev pub ShownLast : Option ℕ → List Value → Value → Type 0
ShownLast None env v = v ≡ unit
ShownLast (Some i) env v = at env i ≡ Some v

pub record Holds (b : Seen) (env : List Value) (w : Built) : Type 0 where
  pub have : List Value
  pub fields : all_at env b.fields ≡ gives have
  pub named : named_fields b.labels (listed have) ≡ gives w.named
  pub result : ShownResult b.result env w.result
  pub last : ShownLast b.last env w.last

pub further_result : (o : Option ℕ) (r : Option Value) (v : Value) (env : List Value) → ShownResult o env r → ShownResult (further o) (v ∷ env) r
further_result None None v env e = tt
further_result None (Some u) v env e = absurd e
further_result (Some i) None v env e = absurd e
further_result (Some i) (Some u) v env e = e

pub holds_item : (i : Item) (b : Seen) (env : List Value) (w : Built) (v : Value) → Holds b env w → Holds (after_item i b) (v ∷ env) (with_part i v w)
holds_item (plain e) b env w v h = record {
  have = h.have;
  fields = all_shift v env b.fields ∙ h.fields;
  named = h.named;
  result =
      further_result b.result w.result v env h.result;
  last = refl;
}
holds_item (let_ x e) b env w v h = record {
  have = h.have;
  fields = all_shift v env b.fields ∙ h.fields;
  named = h.named;
  result =
      further_result b.result w.result v env h.result;
  last = refl;
}
holds_item (field name x e) b env w v h = record {
  have = h.have ++ (v ∷ []);
  fields = all_app (v ∷ env) (shifted b.fields) (0 ∷ []) h.have (v ∷ []) (all_shift v env b.fields ∙ h.fields) refl;
  named = named_app b.labels h.have w.named name v h.named;
  result = further_result b.result w.result v env h.result;
  last = refl;
}
holds_item (result_ e) b env w v h = record { have = h.have; fields = all_shift v env b.fields ∙ h.fields; named = h.named; result = refl; last = refl }

-- the record of at least one field
pub record_named : (name : List ℕ) (names : List (List ℕ)) (us : Values) (fs : vs.Fields) (last : Value) → named_fields (name ∷ names) us ≡ gives fs
    → record_of fs ≡ fields_or fs last
record_named name names us vs.no_fields last e = no_none us e
  where
    no_rest : (r : Given vs.Fields) (u : Value) → then_value r (λ gs. gives (vs.field name u gs)) ≡ gives vs.no_fields → ⊥
    no_rest (gives gs) u e = cc
    no_rest (fails fault span) u e = cc
    no_rest deep u e = cc
    no_rest stuck u e = cc
    no_rest (counts o) u e = cc

    no_none : (us : Values) → named_fields (name ∷ names) us ≡ gives vs.no_fields → record_of vs.no_fields ≡ fields_or vs.no_fields last
    no_none no_values e = absurd (search (rules, e))
    no_none (value u us) e = absurd (no_rest (named_fields names us) u e)
record_named name names us (vs.field label u fs) last e = refl
