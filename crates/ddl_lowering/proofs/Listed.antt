-- Values and variables in lists, and values one after another.
use Rattle.std.proofs.Common.{◌≡◌, ℕ, List, [], ◌∷◌, ◌++◌, Option, Some, None, refl, ap, subst, ◌∙◌, rules}
use Rattle.ddl_types.specs.Value.{Value, Values, no_values, value}
use Rattle.ddl_types.specs.Value as vs
use Rattle.ddl_types.specs.Outcome.{Outcome, tick}
use Rattle.ddl_ops.specs.Valued.{Given, gives, fails, deep, stuck, counts, given, then_value, then_parse}
use Rattle.ddl_typed.specs.Tree.{Name}
use Rattle.ddl_typed.specs.Blocks.{add_field}
use Rattle.ddl_core.specs.Meaning.{at, all_at, listed}
use Rattle.ddl_core.specs.Operations.{named_fields}
use Rattle.ddl_lowering.specs.Scopes.{index}
use Rattle.ddl_lowering.proofs.Variables.{Zip, scope, values, look, at_index}

abbrev pub joined : List Value → Values → Values
joined [] vs = vs
joined (w ∷ ws) vs = value w (joined ws vs)

pub joined_end : (ws : List Value) → joined ws no_values ≡ listed ws
joined_end [] = refl
joined_end (w ∷ ws) = ap (value w) (joined_end ws)

pub joined_more : (ws : List Value) (v : Value) (vs : Values) → joined (ws ++ (v ∷ [])) vs ≡ joined ws (value v vs)
joined_more [] v vs = refl
joined_more (w ∷ ws) v vs = ap (value w) (joined_more ws v vs)

pub then_assoc : {A B D : Type 0} (o : Given A) (f : A → Given B) (g : B → Given D) → then_value (then_value o f) g ≡ then_value o (λ a. then_value (f a) g)
then_assoc (gives a) f g = refl
then_assoc (fails fault span) f g = refl
then_assoc deep f g = refl
then_assoc stuck f g = refl
then_assoc (counts o) f g = ap counts (then_assoc o f g)

pub parse_assoc : {A B : Type 0} (o : Given A) (f : A → Given B) (g : B → Outcome) → then_parse (then_value o f) g ≡ then_parse o (λ a. then_parse (f a) g)
parse_assoc (gives a) f g = refl
parse_assoc (fails fault span) f g = refl
parse_assoc deep f g = refl
parse_assoc stuck f g = refl
parse_assoc (counts o) f g = ap tick (parse_assoc o f g)

pub hand_all : (z : Zip) (here : Name) (v : Value) (acc : List ℕ) (y : Zip) → look z here ≡ Some v → all_at (values z) acc ≡ gives (values y)
    → all_at (values z) (index (scope z) here ∷ acc) ≡ gives (v ∷ values y)
hand_all z here v acc y is e = ap (λ o. then_value (given o) (λ v. then_value (all_at (values z) acc) (λ vs. gives (v ∷ vs)))) (at_index z here ∙ is)
    ∙ ap (λ o. then_value o (λ vs. gives (v ∷ vs))) e

pub all_app : (env : List Value) (xs ys : List ℕ) (us ws : List Value) → all_at env xs ≡ gives us → all_at env ys ≡ gives ws
    → all_at env (xs ++ ys) ≡ gives (us ++ ws)
all_app env [] ys us ws e f = subst (λ z. all_at env ys ≡ gives (z ++ ws)) (gives_same e) f
  where
    gives_same : gives [] ≡ gives us → [] ≡ us
    gives_same q = cc
all_app env (x ∷ xs) ys us ws e f = head_case (at env x) (all_at env xs) us e (λ vs q. all_app env xs ys vs ws q f)
  where
    rest_case : (v : Value) (r : Given (List Value)) (us : List Value) → then_value r (λ vs. gives (v ∷ vs)) ≡ gives us
        → ((vs : List Value) → r ≡ gives vs → all_at env (xs ++ ys) ≡ gives (vs ++ ws))
        → then_value (all_at env (xs ++ ys)) (λ vs. gives (v ∷ vs)) ≡ gives (us ++ ws)
    rest_case v (gives vs) us e k = let q : (v ∷ vs) ≡ us = cc in ap (λ o. then_value o (λ vs. gives (v ∷ vs))) (k vs refl) ∙ ap (λ us. gives (us ++ ws)) q
    rest_case v (fails fault span) us e k = absurd (search (rules, e))
    rest_case v deep us e k = absurd (search (rules, e))
    rest_case v stuck us e k = absurd (search (rules, e))
    rest_case v (counts o) us e k = absurd (search (rules, e))

    head_case : (o : Option Value) (r : Given (List Value)) (us : List Value)
        → then_value (given o) (λ v. then_value r (λ vs. gives (v ∷ vs))) ≡ gives us
        → ((vs : List Value) → r ≡ gives vs → all_at env (xs ++ ys) ≡ gives (vs ++ ws)) →
        then_value (given o) (λ v. then_value (all_at env (xs ++ ys)) (λ vs. gives (v ∷ vs))) ≡ gives (us ++ ws)
    head_case (Some v) r us e k = rest_case v r us e k
    head_case None r us e k = absurd (search (rules, e))

pub named_app : (labels : List (List ℕ)) (us : List Value) (fs : vs.Fields) (name : List ℕ) (v : Value) → named_fields labels (listed us) ≡ gives fs
    → named_fields (labels ++ (name ∷ [])) (listed (us ++ (v ∷ []))) ≡ gives (add_field fs name v)
named_app [] [] fs name v e = let q : vs.no_fields ≡ fs = cc in ap (λ z. gives (add_field z name v)) q
named_app [] (u ∷ us) fs name v e = absurd (search (rules, e))
named_app (label ∷ labels) [] fs name v e = absurd (search (rules, e))
named_app (label ∷ labels) (u ∷ us) fs name v e = rest (named_fields labels (listed us)) fs e (λ gs q. named_app labels us gs name v q)
  where
    rest : (r : Given vs.Fields) (fs : vs.Fields) → then_value r (λ gs. gives (vs.field label u gs)) ≡ gives fs
        → ((gs : vs.Fields) → r ≡ gives gs → named_fields (labels ++ (name ∷ [])) (listed (us ++ (v ∷ []))) ≡ gives (add_field gs name v)) →
        then_value (named_fields (labels ++ (name ∷ [])) (listed (us ++ (v ∷ [])))) (λ gs. gives (vs.field label u gs)) ≡ gives (add_field fs name v)
    rest (gives gs) fs e k = let q : vs.field label u gs ≡ fs = cc in ap (λ o. then_value o (λ gs. gives (vs.field label u gs))) (k gs refl)
        ∙ ap (λ z. gives (add_field z name v)) q
    rest (fails fault span) fs e k = absurd (search (rules, e))
    rest deep fs e k = absurd (search (rules, e))
    rest stuck fs e k = absurd (search (rules, e))
    rest (counts o) fs e k = absurd (search (rules, e))

-- fields after others
abbrev pub fields_after : vs.Fields → vs.Fields → vs.Fields
fields_after vs.no_fields gs = gs
fields_after (vs.field name v fs) gs = vs.field name v (fields_after fs gs)

pub after_more : (pre : vs.Fields) (name : List ℕ) (v : Value) (gs : vs.Fields) → fields_after pre (vs.field name v gs) ≡ fields_after (add_field pre name v) gs
after_more vs.no_fields name v gs = refl
after_more (vs.field other u fs) name v gs = ap (vs.field other u) (after_more fs name v gs)

pub after_none : (pre : vs.Fields) → fields_after pre vs.no_fields ≡ pre
after_none vs.no_fields = refl
after_none (vs.field other u fs) = ap (vs.field other u) (after_none fs)
