-- What `is` asks stands round what its subject asks.
use Rattle.std.proofs.Common.{◌≡◌, ℕ, List, [], ◌∷◌, ◌++◌, length, Option, refl, ap, sym, ◌∙◌}
use Rattle.std.proofs.Math.ListN.{set}
use Rattle.std.proofs.lemmas.List.{append_assoc}
use Rattle.ddl_base.specs.declared.span.Span.{Span}
use Rattle.ddl_tree.specs.declared.pattern.Shape.{Shape}
use Rattle.ddl_tree.specs.declared.pattern.Shape.TheVariants as h
use Rattle.ddl_rules.specs.Asks.{Ask}
use Rattle.ddl_rules.specs.Laws.{GuardsStandAround}
use Rattle.ddl_rules.specs.Patterns.{with_before}
use Rattle.ddl_rules.specs.Steps.{held}
use Rattle.ddl_rules.specs.Views.{asks_of}
use Rattle.ddl_rules.proofs.Composed.{none_added}

-- an ask in the place that was held, before those that were asked since
set_held : (xs : List Ask) (b a : Ask) (ys : List Ask) → set ((xs ++ b ∷ []) ++ ys) (length xs) a ≡ xs ++ a ∷ ys
set_held [] b a ys = refl
set_held (x ∷ xs) b a ys = ap (λ zs. x ∷ zs) (set_held xs b a ys)

-- nothing before, and something behind
asked_behind : (xs ys zs us vs : List Ask) → us ≡ xs ++ [] → vs ≡ us ++ ys → vs ++ zs ≡ xs ++ (ys ++ zs)
asked_behind xs ys zs us vs d e = ap (λ w. w ++ zs) (e ∙ ap (λ w. w ++ ys) (d ∙ sym (none_added xs))) ∙ append_assoc xs ys zs

pub guards_stand_around : GuardsStandAround
guards_stand_around (h.IsTag x) span slot asks z e p t u old before behind now at first then_ last =
    record {
      asked = last.asked
          ∙ ap (λ o. with_before (Rattle.ddl_rules.specs.Patterns.guarded (h.IsTag x) u span z).before o (asks_of behind) ++ []) at
          ∙ ap (λ w. set w (length (asks_of old)) (tag_ask x) ++ []) (then_.asked ∙ ap (λ w. w ++ asks) first.asked)
          ∙ ap (λ w. w ++ []) (set_held (asks_of old) (held span) (tag_ask x) asks)
          ∙ sym (none_added (asks_of old ++ tag_ask x ∷ asks))
          ∙ ap (λ w. asks_of old ++ tag_ask x ∷ w) (none_added asks);
      stated = last.stated;
      scoped = last.scoped;
    }
  where
    tag_ask : Rattle.ddl_tree.specs.declared.name.Name.Name → Ask
    tag_ask y = Rattle.ddl_rules.specs.Asks.asks_for (Rattle.ddl_types.specs.Conditions.tag u y.text (Rattle.ddl_types.specs.Types.Ty.var z.next)) span
guards_stand_around (h.IsTrue w) span slot asks z e p t u old before behind now at first then_ last =
    record {
      asked = last.asked ∙ asked_behind (asks_of old) asks _ (asks_of before) (asks_of behind) first.asked then_.asked;
      stated = last.stated;
      scoped =
          last.scoped;
    }
guards_stand_around (h.IsFalse w) span slot asks z e p t u old before behind now at first then_ last =
    record {
      asked = last.asked ∙ asked_behind (asks_of old) asks _ (asks_of before) (asks_of behind) first.asked then_.asked;
      stated = last.stated;
      scoped =
          last.scoped;
    }
guards_stand_around (h.IsJust w) span slot asks z e p t u old before behind now at first then_ last =
    record {
      asked = last.asked ∙ asked_behind (asks_of old) asks _ (asks_of before) (asks_of behind) first.asked then_.asked;
      stated = last.stated;
      scoped =
          last.scoped;
    }
guards_stand_around (h.IsNothing w) span slot asks z e p t u old before behind now at first then_ last =
    record {
      asked = last.asked ∙ asked_behind (asks_of old) asks _ (asks_of before) (asks_of behind) first.asked then_.asked;
      stated = last.stated;
      scoped =
          last.scoped;
    }
