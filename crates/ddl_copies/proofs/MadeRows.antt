-- A worked row: a specification, that it is valid, and what specialisation makes of it.
use Rattle.std.proofs.Common.{◌≡◌, inl, ℕ, zero, suc, true, false, List, [], ◌∷◌, Some, refl, ap, subst, sym, rules}
use Rattle.std.specs.Prelude.{codes}
use Rattle.ddl_tree.specs.declared.kind.Kind.TheVariants.{Grammar}
use Rattle.ddl_typed.specs.Tree.{Name, Expr, Site, expr, local, pure, block, item, plain, let_, uint8, call, by_grammar, by_hand, no_args, no_items, parameter}
use Rattle.ddl_typed.specs.Tree.{own, under}
use Rattle.ddl_typed.specs.Specification as sp
use Rattle.ddl_typed.specs.Specification.{Specification, Declaration, Parameter, Standing}
use Rattle.ddl_types.specs.Types.{Ty}
use Rattle.ddl_typed.proofs.RowForms.{span, byte_type}
use Rattle.ddl_mono.specs.Copies.{Copy, Mono, is_value_kind}
use Rattle.ddl_mono.specs.IsMono.{IsMono}
use Rattle.ddl_copies.specs.Shapes.{Origin, Instance, at_place, no_parameters, grammar_at, member, argument}
use Rattle.ddl_copies.specs.Queue as q
use Rattle.ddl_copies.specs.Queue.{Within, all_there, is_new, at_first, and_then, at_front, behind}
use Rattle.ddl_copies.specs.Kinds.{declared_at, is_value_in, kinds_at, ValueForm, GrammarForm}
use Rattle.ddl_copies.specs.Valid.{Bound, statics_in, values_in, IsValid}
use Rattle.ddl_copies.specs.Specialised.{IsCopy, Specialised}
use Rattle.ddl_copies.proofs.Lists.{some_is}
use Rattle.ddl_copies.proofs.ValidMade.{copies_are_mono}

-- def Main = block { let k = UInt8; P (^ k) }
-- def P X = X

abbrev here : Site
here = record { place = 0; values = 0 ∷ []; grammars = []; classes = []; types = [] }

abbrev k : Expr
k = expr (pure (expr (local 0) byte_type (span 39 40))) byte_type (span 37 40)

abbrev main_text : Expr
main_text = expr (block (item (let_ 0 (expr uint8 byte_type (span 27 32)))
    (item (plain (expr (call 1 (by_grammar 0 here k no_args)) byte_type (span 34 41))) no_items))) byte_type (span 11 43)

abbrev p_text : Expr
p_text = expr (parameter 0) byte_type (span 54 55)

abbrev declared : List ℕ → ℕ → List Parameter → Expr → Declaration
declared name at parameters text = record {
  unit = 1;
  name = name;
  span = span at (suc at);
  kind = Grammar;
  parameters = parameters;
  typing = record { vars = 0; conditions = []; of = byte_type };
  standing = sp.form text;
}

abbrev main : Declaration
main = declared (codes "Main") 4 [] main_text

abbrev p : Declaration
p = declared (codes "P") 48 (record { name = codes "X"; span = span 50 51; kind = Grammar; of = byte_type } ∷ []) p_text

abbrev whole : Specification
whole = record { language = 1; units = []; texts = []; declarations = main ∷ p ∷ []; places = []; bitdata = [] }

-- ---- it is valid

abbrev text_of : Standing → Expr
text_of (sp.form e) = e
text_of other = k

-- what both declarations have
both : (P : Declaration → Expr → Type 0) → P main main_text → P p p_text → (f : ℕ) (d : Declaration) (e : Expr) → declared_at whole f ≡ Some d →
    d.standing ≡ sp.form e → P d e
both P a b zero d e is stands = subst (λ z. z.standing ≡ sp.form e → P z e) (some_is is) (λ h. subst (λ x. P main x) (ap text_of h) a) stands
both P a b (suc zero) d e is stands = subst (λ z. z.standing ≡ sp.form e → P z e) (some_is is) (λ h. subst (λ x. P p x) (ap text_of h) b) stands
both P a b (suc (suc f)) d e is stands = absurd (search (rules, is))

valid : IsValid whole
valid = record {
  bound = both (λ d e. Bound whole e (statics_in d) (values_in d))
      (tt, (((inl refl, (inl refl, tt), tt, tt, tt, tt), (record { declared = p; body = p_text; is = refl; stands = refl }, (refl, tt), refl)), tt))
      (inl refl);
  kinded = record {
    values = both (λ d e. is_value_kind d.kind ≡ true → ValueForm (λ g. is_value_in (declared_at whole g)) (λ g. kinds_at (declared_at whole g)) e)
        (λ v. absurd (search (rules, v))) (λ v. absurd (search (rules, v)));
    grammars = both (λ d e. is_value_kind d.kind ≡ false → GrammarForm (λ g. is_value_in (declared_at whole g)) (λ g. kinds_at (declared_at whole g)) e)
        (λ v. (tt, ((refl, (refl, tt, tt)), tt))) (λ v. tt);
  };
}

-- ---- what specialisation makes of it

abbrev inst : Instance
inst = grammar_at 0 (at_place here k no_parameters) no_parameters

abbrev number : Origin → ℕ
number (member f τs) = f
number (argument site e τs) = 2

abbrev copy : ℕ → List ℕ → ℕ → List Name → List Ty → Expr → Copy
copy f name at names params text = record {
  declaration = f;
  unit = 1;
  name = name;
  span = span at (suc at);
  kind = Grammar;
  names = names;
  params = params;
  result = byte_type;
  body = text;
}

-- Main hands its k on to P, and P to its argument
abbrev main_made : Copy
main_made = copy 0 (codes "Main") 4 [] [] (expr (block (item (let_ 0 (expr uint8 byte_type (span 27 32)))
    (item (plain (expr (call 1 (by_hand (under 0 (own 0)) (own 0) no_args)) byte_type (span 34 41))) no_items))) byte_type (span 11 43))

abbrev p_made : Copy
p_made = copy 1 (codes "P") 48 (under 0 (own 0) ∷ []) (byte_type ∷ []) (expr (call 2 (by_hand (own 0) (under 0 (own 0)) no_args)) byte_type (span 54 55))

abbrev k_made : Copy
k_made = record {
  declaration = 0;
  unit = 1;
  name = [];
  span = span 37 40;
  kind = Grammar;
  names = own 0 ∷ [];
  params = byte_type ∷ [];
  result = byte_type;
  body = k;
}

abbrev made : Mono
made = record { units = []; texts = []; entry = 0; copies = main_made ∷ p_made ∷ k_made ∷ []; places = []; bitdata = [] }

new : Within (member 1 inst) (member 0 no_parameters ∷ []) → ⊥
new (behind i) = elim i [ ]

at_number : (d : ℕ) (o : Origin) → q.item (member 0 no_parameters ∷ member 1 inst ∷ argument here k no_parameters ∷ []) d ≡ Some o → number o ≡ d
at_number zero o e = ap number (sym (some_is e))
at_number (suc zero) o e = ap number (sym (some_is e))
at_number (suc (suc zero)) o e = ap number (sym (some_is e))
at_number (suc (suc (suc d))) o e = absurd (search (rules, e))

main_copy : IsCopy whole number (member 0 no_parameters) main_made
main_copy = record {
  declared = main;
  text = main_text;
  is = refl;
  stands = refl;
  declaration = refl;
  unit = refl;
  name = refl;
  span = refl;
  kind = refl;
  names = refl;
  params = refl;
  result = refl;
  body = refl;
}

p_copy : IsCopy whole number (member 1 inst) p_made
p_copy = record {
  declared = p;
  text = p_text;
  is = refl;
  stands = refl;
  declaration = refl;
  unit = refl;
  name = refl;
  span = refl;
  kind = refl;
  names = refl;
  params = refl;
  result = refl;
  body = refl;
}

k_copy : IsCopy whole number (argument here k no_parameters) k_made
k_copy = record {
  declared = main;
  around = no_parameters;
  is = refl;
  stands = behind at_front;
  unit = refl;
  name = refl;
  span = refl;
  kind = refl;
  names = refl;
  params = refl;
  result = refl;
  body = refl;
}

specialised : Specialised whole 0 made
specialised = record {
  members = member 0 no_parameters ∷ member 1 inst ∷ [];
  arguments = argument here k no_parameters ∷ [];
  number = number;
  order = record {
    declared = main;
    is = refl;
    grammar = refl;
    without = refl;
    queue = and_then (and_then at_first refl (is_new new all_there)) refl all_there;
    behind = is_new (λ i. elim i [ ]) all_there;
  };
  numbered = at_number;
  copies = (main_copy, (p_copy, (k_copy, tt)));
  first = refl;
  units = refl;
  texts = refl;
  places = refl;
  bitdata = refl;
}

-- so it is a specialised specification
made_is_mono : IsMono made
made_is_mono = copies_are_mono whole 0 made valid specialised
