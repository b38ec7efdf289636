-- A specialised specification holds each copy that the entry needs.
use Rattle.std.proofs.Common.{◌≡◌, ℕ, zero, suc, List, [], ◌∷◌, ◌++◌, map, Option, Some, refl, ap, subst, sym, ◌∙◌, rules}
use Rattle.ddl_typed.specs.Tree.{Site, Expr, Spec}
use Rattle.ddl_typed.specs.Specification.{Specification, Declaration, form, decl_of, body_of, spec_of}
use Rattle.ddl_typed.specs.Meaning.{form_at, form_of}
use Rattle.ddl_mono.specs.Copies as mono
use Rattle.ddl_mono.specs.Copies.{Copy, Mono, copy_at}
use Rattle.ddl_copies.specs.Shapes.{Instance, Origin, member, argument, unit_types}
use Rattle.ddl_copies.specs.Copied.{copied}
use Rattle.ddl_copies.specs.Queue.{Within, at_front, behind, Reached, at_entry, by_use, item}
use Rattle.ddl_copies.specs.Needed.{members_of, arguments_of, copy_uses, all_arguments, Needs}
use Rattle.ddl_copies.specs.Keeping.{Holds}
use Rattle.ddl_copies.specs.Specialised.{IsCopy, AreCopies, InOrder, Specialised}
use Rattle.ddl_copies.proofs.Lists.{within_left, within_right, item_left, stood, some_is, joins_have, met_entry, met_first, met_uses}

member_within : {f : ℕ} {τs : Instance} (os : List Origin) → Within (member f τs) os → Within (member f τs) (members_of os)
member_within [] i = elim i [ ]
member_within (member g σs ∷ os) at_front = at_front
member_within (member g σs ∷ os) (behind i) = behind (member_within os i)
member_within (argument site e σs ∷ os) (behind i) = member_within os i

argument_within : {site : Site} {e : Expr} {τs : Instance} (os : List Origin) → Within (argument site e τs) os → Within (argument site e τs) (arguments_of os)
argument_within [] i = elim i [ ]
argument_within (member g σs ∷ os) (behind i) = argument_within os i
argument_within (argument s p σs ∷ os) at_front = at_front
argument_within (argument s p σs ∷ os) (behind i) = behind (argument_within os i)

argument_among : (spec : Spec) {o u : Origin} (os : List Origin) → Within o os → Within u (arguments_of (copy_uses spec o)) → Within u (all_arguments spec os)
argument_among spec [] w i = elim w [ ]
argument_among spec (o ∷ os) at_front i = within_left (all_arguments spec os) i
argument_among spec (o ∷ os) (behind w) i = within_right (arguments_of (copy_uses spec o)) (argument_among spec os w i)

-- a copy that is needed is one of those in order
abbrev There : List Origin → List Origin → Origin → Type 0
There members arguments (member f τs) = Within (member f τs) members
There members arguments (argument site e τs) = Within (argument site e τs) arguments

module _ (s : Specification) (entry : ℕ) (members arguments : List Origin) (order : InOrder s entry members arguments) where
  abbrev Start : Origin
  Start = member entry (unit_types order.declared.typing.vars)

  there : {o : Origin} → Reached (copy_uses (spec_of s)) Start o → There members arguments o
  there at_entry = met_entry order.queue
  there (by_use {x = argument site e σs} r i) = none i
    where
      none : {u : Origin} → Within u [] → There members arguments u
      none j = elim j [ ]
  there (by_use {x = member g σs} {u = member f τs} r i) =
      let w = stood members (there r) in
      met_uses w.at order.queue w.below w.is (member_within (copy_uses (spec_of s) (member g σs)) i)
  there (by_use {x = member g σs} {u = argument site e τs} r i) =
      joins_have order.behind (argument_among (spec_of s) members (there r) (argument_within (copy_uses (spec_of s) (member g σs)) i))

  among : (o : Origin) → There members arguments o → Within o (members ++ arguments)
  among (member f τs) w = within_left arguments w
  among (argument site e τs) w = within_right members w

-- the copy of a number
pub record Stands (s : Specification) (number : Origin → ℕ) (o : Origin) (at : Option Copy) : Type 0 where
  pub copy : Copy
  pub is : at ≡ Some copy
  pub of : IsCopy s number o copy

copy_stands : (s : Specification) (number : Origin → ℕ) (os : List Origin) (cs : List Copy) (d : ℕ) {o : Origin} → AreCopies s number os cs → item os d ≡ Some o
    →
    Stands s number o (copy_at cs d)
copy_stands s number [] cs d h e = absurd (search rules)
copy_stands s number (u ∷ os) [] d h e = absurd h
copy_stands s number (u ∷ os) (c ∷ cs) zero (h, k) e = record { copy = c; is = refl; of = subst (λ z. IsCopy s number z c) (some_is e) h }
copy_stands s number (u ∷ os) (c ∷ cs) (suc d) (h, k) e = copy_stands s number os cs d k e

pub copy_form : (cs : List Copy) (d : ℕ) {c : Copy} → copy_at cs d ≡ Some c → form_at (map mono.decl_of cs) d ≡ Some c.body
copy_form [] d e = absurd (search rules)
copy_form (c ∷ cs) zero e = ap (λ k. Some k.body) (some_is e)
copy_form (c ∷ cs) (suc d) e = copy_form cs d e

pub declared_form : (ds : List Declaration) (f : ℕ) {d : Declaration} {text : Expr} → item ds f ≡ Some d → d.standing ≡ form text
    → form_at (map decl_of ds) f ≡ Some text
declared_form [] f e stands = absurd (search rules)
declared_form (d ∷ ds) zero e stands = ap (λ t. form_of (body_of t)) (ap (λ k. k.standing) (some_is e) ∙ stands)
declared_form (d ∷ ds) (suc f) e stands = declared_form ds f e stands

module _ (s : Specification) (entry : ℕ) (m : Mono) (made : Specialised s entry m) where
  -- each copy that is needed, at its number
  pub copy_of : (o : Origin) → Needs (spec_of s) entry made.order.declared.typing.vars o → Stands s made.number o (copy_at m.copies (made.number o))
  copy_of o needed =
      let os = made.members ++ made.arguments in
      let w = stood os (among s entry made.members made.arguments made.order o (there s entry made.members made.arguments made.order needed)) in
      subst (λ d. Stands s made.number o (copy_at m.copies d)) (sym (made.numbered w.at o w.is)) (copy_stands s made.number os m.copies w.at made.copies w.is)

  -- that of the entry is the first
  pub first_number : m.entry ≡ made.number (member entry (unit_types made.order.declared.typing.vars))
  first_number =
      made.first ∙ sym (made.numbered 0 (member entry (unit_types made.order.declared.typing.vars))
      (item_left made.members made.arguments 0 (met_first made.order.queue)))

  pub holds : Holds (spec_of s) entry made.order.declared.typing.vars made.number m
  holds = record {
    members = λ f τs body needed is.
        let h = copy_of (member f τs) needed in
        let same : body ≡ h.of.text = some_is (sym is ∙ declared_form s.declarations f h.of.is h.of.stands) in
        copy_form m.copies (made.number (member f τs)) h.is ∙ ap Some (h.of.body ∙ ap (λ e. copied (spec_of s) made.number e τs) (sym same));
    arguments = λ site e τs needed.
        let h = copy_of (argument site e τs) needed in
        copy_form m.copies (made.number (argument site e τs)) h.is ∙ ap Some h.of.body;
    bits = ap (map (λ b. b.layout)) made.bitdata;
    entry_is = first_number;
  }
