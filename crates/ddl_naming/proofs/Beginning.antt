-- A list of uses that begins with those of findings, taken apart.
use Rattle.std.proofs.Common.{◌≡◌, ℕ, List, [], ◌∷◌, ◌++◌, length, Bool, true, false, Option, Some, None, is_some, refl, ap, sym, subst, ◌∙◌, true≢false}
use Rattle.std.specs.Prelude.{nat_eq, find, bytes_eq}
use Rattle.ddl_base.specs.declared.span.Span.{Span}
use Rattle.ddl_kinds.specs.declared.bound.Bound.{Bound}
use Rattle.ddl_kinds.specs.declared.bound.Use.{Use}
use Rattle.ddl_kinds.specs.declared.error.NameError.{NameError}
use Rattle.ddl_kinds.specs.declared.error.NameError.TheVariants as e
use Rattle.ddl_kinds.specs.declared.want.Form.{Form}
use Rattle.ddl_kinds.specs.declared.want.Want.{Want}
use Rattle.ddl_kinds.specs.Findings.{Finding, uses, refuses, all_uses, first_refusal, demand, fits, twice_after, again, use_of, name_use, type_use, is_type}
use Rattle.ddl_kinds.specs.Kinds.{form_of_kind, takes}
use Rattle.ddl_kinds.specs.Meanings.{Meaning, nothing, two_imports, one}
use Rattle.ddl_kinds.proofs.Finding.{uses_append}
use Rattle.ddl_tree.specs.declared.kind.Kind.{Kind}
use Rattle.ddl_tree.specs.declared.name.Name.{Name}
use Rattle.ddl_rules.specs.Asks.{behind_use}
use Rattle.ddl_uses.specs.Forms.{once_again}
use Rattle.ddl_naming.specs.Laws.{EachUse}
use Rattle.ddl_naming.specs.Named.{IsNext}

-- ---- parts

pub not_none : {A : Type 0} (x : A) → Some x ≡ None → ⊥
not_none x h = true≢false (ap is_some h)

pub first_none : (fs gs : List Finding) → first_refusal (fs ++ gs) ≡ None → (first_refusal fs ≡ None) × (first_refusal gs ≡ None)
first_none [] gs h = (refl, h)
first_none (uses u ∷ fs) gs h = first_none fs gs h
first_none (refuses r ∷ fs) gs h = absurd (not_none r h)

assoc : (us vs ws : List Use) → (us ++ vs) ++ ws ≡ us ++ (vs ++ ws)
assoc [] vs ws = refl
assoc (u ∷ us) vs ws = ap (λ xs. u ∷ xs) (assoc us vs ws)

each_part : (K : Use → Type 0) (us vs : List Use) → EachUse K (us ++ vs) → EachUse K us × EachUse K vs
each_part K [] vs h = (tt, h)
each_part K (u ∷ us) vs h = let e = each_part K us vs h.1 in ((h.0, e.0), e.1)

-- no rule is broken, a list begins with the uses that are found, of which each is such a one, and then this follows
abbrev pub Begins : (Use → Type 0) → List Finding → List Use → List Use → Type 0
Begins K fs us rest = (first_refusal fs ≡ None) × (us ≡ all_uses fs ++ rest) × EachUse K (all_uses fs)

-- the second part begins where the first one ends
pub split : (K : Use → Type 0) (fs gs : List Finding) (us rest : List Use) → Begins K (fs ++ gs) us rest
    → Begins K fs us (all_uses gs ++ rest) × (first_refusal gs ≡ None) × EachUse K (all_uses gs)
split K fs gs us rest h =
    let n = first_none fs gs h.0 in let e = each_part K (all_uses fs) (all_uses gs) (subst (EachUse K) (uses_append fs gs) h.2) in
    ((n.0, h.1 ∙ ap (λ xs. xs ++ rest) (uses_append fs gs) ∙ assoc (all_uses fs) (all_uses gs) rest, e.0), n.1, e.1)

-- a rule that is met leaves nothing
pub past : (K : Use → Type 0) (b : Bool) (r : NameError) (gs : List Finding) (us rest : List Use) → Begins K (demand b r ++ gs) us rest → Begins K gs us rest
past K true r gs us rest h = h
past K false r gs us rest h = absurd (not_none r h.0)

pub past_fits : (K : Use → Type 0) (want : Want) (form : Form) (s : Span) (gs : List Finding) (us rest : List Use) → Begins K (fits want form s ++ gs) us rest
    → Begins K gs us rest
past_fits K want form s gs us rest h = past K (takes want form) (e.WrongKind s) gs us rest h

pub alone : (K : Use → Type 0) (want : Want) (form : Form) (s : Span) (us rest : List Use) → Begins K (fits want form s) us rest → us ≡ rest
alone K want form s us rest h = by (takes want form) h
  where
    by : (b : Bool) → Begins K (demand b (e.WrongKind s)) us rest → us ≡ rest
    by true p = p.1
    by false p = absurd (not_none (e.WrongKind s) p.0)

past_twice : (K : Use → Type 0) (x : Name) (o : Option Name) (gs : List Finding) (us rest : List Use) → Begins K (twice_after x o ++ gs) us rest
    → Begins K gs us rest
past_twice K x None gs us rest h = h
past_twice K x (Some y) gs us rest h = absurd (not_none (e.Twice x.span y.span) h.0)

pub past_again : (K : Use → Type 0) (before : List Name) (x : Name) (gs : List Finding) (us rest : List Use) → Begins K (again before x ++ gs) us rest
    → Begins K gs us rest
past_again K before x gs us rest h = past_twice K x (find (λ y. bytes_eq y.text x.text) before) gs us rest h

pub past_once : (K : Use → Type 0) (before xs : List Name) (gs : List Finding) (us rest : List Use) → Begins K (once_again before xs ++ gs) us rest
    → Begins K gs us rest
past_once K before [] gs us rest h = h
past_once K before (x ∷ xs) gs us rest h = past_again K before x gs us rest h

-- ---- a form with two or three parts behind its own kind

pub two : (K : Use → Type 0) (want : Want) (form : Form) (s : Span) (fs gs : List Finding) (us rest : List Use)
    → Begins K (fits want form s ++ fs ++ gs) us rest
    → Begins K fs us (all_uses gs ++ rest) × (first_refusal gs ≡ None) × EachUse K (all_uses gs)
two K want form s fs gs us rest h =
    let p = split K (fits want form s ++ fs) gs us rest h in
    (past_fits K want form s fs us (all_uses gs ++ rest) p.0, p.1, p.2)

-- ---- names

met : (K : Use → Type 0) (b : Bool) (r : NameError) (c : Bool) (q : NameError) (x : Name) (bound : Bound) (us rest : List Use)
    → Begins K (demand b r ++ demand c q ++ use_of x bound) us rest → us ≡ (let u : Use = record { span = x.span; bound = bound } in u) ∷ rest
met K true r true q x bound us rest h = h.1
met K true r false q x bound us rest h = absurd (not_none q h.0)
met K false r c q x bound us rest h = absurd (not_none r h.0)

-- the use of a name is next, with what the name means
pub used : (K : Use → Type 0) (want : Want) (x : Name) (given : ℕ) (b : Bound) (kind : Kind) (ws : List Want) (us rest : List Use)
    → Begins K (name_use want x given (one b kind ws)) us rest → us ≡ (let u : Use = record { span = x.span; bound = b } in u) ∷ rest
used K want x given b kind ws us rest h =
    met K (takes want (form_of_kind kind)) (e.WrongKind x.span) (nat_eq given (length ws)) (e.WrongCount x.span given (length ws)) x b us rest h

met_use : (K : Use → Type 0) (b : Bool) (r : NameError) (c : Bool) (q : NameError) (x : Name) (bound : Bound) (us rest : List Use)
    → Begins K (demand b r ++ demand c q ++ use_of x bound) us rest → K (record { span = x.span; bound = bound })
met_use K true r true q x bound us rest h = h.2.0
met_use K true r false q x bound us rest h = absurd (not_none q h.0)
met_use K false r c q x bound us rest h = absurd (not_none r h.0)

pub used_so : (K : Use → Type 0) (want : Want) (x : Name) (given : ℕ) (b : Bound) (kind : Kind) (ws : List Want) (us rest : List Use)
    → Begins K (name_use want x given (one b kind ws)) us rest → K (record { span = x.span; bound = b })
used_so K want x given b kind ws us rest h =
    met_use K (takes want (form_of_kind kind)) (e.WrongKind x.span) (nat_eq given (length ws)) (e.WrongCount x.span given (length ws)) x b us rest h

next : (x : Name) (b : Bound) (us rest : List Use) → us ≡ (let u : Use = record { span = x.span; bound = b } in u) ∷ rest
    → IsNext x us × (behind_use us ≡ rest)
next x b us rest p = (subst (IsNext x) (sym p) refl, ap behind_use p)

pub name_next : (K : Use → Type 0) (want : Want) (x : Name) (given : ℕ) (m : Meaning) (us rest : List Use) → Begins K (name_use want x given m) us rest
    → IsNext x us × (behind_use us ≡ rest)
name_next K want x given nothing us rest h = absurd (not_none (e.Unknown x.span) h.0)
name_next K want x given (two_imports i j) us rest h = absurd (not_none (e.TwoImports x.span i j) h.0)
name_next K want x given (one b kind ws) us rest h = next x b us rest (used K want x given b kind ws us rest h)

pub type_next : (K : Use → Type 0) (x : Name) (m : Meaning) (us rest : List Use) → Begins K (type_use x m) us rest → IsNext x us × (behind_use us ≡ rest)
type_next K x nothing us rest h = absurd (not_none (e.Unknown x.span) h.0)
type_next K x (two_imports i j) us rest h = absurd (not_none (e.TwoImports x.span i j) h.0)
type_next K x (one b kind ws) us rest h =
    next x b us rest (met K (is_type b kind) (e.WrongKind x.span) (nat_eq 0 (length ws)) (e.WrongCount x.span 0 (length ws)) x b us rest h)

pub each_any : (us : List Use) → EachUse (λ u. Unit {0}) us
each_any [] = tt
each_any (u ∷ us) = (tt, each_any us)
