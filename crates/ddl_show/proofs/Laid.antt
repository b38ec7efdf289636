-- Layout adds nothing to tokens with a brace behind each word that begins a list.
use Rattle.std.proofs.Common.{◌≡◌, ℕ, Bool, true, false, not, ◌&&◌, ◌||◌, List, [], ◌∷◌, ◌++◌, map, Option, Some, None, refl, ap, ◌∙◌, if◌then◌else◌}
use Rattle.ddl_token.specs.declared.mark.Mark.TheVariants as m
use Rattle.ddl_token.specs.declared.token.Tok.{Tok}
use Rattle.ddl_token.specs.declared.token.Token.{Token}
use Rattle.ddl_lex.specs.declared.stack.Open.{Open}
use Rattle.ddl_lex.specs.declared.stack.Open.TheVariants.{Items, Bracket}
use Rattle.ddl_lex.specs.declared.roles.Role.{Role}
use Rattle.ddl_lex.specs.declared.roles.Role.TheVariants.{Opens, Closes, Separates, Stands}
use Rattle.ddl_lex.specs.declared.roles.Last.{Last}
use Rattle.ddl_lex.specs.Layout.{Added, role, begins_items, is_brace, rule_one, rule_two, reaches, bracket, list_begins, is_first, before, mark_at, begin_of}
use Rattle.ddl_lex.specs.Layout.{last_of, end_all, at_end, lay}
use Rattle.ddl_lex.proofs.Decided.{both}
use Rattle.ddl_show.specs.ReadBack.{kinds}
use Rattle.ddl_show.proofs.Prints.{opens, braced}

-- no list is open
abbrev pub OnlyBrackets : List Open → Type 0
OnlyBrackets [] = Unit {0}
OnlyBrackets (Items c ∷ stack) = ⊥
OnlyBrackets (Bracket ∷ stack) = OnlyBrackets stack

-- nothing is added, and no list is open behind it
abbrev AddsNothing : Added → Type 0
AddsNothing added = (added.0 ≡ []) × OnlyBrackets added.1

bracket_adds : (r : Role) (stack : List Open) → OnlyBrackets stack → AddsNothing (bracket r stack)
bracket_adds Opens stack h = (refl, h)
bracket_adds Closes [] h = (refl, h)
bracket_adds Closes (Items c ∷ stack) h = absurd h
bracket_adds Closes (Bracket ∷ stack) h = (refl, h)
bracket_adds Separates [] h = (refl, h)
bracket_adds Separates (Items c ∷ stack) h = absurd h
bracket_adds Separates (Bracket ∷ stack) h = (refl, h)
bracket_adds Stands stack h = (refl, h)

-- the three rules, where no list begins
rules_by : Bool → Bool → ℕ → Role → List Open → Added
rules_by begins first column r stack =
    let one = rule_one begins column stack in
    let two = rule_two (first && not (begins && not (reaches column stack))) column one.1 in
    let three = bracket r two.1 in
    (one.0 ++ two.0 ++ three.0, three.1)

rules_add : (begins first : Bool) (column : ℕ) (r : Role) (stack : List Open) → begins ≡ false → OnlyBrackets stack
    → AddsNothing (rules_by begins first column r stack)
unfolding rules_by
rules_add true first column r stack e h = absurd (cc)
rules_add false first column r (Items c ∷ stack) e h = absurd h
rules_add false true column r [] e h = bracket_adds r [] h
rules_add false false column r [] e h = bracket_adds r [] h
rules_add false true column r (Bracket ∷ stack) e h = bracket_adds r (Bracket ∷ stack) h
rules_add false false column r (Bracket ∷ stack) e h = bracket_adds r (Bracket ∷ stack) h

before_adds : (last : Option Last) (token : Token) (stack : List Open) → list_begins last token.kind ≡ false → OnlyBrackets stack
    → AddsNothing (before last token stack)
unfolding rules_by
before_adds last token stack e h = rules_add (list_begins last token.kind) (is_first last token.line) token.col (role token.kind) stack e h

-- a brace follows where the last token is a word that begins a list
abbrev follows : Option Last → List Tok → Bool
follows None ts = true
follows (Some last) ts = not last.begins_items || opens ts

no_list : (v b : Bool) → (not v || b) ≡ true → (v && not b) ≡ false
no_list true true h = refl
no_list true false h = cc
no_list false b h = refl

no_list_begins : (last : Option Last) (token : Token) (ts : List Tok) → follows last (token.kind ∷ ts) ≡ true → list_begins last token.kind ≡ false
no_list_begins None token ts h = refl
no_list_begins (Some last) token ts h = no_list last.begins_items (is_brace token.kind) h

no_end : (stack : List Open) → OnlyBrackets stack → end_all stack ≡ []
no_end [] h = refl
no_end (Items c ∷ stack) h = absurd h
no_end (Bracket ∷ stack) h = no_end stack h

empty_list : (v : Bool) → (not v || false) ≡ true → (if v then m.OpenBrace ∷ m.CloseBrace ∷ [] else []) ≡ []
empty_list true h = absurd (cc)
empty_list false h = refl

ends_add : (last : Option Last) (stack : List Open) → OnlyBrackets stack → follows last [] ≡ true → at_end last stack ≡ []
ends_add None stack h f = refl
ends_add (Some last) stack h f =
    ap (λ z. map (mark_at last.end) (z ++ end_all stack)) (empty_list last.begins_items f) ∙ ap (map (mark_at last.end)) (no_end stack h)

pub laid : (last : Option Last) (stack : List Open) (tokens : List Token) → OnlyBrackets stack → follows last (kinds tokens) ≡ true
    → braced (kinds tokens) ≡ true → lay last stack tokens ≡ tokens
laid last stack [] h f b = ends_add last stack h f
laid last stack (token ∷ tokens) h f b =
    let added = before_adds last token stack (no_list_begins last token (kinds tokens) f) h in
    let after = both (not (begins_items token.kind) || opens (kinds tokens)) (braced (kinds tokens)) b in
    ap (λ z. map (mark_at (begin_of token)) z ++ token ∷ lay (Some (last_of token)) (before last token stack).1 tokens) added.0
    ∙ ap (λ z. token ∷ z) (laid (Some (last_of token)) (before last token stack).1 tokens added.1 after.0 after.1)
