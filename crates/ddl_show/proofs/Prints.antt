-- What is printed stands before the rest, whatever that is, and has a brace behind each word that begins a list.
use Rattle.std.proofs.Common.{◌≡◌, Bool, true, false, not, ◌&&◌, ◌||◌, List, [], ◌∷◌, ◌++◌, refl, ap, ◌∙◌}
use Rattle.ddl_token.specs.declared.token.Tok.{Tok}
use Rattle.ddl_token.specs.declared.token.Tok.TheVariants as k
use Rattle.ddl_token.specs.declared.mark.Mark.TheVariants as m
use Rattle.ddl_lex.specs.Layout.{begins_items, is_brace}

-- a brace is the first token
abbrev pub opens : List Tok → Bool
opens [] = false
opens (t ∷ ts) = is_brace t

-- a brace stands behind each word that begins a list
abbrev pub braced : List Tok → Bool
braced [] = true
braced (t ∷ ts) = (not (begins_items t) || opens ts) && braced ts

-- what a function prints before any rest
pub record Prints (f : List Tok → List Tok) : Type 0 where
  pub before : (r s : List Tok) → f (r ++ s) ≡ f r ++ s
  pub keeps : (r : List Tok) → braced r ≡ true → braced (f r) ≡ true

-- nothing
pub nothing : Prints (λ r. r)
nothing = record { before = λ r s. refl; keeps = λ r h. h }

-- one after the other
pub both : {f g : List Tok → List Tok} → Prints f → Prints g → Prints (λ r. f (g r))
both {f = f} {g = g} p q = record { before = λ r s. ap f (q.before r s) ∙ p.before (g r) s; keeps = λ r h. p.keeps (g r) (q.keeps r h) }

stands_keeps : (t : Tok) (ts : List Tok) → begins_items t ≡ false → braced ts ≡ true → braced (t ∷ ts) ≡ true
stands_keeps t ts e h = rw (e, h) refl

-- a token that begins no list
pub token : {f : List Tok → List Tok} (t : Tok) → begins_items t ≡ false → Prints f → Prints (λ r. t ∷ f r)
token {f = f} t e p = record { before = λ r s. ap (λ z. t ∷ z) (p.before r s); keeps = λ r h. stands_keeps t (f r) e (p.keeps r h) }

list_keeps : (t : Tok) (ts : List Tok) (v : Bool) → begins_items t ≡ v → braced ts ≡ true → braced (t ∷ k.Mark m.OpenBrace ∷ ts) ≡ true
list_keeps t ts true e h = rw (e, h) refl
list_keeps t ts false e h = rw (e, h) refl

-- a word that begins a list, and the brace behind it
pub list : {f : List Tok → List Tok} (t : Tok) → Prints f → Prints (λ r. t ∷ k.Mark m.OpenBrace ∷ f r)
list {f = f} t p = record {
  before = λ r s. ap (λ z. t ∷ k.Mark m.OpenBrace ∷ z) (p.before r s);
  keeps =
      λ r h. list_keeps t (f r) (begins_items t) refl (p.keeps r h);
}
