-- Stacks of types.
use Rattle.std.proofs.Common.{◌≡◌, List, [], ◌∷◌, ◌++◌, map, reverse, sym, ap, ◌∙◌, append_assoc, ℕ, ◌<◌, ◌+◌, length, get_or, take, zero, suc, add-one, arith}
use Rattle.std.proofs.lemmas.List.{reverse-append, map_push}
use Rattle.ddl_types.specs.declared.ty.Ty as program
use Rattle.ddl_types.specs.Types.{Ty, Sub, on}
use Rattle.ddl_types.specs.TyView.{ty_view}
use Rattle.ddl_schemes.specs.FoundView.{waiting}

-- what was put on a stack last is the first to be walked
pub waiting_last : (xs ys : List program.Ty) (x : program.Ty) → ys ≡ xs ++ x ∷ [] → waiting ys ≡ ty_view x ∷ waiting xs
waiting_last xs ys x e =
    ap (λ (zs : List program.Ty). waiting zs) e ∙ ap (λ (ts : List Ty). reverse ts) (map_push ty_view xs x) ∙ reverse-append (map ty_view xs) (ty_view x ∷ [])

-- a type that goes from one stack's end to another's
pub moved : (xs ys : List program.Ty) (x : program.Ty) (stack stack2 : List program.Ty) → ys ≡ xs ++ x ∷ [] → stack2 ≡ stack ++ x ∷ []
    → map ty_view xs ++ waiting stack2 ≡ map ty_view ys ++ waiting stack
moved xs ys x stack stack2 e f =
    ap (λ ts. map ty_view xs ++ ts) (waiting_last stack stack2 x f) ∙ sym (append_assoc (map ty_view xs) (ty_view x ∷ []) (waiting stack))
    ∙ ap (λ ts. ts ++ waiting stack) (sym (map_push ty_view xs x)) ∙ ap (λ (zs : List program.Ty). map ty_view zs ++ waiting stack) (sym e)

pub ruleset stacks = (waiting_last, moved)

-- one type more that is read
pub read_more : (xs : List program.Ty) (i : ℕ) (x y : program.Ty) (f : Sub) (ys zs : List program.Ty) → i < length xs → x ≡ get_or xs i x → zs ≡ ys ++ y ∷ []
    → ty_view y ≡ on (ty_view x) f → map ty_view ys ≡ map (λ t. on t f) (map ty_view (take i xs))
    → map ty_view zs ≡ map (λ t. on t f) (map ty_view (take (i + 1) xs))
read_more xs i x y f ys zs h e g k w =
    ap (λ (ts : List program.Ty). map ty_view ts) g ∙ map_push ty_view ys y ∙ ap (λ ts. ts ++ ty_view y ∷ []) w
    ∙ ap (λ t. map (λ u. on u f) (map ty_view (take i xs)) ++ t ∷ []) k ∙ sym (by_suc xs i h e)
    ∙ ap (λ j. map (λ t. on t f) (map ty_view (take j xs))) (sym (add-one i))
  where
    by_suc : (xs : List program.Ty) (i : ℕ) → i < length xs → x ≡ get_or xs i x
        → map (λ t. on t f) (map ty_view (take (suc i) xs)) ≡ map (λ t. on t f) (map ty_view (take i xs)) ++ on (ty_view x) f ∷ []
    by_suc [] i h e = absurd (omega arith)
    by_suc (z ∷ xs) zero h e = ap (λ (q : program.Ty). on (ty_view q) f ∷ []) (sym e)
    by_suc (z ∷ xs) (suc i) h e = ap (λ ts. on (ty_view z) f ∷ ts) (by_suc xs i (omega arith) e)
