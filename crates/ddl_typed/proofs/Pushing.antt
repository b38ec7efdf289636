-- One more plain item of a block.
use Rattle.std.proofs.Common.{◌≡◌, ℕ, List, [], ◌∷◌, ◌++◌, subst, sym}
use Rattle.ddl_typed.specs.Tree.{Expr, plain}
use Rattle.ddl_typed.specs.Simple.{AreSimple, IsSimple, IsSimpleItem, names_after}
use Rattle.ddl_typed.specs.declared.expr.TItem.{TItem}
use Rattle.ddl_typed.specs.View.{item_view, items_view}

-- a plain item that is simple anywhere may be added to items that are simple
pub plain_pushed : (xs : List TItem) (x : TItem) (e : Expr) (n : ℕ) → item_view x ≡ plain e → ((m : ℕ) → IsSimple e m) → AreSimple (items_view xs) n
    → AreSimple (items_view (xs ++ x ∷ [])) n
plain_pushed [] x e n h s simple = (subst (λ i. IsSimpleItem i n) (sym h) (s n), tt)
plain_pushed (y ∷ ys) x e n h s simple = (simple.0, plain_pushed ys x e (names_after (item_view y) n) h s simple.1)
