-- The equations of forms, by the types that the program makes.
use Rattle.std.proofs.Common.{◌≡◌, ℕ, ◌+◌, ◌<◌, List, [], ◌∷◌, Result, refl, sym, ap, ◌∙◌, arith, suc, subst}
use Rattle.ddl_base.specs.declared.span.Span.{Span}
use Rattle.ddl_types.specs.Types.{Ty, Ty.var, Ty.con, Tys.none, Tys.more, Head.array_of, Head.map_of, Head.uint, Below}
use Rattle.ddl_unify.specs.Equations.{EachBelow, Equation, equal}
use Rattle.ddl_unify.proofs.Equating.{below_more}
use Rattle.ddl_growing.specs.declared.refusal.SettleError.{SettleError}
use Rattle.ddl_growing.specs.declared.turn.Turn.{Turn}
use Rattle.ddl_growing.specs.Carrying.{Carries, byte_array, gathering, given}
use Rattle.ddl_growing.specs.Giving.{turns}
use Rattle.ddl_growing.specs.Turns.{HasAdded, Solved}
use Rattle.ddl_growing.proofs.Added.{added_then, carried_then}

-- what was below the variables before stays below those after
pub stays : (t : Ty) (n : ℕ) (es : List Equation) (a b : Solved) → HasAdded es n a b → Below t a.variables → Below t b.variables
stays t n es a b h k = below_more t a.variables b.variables (omega (arith, h.variables)) k

pub two_more : (a b c : Solved) → HasAdded [] 1 a b → HasAdded [] 1 b c → HasAdded [] 2 a c
two_more a b c h k = added_then [] [] 1 1 a b c h k

pub bytes_carried : (x t u v : Ty) (n : ℕ) (s : Span) (a b c : Solved) (r : Result Turn SettleError) → x ≡ con array_of (more v none) → u ≡ con (uint 8) none
    → v ≡ var n → n ≡ a.variables → HasAdded [] 1 a b → Carries (given (equal x t ∷ equal u v ∷ []) 0) s b c r → Carries (byte_array t a.variables) s a c r
bytes_carried x t u v n s a b c r e f g h k i =
    let i1 = rw e at i in let i2 = rw f at i1 in let i3 = rw g at i2 in let i4 = rw h at i3 in
    carried_then (equal (con array_of (more (var a.variables) none)) t) [] (equal (con (uint 8) none) (var a.variables) ∷ []) 1 0 1 s a b c r refl k i4

pub bytes_below : (x t u v : Ty) (n : ℕ) (a b : Solved) → x ≡ con array_of (more v none) → u ≡ con (uint 8) none → v ≡ var n → n ≡ a.variables
    → HasAdded [] 1 a b → Below t a.variables → EachBelow (equal x t ∷ equal u v ∷ []) b.variables
bytes_below x t u v n a b e f g h k l =
    let m : n < b.variables = omega (arith, h, k.variables) in
    rw e (rw f (rw g ((m, tt), stays t 1 [] a b k l, (tt, m, tt))))

pub array_carried : (x t u p v q : Ty) (n : ℕ) (s : Span) (a b c : Solved) (r : Result Turn SettleError) → x ≡ con array_of (more v none)
    → u ≡ con (uint 64) none → v ≡ var n → n ≡ a.variables → HasAdded [] 1 a b → Carries (given (equal x t ∷ equal u p ∷ equal v q ∷ []) 0) s b c r
    → Carries (turns array_of t p q a.variables) s a c r
array_carried x t u p v q n s a b c r e f g h k i =
    let i1 = rw e at i in let i2 = rw f at i1 in let i3 = rw g at i2 in let i4 = rw h at i3 in
    carried_then (equal (con array_of (more (var a.variables) none)) t) [] (equal (con (uint 64) none) p ∷ equal (var a.variables) q ∷ []) 1 0 1 s a b c r refl
    k i4

pub array_below : (x t u p v q : Ty) (n : ℕ) (a b : Solved) → x ≡ con array_of (more v none) → u ≡ con (uint 64) none → v ≡ var n → n ≡ a.variables
    → HasAdded [] 1 a b → Below t a.variables → Below p a.variables → Below q a.variables → EachBelow (equal x t ∷ equal u p ∷ equal v q ∷ []) b.variables
array_below x t u p v q n a b e f g h k l o z =
    let m : n < b.variables = omega (arith, h, k.variables) in
    rw e (rw f (rw g ((m, tt), stays t 1 [] a b k l, (tt, stays p 1 [] a b k o, (m, stays q 1 [] a b k z, tt)))))

pub map_carried : (x t v p w q : Ty) (n m : ℕ) (s : Span) (a b c d : Solved) (r : Result Turn SettleError) → x ≡ con map_of (more v (more w none)) → v ≡ var n
    → w ≡ var m → n ≡ a.variables → m ≡ b.variables → HasAdded [] 1 a b → HasAdded [] 1 b c → Carries (given (equal x t ∷ equal v p ∷ equal w q ∷ []) 0) s c d r
    → Carries (turns map_of t p q a.variables) s a d r
map_carried x t v p w q n m s a b c d r e f g h l k o i =
    let z : m ≡ suc a.variables = omega (arith, l, k.variables) in
    let i1 = rw e at i in let i2 = rw f at i1 in let i3 = rw g at i2 in let i4 = rw h at i3 in let i5 = rw z at i4 in
    carried_then (equal (con map_of (more (var a.variables) (more (var (suc a.variables)) none))) t) []
    (equal (var a.variables) p ∷ equal (var (suc a.variables)) q ∷ []) 2 0 2 s a c d r refl (two_more a b c k o) i5

pub map_below : (x t v p w q : Ty) (n m : ℕ) (a b c : Solved) → x ≡ con map_of (more v (more w none)) → v ≡ var n → w ≡ var m → n ≡ a.variables
    → m ≡ b.variables → HasAdded [] 1 a b → HasAdded [] 1 b c → Below t a.variables → Below p a.variables → Below q a.variables
    → EachBelow (equal x t ∷ equal v p ∷ equal w q ∷ []) c.variables
map_below x t v p w q n m a b c e f g h l k o bt bp bq =
    let i : n < c.variables = omega (arith, h, k.variables, o.variables) in
    let j : m < c.variables = omega (arith, l, o.variables) in
    let both = two_more a b c k o in
    rw e (rw f (rw g ((i, (j, tt)), stays t 2 [] a c both bt, (i, stays p 2 [] a c both bp, (j, stays q 2 [] a c both bq, tt)))))

pub array_gathered : (x t u p v q y b z w : Ty) (n : ℕ) (s : Span) (c d e : Solved) (r : Result Turn SettleError) → x ≡ con array_of (more v none)
    → u ≡ con (uint 64) none → v ≡ var n → y ≡ con array_of (more z none) → z ≡ b → n ≡ c.variables → HasAdded [] 1 c d
    → Carries (given (equal x t ∷ equal u p ∷ equal v q ∷ equal y w ∷ []) 0) s d e r → Carries (gathering array_of t p q b w c.variables) s c e r
array_gathered x t u p v q y b z w n s c d e r f g h j m l k i =
    let i1 = rw f at i in let i2 = rw g at i1 in let i3 = rw h at i2 in let i4 = rw j at i3 in let i5 = rw m at i4 in let i6 = rw l at i5 in
    carried_then (equal (con array_of (more (var c.variables) none)) t) [] (equal (con (uint 64) none) p ∷ equal (var c.variables) q
    ∷ equal (con array_of (more b none)) w ∷ []) 1 0 1 s c d e r refl k i6

pub array_gather_below : (x t u p v q y b z w : Ty) (n : ℕ) (c d : Solved) → x ≡ con array_of (more v none) → u ≡ con (uint 64) none → v ≡ var n
    → y ≡ con array_of (more z none) → z ≡ b → n ≡ c.variables → HasAdded [] 1 c d → Below t c.variables → Below p c.variables → Below q c.variables
    → Below b c.variables → Below w c.variables → EachBelow (equal x t ∷ equal u p ∷ equal v q ∷ equal y w ∷ []) d.variables
array_gather_below x t u p v q y b z w n c d f g h j m l k bt bp bq bb bw =
    let i : n < d.variables = omega (arith, l, k.variables) in
    rw f (rw g (rw h (rw j (rw m (
      (i, tt),
      stays t 1 [] c d k bt,
      (tt, stays p 1 [] c d k bp, (i, stays q 1 [] c d k bq, ((stays b 1 [] c d k bb, tt), stays w 1 [] c d k bw, tt))),
    )))))

pub map_gathered : (x t v p w q y b z o u : Ty) (n m : ℕ) (s : Span) (c d e f : Solved) (r : Result Turn SettleError) → x ≡ con map_of (more v (more w none))
    → v ≡ var n → w ≡ var m → y ≡ con map_of (more u (more z none)) → u ≡ var n → z ≡ b → n ≡ c.variables → m ≡ d.variables → HasAdded [] 1 c d
    → HasAdded [] 1 d e → Carries (given (equal x t ∷ equal v p ∷ equal w q ∷ equal y o ∷ []) 0) s e f r
    → Carries (gathering map_of t p q b o c.variables) s c f r
map_gathered x t v p w q y b z o u n m s c d e f r e1 e2 e3 e4 e5 e6 e7 e8 k l i =
    let h : m ≡ suc c.variables = omega (arith, e8, k.variables) in
    let i1 = rw e1 at i in let i2 = rw e2 at i1 in let i3 = rw e3 at i2 in let i4 = rw e4 at i3 in let i5 = rw e5 at i4 in let i6 = rw e6 at i5 in let i7 =
    rw e7 at i6 in let i8 = rw h at i7 in
    carried_then (equal (con map_of (more (var c.variables) (more (var (suc c.variables)) none))) t) []
    (equal (var c.variables) p ∷ equal (var (suc c.variables)) q ∷ equal (con map_of (more (var c.variables) (more b none))) o ∷ []) 2 0 2 s c e f r refl
    (two_more c d e k l) i8

pub map_gather_below : (x t v p w q y b z o u : Ty) (n m : ℕ) (c d e : Solved) → x ≡ con map_of (more v (more w none)) → v ≡ var n → w ≡ var m
    → y ≡ con map_of (more u (more z none)) → u ≡ var n → z ≡ b → n ≡ c.variables → m ≡ d.variables → HasAdded [] 1 c d → HasAdded [] 1 d e
    → Below t c.variables → Below p c.variables → Below q c.variables → Below b c.variables → Below o c.variables
    → EachBelow (equal x t ∷ equal v p ∷ equal w q ∷ equal y o ∷ []) e.variables
map_gather_below x t v p w q y b z o u n m c d e e1 e2 e3 e4 e5 e6 e7 e8 k l bt bp bq bb bo =
    let i : n < e.variables = omega (arith, e7, k.variables, l.variables) in
    let j : m < e.variables = omega (arith, e8, l.variables) in
    let a = two_more c d e k l in
    rw e1 (rw e2 (rw e3 (rw e4 (rw e5 (rw e6 (
      (i, (j, tt)),
      stays t 2 [] c e a bt,
      (i, stays p 2 [] c e a bp, (j, stays q 2 [] c e a bq, ((i, (stays b 2 [] c e a bb, tt)), stays o 2 [] c e a bo, tt))),
    ))))))
