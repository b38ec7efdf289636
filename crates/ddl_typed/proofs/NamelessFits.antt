-- Layouts with and without names have the same widths, numbers and constructors.
use Rattle.std.proofs.Common.{◌≡◌, ℕ, suc, ◌+◌, ◌/◌, ◌%◌, ◌^◌, Bool, true, false, ◌&&◌, ◌||◌, if◌then◌else◌, Option, Some, None, option_map, refl, ap, ap₂, sym}
use Rattle.std.proofs.Common.{◌∙◌, arith}
use Rattle.ddl_types.specs.Layout as named
use Rattle.ddl_bits.specs.Tree as bare
use Rattle.ddl_typed.specs.Nameless.{nameless, con_nameless, parts_nameless, part_nameless, con_at_place}

mutual
  pub width_same : (l : named.Layout) → named.width l ≡ bare.cons_width (nameless l)
  width_same named.no_cons = refl
  width_same (named.one_of c cs) = con_width_same c

  con_width_same : (c : named.Con) → named.con_width c ≡ bare.parts_width (con_nameless c)
  con_width_same (named.named_con name ps) = parts_width_same ps

  parts_width_same : (ps : named.Parts) → named.parts_width ps ≡ bare.parts_width (parts_nameless ps)
  parts_width_same named.no_parts = refl
  parts_width_same (named.part p ps) = ap₂ (λ a b. a + b) (part_width_same p) (parts_width_same ps)

  part_width_same : (p : named.Part) → named.part_width p ≡ bare.part_width (part_nameless p)
  part_width_same (named.fixed bits w) = refl
  part_width_same (named.free name w) = refl
  part_width_same (named.inner name l) = width_same l

mutual
  pub fits_same : (l : named.Layout) (n : ℕ) → named.fits l n ≡ bare.cons_fit (nameless l) n
  fits_same named.no_cons n = refl
  fits_same (named.one_of c cs) n = ap₂ (λ a b. a || b) (con_fits_same c n) (fits_same cs n)

  con_fits_same : (c : named.Con) (n : ℕ) → named.con_fits c n ≡ bare.parts_fit (con_nameless c) n
  con_fits_same (named.named_con name ps) n = parts_fit_same ps n

  parts_fit_same : (ps : named.Parts) (n : ℕ) → named.parts_fit ps n ≡ bare.parts_fit (parts_nameless ps) n
  parts_fit_same named.no_parts n = refl
  parts_fit_same (named.part p ps) n =
      ap₂ (λ a b. a && b)
      (part_fits_same p (named.upper ps n) ∙ ap (λ w. bare.part_fits (part_nameless p) (n / 2 ^ w)) (parts_width_same ps))
      (parts_fit_same ps (named.lower ps n) ∙ ap (λ w. bare.parts_fit (parts_nameless ps) (n % 2 ^ w)) (parts_width_same ps))

  part_fits_same : (p : named.Part) (n : ℕ) → named.part_fits p n ≡ bare.part_fits (part_nameless p) n
  part_fits_same (named.fixed bits w) n = refl
  part_fits_same (named.free name w) n = refl
  part_fits_same (named.inner name l) n = fits_same l n

-- ---- places

-- a place that is counted from one more is one more
either_next : (b : Bool) (k : ℕ) (x y : Option ℕ) → x ≡ option_map suc y → (if b then Some (suc k) else x) ≡ option_map suc (if b then Some k else y)
either_next true k x y e = refl
either_next false k x y e = e

next_place : (k : ℕ) (cs : bare.Cons) (n : ℕ) → bare.place_from (suc k) cs n ≡ option_map suc (bare.place_from k cs n)
next_place k bare.no_cons n = refl
next_place k (bare.con ps cs) n =
    let one_more : suc k + 1 ≡ suc (k + 1) = omega arith in
    either_next (bare.parts_fit ps n) k (bare.place_from (suc k + 1) cs n) (bare.place_from (k + 1) cs n)
    (ap (λ j. bare.place_from j cs n) one_more ∙ next_place (k + 1) cs n)

behind_first : (c : named.Con) (cs : named.Layout) (k : Option ℕ) → con_at_place (named.one_of c cs) (option_map suc k) ≡ con_at_place cs k
behind_first c cs None = refl
behind_first c cs (Some k) = refl

either_con : (b : Bool) (c : named.Con) (cs : named.Layout) (x : Option named.Con) (k : Option ℕ) → x ≡ con_at_place (named.one_of c cs) k
    → (if b then Some c else x) ≡ con_at_place (named.one_of c cs) (if b then Some 0 else k)
either_con true c cs x k e = refl
either_con false c cs x k e = e

pub con_same : (l : named.Layout) (n : ℕ) → named.con_of l n ≡ con_at_place l (bare.place_of (nameless l) n)
con_same named.no_cons n = refl
con_same (named.one_of c cs) n =
    let behind : named.con_of cs n ≡ con_at_place (named.one_of c cs) (bare.place_from 1 (nameless cs) n)
    = con_same cs n ∙ sym (behind_first c cs (bare.place_from 0 (nameless cs) n)) ∙ ap (con_at_place (named.one_of c cs)) (sym (next_place 0 (nameless cs) n))
    in
    ap {B = Option named.Con} (λ b. if b then Some c else named.con_of cs n) (con_fits_same c n)
    ∙ either_con (bare.parts_fit (con_nameless c) n) c cs (named.con_of cs n) (bare.place_from 1 (nameless cs) n) behind
