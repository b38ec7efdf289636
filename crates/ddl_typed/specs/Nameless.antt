-- A layout of the meaning without its names, as the crate of bit layouts has it.
use Rattle.std.specs.Prelude.{ℕ, zero, suc, Option, Some, None}
use Rattle.ddl_types.specs.Layout as named
use Rattle.ddl_bits.specs.Tree as bare

abbrev mutual
  pub nameless : named.Layout → bare.Cons
  nameless named.no_cons = bare.no_cons
  nameless (named.one_of c cs) = bare.con (con_nameless c) (nameless cs)

  pub con_nameless : named.Con → bare.Parts
  con_nameless (named.named_con name ps) = parts_nameless ps

  pub parts_nameless : named.Parts → bare.Parts
  parts_nameless named.no_parts = bare.no_parts
  parts_nameless (named.part p ps) = bare.part (part_nameless p) (parts_nameless ps)

  pub part_nameless : named.Part → bare.Part
  part_nameless (named.fixed bits w) = bare.fixed bits w
  part_nameless (named.free name w) = bare.any w
  part_nameless (named.inner name l) = bare.inner (nameless l)

-- the constructor at a place of a layout, counted from 0
abbrev pub con_at : named.Layout → ℕ → Option named.Con
con_at named.no_cons k = None
con_at (named.one_of c cs) zero = Some c
con_at (named.one_of c cs) (suc k) = con_at cs k

-- the constructor at a place, where there is a place
abbrev pub con_at_place : named.Layout → Option ℕ → Option named.Con
con_at_place l None = None
con_at_place l (Some k) = con_at l k
