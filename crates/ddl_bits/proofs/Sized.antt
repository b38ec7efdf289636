-- A layout that is accepted has the widths that it needs.
use Rattle.std.proofs.Common.{ℕ}
use Rattle.ddl_bits.specs.Accepted.{PartAccepted, PartsAccepted, ConsAccepted}
use Rattle.ddl_bits.specs.Tree.{Part, fixed, any, inner, Parts, no_parts, part, Cons, no_cons, con, cons_width, PartSized, PartsSized, ConsSized}

mutual
  pub part_sized : (p : Part) → PartAccepted p → PartSized p
  part_sized (fixed bits width) h = h
  part_sized (any width) h = h
  part_sized (inner cons) h = (h.0, cons_sized cons (cons_width cons) h.3)

  pub parts_sized : (ps : Parts) → PartsAccepted ps → PartsSized ps
  parts_sized no_parts h = tt
  parts_sized (part p ps) h = (part_sized p h.0, parts_sized ps h.1)

  pub cons_sized : (cons : Cons) (width : ℕ) → ConsAccepted cons width → ConsSized cons width
  cons_sized no_cons width h = tt
  cons_sized (con ps cons) width h = (h.0, parts_sized ps h.1, cons_sized cons width h.2)
