-- Each declaration prints before the rest, and well.
use Rattle.std.proofs.Common.{List, [], ◌∷◌, refl}
use Rattle.ddl_token.specs.declared.token.Tok.{Tok}
use Rattle.ddl_token.specs.declared.token.Tok.TheVariants as k
use Rattle.ddl_token.specs.declared.word.Word.TheVariants as w
use Rattle.ddl_token.specs.declared.mark.Mark.{Mark}
use Rattle.ddl_token.specs.declared.mark.Mark.TheVariants as m
use Rattle.ddl_tree.specs.ModuleTree as mo
use Rattle.ddl_tree.specs.Print.{upper, lower, number}
use Rattle.ddl_tree.specs.PrintModule.{print_param, print_params, print_part, print_parts, print_more_parts, print_bits, print_con, print_cons, print_more_cons}
use Rattle.ddl_tree.specs.PrintModule.{print_decl}
use Rattle.ddl_show.proofs.Prints.{Prints, nothing, both, token, list}
use Rattle.ddl_show.proofs.PrintsForms.{type_prints, typed_prints, class_prints, prints}

mark : {f : List Tok → List Tok} (s : Mark) → Prints f → Prints (λ r. k.Mark s ∷ f r)
mark s p = token (k.Mark s) refl p

param_prints : (p : mo.Param) → Prints (print_param p)
param_prints (mo.Upper x) = token (upper x) refl nothing
param_prints (mo.Lower x) = token (lower x) refl nothing
param_prints (mo.Class x) = token (k.Class x.text) refl nothing
param_prints (mo.TypedUpper x t s) = mark m.OpenParen (token (upper x) refl (mark m.Colon (both (type_prints t) (mark m.CloseParen nothing))))
param_prints (mo.TypedLower x t s) = mark m.OpenParen (token (lower x) refl (mark m.Colon (both (type_prints t) (mark m.CloseParen nothing))))

params_print : (ps : List mo.Param) → Prints (print_params ps)
params_print [] = nothing
params_print (p ∷ ps) = both (param_prints p) (params_print ps)

part_prints : (p : mo.Part) → Prints (print_part p)
part_prints (mo.Fixed n) = token (number n) refl nothing
part_prints (mo.Named x t s) = token (lower x) refl (mark m.Colon (type_prints t))
part_prints (mo.Unnamed t s) = mark m.Underscore (mark m.Colon (type_prints t))

more_parts_print : (ps : List mo.Part) → Prints (print_more_parts ps)
more_parts_print [] = nothing
more_parts_print (p ∷ ps) = mark m.Comma (both (part_prints p) (more_parts_print ps))

parts_print : (ps : List mo.Part) → Prints (print_parts ps)
parts_print [] = nothing
parts_print (p ∷ ps) = both (part_prints p) (more_parts_print ps)

bits_print : (b : mo.Bits) → Prints (print_bits b)
bits_print (mo.Exactly n) = token (number n) refl nothing
bits_print (mo.Parts ps s) = mark m.OpenBrace (both (parts_print ps) (mark m.CloseBrace nothing))

con_prints : (c : mo.Con) → Prints (print_con c)
con_prints c = token (lower c.name) refl (mark m.Equals (bits_print c.bits))

more_cons_print : (cs : List mo.Con) → Prints (print_more_cons cs)
more_cons_print [] = nothing
more_cons_print (c ∷ cs) = mark m.Semicolon (both (con_prints c) (more_cons_print cs))

cons_print : (cs : List mo.Con) → Prints (print_cons cs)
cons_print [] = nothing
cons_print (c ∷ cs) = both (con_prints c) (more_cons_print cs)

pub decl_prints : (d : mo.Decl) → Prints (print_decl d)
decl_prints (mo.Grammar x ps t e s) = token (k.Word w.Def) refl
    (token (upper x) refl (both (params_print ps) (both (typed_prints t) (mark m.Equals (prints e)))))
decl_prints (mo.Value x ps t e s) = token (k.Word w.Def) refl (token (lower x) refl (both (params_print ps) (both (typed_prints t) (mark m.Equals (prints e)))))
decl_prints (mo.ClassDef x c s) = token (k.Word w.Def) refl (token (k.Class x.text) refl (mark m.Equals (class_prints c)))
decl_prints (mo.BitsDef x b s) = token (k.Word w.Bitdata) refl (token (upper x) refl (mark m.Equals (bits_print b)))
decl_prints (mo.BitsUnion x cs s) = token (k.Word w.Bitdata) refl
    (token (upper x) refl (list (k.Word w.Where) (both (cons_print cs) (mark m.CloseBrace nothing))))
