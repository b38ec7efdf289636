-- The parts and constructors of a bitdata: their types, their layout, and the first that is none.
use Rattle.std.specs.Prelude.{ℕ, zero, suc, ◌*◌, List, [], ◌∷◌, Option, Some, None, false}
use Rattle.ddl_base.specs.declared.span.Span.{Span}
use Rattle.ddl_token.specs.declared.token.Base.{Base}
use Rattle.ddl_token.specs.declared.token.Base.TheVariants as base
use Rattle.ddl_tree.specs.declared.name.Number.{Number}
use Rattle.ddl_tree.specs.ModuleTree as mo
use Rattle.ddl_tree.specs.TypeTree as y
use Rattle.ddl_types.specs.Layout.{Layout, Part, Parts, fixed, free, inner, named_con, no_cons, no_parts, one_of, part}
use Rattle.ddl_types.specs.Types.{Ty, Ty.con, Ty.var, Head.bits, Head.uint}
use Rattle.ddl_rules.specs.Asks.{Known, State, place_type, unit_type, with_place}
use Rattle.ddl_rules.specs.Refusing.{type_refusal}
use Rattle.ddl_rules.specs.declared.refusing.TypeRefusal.{TypeRefusal}
use Rattle.ddl_typing.specs.Making.{made_type}
use Rattle.ddl_headers.specs.Layouts.{LayoutRefusal}

-- a written type that is none; a part that is no `uint` and no bitdata, with its type; a bitdata without a layout, at its
-- name; a class that reaches itself, at its name
pub data HeaderRefusal : Type 0 where
  written : TypeRefusal → HeaderRefusal
  no_word : Span → Ty → HeaderRefusal
  no_layout : Span → LayoutRefusal → HeaderRefusal
  endless_class : Span → HeaderRefusal

abbrev pub or_later : Option HeaderRefusal → Option HeaderRefusal → Option HeaderRefusal
or_later None later = later
or_later (Some r) later = Some r

abbrev pub as_written : Option TypeRefusal → Option HeaderRefusal
as_written None = None
as_written (Some r) = Some (written r)

-- ---- one part

-- a binary digit is a bit, a hexadecimal one is four
abbrev pub digit_width : Base → ℕ
digit_width base.Hexadecimal = 4
digit_width other = 1

abbrev pub number_width : Number → ℕ
number_width n = n.digits * digit_width n.base

-- the layout of an earlier bitdata, by its number
abbrev pub layout_at : List Layout → ℕ → Option Layout
layout_at [] b = None
layout_at (l ∷ ls) zero = Some l
layout_at (l ∷ ls) (suc b) = layout_at ls b

abbrev pub inner_part : Option (List ℕ) → Option Layout → Option Part
inner_part x None = None
inner_part x (Some l) = Some (inner x l)

-- a part of a type, with its name if it has one
abbrev pub part_of : List Layout → Option (List ℕ) → Ty → Option Part
part_of layouts x (con (uint n) us) = Some (free x n)
part_of layouts x (con (bits b) us) = inner_part x (layout_at layouts b)
part_of layouts x u = None

abbrev pub word_refusal : Span → Ty → Option HeaderRefusal
word_refusal s (con (uint n) us) = None
word_refusal s (con (bits b) us) = None
word_refusal s u = Some (no_word s u)

-- a type that is none comes before a type that is no part's
abbrev pub part_refusal : y.TypeExpr → Ty → Option HeaderRefusal
part_refusal t u = or_later (as_written (type_refusal t)) (word_refusal (y.type_span t) u)

-- ---- all parts

-- the layout, where all of it is known; the fields with their types; the first refusal; and what is left
pub record ReadParts : Type 0 where
  pub layout : Option Parts
  pub names : List (List ℕ)
  pub types : List Ty
  pub refused : Option HeaderRefusal
  pub state : State

abbrev pub joined : Option Part → Option Parts → Option Parts
joined (Some p) (Some ps) = Some (part p ps)
joined o os = None

module _ (known : ℕ → Known) (layouts : List Layout) where
  -- parts with a type are read in text order; `_` gives no field
  abbrev pub read_parts : List mo.Part → State → ReadParts
  read_parts [] z = record { layout = Some no_parts; names = []; types = []; refused = None; state = z }
  read_parts (mo.Fixed n ∷ ps) z =
      let r = read_parts ps z in record r { layout = joined (Some (fixed n.value (number_width n))) r.layout }
  read_parts (mo.Named x t s ∷ ps) z = let u = made_type var known t z in let r = read_parts ps u.state in record {
    layout = joined (part_of layouts (Some x.text) u.of) r.layout;
    names = x.text ∷ r.names;
    types = u.of ∷ r.types;
    refused = or_later (part_refusal t u.of) r.refused;
    state = r.state;
  }
  read_parts (mo.Unnamed t s ∷ ps) z = let u = made_type var known t z in let r = read_parts ps u.state in record r {
    layout = joined (part_of layouts None u.of) r.layout;
    refused = or_later (part_refusal t u.of) r.refused;
  }

  abbrev pub read_bits : mo.Bits → State → ReadParts
  read_bits (mo.Exactly n) z = read_parts (mo.Fixed n ∷ []) z
  read_bits (mo.Parts ps s) z = read_parts ps z

-- ---- constructors

-- the layout, where all of it is known; the fields or tags with their types; the first refusal; and what is left
pub record ReadCons : Type 0 where
  pub layout : Option Layout
  pub names : List (List ℕ)
  pub types : List Ty
  pub refused : Option HeaderRefusal
  pub state : State

abbrev pub con_joined : List ℕ → Option Parts → Option Layout → Option Layout
con_joined x (Some ps) (Some l) = Some (one_of (named_con x ps) l)
con_joined x o os = None

-- a bitdata written with `=` has one constructor without a name, whose fields are its own
abbrev pub read_single : (ℕ → Known) → List Layout → mo.Bits → State → ReadCons
read_single known layouts c z = let r = read_bits known layouts c z in
    record { layout = con_joined [] r.layout (Some no_cons); names = r.names; types = r.types; refused = r.refused; state = r.state }

-- a constructor with fields makes a record, at its name; one without has `{}`
abbrev pub con_type : List (List ℕ) → State → Ty
con_type [] z = unit_type
con_type (x ∷ xs) z = place_type z

abbrev pub with_con : List (List ℕ) → Span → ReadParts → State
with_con [] s r = r.state
with_con (x ∷ xs) s r = with_place s false r.names r.types r.state

abbrev pub read_cons : (ℕ → Known) → List Layout → List mo.Con → State → ReadCons
read_cons known layouts [] z = record { layout = Some no_cons; names = []; types = []; refused = None; state = z }
read_cons known layouts (c ∷ cs) z =
    let p = read_bits known layouts c.bits z in let r = read_cons known layouts cs (with_con p.names c.span p) in record {
      layout = con_joined c.name.text p.layout r.layout;
      names = c.name.text ∷ r.names;
      types = con_type p.names p.state ∷ r.types;
      refused = or_later p.refused r.refused;
      state = r.state;
    }
