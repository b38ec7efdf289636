-- The headers of a group, member by member in text order: what they give, and the first that is wrong.
use Rattle.std.specs.Prelude.{ℕ, zero, suc, ◌+◌, ◌==◌, ◌&&◌, List, [], ◌∷◌, ◌++◌, flat_map, length, if◌then◌else◌, Bool, true, false, Option, Some, None}
use Rattle.std.specs.Prelude.{slice_get, slice_index_or}
use Rattle.ddl_kinds.specs.declared.bound.Use.{Use}
use Rattle.ddl_tree.specs.declared.name.Name.{Name}
use Rattle.ddl_tree.specs.ExprTree as ex
use Rattle.ddl_tree.specs.ModuleTree as mo
use Rattle.ddl_tree.specs.TypeTree as y
use Rattle.ddl_types.specs.Layout.{Layout, no_cons, width}
use Rattle.ddl_types.specs.Types.{Ty, Ty.con, Ty.var, Tys.none, Head.bits}
use Rattle.ddl_judging.specs.Shapes.{BitShape}
use Rattle.ddl_rules.specs.Asks.{Known, State, unknown, word}
use Rattle.ddl_typing.specs.Groups.{Body}
use Rattle.ddl_group_typing.specs.Tables.{Opening, Table, overlaid}
use Rattle.ddl_headers.specs.Headers.{Header, form_refusal, header}
use Rattle.ddl_headers.specs.Layouts.{gap_of, known_layout_refusal, LayoutRefusal, too_wide}
use Rattle.ddl_headers.specs.Parts.{HeaderRefusal, ReadCons, as_written, endless_class, no_layout, or_later, read_cons, read_single}
use Rattle.ddl_headers.specs.Reaching.{reaches_itself}

-- what the members so far give: those that have bodies, with these; what is known of each member; the types of parameters and
-- results; whether each member has parameters; the bitdata with their layouts; the first that is wrong; and what is left
pub record Read : Type 0 where
  pub members : List ℕ
  pub bodies : List Body
  pub own : ℕ → Option Known
  pub roots : List Ty
  pub with_parameters : Bool
  pub bitdata : List BitShape
  pub layouts : List Layout
  pub refused : Option HeaderRefusal
  pub state : State

abbrev pub with_own : ℕ → Known → (ℕ → Option Known) → ℕ → Option Known
with_own d it own e = if e == d then Some it else own e

-- a declaration without parameters that is of this type
abbrev pub of_type : Ty → Known
of_type u = record unknown { of = u }

-- ---- one member

-- in its group a declaration has a variable as its own type, and a bitdata is the one of its number
abbrev pub standing_as : Option mo.Decl → ℕ → ℕ → Known
standing_as (Some (mo.ClassDef x c s)) v n = of_type (word 8)
standing_as (Some (mo.BitsDef x c s)) v n = of_type (con (bits n) none)
standing_as (Some (mo.BitsUnion x cs s)) v n = of_type (con (bits n) none)
standing_as o v n = of_type (var v)

abbrev pub counts_bits : Option mo.Decl → ℕ
counts_bits (Some (mo.BitsDef x c s)) = 1
counts_bits (Some (mo.BitsUnion x cs s)) = 1
counts_bits o = 0

abbrev pub has_parameters : List mo.Param → Bool
has_parameters [] = false
has_parameters (p ∷ ps) = true

-- a grammar or a value
abbrev pub with_form : ℕ → List mo.Param → Option y.TypeExpr → ex.Expr → Ty → Header → Read → Read
with_form d ps t e own h r = record r {
  members = r.members ++ d ∷ [];
  bodies = r.bodies ++ h.body ∷ [];
  own = with_own d h.own r.own;
  roots = r.roots ++ h.own.params ++ own ∷ [];
  with_parameters = r.with_parameters && has_parameters ps;
  refused = or_later r.refused (as_written (form_refusal ps t e));
  state = h.state;
}

abbrev pub with_class : Name → Bool → Read → Read
with_class x endless r = record r { with_parameters = false; refused = or_later r.refused (if endless then Some (endless_class x.span) else None) }

abbrev pub told_of : Name → Option LayoutRefusal → Option HeaderRefusal
told_of x None = None
told_of x (Some r) = Some (no_layout x.span r)

-- one that is not known gives nothing; then the group is refused
abbrev pub or_empty : Option Layout → Layout
or_empty None = no_cons
or_empty (Some l) = l

abbrev pub bit_shape : Bool → Layout → ReadCons → BitShape
bit_shape tagged l c =
    record { width = width l; gap = gap_of l (width l); shape = record { vars = 0; tagged = tagged; names = c.names; types = c.types } }

-- a bitdata: it contains itself; then its parts' types; then its layout
abbrev pub bits_refusal : Name → Bool → ReadCons → Option HeaderRefusal
bits_refusal x true c = Some (no_layout x.span too_wide)
bits_refusal x false c = or_later c.refused (told_of x (known_layout_refusal c.layout))

abbrev pub with_bits : Name → Bool → Bool → ReadCons → Read → Read
with_bits x endless tagged c r = record r {
  with_parameters = false;
  bitdata = r.bitdata ++ bit_shape tagged (or_empty c.layout) c ∷ [];
  layouts = r.layouts ++ or_empty c.layout ∷ [];
  refused = or_later r.refused (bits_refusal x endless c);
  state = c.state;
}

-- the declarations in order of their numbers, and the uses of names in each
module _ (decls : List mo.Decl) (uses : List (List Use)) where
  -- what stands for the members of a group: their own types are the variables from v on, and the first bitdata has number n
  abbrev pub standing : List ℕ → ℕ → ℕ → ℕ → Option Known
  standing [] v n = λ d. None
  standing (m ∷ ms) v n = with_own m (standing_as (slice_get decls m) v n) (standing ms (suc v) (n + counts_bits (slice_get decls m)))

  -- a member whose own type is variable v, given what its types name
  abbrev pub with_member : (ℕ → Known) → Option mo.Decl → ℕ → ℕ → Read → Read
  with_member known (Some (mo.Grammar x ps t e s)) d v r =
      with_form d ps t e (var v) (header known ps t e (var v) (slice_index_or uses d []) r.state) r
  with_member known (Some (mo.Value x ps t e s)) d v r =
      with_form d ps t e (var v) (header known ps t e (var v) (slice_index_or uses d []) r.state) r
  with_member known (Some (mo.ClassDef x c s)) d v r = with_class x (reaches_itself decls uses d) r
  with_member known (Some (mo.BitsDef x c s)) d v r =
      with_bits x (reaches_itself decls uses d) false (read_single known r.layouts c (record r.state { uses = slice_index_or uses d [] })) r
  with_member known (Some (mo.BitsUnion x cs s)) d v r =
      with_bits x (reaches_itself decls uses d) true (read_cons known r.layouts cs (record r.state { uses = slice_index_or uses d [] })) r
  with_member known None d v r = r

  abbrev pub read_members : (ℕ → Known) → List ℕ → ℕ → Read → Read
  read_members known [] v r = r
  read_members known (d ∷ ds) v r = read_members known ds (suc v) (with_member known (slice_get decls d) d v r)

  -- ---- a group

  -- the layouts of the first so many of these bitdata, as the table has their types
  abbrev pub layouts_of : (ℕ → Known) → ℕ → List ℕ → Read → Read
  layouts_of known zero ds r = r
  layouts_of known (suc k) [] r = r
  layouts_of known (suc k) (d ∷ ds) r = layouts_of known k ds (with_member known (slice_get decls d) d 0 r)

  -- the bitdata among these declarations
  abbrev pub bitdata_among : List ℕ → List ℕ
  bitdata_among [] = []
  bitdata_among (d ∷ ds) = if counts_bits (slice_get decls d) == 1 then d ∷ bitdata_among ds else bitdata_among ds

  abbrev pub nothing_read : State → Read
  nothing_read z = record {
    members = [];
    bodies = [];
    own = λ d. None;
    roots = [];
    with_parameters = true;
    bitdata = [];
    layouts = [];
    refused = None;
    state = z;
  }

  -- no variable is given out, and nothing is asked, before a group is read
  abbrev pub at_table : Table → ℕ → State
  at_table z n = record { uses = []; next = n; places = z.places; texts = z.texts; sites = z.sites }

  -- in the order of groups, of which these are all: a bitdata's number is its place among the bitdata in that order
  module _ (groups : List (List ℕ)) where
    abbrev pub layouts_at : Table → List Layout
    layouts_at z = (layouts_of z.known (length z.bitdata) (bitdata_among (flat_map (λ g. g) groups)) (nothing_read (at_table z 0))).layouts

    abbrev pub read_group : List ℕ → Table → Read
    read_group ms z =
        let own = standing ms 0 (length z.bitdata) in
        read_members (overlaid own z.known) ms 0
        (record (nothing_read (at_table z (length ms))) { own = own; bitdata = z.bitdata; layouts = layouts_at z })

    -- what the headers of a group give
    abbrev pub opened : List ℕ → Table → Opening
    opened ms z = let r = read_group ms z in record {
      members = r.members;
      bodies = r.bodies;
      own = r.own;
      roots = r.roots;
      with_parameters = r.with_parameters;
      state = r.state;
      bitdata = r.bitdata;
      declared = z.declared ++ bitdata_among ms;
    }

    -- the first that is wrong with what is written in a group, in text order
    abbrev pub first_refused : List ℕ → Table → Option HeaderRefusal
    first_refused ms z = (read_group ms z).refused
