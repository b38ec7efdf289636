-- The built-in names: how each is written, what it stands for, and what its arguments have to be.
use Rattle.std.specs.Prelude.{ℕ, List, [], ◌∷◌, Option, find, bytes_eq, codes}
use Rattle.ddl_tree.specs.declared.kind.Kind.{Kind}
use Rattle.ddl_tree.specs.declared.kind.Kind.TheVariants as k
use Rattle.ddl_kinds.specs.declared.want.Want.{Want}
use Rattle.ddl_kinds.specs.declared.want.Want.TheVariants as w
use Rattle.ddl_kinds.specs.declared.builtin.BuiltIn.{BuiltIn}
use Rattle.ddl_kinds.specs.declared.builtin.BuiltIn.TheVariants as b

-- a row of the table
pub record Row : Type 0 where
  pub spelling : List ℕ
  pub kind : Kind
  pub params : List Want

abbrev pub grammar : List ℕ → List Want → Row
grammar spelling params = record { spelling = spelling; kind = k.Grammar; params = params }

abbrev pub value : List ℕ → List Want → Row
value spelling params = record { spelling = spelling; kind = k.Value; params = params }

abbrev pub one : List Want
one = w.Value ∷ []

abbrev pub two : List Want
two = w.Value ∷ one

abbrev pub three : List Want
three = w.Value ∷ two

-- the table
abbrev pub row : BuiltIn → Row
row b.UInt8 = grammar (codes "UInt8") []
row b.Match = grammar (codes "Match") one
row b.End = grammar (codes "END") []
row b.GetStream = grammar (codes "GetStream") []
row b.Offset = grammar (codes "Offset") []
row b.SetStream = grammar (codes "SetStream") one
row b.Take = grammar (codes "Take") two
row b.Drop = grammar (codes "Drop") two
row b.Index = grammar (codes "Index") two
row b.Lookup = grammar (codes "Lookup") two
row b.Insert = grammar (codes "Insert") three
row b.Fail = grammar (codes "Fail") (w.Text ∷ [])
row b.Length = value (codes "length") one
row b.Concat = value (codes "concat") one
row b.ArrayStream = value (codes "arrayStream") one
row b.BytesOfStream = value (codes "bytesOfStream") one
row b.Empty = value (codes "empty") []
row b.Put = value (codes "insert") three
row b.Seek = value (codes "lookup") two

abbrev pub builtin_spelling : BuiltIn → List ℕ
builtin_spelling x = (row x).spelling

abbrev pub builtin_kind : BuiltIn → Kind
builtin_kind x = (row x).kind

abbrev pub builtin_params : BuiltIn → List Want
builtin_params x = (row x).params

-- all of them
abbrev pub builtins : List BuiltIn
builtins = b.UInt8 ∷ b.Match ∷ b.End ∷ b.GetStream ∷ b.Offset ∷ b.SetStream ∷ b.Take ∷ b.Drop ∷ b.Index ∷ b.Lookup ∷ b.Insert ∷ b.Fail
    ∷ b.Length ∷ b.Concat ∷ b.ArrayStream ∷ b.BytesOfStream ∷ b.Empty ∷ b.Put ∷ b.Seek ∷ []

-- the one that is written so
abbrev pub builtin_named : List ℕ → Option BuiltIn
builtin_named name = find (λ x. bytes_eq (builtin_spelling x) name) builtins
