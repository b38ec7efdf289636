-- What code has to be for a run: what it names is there, and its types are types.
use Rattle.std.specs.Prelude.{◌≡◌, ℕ, ◌<◌, List, length, Option, Some, None, slice_get}
use Rattle.ddl_base.specs.declared.span.Span.{Span}
use Rattle.ddl_base.specs.declared.why.Why.{Why}
use Rattle.ddl_base.specs.declared.why.Why.TheVariants.{Said}
use Rattle.ddl_core.specs.Core.{Operation, fail}
use Rattle.ddl_core.specs.Places.{PlaceShape, record_shape, union_shape, bits_shape}
use Rattle.ddl_blocks.specs.Code.{of_type, Instr, do_, content, note, Exit, call_to, halt, Block, Function}
use Rattle.ddl_blocks.specs.Code.{Code}
use Rattle.ddl_blocks.specs.Places.{Each, types_in, IsType, IsOpenType, IsValueType}

-- the module of a span, declarations, and texts are there
abbrev pub HasUnit : Code → Span → Type 0
HasUnit c span = span.«module» < length c.units

abbrev pub HasDecls : Code → List ℕ → Type 0
HasDecls c ds = Each (λ d. d < length c.decls) ds

abbrev pub HasText : Code → Why → Type 0
HasText c (Said n) = n < length c.texts
HasText c why = Unit {0}

abbrev pub HasTextOf : Code → Operation → Type 0
HasTextOf c (fail n) = n < length c.texts
HasTextOf c op = Unit {0}

-- what an instruction names, and its types
abbrev pub HasNames : Code → Instr → Type 0
HasNames c (do_ p) = HasTextOf c p.operation × HasUnit c p.span × HasDecls c p.opened × IsValueType c.places p.of
HasNames c (content x q of other) = IsType c.places of
HasNames c (note why span opened) = HasText c why × HasUnit c span × HasDecls c opened
HasNames c i = Unit {0}

abbrev pub HasEndNames : Code → Exit → Type 0
HasEndNames c (call_to f xs b keep opened) = HasDecls c opened
HasEndNames c (halt fault span) = HasUnit c span
HasEndNames c e = Unit {0}

abbrev pub HasBlockNames : Code → Block → Type 0
HasBlockNames c b = Each (IsValueType c.places) b.params × Each (HasNames c) b.body × HasEndNames c b.exit

abbrev pub HasName : Code → Option ℕ → Type 0
HasName c None = Unit {0}
HasName c (Some d) = d < length c.decls

abbrev pub HasFunctionNames : Code → Function → Type 0
HasFunctionNames c f = IsValueType c.places f.result × HasName c f.name × Each (HasBlockNames c) f.blocks

-- the two lists of a record and of a union have one length
abbrev pub IsShape : PlaceShape → Type 0
IsShape (record_shape names types) = length names ≡ length types
IsShape (union_shape tags types) = length tags ≡ length types
IsShape (bits_shape name l) = Unit {0}

-- the entry is there, has no parameters, and its result has the type that the code names
abbrev pub HasEntry : Code → Type 0
HasEntry c = (f : Function) × (slice_get c.functions c.entry ≡ Some f) × (f.params ≡ 0) × (f.result ≡ of_type c.result)

-- what code has to be for a run that is written as lines
pub record CanBeRun (c : Code) : Type 0 where
  pub entry : HasEntry c
  -- each text, module and declaration that is named is there, and each type is one, with its places and bitdata, an argument for
  -- every variable in the shape of a place, and no variable but in shapes
  pub functions : Each (HasFunctionNames c) c.functions
  pub decls : Each (λ d. d.unit < length c.units) c.decls
  pub entry_name : HasUnit c c.entry_name
  pub result : IsType c.places c.result
  pub shapes : Each IsShape c.places
  pub types : Each (λ p. Each (IsOpenType c.places) (types_in p)) c.places
