-- What is found in a module, in text order: uses with what binds them, and rules that are not met.
use Rattle.std.specs.Prelude.{ℕ, List, [], ◌∷◌, ◌++◌, Option, Some, None, Bool, true, false, find, length, nat_eq, bytes_eq}
use Rattle.ddl_base.specs.declared.span.Span.{Span}
use Rattle.ddl_tree.specs.declared.kind.Kind.{Kind}
use Rattle.ddl_tree.specs.declared.kind.Kind.TheVariants as k
use Rattle.ddl_tree.specs.declared.name.Name.{Name}
use Rattle.ddl_kinds.specs.declared.want.Want.{Want}
use Rattle.ddl_kinds.specs.declared.want.Form.{Form}
use Rattle.ddl_kinds.specs.declared.bound.Bound.{Bound}
use Rattle.ddl_kinds.specs.declared.bound.Bound.TheVariants as bound
use Rattle.ddl_kinds.specs.declared.bound.Use.{Use}
use Rattle.ddl_kinds.specs.declared.error.NameError.{NameError}
use Rattle.ddl_kinds.specs.declared.error.NameError.TheVariants as e
use Rattle.ddl_kinds.specs.Kinds.{takes, form_of_kind}
use Rattle.ddl_kinds.specs.Meanings.{Meaning, nothing, two_imports, one}

pub data Finding : Type 0 where
  uses : Use → Finding
  refuses : NameError → Finding

-- the first rule that is not met
abbrev pub first_refusal : List Finding → Option NameError
first_refusal [] = None
first_refusal (uses u ∷ fs) = first_refusal fs
first_refusal (refuses r ∷ fs) = Some r

abbrev pub all_uses : List Finding → List Use
all_uses [] = []
all_uses (uses u ∷ fs) = u ∷ all_uses fs
all_uses (refuses r ∷ fs) = all_uses fs

-- a rule that is met, or else this refusal
abbrev pub demand : Bool → NameError → List Finding
demand true r = []
demand false r = refuses r ∷ []

-- the form may stand where this is wanted
abbrev pub fits : Want → Form → Span → List Finding
fits want form s = demand (takes want form) (e.WrongKind s)

-- ---- names that stand twice

abbrev pub twice_after : Name → Option Name → List Finding
twice_after x None = []
twice_after x (Some first) = refuses (e.Twice x.span first.span) ∷ []

-- the name stands among those before it
abbrev pub again : List Name → Name → List Finding
again before x = twice_after x (find (λ y. bytes_eq y.text x.text) before)

-- no two of these names are the same; `before` are those in front of them
abbrev pub twice_among : List Name → List Name → List Finding
twice_among before [] = []
twice_among before (x ∷ xs) = again before x ++ twice_among (before ++ x ∷ []) xs

-- ---- uses of names

abbrev pub use_of : Name → Bound → List Finding
use_of x b = uses (record { span = x.span; bound = b }) ∷ []

-- a name with so many arguments, where this is wanted: it has one binding, then the kind, then the count
abbrev pub name_use : Want → Name → ℕ → Meaning → List Finding
name_use want x given nothing = refuses (e.Unknown x.span) ∷ []
name_use want x given (two_imports i j) = refuses (e.TwoImports x.span i j) ∷ []
name_use want x given (one b kind ws) =
    fits want (form_of_kind kind) x.span ++ demand (nat_eq given (length ws)) (e.WrongCount x.span given (length ws)) ++ use_of x b

-- what the arguments of a name have to be
abbrev pub wants : Meaning → List Want
wants nothing = []
wants (two_imports i j) = []
wants (one b kind ws) = ws

-- a type is a declaration, of a bitdata or of a grammar
abbrev pub is_type : Bound → Kind → Bool
is_type (bound.Decl n) k.Grammar = true
is_type (bound.Decl n) k.Bits = true
is_type b kind = false

-- a name as a type: as `name_use`, without arguments
abbrev pub type_use : Name → Meaning → List Finding
type_use x nothing = refuses (e.Unknown x.span) ∷ []
type_use x (two_imports i j) = refuses (e.TwoImports x.span i j) ∷ []
type_use x (one b kind ws) = demand (is_type b kind) (e.WrongKind x.span) ++ demand (nat_eq 0 (length ws)) (e.WrongCount x.span 0 (length ws)) ++ use_of x b
