-- What the names of modules are answered is one thing.
use Rattle.std.specs.Prelude.{◌≡◌, ◌≢◌, List, map, Result, Ok, Err}
use Rattle.ddl_tree.specs.declared.module.SourceUnit.{SourceUnit}
use Rattle.ddl_kinds.specs.declared.error.NameError.{NameError}
use Rattle.ddl_kinds.specs.declared.error.NameError.TheVariants as e
use Rattle.ddl_uses.specs.Walks.{loaded}
use Rattle.ddl_names.specs.Resolves.{AreBound, AreResolved, IsUnbound, firsts_of, info_view}
use Rattle.ddl_names.specs.declared.resolved.Resolved.{Resolved}
use Rattle.ddl_names.specs.declared.resolved.Uses.{Uses}

-- these modules have these uses, or this is the first rule that they do not meet
abbrev pub HaveNames : List SourceUnit → Result Uses NameError → Type 0
HaveNames us (Ok found) = AreBound us found
HaveNames us (Err error) = (error ≢ e.NoMemory) × IsUnbound us error

-- the same uses, and the same places where those of each declaration begin; or the same refusal
abbrev pub AreSameNames : Result Uses NameError → Result Uses NameError → Type 0
AreSameNames (Ok f) (Ok g) = (f.all.items ≡ g.all.items) × (f.firsts.items ≡ g.firsts.items)
AreSameNames (Err error) (Err other) = error ≡ other
AreSameNames x y = ⊥

-- modules with the same names, trees and places of imports have one answer
abbrev pub OneNames : Type 0
OneNames = (us vs : List SourceUnit) (x y : Result Uses NameError) → loaded us ≡ loaded vs → HaveNames us x → HaveNames vs y → AreSameNames x y

-- these modules are kept so, or this is the first rule that they do not meet
abbrev pub AreKept : List SourceUnit → Result Resolved NameError → Type 0
AreKept us (Ok kept) = AreResolved us kept
AreKept us (Err error) = (error ≢ e.NoMemory) × IsUnbound us error

-- the same names, declarations and uses, and the same places where those of each declaration begin; or the same refusal
abbrev pub AreSameKept : Result Resolved NameError → Result Resolved NameError → Type 0
AreSameKept (Ok q) (Ok r) =
    (q.units.items ≡ r.units.items) × (map info_view q.decls.items ≡ map info_view r.decls.items) × (q.uses.items ≡ r.uses.items)
    × (firsts_of q.decls.items ≡ firsts_of r.decls.items)
AreSameKept (Err error) (Err other) = error ≡ other
AreSameKept x y = ⊥

-- and they are kept as one
abbrev pub OneResolved : Type 0
OneResolved = (us vs : List SourceUnit) (x y : Result Resolved NameError) → loaded us ≡ loaded vs → AreKept us x → AreKept vs y → AreSameKept x y
