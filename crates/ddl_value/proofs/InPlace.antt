-- A push in place is the machine's push.
use Rattle.std.proofs.Common.{◌≡◌, ℕ, ◌+◌, List, [], ◌∷◌, ◌++◌, Option, Some, None, refl, sym, ap, ◌∙◌, subst, arith, if◌then◌else◌, eq-eqb, Bool, false}
use Rattle.std.specs.Prelude.{nat_eq, ◌==◌, IsSome, IfSome, IfOk, Result, Ok, Err}
use Rattle.ddl_slots.specs.declared.node.Node.{Node}
use Rattle.ddl_slots.specs.declared.node.NodeKind.{NodeKind}
use Rattle.ddl_slots.specs.declared.node.NodeKind.TheVariants.{Builder}
use Rattle.ddl_slots.specs.declared.word.SlotId.{SlotId}
use Rattle.ddl_slots.specs.declared.word.Word.{Word}
use Rattle.ddl_slots.specs.declared.word.Word.TheVariants.{Ref}
use Rattle.ddl_slots.specs.declared.word.Word.TheVariants as W
use Rattle.ddl_slots.specs.Counted.{Counted, count_of, hit, hit_slot, inner, refs}
use Rattle.ddl_slots.specs.Slots.{Entry, Slots, entry, put, made, picked, dup_all, release_all}
use Rattle.ddl_slots.proofs.Entries.{entry_put, entry_other, picks_offered}
use Rattle.ddl_slots.proofs.Release.{inner_put}
use Rattle.ddl_slot_map.specs.Pushed.{with_word, pushed_entry}
use Rattle.ddl_slot_map.proofs.Cells.{none_is_none}
use Rattle.ddl_blocks.specs.Placing.{as_node, new_node, node_of, pushed_on, pushed_to}
use Rattle.ddl_blocks.specs.SlotMachine.{settled}
use Rattle.ddl_value.specs.Builders.{IsBuilder, HasCounts, GivesNode, Pushed}
use Rattle.ddl_value.proofs.Pushing.{push_after, put_over, hit_same}

-- a node of these parts
formed : (n : Node) (w : Word) → n.kind ≡ Builder → n.bytes ≡ [] → with_word n w ≡ node_of Builder (n.words ++ w ∷ [])
formed n w k b =
    ap (λ (z : NodeKind). record { kind = z; words = n.words ++ w ∷ []; bytes = n.bytes }) k
    ∙ ap (λ (z : List ℕ). record { kind = Builder; words = n.words ++ w ∷ []; bytes = z }) b

pub pushes : (m : Slots) (id : SlotId) (e : Entry) (item : Word) → entry m id.key ≡ Some e → e.count ≡ 1 → e.node.kind ≡ Builder → e.node.bytes ≡ []
    → HasCounts m (Ref id ∷ item ∷ []) → Pushed m (Ref id ∷ item ∷ []) (Ref id) (put m id.key (pushed_entry (entry m id.key) item))
pushes m id e item h one kind bytes counts =
    let x : ℕ = id.key in
    let n : Node = node_of Builder (e.node.words ++ item ∷ []) in
    let args : List Word = Ref id ∷ item ∷ [] in
    let c : Counted m (λ y. refs y args + counts.0 y) = counts.1 in
    let own : count_of (entry m x) ≡ e.count = ap count_of h in
    let sum : count_of (entry m x) ≡ (hit_slot x (Some x) + (hit x item + 0)) + counts.0 x + inner x m = c.by x in
    let inside : inner x (put m x None) + refs x e.node.words ≡ inner x m + 0 = inner_put x m x e None h in
    let none : refs x e.node.words ≡ 0 = omega (arith, hit_same x) in
    let other : hit x item ≡ 0 = omega (arith, hit_same x) in
    let after : Slots = release_all args (dup_all (e.node.words ++ item ∷ []) m) in
    let same : (y : ℕ) → entry after y ≡ entry (put m x None) y = push_after m id e item h one none other c.positive in
    let free : entry after x ≡ None = same x ∙ entry_put m x None in
    let at : picked x after ≡ x = picks_offered x after free in
    let entries : Some (record { count = 1; node = n }) ≡ pushed_entry (entry m x) item =
    sym (ap (λ o. pushed_entry o item) h
    ∙ ap (λ k. Some (record { count = k; node = with_word e.node item })) one
    ∙ ap (λ (z : Node). Some (record { count = 1; node = z })) (formed e.node item kind bytes)) in
    let map : made x n after ≡ put m x (pushed_entry (entry m x) item) =
    put_over after m x (Some (record { count = 1; node = n })) (λ y d. same y ∙ entry_other m x y None d) ∙ ap (put m x) entries in
    let is : settled x m args (as_node n) ≡ record { word = Ref id; map = put m x (pushed_entry (entry m x) item) } =
    ap (λ (k : ℕ). record { word = Ref (record { key = k }); map = made k n after }) at ∙ ap (λ (z : Slots). record { word = Ref id; map = z }) map in
    record {
      node = n;
      placed = ap (λ o. pushed_on o (Ref id) item) h
          ∙ ap (λ t. if t then new_node Builder (e.node.words ++ item ∷ []) else new_node Builder (Ref id ∷ item ∷ [])) (eq-eqb e.count 1 one);
      gives = (x, is);
    }

-- the same of a slot that is there
pub pushes_in : (m new : Slots) (id : SlotId) (item : Word) (o : Option Entry) → entry m id.key ≡ o → IsSome o
    → IfSome o (λ e. (e.node.kind ≡ Builder) × (e.node.bytes ≡ [])) → IfSome o (λ e. e.count ≡ 1) → HasCounts m (Ref id ∷ item ∷ [])
    → new ≡ put m id.key (pushed_entry (entry m id.key) item) → Pushed m (Ref id ∷ item ∷ []) (Ref id) new
pushes_in m new id item None h there builder alone counts is = absurd (none_is_none there)
pushes_in m new id item (Some e) h there builder alone counts is =
    subst (λ z. Pushed m (Ref id ∷ item ∷ []) (Ref id) z) (sym is) (pushes m id e item h alone builder.0 builder.1 counts)

node_is : (n : Node) (kind : NodeKind) (ws : List Word) → n.kind ≡ kind → n.words ≡ ws → n.bytes ≡ [] → n ≡ node_of kind ws
node_is n kind ws k w b =
    ap (λ (z : NodeKind). record { kind = z; words = n.words; bytes = n.bytes }) k
    ∙ ap (λ (z : List Word). record { kind = kind; words = z; bytes = n.bytes }) w
    ∙ ap (λ (z : List ℕ). record { kind = kind; words = ws; bytes = z }) b

gives_node : (m new : Slots) (n : Node) (args : List Word) (id : SlotId) → entry (release_all args (dup_all n.words m)) id.key ≡ None
    → new ≡ made id.key n (release_all args (dup_all n.words m)) → GivesNode m args n (Ref id) new
gives_node m new n args id free is =
    let after : Slots = release_all args (dup_all n.words m) in
    let same : settled id.key m args (as_node n) ≡ record { word = Ref id; map = new } =
    ap (λ (k : ℕ). record { word = Ref (record { key = k }); map = made k n after }) (picks_offered id.key after free)
    ∙ ap (λ (z : Slots). record { word = Ref id; map = z }) (sym is) in
    (id.key, same)

-- a node that was made of these parts in place of the arguments
pub gives_made : (m new : Slots) (n : Node) (kind : NodeKind) (ws args : List Word) (id : SlotId) → n.kind ≡ kind → n.words ≡ ws → n.bytes ≡ []
    → entry (release_all args (dup_all n.words m)) id.key ≡ None → new ≡ made id.key n (release_all args (dup_all n.words m))
    → GivesNode m args (node_of kind ws) (Ref id) new
gives_made m new n kind ws args id k w b free is =
    subst (λ (z : Node). GivesNode m args z (Ref id) new) (node_is n kind ws k w b) (gives_node m new n args id free is)

shared_on : (id : SlotId) (item : Word) (o : Option Entry) → IsSome o → IfSome o (λ e. nat_eq e.count 1 ≡ false)
    → pushed_on o (Ref id) item ≡ new_node Builder (Ref id ∷ item ∷ [])
shared_on id item None there shared = absurd (none_is_none there)
shared_on id item (Some e) there shared =
    ap (λ t. if t then new_node Builder (e.node.words ++ item ∷ []) else new_node Builder (Ref id ∷ item ∷ [])) shared

-- where the builder is shared, or there is none yet, a node of its own is placed
pub placed_beside : (m : Slots) (builder item : Word) → IsBuilder m builder
    → ((id : SlotId) → builder ≡ Ref id → IfSome (entry m id.key) (λ e. nat_eq e.count 1 ≡ false))
    → pushed_to m (builder ∷ item ∷ []) ≡ new_node Builder (builder ∷ item ∷ [])
placed_beside m W.Unit item is shared = refl
placed_beside m (W.Ref id) item is shared = shared_on id item (entry m id.key) is.0 (shared id refl)
placed_beside m (W.Bool b) item is shared = absurd is
placed_beside m (W.Uint n) item is shared = absurd is
placed_beside m (W.Sint z) item is shared = absurd is
placed_beside m (W.Stream s) item is shared = absurd is
placed_beside m (W.Thread n) item is shared = absurd is

pub beside_pushed : {E : Type 0} (m new : Slots) (builder item : Word) (r : Result Word E)
    → pushed_to m (builder ∷ item ∷ []) ≡ new_node Builder (builder ∷ item ∷ [])
    → IfOk r (λ w. GivesNode m (builder ∷ item ∷ []) (node_of Builder (builder ∷ item ∷ [])) w new)
    → IfOk r (λ w. Pushed m (builder ∷ item ∷ []) w new)
beside_pushed m new builder item (Ok w) placed gives = record { node = node_of Builder (builder ∷ item ∷ []); placed = placed; gives = gives }
beside_pushed m new builder item (Err e) placed gives = tt

pub one_ref : (a b : SlotId) → Ref a ≡ Ref b → a ≡ b
one_ref a b h = cc

pub not_one : (o : Option Entry) (t : Bool) → t ≡ false → IfSome o (λ e. t ≡ (e.count == 1)) → IfSome o (λ e. nat_eq e.count 1 ≡ false)
not_one None t f h = tt
not_one (Some e) t f h = sym h ∙ f
