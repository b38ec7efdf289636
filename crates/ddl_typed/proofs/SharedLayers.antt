-- The evaluator's values, level by level and part by part.
use Rattle.std.proofs.Common.{◌≡◌, ℕ, ◌+◌, ◌<◌, ◌≤◌, List, [], ◌∷◌, map, drop, length, get_or, refl, ap, sym, ◌∙◌, rules, arith, drop-cons, add-one, Bool, true}
use Rattle.std.proofs.Common.{false, if◌then◌else◌}
use Rattle.std.specs.Prelude.{max, nat_lt}
use Rattle.std.proofs.lemmas.List.{drop_all}
use Rattle.ddl_types.specs.Plain.{one, deep, deepest, is_hidden}
use Rattle.ddl_types.specs.PlainOf.{names_of, plain_fields, plain_values, plain_of}
use Rattle.ddl_types.specs.PlainView.{printables_of}
use Rattle.ddl_typed.specs.declared.shared.Shared.{Shared, Shared-F, out-Shared, roll-Shared, roll-out-Shared, the_lemmas}
use Rattle.ddl_typed.specs.declared.shared.Part.{Part, out-Part}
use Rattle.ddl_ops.specs.Primitives.{byte_value, byte_values}
use Rattle.ddl_typed.specs.SharedView.{shared_view, part_view, parts_view, shared_layer, part_layer, part_name, part_plain, part_deep, parts_deep}

shared_view_roll : (l : Shared-F Shared Part) → shared_view (roll-Shared l) ≡ shared_layer l
unfolding shared_view part_view
shared_view_roll Shared-F.Unit = search (rules, the_lemmas)
shared_view_roll (Shared-F.Byte b) = search (rules, the_lemmas)
shared_view_roll (Shared-F.Bytes bs) = search (rules, the_lemmas)
shared_view_roll (Shared-F.Record ps) = search (rules, the_lemmas)

pub shared_view_out : (v : Shared) → shared_view v ≡ shared_layer (out-Shared v)
shared_view_out v = ap shared_view (sym (roll-out-Shared v)) ∙ shared_view_roll (out-Shared v)

pub part_view_out : (p : Part) → part_view p ≡ part_layer (out-Part p)
unfolding shared_view part_view
part_view_out p = search (rules, the_lemmas)

pub ruleset shared_layers = (shared_view_out, part_view_out, the_lemmas)

-- ---- what a record prints

pub names_of_parts : (ps : List Part) → names_of (parts_view ps) ≡ map part_name ps
names_of_parts [] = refl
names_of_parts (p ∷ ps) = ap (λ names. part_name p ∷ names) (names_of_parts ps)

pub plain_of_parts : (ps : List Part) → plain_fields (parts_view ps) ≡ printables_of (map part_plain ps)
plain_of_parts [] = refl
plain_of_parts (p ∷ ps) = ap (λ vs. one (part_plain p) vs) (plain_of_parts ps)

pub plain_of_bytes : (bs : List ℕ) → plain_values (byte_values bs) ≡ printables_of (map (λ b. plain_of (byte_value b)) bs)
plain_of_bytes [] = refl
plain_of_bytes (b ∷ bs) = ap (λ vs. one (plain_of (byte_value b)) vs) (plain_of_bytes bs)

pub ruleset record_parts = (names_of_parts, plain_of_parts, plain_of_bytes)

-- ---- how deep a record nests

deeper_or : (hidden : Bool) (room a b : ℕ) → nat_lt room (if hidden then b else max a b)
    ≡ (if nat_lt room (if hidden then 0 else a) then true else nat_lt room b)
deeper_or true room a b = grind arith
deeper_or false room a b = grind arith

at_next : (ps : List Part) (i : ℕ) (p : Part) → i < length ps → p ≡ get_or ps i p → drop i ps ≡ p ∷ drop (i + 1) ps
at_next ps i p h e = rw (add-one, drop-cons ps i p, ← e)

-- the part at a place is the deeper one, or the rest says
pub deeper_here : (ps : List Part) (i room : ℕ) (p : Part) → i < length ps → p ≡ get_or ps i p → nat_lt room (part_deep p) ≡ true
    → nat_lt room (parts_deep (drop i ps)) ≡ true
deeper_here ps i room p h e t =
    ap (λ qs. nat_lt room (parts_deep qs)) (at_next ps i p h e)
    ∙ deeper_or (is_hidden (part_name p)) room (deep (part_plain p)) (parts_deep (drop (i + 1) ps))
    ∙ ap (λ b. if b then true else nat_lt room (parts_deep (drop (i + 1) ps))) t

pub deeper_later : (ps : List Part) (i room : ℕ) (p : Part) → i < length ps → p ≡ get_or ps i p → nat_lt room (part_deep p) ≡ false
    → nat_lt room (parts_deep (drop i ps)) ≡ nat_lt room (parts_deep (drop (i + 1) ps))
deeper_later ps i room p h e t =
    ap (λ qs. nat_lt room (parts_deep qs)) (at_next ps i p h e)
    ∙ deeper_or (is_hidden (part_name p)) room (deep (part_plain p)) (parts_deep (drop (i + 1) ps))
    ∙ ap (λ b. if b then true else nat_lt room (parts_deep (drop (i + 1) ps))) t

pub deeper_none : (ps : List Part) (i room : ℕ) → length ps ≤ i → nat_lt room (parts_deep (drop i ps)) ≡ false
deeper_none ps i room h = ap (λ qs. nat_lt room (parts_deep qs)) (drop_all i ps h) ∙ grind arith

-- of the elements of an array
bytes_next : (bs : List ℕ) (i b : ℕ) → i < length bs → b ≡ get_or bs i 0 → drop i bs ≡ b ∷ drop (i + 1) bs
bytes_next bs i b h e = rw (add-one, drop-cons bs i 0, ← e)

pub deeper_byte_here : (bs : List ℕ) (i room b : ℕ) → i < length bs → b ≡ get_or bs i 0 → nat_lt room (deep (plain_of (byte_value b))) ≡ true
    → nat_lt room (deepest (plain_values (byte_values (drop i bs)))) ≡ true
deeper_byte_here bs i room b h e t =
    ap (λ cs. nat_lt room (deepest (plain_values (byte_values cs)))) (bytes_next bs i b h e)
    ∙ deeper_or false room (deep (plain_of (byte_value b))) (deepest (plain_values (byte_values (drop (i + 1) bs))))
    ∙ ap (λ c. if c then true else nat_lt room (deepest (plain_values (byte_values (drop (i + 1) bs))))) t

pub deeper_byte_later : (bs : List ℕ) (i room b : ℕ) → i < length bs → b ≡ get_or bs i 0 → nat_lt room (deep (plain_of (byte_value b))) ≡ false
    → nat_lt room (deepest (plain_values (byte_values (drop i bs)))) ≡ nat_lt room (deepest (plain_values (byte_values (drop (i + 1) bs))))
deeper_byte_later bs i room b h e t =
    ap (λ cs. nat_lt room (deepest (plain_values (byte_values cs)))) (bytes_next bs i b h e)
    ∙ deeper_or false room (deep (plain_of (byte_value b))) (deepest (plain_values (byte_values (drop (i + 1) bs))))
    ∙ ap (λ c. if c then true else nat_lt room (deepest (plain_values (byte_values (drop (i + 1) bs))))) t

pub deeper_byte_none : (bs : List ℕ) (i room : ℕ) → length bs ≤ i → nat_lt room (deepest (plain_values (byte_values (drop i bs)))) ≡ false
deeper_byte_none bs i room h = ap (λ cs. nat_lt room (deepest (plain_values (byte_values cs)))) (drop_all i bs h) ∙ grind arith

pub ruleset byte_nesting = (deeper_byte_here, deeper_byte_later, deeper_byte_none)

pub ruleset nesting = (deeper_here, deeper_later, deeper_none)
