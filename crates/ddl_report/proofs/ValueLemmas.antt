-- Steps of the loops that print a value.
use Rattle.std.proofs.Common.{◌≡◌, Bool, rules, ℕ, zero, suc, ◌+◌, ◌<◌, ◌≤◌, List, [], ◌∷◌, length, drop, map, get_or, refl, ap, arith}
use Rattle.std.specs.Prelude.{if◌then◌else◌}
use Rattle.std.proofs.lemmas.List.{drop_all, drop_more}
use Rattle.serde_json.specs.Data.{Data, null, boolean, item, Members, put}
use Rattle.serde_json.specs.View.{items_of, items_view, view}
use Rattle.serde_json.specs.declared.value.Value.{Value, Null, Bool as Truth, the_lemmas}
use Rattle.serde_json.proofs.Views.{view-Array, view-Object}
use Rattle.ddl_types.specs.Plain.{count, is_hidden, IsPaired, ArePaired}
use Rattle.ddl_types.specs.PlainView.{plain_view, plains_view}
use Rattle.ddl_types.specs.declared.plain.Plain.{Plain}
use Rattle.ddl_types.proofs.PlainLayers.{plain_layers}
use Rattle.ddl_report.specs.Names.{shown}
use Rattle.ddl_report.specs.Values.{entry_data, entries_data, fields_data, plain_data, plains_data}

-- the JSON of a value that is held
abbrev pub printed : Plain → Data
printed v = plain_data (plain_view v)

pub count-plains : (vs : List Plain) → count (plains_view vs) ≡ length vs
count-plains [] = refl
count-plains (v ∷ vs) = omega (arith, count-plains vs)

pub paired_at : (vs : List Plain) (i : ℕ) (d v : Plain) → ArePaired (plains_view vs) → i < length vs → v ≡ get_or vs i d → IsPaired (plain_view v)
paired_at [] i d v h lt e = absurd (omega arith)
paired_at (x ∷ vs) zero d v h lt e = rw e h.0
paired_at (x ∷ vs) (suc i) d v h lt e = paired_at vs i d v h.1 (omega arith) e

pub plains-map : (vs : List Plain) → plains_data (plains_view vs) ≡ items_of (map printed vs)
plains-map [] = refl
plains-map (v ∷ vs) = ap (item (printed v)) (plains-map vs)

pub fields_next : (vs : List Plain) (names : List (List ℕ)) (i : ℕ) (d v : Plain) (e name : List ℕ) (ms : Members)
    → i < length vs → i < length names → v ≡ get_or vs i d → name ≡ get_or names i e
    → fields_data (plains_view (drop i vs)) (drop i names) ms
    ≡ fields_data (plains_view (drop (i + 1) vs)) (drop (i + 1) names) (if is_hidden name then ms else put (shown name) (printed v) ms)
fields_next vs names i d v e name ms in_vs in_names is_v is_name = rw (drop_more vs i d in_vs, drop_more names i e in_names, is_v, is_name)

pub fields_all : (vs : List Plain) (names : List (List ℕ)) (i : ℕ) (ms : Members) → length vs ≤ i
    → fields_data (plains_view (drop i vs)) names ms ≡ ms
fields_all vs names i ms le = rw (drop_all i vs le)

-- the entries of two lists of JSON values
abbrev pub entry_list : List Value → List Value → List Data
entry_list [] vs = []
entry_list (k ∷ ks) [] = []
entry_list (k ∷ ks) (v ∷ vs) = entry_data (view k) (view v) ∷ entry_list ks vs

pub entries-list : (ks vs : List Value) → entries_data (items_view ks) (items_view vs) ≡ items_of (entry_list ks vs)
entries-list [] vs = refl
entries-list (k ∷ ks) [] = refl
entries-list (k ∷ ks) (v ∷ vs) = ap (item (entry_data (view k) (view v))) (entries-list ks vs)

pub entry_list-no_keys : (ks vs : List Value) → length ks ≡ 0 → entry_list ks vs ≡ []
entry_list-no_keys [] vs none = refl
entry_list-no_keys (k ∷ ks) vs none = absurd (omega arith)

pub entry_list-no_values : (ks vs : List Value) → length vs ≡ 0 → entry_list ks vs ≡ []
entry_list-no_values [] vs none = refl
entry_list-no_values (k ∷ ks) [] none = refl
entry_list-no_values (k ∷ ks) (v ∷ vs) none = absurd (omega arith)

pub view-Null : view Null ≡ null
view-Null = search (rules, the_lemmas)

pub view-Bool : (b : Bool) → view (Truth b) ≡ boolean b
view-Bool b = search (rules, the_lemmas)

pub ruleset value_lemmas = (plain_layers, count-plains, plains-map, view-Null, view-Bool, view-Array, view-Object)
