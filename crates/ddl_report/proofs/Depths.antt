-- `deep` bounds the depth of the JSON that is written: of fields with equal keys it counts each, and the last one alone is written.
use Rattle.std.proofs.Common.{◌≡◌, ℕ, suc, max, ◌≤◌, List, [], ◌∷◌, refl, Bool, true, false, ℤ, Ordering, Less, Equal, Greater, nat_cmp, arith}
use Rattle.std.specs.Prelude.{pos, negsuc, if◌then◌else◌}
use Rattle.std.specs.Ordering.{match_ordering}
use Rattle.std.specs.Cmp.Lexicographic.{slice_cmp}
use Rattle.serde_json.specs.Data.{Data, Items, no_items, item, Members, no_members, member, put, depth, items_depth, members_depth}
use Rattle.ddl_types.specs.Plain as p
use Rattle.ddl_report.specs.Names.{shown}
use Rattle.ddl_report.specs.Numbers.{integer_data}
use Rattle.ddl_report.specs.Values.{plain_data, plains_data, fields_data, entries_data}

put_at : (o : Ordering) (a b c : Members) (n : ℕ) → members_depth a ≤ n → members_depth b ≤ n → members_depth c ≤ n → members_depth (match_ordering o a b c) ≤ n
put_at Less a b c n e f g = e
put_at Equal a b c n e f g = f
put_at Greater a b c n e f g = g

put-depth : (k : List ℕ) (d : Data) (ms : Members) (n : ℕ) → depth d ≤ n → members_depth ms ≤ n → members_depth (put k d ms) ≤ n
put-depth k d no_members n e f = omega arith
put-depth k d (member l x ms) n e f =
    put_at (slice_cmp nat_cmp k l) _ _ _ n (omega arith) (omega arith) (let rest = put-depth k d ms n e (omega arith) in omega arith)

chosen : (b : Bool) (d e : Data) → depth d ≡ 0 → depth e ≡ 1 → depth (if b then d else e) ≤ (if b then 0 else 1)
chosen true d e first second = omega arith
chosen false d e first second = omega arith

integer-depth : (z : ℤ) → depth (integer_data z) ≤ p.deep (p.number z)
integer-depth (pos n) = chosen (p.is_small (pos n)) _ _ refl refl
integer-depth (negsuc n) = chosen (p.is_small (negsuc n)) _ _ refl refl

entries-depth : (ks vs : Items) (n : ℕ) → items_depth ks ≤ n → items_depth vs ≤ n → items_depth (entries_data ks vs) ≤ suc n
entries-depth no_items vs n e f = omega arith
entries-depth (item k ks) no_items n e f = omega arith
entries-depth (item k ks) (item v vs) n e f = let rest = entries-depth ks vs n (omega arith) (omega arith) in omega arith

field-depth : (b : Bool) (k : List ℕ) (d : Data) (ms : Members) (n here : ℕ) → depth d ≤ here → members_depth ms ≤ n
    → members_depth (if b then ms else put k d ms) ≤ (if b then n else max n here)
field-depth true k d ms n here e f = f
field-depth false k d ms n here e f = put-depth k d ms (max n here) (omega arith) (omega arith)

regroup : (b : Bool) (n here rest : ℕ) → max (if b then n else max n here) rest ≤ max n (if b then rest else max here rest)
regroup true n here rest = omega arith
regroup false n here rest = omega arith

le_over : (a b c : ℕ) → a ≤ b → b ≤ c → a ≤ c
le_over a b c e f = omega arith

mutual
  pub plain-depth : (v : p.Printable) → depth (plain_data v) ≤ p.deep v
  plain-depth p.unit = omega arith
  plain-depth (p.bool b) = omega arith
  plain-depth (p.number z) = integer-depth z
  plain-depth p.nothing = omega arith
  plain-depth (p.just v) = let part = plain-depth v in omega arith
  plain-depth (p.fields names vs) = let part = fields-depth vs names no_members 0 (omega arith) in omega arith
  plain-depth (p.union tag v) = let part = plain-depth v in omega arith
  plain-depth (p.array vs) = let part = plains-depth vs in omega arith
  plain-depth (p.entries p.none vs) = omega arith
  plain-depth (p.entries (p.one k ks) vs) =
      let n = max (max (p.deep k) (p.deepest ks)) (p.deepest vs) in
      let key = plain-depth k in
      let keys = plains-depth ks in
      let values = plains-depth vs in
      let part = entries-depth (plains_data (p.one k ks)) (plains_data vs) n (omega arith) (omega arith) in omega arith
  plain-depth (p.stream in_input from to) = omega arith

  plains-depth : (vs : p.Printables) → items_depth (plains_data vs) ≤ p.deepest vs
  plains-depth p.none = omega arith
  plains-depth (p.one v vs) = let part = plain-depth v in let rest = plains-depth vs in omega arith

  fields-depth : (vs : p.Printables) (names : List (List ℕ)) (ms : Members) (n : ℕ) → members_depth ms ≤ n
      → members_depth (fields_data vs names ms) ≤ max n (p.fields_deep vs names)
  fields-depth p.none names ms n e = omega arith
  fields-depth (p.one v vs) [] ms n e = omega arith
  fields-depth (p.one v vs) (name ∷ names) ms n e =
      let hidden = p.is_hidden name in
      let here = p.deep v in
      let rest = p.fields_deep vs names in
      le_over _ _ _ (fields-depth vs names _ (if hidden then n else max n here) (field-depth hidden (shown name) (plain_data v) ms n here (plain-depth v) e))
      (regroup hidden n here rest)
