-- What grows is an array.
use Rattle.std.proofs.Common.{◌≡◌, ℕ, suc, ◌<◌, List, [], ◌∷◌, ◌++◌, map, length, Bool, true, false, Some, refl, sym, ap, ◌∙◌, arith}
use Rattle.ddl_base.specs.declared.span.Span.{Span}
use Rattle.ddl_types.specs.Types.{Ty}
use Rattle.ddl_types.specs.Value.{Value, Values, Stream, array, no_values, value}
use Rattle.ddl_types.specs.Outcome.{Outcome, ends, tick, miss, parse, parsed}
use Rattle.ddl_ops.specs.Arrays.{snoc}
use Rattle.ddl_ops.specs.Valued.{then_parse}
use Rattle.ddl_core.specs.Core.{Operation, list, push, gather, Form}
use Rattle.ddl_core.specs.Operations.{applied, performed}
use Rattle.ddl_blocks.specs.Machine.{built}
use Rattle.ddl_emission.specs.Growing.{flag_at, flags_at, result_grows, takes_array, grown_types}
use Rattle.ddl_emission.specs.Pieces.{second}
use Rattle.ddl_emission.specs.Scope.{Below}

abbrev pub IsArray : Value → Type 0
IsArray v = (vs : Values) × (v ≡ array vs)

-- the values of variables that grow are arrays
abbrev pub AreArrays : List Bool → List Value → Type 0
AreArrays [] [] = Unit {0}
AreArrays (b ∷ bs) (v ∷ vs) = (b ≡ true → IsArray v) × AreArrays bs vs
AreArrays bs vs = ⊥

pub built_is : (v : Value) → IsArray v → built v ≡ Some v
built_is v a = ap built a.1 ∙ ap Some (sym a.1)

pub arrays_length : (bs : List Bool) (vs : List Value) → AreArrays bs vs → length bs ≡ length vs
arrays_length [] [] h = refl
arrays_length [] (v ∷ vs) h = absurd h
arrays_length (b ∷ bs) [] h = absurd h
arrays_length (b ∷ bs) (v ∷ vs) h = ap suc (arrays_length bs vs h.1)

pub arrays_append : (bs cs : List Bool) (vs ws : List Value) → AreArrays bs vs → AreArrays cs ws → AreArrays (bs ++ cs) (vs ++ ws)
arrays_append [] cs [] ws h k = k
arrays_append [] cs (v ∷ vs) ws h k = absurd h
arrays_append (b ∷ bs) cs [] ws h k = absurd h
arrays_append (b ∷ bs) cs (v ∷ vs) ws h k = (h.0, arrays_append bs cs vs ws h.1 k)

-- where nothing grows
pub none_grows : (tys : List Ty) (vs : List Value) → length vs ≡ length tys → AreArrays (map (λ ty. false) tys) vs
none_grows [] [] e = tt
none_grows [] (v ∷ vs) e = absurd (cc)
none_grows (ty ∷ tys) [] e = absurd (cc)
none_grows (ty ∷ tys) (v ∷ vs) e = (λ f. absurd (cc), none_grows tys vs (omega (arith, e)))

pub length-flags : (bs : List Bool) (xs : List ℕ) → length (flags_at bs xs) ≡ length xs
length-flags bs [] = refl
length-flags bs (x ∷ xs) = ap suc (length-flags bs xs)

pub length-grown : (bs : List Bool) (tys : List Ty) → length (grown_types bs tys) ≡ length tys
length-grown bs [] = refl
length-grown [] (ty ∷ tys) = ap suc (length-grown [] tys)
length-grown (b ∷ bs) (ty ∷ tys) = ap suc (length-grown bs tys)

-- what is built in front of an operation is there, and grows
pub takes_second : (bs : List Bool) (k : ℕ) (op : Operation) (xs : List ℕ) → takes_array bs op xs ≡ true → Below k xs
    → (second xs < k) × (flag_at bs (second xs) ≡ true)
takes_second bs k gather (x ∷ y ∷ xs) e b = (b.1.0, e)
takes_second bs k op xs e b = absurd (cc)

-- ---- results

-- each parse has a value of this kind
abbrev pub Gives : (Value → Type 0) → Outcome → Type 0
Gives P (ends e) = Unit {0}
Gives P (tick o) = Gives P o
Gives P (miss why source at span o) = Unit {0}
Gives P (parse v s o) = P v

pub gives_any : (o : Outcome) → Gives (λ v. Unit {0}) o
gives_any (ends e) = tt
gives_any (tick o) = gives_any o
gives_any (miss why source at span o) = tt
gives_any (parse v s o) = tt

gives_if : (b : Bool) (o : Outcome) → (b ≡ true → Gives IsArray o) → Gives (λ v. b ≡ true → IsArray v) o
gives_if b (ends e) h = tt
gives_if b (tick o) h = gives_if b o h
gives_if b (miss why source at span o) h = tt
gives_if b (parse v s o) h = h

push_gives : (vs : Values) (span : Span) (s : Stream) → Gives IsArray (then_parse (applied push vs span) (λ v. parsed v s))
push_gives (value (array ws) (value v no_values)) span s = (snoc ws v, refl)
push_gives vs span s = tt

array_made : (op : Operation) (xs : List ℕ) (k : Form) (vs : Values) (span : Span) (s : Stream) → result_grows op xs k ≡ true
    → Gives IsArray (performed op vs span s)
array_made push xs k vs span s e = push_gives vs span s
array_made list [] k vs span s e = (vs, refl)
array_made op xs k vs span s e = absurd (cc)

pub result_array : (op : Operation) (xs : List ℕ) (k : Form) (vs : Values) (span : Span) (s : Stream)
    → Gives (λ v. result_grows op xs k ≡ true → IsArray v) (performed op vs span s)
result_array op xs k vs span s = gives_if (result_grows op xs k) (performed op vs span s) (array_made op xs k vs span s)
