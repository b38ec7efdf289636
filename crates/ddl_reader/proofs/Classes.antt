-- The machine reads each class.
use Rattle.std.proofs.Common.{◌≡◌, ℕ, ◌+◌, ◌≤◌, max, List, [], ◌∷◌, Option, Some, refl, ap, ◌∙◌, arith}
use Rattle.ddl_base.specs.declared.span.Span.{Span}
use Rattle.ddl_token.specs.declared.token.Tok.{Tok}
use Rattle.ddl_token.specs.declared.token.Tok.TheVariants as k
use Rattle.ddl_token.specs.declared.mark.Mark.TheVariants as m
use Rattle.ddl_tree.specs.declared.name.ByteLit.{ByteLit}
use Rattle.ddl_tree.specs.declared.name.ByteLit.TheVariants.{Code, Quoted}
use Rattle.ddl_tree.specs.ClassTree as cls
use Rattle.ddl_tree.specs.ClassTree.{byte_span, class_span}
use Rattle.ddl_tree.specs.ModuleTree.{Module}
use Rattle.ddl_tree.specs.Print.{print_class, byte_token}
use Rattle.ddl_tree.specs.Grammar.{IsClass, class_level}
use Rattle.ddl_tree.specs.Depth.{class_depth}
use Rattle.ddl_tree.specs.Spans.{Places, next, after, between, place_class, place_byte}
use Rattle.ddl_reader.specs.Frames.{Frame, State, FoundClass}
use Rattle.ddl_reader.specs.Frames as frame
use Rattle.ddl_reader.specs.StepType.{joined}
use Rattle.ddl_reader.specs.StepClass.{class_done, found_class}
use Rattle.ddl_reader.specs.Step.{run, goes, finish, finish_class_at, class_on, step_at, step_byte}
use Rattle.ddl_reader.proofs.Tokens.{seen, go}

byte_span_placed : (b : ByteLit) (p : Places) → byte_span (place_byte b p) ≡ next p
byte_span_placed (Code n) p = refl
byte_span_placed (Quoted b s) p = refl

pub class_span_placed : (c : cls.Cls) (p : Places) → class_span (place_class c p).0 ≡ between p (place_class c p).1
class_span_placed (cls.Union a b s) p = refl
class_span_placed (cls.One b) p = byte_span_placed b p
class_span_placed (cls.Range a b s) p = refl
class_span_placed (cls.Known x) p = refl
class_span_placed (cls.Other c s) p = refl
class_span_placed (cls.Grouped c s) p = refl
class_span_placed (cls.Set c s) p = refl

-- what a class ends in is a class that has been read
done_finishes : (fs : List Frame) (c : cls.Cls) (n : ℕ) → finish_class_at (class_done fs c n) ≡ finish (class_done fs c n).1 (class_done fs c n).0
done_finishes [] c n = refl
done_finishes (frame.in_other s ∷ fs) c n = done_finishes fs (cls.Other c (joined s (class_span c))) (1 + n)
done_finishes (frame.in_union a ∷ fs) c n = refl
done_finishes (_ ∷ fs) c n = refl

done_steps : (fs : List Frame) (c : cls.Cls) (n : ℕ) (x : Tok) (s : Span)
    → class_on (class_done fs c n) x s ≡ step_at (class_done fs c n).1 (class_done fs c n).0 x s
done_steps [] c n x s = refl
done_steps (frame.in_other t ∷ fs) c n x s = done_steps fs (cls.Other c (joined t (class_span c))) (1 + n) x s
done_steps (frame.in_union a ∷ fs) c n x s = refl
done_steps (_ ∷ fs) c n x s = refl

-- the second `..` of a range is not taken for the first
abbrev pub NoDots : List Tok → Type 0
NoDots [] = Unit {0}
NoDots (k.Mark m.DotDot ∷ xs) = ⊥
NoDots (x ∷ xs) = Unit {0}

-- a byte with no `..` behind it is a class
byte_step : (fs : List Frame) (b : ByteLit) (x : Tok) (xs : List Tok) (s : Span) → NoDots (x ∷ xs)
    → step_byte fs b x s ≡ class_on (class_done fs (cls.One b) 1) x s
byte_step fs b (k.Mark m.DotDot) xs s h = absurd h
byte_step fs b _ xs s h = refl

byte_done : (fs : List Frame) (b : ByteLit) (r : List Tok) (p : Places) → NoDots r
    → run (seen r p) (fs, frame.have_byte b) ≡ run (seen r p) (class_done fs (cls.One b) 1)
byte_done fs b [] p h = done_finishes fs (cls.One b) 1
byte_done fs b (x ∷ xs) p h = ap (goes (run (seen xs (after p)))) (byte_step fs b x xs (next p) h ∙ done_steps fs (cls.One b) 1 x (next p))

abbrev pub class_read : cls.Cls → Places → List Frame → List Tok → Option Module
class_read c p fs r = run (seen r (place_class c p).1) (class_done fs (place_class c p).0 (class_depth c))

-- a class stands here that a `|` may go on with
abbrev pub IsClassHole : List Frame → Type 0
IsClassHole (frame.in_grouped s ∷ fs) = Unit {0}
IsClassHole (frame.in_class_set s ∷ fs) = Unit {0}
IsClassHole (frame.in_set s ∷ fs) = Unit {0}
IsClassHole (frame.in_class_body s x ∷ fs) = Unit {0}
IsClassHole _ = ⊥

has_class : (fs : List Frame) (c : cls.Cls) (n : ℕ) → IsClassHole fs → class_done fs c n ≡ (fs, frame.have_class (found_class c n))
has_class (frame.in_grouped s ∷ fs) c n h = refl
has_class (frame.in_class_set s ∷ fs) c n h = refl
has_class (frame.in_set s ∷ fs) c n h = refl
has_class (frame.in_class_body s x ∷ fs) c n h = refl
has_class [] c n h = absurd h
has_class (_ ∷ fs) c n h = absurd h

or_class : (fs : List Frame) (c : FoundClass) (s : Span) → IsClassHole fs
    → step_at (frame.have_class c) fs (k.Mark m.Bar) s ≡ Some (frame.in_union c ∷ fs, frame.want_class)
or_class (frame.in_grouped t ∷ fs) c s h = refl
or_class (frame.in_class_set t ∷ fs) c s h = refl
or_class (frame.in_set t ∷ fs) c s h = refl
or_class (frame.in_class_body t x ∷ fs) c s h = refl
or_class [] c s h = absurd h
or_class (_ ∷ fs) c s h = absurd h

reads_one : (b : ByteLit) (fs : List Frame) (r : List Tok) (p : Places)
    → run (seen (byte_token b ∷ r) p) (fs, frame.want_class) ≡ run (seen r (after p)) (fs, frame.have_byte (place_byte b p))
reads_one (Code n) fs r p = refl
reads_one (Quoted b s) fs r p = refl

reads_last : (a b : ByteLit) (fs : List Frame) (r : List Tok) (p : Places)
    → run (seen (byte_token b ∷ r) p) (fs, frame.want_last a)
    ≡ run (seen r (after p)) (class_done fs (cls.Range a (place_byte b p) (joined (byte_span a) (next p))) 1)
reads_last a (Code n) fs r p = refl
reads_last a (Quoted b s) fs r p = refl

joined_parts : (a b : cls.Cls) (p : Places) → joined (class_span (place_class a p).0) (class_span (place_class b (after (place_class a p).1)).0)
    ≡ between p (place_class b (after (place_class a p).1)).1
joined_parts a b p = let e = class_span_placed a p in let f = class_span_placed b (after (place_class a p).1)
    in ap (λ s. joined s (class_span (place_class b (after (place_class a p).1)).0)) e ∙ ap (joined (between p (place_class a p).1)) f

-- a factor, in any place
abbrev pub FactorReads : cls.Cls → Type 0
FactorReads c = (fs : List Frame) (r : List Tok) (p : Places) → NoDots r → run (seen (print_class c r) p) (fs, frame.want_class) ≡ class_read c p fs r

-- any class, where a `|` may go on with it
abbrev pub ClassReads : cls.Cls → Type 0
ClassReads c = (fs : List Frame) (r : List Tok) (p : Places) → IsClassHole fs → NoDots r
    → run (seen (print_class c r) p) (fs, frame.want_class)
    ≡ run (seen r (place_class c p).1) (fs, frame.have_class (found_class (place_class c p).0 (class_depth c)))

class_of_factor : (c : cls.Cls) → FactorReads c → ClassReads c
class_of_factor c all fs r p hole h = all fs r p h ∙ ap (run (seen r (place_class c p).1)) (has_class fs (place_class c p).0 (class_depth c) hole)

one_reads : (b : ByteLit) → FactorReads (cls.One b)
one_reads b fs r p h = reads_one b fs r p ∙ byte_done fs (place_byte b p) r (after p) h

range_reads : (a b : ByteLit) (s : Span) → FactorReads (cls.Range a b s)
range_reads a b s fs r p h =
    reads_one a fs (k.Mark m.DotDot ∷ byte_token b ∷ r) p
    ∙ reads_last (place_byte a p) b fs r (after (after p))
    ∙ ap (λ s. run (seen r (after (after (after p)))) (class_done fs
    (cls.Range (place_byte a p) (place_byte b (after (after p))) (joined s (next (after (after p))))) 1)) (byte_span_placed a p)

other_reads : (c : cls.Cls) (s : Span) → FactorReads c → FactorReads (cls.Other c s)
other_reads c s all fs r p h =
    all (frame.in_other (next p) ∷ fs) r (after p) h
    ∙ ap (λ s. run (seen r (place_class c (after p)).1) (class_done fs (cls.Other (place_class c (after p)).0 (joined (next p) s)) (1 + class_depth c)))
    (class_span_placed c (after p))

grouped_reads : (c : cls.Cls) (s : Span) → ClassReads c → FactorReads (cls.Grouped c s)
grouped_reads c s all fs r p h = all (frame.in_grouped (next p) ∷ fs) (k.Mark m.CloseParen ∷ r) (after p) tt tt

set_reads : (c : cls.Cls) (s : Span) → ClassReads c → FactorReads (cls.Set c s)
set_reads c s all fs r p h = all (frame.in_class_set (next p) ∷ fs) (k.Mark m.CloseBracket ∷ r) (after p) tt tt

union_reads : (a b : cls.Cls) (s : Span) → ClassReads a → FactorReads b → ClassReads (cls.Union a b s)
union_reads a b s all_a all_b fs r p hole h =
    let x = place_class a p in
    let y = place_class b (after x.1) in
    all_a fs (k.Mark m.Bar ∷ print_class b r) p hole tt
    ∙ go (k.Mark m.Bar) (print_class b r) x.1 (fs, frame.have_class (found_class x.0 (class_depth a))) (
      frame.in_union (found_class x.0 (class_depth a)) ∷ fs,
      frame.want_class,
    ) (or_class fs (found_class x.0 (class_depth a)) (next x.1) hole)
    ∙ all_b (frame.in_union (found_class x.0 (class_depth a)) ∷ fs) r (after x.1) h
    ∙ ap (λ s. run (seen r y.1) (fs, frame.have_class (found_class (cls.Union x.0 y.0 s) (1 + max (class_depth a) (class_depth b))))) (joined_parts a b p)

abbrev BothRead : cls.Cls → Type 0
BothRead c = ClassReads c × (2 ≤ class_level c → FactorReads c)

both : (c : cls.Cls) → FactorReads c → BothRead c
both c all = (class_of_factor c all, λ l. all)

both_read : (c : cls.Cls) → IsClass c → BothRead c
both_read (cls.Union a b s) i = (union_reads a b s (both_read a i.0).0 ((both_read b i.1).1 i.2), λ l. absurd (omega arith))
both_read (cls.One b) i = both (cls.One b) (one_reads b)
both_read (cls.Range a b s) i = both (cls.Range a b s) (range_reads a b s)
both_read (cls.Known x) i = both (cls.Known x) (λ fs r p h. refl)
both_read (cls.Other c s) i = both (cls.Other c s) (other_reads c s ((both_read c i.0).1 i.1))
both_read (cls.Grouped c s) i = both (cls.Grouped c s) (grouped_reads c s (both_read c i).0)
both_read (cls.Set c s) i = both (cls.Set c s) (set_reads c s (both_read c i).0)

-- the machine reads each class of the grammar
pub reads_class : (c : cls.Cls) → IsClass c → ClassReads c
reads_class c i = (both_read c i).0
