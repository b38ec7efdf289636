-- The blocks of a piece: how many they are, and where they stand.
use Rattle.std.proofs.Common.{◌≡◌, ℕ, zero, suc, ◌+◌, List, [], ◌∷◌, ◌++◌, map, length, Some, Bool, true, false, if◌then◌else◌, refl, sym, ap, ◌∙◌, subst}
use Rattle.std.proofs.Common.{arith, append_assoc, length-append}
use Rattle.std.specs.Prelude.{slice_get, slice_index}
use Rattle.ddl_base.specs.declared.span.Span.{Span}
use Rattle.ddl_types.specs.declared.fault.Fault.{Fault}
use Rattle.ddl_types.specs.Types.{Ty}
use Rattle.ddl_core.specs.Core.{Operation, Form, Alternatives, give, perform, none, bind, both, attempt, call, case_, loop, again, inside, none_left, when}
use Rattle.ddl_core.specs.Core as c
use Rattle.ddl_core.specs.Meaning.{function_at}
use Rattle.ddl_blocks.specs.Code.{ValueType, of_type, Block, Function}
use Rattle.ddl_blocks.specs.Failing.{may_fail, faults_of}
use Rattle.ddl_blocks.specs.Machine.{block_in, block_at}
use Rattle.ddl_blocks.specs.OperationTypes.{unit}
use Rattle.ddl_emission.specs.Pieces.{Place, wider, bound_as, bound, before, opened_in, Piece, entry_of, fail_count, fail_blocks, halts, stops, stop_count}
use Rattle.ddl_emission.specs.Growing.{first_grows, flag_at}
use Rattle.ddl_emission.specs.Lone.{Lone, lone, several, lone_of}
use Rattle.ddl_emission.specs.Sizes.{before_rest, before_right, choice_size, few, if_left, size, size_all, size_chain}
use Rattle.ddl_emission.specs.Emission.{held, built_first, giving, bind_piece, choice_piece, answered, case_piece, turning, emit, emit_cases, emit_chain}
use Rattle.ddl_emission.specs.Program.{function_of}
use Rattle.ddl_emission.proofs.Runs.{Blocks}

-- ---- how many further blocks a piece has

pub length-fail : (b : Bool) (types : List ValueType) → length (fail_blocks b types) ≡ fail_count b
length-fail true types = refl
length-fail false types = refl

pub length-halts : (fs : List Fault) (types : List ValueType) (span : Span) → length (halts fs types span) ≡ length fs
length-halts [] types span = refl
length-halts (f ∷ fs) types span = ap suc (length-halts fs types span)

pub length-stops : (op : Operation) (types : List ValueType) (span : Span) → length (stops op types span) ≡ stop_count op
length-stops op types span =
    omega (
      arith,
      length-append (fail_blocks (may_fail op) types) (halts (faults_of op) types span),
      length-fail (may_fail op) types,
      length-halts (faults_of op) types span,
    )

length-bind : (x : Lone) (b : Bool) (p : Place) (ty : Ty) (at sg sk : ℕ) (pg pk : Piece) → length pg.more ≡ sg → length pk.more ≡ sk
    → length (bind_piece x b p ty at pg pk).more ≡ before_rest x sg + sk
length-bind (lone op xs span) b p ty at sg sk pg pk eg ek =
    let tys = (built_first (lone op xs span) p).types in
    omega (arith, length-append (stops op tys span) pk.more, length-stops op tys span, ek)
length-bind several b p ty at sg sk pg pk eg ek = omega (arith, length-append pg.more pk.more, eg, ek)

length-choice : (x : Lone) (p : Place) (ty : Ty) (at sr sk sl : ℕ) (pr pk pl : Piece) → length pr.more ≡ sr → length pk.more ≡ sk → length pl.more ≡ sl
    → length (choice_piece x p ty at pr pk pl).more ≡ choice_size x sr sk sl
length-choice (lone op xs span) p ty at sr sk sl pr pk pl er ek el =
    omega (
      arith,
      length-append (halts (faults_of op) p.types span) (pr.more ++ pk.more),
      length-append pr.more pk.more,
      length-halts (faults_of op) p.types span,
      er,
      ek,
    )
length-choice several p ty at sr sk sl pr pk pl er ek el = omega (arith, length-append pr.more (pk.more ++ pl.more), length-append pk.more pl.more, er, ek, el)

length-case : (t : Bool) (i : ℕ) (as_ : Alternatives) (p : Place) (at to so sc sa : ℕ) (po pc : Piece) (bs : List Block)
    → length po.more ≡ so → length pc.more ≡ sc → length bs ≡ sa → length (case_piece t i as_ p at to po pc bs).more ≡ 1 + so + (if t then sc else sa)
length-case true i as_ p at to so sc sa po pc bs eo ec es = omega (arith, length-append po.more pc.more, eo, ec)
length-case false i as_ p at to so sc sa po pc bs eo ec es = omega (arith, length-append po.more bs, eo, es)

length-rest : (as_ : Alternatives) (b : Block) (bs : List Block) (k : ℕ) → length bs ≡ k → length (if_left as_ (b ∷ bs) []) ≡ if_left as_ (1 + k) 0
length-rest none_left b bs k e = refl
length-rest (when p ty g as_) b bs k e = omega (arith, e)

length-giving : (b : Bool) (p : Place) (x : ℕ) → length (giving b p x).more ≡ 0
length-giving true p x = refl
length-giving false p x = refl

mutual
  pub length-emit : (g : Form) (p : Place) (at : ℕ) → length (emit g p at).more ≡ size g
  length-emit (give x) p at = length-giving (flag_at p.grow x) p x
  length-emit (perform op xs span) p at = length-stops op (built_first (lone op xs span) p).types span
  length-emit none p at = refl
  length-emit (bind ty g k) p at =
      let b = first_grows (lone_of g) k in
      let p1 = bound_as b (built_first (lone_of g) p) ty in
      let i = at + before_rest (lone_of g) (size g) in
      length-bind (lone_of g) b p ty at (size g) (size k) (emit g (before p ty at) (at + 1)) (emit k p1 i) (length-emit g (before p ty at) (at + 1))
      (length-emit k p1 i)
  length-emit (both l r) p at =
      let pr = emit r p (at + 1) in
      let pl = emit l (wider p (of_type unit)) (at + 1 + size r) in
      omega (arith, length-append pr.more pl.more, length-emit r p (at + 1), length-emit l (wider p (of_type unit)) (at + 1 + size r))
  length-emit (attempt ty l k r) p at =
      let h = held (lone_of l) p in
      let i = at + before_right (lone_of l) in
      length-choice (lone_of l) p ty at (size r) (size k) (size l) (emit r p i) (emit k (bound h ty) (i + size r))
      (emit l (before h ty (at + 1)) (i + size r + size k))
      (length-emit r p i) (length-emit k (bound h ty) (i + size r)) (length-emit l (before h ty (at + 1)) (i + size r + size k))
  length-emit (call f xs) p at = refl
  length-emit (case_ x as_ other) p at =
      let to = at + 1 + size other in
      let i = slice_index p.variables x in
      length-case (few as_) i as_ p at to (size other) (size_chain as_) (size_all as_) (emit other (answered (few as_) p) (at + 1)) (emit_chain as_ i p at to)
      (emit_cases as_ i (answered false p) at to)
      (length-emit other (answered (few as_) p) (at + 1)) (length-chain as_ i p at to) (length-cases as_ i (answered false p) at to)
  length-emit (loop tys xs g) p at = omega (arith, length-emit g (turning p tys xs at) (at + 1))
  length-emit (again xs) p at = refl
  length-emit (inside d g) p at = length-emit g (opened_in p d) at

  pub length-cases : (as_ : Alternatives) (i : ℕ) (p : Place) (other at : ℕ) → length (emit_cases as_ i p other at) ≡ size_all as_
  length-cases none_left i p other at = refl
  length-cases (when q ty g as_) i p other at =
      let pg = emit g (bound p ty) (at + 1) in
      omega (
        arith,
        length-append pg.more (emit_cases as_ i p other (at + 1 + size g)),
        length-emit g (bound p ty) (at + 1),
        length-cases as_ i p other (at + 1 + size g),
      )

  pub length-chain : (as_ : Alternatives) (i : ℕ) (p : Place) (other at : ℕ) → length (emit_chain as_ i p other at).more ≡ size_chain as_
  length-chain none_left i p other at = refl
  length-chain (when q ty g as_) i p other at =
      let pg = emit g (bound p ty) at in
      let pr = emit_chain as_ i p other (at + size g + 1) in
      omega (
        arith,
        length-append pg.more (if_left as_ (entry_of p.types pr ∷ pr.more) []),
        length-emit g (bound p ty) at,
        length-rest as_ (entry_of p.types pr) pr.more (size_chain as_) (length-chain as_ i p other (at + size g + 1)),
      )

-- ---- blocks stand at a place of a function

abbrev pub HasAt : Blocks → ℕ → ℕ → List Block → Type 0
HasAt code fn at [] = Unit {0}
HasAt code fn at (b ∷ bs) = (block_at code fn at ≡ Some b) × HasAt code fn (at + 1) bs

pub has_front : (code : Blocks) (fn at : ℕ) (a b : List Block) → HasAt code fn at (a ++ b) → HasAt code fn at a
has_front code fn at [] b h = tt
has_front code fn at (x ∷ a) b h = (h.0, has_front code fn (at + 1) a b h.1)

pub has_back : (code : Blocks) (fn at to : ℕ) (a b : List Block) → at + length a ≡ to → HasAt code fn at (a ++ b) → HasAt code fn to b
has_back code fn at to [] b e h = let e' : at ≡ to = omega (arith, e) in subst (λ n. HasAt code fn n b) e' h
has_back code fn at to (x ∷ a) b e h = has_back code fn (at + 1) to a b (omega (arith, e)) h.1

pub has_to : (code : Blocks) (fn at to : ℕ) (bs : List Block) → at ≡ to → HasAt code fn at bs → HasAt code fn to bs
has_to code fn at to bs e h = subst (λ n. HasAt code fn n bs) e h

get_seam : (pre : List Block) (b : Block) (bs : List Block) → slice_get (pre ++ b ∷ bs) (length pre) ≡ Some b
get_seam [] b bs = refl
get_seam (p ∷ pre) b bs = get_seam pre b bs

has_from : (code : Blocks) (fn : ℕ) (bs pre : List Block) → ((i : ℕ) → block_at code fn i ≡ slice_get (pre ++ bs) i) → HasAt code fn (length pre) bs
has_from code fn [] pre f = tt
has_from code fn (b ∷ bs) pre f =
    let here = f (length pre) ∙ get_seam pre b bs in
    let n : length (pre ++ b ∷ []) ≡ length pre + 1 = omega (arith, length-append pre (b ∷ [])) in
    let rest = has_from code fn bs (pre ++ b ∷ []) (λ i. f i ∙ ap (λ l. slice_get l i) (sym (append_assoc pre (b ∷ []) bs))) in
    (here, subst (λ k. HasAt code fn k bs) n rest)

-- a whole function
pub has_all : (code : Blocks) (fn : ℕ) (d : Function) → slice_get code fn ≡ Some d → HasAt code fn 0 d.blocks
has_all code fn d e = has_from code fn d.blocks [] (λ i. ap (λ o. block_in o i) e)

pub function_there : (fs : List c.Function) (f : ℕ) (d : c.Function) → function_at fs f ≡ Some d → slice_get (map function_of fs) f ≡ Some (function_of d)
function_there [] f d e = absurd (cc)
function_there (x ∷ fs) zero d e = let r : x ≡ d = cc in ap (λ y. Some (function_of y)) r
function_there (x ∷ fs) (suc f) d e = function_there fs f d e
