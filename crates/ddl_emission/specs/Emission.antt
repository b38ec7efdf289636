-- The piece of code of each form.
use Rattle.std.specs.Prelude.{ℕ, ◌+◌, List, [], ◌∷◌, ◌++◌, length, Bool, true, false, slice_index}
use Rattle.ddl_base.specs.declared.span.Span.{Span}
use Rattle.ddl_types.specs.Types.{Ty}
use Rattle.ddl_ops.specs.declared.pattern.Pattern.{Pattern}
use Rattle.ddl_core.specs.Core.{Form, give, perform, none, bind, both, attempt, call, case_, loop, again, inside}
use Rattle.ddl_core.specs.Core.{Operation, Alternatives, none_left, when}
use Rattle.ddl_blocks.specs.Code.{ValueType, of_type, thread, Targets, Instr, build, choose, content, spawn, notify}
use Rattle.ddl_blocks.specs.Code.{jump, switch_to, call_to, fail_, Block}
use Rattle.ddl_blocks.specs.Failing.{faults_of}
use Rattle.ddl_blocks.specs.OperationTypes.{count, unit}
use Rattle.ddl_emission.specs.Pieces.{upto, to_block, exit_of, Place, all_of, next_of, wider, bound_as, bound, before}
use Rattle.ddl_emission.specs.Pieces.{opened_in, number_of, with_types, built_types, built_front, built_arguments}
use Rattle.ddl_emission.specs.Pieces.{renumber, doing_at, Piece, entry_of, halts, stops, stop_targets, choice_targets}
use Rattle.ddl_emission.specs.Growing.{first_grows, flag_at, flags_at, takes_array, grown_type, grown_types}
use Rattle.ddl_emission.specs.Lone.{Lone, lone, several, lone_of}
use Rattle.ddl_emission.specs.Sizes.{before_rest, before_right, few, if_left, size}

-- where the left side of a biased choice stands: with the number of the thread of the right side, where there is one
abbrev pub held : Lone → Place → Place
held (lone op xs span) p = p
held several p = wider p thread

-- where what follows the first form of a `bind` stands: behind the array that one operation is given first, where it is
abbrev pub built_first : Lone → Place → Place
built_first (lone op xs span) p = with_types p (built_types (takes_array p.grow op xs) p xs)
built_first several p = p

-- an operation, with the array built in front of it that it takes
abbrev pub operation_at : Place → ValueType → Operation → List ℕ → Span → Targets → List Instr → List Instr
operation_at p of op xs span targets is =
    let t = takes_array p.grow op xs in
    built_front t p xs ++ doing_at p of op (built_arguments t p xs) span targets ∷ is

-- a `bind`: what follows one operation stands in its block; what follows another form has a block of its own
abbrev pub bind_piece : Lone → Bool → Place → Ty → ℕ → Piece → Piece → Piece
bind_piece (lone op xs span) b p ty at pg pk = record {
  body = operation_at p (grown_type b ty) op xs span (stop_targets op at) pk.body;
  exit = pk.exit;
  more = stops op (built_first (lone op xs span) p).types span ++ pk.more;
}
bind_piece several b p ty at pg pk = record {
  body = pg.body;
  exit = pg.exit;
  more = entry_of (p.types ++ of_type ty ∷ []) pk ∷ (pg.more ++ pk.more);
}

-- a biased choice, of its right side, what follows its left one, and its left one: one operation goes on at the right
-- side's block where it fails; else the right side waits in a thread, and each parse of the left one notifies it
abbrev pub choice_piece : Lone → Place → Ty → ℕ → Piece → Piece → Piece → Piece
choice_piece (lone op xs span) p ty at pr pk pl = record {
  body = doing_at p (of_type ty) op (renumber xs p.variables) span (choice_targets op at) ∷ pk.body;
  exit = pk.exit;
  more = entry_of p.types pr ∷ (halts (faults_of op) p.types span ++ (pr.more ++ pk.more));
}
choice_piece several p ty at pr pk pl = record {
  body = spawn at (all_of p) true ∷ pl.body;
  exit = pl.exit;
  more =
      entry_of p.types pr
      ∷ record {
        params = (p.types ++ thread ∷ []) ++ of_type ty ∷ [];
        body = notify (next_of p) ∷ pk.body;
        exit = pk.exit;
      }
      ∷ (pr.more ++ (pk.more ++ pl.more));
}

abbrev pub patterns : Alternatives → List Pattern
patterns none_left = []
patterns (when p ty g as_) = p ∷ patterns as_

-- the blocks of a table: where the alternatives begin, and the other form
abbrev pub case_blocks : Alternatives → ℕ → ℕ → List ℕ
case_blocks none_left other at = other ∷ []
case_blocks (when p ty g as_) other at = at ∷ case_blocks as_ other (at + 1 + size g)

-- where the alternatives of a table and its other form stand: with the answer
abbrev pub answered : Bool → Place → Place
answered true p = p
answered false p = wider p (of_type count)

-- a case on the value of this number: the other form, and the alternatives one after the other or by a table
abbrev pub case_piece : Bool → ℕ → Alternatives → Place → ℕ → ℕ → Piece → Piece → List Block → Piece
case_piece true x as_ p at to po pc bs = record {
  body = pc.body;
  exit = pc.exit;
  more = entry_of p.types po ∷ (po.more ++ pc.more);
}
case_piece false x as_ p at to po pc bs = record {
  body = choose x (patterns as_) ∷ [];
  exit = switch_to (next_of p) (case_blocks as_ at to);
  more = entry_of (p.types ++ of_type count ∷ []) po ∷ (po.more ++ bs);
}

-- the body of a loop: its state after all values, which grows where it begins so, and `again` goes to its block
abbrev pub state_types : Place → List Ty → List ℕ → List ValueType
state_types p tys xs = p.types ++ grown_types (flags_at p.grow xs) tys

abbrev pub turning : Place → List Ty → List ℕ → ℕ → Place
turning p tys xs block = record {
  variables = upto (next_of p) (length tys) ++ p.variables;
  grow = flags_at p.grow xs ++ p.grow;
  types = state_types p tys xs;
  of = p.of;
  opened = p.opened;
  out = p.out;
  top = to_block block (all_of p);
}

-- the value of a variable goes out; of one that grows its array is built
abbrev pub giving : Bool → Place → ℕ → Piece
giving true p x = record { body = build (number_of p x) ∷ []; exit = exit_of p.out (next_of p); more = [] }
giving false p x = record { body = []; exit = exit_of p.out (number_of p x); more = [] }

-- the piece of a form at a place; its further blocks have the numbers from `at` on
abbrev mutual
  pub emit : Form → Place → ℕ → Piece
  emit (give x) p at = giving (flag_at p.grow x) p x
  emit (perform op xs span) p at = record {
    body = operation_at p p.of op xs span (stop_targets op at) [];
    exit = exit_of p.out (next_of (built_first (lone op xs span) p));
    more = stops op (built_first (lone op xs span) p).types span;
  }
  emit none p at = record { body = []; exit = fail_; more = [] }
  emit (bind ty g k) p at =
      let b = first_grows (lone_of g) k in
      bind_piece (lone_of g) b p ty at (emit g (before p ty at) (at + 1))
      (emit k (bound_as b (built_first (lone_of g) p) ty) (at + before_rest (lone_of g) (size g)))
  emit (both l r) p at =
      let pr = emit r p (at + 1) in
      let pl = emit l (wider p (of_type unit)) (at + 1 + size r) in
      record {
        body = spawn at (all_of p) false ∷ pl.body;
        exit = pl.exit;
        more = entry_of p.types pr ∷ (pr.more ++ pl.more);
      }
  emit (attempt ty l k r) p at =
      let h = held (lone_of l) p in
      let i = at + before_right (lone_of l) in
      choice_piece (lone_of l) p ty at (emit r p i) (emit k (bound h ty) (i + size r))
      (emit l (before h ty (at + 1)) (i + size r + size k))
  emit (call f xs) p at = record {
    body = [];
    exit = call_to f (renumber xs p.variables) p.out.block p.out.keep p.opened;
    more = [];
  }
  emit (case_ x as_ other) p at =
      let i = slice_index p.variables x in
      let to = at + 1 + size other in
      case_piece (few as_) i as_ p at to (emit other (answered (few as_) p) (at + 1)) (emit_chain as_ i p at to)
      (emit_cases as_ i (answered false p) at to)
  emit (loop tys xs g) p at =
      let pg = emit g (turning p tys xs at) (at + 1) in
      record {
        body = [];
        exit = jump at (all_of p ++ renumber xs p.variables);
        more = entry_of (state_types p tys xs) pg ∷ pg.more;
      }
  emit (again xs) p at =
      record { body = []; exit = jump p.top.block (p.top.keep ++ renumber xs p.variables); more = [] }
  emit (inside d g) p at = emit g (opened_in p d) at

  -- the blocks of a table's alternatives: each begins with its content, and never goes on at the other form
  pub emit_cases : Alternatives → ℕ → Place → ℕ → ℕ → List Block
  emit_cases none_left x p other at = []
  emit_cases (when q ty g as_) x p other at =
      let pg = emit g (bound p ty) (at + 1) in
      record { params = p.types; body = content x q ty other ∷ pg.body; exit = pg.exit }
      ∷ (pg.more ++ emit_cases as_ x p other (at + 1 + size g))

  -- one alternative after the other: where the value has another pattern the next one begins, and after the last the
  -- other form
  pub emit_chain : Alternatives → ℕ → Place → ℕ → ℕ → Piece
  emit_chain none_left x p other at = record { body = []; exit = fail_; more = [] }
  emit_chain (when q ty g as_) x p other at =
      let pg = emit g (bound p ty) at in
      let pr = emit_chain as_ x p other (at + size g + 1) in
      record {
        body = content x q ty (if_left as_ (at + size g) other) ∷ pg.body;
        exit = pg.exit;
        more = pg.more ++ if_left as_ (entry_of p.types pr ∷ pr.more) [];
      }
