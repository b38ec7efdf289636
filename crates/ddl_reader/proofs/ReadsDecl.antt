-- The machine reads each declaration of the grammar.
use Rattle.std.proofs.Common.{◌≡◌, ◌≢◌, ℕ, max, List, [], ◌∷◌, ◌++◌, Option, Some, None, refl, ap, ◌∙◌, arith, append_assoc}
use Rattle.ddl_base.specs.declared.span.Span.{Span}
use Rattle.ddl_token.specs.declared.token.Tok.{Tok}
use Rattle.ddl_token.specs.declared.token.Tok.TheVariants as k
use Rattle.ddl_token.specs.declared.token.Base.{Base}
use Rattle.ddl_token.specs.declared.token.Base.TheVariants.{Decimal, Hexadecimal, Binary}
use Rattle.ddl_token.specs.declared.word.Word.TheVariants as w
use Rattle.ddl_token.specs.declared.mark.Mark.TheVariants as m
use Rattle.ddl_tree.specs.declared.name.Name.{Name}
use Rattle.ddl_tree.specs.TypeTree as ty
use Rattle.ddl_tree.specs.TypeTree.{type_span}
use Rattle.ddl_tree.specs.ExprTree as ex
use Rattle.ddl_tree.specs.ExprTree.{expr_span}
use Rattle.ddl_tree.specs.ModuleTree as mo
use Rattle.ddl_tree.specs.ModuleTree.{bits_span}
use Rattle.ddl_tree.specs.Print.{print, print_typed}
use Rattle.ddl_tree.specs.PrintModule.{print_param, print_params, print_part, print_more_parts, print_bits, print_con, print_cons, print_more_cons, print_decl}
use Rattle.ddl_tree.specs.Grammar.{IsExpr}
use Rattle.ddl_tree.specs.GrammarModule.{IsPart, AreParts, IsBits, AreCons, IsDecl}
use Rattle.ddl_tree.specs.Depth.{depth, type_depth, typed_depth, class_depth, param_depth, params_depth, part_depth, parts_depth, bits_depth, cons_depth}
use Rattle.ddl_tree.specs.Depth.{decl_depth}
use Rattle.ddl_tree.specs.Spans.{Places, next, after, between, place, place_name, place_type, place_typed, place_class}
use Rattle.ddl_tree.specs.SpansModule.{place_param, place_params, place_part, place_more_parts, place_bits, place_con, place_cons, place_more_cons, place_decl}
use Rattle.ddl_reader.specs.Frames.{Frame, State, Found, FoundType, FoundClass, Head, Sort, Layout, Parted, PartStart}
use Rattle.ddl_reader.specs.Frames as frame
use Rattle.ddl_reader.specs.StepType.{joined, found, found_type}
use Rattle.ddl_reader.specs.StepClass.{found_class}
use Rattle.ddl_reader.specs.StepDecl.{with_decl, declared, head_of, with_param, decl_of, close_body, close_class_body, bits_done, bit_pattern, parted}
use Rattle.ddl_reader.specs.StepDecl.{with_part, part_of}
use Rattle.ddl_reader.specs.Step.{run}
use Rattle.ddl_reader.proofs.Tokens.{seen, go}
use Rattle.ddl_reader.proofs.Types.{reads_type, type_span_placed}
use Rattle.ddl_reader.proofs.Classes.{NoDots, reads_class, class_span_placed}
use Rattle.ddl_reader.proofs.Levels.{first_binds, limit_above, level_some, expr_span_placed}
use Rattle.ddl_reader.proofs.ReadsLists.{max_none, max_more, zero_max}
use Rattle.ddl_reader.proofs.ReadsExpr.{completes}

-- what may follow a declaration
abbrev pub StartsDecl : List Tok → Type 0
StartsDecl [] = Unit {0}
StartsDecl (k.Word w.Def ∷ xs) = Unit {0}
StartsDecl (k.Word w.Bitdata ∷ xs) = Unit {0}
StartsDecl _ = ⊥

no_binds : (r : List Tok) → StartsDecl r → first_binds r ≡ 0
no_binds [] h = refl
no_binds (k.Word w.Def ∷ xs) h = refl
no_binds (k.Word w.Bitdata ∷ xs) h = refl
no_binds _ h = absurd h

no_dots : (r : List Tok) → StartsDecl r → NoDots r
no_dots [] h = tt
no_dots (k.Word w.Def ∷ xs) h = tt
no_dots (k.Word w.Bitdata ∷ xs) h = tt
no_dots _ h = absurd h

-- what follows ends the body
body_ends : (r : List Tok) → StartsDecl r → (p : Places) (h : Head) (t : Option ty.TypeExpr) (n : ℕ) (a : Found) (fs : List Frame)
    → run (seen r p) (frame.in_body h t n ∷ fs, frame.have a) ≡ run (seen r p) (close_body h t n a fs, frame.at_decl)
body_ends [] i p h t n a fs = refl
body_ends (k.Word w.Def ∷ xs) i p h t n a fs = refl
body_ends (k.Word w.Bitdata ∷ xs) i p h t n a fs = refl
body_ends _ i p h t n a fs = absurd i

class_body_ends : (r : List Tok) → StartsDecl r → (p : Places) (s : Span) (x : Name) (c : FoundClass) (fs : List Frame)
    → run (seen r p) (frame.in_class_body s x ∷ fs, frame.have_class c) ≡ run (seen r p) (close_class_body s x c fs, frame.at_decl)
class_body_ends [] i p s x c fs = refl
class_body_ends (k.Word w.Def ∷ xs) i p s x c fs = refl
class_body_ends (k.Word w.Bitdata ∷ xs) i p s x c fs = refl
class_body_ends _ i p s x c fs = absurd i

-- ---- parameters

abbrev with_params : Head → List mo.Param → ℕ → Head
with_params h ps n = record { from = h.from; sort = h.sort; name = h.name; params = h.params ++ ps; deep = max h.deep n }

reads_param : (a : mo.Param) (h : Head) (fs : List Frame) (r : List Tok) (p : Places)
    → run (seen (print_param a r) p) (fs, frame.want_param h)
    ≡ run (seen r (place_param a p).1) (fs, frame.want_param (with_param h (place_param a p).0 (param_depth a)))
reads_param (mo.Upper x) h fs r p = refl
reads_param (mo.Lower x) h fs r p = refl
reads_param (mo.Class x) h fs r p = refl
reads_param (mo.TypedUpper x t s) h fs r p = reads_type t (frame.in_param h (next p) frame.of_grammar (place_name x (after p)) ∷ fs) (k.Mark m.CloseParen ∷ r)
    (after (after (after p)))
reads_param (mo.TypedLower x t s) h fs r p = reads_type t (frame.in_param h (next p) frame.of_value (place_name x (after p)) ∷ fs) (k.Mark m.CloseParen ∷ r)
    (after (after (after p)))

pub append_none : {A : Type 0} (xs : List A) → xs ≡ xs ++ []
append_none [] = refl
append_none (x ∷ xs) = ap (λ ys. x ∷ ys) (append_none xs)

reads_params : (ps : List mo.Param) (h : Head) (fs : List Frame) (r : List Tok) (p : Places)
    → run (seen (print_params ps r) p) (fs, frame.want_param h)
    ≡ run (seen r (place_params ps p).1) (fs, frame.want_param (with_params h (place_params ps p).0 (params_depth ps)))
reads_params [] h fs r p =
    ap (λ ps. run (seen r p) (fs, frame.want_param (record { from = h.from; sort = h.sort; name = h.name; params = ps; deep = h.deep }))) (append_none h.params)
    ∙ ap (λ n. run (seen r p) (fs, frame.want_param (record { from = h.from; sort = h.sort; name = h.name; params = h.params ++ []; deep = n })))
    (max_none h.deep)
reads_params (a ∷ ps) h fs r p =
    let x = place_param a p in
    let y = place_params ps x.1 in
    reads_param a h fs (print_params ps r) p
    ∙ reads_params ps (with_param h x.0 (param_depth a)) fs r x.1
    ∙ ap (λ ps'. run (seen r y.1) (
      fs,
      frame.want_param (record {
        from = h.from;
        sort = h.sort;
        name = h.name;
        params = ps';
        deep =
            max (max h.deep (param_depth a)) (params_depth ps);
      }),
    )) (append_assoc h.params (x.0 ∷ []) y.0)
    ∙ ap (λ n. run (seen r y.1) (fs, frame.want_param (record { from = h.from; sort = h.sort; name = h.name; params = h.params ++ x.0 ∷ y.0; deep = n })))
    (max_more h.deep (param_depth a) (params_depth ps))

-- the result's type, where it is written
reads_typed : (t : Option ty.TypeExpr) (h : Head) (fs : List Frame) (r : List Tok) (p : Places)
    → run (seen (print_typed t (k.Mark m.Equals ∷ r)) p) (fs, frame.want_param h)
    ≡ run (seen r (after (place_typed t p).1)) (frame.in_body h (place_typed t p).0 (typed_depth t) ∷ fs, frame.want)
reads_typed None h fs r p = refl
reads_typed (Some t) h fs r p = reads_type t (frame.in_result h ∷ fs) (k.Mark m.Equals ∷ r) (after p)

-- parameters, type and body, after the name
reads_def : (o : Sort) (x : Name) (f : Span) (ps : List mo.Param) (t : Option ty.TypeExpr) (e : ex.Expr) → IsExpr e
    → (fs : List Frame) (r : List Tok) (p : Places) → StartsDecl r
    → let y = place_params ps p in let z = place_typed t y.1 in let b = place e (after z.1) in
    run (seen (print_params ps (print_typed t (k.Mark m.Equals ∷ print e r))) p) (fs, frame.want_param (head_of f o x))
    ≡ run (seen r b.1) (
      with_decl (decl_of o x y.0 z.0 (found b.0 (depth e)) (joined f (expr_span b.0))) (max (params_depth ps) (max (typed_depth t) (depth e)))
          fs,
      frame.at_decl,
    )
reads_def o x f ps t e i fs r p starts =
    let y = place_params ps p in
    let z = place_typed t y.1 in
    let b = place e (after z.1) in
    let h = with_params (head_of f o x) y.0 (params_depth ps) in
    let some = level_some e in
    let above = limit_above e in
    let small = no_binds r starts in
    reads_params ps (head_of f o x) fs (print_typed t (k.Mark m.Equals ∷ print e r)) p
    ∙ reads_typed t h fs (print e r) y.1
    ∙ completes e i (frame.in_body h z.0 (typed_depth t) ∷ fs) r (after z.1) (omega arith) (omega arith)
    ∙ body_ends r starts b.1 h z.0 (typed_depth t) (found b.0 (depth e)) fs
    ∙ ap (λ n. run (seen r b.1) (with_decl (decl_of o x y.0 z.0 (found b.0 (depth e)) (joined f (expr_span b.0))) n fs, frame.at_decl))
    (zero_max (params_depth ps) (max (typed_depth t) (depth e)))

-- ---- layouts

bit_fits : (b : Base) (z : Option State) → b ≢ Decimal → bit_pattern b z ≡ z
bit_fits Decimal z h = absurd (h refl)
bit_fits Hexadecimal z h = refl
bit_fits Binary z h = refl

-- what follows a type ends a part
part_ends : (r : List Tok) (p : Places) (d : Parted) (o : PartStart) (t : FoundType) (fs : List Frame)
    → run (seen r p) (frame.in_part d o ∷ fs, frame.have_type t) ≡ run (seen r p) (fs, frame.after_part (with_part d (part_of o t.type) t.deep))
part_ends [] p d o t fs = refl
part_ends (x ∷ xs) p d o t fs = refl

reads_part : (a : mo.Part) → IsPart a → (d : Parted) (fs : List Frame) (r : List Tok) (p : Places)
    → run (seen (print_part a r) p) (fs, frame.want_part d)
    ≡ run (seen r (place_part a p).1) (fs, frame.after_part (with_part d (place_part a p).0 (part_depth a)))
reads_part (mo.Fixed n) i d fs r p = go (k.Number n.value n.base n.digits) r p (fs, frame.want_part d) (
  fs,
  frame.after_part (with_part d (place_part (mo.Fixed n) p).0 0),
)
    (bit_fits n.base (Some (fs, frame.after_part (with_part d (place_part (mo.Fixed n) p).0 0))) i)
reads_part (mo.Named x t s) i d fs r p =
    let q = after (after p) in
    let y = place_type t q in
    reads_type t (frame.in_part d (frame.named (place_name x p)) ∷ fs) r q
    ∙ part_ends r y.1 d (frame.named (place_name x p)) (found_type y.0 (type_depth t)) fs
    ∙ ap (λ s. run (seen r y.1) (fs, frame.after_part (with_part d (mo.Named (place_name x p) y.0 (joined (next p) s)) (type_depth t)))) (type_span_placed t q)
reads_part (mo.Unnamed t s) i d fs r p =
    let q = after (after p) in
    let y = place_type t q in
    reads_type t (frame.in_part d (frame.unnamed (next p)) ∷ fs) r q
    ∙ part_ends r y.1 d (frame.unnamed (next p)) (found_type y.0 (type_depth t)) fs
    ∙ ap (λ s. run (seen r y.1) (fs, frame.after_part (with_part d (mo.Unnamed y.0 (joined (next p) s)) (type_depth t)))) (type_span_placed t q)

rest_of_parts : (ps : List mo.Part) → AreParts ps → (d : Parted) (fs : List Frame) (r : List Tok) (p : Places)
    → let y = place_more_parts ps p in
    run (seen (print_more_parts ps (k.Mark m.CloseBrace ∷ r)) p) (fs, frame.after_part d)
    ≡ run (seen r (after y.1)) (bits_done d.layout (mo.Parts (d.parts ++ y.0) (joined d.from (next y.1))) (max d.deep (parts_depth ps)) fs)
rest_of_parts [] i d fs r p =
    ap (λ ps. run (seen r (after p)) (bits_done d.layout (mo.Parts ps (joined d.from (next p))) d.deep fs)) (append_none d.parts)
    ∙ ap (λ n. run (seen r (after p)) (bits_done d.layout (mo.Parts (d.parts ++ []) (joined d.from (next p))) n fs)) (max_none d.deep)
rest_of_parts (a ∷ ps) i d fs r p =
    let x = place_part a (after p) in
    let y = place_more_parts ps x.1 in
    reads_part a i.0 d fs (print_more_parts ps (k.Mark m.CloseBrace ∷ r)) (after p)
    ∙ rest_of_parts ps i.1 (with_part d x.0 (part_depth a)) fs r x.1
    ∙ ap (λ ps'. run (seen r (after y.1)) (bits_done d.layout (mo.Parts ps' (joined d.from (next y.1))) (max (max d.deep (part_depth a)) (parts_depth ps)) fs))
    (append_assoc d.parts (x.0 ∷ []) y.0)
    ∙ ap (λ n. run (seen r (after y.1)) (bits_done d.layout (mo.Parts (d.parts ++ x.0 ∷ y.0) (joined d.from (next y.1))) n fs))
    (max_more d.deep (part_depth a) (parts_depth ps))

reads_bits : (b : mo.Bits) → IsBits b → (l : Layout) (fs : List Frame) (r : List Tok) (p : Places)
    → run (seen (print_bits b r) p) (fs, frame.want_bits l) ≡ run (seen r (place_bits b p).1) (bits_done l (place_bits b p).0 (bits_depth b) fs)
reads_bits (mo.Exactly n) i l fs r p = go (k.Number n.value n.base n.digits) r p (fs, frame.want_bits l) (bits_done l (place_bits (mo.Exactly n) p).0 0 fs)
    (bit_fits n.base (Some (bits_done l (place_bits (mo.Exactly n) p).0 0 fs)) i)
reads_bits (mo.Parts [] s) i l fs r p = absurd (i.0 refl)
reads_bits (mo.Parts (a ∷ ps) s) i l fs r p =
    let x = place_part a (after p) in
    let y = place_more_parts ps x.1 in
    reads_part a i.1.0 (parted l (next p)) fs (print_more_parts ps (k.Mark m.CloseBrace ∷ r)) (after p)
    ∙ rest_of_parts ps i.1.1 (with_part (parted l (next p)) x.0 (part_depth a)) fs r x.1
    ∙ ap (λ n. run (seen r (after y.1)) (bits_done l (mo.Parts (x.0 ∷ y.0) (joined (next p) (next y.1))) n fs)) (zero_max (part_depth a) (parts_depth ps))

bits_span_placed : (b : mo.Bits) (p : Places) → bits_span (place_bits b p).0 ≡ between p (place_bits b p).1
bits_span_placed (mo.Exactly n) p = refl
bits_span_placed (mo.Parts ps s) p = refl

-- ---- constructors

abbrev con_at : Name → mo.Bits → Span → mo.Con
con_at x b s = record { name = x; bits = b; span = s }

reads_con : (c : mo.Con) → IsBits c.bits → (f : Span) (x : Name) (cs : List mo.Con) (n : ℕ) (fs : List Frame) (r : List Tok) (p : Places)
    → run (seen (print_con c r) p) (fs, frame.want_con f x cs n)
    ≡ run (seen r (place_con c p).1) (fs, frame.after_con f x (cs ++ (place_con c p).0 ∷ []) (max n (bits_depth c.bits)))
reads_con c i f x cs n fs r p =
    let y = place_name c.name p in
    let b = place_bits c.bits (after (after p)) in
    reads_bits c.bits i (frame.of_con f x cs y n) fs r (after (after p))
    ∙ ap (λ s. run (seen r b.1) (fs, frame.after_con f x (cs ++ con_at y b.0 (joined (next p) s) ∷ []) (max n (bits_depth c.bits))))
    (bits_span_placed c.bits (after (after p)))

rest_of_cons : (ds : List mo.Con) → AreCons ds → (f : Span) (x : Name) (cs : List mo.Con) (n : ℕ) (fs : List Frame) (r : List Tok) (p : Places)
    → let y = place_more_cons ds p in
    run (seen (print_more_cons ds (k.Mark m.CloseBrace ∷ r)) p) (fs, frame.after_con f x cs n)
    ≡ run (seen r (after y.1)) (declared (mo.BitsUnion x (cs ++ y.0) (joined f (next y.1))) (max n (cons_depth ds)) fs)
rest_of_cons [] i f x cs n fs r p =
    ap (λ ds. run (seen r (after p)) (declared (mo.BitsUnion x ds (joined f (next p))) n fs)) (append_none cs)
    ∙ ap (λ d. run (seen r (after p)) (declared (mo.BitsUnion x (cs ++ []) (joined f (next p))) d fs)) (max_none n)
rest_of_cons (c ∷ ds) i f x cs n fs r p =
    let z = place_con c (after p) in
    let y = place_more_cons ds z.1 in
    reads_con c i.0 f x cs n fs (print_more_cons ds (k.Mark m.CloseBrace ∷ r)) (after p)
    ∙ rest_of_cons ds i.1 f x (cs ++ z.0 ∷ []) (max n (bits_depth c.bits)) fs r z.1
    ∙ ap (λ ds'. run (seen r (after y.1)) (declared (mo.BitsUnion x ds' (joined f (next y.1))) (max (max n (bits_depth c.bits)) (cons_depth ds)) fs))
    (append_assoc cs (z.0 ∷ []) y.0)
    ∙ ap (λ d. run (seen r (after y.1)) (declared (mo.BitsUnion x (cs ++ z.0 ∷ y.0) (joined f (next y.1))) d fs))
    (max_more n (bits_depth c.bits) (cons_depth ds))

reads_cons : (ds : List mo.Con) → ds ≢ [] → AreCons ds → (f : Span) (x : Name) (fs : List Frame) (r : List Tok) (p : Places)
    → let y = place_cons ds p in
    run (seen (print_cons ds (k.Mark m.CloseBrace ∷ r)) p) (fs, frame.want_con f x [] 0)
    ≡ run (seen r (after y.1)) (declared (mo.BitsUnion x y.0 (joined f (next y.1))) (cons_depth ds) fs)
reads_cons [] some i f x fs r p = absurd (some refl)
reads_cons (c ∷ ds) some i f x fs r p =
    let z = place_con c p in
    let y = place_more_cons ds z.1 in
    reads_con c i.0 f x [] 0 fs (print_more_cons ds (k.Mark m.CloseBrace ∷ r)) p
    ∙ rest_of_cons ds i.1 f x (z.0 ∷ []) (max 0 (bits_depth c.bits)) fs r z.1
    ∙ ap (λ d. run (seen r (after y.1)) (declared (mo.BitsUnion x (z.0 ∷ y.0) (joined f (next y.1))) d fs)) (zero_max (bits_depth c.bits) (cons_depth ds))

-- ---- declarations

pub reads_decl : (d : mo.Decl) → IsDecl d → (fs : List Frame) (r : List Tok) (p : Places) → StartsDecl r
    → run (seen (print_decl d r) p) (fs, frame.at_decl) ≡ run (seen r (place_decl d p).1) (declared (place_decl d p).0 (decl_depth d) fs)
reads_decl (mo.Grammar x ps t e s) i fs r p starts =
    let q = after (after p) in
    let y = place_params ps q in
    let z = place_typed t y.1 in
    let b = place e (after z.1) in
    reads_def frame.of_grammar (place_name x (after p)) (next p) ps t e i fs r q starts
    ∙ ap (λ s. run (seen r b.1) (declared (mo.Grammar (place_name x (after p)) y.0 z.0 b.0 (joined (next p) s))
    (max (params_depth ps) (max (typed_depth t) (depth e))) fs)) (expr_span_placed e (after z.1))
reads_decl (mo.Value x ps t e s) i fs r p starts =
    let q = after (after p) in
    let y = place_params ps q in
    let z = place_typed t y.1 in
    let b = place e (after z.1) in
    reads_def frame.of_value (place_name x (after p)) (next p) ps t e i fs r q starts
    ∙ ap (λ s. run (seen r b.1) (declared (mo.Value (place_name x (after p)) y.0 z.0 b.0 (joined (next p) s))
    (max (params_depth ps) (max (typed_depth t) (depth e))) fs)) (expr_span_placed e (after z.1))
reads_decl (mo.ClassDef x c s) i fs r p starts =
    let q = after (after (after p)) in
    let y = place_class c q in
    reads_class c i (frame.in_class_body (next p) (place_name x (after p)) ∷ fs) r q tt (no_dots r starts)
    ∙ class_body_ends r starts y.1 (next p) (place_name x (after p)) (found_class y.0 (class_depth c)) fs
    ∙ ap (λ s. run (seen r y.1) (declared (mo.ClassDef (place_name x (after p)) y.0 (joined (next p) s)) (class_depth c) fs)) (class_span_placed c q)
reads_decl (mo.BitsDef x b s) i fs r p starts =
    let q = after (after (after p)) in
    let y = place_bits b q in
    reads_bits b i (frame.of_decl (next p) (place_name x (after p))) fs r q
    ∙ ap (λ s. run (seen r y.1) (declared (mo.BitsDef (place_name x (after p)) y.0 (joined (next p) s)) (bits_depth b) fs)) (bits_span_placed b q)
reads_decl (mo.BitsUnion x cs s) i fs r p starts = reads_cons cs i.0 i.1 (next p) (place_name x (after p)) fs r (after (after (after (after p))))
