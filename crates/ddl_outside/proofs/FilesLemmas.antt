-- Facts of files over time, and of bytes that stand in a file.
use Rattle.std.proofs.Common.{◌≡◌, ℕ, ◌+◌, ◌≤◌, List, [], ◌++◌, length, take, drop, refl, ap, sym, ◌∙◌, arith, length-append}
use Rattle.std.specs.Prelude.{Some, None, Option, option_map, replicate, unwrap_or, ◌-◌}
use Rattle.std.proofs.lemmas.Option.{same_Some}
use Rattle.std.proofs.lemmas.List.{length-take-le, take-append-le, length-replicate}
use Rattle.std.proofs.Math.Seq.{take-add, take-append-add, take-append_seam, take-length, drop-drop}
use borrow.Rule.Slice.PartMut.{put_mid, post_of}
use Rattle.ddl_outside.specs.Files.{FilesState, Contents, Later, TouchesOnly, HasAt, Holds, HasLength, IsFile, IsAbsent, IsFailed, IsPiece}
use Rattle.ddl_outside.specs.declared.files.Piece.{Piece}
use Rattle.ddl_outside.specs.declared.files.Piece.TheVariants as piece_of

pub Later-trans : (a b c : FilesState) → Later a b → Later b c → Later a c
Later-trans a b c p q = record {
  held = q.held ∙ p.held;
  told = λ name n h. q.told name n (p.told name n h);
  reach = λ name. omega (arith, p.reach name, q.reach name);
  may_fail = q.may_fail ∙ p.may_fail;
  calm = λ h. q.calm (p.may_fail ∙ h) ∙ p.calm h;
  faults = omega (arith, p.faults, q.faults);
  misses = omega (arith, p.misses, q.misses);
}

pub TouchesOnly-trans : (name : List ℕ) (a b c : FilesState) → TouchesOnly name a b → TouchesOnly name b c → TouchesOnly name a c
TouchesOnly-trans name a b c p q = record {
  told = λ other h. q.told other h ∙ p.told other h;
  reach = λ other h. q.reach other h ∙ p.reach other h;
}

-- a file was not there, or a call failed, since a later moment, and so since an earlier one
pub IsAbsent-earlier : (a b c : FilesState) (name : List ℕ) → Later a b → IsAbsent b c name → IsAbsent a c name
IsAbsent-earlier a b c name later h = (let r = h.0 in let m = later.misses in omega arith, h.1)

pub IsFailed-earlier : (a b c : FilesState) → Later a b → IsFailed b c → IsFailed a c
IsFailed-earlier a b c later h = (let r = h.0 in let f = later.faults in omega arith, sym later.may_fail ∙ h.1)

-- two pieces of a list that stand side by side are one
pub take-take_drop : (at : ℕ) (xs ys zs : List ℕ) → xs ≡ take (length xs) (drop at zs) → ys ≡ take (length ys) (drop (at + length xs) zs)
    → xs ++ ys ≡ take (length (xs ++ ys)) (drop at zs)
take-take_drop at xs ys zs p q =
    let tail : drop (at + length xs) zs ≡ drop (length xs) (drop at zs) = sym (drop-drop (length xs) at zs) in
    rw length-append (rw take-add (ap (λ (l : List ℕ). l ++ ys) p ∙ ap (λ (l : List ℕ). take (length xs) (drop at zs) ++ l) (q ∙ ap (take (length ys)) tail)))

-- the first bytes of a buffer, one part of which was written: those before the part, and the first of the part
pub take-put_mid_part : (a k n : ℕ) (xs ys : List ℕ) → a ≤ length xs → n ≤ length ys → take (a + n) (put_mid a k xs ys) ≡ take a xs ++ take n ys
take-put_mid_part a k n xs ys h g =
    let e : length (take a xs) ≡ a = length-take-le a xs h in
    let whole : take (length (take a xs) + n) (take a xs ++ (ys ++ post_of a k xs)) ≡ take a xs ++ take n (ys ++ post_of a k xs) =
    take-append-add (take a xs) (ys ++ post_of a k xs) n in
    ap (λ (m : ℕ). take (m + n) (take a xs ++ (ys ++ post_of a k xs))) (sym e)
    ∙ (whole ∙ ap (λ (l : List ℕ). take a xs ++ l) (take-append-le n ys (post_of a k xs) g))

pub HasAt-append : (held : Option Contents) (name : List ℕ) (at : ℕ) (xs ys : List ℕ) → HasAt held name at xs → HasAt held name (at + length xs) ys
    → HasAt held name at (xs ++ ys)
HasAt-append None name at xs ys p q = tt
HasAt-append (Some files) name at xs ys p q = take-take_drop at xs ys (unwrap_or (files name) []) p q

pub IsFile-later : (a b : FilesState) (name bytes : List ℕ) → Later a b → IsFile a name bytes → IsFile b name bytes
IsFile-later a b name bytes later file = (later.told name (length bytes) file.0, rw later.held file.1)

-- A file of which the first bytes are known: it has some bytes that begin with them.
pub file_begins : (files : FilesState) (name start : List ℕ) (n : ℕ) → files.told name ≡ Some n → HasLength files.held name n → HasAt files.held name 0 start
    → length start ≤ n
    → (bytes : List ℕ) × IsFile files name bytes × (start ≡ take (length start) bytes)
file_begins files name start n told has_length has_start within = by_held files.held has_length has_start where
  padded : List ℕ
  padded = start ++ replicate (n - length start) 0

  by_held : (held : Option Contents) → HasLength held name n → HasAt held name 0 start
      → (bytes : List ℕ) × ((files.told name ≡ Some (length bytes)) × Holds held name bytes) × (start ≡ take (length start) bytes)
  by_held None l s = (
    padded,
    (told ∙ ap Some (simp (length-append, length-replicate) (omega arith)), tt),
    sym (take-append_seam start (replicate (n - length start) 0)),
  )
  by_held (Some contents) l s = by_file (contents name) refl l s where
    by_file : (o : Option (List ℕ)) → contents name ≡ o → option_map length o ≡ Some n → start ≡ take (length start) (drop 0 (unwrap_or o []))
        → (bytes : List ℕ) × ((files.told name ≡ Some (length bytes)) × (contents name ≡ Some bytes)) × (start ≡ take (length start) bytes)
    by_file None e l s = absurd (cc)
    by_file (Some bytes) e l s = (bytes, (told ∙ sym l, e), s)

-- A file of which all bytes are known has these.
pub file_whole : (files : FilesState) (name bytes : List ℕ) → files.told name ≡ Some (length bytes) → HasLength files.held name (length bytes)
    → HasAt files.held name 0 bytes → IsFile files name bytes
file_whole files name bytes told has_length has_bytes =
    let found = file_begins files name bytes (length bytes) told has_length has_bytes (omega arith) in
    let content : List ℕ = found.0 in
    let same_length : length bytes ≡ length content = same_Some (length bytes) (length content) (sym told ∙ found.1.0) in
    let same : bytes ≡ content = found.2 ∙ (ap (λ (n : ℕ). take n content) same_length ∙ take-length content) in
    rw same found.1

-- an answer since a later moment is one since an earlier one
pub IsPiece-earlier : (a b c : FilesState) (name : List ℕ) (at : ℕ) (into : List ℕ) (piece : Piece) → Later a b → IsPiece b c name at into piece
    → IsPiece a c name at into piece
IsPiece-earlier a b c name at into (piece_of.Got n) later h = h
IsPiece-earlier a b c name at into piece_of.End later h = h
IsPiece-earlier a b c name at into piece_of.Absent later h = IsAbsent-earlier a b c name later h
IsPiece-earlier a b c name at into piece_of.Failed later h = IsFailed-earlier a b c later h

pub ruleset file_lemmas = (Later-trans, TouchesOnly-trans)
