-- Facts of what was written.
use Rattle.std.proofs.Common.{◌≡◌, ℕ, ◌+◌, ◌≤◌, ◌<◌, List, [], ◌∷◌, ◌++◌, length, take, drop, get_or, refl, ap, sym, ◌∙◌, arith, append_assoc, length-append}
use Rattle.std.specs.List.{concat}
use Rattle.std.proofs.lemmas.List.Folds.{concat-append}
use Rattle.std.specs.Prelude.{Some, None, Option, option_map}
use Rattle.std.specs.Io.KnownBytes.{append_known}
use Rattle.std.proofs.lemmas.List.{append-nil, take-append-le, take-append-drop, take_more, drop_more}
use Rattle.std.proofs.Math.Seq.{take-add, take-append-add}
use Rattle.ddl_outside.specs.Sink.{SinkState, Writes, WritesPart, IsRefusedWrite, Offers, offer, OfferAll, OfferLines, OffersPiece, OffersLines, OffersSome}
use Rattle.ddl_outside.specs.declared.sink.Offer.{Offer}

pub append_known-nil : (o : Option (List ℕ)) → append_known o [] ≡ o
append_known-nil None = refl
append_known-nil (Some xs) = ap Some (append-nil xs)

append_known-append : (o : Option (List ℕ)) (xs ys : List ℕ) → append_known (append_known o xs) ys ≡ append_known o (xs ++ ys)
append_known-append None xs ys = refl
append_known-append (Some zs) xs ys = ap Some (append_assoc zs xs ys)

pub room-nil : (o : Option ℕ) → o ≡ option_map (λ n. n + 0) o
room-nil None = refl
room-nil (Some n) = ap Some (omega arith)

room-append : (o : Option ℕ) (xs ys : List ℕ) → option_map (λ n. n + length xs) (option_map (λ n. n + length ys) o) ≡ option_map (λ n. n + length (xs ++ ys)) o
room-append None xs ys = refl
room-append (Some n) xs ys = ap Some (simp length-append (omega arith))

pub Writes-trans : (a b c : SinkState) (xs ys : List ℕ) → Writes a b xs → Writes b c ys → Writes a c (xs ++ ys)
Writes-trans a b c xs ys p q = record {
  wrote = q.wrote ∙ (ap (λ o. append_known o ys) p.wrote ∙ append_known-append a.wrote xs ys);
  room = p.room ∙ (ap (option_map (λ n. n + length xs)) q.room ∙ room-append c.room xs ys);
  faults = omega (arith, p.faults, q.faults);
}

-- a further part of a piece
pub Writes-more : (a b c : SinkState) (n m : ℕ) (piece : List ℕ) → Writes a b (take n piece) → Writes b c (take m (drop n piece))
    → Writes a c (take (n + m) piece)
Writes-more a b c n m piece p q = rw take-add (Writes-trans a b c _ _ p q)

-- a write failed since a later moment, and so since an earlier one
IsRefusedWrite-earlier : (a b c : SinkState) (xs : List ℕ) → Writes a b xs → IsRefusedWrite b c → IsRefusedWrite a c
IsRefusedWrite-earlier a b c xs p r = (let f = p.faults in let g = r.0 in omega arith, r.1)

-- a write failed once some first bytes of a piece were written, and not all
pub Writes-failed : (a b c : SinkState) (n : ℕ) (piece : List ℕ) → n < length piece → Writes a b (take n piece) → Writes b c [] → IsRefusedWrite b c
    → WritesPart a c piece
Writes-failed a b c n piece within p q r =
    (n, within, rw (append-nil (take n piece)) at (Writes-trans a b c (take n piece) [] p q), IsRefusedWrite-earlier a b c (take n piece) p r)

-- a first part of a whole of which the bytes before were written
pub WritesPart-more : (a b c : SinkState) (done x rest whole : List ℕ) → whole ≡ done ++ (x ++ rest) → Writes a b done → WritesPart b c x → WritesPart a c whole
WritesPart-more a b c done x rest whole e before part =
    let within : part.0 < length x = part.1 in
    let taken : take (length done + part.0) whole ≡ done ++ take part.0 x =
    ap (take (length done + part.0)) e ∙ (take-append-add done (x ++ rest) part.0 ∙ ap (λ (l : List ℕ). done ++ l) (take-append-le part.0 x rest (omega arith)))
    in (
      length done + part.0,
      rw e (simp length-append (omega arith)),
      rw taken (Writes-trans a b c done (take part.0 x) before part.2),
      IsRefusedWrite-earlier a b c done before part.3,
    )

-- the lines up to one, that line, and those after it
pub concat_at : (lines : List (List ℕ)) (i : ℕ) (x : List ℕ) → i < length lines → x ≡ get_or lines i x
    → concat lines ≡ concat (take i lines) ++ (x ++ concat (drop (i + 1) lines))
concat_at lines i x within is =
    ap concat (sym (take-append-drop i lines)) ∙ (concat-append (take i lines) (drop i lines)
    ∙ ap (λ (l : List (List ℕ)). concat (take i lines) ++ concat l) (drop_more lines i x within ∙ ap (λ (y : List ℕ). y ∷ drop (i + 1) lines) (sym is)))

pub concat_more : (lines : List (List ℕ)) (i : ℕ) (x : List ℕ) → i < length lines → x ≡ get_or lines i x
    → concat (take (i + 1) lines) ≡ concat (take i lines) ++ x
concat_more lines i x within is =
    ap concat (take_more lines i x within) ∙ (concat-append (take i lines) (get_or lines i x ∷ [])
    ∙ ap (λ (l : List ℕ). concat (take i lines) ++ l) (append-nil (get_or lines i x) ∙ sym is))

-- ---- what writes were offered

pub offers-nil : (o : Option (List Offer)) → o ≡ option_map (λ os. os ++ []) o
offers-nil None = refl
offers-nil (Some os) = ap Some (sym (append-nil os))

offers-append : (o : Option (List Offer)) (xs ys : List Offer)
    → option_map (λ os. os ++ ys) (option_map (λ os. os ++ xs) o) ≡ option_map (λ os. os ++ (xs ++ ys)) o
offers-append None xs ys = refl
offers-append (Some os) xs ys = ap Some (append_assoc os xs ys)

Offers-trans : (a b c : SinkState) (xs ys : List Offer) → Offers a b xs → Offers b c ys → Offers a c (xs ++ ys)
Offers-trans a b c xs ys p q = q ∙ (ap (option_map (λ (os : List Offer). os ++ ys)) p ∙ offers-append a.offers xs ys)

-- one more write, of what was left
OfferAll-more : (n : ℕ) (os : List Offer) (took left : ℕ) → 1 ≤ took → OfferAll n os (took + left) → OfferAll n (os ++ offer took left ∷ []) left
OfferAll-more n [] took left some h = (some, sym h, refl)
OfferAll-more n (o ∷ os) took left some h = (h.0, h.1, OfferAll-more o.left os took left some h.2)

-- one more line
OfferLines-more : (lines : List (List ℕ)) (line : List ℕ) (os own : List Offer) → OfferLines lines os → OfferAll (length line) own 0
    → OfferLines (lines ++ line ∷ []) (os ++ own)
OfferLines-more [] line os own h k = (own, [], ap (λ (l : List Offer). l ++ own) h ∙ sym (append-nil own), k, refl)
OfferLines-more (first ∷ lines) line os own h k = (
  h.0,
  h.1 ++ own,
  ap (λ (l : List Offer). l ++ own) h.2 ∙ append_assoc h.0 h.1 own,
  h.3,
  OfferLines-more lines line h.1 own h.4 k,
)

-- of a piece nothing was offered so far
pub OffersPiece-none : (a : SinkState) (n : ℕ) → OffersPiece a a n n
OffersPiece-none a n = ([], offers-nil a.offers, refl)

pub OffersPiece-more : (a b c : SinkState) (n took left : ℕ) → 1 ≤ took → OffersPiece a b n (took + left) → Offers b c (offer took left ∷ [])
    → OffersPiece a c n left
OffersPiece-more a b c n took left some h k =
    (h.0 ++ offer took left ∷ [], Offers-trans a b c h.0 (offer took left ∷ []) h.1 k, OfferAll-more n h.0 took left some h.2)

-- a write that took nothing
pub OffersPiece-same : (a b c : SinkState) (n left : ℕ) → OffersPiece a b n left → c.offers ≡ b.offers → OffersPiece a c n left
OffersPiece-same a b c n left h same = (h.0, same ∙ h.1, h.2)

pub OffersLines-none : (a : SinkState) → OffersLines a a []
OffersLines-none a = ([], offers-nil a.offers, refl)

pub OffersLines-more : (a b c : SinkState) (lines : List (List ℕ)) (line : List ℕ) → OffersLines a b lines → OffersPiece b c (length line) 0
    → OffersLines a c (lines ++ line ∷ [])
OffersLines-more a b c lines line h k =
    (h.0 ++ k.0, Offers-trans a b c h.0 k.0 h.1 k.1, OfferLines-more lines line h.0 k.0 h.2 k.2)

-- the lines up to one are those before it, and it
pub take_at : (lines : List (List ℕ)) (i : ℕ) (x : List ℕ) → i < length lines → x ≡ get_or lines i x → take (i + 1) lines ≡ take i lines ++ x ∷ []
take_at lines i x within is = take_more lines i x within ∙ ap (λ (y : List ℕ). take i lines ++ y ∷ []) (sym is)

lines_at : (lines : List (List ℕ)) (i : ℕ) (x : List ℕ) → i < length lines → x ≡ get_or lines i x → lines ≡ take i lines ++ x ∷ drop (i + 1) lines
lines_at lines i x within is =
    sym (take-append-drop i lines) ∙ ap (λ (l : List (List ℕ)). take i lines ++ l)
    (drop_more lines i x within ∙ ap (λ (y : List ℕ). y ∷ drop (i + 1) lines) (sym is))

-- a line of which a part was left, behind those before it
pub OffersSome-at : (a b c : SinkState) (lines : List (List ℕ)) (i : ℕ) (x : List ℕ) → i < length lines → x ≡ get_or lines i x
    → OffersLines a b (take i lines) → (left : ℕ) × (0 < left) × OffersPiece b c (length x) left → OffersSome a c lines
OffersSome-at a b c lines i x within is h k = (
  take i lines,
  drop (i + 1) lines,
  x,
  lines_at lines i x within is,
  h.0,
  k.2.0,
  Offers-trans a b c h.0 k.2.0 h.1 k.2.1,
  h.2,
  k.0,
  k.1,
  k.2.2,
)

pub ruleset sink_lemmas = (append_known-nil, room-nil)
