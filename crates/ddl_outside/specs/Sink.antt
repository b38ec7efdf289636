-- What contracts see of a sink, and what its call does.
use Rattle.std.specs.Prelude.{◌≡◌, ℕ, ◌+◌, ◌-◌, ◌≤◌, ◌<◌, List, [], ◌∷◌, ◌++◌, length, take, Option, option_map, IfSome}
use Rattle.std.specs.Io.KnownBytes.{append_known}
use Rattle.ddl_outside.specs.Counts.{Rose}
use Rattle.ddl_outside.specs.declared.sink.Offer.{Offer}
use Rattle.ddl_outside.specs.declared.sink.Took.{Took}
use Rattle.ddl_outside.specs.declared.sink.Took.TheVariants as took_of

pub record SinkState : Type 0 where
  -- the bytes so far, where that is told
  pub wrote : Option (List ℕ)
  -- each write that took bytes, as how many it took and how many more it was offered, where that is told
  pub offers : Option (List Offer)
  -- how many more are taken, where that is told: a write then fails exactly where none is
  pub room : Option ℕ
  -- how often a write failed
  pub faults : ℕ

-- These bytes were written: they stand behind what was, the room fell by their number, and no count fell.
pub record Writes (old new : SinkState) (bytes : List ℕ) : Type 0 where
  pub wrote : new.wrote ≡ append_known old.wrote bytes
  pub room : old.room ≡ option_map (λ n. n + length bytes) new.room
  pub faults : old.faults ≤ new.faults

-- a write failed: the faults rose, and where the room is told there is none
abbrev pub IsRefusedWrite : SinkState → SinkState → Type 0
IsRefusedWrite old new = Rose old.faults new.faults × IfSome new.room (λ n. n ≡ 0)

-- these writes took bytes, in this order
abbrev pub Offers : SinkState → SinkState → List Offer → Type 0
Offers old new os = new.offers ≡ option_map (λ before. before ++ os) old.offers

-- a write that took so many bytes, and was offered so many more
abbrev pub offer : ℕ → ℕ → Offer
offer n left = record { took = n; left = left }

-- what `write` answers for a piece
abbrev pub IsTook : SinkState → SinkState → List ℕ → Took → Type 0
IsTook old new piece (took_of.Took n) =
    (1 ≤ n) × (n ≤ length piece) × Writes old new (take n piece) × Offers old new (offer n (length piece - n) ∷ [])
IsTook old new piece took_of.Failed = Writes old new [] × IsRefusedWrite old new × (new.offers ≡ old.offers)

-- only a first part of these bytes was written, and then a write failed
abbrev pub WritesPart : SinkState → SinkState → List ℕ → Type 0
WritesPart old new bytes = (k : ℕ) × (k < length bytes) × Writes old new (take k bytes) × IsRefusedWrite old new

-- Of so many bytes the first of these writes was offered all, and each other all that the one before it left, until so many
-- were left.
abbrev pub OfferAll : ℕ → List Offer → ℕ → Type 0
OfferAll n [] left = n ≡ left
OfferAll n (o ∷ os) left = (1 ≤ o.took) × (o.took + o.left ≡ n) × OfferAll o.left os left

-- these writes were offered each line whole, and then what was left of it until nothing was
abbrev pub OfferLines : List (List ℕ) → List Offer → Type 0
OfferLines [] os = os ≡ []
OfferLines (line ∷ lines) os = (own rest : List Offer) × (os ≡ own ++ rest) × OfferAll (length line) own 0 × OfferLines lines rest

-- a piece of so many bytes was offered whole, and then what was left of it, until so many were left
abbrev pub OffersPiece : SinkState → SinkState → ℕ → ℕ → Type 0
OffersPiece old new n left = (os : List Offer) × Offers old new os × OfferAll n os left

-- each line was offered by one write, and then by further ones for its rest
abbrev pub OffersLines : SinkState → SinkState → List (List ℕ) → Type 0
OffersLines old new lines = (os : List Offer) × Offers old new os × OfferLines lines os

-- so were some lines, and of the one behind them a part was left
abbrev pub OffersSome : SinkState → SinkState → List (List ℕ) → Type 0
OffersSome old new lines =
    (whole rest : List (List ℕ)) × (line : List ℕ) × (lines ≡ whole ++ line ∷ rest)
    × (os own : List Offer) × Offers old new (os ++ own) × OfferLines whole os × (left : ℕ) × (0 < left) × OfferAll (length line) own left
