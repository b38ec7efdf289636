-- How many bytes a comment has.
use Rattle.std.specs.Prelude.{ℕ, zero, suc, ◌||◌, if◌then◌else◌, List, [], ◌∷◌, Option, Some, None}
use Rattle.ddl_lex.specs.Nesting.{opens, ends}

-- one byte more
abbrev pub one_more : Option ℕ → Option ℕ
one_more None = None
one_more (Some n) = Some (suc n)

-- The bytes to the end of a comment, inside as many further comments as depth says. The byte before
-- is 0 where it belongs to a `{-` or `-}` already.
abbrev pub comment : ℕ → ℕ → List ℕ → Option ℕ
comment depth before [] = None
comment zero before (b ∷ bs) =
    if ends before b then Some 1
    else one_more (comment (if opens before b then 1 else 0) (if opens before b then 0 else b) bs)
comment (suc depth) before (b ∷ bs) =
    one_more (comment
    (if opens before b then suc (suc depth) else (if ends before b then depth else suc depth))
    (if opens before b || ends before b then 0 else b) bs)
