-- The forms that the evaluator knows.
use Rattle.std.specs.Prelude.{◌≡◌, ℕ, ◌+◌, ◌<◌}
use Rattle.ddl_typed.specs.Tree.{Expr, Form, Items, Item, expr, text, local, pure, uint8, match, end, block, no_items, item, plain, let_, field, result_}

-- how many names there are after an item, where there were n before it
abbrev pub names_after : Item → ℕ → ℕ
names_after (plain e) n = n
names_after (let_ x e) n = n + 1
names_after (field name x e) n = n + 1
names_after (result_ e) n = n

-- a text
abbrev pub IsText : Expr → Type 0
IsText (expr (text bs) ty span) = Unit {0}
IsText (expr form ty span) = ⊥

-- a text, or one of the n names in scope
abbrev pub IsSimpleValue : Expr → ℕ → Type 0
IsSimpleValue (expr (text bs) ty span) n = Unit {0}
IsSimpleValue (expr (local x) ty span) n = x < n
IsSimpleValue (expr form ty span) n = ⊥

-- a form of blocks, matches of a text, bytes, ends and `^` of a simple value;
-- the n names in scope have the numbers below n, and the next one that is bound has the number n
abbrev mutual
  pub IsSimple : Expr → ℕ → Type 0
  IsSimple (expr form ty span) n = IsSimpleForm form n

  pub IsSimpleForm : Form → ℕ → Type 0
  IsSimpleForm (pure e) n = IsSimpleValue e n
  IsSimpleForm uint8 n = Unit {0}
  IsSimpleForm (match e) n = IsText e
  IsSimpleForm end n = Unit {0}
  IsSimpleForm (block is) n = AreSimple is n
  IsSimpleForm form n = ⊥

  pub AreSimple : Items → ℕ → Type 0
  AreSimple no_items n = Unit {0}
  AreSimple (item i is) n = IsSimpleItem i n × AreSimple is (names_after i n)

  pub IsSimpleItem : Item → ℕ → Type 0
  IsSimpleItem (plain e) n = IsSimple e n
  IsSimpleItem (let_ x e) n = (x ≡ n) × IsSimple e n
  IsSimpleItem (field name x e) n = (x ≡ n) × IsSimple e n
  IsSimpleItem (result_ e) n = IsSimple e n
