-- The value that a condition of the program stands for.
use Rattle.ddl_types.specs.declared.cond.Cond.{Cond}
use Rattle.ddl_types.specs.declared.cond.Cond.TheVariants.{Num, Word, Lit, Key, Lossless, Cut, Fit, Cat, Field, Tag, Loop}
use Rattle.ddl_types.specs.Conditions.{Condition, num, word, lit, key, lossless, cut, fit, cat, field, tag, loops}
use Rattle.ddl_types.specs.TyView.{ty_view}

abbrev pub cond_view : Cond → Condition
cond_view (Num t) = num (ty_view t)
cond_view (Word t) = word (ty_view t)
cond_view (Lit n t) = lit n (ty_view t)
cond_view (Key t) = key (ty_view t)
cond_view (Lossless s t) = lossless (ty_view s) (ty_view t)
cond_view (Cut s t) = cut (ty_view s) (ty_view t)
cond_view (Fit s t) = fit (ty_view s) (ty_view t)
cond_view (Cat a b r) = cat (ty_view a) (ty_view b) (ty_view r)
cond_view (Field t x r) = field (ty_view t) x (ty_view r)
cond_view (Tag t x r) = tag (ty_view t) x (ty_view r)
cond_view (Loop t k v) = loops (ty_view t) (ty_view k) (ty_view v)
