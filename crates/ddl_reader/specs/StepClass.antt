-- One token of a class.
use Rattle.std.specs.Prelude.{ℕ, ◌+◌, max, List, ◌∷◌, Option, Some, None}
use Rattle.ddl_base.specs.declared.span.Span.{Span}
use Rattle.ddl_token.specs.declared.token.Tok.{Tok}
use Rattle.ddl_token.specs.declared.token.Tok.TheVariants as k
use Rattle.ddl_token.specs.declared.mark.Mark.TheVariants as m
use Rattle.ddl_tree.specs.declared.name.ByteLit.{ByteLit}
use Rattle.ddl_tree.specs.declared.name.ByteLit.TheVariants.{Code, Quoted}
use Rattle.ddl_tree.specs.ClassTree.{byte_span, class_span}
use Rattle.ddl_tree.specs.ClassTree as cls
use Rattle.ddl_reader.specs.Frames.{Frame, Focus, State, FoundClass}
use Rattle.ddl_reader.specs.Frames as frame
use Rattle.ddl_reader.specs.StepType.{joined, number_at}

abbrev pub found_class : cls.Cls → ℕ → FoundClass
found_class c n = record { class = c; deep = n }

-- a whole factor of a class ends a complement
abbrev pub class_done : List Frame → cls.Cls → ℕ → State
class_done (frame.in_other s ∷ fs) c n = class_done fs (cls.Other c (joined s (class_span c))) (1 + n)
class_done (frame.in_union a ∷ fs) c n = (
  fs,
  frame.have_class
      (found_class (cls.Union a.class c (joined (class_span a.class) (class_span c))) (1 + max a.deep n)),
)
class_done fs c n = (fs, frame.have_class (found_class c n))

-- the first token of a class
abbrev pub begin_class : Tok → Span → List Frame → Option State
begin_class (k.Number v b d) s fs = Some (fs, frame.have_byte (Code (number_at v b d s)))
begin_class (k.Char b) s fs = Some (fs, frame.have_byte (Quoted b s))
begin_class (k.Class x) s fs = Some (class_done fs (cls.Known (record { text = x; span = s })) 1)
begin_class (k.Mark m.Bang) s fs = Some (frame.in_other s ∷ fs, frame.want_class)
begin_class (k.Mark m.OpenParen) s fs = Some (frame.in_grouped s ∷ fs, frame.want_class)
begin_class (k.Mark m.DollarBracket) s fs = Some (frame.in_class_set s ∷ fs, frame.want_class)
begin_class _ s fs = None

-- the last byte of a range
abbrev pub last_byte : Tok → Span → ByteLit → List Frame → Option State
last_byte (k.Number v b d) s a fs = Some (class_done fs (cls.Range a (Code (number_at v b d s)) (joined (byte_span a) s)) 1)
last_byte (k.Char b) s a fs = Some (class_done fs (cls.Range a (Quoted b s) (joined (byte_span a) s)) 1)
last_byte _ s a fs = None

abbrev pub after_grouped : Tok → Span → Span → FoundClass → List Frame → Option State
after_grouped (k.Mark m.CloseParen) s from c fs = Some (class_done fs (cls.Grouped c.class (joined from s)) (1 + c.deep))
after_grouped (k.Mark m.Bar) s from c fs = Some (frame.in_union c ∷ frame.in_grouped from ∷ fs, frame.want_class)
after_grouped _ s from c fs = None

abbrev pub after_class_set : Tok → Span → Span → FoundClass → List Frame → Option State
after_class_set (k.Mark m.CloseBracket) s from c fs = Some (class_done fs (cls.Set c.class (joined from s)) (1 + c.deep))
after_class_set (k.Mark m.Bar) s from c fs = Some (frame.in_union c ∷ frame.in_class_set from ∷ fs, frame.want_class)
after_class_set _ s from c fs = None
