-- The layout of blocks: which braces and semicolons are added before each token.
use Rattle.std.specs.Prelude.{ℕ, Bool, true, false, not, ◌&&◌, ◌==◌, nat_lt, if◌then◌else◌, List, [], ◌∷◌, ◌++◌, map, Option, Some, None}
use Rattle.ddl_token.specs.declared.word.Word.TheVariants.{Block, First, Choose, Of, Where}
use Rattle.ddl_token.specs.declared.mark.Mark.{Mark}
use Rattle.ddl_token.specs.declared.mark.Mark.TheVariants as m
use Rattle.ddl_token.specs.declared.token.Tok.{Tok}
use Rattle.ddl_token.specs.declared.token.Tok.TheVariants as t
use Rattle.ddl_token.specs.declared.token.Token.{Token}
use Rattle.ddl_lex.specs.declared.place.Place.{Place}
use Rattle.ddl_lex.specs.declared.stack.Open.{Open}
use Rattle.ddl_lex.specs.declared.stack.Open.TheVariants.{Items, Bracket}
use Rattle.ddl_lex.specs.declared.roles.Role.{Role}
use Rattle.ddl_lex.specs.declared.roles.Role.TheVariants.{Opens, Closes, Separates, Stands}
use Rattle.ddl_lex.specs.declared.roles.Last.{Last}

-- what a token does to the brackets
abbrev pub role : Tok → Role
role (t.Mark m.OpenParen) = Opens
role (t.Mark m.OpenBracket) = Opens
role (t.Mark m.OpenBrace) = Opens
role (t.Mark m.OpenUnion) = Opens
role (t.Mark m.DollarBracket) = Opens
role (t.Mark m.CloseParen) = Closes
role (t.Mark m.CloseBracket) = Closes
role (t.Mark m.CloseBrace) = Closes
role (t.Mark m.CloseUnion) = Closes
role (t.Mark m.Comma) = Separates
role _ = Stands

-- a list of items follows the word
abbrev pub begins_items : Tok → Bool
begins_items (t.Word Block) = true
begins_items (t.Word First) = true
begins_items (t.Word Choose) = true
begins_items (t.Word Of) = true
begins_items (t.Word Where) = true
begins_items _ = false

-- the list that follows is written with braces
abbrev pub is_brace : Tok → Bool
is_brace (t.Mark m.OpenBrace) = true
is_brace _ = false

-- what is added before a token, and what is then open, the innermost first
abbrev pub Added : Type 0
Added = List Mark × List Open

-- the innermost is a list of this column or a greater one
abbrev pub reaches : ℕ → List Open → Bool
reaches column (Items c ∷ open') = not (nat_lt c column)
reaches column _ = false

-- 1. A list begins at a token, unless the innermost list reaches it: then the new list is empty.
abbrev pub begin_list : ℕ → List Open → Added
begin_list column stack =
    if reaches column stack then (m.OpenBrace ∷ m.CloseBrace ∷ [], stack) else (m.OpenBrace ∷ [], Items column ∷ stack)

-- the lists of a greater column end
abbrev pub end_deeper : ℕ → List Open → Added
end_deeper column (Items c ∷ stack) =
    let outer = end_deeper column stack in
    if nat_lt column c then (m.CloseBrace ∷ outer.0, outer.1) else ([], Items c ∷ stack)
end_deeper column stack = ([], stack)

-- an item begins in a list of its column
abbrev pub separator : ℕ → List Open → List Mark
separator column (Items c ∷ _) = if c == column then m.Semicolon ∷ [] else []
separator column _ = []

-- 2. The first token of a line ends the lists of a greater column, and begins an item in one of its own.
abbrev pub begin_line : ℕ → List Open → Added
begin_line column stack = let ended = end_deeper column stack in (ended.0 ++ separator column ended.1, ended.1)

-- some bracket is open
abbrev pub has_bracket : List Open → Bool
has_bracket [] = false
has_bracket (Bracket ∷ _) = true
has_bracket (Items _ ∷ stack) = has_bracket stack

-- the lists inside the innermost bracket end
abbrev pub end_inside : List Open → Added
end_inside (Items c ∷ stack) = let outer = end_inside stack in (m.CloseBrace ∷ outer.0, outer.1)
end_inside stack = ([], stack)

-- what is open behind a bracket
abbrev pub without_bracket : List Open → List Open
without_bracket [] = []
without_bracket (_ ∷ stack) = stack

-- 3. A closing bracket ends the lists inside its bracket, and the bracket; a comma ends those lists; both
-- only where some bracket is open. An opening bracket is then open.
abbrev pub bracket : Role → List Open → Added
bracket Opens stack = ([], Bracket ∷ stack)
bracket Closes stack = if has_bracket stack then (let ended = end_inside stack in (ended.0, without_bracket ended.1)) else ([], stack)
bracket Separates stack = if has_bracket stack then end_inside stack else ([], stack)
bracket Stands stack = ([], stack)

-- a list begins where a word for it is the last token, and no brace follows
abbrev pub list_begins : Option Last → Tok → Bool
list_begins None tok = false
list_begins (Some last) tok = last.begins_items && not (is_brace tok)

-- a token is the first of its line where the one before it is on another
abbrev pub is_first : Option Last → ℕ → Bool
is_first None line = true
is_first (Some last) line = not (last.end.line == line)

-- the first rule, and whether the second follows
abbrev pub rule_one : Bool → ℕ → List Open → Added
rule_one begins column stack = if begins then begin_list column stack else ([], stack)

-- the second rule
abbrev pub rule_two : Bool → ℕ → List Open → Added
rule_two follows column stack = if follows then begin_line column stack else ([], stack)

-- the three rules, one after the other
abbrev pub before : Option Last → Token → List Open → Added
before last token stack =
    let begins = list_begins last token.kind in
    let one = rule_one begins token.col stack in
    let two = rule_two (is_first last token.line && not (begins && not (reaches token.col stack))) token.col one.1 in
    let three = bracket (role token.kind) two.1 in
    (one.0 ++ two.0 ++ three.0, three.1)

-- a mark that is added at a place: it has no bytes
abbrev pub mark_at : Place → Mark → Token
mark_at place mark = record { kind = t.Mark mark; line = place.line; col = place.column; «from» = place.at; to = place.at }

-- where a token begins
abbrev pub begin_of : Token → Place
begin_of token = record { at = token.«from»; line = token.line; column = token.col }

-- what is remembered of a token
abbrev pub last_of : Token → Last
last_of token = record { begins_items = begins_items token.kind; end = record { at = token.to; line = token.line; column = token.col } }

-- the ends of all lists that are open
abbrev pub end_all : List Open → List Mark
end_all [] = []
end_all (Items c ∷ stack) = m.CloseBrace ∷ end_all stack
end_all (Bracket ∷ stack) = end_all stack

-- behind the last token an empty list follows a word for it, and all lists end
abbrev pub at_end : Option Last → List Open → List Token
at_end None stack = []
at_end (Some last) stack = map (mark_at last.end) ((if last.begins_items then m.OpenBrace ∷ m.CloseBrace ∷ [] else []) ++ end_all stack)

-- the tokens with what is added, behind a last token and inside of what is open
abbrev pub lay : Option Last → List Open → List Token → List Token
lay last stack [] = at_end last stack
lay last stack (token ∷ tokens) =
    let added = before last token stack in
    map (mark_at (begin_of token)) added.0 ++ token ∷ lay (Some (last_of token)) added.1 tokens
