-- The file of each module of a root.
use Rattle.std.specs.Prelude.{ℕ, ◌-◌, List, [], ◌∷◌, ◌++◌, ◌==◌, if◌then◌else◌, length, take, codes, encode_utf8_all}
use Rattle.std.specs.Str.{is_utf8}

-- what stands after the last slash, where `last` stands after the last one so far
abbrev pub after_slash : List ℕ → List ℕ → List ℕ
after_slash last [] = last
after_slash last (b ∷ bs) = if b == 47 then after_slash bs bs else after_slash last bs

-- the name of a root's module
abbrev pub module_name : List ℕ → List ℕ
module_name root = after_slash root root

-- the directory of a root: what stands before the name
abbrev pub folder : List ℕ → List ℕ
folder root = take (length root - length (module_name root)) root

-- bytes as text: themselves, or where they are no UTF-8 each as the character of that number
abbrev pub shown : List ℕ → List ℕ
shown text = if is_utf8 text then text else encode_utf8_all text

-- the file of a module of this name
abbrev pub module_file : List ℕ → List ℕ → List ℕ
module_file root name = shown (folder root ++ name ++ codes ".ddl")
