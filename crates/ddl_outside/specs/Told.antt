-- A file in memory whose length was told is there with that length.
use Rattle.std.specs.Prelude.{◌≡◌, ℕ, List, length, true, false, Some, None, Option, option_map, option_and_then, if◌then◌else◌}
use Rattle.ddl_outside.specs.Named.{at_name}
use Rattle.ddl_outside.specs.MemFiles.{Entry, held_in, told_in, length_told}

pub told_in_held : (files : List (List ℕ × Entry)) (name : List ℕ) (n : ℕ) → told_in files name ≡ Some n → option_map length (held_in files name) ≡ Some n
told_in_held files name n = of_file (at_name files name) where
  of_entry : (e : Entry) → length_told e ≡ Some n → Some (length e.bytes) ≡ Some n
  of_entry e = elim e.told as (λ t. (if t then Some (length e.bytes) else None) ≡ Some n → Some (length e.bytes) ≡ Some n) [ true ↦ λ h. h | false ↦ λ h. cc ]

  of_file : (o : Option Entry) → option_and_then length_told o ≡ Some n → option_map length (option_map (λ e. e.bytes) o) ≡ Some n
  of_file None h = cc
  of_file (Some e) h = of_entry e h
