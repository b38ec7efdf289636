-- The machine reads each expression of the grammar.
use Rattle.std.proofs.Common.{refl}
use Rattle.ddl_tree.specs.ExprTree as ex
use Rattle.ddl_tree.specs.Grammar.{IsExpr, IsBound, IsItem, AreAtoms, AreExprs, AreBindings, AreItems, AreAlts}
use Rattle.ddl_reader.proofs.Levels.{Completes}
use Rattle.ddl_reader.proofs.ReadsForms.{completes_infix, completes_pure, completes_prefix, completes_cast, completes_is, completes_select, completes_if}
use Rattle.ddl_reader.proofs.ReadsForms.{completes_for, completes_map, completes_paren, completes_set, completes_tagged}
use Rattle.ddl_reader.proofs.ReadsLists.{AllComplete, completes_array, completes_untagged}
use Rattle.ddl_reader.proofs.ReadsCalls.{BoundCompletes, completes_call_grammar, completes_call_value, completes_just, completes_optional, completes_many}
use Rattle.ddl_reader.proofs.ReadsBindings.{AllBound, completes_record, completes_tags}
use Rattle.ddl_reader.proofs.ReadsItems.{ItemCompletes, AllItems, AllAlts, completes_block, completes_case}

mutual
  pub completes : (a : ex.Expr) → IsExpr a → Completes a
  completes (ex.Infix o a b s) i = completes_infix o a b s i.2 i.3 (completes a i.0) (completes b i.1)
  completes (ex.Pure a s) i = completes_pure a s i.1 (completes a i.0)
  completes (ex.If c a b s) i = completes_if c a b s i.3 (completes c i.0) (completes a i.1) (completes b i.2)
  completes (ex.For x j ns l b s) i = completes_for x j ns l b s i.3 (completes j i.0) (completes l i.1) (completes b i.2)
  completes (ex.Map ns l b s) i = completes_map ns l b s i.2 (completes l i.0) (completes b i.1)
  completes (ex.Is a f s) i = completes_is a f s i.1 (completes a i.0)
  completes (ex.Prefix o a s) i = completes_prefix o a s i.1 (completes a i.0)
  completes (ex.Cast o a t s) i = completes_cast o a t s i.1 (completes a i.0)
  completes (ex.CallGrammar x xs s) i = completes_call_grammar x xs s i.0 i.1 (all_atoms xs i.1)
  completes (ex.CallValue x xs s) i = completes_call_value x xs s i.0 i.1 (all_atoms xs i.1)
  completes (ex.Just a s) i = completes_just a s i.1 (completes a i.0)
  completes (ex.Many o n a s) i = completes_many o n a s i.1 i.2 (bound_completes n i.0) (completes a i.1)
  completes (ex.Optional o a s) i = completes_optional o a s i.1 (completes a i.0)
  completes (ex.Select a x s) i = completes_select a x s i.1 (completes a i.0)
  completes (ex.Num n) i = λ fs r p lev lim. refl
  completes (ex.Char b s) i = λ fs r p lev lim. refl
  completes (ex.Text bs s) i = λ fs r p lev lim. refl
  completes (ex.True s) i = λ fs r p lev lim. refl
  completes (ex.False s) i = λ fs r p lev lim. refl
  completes (ex.Nothing s) i = λ fs r p lev lim. refl
  completes (ex.Upper x) i = λ fs r p lev lim. refl
  completes (ex.Lower x) i = λ fs r p lev lim. refl
  completes (ex.Class x) i = λ fs r p lev lim. refl
  completes (ex.Set c s) i = completes_set c s i
  completes (ex.Paren a t s) i = completes_paren a t s (completes a i)
  completes (ex.Array xs s) i = completes_array xs s (all_exprs xs i)
  completes (ex.RecordOf bs s) i = completes_record bs s (all_bindings bs i)
  completes (ex.Tag x s) i = λ fs r p lev lim. refl
  completes (ex.TagWith x a s) i = completes_tagged x a s (completes a i)
  completes (ex.Block is s) i = completes_block is s i.0 (all_items is i.1)
  completes (ex.Choice o (ex.WithTags bs) s) i = completes_tags o bs s i.0 (all_bindings bs i.1)
  completes (ex.Choice o (ex.Untagged xs) s) i = completes_untagged o xs s i.0 (all_exprs xs i.1)
  completes (ex.Case a xs s) i = completes_case a xs s i.1 (completes a i.0) (all_alts xs i.2)

  bound_completes : (n : ex.Bound) → IsBound n → BoundCompletes n
  bound_completes ex.Free i = tt
  bound_completes (ex.Exactly a) i = (completes a i.0, i.0, i.1)
  bound_completes (ex.AtLeast a s) i = completes a i
  bound_completes (ex.AtMost a s) i = completes a i
  bound_completes (ex.Between a b s) i = (completes a i.0, completes b i.1)

  all_atoms : (xs : ex.Exprs) → AreAtoms xs → AllComplete xs
  all_atoms ex.no_exprs i = tt
  all_atoms (ex.an_expr a xs) i = (completes a i.0, all_atoms xs i.2)

  all_exprs : (xs : ex.Exprs) → AreExprs xs → AllComplete xs
  all_exprs ex.no_exprs i = tt
  all_exprs (ex.an_expr a xs) i = (completes a i.0, all_exprs xs i.1)

  all_bindings : (bs : ex.Bindings) → AreBindings bs → AllBound bs
  all_bindings ex.no_bindings i = tt
  all_bindings (ex.a_binding x a s bs) i = (completes a i.0, all_bindings bs i.1)

  item_completes : (j : ex.Item) → IsItem j → ItemCompletes j
  item_completes (ex.Result a s) i = completes a i
  item_completes (ex.Let x a s) i = completes a i
  item_completes (ex.Field x a s) i = completes a i
  item_completes (ex.Plain a) i = completes a i

  all_items : (is : ex.Items) → AreItems is → AllItems is
  all_items ex.no_items i = tt
  all_items (ex.an_item j is) i = (item_completes j i.0, all_items is i.1)

  all_alts : (xs : ex.Alts) → AreAlts xs → AllAlts xs
  all_alts ex.no_alts i = tt
  all_alts (ex.an_alt f a s xs) i = (completes a i.0, all_alts xs i.1)
