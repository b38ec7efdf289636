-- Refusals that come from outside: a call of the files failed, or a file is not there.
use Rattle.std.proofs.Common.{◌≡◌, ℕ, List, [], ◌∷◌, sym, ◌∙◌, ap, refl, subst, inl, inr}
use Rattle.std.specs.Prelude.{◌⊎◌}
use Rattle.ddl_front.specs.Front.{IsRefused}
use Rattle.ddl_modules.specs.Files.{module_file}
use Rattle.ddl_modules.specs.Loaded.{AreNotLoaded}
use Rattle.ddl_modules.specs.Reading.{AreNotRead}
use Rattle.ddl_modules.specs.declared.error.LoadError.{LoadError}
use Rattle.ddl_modules.specs.declared.error.LoadError.TheVariants as load_is
use Rattle.ddl_outside.specs.Files.{FilesState, IsAbsent, IsFailed}
use Rattle.ddl_outside.specs.declared.refusal.Refusal.{Refusal}
use Rattle.ddl_outside.specs.declared.refusal.Refusal.TheVariants as refused
use Rattle.ddl_report.specs.declared.closing.Closing.TheVariants as closing_is
use Rattle.ddl_top.specs.Answered.{closing_only}
use Rattle.ddl_top.specs.Run.{IsRefusedWith}
use Rattle.ddl_top.specs.Turns.{IsModuleTurn}
use Rattle.ddl_top.specs.declared.status.Status.{Status}
use Rattle.ddl_top.specs.declared.status.Status.TheVariants as status_is

-- modules that were not read because a call failed
failed_reading : (old new : FilesState) (root : List ℕ) → AreNotRead old new root load_is.ReadFault → IsFailed old new
failed_reading old new root (inl (same, inl h)) = absurd h
failed_reading old new root (inl (same, inr h)) = absurd h.2
failed_reading old new root (inr (us, names, n, name, read, next, touches, inl h)) = h
failed_reading old new root (inr (us, names, n, name, read, next, touches, inr h)) = absurd h.3

-- or because a file is not there, which is that of the module whose turn it was
pub record Lacking (old new : FilesState) (root file : List ℕ) : Type 0 where
  pub turn : IsModuleTurn new root file
  pub absent : IsAbsent old new file

lacking_reading : (old new : FilesState) (root file : List ℕ) → AreNotRead old new root (load_is.Missing file) → Lacking old new root file
lacking_reading old new root file (inl (same, inl h)) = absurd h
lacking_reading old new root file (inl (same, inr h)) = absurd h.2
lacking_reading old new root file (inr (us, names, n, name, read, next, touches, inl h)) = record {
  turn = (us, names, n, name, read, next, h.0);
  absent = subst (λ f. IsAbsent old new f) (sym h.0) h.1;
}
lacking_reading old new root file (inr (us, names, n, name, read, next, touches, inr h)) = absurd h.3

pub failed_refusal : (root : List ℕ) (old new : FilesState) (lines : List (List ℕ)) → IsRefusedWith root old new status_is.ReadFault lines
    → IsFailed old new × (lines ≡ closing_only closing_is.Read)
failed_refusal root old new lines (refused.ReadFault, inl (e, h, same), k) = (failed_reading old new root (subst (AreNotLoaded old new root) same h), k.1)
failed_refusal root old new lines (refused.ReadFault, inr (us, h, none), k) = absurd none
failed_refusal root old new lines (refused.Missing file, h, k) = absurd (let e = k.0 in cc)
failed_refusal root old new lines (refused.Refused told, h, k) = absurd (let e = k.0 in cc)
failed_refusal root old new lines (refused.Unbuilt, h, k) = absurd (let e = k.0 in cc)
failed_refusal root old new lines (refused.NoMemory, h, k) = absurd k

pub lacking_refusal : (root : List ℕ) (old new : FilesState) (lines : List (List ℕ)) → IsRefusedWith root old new status_is.Missing lines
    → (file : List ℕ) × Lacking old new root file × (lines ≡ closing_only (closing_is.Missing file))
lacking_refusal root old new lines (refused.Missing file, inl (e, h, same), k) =
    (file, lacking_reading old new root file (subst (AreNotLoaded old new root) same h), k.1)
lacking_refusal root old new lines (refused.Missing file, inr (us, h, none), k) = absurd none
lacking_refusal root old new lines (refused.ReadFault, h, k) = absurd (let e = k.0 in cc)
lacking_refusal root old new lines (refused.Refused told, h, k) = absurd (let e = k.0 in cc)
lacking_refusal root old new lines (refused.Unbuilt, h, k) = absurd (let e = k.0 in cc)
lacking_refusal root old new lines (refused.NoMemory, h, k) = absurd k
