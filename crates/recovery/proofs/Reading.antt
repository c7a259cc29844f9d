-- A store as it was read of a disk.
use Rattle.std.proofs.Common.{◌≡◌, ◌⊎◌, inl, inr, ◌≤◌, List, length, sym, ◌∙◌, ap, subst, arith, Err, le_trans}
use Rattle.std.specs.Prelude.{IsErrOf}
use Rattle.std.specs.Borrow.{GName}
use Rattle.seg_words.specs.Types.{Shape, Rose}
use Rattle.disk_model.specs.Files.{Files}
use Rattle.disk_model.specs.Crash.{Meaning, Now, Causes, Untouched}
use Rattle.disk_model.proofs.Going.{untouched_then, rose_first, rose_later}
use Rattle.redo_model.specs.Records.{Record}
use Rattle.redo_model.specs.Lists.{same}
use Rattle.store_files.specs.Store.{IsDurable}
use Rattle.store_files.specs.declared.fault.OpenFault.{OpenFault}
use Rattle.store_files.specs.declared.fault.OpenFault.TheVariants as refusals
use Rattle.store_core.specs.Store.{Read, with_disk}
use Rattle.store_core.specs.Survives.{IsSound, IsLeft, Survives}

module _ {D : Type 0} (meaning : Meaning D) where
  pub durable_then : (a b : D) → IsDurable meaning a → Untouched meaning a b → IsDurable meaning b
  durable_then a b h look = record { told = look.told.1 h.told; durable = λ image now. h.durable image ((look.images image).0 now) ∙ sym (look.files h.told) }

  pub sound_then : (a b : D) (sh : Shape) (R : List Record) → meaning.told a → Untouched meaning a b → IsSound sh R (meaning.files a) → IsSound sh R (meaning.files b)
  sound_then a b sh R told look s = subst (IsSound sh R) (sym (look.files told)) s

  -- the moments of the first test count as well
  pub survives_from : (a b c : D) (sh : Shape) (R : List Record) (r : Read D) → IsDurable meaning a → IsSound sh R (meaning.files a) → Untouched meaning a b → Untouched meaning b c → r.first ≡ b → r.shape ≡ sh
      → ((loan : GName) → Survives meaning (meaning.clock b) (λ m. length R) R (with_disk c loan r)) → (loan : GName) → Survives meaning (meaning.clock a) (λ m. length R) R (with_disk c loan r)
  survives_from a b c sh R r durable sound first second is shape h loan = record {
    begun = whole.leaves.later;
    made = (h loan).made;
    each = λ m image from to crash. elim (whole.leaves.each m image to crash) [
      | inl before ↦ absurd (omega (arith, before.0, from))
      | inr since ↦ left image since.1
    ];
  }
    where
      whole : Untouched meaning a c
      whole = untouched_then meaning a b c first second

      left : (image : Files) → Now meaning a image → IsLeft r.shape (meaning.files r.first).data_bytes R (length R) image
      left image now =
          let files : image ≡ meaning.files a = durable.durable image now in
          let seen : meaning.files r.first ≡ meaning.files a = ap meaning.files is ∙ first.files durable.told in
          record {
            older = R;
            part = same;
            enough = omega arith;
            sound = subst (λ (s : Shape). IsSound s R image) (sym shape) (subst (IsSound sh R) (sym files) sound);
            data_stays = ap (λ (f : Files). f.data_bytes) (files ∙ sym seen);
          }

  -- ---- causes

  pub causes_ok : (a b c : D) (P Q N : Type 0) → Causes meaning a b P → Causes meaning b c Q → (N → ⊥) → Causes meaning a c N
  causes_ok a b c P Q N first second never = record { later = le_trans first.later second.later; rose = λ n. absurd (never n) }

  -- a fault that came here, or of which this is another name
  pub causes_err : (a b c d : D) (P Q : Type 0) (e : OpenFault) → Causes meaning a b P → Causes meaning b c Q → meaning.fault_count c ≤ meaning.fault_count d
      → (e ≡ refusals.DeviceFault → Q ⊎ Rose (meaning.fault_count c) (meaning.fault_count d)) → Causes meaning a d (IsErrOf {T = Read D} (Err e) refusals.DeviceFault)
  causes_err a b c d P Q e first second later why = record {
    later = le_trans first.later (le_trans second.later later);
    rose = λ is. elim (why (inside e refusals.DeviceFault is)) [
      | inl q ↦ rose_later _ _ _ first.later (rose_first _ _ _ (second.rose q) later)
      | inr rose ↦ rose_later _ _ _ (le_trans first.later second.later) rose
    ];
  }
    where
      inside : (e f : OpenFault) → IsErrOf {T = Read D} (Err e) f → e ≡ f
      inside e f is = cc is
