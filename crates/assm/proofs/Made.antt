-- What the making of a store tells.
use Rattle.std.proofs.Common.{◌≡◌, false, List, Option, ℕ, Err, refl}
use Rattle.seg_words.specs.Types.{Shape}
use Rattle.disk_model.specs.Types.{Meaning, Leaves, Untouched}
use Rattle.log_frame.specs.Types.{is_formatted}
use Rattle.store_files.specs.Store.{IsDurable, IsEmptyStore, NoneOrEmpty, FormatAnswers, IsFormatFault}
use Rattle.store_files.specs.declared.fault.OpenFault.{OpenFault}
use Rattle.store_files.specs.declared.fault.OpenFault.TheVariants as opening
use Rattle.recovery.proofs.Formatted.{new_is_sound}
use Rattle.assm.specs.Status.{status_of_open}
use Rattle.assm.specs.Top.{FormatTells, IsMade, Makes}

module _ {D : Type 0} (meaning : Meaning D) where
  pub is_made : (disk : D) (shape : Shape) → IsDurable meaning disk × IsEmptyStore shape (meaning.files disk) → IsMade meaning disk shape
  is_made disk shape h = record {
    starts = record { durable = h.0; sound = new_is_sound shape (meaning.files disk) h.1 };
    zeros = h.1.blocks;
  }

  pub makes : (disk disk' : D) (shape : Shape) → (IsDurable meaning disk → is_formatted (meaning.files disk).log_bytes ≡ false → Leaves meaning disk disk' (NoneOrEmpty shape)) → (meaning.told disk → is_formatted (meaning.files disk).log_bytes ≡ false) → (IsDurable meaning disk → IsDurable meaning disk' × IsEmptyStore shape (meaning.files disk')) → Makes meaning disk disk' shape
  makes disk disk' shape moments blank made = record { moments = moments; blank = blank; made = λ h. is_made disk' shape (made h) }

  pub format_fails : (disk disk' : D) (old : Option (List ℕ)) (shape : Shape) (fault : OpenFault) → IsFormatFault fault → (meaning.told disk → FormatAnswers (meaning.files disk).log_bytes (Err fault)) → (IsDurable meaning disk → is_formatted (meaning.files disk).log_bytes ≡ false → Leaves meaning disk disk' (NoneOrEmpty shape)) → (fault ≡ opening.AlreadyFormatted → Untouched meaning disk disk') → FormatTells meaning disk disk' old old shape (status_of_open fault)
  format_fails disk disk' old shape opening.DeviceFault only answer moments stays = (refl, moments)
  format_fails disk disk' old shape opening.NotFormatted only answer moments stays = absurd only
  format_fails disk disk' old shape (opening.BadFile which offset seen) only answer moments stays = absurd only
  format_fails disk disk' old shape opening.AlreadyFormatted only answer moments stays = (refl, stays refl, answer)
  format_fails disk disk' old shape opening.NoMemory only answer moments stays = (refl, moments)
