-- What is picked is one of the images.
use Rattle.std.proofs.Common.{◌≡◌, inl, ℕ, List, [], ◌∷◌, length, replicate, refl, sym, subst, Result, Ok, Err, IfOk, filter}
use Rattle.seg_words.proofs.Lemmas.{length-replicate}
use Rattle.disk_model.specs.Types.{Files, content, put, TornFile, seen_step, IsLeftBy, IsLeftAfter, is_by, first_files, memory_files, memory_crash_at, IsNew, torn_file_same, torn_file_written, torn_bytes, pick_step, picked, picked_files, File, Data, Log, Tear, Old, New, Zero, Change, Write, Broken, Sync, DatedChange, Memory}

put_content : (file : File) (files : Files) → put file (content file files) files ≡ files
put_content Data files = refl
put_content Log files = refl

torn_pick : (tear : Tear) (file : File) (offset : ℕ) (bytes : List ℕ) (image : Files) → TornFile file offset (length bytes) image (put file (torn_bytes tear (content file image) offset bytes) image)
torn_pick Old file offset bytes image = subst (λ (f : Files). TornFile file offset (length bytes) image f) (sym (put_content file image)) (torn_file_same file offset (length bytes) image)
torn_pick New file offset bytes image = torn_file_written file offset bytes image
torn_pick Zero file offset bytes image =
    subst (λ (n : ℕ). TornFile file offset n image (put file (torn_bytes Zero (content file image) offset bytes) image)) (length-replicate {A = ℕ} (length bytes) 0) (torn_file_written file offset (replicate (length bytes) 0) image)

pick_left : (tear : Tear) (change : Change) (seen image : Files) (left : Files → Type 0) → left image → IsLeftBy change seen left (pick_step tear change seen image)
pick_left tear (Write file offset bytes) seen image left is = (image, is, torn_pick tear file offset bytes image)
pick_left tear (Broken file offset n) seen image left is = (image, is, torn_file_same file offset n image)
pick_left tear (Sync file) seen image left is = (image, is, refl)

pub picked_left : (tear : Tear) (changes : List DatedChange) (seen image : Files) (left : Files → Type 0) → left image → IsLeftAfter seen left changes (picked tear seen image changes)
picked_left tear [] seen image left is = is
picked_left tear (e ∷ changes) seen image left is =
    picked_left tear changes (seen_step e.change seen) (pick_step tear e.change seen image) (IsLeftBy e.change seen left) (pick_left tear e.change seen image left is)

pub picked_is_image : {E : Type 0} (m : Memory) (moment : ℕ) (tear : Tear) (r : Result Memory E) → IfOk r (IsNew (picked_files tear moment m) []) → IfOk r (λ n. memory_crash_at m moment (memory_files n))
picked_is_image m moment tear (Err e) is = is
picked_is_image m moment tear (Ok n) is =
    let changes = filter (is_by moment) m.changes.items in
    let first : Files → Type 0 = λ was. was ≡ first_files m in
    inl (subst (λ (f : Files). IsLeftAfter (first_files m) first changes f) (sym is.files_are) (picked_left tear changes (first_files m) (first_files m) first refl))
