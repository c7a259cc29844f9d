-- What a crash leaves, call after call.
use Rattle.std.proofs.Common.{◌≡◌, inl, inr, ℕ, ◌^◌, ◌<◌, ◌≤◌, List, [], ◌∷◌, ◌++◌, length, refl, sym, ap, subst, ◌∙◌, length-append, arith}
use Rattle.std.specs.Prelude.{None}
use Rattle.std.proofs.lemmas.Bool.{cases_order}
use Rattle.seg_words.specs.Types.{Shape}
use Rattle.disk_model.specs.Types.{Files, Meaning, Now, Leaves, Untouched, OnlyFile, IsSettled}
use Rattle.disk_model.specs.declared.disk.File.TheVariants.{Data, Log}
use Rattle.log_frame.specs.Spelling.{IsLog}
use Rattle.store_files.specs.Store.{data_size}
use Rattle.redo_model.specs.Records.{Record}
use Rattle.redo_model.specs.Model.{AreAllowed, IsLawful}
use Rattle.redo_model.specs.Lists.{Extends, same, more, prefix}
use Rattle.redo_laws.proofs.lists.Prefixes.{prefix_first}
use Rattle.redo_log.specs.Kept.{Kept, Holds, HasRecords, HasList as HasLogList, with_group, spelled}
use Rattle.redo_log.specs.Lasting.{GroupOrNone}
use Rattle.redo_log.proofs.Walking.{holds_more}
use Rattle.redo_record.specs.Spelling.{spelling}
use Rattle.page_store.specs.Types.{AsLong}
use Rattle.pool_laws.proofs.Folds.{folds_stay}
use Rattle.store_pages.specs.Pages.{HasFolds, LeavesFolds}
use Rattle.pool_store.specs.Survives.{IsLeft, Survives, Rises}
use Rattle.pool_store.specs.Store.{Held, IsTrue}

pub begins_with : (newer older : List Record) → Extends older (newer ++ older)
begins_with [] older = same
begins_with (r ∷ newer) older = more r (begins_with newer older)

pub allowed_part : (sh : Shape) (newer older : List Record) → AreAllowed sh (newer ++ older) → AreAllowed sh older
allowed_part sh [] older h = h
allowed_part sh (r ∷ newer) older h = allowed_part sh newer older h.0

pub none_newer : (newer : List Record) → spelled newer ≡ [] → newer ≡ []
none_newer [] h = refl
none_newer (r ∷ R) h = absurd (omega (arith, ap (λ (x : List ℕ). length x) h, length-append (spelled R) (spelling r)))

-- the groups with what waits hold all records
pub holds_all : (groups : List (List ℕ)) (R : List Record) (log : Kept) → HasLogList groups [] R log → Holds (with_group groups log.waiting.bytes) [] R
holds_all groups R log list = by log.waiting.bytes list.has.bytes
  where
    by : (bytes : List ℕ) → bytes ≡ spelled list.has.newer → Holds (with_group groups bytes) [] R
    by [] none = let nobody : list.has.newer ≡ [] = none_newer list.has.newer (sym none) in subst (Holds groups []) (sym (list.has.split ∙ ap (λ (l : List Record). l ++ list.has.older) nobody)) list.holds
    by (b ∷ bytes) is = subst (Holds (groups ++ (b ∷ bytes) ∷ []) []) (sym list.has.split) (holds_more groups [] list.has.older list.has.newer (b ∷ bytes) list.holds is list.has.spelled)

pub stable_within : (R : List Record) (log : Kept) → HasRecords R log → log.stable ≤ length R
stable_within R log h = omega (arith, h.stable, ap (λ (l : List Record). length l) h.split, length-append h.newer h.older)

pub stable_below : (R : List Record) (log : Kept) → HasRecords R log → log.stable ≤ log.count
stable_below R log h = omega (arith, h.stable, h.count, ap (λ (l : List Record). length l) h.split, length-append h.newer h.older)

-- the stable records are so many as the log says
pub stable_count : (R : List Record) (log : Kept) (h : HasRecords R log) → length R < 2 ^ 64 → log.stable ≡ length h.older
stable_count R log h few = omega (arith, few, h.stable, ap (λ (l : List Record). length l) h.split, length-append h.newer h.older)

pub stable_part : (R : List Record) (log : Kept) (h : HasRecords R log) → Extends h.older R
stable_part R log h = subst (Extends h.older) (sym h.split) (begins_with h.newer h.older)

-- and they are the first of all
pub stable_first : (R : List Record) (log : Kept) (h : HasRecords R log) → length R < 2 ^ 64 → prefix R log.stable ≡ h.older
stable_first R log h few = ap (prefix R) (stable_count R log h few) ∙ prefix_first h.older R (stable_part R log h)

-- pages that are folds of the first records are folds of all
pub folds_longer : (sh : Shape) (Q R : List Record) (bytes : List ℕ) → Extends Q R → HasFolds sh Q 0 bytes → HasFolds sh R 0 bytes
folds_longer sh Q R bytes e h = record { pages = h.pages; has = h.has; folded = folds_stay sh Q R 0 h.pages e (omega arith) h.folded }

-- a file with the pages of a store has its blocks
pub has_blocks : (sh : Shape) (R : List Record) (bytes : List ℕ) → HasFolds sh R 0 bytes → data_size sh ≤ length bytes
has_blocks sh R bytes h = omega (arith, h.has.long)

-- an image is another with one of the files changed
pub data_stays : {D : Type 0} (meaning : Meaning D) (disk : D) (P : List ℕ → Type 0) (image : Files) → IsSettled meaning disk Data → OnlyFile meaning disk Log P image → image.data_bytes ≡ (meaning.files disk).data_bytes
data_stays meaning disk P image settled only = ap (λ (f : Files). f.data_bytes) only.rest ∙ settled.durable only.was only.before

pub log_stays : {D : Type 0} (meaning : Meaning D) (disk : D) (P : List ℕ → Type 0) (image : Files) → IsSettled meaning disk Log → OnlyFile meaning disk Data P image → image.log_bytes ≡ (meaning.files disk).log_bytes
log_stays meaning disk P image settled only = ap (λ (f : Files). f.log_bytes) only.rest ∙ settled.durable only.was only.before

-- what a true store with these records leaves now
module _ {D : Type 0} (meaning : Meaning D) (R : List Record) (s : Held D) (t : IsTrue meaning R s) where
  pub stable_lawful : IsLawful s.shape t.list.list.has.older
  stable_lawful = record {
    allowed = allowed_part s.shape t.list.list.has.newer t.list.list.has.older (subst (AreAllowed s.shape) t.list.list.has.split t.lawful.allowed);
    whole = t.stable t.list.list.has.older t.list.list.holds;
  }

  -- the data file
  pub data_settled : s.fault ≡ None → IsSettled meaning s.disk Data
  data_settled unspent = (t.pages unspent).over.base.settled

  pub data_folds : s.fault ≡ None → HasFolds s.shape t.list.list.has.older 0 (meaning.files s.disk).data_bytes
  data_folds unspent =
      let over = (t.pages unspent).over in
      subst (λ (sh : Shape). HasFolds sh t.list.list.has.older 0 (meaning.files s.disk).data_bytes) t.same
      (subst (λ (Q : List Record). HasFolds s.pages.shape Q 0 (meaning.files s.disk).data_bytes) (stable_first R s.log t.list.list.has t.list.few)
      (record { pages = over.file; has = over.base.file.has; folded = over.folded }))

  -- an image with the stable records
  pub stable_left : (data_bytes : List ℕ) (needed : ℕ) (image : Files) → needed ≤ s.log.stable → IsLog s.shape t.list.groups image.log_bytes → HasFolds s.shape t.list.list.has.older 0 image.data_bytes → length image.data_bytes ≡ length data_bytes → IsLeft s.shape data_bytes R needed image
  stable_left data_bytes needed image enough log folds long = record {
    older = t.list.list.has.older;
    part = stable_part R s.log t.list.list.has;
    enough = omega (arith, enough, t.list.list.has.stable);
    sound = record {
      log = record { groups = t.list.groups; log = log; holds = t.list.list.holds };
      lawful = stable_lawful;
      blocks = has_blocks s.shape t.list.list.has.older image.data_bytes folds;
      folds = folds;
    };
    long = long;
  }

  -- and one with all
  pub all_left : (data_bytes : List ℕ) (needed : ℕ) (image : Files) → needed ≤ s.log.stable → IsLog s.shape (with_group t.list.groups s.log.waiting.bytes) image.log_bytes → HasFolds s.shape R 0 image.data_bytes → length image.data_bytes ≡ length data_bytes → IsLeft s.shape data_bytes R needed image
  all_left data_bytes needed image enough log folds long = record {
    older = R;
    part = same;
    enough = omega (arith, enough, stable_within R s.log t.list.list.has);
    sound = record {
      log = record { groups = with_group t.list.groups s.log.waiting.bytes; log = log; holds = holds_all t.list.groups R s.log t.list.list };
      lawful = t.lawful;
      blocks = has_blocks s.shape R image.data_bytes folds;
      folds = folds;
    };
    long = long;
  }

  module _ (unspent : s.fault ≡ None) where
    pub log_is : (image : Files) → image.log_bytes ≡ (meaning.files s.disk).log_bytes → IsLog s.shape t.list.groups image.log_bytes
    log_is image e = subst (IsLog s.shape t.list.groups) (sym e) (t.list.ready unspent).log

    -- an image now is a sound store with the stable records
    pub now_left : (data_bytes : List ℕ) (needed : ℕ) (image : Files) → needed ≤ s.log.stable → Now meaning s.disk image → length image.data_bytes ≡ length data_bytes → IsLeft s.shape data_bytes R needed image
    now_left data_bytes needed image enough now long =
        stable_left data_bytes needed image enough (log_is image ((t.list.ready unspent).settled.durable image now))
        (subst (HasFolds s.shape t.list.list.has.older 0) (sym ((data_settled unspent).durable image now)) (data_folds unspent)) long

    -- while what waits is written
    pub run_left : (data_bytes : List ℕ) (needed : ℕ) (image : Files) → needed ≤ s.log.stable → OnlyFile meaning s.disk Log (GroupOrNone s.shape t.list.groups s.log.waiting.bytes) image → length image.data_bytes ≡ length data_bytes → IsLeft s.shape data_bytes R needed image
    run_left data_bytes needed image enough only long =
        let is = data_stays meaning s.disk (GroupOrNone s.shape t.list.groups s.log.waiting.bytes) image (data_settled unspent) only in
        let folds : HasFolds s.shape t.list.list.has.older 0 image.data_bytes = subst (HasFolds s.shape t.list.list.has.older 0) (sym is) (data_folds unspent) in
        elim only.holds [
          | inl log ↦ stable_left data_bytes needed image enough log folds long
          | inr log ↦ all_left data_bytes needed image enough log (folds_longer s.shape t.list.list.has.older R image.data_bytes (stable_part R s.log t.list.list.has) folds) long
        ]

    -- while a batch is written
    pub batch_left : (data_bytes : List ℕ) (needed : ℕ) (image : Files) → needed ≤ s.log.stable → OnlyFile meaning s.disk Data (AsLong (meaning.files s.disk).data_bytes (HasFolds s.shape t.list.list.has.older 0)) image → length image.data_bytes ≡ length data_bytes → IsLeft s.shape data_bytes R needed image
    batch_left data_bytes needed image enough only long =
        stable_left data_bytes needed image enough
        (log_is image (log_stays meaning s.disk (AsLong (meaning.files s.disk).data_bytes (HasFolds s.shape t.list.list.has.older 0)) image (t.list.ready unspent).settled only)) only.holds.is long

-- records that are added
pub still_part : (newer older R : List Record) → Extends older R → Extends older (newer ++ R)
still_part [] older R h = h
still_part (r ∷ newer) older R h = more r (still_part newer older R h)

pub left_more : (sh : Shape) (data_bytes : List ℕ) (newer R : List Record) (needed : ℕ) (image : Files) → IsLeft sh data_bytes R needed image → IsLeft sh data_bytes (newer ++ R) needed image
left_more sh data_bytes newer R needed image left = record { older = left.older; part = still_part newer left.older R left.part; enough = left.enough; sound = left.sound; long = left.long }

-- what survives, call after call
module _ {D : Type 0} (meaning : Meaning D) (since : ℕ) (needed : ℕ → ℕ) (R : List Record) (s : Held D) (t : IsTrue meaning R s) (unspent : s.fault ≡ None) (h : Survives meaning since needed R s) where
  was_long : (was : Files) → Now meaning s.disk was → length was.data_bytes ≡ length (meaning.files s.first).data_bytes
  was_long was now = (h.each (meaning.clock s.disk) was h.begun (omega arith) now).long

  -- a call that leaves only what is such a store, and after which it has more records
  pub survives_call : (newer : List Record) (new : Held D) (P : Files → Type 0) → new.shape ≡ s.shape → new.first ≡ s.first → s.log.stable ≤ new.log.stable
      → Leaves meaning s.disk new.disk P → ((m : ℕ) (image : Files) → P image → IsLeft s.shape (meaning.files s.first).data_bytes R (needed m) image) → Survives meaning since needed (newer ++ R) new
  survives_call newer new P shape first stable leaves keeps = record {
    begun = omega (arith, h.begun, leaves.later);
    made = λ m. omega (arith, h.made m, stable);
    each = λ m image from to is. moved (needed m) image (elim (leaves.each m image to is) [
      | inl old ↦ h.each m image from (omega (arith, old.0)) old.1
      | inr run ↦ keeps m image run.1
    ]);
  }
    where
      moved : (n : ℕ) (image : Files) → IsLeft s.shape (meaning.files s.first).data_bytes R n image → IsLeft new.shape (meaning.files new.first).data_bytes (newer ++ R) n image
      moved n image left = subst (λ (sh : Shape). IsLeft sh (meaning.files new.first).data_bytes (newer ++ R) n image) (sym shape) (subst (λ (d : D). IsLeft s.shape (meaning.files d).data_bytes (newer ++ R) n image) (sym first) (left_more s.shape (meaning.files s.first).data_bytes newer R n image left))

  -- what waits is written
  pub survives_run : (new : Held D) → new.shape ≡ s.shape → new.first ≡ s.first → s.log.stable ≤ new.log.stable
      → Leaves meaning s.disk new.disk (OnlyFile meaning s.disk Log (GroupOrNone s.shape t.list.groups s.log.waiting.bytes)) → Survives meaning since needed R new
  survives_run new shape first stable leaves =
      survives_call [] new (OnlyFile meaning s.disk Log (GroupOrNone s.shape t.list.groups s.log.waiting.bytes)) shape first stable leaves
      (λ m image only. run_left meaning R s t unspent (meaning.files s.first).data_bytes (needed m) image (h.made m) only (ap (λ (f : Files). length f.data_bytes) only.rest ∙ was_long only.was only.before))

  -- a batch of pages is written
  pub survives_batch : (new : Held D) → new.shape ≡ s.shape → new.first ≡ s.first → s.log.stable ≤ new.log.stable
      → LeavesFolds meaning s.disk new.disk s.shape t.list.list.has.older 0 → Survives meaning since needed R new
  survives_batch new shape first stable leaves =
      survives_call [] new (OnlyFile meaning s.disk Data (AsLong (meaning.files s.disk).data_bytes (HasFolds s.shape t.list.list.has.older 0))) shape first stable leaves
      (λ m image only. batch_left meaning R s t unspent (meaning.files s.first).data_bytes (needed m) image (h.made m) only (image_long image only))
    where
      image_long : (image : Files) → OnlyFile meaning s.disk Data (AsLong (meaning.files s.disk).data_bytes (HasFolds s.shape t.list.list.has.older 0)) image → length image.data_bytes ≡ length (meaning.files s.first).data_bytes
      image_long image only =
          only.holds.long ∙ ap (λ (l : List ℕ). length l) (sym ((data_settled meaning R s t unspent).durable only.was only.before)) ∙ was_long only.was only.before

  -- the same in the words of the first so many
  pub survives_batch_of : (new : Held D) → new.shape ≡ s.shape → new.first ≡ s.first → s.log.stable ≤ new.log.stable
      → LeavesFolds meaning s.disk new.disk s.pages.shape (prefix R s.log.stable) 0 → Survives meaning since needed R new
  survives_batch_of new shape first stable leaves =
      survives_batch new shape first stable
      (subst (λ (sh : Shape). LeavesFolds meaning s.disk new.disk sh t.list.list.has.older 0) t.same
      (subst (λ (Q : List Record). LeavesFolds meaning s.disk new.disk s.pages.shape Q 0) (stable_first R s.log t.list.list.has t.list.few) leaves))

  -- the disk is only read, and records are added
  pub survives_more : (newer : List Record) (new : Held D) → Untouched meaning s.disk new.disk → new.shape ≡ s.shape → new.first ≡ s.first → s.log.stable ≤ new.log.stable → Survives meaning since needed (newer ++ R) new
  survives_more newer new read shape first stable =
      survives_call newer new (Now meaning s.disk) shape first stable read.leaves
      (λ m image now. now_left meaning R s t unspent (meaning.files s.first).data_bytes (needed m) image (h.made m) now (was_long image now))

  -- it is only read
  pub survives_read : (new : Held D) → Untouched meaning s.disk new.disk → new.shape ≡ s.shape → new.first ≡ s.first → s.log.stable ≤ new.log.stable → Survives meaning since needed R new
  survives_read new read shape first stable = survives_more [] new read shape first stable

  -- what is stable now is in each image from now on
  pub survives_needed : (rising : ℕ → ℕ) → Rises needed rising (meaning.clock s.disk) s.log.stable → Survives meaning since rising R s
  survives_needed rising rises = record {
    begun = h.begun;
    made = λ m. elim (cases_order m (meaning.clock s.disk)) [
      | inl at ↦ rises.since m (omega (arith, at))
      | inr (inl lt) ↦ omega (arith, rises.before m lt, h.made m)
      | inr (inr gt) ↦ rises.since m (omega (arith, gt))
    ];
    each = λ m image from to is. elim (cases_order m (meaning.clock s.disk)) [
      | inl at ↦ (let now = subst (λ (n : ℕ). meaning.crash_at s.disk n image) at is in now_left meaning R s t unspent (meaning.files s.first).data_bytes (rising m) image (rises.since m (omega (arith, at))) now (was_long image now))
      | inr (inl lt) ↦ (let left = h.each m image from to is in record { older = left.older; part = left.part; enough = omega (arith, left.enough, rises.before m lt); sound = left.sound; long = left.long })
      | inr (inr gt) ↦ absurd (omega (arith, gt, to))
    ];
  }
