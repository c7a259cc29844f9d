-- What a crash leaves, call after call.
use Rattle.std.proofs.Common.{◌≡◌, inl, inr, ℕ, ◌≤◌, List, [], ◌∷◌, ◌++◌, length, refl, sym, ap, subst, ◌∙◌, length-append, arith}
use Rattle.std.specs.Prelude.{None}
use Rattle.std.proofs.lemmas.Bool.{cases_order}
use Rattle.seg_words.specs.Types.{Shape}
use Rattle.disk_model.specs.Files.{Files, put}
use Rattle.disk_model.specs.Crash.{Meaning, Now, Leaves}
use Rattle.disk_model.specs.Only.{OnlyFile}
use Rattle.disk_model.specs.declared.disk.File.TheVariants.{Log}
use Rattle.log_frame.specs.Spelling.{IsLog}
use Rattle.store_files.specs.Store.{data_size}
use Rattle.redo_model.specs.Records.{Record}
use Rattle.redo_model.specs.Model.{AreAllowed, IsLawful}
use Rattle.redo_model.specs.Lists.{Extends, same, more}
use Rattle.redo_log.specs.Kept.{Kept, Holds, HasRecords, HasList as HasLogList, with_group, spelled}
use Rattle.redo_log.specs.Lasting.{GroupOrNone}
use Rattle.redo_log.proofs.Walking.{holds_more}
use Rattle.redo_record.specs.Spelling.{spelling}
use Rattle.store_core.specs.Survives.{IsLeft, Survives, Rises}
use Rattle.store_core.specs.Store.{Held, IsTrue}

pub begins_with : (newer older : List Record) → Extends older (newer ++ older)
begins_with [] older = same
begins_with (r ∷ newer) older = more r (begins_with newer older)

pub allowed_part : (sh : Shape) (newer older : List Record) → AreAllowed sh (newer ++ older) → AreAllowed sh older
allowed_part sh [] older h = h
allowed_part sh (r ∷ newer) older h = allowed_part sh newer older h.0

pub none_newer : (newer : List Record) → spelled newer ≡ [] → newer ≡ []
none_newer [] h = refl
none_newer (r ∷ R) h = absurd (omega (arith, ap (λ (x : List ℕ). length x) h, length-append (spelled R) (spelling r)))

-- the groups with what waits hold all records
pub holds_all : (groups : List (List ℕ)) (R : List Record) (log : Kept) → HasLogList groups [] R log → Holds (with_group groups log.waiting.bytes) [] R
holds_all groups R log list = by log.waiting.bytes list.has.bytes
  where
    by : (bytes : List ℕ) → bytes ≡ spelled list.has.newer → Holds (with_group groups bytes) [] R
    by [] none = let nobody : list.has.newer ≡ [] = none_newer list.has.newer (sym none) in subst (Holds groups []) (sym (list.has.split ∙ ap (λ (l : List Record). l ++ list.has.older) nobody)) list.holds
    by (b ∷ bytes) is = subst (Holds (groups ++ (b ∷ bytes) ∷ []) []) (sym list.has.split) (holds_more groups [] list.has.older list.has.newer (b ∷ bytes) list.holds is list.has.spelled)

pub stable_within : (R : List Record) (log : Kept) → HasRecords R log → log.stable ≤ length R
stable_within R log h = omega (arith, h.stable, ap (λ (l : List Record). length l) h.split, length-append h.newer h.older)

pub stable_below : (R : List Record) (log : Kept) → HasRecords R log → log.stable ≤ log.count
stable_below R log h = omega (arith, h.stable, h.count, ap (λ (l : List Record). length l) h.split, length-append h.newer h.older)

-- an image with the stable records
module _ {D : Type 0} (meaning : Meaning D) (R : List Record) (s : Held D) (t : IsTrue meaning R s) (blocks_bytes : List ℕ) (blocks : data_size s.shape ≤ length blocks_bytes) where
  older : List Record
  older = t.list.list.has.older

  older_lawful : IsLawful s.shape older
  unfolding older
  older_lawful = record {
    allowed = allowed_part s.shape t.list.list.has.newer t.list.list.has.older (subst (AreAllowed s.shape) t.list.list.has.split t.lawful.allowed);
    whole = t.stable t.list.list.has.older t.list.list.holds;
  }

  pub stable_left : (needed : ℕ) (image : Files) → needed ≤ s.log.stable → IsLog s.shape t.list.groups image.log_bytes → image.data_bytes ≡ blocks_bytes → IsLeft s.shape blocks_bytes R needed image
  unfolding older
  stable_left needed image enough log data_is = record {
    older = t.list.list.has.older;
    part = subst (Extends t.list.list.has.older) (sym t.list.list.has.split) (begins_with t.list.list.has.newer t.list.list.has.older);
    enough = omega (arith, enough, t.list.list.has.stable);
    sound = record {
      log = record { groups = t.list.groups; log = log; holds = t.list.list.holds };
      lawful = older_lawful;
      blocks = subst (λ (b : List ℕ). data_size s.shape ≤ length b) (sym data_is) blocks;
    };
    data_stays = data_is;
  }

  pub all_left : (needed : ℕ) (image : Files) → needed ≤ s.log.stable → IsLog s.shape (with_group t.list.groups s.log.waiting.bytes) image.log_bytes → image.data_bytes ≡ blocks_bytes → IsLeft s.shape blocks_bytes R needed image
  all_left needed image enough log data_is = record {
    older = R;
    part = same;
    enough = omega (arith, enough, stable_within R s.log t.list.list.has);
    sound = record {
      log = record { groups = with_group t.list.groups s.log.waiting.bytes; log = log; holds = holds_all t.list.groups R s.log t.list.list };
      lawful = t.lawful;
      blocks = subst (λ (b : List ℕ). data_size s.shape ≤ length b) (sym data_is) blocks;
    };
    data_stays = data_is;
  }

data_of_put : (file : List ℕ) (image was : Files) → image ≡ put Log file was → image.data_bytes ≡ was.data_bytes
data_of_put file image was e = ap (λ (f : Files). f.data_bytes) e

-- while what waits is written
module _ {D : Type 0} (meaning : Meaning D) (since : ℕ) (needed : ℕ → ℕ) (R : List Record) (s : Held D) (t : IsTrue meaning R s) (unspent : s.fault ≡ None) (h : Survives meaning since needed R s) where
  was_left : (was : Files) → Now meaning s.disk was → IsLeft s.shape (meaning.files s.first).data_bytes R (needed (meaning.clock s.disk)) was
  was_left was now = h.each (meaning.clock s.disk) was h.begun (omega arith) now

  pub run_left : (m : ℕ) (image : Files) → OnlyFile meaning s.disk Log (GroupOrNone s.shape t.list.groups s.log.waiting.bytes) image → IsLeft s.shape (meaning.files s.first).data_bytes R (needed m) image
  run_left m image only =
      let was = was_left only.was only.before in
      let data_is : image.data_bytes ≡ (meaning.files s.first).data_bytes = data_of_put image.log_bytes image only.was only.rest ∙ was.data_stays in
      let blocks : data_size s.shape ≤ length (meaning.files s.first).data_bytes = subst (λ (b : List ℕ). data_size s.shape ≤ length b) was.data_stays was.sound.blocks in
      elim only.holds [
        | inl log ↦ stable_left meaning R s t (meaning.files s.first).data_bytes blocks (needed m) image (h.made m) log data_is
        | inr log ↦ all_left meaning R s t (meaning.files s.first).data_bytes blocks (needed m) image (h.made m) log data_is
      ]

  -- the store after the write
  pub survives_run : (new : Held D) → new.shape ≡ s.shape → new.first ≡ s.first → s.log.stable ≤ new.log.stable
      → Leaves meaning s.disk new.disk (OnlyFile meaning s.disk Log (GroupOrNone s.shape t.list.groups s.log.waiting.bytes)) → Survives meaning since needed R new
  survives_run new shape first stable leaves = record {
    begun = omega (arith, h.begun, leaves.later);
    made = λ m. omega (arith, h.made m, stable);
    each = λ m image from to is. moved (needed m) image (elim (leaves.each m image to is) [
      | inl old ↦ h.each m image from (omega (arith, old.0)) old.1
      | inr run ↦ run_left m image run.1
    ]);
  }
    where
      moved : (n : ℕ) (image : Files) → IsLeft s.shape (meaning.files s.first).data_bytes R n image → IsLeft new.shape (meaning.files new.first).data_bytes R n image
      moved n image left = subst (λ (sh : Shape). IsLeft sh (meaning.files new.first).data_bytes R n image) (sym shape) (subst (λ (d : D). IsLeft s.shape (meaning.files d).data_bytes R n image) (sym first) left)

  -- what is stable now is in each image from now on
  pub survives_needed : (rising : ℕ → ℕ) → Rises needed rising (meaning.clock s.disk) s.log.stable → Survives meaning since rising R s
  survives_needed rising rises = record {
    begun = h.begun;
    made = λ m. elim (cases_order m (meaning.clock s.disk)) [
      | inl at ↦ rises.since m (omega (arith, at))
      | inr (inl lt) ↦ omega (arith, rises.before m lt, h.made m)
      | inr (inr gt) ↦ rises.since m (omega (arith, gt))
    ];
    each = λ m image from to is. elim (cases_order m (meaning.clock s.disk)) [
      | inl at ↦ now_left m image (omega (arith, at)) (subst (λ (n : ℕ). meaning.crash_at s.disk n image) at is)
      | inr (inl lt) ↦ (let left = h.each m image from to is in record { older = left.older; part = left.part; enough = omega (arith, left.enough, rises.before m lt); sound = left.sound; data_stays = left.data_stays })
      | inr (inr gt) ↦ absurd (omega (arith, gt, to))
    ];
  }
    where
      now_left : (m : ℕ) (image : Files) → meaning.clock s.disk ≤ m → Now meaning s.disk image → IsLeft s.shape (meaning.files s.first).data_bytes R (rising m) image
      now_left m image at now =
          let was = was_left image now in
          let ready = t.list.ready unspent in
          let blocks : data_size s.shape ≤ length (meaning.files s.first).data_bytes = subst (λ (b : List ℕ). data_size s.shape ≤ length b) was.data_stays was.sound.blocks in
          stable_left meaning R s t (meaning.files s.first).data_bytes blocks (rising m) image (rises.since m at) (subst (IsLog s.shape t.list.groups) (sym (ready.settled.durable image now)) ready.log) was.data_stays

-- records that are added
pub still_part : (newer older R : List Record) → Extends older R → Extends older (newer ++ R)
still_part [] older R h = h
still_part (r ∷ newer) older R h = more r (still_part newer older R h)

pub survives_more : {D : Type 0} (meaning : Meaning D) (since : ℕ) (needed : ℕ → ℕ) (newer R : List Record) (s new : Held D) → new.disk ≡ s.disk → new.shape ≡ s.shape → new.first ≡ s.first → new.log.stable ≡ s.log.stable
    → Survives meaning since needed R s → Survives meaning since needed (newer ++ R) new
survives_more {D = D} meaning since needed newer R s new disk shape first stable h = record {
  begun = subst (λ (d : D). since ≤ meaning.clock d) (sym disk) h.begun;
  made = λ m. omega (arith, h.made m, stable);
  each = λ m image from to is. moved m image (h.each m image from (subst (λ (d : D). m ≤ meaning.clock d) disk to) (subst (λ (d : D). meaning.crash_at d m image) disk is));
}
  where
    moved : (m : ℕ) (image : Files) → IsLeft s.shape (meaning.files s.first).data_bytes R (needed m) image → IsLeft new.shape (meaning.files new.first).data_bytes (newer ++ R) (needed m) image
    moved m image left = subst (λ (sh : Shape). IsLeft sh (meaning.files new.first).data_bytes (newer ++ R) (needed m) image) (sym shape) (subst (λ (d : D). IsLeft s.shape (meaning.files d).data_bytes (newer ++ R) (needed m) image) (sym first)
        (record { older = left.older; part = still_part newer left.older R left.part; enough = left.enough; sound = left.sound; data_stays = left.data_stays }))
