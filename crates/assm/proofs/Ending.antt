-- What the run of an opened store leaves, and how it ends.
use Rattle.std.proofs.Common.{◌≡◌, ℕ, ◌<◌, ◌≤◌, Bool, true, false, cond, ltb, List, length, slice_index, Option, Some, None, Ok, Err, Result, refl, sym, ap, ◌∙◌, subst, inl, arith, true≢false, le-ltb, ltb-false}
use Rattle.std.specs.Borrow.{GName}
use Rattle.std.specs.Prelude.{OnOk}
use Rattle.seg_words.specs.Types.{Shape}
use Rattle.disk_model.specs.Types.{Files, Meaning, Now, Always, IsSettled, Untouched}
use Rattle.disk_model.specs.declared.disk.File.TheVariants.{Data, Log}
use Rattle.redo_model.specs.Records.{Record}
use Rattle.redo_model.specs.Model.{is_active, Extends}
use Rattle.redo_model.specs.Lists.{same, more}
use Rattle.redo_laws.proofs.lists.Prefixes.{extends_length}
use Rattle.session_laws.specs.Sessions.{own_of}
use Rattle.session_laws.proofs.Own.{own_active}
use Rattle.rollback_laws.specs.Closing.{closed}
use Rattle.script_text.specs.Script.{Script}
use Rattle.history_model.specs.declared.history.HistoryItem.{HistoryItem}
use Rattle.history_model.specs.History.{AreInTime}
use Rattle.history_model.specs.Legal.{IsLegal}
use Rattle.history_model.specs.Running.{IsAtEnd}
use Rattle.store_files.specs.declared.fault.OpenFault.{OpenFault}
use Rattle.store_files.specs.declared.fault.OpenFault.TheVariants as opening
use Rattle.store_core.specs.Store.{Held, Read, IsTrue, with_disk}
use Rattle.store_core.specs.Survives.{IsSound, IsLeft, Survives, Rises}
use Rattle.store_core.specs.declared.fault.StoreFault.{StoreFault}
use Rattle.store_core.specs.declared.fault.StoreFault.TheVariants as faults
use Rattle.recovery.specs.FaultOf.{IsFirstByte, IsPageFault}
use Rattle.session_model.specs.Laws.{NoneActive}
use Rattle.session_core.specs.Acting.{KeepsLoan}
use Rattle.session_world.specs.Order.{precedes_same, AreFirstTurns, FollowsTurns, turns_whole}
use Rattle.session_world.specs.Whole.{HasRunScript, needed_by, turns_of}
use Rattle.session_world.specs.declared.fault.RunFault.{RunFault}
use Rattle.session_world.specs.declared.fault.RunFault.TheVariants as stops
use Rattle.assm.specs.Status.{status_of_open}
use Rattle.assm.specs.declared.status.Status.{Status}
use Rattle.assm.specs.declared.status.Status.TheVariants as the
use Rattle.assm.specs.Top.{StartsSound, Ran, RanLines, RanPrinted, RanWhole}
use Rattle.assm.specs.Ends.{Begins, RunsTo, EndsAs, IsBlockByte, StopsAs}

-- a session of an inactive list has no transaction
no_own : (R : List Record) (w : ℕ) (o : Option ℕ) → own_of R w ≡ o → ((t : ℕ) → is_active R t ≡ false) → own_of R w ≡ None
no_own R w None e none = e
no_own R w (Some t) e none = absurd (true≢false (sym (own_active R w t e) ∙ none t))

pub none_active : (R : List Record) → ((t : ℕ) → is_active R t ≡ false) → NoneActive R
none_active R none w = no_own R w (own_of R w) refl none

-- a first part that is no shorter is all
all_of : (Q R : List Record) → Extends Q R → length R ≤ length Q → Q ≡ R
all_of Q _ same l = refl
all_of Q _ (more {Q = S} r h) l = absurd (let k = extends_length Q S h in omega (arith, k, l))

both_files : (x y : Files) → x.log_bytes ≡ y.log_bytes → x.data_bytes ≡ y.data_bytes → x ≡ y
both_files x y l d = ap (λ (bytes : List ℕ). record x { log_bytes = bytes }) l ∙ ap (λ (bytes : List ℕ). record y { data_bytes = bytes }) d

-- so many before a moment, and all from it on
abbrev raised : ℕ → (ℕ → ℕ) → ℕ → ℕ → ℕ
raised moment needed all m = cond (ltb m moment) (needed m) all

raised_before : (moment a all m : ℕ) (b : Bool) → ltb m moment ≡ b → m < moment → cond b a all ≤ a
raised_before moment a all m true e lt = omega arith
raised_before moment a all m false e lt = absurd (omega (arith, ltb-false m moment e, lt))

module _ {D : Type 0} (meaning : Meaning D) where
  -- what a crash leaves of a store, as the files and the shape with which the run began have it
  pub left_over : (since : ℕ) (needed : ℕ → ℕ) (R : List Record) (b : Held D) (disk' : D) (sh : Shape) (data_bytes : List ℕ) → b.disk ≡ disk' → b.shape ≡ sh → (meaning.files b.first).data_bytes ≡ data_bytes → Survives meaning since needed R b → Always meaning since disk' (λ m image. IsLeft sh data_bytes R (needed m) image)
  left_over since needed R b disk' sh data_bytes d s f h =
      subst (λ (x : D). Always meaning since x (λ m image. IsLeft sh data_bytes R (needed m) image)) d
      (subst (λ (x : List ℕ). Always meaning since b.disk (λ m image. IsLeft sh x R (needed m) image)) f
      (subst (λ (x : Shape). Always meaning since b.disk (λ m image. IsLeft x (meaning.files b.first).data_bytes R (needed m) image)) s h.each))

  module _ (since : ℕ) (data_bytes : List ℕ) (sh : Shape) (R : List Record) (disk disk' : D) (loan : GName) (loaded : Read D) (a b : Held D) (script : Script) (old new : Option (List ℕ)) (from : a ≡ with_disk disk loan loaded) (to : b.disk ≡ disk') (begins : Begins meaning since data_bytes sh R disk loaded) (keeps : KeepsLoan meaning a b) where
    pub stands : IsTrue meaning (closed R) a
    stands = subst (IsTrue meaning (closed R)) (sym from) (begins.opened loan).list

    pub no_one : NoneActive (closed R)
    no_one = none_active (closed R) (begins.opened loan).closes.none_active

    shape_is : a.shape ≡ sh
    shape_is = ap (λ (s : Held D). s.shape) from ∙ (begins.opened loan).shape

    data_is : (meaning.files b.first).data_bytes ≡ data_bytes
    data_is = ap (λ (d : D). (meaning.files d).data_bytes) (keeps.first ∙ ap (λ (s : Held D). s.first) from) ∙ begins.file

    survives_on : (result : Result (Unit {0}) RunFault) → (run : HasRunScript meaning script (closed R) a b old new result) → Survives meaning since (needed_by (length R) run.ran.run.history) run.ran.run.records b
    survives_on result run = run.ran.run.survives since (length R) (subst (Survives meaning since (λ m. length R) (closed R)) (sym from) (begins.survives loan))

    -- the turns that were taken, of a store of this shape
    turns_are : {A : Type 0} (result : Result A RunFault) (all : List ℕ) (S : List Record) (T : List HistoryItem) → FollowsTurns a.shape script.sessions (closed R) all S T result → FollowsTurns sh script.sessions (closed R) all S T result
    turns_are result all S T h = subst (λ (s : Shape). FollowsTurns s script.sessions (closed R) all S T result) shape_is h

    first_of : (result : Result (Unit {0}) RunFault) (all : List ℕ) (S : List Record) (T : List HistoryItem) → FollowsTurns sh script.sessions (closed R) all S T result → AreFirstTurns sh script.sessions (closed R) all S T
    first_of (Ok done) all S T h = record { called = all; first = precedes_same; turns = turns_whole all S T h }
    first_of (Err fault) all S T h = h

    abbrev part_of : (result : Result (Unit {0}) RunFault) → HasRunScript meaning script (closed R) a b old new result → Ran meaning since data_bytes disk' old new sh R script
    part_of result run = record {
      records = run.ran.run.records;
      history = run.ran.run.history;
      legal = subst (λ (s : Shape). IsLegal s script.sessions (closed R) run.ran.run.records run.ran.run.history) shape_is run.ran.run.legal;
      in_time = subst (λ (d : D). AreInTime (meaning.clock d) run.ran.run.history) to run.ran.run.in_time;
      rounds = run.rounds;
      turns = first_of result (turns_of script run.rounds) run.ran.run.records run.ran.run.history (turns_are result (turns_of script run.rounds) run.ran.run.records run.ran.run.history run.ran.turns);
      took = run.ran.run.took;
      survives = left_over since (needed_by (length R) run.ran.run.history) run.ran.run.records b disk' sh data_bytes to (keeps.shape ∙ shape_is) data_is (survives_on result run);
    }

    -- all records are in each image from now on, where all are stable
    all_left : (done : Unit {0}) (run : HasRunScript meaning script (closed R) a b old new (Ok done)) (moment : ℕ) → moment ≡ meaning.clock b.disk → b.fault ≡ None
        → ((since : ℕ) (needed more : ℕ → ℕ) (Q : List Record) → IsTrue meaning Q b → b.fault ≡ None → Survives meaning since needed Q b → Rises needed more moment b.log.stable → Survives meaning since more Q b)
        → (image : Files) → Now meaning disk' image → IsLeft sh data_bytes run.ran.run.records (length run.ran.run.records) image
    all_left done run moment is unspent rises image crash =
        let needed : ℕ → ℕ = needed_by (length R) run.ran.run.history in
        let more : ℕ → ℕ = raised moment needed (length run.ran.run.records) in
        let goes : Rises needed more moment b.log.stable = record {
          before = λ m lt. raised_before moment (needed m) (length run.ran.run.records) m (ltb m moment) refl lt;
          since = λ m le. subst (λ (n : ℕ). n ≤ b.log.stable) (sym (ap (λ (t : Bool). cond t (needed m) (length run.ran.run.records)) (le-ltb m moment le))) (omega (arith, run.ran.run.stable));
        } in
        let lasts = rises since needed more run.ran.run.records run.ran.run.stands unspent (survives_on (Ok done) run) goes in
        let at : (m : ℕ) → meaning.clock disk' ≡ m → more m ≡ length run.ran.run.records = λ m e. ap (λ (t : Bool). cond t (needed m) (length run.ran.run.records)) (le-ltb m moment (omega (arith, is, ap meaning.clock to, e))) in
        let begun : since ≤ meaning.clock disk' = subst (λ (d : D). since ≤ meaning.clock d) to lasts.begun in
        subst (λ (n : ℕ). IsLeft sh data_bytes run.ran.run.records n image) (at (meaning.clock disk') refl)
        (left_over since more run.ran.run.records b disk' sh data_bytes to (keeps.shape ∙ shape_is) data_is lasts (meaning.clock disk') image begun (omega arith) crash)

    -- what is read then is what a crash leaves, and has all records
    starts_again : (Q : List Record) → IsTrue meaning Q b → b.fault ≡ None → ((d : D) → meaning.told d → Now meaning d (meaning.files d)) → ((image : Files) → Now meaning disk' image → IsLeft sh data_bytes Q (length Q) image) → StartsSound meaning disk' sh Q
    starts_again Q stood unspent as_read left =
        let log : IsSettled meaning disk' Log = subst (λ (d : D). IsSettled meaning d Log) to (stood.list.ready unspent).settled in
        let mine : IsLeft sh data_bytes Q (length Q) (meaning.files disk') = left (meaning.files disk') (as_read disk' log.told) in
        record {
          durable = record {
            told = log.told;
            durable = λ image crash. both_files image (meaning.files disk') (log.durable image crash) ((left image crash).data_stays ∙ sym mine.data_stays);
          };
          sound = subst (λ (S : List Record). IsSound sh S (meaning.files disk')) (all_of mine.older Q mine.part mine.enough) mine.sound;
        }

    pub ran_part : (result : Result (Unit {0}) RunFault) → HasRunScript meaning script (closed R) a b old new result → Ran meaning since data_bytes disk' old new sh R script
    ran_part result run = part_of result run

    -- all of it ran, with the history and the records of the run
    pub whole_of : (done : Unit {0}) (run : HasRunScript meaning script (closed R) a b old new (Ok done)) → b.fault ≡ None → (moment : ℕ) → moment ≡ meaning.clock b.disk
        → ((since : ℕ) (needed more : ℕ → ℕ) (Q : List Record) → IsTrue meaning Q b → b.fault ≡ None → Survives meaning since needed Q b → Rises needed more moment b.log.stable → Survives meaning since more Q b)
        → ((d : D) → meaning.told d → Now meaning d (meaning.files d)) → (w : RanWhole meaning since data_bytes disk' old new sh R script) × (w.ran.history ≡ run.ran.run.history) × (w.ran.records ≡ run.ran.run.records)
    whole_of done run unspent moment is rises as_read = (
      record {
        ran = part_of (Ok done) run;
        all = turns_are (Ok done) (turns_of script run.rounds) run.ran.run.records run.ran.run.history run.ran.turns;
        printed = run.ran.run.printed;
        over = subst (λ (d : D). IsAtEnd sh script.sessions (closed R) run.ran.run.records run.ran.run.history (meaning.clock d)) to (subst (λ (s : Shape). IsAtEnd s script.sessions (closed R) run.ran.run.records run.ran.run.history (meaning.clock b.disk)) shape_is run.ran.run.over);
        stable = all_left done run moment is unspent rises;
        again = starts_again run.ran.run.records run.ran.run.stands unspent as_read (all_left done run moment is unspent rises);
      },
      refl,
      refl,
    )

    pub runs_to : (result : Result (Unit {0}) RunFault) → ((R0 : List Record) → IsTrue meaning R0 a → NoneActive R0 → HasRunScript meaning script R0 a b old new result) → OnOk result (b.fault ≡ None) → (moment : ℕ) → moment ≡ meaning.clock b.disk
        → ((since : ℕ) (needed more : ℕ → ℕ) (Q : List Record) → IsTrue meaning Q b → b.fault ≡ None → Survives meaning since needed Q b → Rises needed more moment b.log.stable → Survives meaning since more Q b)
        → ((d : D) → meaning.told d → Now meaning d (meaning.files d)) → RunsTo meaning since data_bytes disk' old new sh R script result
    runs_to (Ok done) ran unspent moment is rises as_read = (whole_of done (ran (closed R) stands no_one) unspent moment is rises as_read).0
    runs_to (Err stops.WriteFault) ran unspent moment is rises as_read = part_of (Err stops.WriteFault) (ran (closed R) stands no_one)
    runs_to (Err (stops.Store faults.DeviceFault)) ran unspent moment is rises as_read =
        let run = ran (closed R) stands no_one in
        record { ran = part_of (Err (stops.Store faults.DeviceFault)) run; printed = run.ran.run.printed }
    runs_to (Err (stops.Store faults.NoMemory)) ran unspent moment is rises as_read =
        let run = ran (closed R) stands no_one in
        record { ran = part_of (Err (stops.Store faults.NoMemory)) run; lines = run.ran.run.printed }
    runs_to (Err (stops.Store (faults.BadPage dba))) ran unspent moment is rises as_read = absurd (ran (closed R) stands no_one).ran.run.sound

  -- ---- the status
  -- the byte of a page that is wrong
  pub block_byte : (disk disk' : D) (d : ℕ) (fault : OpenFault) → Untouched meaning disk disk' → IsPageFault d fault → (meaning.told disk → IsFirstByte (meaning.files disk) d fault) → IsBlockByte meaning disk' d (status_of_open fault)
  block_byte disk disk' d opening.DeviceFault look place byte = tt
  block_byte disk disk' d (opening.BadFile Data offset seen) look place byte = (place, λ told. let was = look.told.0 told in (byte was).1 ∙ ap (λ (f : Files). slice_index f.data_bytes offset) (sym (look.files was)))
  block_byte disk disk' d (opening.BadFile Log offset seen) look place byte = absurd place
  block_byte disk disk' d opening.NotFormatted look place byte = absurd place
  block_byte disk disk' d opening.AlreadyFormatted look place byte = absurd place
  block_byte disk disk' d opening.NoMemory look place byte = absurd place

  -- a run that stopped at a fault of the store ends so
  pub ends_as : (since : ℕ) (data_bytes : List ℕ) (disk disk' : D) (sh : Shape) (R : List Record) (script : Script) (old new : Option (List ℕ)) (fault : StoreFault) (status : Status) → StopsAs meaning disk disk' fault status → RunsTo meaning since data_bytes disk old new sh R script (Err (stops.Store fault)) → EndsAs meaning since data_bytes disk' old new sh R script status
  ends_as since data_bytes disk disk' sh R script old new faults.DeviceFault status h ran =
      subst (λ (s : Status). EndsAs meaning since data_bytes disk' old new sh R script s) (sym h.0) (subst (λ (d : D). RanPrinted meaning since data_bytes d old new sh R script) (sym h.1) ran)
  ends_as since data_bytes disk disk' sh R script old new faults.NoMemory status h ran =
      subst (λ (s : Status). EndsAs meaning since data_bytes disk' old new sh R script s) (sym h.0) (subst (λ (d : D). RanLines meaning since data_bytes d old new sh R script) (sym h.1) ran)
  ends_as since data_bytes disk disk' sh R script old new (faults.BadPage d) status h ran = absurd ran
