-- What is counted of an opened store, and what that tells.
use Rattle.std.proofs.Common.{◌≡◌, ℕ, suc, ◌+◌, ◌*◌, ◌<◌, ◌≤◌, List, length, Option, None, Ok, Err, Result, refl, sym, ◌∙◌, ap, ap₂, subst, arith, inl, inr}
use Rattle.std.specs.Borrow.{GName}
use Rattle.std.specs.Prelude.{IfOk, IfErr}
use Rattle.std.specs.Io.KnownBytes.{Appends}
use Rattle.seg_words.specs.Types.{Shape}
use Rattle.disk_model.specs.Types.{Meaning}
use Rattle.disk_model.specs.declared.disk.File.TheVariants.{Data, Log}
use Rattle.text_port.specs.Whole.{AppendsPrefix}
use Rattle.redo_model.specs.Records.{Record}
use Rattle.redo_model.specs.Model.{table_count, IsTable}
use Rattle.rollback_laws.specs.Closing.{closed}
use Rattle.store_files.specs.declared.fault.OpenFault.{OpenFault}
use Rattle.store_files.specs.declared.fault.OpenFault.TheVariants as opening
use Rattle.store_core.specs.Store.{Held, Read, IsTrue, with_disk}
use Rattle.store_core.specs.Survives.{Survives}
use Rattle.store_core.specs.Causes.{HasLooked, IsSoundFault}
use Rattle.store_core.specs.declared.fault.StoreFault.{StoreFault}
use Rattle.store_core.proofs.Lookups.{looked_same, looked_on, looked_ok}
use Rattle.space_usage.specs.Counting.{inexact_count}
use Rattle.store_core.specs.declared.fault.StoreFault.TheVariants as faults
use Rattle.recovery.specs.Refused.{IsRead}
use Rattle.assm.specs.Status.{status_of_open}
use Rattle.assm.specs.declared.checking.Counts.{Counts}
use Rattle.assm.specs.declared.status.Status.{Status}
use Rattle.assm.specs.declared.status.Status.TheVariants as the
use Rattle.assm.specs.Top.{StartsSound, NotOpened}
use Rattle.assm.specs.Ends.{Begins, StopsAs}
use Rattle.assm.specs.Checks.{inexact_to, AreCounts, StaysLeft, CountsTo, PrintsCounts, CheckTells}
use Rattle.assm.proofs.Ending.{left_over}

-- ---- table by table

-- the first n tables were counted; so few blocks don't overflow
pub record InexactSum {D : Type 0} (meaning : Meaning D) (old now : Held D) (tables n count : ℕ) : Type 0 where
  pub looked : HasLooked {T = Unit {0}} meaning old now (Ok tt)
  pub few : n ≤ tables
  pub small : count ≤ n * 4294967295
  pub sum : (R : List Record) → IsTrue meaning R old → tables ≡ table_count R → count ≡ inexact_to old.shape R n

pub sum_begun : {D : Type 0} (meaning : Meaning D) (s : Held D) (tables : ℕ) → s.fault ≡ None → InexactSum meaning s s tables 0 0
sum_begun meaning s tables unspent = record { looked = looked_same {T = Unit {0}} meaning s tt unspent; few = omega arith; small = omega arith; sum = λ R t e. refl }

table_there : (R : List Record) (tables n : ℕ) → n < tables → tables ≡ table_count R → IsTable R (n + 1)
table_there R tables n l e = record { least = omega arith; most = omega (arith, l, e) }

pub sum_step : {D : Type 0} (meaning : Meaning D) (old now next : Held D) (tables n count more sum : ℕ) → n < tables → sum ≡ count + more → sum ≤ (n + 1) * 4294967295 → InexactSum meaning old now tables n count → HasLooked {T = ℕ} meaning now next (Ok more)
    → ((R : List Record) → IsTrue meaning R now → IsTable R (n + 1) → more ≡ inexact_count now.shape R (n + 1)) → InexactSum meaning old next tables (n + 1) sum
sum_step meaning old now next tables n count more sum l is small h looked says =
    let one : n + 1 ≡ suc n = omega arith in
    record {
      looked = looked_ok {A = ℕ} {T = Unit {0}} meaning old next more tt (looked_on {A = Unit {0}} {T = ℕ} meaning old now next tt (Ok more) h.looked looked);
      few = omega (arith, l);
      small = small;
      sum = λ R t e.
          is ∙ subst (λ (m : ℕ). count + more ≡ inexact_to old.shape R m) (sym one)
          (ap₂ (λ (a b : ℕ). a + b) (h.sum R t e) (says R (h.looked.stays_true R t) (table_there R tables n l e) ∙ (ap (λ (sh : Shape). inexact_count sh R (n + 1)) h.looked.loan.shape ∙ ap (λ (m : ℕ). inexact_count old.shape R m) one)));
    }

pub sum_fails : {D : Type 0} (meaning : Meaning D) (old now next : Held D) (tables n count : ℕ) (fault : StoreFault) → InexactSum meaning old now tables n count → HasLooked {T = ℕ} meaning now next (Err fault) → HasLooked {T = ℕ} meaning old next (Err fault)
sum_fails meaning old now next tables n count fault h looked = looked_on {A = Unit {0}} {T = ℕ} meaning old now next tt (Err fault) h.looked looked

pub sum_sound : {D : Type 0} (meaning : Meaning D) (old now : Held D) (tables n count : ℕ) (fault : StoreFault) → old.fault ≡ None → n < tables → InexactSum meaning old now tables n count → ((R : List Record) → IsTrue meaning R now → IsTable R (n + 1) → now.fault ≡ None → IsSoundFault fault)
    → (R : List Record) → IsTrue meaning R old → tables ≡ table_count R → IsSoundFault fault
sum_sound meaning old now tables n count fault unspent l h sound R t e = sound R (h.looked.stays_true R t) (table_there R tables n l e) (h.looked.cause.kept unspent)

pub sum_all : {D : Type 0} (meaning : Meaning D) (old now : Held D) (tables n count : ℕ) → tables ≤ n → InexactSum meaning old now tables n count → (R : List Record) → IsTrue meaning R old → tables ≡ table_count R → count ≡ inexact_to old.shape R tables
sum_all meaning old now tables n count l h R t e = (let f = h.few in let same : n ≡ tables = omega (arith, l, f) in h.sum R t e ∙ ap (λ (m : ℕ). inexact_to old.shape R m) same)

module _ {D : Type 0} (meaning : Meaning D) where
  -- ---- the count

  module _ (since : ℕ) (data_bytes : List ℕ) (sh : Shape) (R : List Record) (disk disk' : D) (loan : GName) (loaded : Read D) (a b : Held D) (from : a ≡ with_disk disk loan loaded) (to : b.disk ≡ disk') (begins : Begins meaning since data_bytes sh R disk loaded) where
    stands : IsTrue meaning (closed R) a
    stands = subst (IsTrue meaning (closed R)) (sym from) (begins.opened loan).list

    shape_is : a.shape ≡ sh
    shape_is = ap (λ (s : Held D). s.shape) from ∙ (begins.opened loan).shape

    left_by : (r : Result Counts StoreFault) → HasLooked meaning a b r → StaysLeft meaning since data_bytes disk' sh R
    left_by r h =
        left_over meaning since (λ m. length R) (closed R) b disk' sh data_bytes to (h.loan.shape ∙ shape_is)
        (ap (λ (d : D). (meaning.files d).data_bytes) (h.loan.first ∙ ap (λ (s : Held D). s.first) from) ∙ begins.file)
        (h.survives since (λ m. length R) (closed R) stands (subst (Survives meaning since (λ m. length R) (closed R)) (sym from) (begins.survives loan)))

    pub counts_to : (r : Result Counts StoreFault) → HasLooked meaning a b r → ((Q : List Record) → IsTrue meaning Q a → IfOk r (AreCounts a.shape Q)) → ((Q : List Record) → IsTrue meaning Q a → IfErr r IsSoundFault) → CountsTo meaning since data_bytes disk' sh R r
    counts_to (Ok c) h says sound = (subst (λ (s : Shape). AreCounts s (closed R) c) shape_is (says (closed R) stands), left_by (Ok c) h)
    counts_to (Err faults.DeviceFault) h says sound = left_by (Err faults.DeviceFault) h
    counts_to (Err faults.NoMemory) h says sound = left_by (Err faults.NoMemory) h
    counts_to (Err (faults.BadPage d)) h says sound = absurd (sound (closed R) stands)

  -- ---- the status

  pub check_not_opened : (disk disk' : D) (old : Option (List ℕ)) (fault : OpenFault) → NotOpened meaning disk disk' old old fault → (fault ≡ opening.AlreadyFormatted → ⊥) → CheckTells meaning disk disk' old old (status_of_open fault)
  check_not_opened disk disk' old opening.DeviceFault h only = inl h
  check_not_opened disk disk' old opening.NotFormatted h only = h
  check_not_opened disk disk' old (opening.BadFile which offset seen) h only = inl h
  check_not_opened disk disk' old opening.AlreadyFormatted h only = absurd (only refl)
  check_not_opened disk disk' old opening.NoMemory h only = inl h

  module _ (disk : D) (shape : Shape) (read : meaning.told disk → IsRead shape (meaning.files disk)) where
    abbrev Counted : D → Result Counts StoreFault → Type 0
    Counted disk' r = (sh : Shape) (R : List Record) → StartsSound meaning disk sh R → CountsTo meaning (meaning.clock disk) (meaning.files disk).data_bytes disk' sh R r

    pub check_printed : (disk' : D) (old new : Option (List ℕ)) (c : Counts) (status : Status) → Counted disk' (Ok c) → PrintsCounts old new c status → CheckTells meaning disk disk' old new status
    check_printed disk' old new c the.Done counts h = (c, h, record { opened = record { shape = shape; read = read; left = λ sh R s. (let k = counts sh R s in (k.1, k.0)) } })
    check_printed disk' old new c the.WriteFault counts h = (c, h, record { opened = record { shape = shape; read = read; left = λ sh R s. (let k = counts sh R s in (k.1, k.0)) } })
    check_printed disk' old new c the.NoMemory counts h = inr (record { printed = h; opened = record { shape = shape; read = read; left = λ sh R s. ((counts sh R s).1, tt) } })
    check_printed disk' old new c the.BadWords counts h = absurd h
    check_printed disk' old new c (the.BadScript line why) counts h = absurd h
    check_printed disk' old new c the.DeviceFault counts h = absurd h
    check_printed disk' old new c (the.BadFile which offset seen) counts h = absurd h
    check_printed disk' old new c the.NotFormatted counts h = absurd h
    check_printed disk' old new c the.ReadFault counts h = absurd h
    check_printed disk' old new c the.ScriptTooLong counts h = absurd h
    check_printed disk' old new c the.AlreadyFormatted counts h = absurd h

    page_stops : (mid disk' : D) (old : Option (List ℕ)) (d : ℕ) (status : Status) → (meaning.told disk → meaning.told disk') → Counted mid (Err (faults.BadPage d)) → StopsAs meaning mid disk' (faults.BadPage d) status → CheckTells meaning disk disk' old old status
    page_stops mid disk' old d the.DeviceFault told counts h = inr (record { printed = refl; opened = record { shape = shape; read = read; left = λ sh R s. absurd (counts sh R s) } })
    page_stops mid disk' old d (the.BadFile Data offset seen) told counts h = inr (record {
      printed = refl;
      opened = record { shape = shape; read = read; left = λ sh R s. absurd (counts sh R s) };
      file = refl;
      block = d;
      begins = h.0;
      shows = λ t. h.1 (told t);
    })
    page_stops mid disk' old d (the.BadFile Log offset seen) told counts h = absurd h
    page_stops mid disk' old d the.Done told counts h = absurd h
    page_stops mid disk' old d the.BadWords told counts h = absurd h
    page_stops mid disk' old d (the.BadScript line why) told counts h = absurd h
    page_stops mid disk' old d the.NoMemory told counts h = absurd h
    page_stops mid disk' old d the.NotFormatted told counts h = absurd h
    page_stops mid disk' old d the.ReadFault told counts h = absurd h
    page_stops mid disk' old d the.WriteFault told counts h = absurd h
    page_stops mid disk' old d the.ScriptTooLong told counts h = absurd h
    page_stops mid disk' old d the.AlreadyFormatted told counts h = absurd h

    pub check_stopped : (mid disk' : D) (old : Option (List ℕ)) (fault : StoreFault) (status : Status) → (meaning.told disk → meaning.told disk') → Counted mid (Err fault) → StopsAs meaning mid disk' fault status → CheckTells meaning disk disk' old old status
    check_stopped mid disk' old faults.DeviceFault status told counts h =
        subst (λ (s : Status). CheckTells meaning disk disk' old old s) (sym h.0) (inr (record { printed = refl; opened = record { shape = shape; read = read; left = λ sh R s. (subst (λ (d : D). StaysLeft meaning (meaning.clock disk) (meaning.files disk).data_bytes d sh R) (sym h.1) (counts sh R s), tt) } }))
    check_stopped mid disk' old faults.NoMemory status told counts h =
        subst (λ (s : Status). CheckTells meaning disk disk' old old s) (sym h.0) (inr (record { printed = refl; opened = record { shape = shape; read = read; left = λ sh R s. (subst (λ (d : D). StaysLeft meaning (meaning.clock disk) (meaning.files disk).data_bytes d sh R) (sym h.1) (counts sh R s), tt) } }))
    check_stopped mid disk' old (faults.BadPage d) status told counts h = page_stops mid disk' old d status told counts h
