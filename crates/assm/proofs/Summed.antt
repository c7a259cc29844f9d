-- What a run comes to that is summed up, and what that tells.
use Rattle.std.proofs.Common.{◌≡◌, ℕ, ◌<◌, ◌≤◌, List, Option, None, Ok, Err, Result, refl, sym, ◌∙◌, ap, subst, inl, inr, arith}
use Rattle.std.specs.Borrow.{GName}
use Rattle.std.specs.Prelude.{◌^◌, OnOk}
use Rattle.seg_words.specs.Types.{Rose, Shape}
use Rattle.disk_model.specs.Types.{Files, Meaning, Now}
use Rattle.disk_model.specs.declared.disk.File.TheVariants.{Data, Log}
use Rattle.redo_model.specs.Records.{Record}
use Rattle.redo_model.specs.Model.{commit_count}
use Rattle.rollback_laws.specs.Closing.{closed}
use Rattle.script_text.specs.Script.{Script}
use Rattle.script_text.specs.declared.why.Why.{Why}
use Rattle.script_text.specs.Grammar.{scripts_of}
use Rattle.script_text.specs.Spelled.{IsScript, printed}
use Rattle.script_text.proofs.ScriptSaid.{printed_says}
use Rattle.script_gen.specs.Generated.{generated}
use Rattle.script_gen.specs.Summed.{totals_of}
use Rattle.script_gen.proofs.InGrammar.{in_grammar}
use Rattle.history_model.specs.declared.history.HistoryItem.{HistoryItem}
use Rattle.history_model.specs.Types.{entries_of}
use Rattle.store_files.specs.declared.fault.OpenFault.{OpenFault}
use Rattle.store_files.specs.declared.fault.OpenFault.TheVariants as opening
use Rattle.store_core.specs.Store.{Held, HasList, IsTrue, Read, with_disk}
use Rattle.store_core.specs.Survives.{Survives, Rises}
use Rattle.store_core.specs.Causes.{IsSoundFault}
use Rattle.store_core.specs.declared.fault.StoreFault.{StoreFault}
use Rattle.store_core.specs.declared.fault.StoreFault.TheVariants as faults
use Rattle.recovery.specs.Refused.{IsRead}
use Rattle.session_model.specs.Laws.{NoneActive}
use Rattle.session_core.specs.Acting.{KeepsLoan}
use Rattle.session_step.specs.declared.forms.TheConstants.{BUILT_FORMS}
use Rattle.session_world.specs.declared.fault.RunFault.{RunFault}
use Rattle.session_world.specs.declared.fault.RunFault.TheVariants as stops
use Rattle.session_world.specs.Whole.{HasRunScript, HasRunIn}
use Rattle.assm.specs.declared.generating.Sum.{Sum}
use Rattle.assm.specs.declared.status.Status.{Status}
use Rattle.assm.specs.declared.status.Status.TheVariants as the
use Rattle.assm.specs.Status.{status_of_open}
use Rattle.assm.specs.Top.{StartsSound, Ran, IsAccepted, NotOpened}
use Rattle.assm.specs.Ends.{Begins, StopsAs}
use Rattle.assm.specs.Generates.{HasSummed, PrintsSum, SumsHistory, SumsTo, SumTells}
use Rattle.assm.proofs.Ending.{stands, no_one, ran_part, whole_of}

-- ---- the script that is made from a number is in the grammar

pub is_script : (number rows : ℕ) → rows < 2 ^ 16 → IsScript BUILT_FORMS (generated number rows)
unfolding generated
is_script number rows small = in_grammar BUILT_FORMS number rows small (record { built = refl; ready = refl; spelled = refl })

pub made_says : (number rows : ℕ) → rows < 2 ^ 16 → scripts_of BUILT_FORMS (printed (generated number rows)) ≡ Ok (generated number rows)
made_says number rows small = printed_says BUILT_FORMS (generated number rows) (is_script number rows small)

-- ---- a run whose sink doesn't fail

-- a count of faults that stays 0 hasn't risen
pub never_rose : Rose 0 0 → ⊥
never_rose h = omega (arith, h)

pub on_ok : {T E : Type 0} (r : Result T E) (A : Type 0) → A → OnOk r A
on_ok (Ok x) A a = a
on_ok (Err e) A a = tt

pub at_ok : (ran : Result (Unit {0}) RunFault) (A : Type 0) → ran ≡ Ok tt → OnOk ran A → A
at_ok ran A e h = subst (λ (r : Result (Unit {0}) RunFault). OnOk r A) e h

other_fault : faults.DeviceFault ≡ faults.NoMemory → ⊥
other_fault e = absurd (cc e)

-- a history is summed up without the disk
pub never_device : (T : List HistoryItem) (commits : ℕ) (r : Result Sum StoreFault) → SumsHistory T commits r → r ≡ Err faults.DeviceFault → ⊥
never_device T commits r h e = other_fault (subst (λ (z : Result Sum StoreFault). SumsHistory T commits z) e h)

pub device_of : (ran : Result (Unit {0}) RunFault) (fault : StoreFault) → ran ≡ Err (stops.Store fault) → ◌≡◌ {A = Result Sum StoreFault} (Err fault) (Err faults.DeviceFault) → ran ≡ Err (stops.Store faults.DeviceFault)
device_of ran fault is e =
    let same : fault ≡ faults.DeviceFault = cc in
    is ∙ ap (λ (f : StoreFault). Err (stops.Store f)) same

module _ {D : Type 0} (meaning : Meaning D) where
  module _ (script : Script) (R0 : List Record) (a b : Held D) where
    pub has_summed : (T : List HistoryItem) (commits : ℕ) (r : Result Sum StoreFault) → HasRunIn meaning script R0 a b None None T (Ok tt) → ((R : List Record) → HasList meaning R b → commits ≡ commit_count R) → SumsHistory T commits r → HasSummed meaning script R0 a b r
    has_summed T commits (Ok sum) h counts s = record {
      ran = h.whole;
      totals = s.0 ∙ ap (λ (U : List HistoryItem). totals_of (entries_of U)) (sym h.history);
      commits = s.1 ∙ counts h.whole.ran.run.records h.whole.ran.run.stands.list;
    }
    has_summed T commits (Err fault) h counts s = record { answer = Ok tt; ran = h.whole; sound = subst IsSoundFault (sym s) tt }

    pub lacks_sum : (fault : StoreFault) → HasRunScript meaning script R0 a b None None (Err (stops.Store fault)) → HasSummed meaning script R0 a b (Err fault)
    lacks_sum fault h = record { answer = Err (stops.Store fault); ran = h; sound = h.ran.run.sound }

  -- ---- over files

  module _ (since : ℕ) (data_bytes : List ℕ) (sh : Shape) (R : List Record) (disk disk' : D) (loan : GName) (loaded : Read D) (a b : Held D) (script : Script) (from : a ≡ with_disk disk loan loaded) (to : b.disk ≡ disk') (begins : Begins meaning since data_bytes sh R disk loaded) (keeps : KeepsLoan meaning a b) where
    pub sums_to : (r : Result Sum StoreFault) → ((R0 : List Record) → IsTrue meaning R0 a → NoneActive R0 → HasSummed meaning script R0 a b r) → OnOk r (b.fault ≡ None) → (moment : ℕ) → moment ≡ meaning.clock b.disk
        → ((since : ℕ) (needed more : ℕ → ℕ) (Q : List Record) → IsTrue meaning Q b → b.fault ≡ None → Survives meaning since needed Q b → Rises needed more moment b.log.stable → Survives meaning since more Q b)
        → ((d : D) → meaning.told d → Now meaning d (meaning.files d)) → SumsTo meaning since data_bytes disk' sh R script r
    sums_to (Ok sum) ran unspent moment is rises as_read =
        let h = ran (closed R) (stands meaning since data_bytes sh R disk disk' loan loaded a b script None None from to begins keeps) (no_one meaning since data_bytes sh R disk disk' loan loaded a b script None None from to begins keeps) in
        let w = whole_of meaning since data_bytes sh R disk disk' loan loaded a b script None None from to begins keeps tt h.ran unspent moment is rises as_read in
        record {
          whole = w.0;
          totals = h.totals ∙ ap (λ (T : List HistoryItem). totals_of (entries_of T)) (sym w.1);
          commits = h.commits ∙ ap commit_count (sym w.2);
        }
    sums_to (Err faults.DeviceFault) ran unspent moment is rises as_read =
        let h = ran (closed R) (stands meaning since data_bytes sh R disk disk' loan loaded a b script None None from to begins keeps) (no_one meaning since data_bytes sh R disk disk' loan loaded a b script None None from to begins keeps) in
        ran_part meaning since data_bytes sh R disk disk' loan loaded a b script None None from to begins keeps h.answer h.ran
    sums_to (Err faults.NoMemory) ran unspent moment is rises as_read =
        let h = ran (closed R) (stands meaning since data_bytes sh R disk disk' loan loaded a b script None None from to begins keeps) (no_one meaning since data_bytes sh R disk disk' loan loaded a b script None None from to begins keeps) in
        ran_part meaning since data_bytes sh R disk disk' loan loaded a b script None None from to begins keeps h.answer h.ran
    sums_to (Err (faults.BadPage d)) ran unspent moment is rises as_read =
        absurd (ran (closed R) (stands meaning since data_bytes sh R disk disk' loan loaded a b script None None from to begins keeps) (no_one meaning since data_bytes sh R disk disk' loan loaded a b script None None from to begins keeps)).sound

  -- ---- the status

  pub sum_not_opened : (disk disk' : D) (old : Option (List ℕ)) (text : List ℕ) (fault : OpenFault) → IsAccepted text → NotOpened meaning disk disk' old old fault → (fault ≡ opening.AlreadyFormatted → ⊥) → SumTells meaning disk disk' old old (status_of_open fault) text
  sum_not_opened disk disk' old text opening.DeviceFault accepted h only = inl (accepted, h)
  sum_not_opened disk disk' old text opening.NotFormatted accepted h only = (accepted, h)
  sum_not_opened disk disk' old text (opening.BadFile which offset seen) accepted h only = inl (accepted, h)
  sum_not_opened disk disk' old text opening.AlreadyFormatted accepted h only = absurd (only refl)
  sum_not_opened disk disk' old text opening.NoMemory accepted h only = inr (inl (accepted, h))

  module _ (disk : D) (text : List ℕ) (script : Script) (shape : Shape) (says : scripts_of BUILT_FORMS text ≡ Ok script) (read : meaning.told disk → IsRead shape (meaning.files disk)) where
    abbrev Comes : D → Result Sum StoreFault → Type 0
    Comes disk' r = (sh : Shape) (R : List Record) → StartsSound meaning disk sh R → SumsTo meaning (meaning.clock disk) (meaning.files disk).data_bytes disk' sh R script r

    pub sum_printed : (disk' : D) (old new : Option (List ℕ)) (sum : Sum) (status : Status) → Comes disk' (Ok sum) → PrintsSum old new sum status → SumTells meaning disk disk' old new status text
    sum_printed disk' old new sum the.Done comes h = (sum, h, record { script = script; says = says; shape = shape; read = read; ran = comes })
    sum_printed disk' old new sum the.WriteFault comes h = (sum, h, record { script = script; says = says; shape = shape; read = read; ran = comes })
    sum_printed disk' old new sum the.NoMemory comes h = inr (inr (record { printed = h; opened = record { script = script; says = says; shape = shape; read = read; ran = λ sh R s. (comes sh R s).whole.ran } }))
    sum_printed disk' old new sum the.BadWords comes h = absurd h
    sum_printed disk' old new sum (the.BadScript line why) comes h = absurd h
    sum_printed disk' old new sum the.DeviceFault comes h = absurd h
    sum_printed disk' old new sum (the.BadFile which offset seen) comes h = absurd h
    sum_printed disk' old new sum the.NotFormatted comes h = absurd h
    sum_printed disk' old new sum the.ReadFault comes h = absurd h
    sum_printed disk' old new sum the.ScriptTooLong comes h = absurd h
    sum_printed disk' old new sum the.AlreadyFormatted comes h = absurd h

    page_breaks : (mid disk' : D) (old : Option (List ℕ)) (d : ℕ) (status : Status) → (meaning.told disk → meaning.told disk') → Comes mid (Err (faults.BadPage d)) → StopsAs meaning mid disk' (faults.BadPage d) status → SumTells meaning disk disk' old old status text
    page_breaks mid disk' old d the.DeviceFault told comes h = inr (record { printed = refl; opened = record { script = script; says = says; shape = shape; read = read; ran = λ sh R s. absurd (comes sh R s) } })
    page_breaks mid disk' old d (the.BadFile Data offset seen) told comes h = inr (record {
      printed = refl;
      breaks = record {
        opened = record { script = script; says = says; shape = shape; read = read; ran = λ sh R s. absurd (comes sh R s) };
        file = refl;
        block = d;
        begins = h.0;
        shows = λ t. h.1 (told t);
      };
    })
    page_breaks mid disk' old d (the.BadFile Log offset seen) told comes h = absurd h
    page_breaks mid disk' old d the.Done told comes h = absurd h
    page_breaks mid disk' old d the.BadWords told comes h = absurd h
    page_breaks mid disk' old d (the.BadScript line why) told comes h = absurd h
    page_breaks mid disk' old d the.NoMemory told comes h = absurd h
    page_breaks mid disk' old d the.NotFormatted told comes h = absurd h
    page_breaks mid disk' old d the.ReadFault told comes h = absurd h
    page_breaks mid disk' old d the.WriteFault told comes h = absurd h
    page_breaks mid disk' old d the.ScriptTooLong told comes h = absurd h
    page_breaks mid disk' old d the.AlreadyFormatted told comes h = absurd h

    -- stopped in the run, or behind it, with nothing printed
    ran_in : (mid disk' : D) (old : Option (List ℕ)) → disk' ≡ mid → ((sh : Shape) (R : List Record) → StartsSound meaning disk sh R → Ran meaning (meaning.clock disk) (meaning.files disk).data_bytes mid None None sh R script) → (sh : Shape) (R : List Record) → StartsSound meaning disk sh R → Ran meaning (meaning.clock disk) (meaning.files disk).data_bytes disk' None None sh R script
    ran_in mid disk' old same ran sh R s = subst (λ (d : D). Ran meaning (meaning.clock disk) (meaning.files disk).data_bytes d None None sh R script) (sym same) (ran sh R s)

    pub sum_stopped : (mid disk' : D) (old : Option (List ℕ)) (fault : StoreFault) (status : Status) → (meaning.told disk → meaning.told disk') → Comes mid (Err fault) → StopsAs meaning mid disk' fault status → SumTells meaning disk disk' old old status text
    sum_stopped mid disk' old faults.DeviceFault status told comes h =
        subst (λ (s : Status). SumTells meaning disk disk' old old s text) (sym h.0) (inr (record { printed = refl; opened = record { script = script; says = says; shape = shape; read = read; ran = ran_in mid disk' old h.1 comes } }))
    sum_stopped mid disk' old faults.NoMemory status told comes h =
        subst (λ (s : Status). SumTells meaning disk disk' old old s text) (sym h.0) (inr (inr (record { printed = refl; opened = record { script = script; says = says; shape = shape; read = read; ran = ran_in mid disk' old h.1 comes } })))
    sum_stopped mid disk' old (faults.BadPage d) status told comes h = page_breaks mid disk' old d status told comes h

  -- ---- statuses that don't come
  pub sum_no_words : (disk disk' : D) (old new : Option (List ℕ)) (text : List ℕ) (s : Status) → SumTells meaning disk disk' old new s text → s ≡ the.BadWords → ⊥
  sum_no_words disk disk' old new text s h e = subst (λ (z : Status). SumTells meaning disk disk' old new z text) e h

  pub sum_no_script : (disk disk' : D) (old new : Option (List ℕ)) (text : List ℕ) (line : ℕ) (why : Why) (s : Status) → SumTells meaning disk disk' old new s text → s ≡ the.BadScript line why → ⊥
  sum_no_script disk disk' old new text line why s h e = subst (λ (z : Status). SumTells meaning disk disk' old new z text) e h
