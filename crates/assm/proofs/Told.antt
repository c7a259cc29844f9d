-- What the top call tells.
use Rattle.std.proofs.Common.{◌≡◌, ◌⊎◌, ℕ, List, length, Option, refl, ap, inl, inr, subst, Ok}
use Rattle.seg_words.specs.Types.{Shape}
use Rattle.disk_model.specs.Types.{Meaning, Files, Untouched, IsSettled}
use Rattle.disk_model.specs.declared.disk.File.TheVariants.{Data, Log}
use Rattle.redo_model.specs.Records.{Record}
use Rattle.rollback_laws.specs.Closing.{closed}
use Rattle.store_files.specs.Store.{IsDurable}
use Rattle.store_files.specs.declared.fault.OpenFault.{OpenFault}
use Rattle.store_files.specs.declared.fault.OpenFault.TheVariants as opening
use Rattle.store_core.specs.Store.{Read}
use Rattle.store_core.specs.Survives.{IsSound, Survives}
use Rattle.store_core.proofs.Prepared.{durable_settled}
use Rattle.recovery.specs.Refused.{IsRead, IsRefused, IsLeftActive, IsSoundRefusal, Shows}
use Rattle.recovery.specs.Opened.{IsOpened, Over, ReopensSince}
use Rattle.session_step.specs.declared.forms.TheConstants.{BUILT_FORMS}
use Rattle.script_text.specs.declared.why.Why.{Why}
use Rattle.script_text.specs.Script.{Script}
use Rattle.script_text.specs.Grammar.{scripts_of}
use Rattle.assm.specs.Status.{status_of_open}
use Rattle.assm.specs.declared.status.Status.{Status}
use Rattle.assm.specs.declared.status.Status.TheVariants as the
use Rattle.assm.specs.Top.{HadScript, IsAccepted, IsBad, StartsSound, NotOpened, Opened, RunTells, ScriptTells, FormatTells}
use Rattle.assm.specs.Ends.{Begins, EndsAs, IsRunEnd}

module _ {D : Type 0} (meaning : Meaning D) where
  pub not_opened : (disk disk' : D) (old : Option (List ℕ)) (fault : OpenFault)
      → (IsSettled meaning disk Log → (Untouched meaning disk disk' × IsRefused (meaning.files disk) fault) ⊎ IsLeftActive (meaning.files disk) fault)
      → (meaning.told disk → Shows (meaning.files disk') fault)
      → ((sh : Shape) (R : List Record) → IsSettled meaning disk Log → IsSound sh R (meaning.files disk) → IsSoundRefusal fault)
      → ((sh : Shape) (R : List Record) → IsDurable meaning disk → IsSound sh R (meaning.files disk) → ReopensSince meaning (meaning.clock disk) sh R (meaning.files disk).data_bytes disk')
      → NotOpened meaning disk disk' old old fault
  not_opened disk disk' old fault why shows outside reopens = record {
    printed = refl;
    why = why;
    shows = shows;
    outside = λ sh R h. outside sh R (durable_settled meaning disk h.durable) h.sound;
    reopens = λ sh R h. reopens sh R h.durable h.sound;
  }

  pub open_tells : (disk disk' : D) (old : Option (List ℕ)) (text : List ℕ) (fault : OpenFault) → IsAccepted text → NotOpened meaning disk disk' old old fault → (fault ≡ opening.AlreadyFormatted → ⊥) → RunTells meaning disk disk' old old (status_of_open fault) text
  open_tells disk disk' old text opening.DeviceFault accepted h only = inl (accepted, h)
  open_tells disk disk' old text opening.NotFormatted accepted h only = (accepted, h)
  open_tells disk disk' old text (opening.BadFile which offset seen) accepted h only = inl (accepted, h)
  open_tells disk disk' old text opening.AlreadyFormatted accepted h only = absurd (only refl)
  open_tells disk disk' old text opening.NoMemory accepted h only = inr (inl (accepted, h))

  -- what was read of a sound store begins its run
  pub begins_with : (disk now : D) (sh : Shape) (R : List Record) (loaded : Read D)
      → ((sh : Shape) (R : List Record) → IsSettled meaning disk Log → IsSound sh R (meaning.files disk) → Over (IsOpened meaning sh R) now loaded)
      → ((sh : Shape) (R : List Record) → IsDurable meaning disk → IsSound sh R (meaning.files disk) → Over (Survives meaning (meaning.clock disk) (λ m. length R) (closed R)) now loaded)
      → Untouched meaning disk loaded.first → StartsSound meaning disk sh R → Begins meaning (meaning.clock disk) (meaning.files disk).data_bytes sh R now loaded
  begins_with disk now sh R loaded opened survives first h = record {
    opened = opened sh R (durable_settled meaning disk h.durable) h.sound;
    survives = survives sh R h.durable h.sound;
    file = ap (λ (f : Files). f.data_bytes) (first.files h.durable.told);
  }

  -- what the run of a store tells by its status
  pub run_tells : (disk disk' : D) (old new : Option (List ℕ)) (text : List ℕ) (script : Script) (shape : Shape) (status : Status) → scripts_of BUILT_FORMS text ≡ Ok script → (meaning.told disk → IsRead shape (meaning.files disk)) → (meaning.told disk → meaning.told disk') → IsRunEnd meaning disk' status
      → ((sh : Shape) (R : List Record) → StartsSound meaning disk sh R → EndsAs meaning (meaning.clock disk) (meaning.files disk).data_bytes disk' old new sh R script status) → RunTells meaning disk disk' old new status text
  run_tells disk disk' old new text script shape the.Done says read told only ends = record { script = script; says = says; shape = shape; read = read; ran = ends }
  run_tells disk disk' old new text script shape the.WriteFault says read told only ends = record { script = script; says = says; shape = shape; read = read; ran = ends }
  run_tells disk disk' old new text script shape the.DeviceFault says read told only ends = inr (record { script = script; says = says; shape = shape; read = read; ran = ends })
  run_tells disk disk' old new text script shape the.NoMemory says read told only ends = inr (inr (record { script = script; says = says; shape = shape; read = read; ran = ends }))
  run_tells disk disk' old new text script shape (the.BadFile Data offset seen) says read told only ends = inr (record {
    opened = record { script = script; says = says; shape = shape; read = read; ran = ends };
    file = refl;
    block = only.0;
    begins = only.1.0;
    shows = λ t. only.1.1 (told t);
  })
  run_tells disk disk' old new text script shape (the.BadFile Log offset seen) says read told only ends = absurd only.1
  run_tells disk disk' old new text script shape the.BadWords says read told only ends = absurd only
  run_tells disk disk' old new text script shape (the.BadScript line why) says read told only ends = absurd only
  run_tells disk disk' old new text script shape the.NotFormatted says read told only ends = absurd only
  run_tells disk disk' old new text script shape the.ReadFault says read told only ends = absurd only
  run_tells disk disk' old new text script shape the.ScriptTooLong says read told only ends = absurd only
  run_tells disk disk' old new text script shape the.AlreadyFormatted says read told only ends = absurd only

  -- ---- statuses that don't come
  pub run_no_words : (disk disk' : D) (old new left : Option (List ℕ)) (s : Status) → ScriptTells meaning disk disk' old new left s → s ≡ the.BadWords → ⊥
  run_no_words disk disk' old new left s h e = (subst (λ (z : Status). ScriptTells meaning disk disk' old new left z) e h).has

  pub format_no_words : (disk disk' : D) (old new : Option (List ℕ)) (shape : Shape) (s : Status) → FormatTells meaning disk disk' old new shape s → s ≡ the.BadWords → ⊥
  format_no_words disk disk' old new shape s h e = subst (λ (z : Status). FormatTells meaning disk disk' old new shape z) e h

  pub run_bad_script : (disk disk' : D) (old new left : Option (List ℕ)) (line : ℕ) (why : Why) (s : Status) → ScriptTells meaning disk disk' old new left s → s ≡ the.BadScript line why → HadScript left (IsBad line why)
  run_bad_script disk disk' old new left line why s h e =
      let k = subst (λ (z : Status). ScriptTells meaning disk disk' old new left z) e h in
      record { text = k.text; was = k.was; short = k.short; has = k.has.0 }

  pub format_no_script : (disk disk' : D) (old new : Option (List ℕ)) (shape : Shape) (line : ℕ) (why : Why) (s : Status) → FormatTells meaning disk disk' old new shape s → s ≡ the.BadScript line why → ⊥
  format_no_script disk disk' old new shape line why s h e = subst (λ (z : Status). FormatTells meaning disk disk' old new shape z) e h
