-- What follows of the clauses of an opening: a store that was just made is opened, and an image that a crash left gives the same list.
use Rattle.std.proofs.Common.{◌≡◌, ℕ, List, [], length, refl, ◌∙◌, ap, subst, arith, length-take}
use Rattle.std.specs.Prelude.{Result, Ok, Err, IfOk, IfErr}
use Rattle.seg_words.specs.Types.{Shape}
use Rattle.seg_words.proofs.Lemmas.{length-replicate}
use Rattle.disk_model.specs.Files.{Files}
use Rattle.disk_model.specs.Crash.{Meaning}
use Rattle.disk_model.specs.Only.{IsSettled}
use Rattle.disk_model.specs.declared.disk.File.TheVariants.{Log}
use Rattle.redo_model.specs.Records.{Record}
use Rattle.rollback_laws.specs.Closing.{closed}
use Rattle.rollback_laws.proofs.StepsLaw.{closed_stay}
use Rattle.store_files.specs.Store.{data_size, IsDurable, IsEmptyStore}
use Rattle.store_files.specs.declared.fault.OpenFault.{OpenFault}
use Rattle.store_core.specs.Store.{Held, IsTrue}
use Rattle.store_core.specs.Survives.{IsSound}
use Rattle.store_core.proofs.Prepared.{durable_settled}
use Rattle.recovery.specs.Refused.{IsSoundRefusal}
use Rattle.recovery.specs.Opened.{IsOpened, Reopens}

-- a new store is a sound one without a record
pub new_is_sound : (sh : Shape) (files : Files) → IsEmptyStore sh files → IsSound sh [] files
new_is_sound sh files h =
    let n = data_size sh in
    let whole = ap (λ (l : List ℕ). length l) h.blocks ∙ length-replicate n 0 in
    record {
      log = record { groups = []; log = h.log; holds = refl };
      lawful = record { allowed = tt; whole = refl };
      blocks = omega (arith, whole, length-take n files.data_bytes);
    }

pub nothing_to_close : closed [] ≡ []
nothing_to_close = closed_stay [] (λ t. refl)

-- What is answered by an opening on the disk that a format made: a store without a record, a fault of the disk, or want of memory.
pub formatted_opens : {D : Type 0} (meaning : Meaning D) (sh : Shape) (made : D) (result : Result (Held D) OpenFault) → IsDurable meaning made × IsEmptyStore sh (meaning.files made)
    → ((sh : Shape) (R : List Record) → IsSettled meaning made Log → IsSound sh R (meaning.files made) → IfOk result (IsOpened meaning sh R))
    → ((sh : Shape) (R : List Record) → IsSettled meaning made Log → IsSound sh R (meaning.files made) → IfErr result IsSoundRefusal) → IfOk result (IsTrue meaning []) × IfErr result IsSoundRefusal
formatted_opens meaning sh made (Ok s) new opens sound =
    let is = opens sh [] (durable_settled meaning made new.0) (new_is_sound sh (meaning.files made) new.1) in
    (subst (λ (R : List Record). IsTrue meaning R s) nothing_to_close is.list, tt)
formatted_opens meaning sh made (Err e) new opens sound = (tt, sound sh [] (durable_settled meaning made new.0) (new_is_sound sh (meaning.files made) new.1))

-- the store that an opening makes of an image that a crash left within an opening of R
pub reopened : {D : Type 0} (meaning : Meaning D) (sh : Shape) (R : List Record) (bytes : List ℕ) (image : Files) (s : Held D) → (h : Reopens sh R bytes image) → IsOpened meaning sh h.list s → IsTrue meaning (closed R) s
reopened meaning sh R bytes image s h is = subst (λ (Q : List Record). IsTrue meaning Q s) h.closes is.list
