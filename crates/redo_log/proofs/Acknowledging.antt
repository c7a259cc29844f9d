-- All groups of a log that is ready are acknowledged.
use Rattle.std.proofs.Common.{ℕ, List, [], ◌∷◌, refl}
use Rattle.seg_base.specs.declared.shape.Shape.{Shape}
use Rattle.disk_model.specs.Crash.{Meaning}
use Rattle.log_frame.specs.Ready.{IsReady}
use Rattle.log_survival.specs.declared.acknowledged.Acknowledged.{Acknowledged}
use Rattle.log_survival.proofs.Surviving.{begun, none_made, acknowledged_now, all_made}
use Rattle.redo_log.specs.Lasting.{Lasts, all_now}

module _ {D : Type 0} (meaning : Meaning D) (shape : Shape) (groups : List (List ℕ)) (end : ℕ) (disk : D) (ready : IsReady meaning disk shape groups end) where
  pub all_last : (since : ℕ) (acknowledged : List Acknowledged) → Lasts meaning since shape groups acknowledged disk → Lasts meaning since shape groups (all_now groups (meaning.clock disk) ∷ acknowledged) disk
  all_last since acknowledged lasts = record {
    survives = acknowledged_now meaning since shape groups acknowledged disk end (all_now groups (meaning.clock disk)) refl refl ready lasts.survives;
    made = all_made meaning since shape groups acknowledged disk end (all_now groups (meaning.clock disk)) refl refl lasts.made;
  }

  pub begins : Lasts meaning (meaning.clock disk) shape groups (all_now groups (meaning.clock disk) ∷ []) disk
  begins = all_last (meaning.clock disk) [] (record { survives = begun meaning disk shape groups end ready; made = none_made meaning groups (meaning.clock disk) })
