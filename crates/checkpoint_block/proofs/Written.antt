-- The batch of a checkpoint.
use Rattle.std.proofs.Common.{◌≡◌, ℕ, List, [], ◌∷◌, Result, OnOk, subst}
use Rattle.seg_words.specs.Types.{Shape, CHECKPOINT_BLOCK}
use Rattle.disk_model.specs.Types.{Meaning, Leaves, OnlyFile}
use Rattle.disk_model.specs.declared.disk.File.TheVariants.{Data}
use Rattle.page_store.specs.declared.fault.PageFault.{PageFault}
use Rattle.page_store.specs.declared.page.RawPage.{RawPage}
use Rattle.page_store.specs.Types.{after, AsLong, Leads, WholeOrNot}
use Rattle.checkpoint_block.specs.declared.point.Checkpoint.{Checkpoint}
use Rattle.checkpoint_block.specs.Points.{spelled_point, with_point, PointOrNot}

module _ {D : Type 0} (meaning : Meaning D) (old new : D) (shape : Shape) (pages : ℕ → List ℕ) (point : Checkpoint) (page : RawPage) (is : page ≡ record { dba = CHECKPOINT_BLOCK; bytes = spelled_point point }) where
  pub point_or_not : Leaves meaning old new (OnlyFile meaning old Data (AsLong (meaning.files old).data_bytes (WholeOrNot shape pages (page ∷ []))))
      → Leaves meaning old new (OnlyFile meaning old Data (AsLong (meaning.files old).data_bytes (PointOrNot shape pages point)))
  point_or_not leaves = subst (λ (p : RawPage). Leaves meaning old new (OnlyFile meaning old Data (AsLong (meaning.files old).data_bytes (WholeOrNot shape pages (p ∷ []))))) is leaves

  pub point_written : (result : Result (Unit {0}) PageFault) → OnOk result (Leads meaning old new shape (after (page ∷ []) pages)) → OnOk result (Leads meaning old new shape (with_point point pages))
  point_written result done = subst (λ (p : RawPage). OnOk result (Leads meaning old new shape (after (p ∷ []) pages))) is done
