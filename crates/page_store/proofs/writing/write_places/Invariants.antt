use Rattle.std.proofs.Common.{◌≡◌, ◌≤◌, List, ℕ, ◌↔◌}
use Rattle.seg_words.specs.Types.{Shape}
use Rattle.disk_model.specs.Types.{IsSettled}
use Rattle.disk_model.specs.declared.disk.File.TheVariants.{Data}
use Rattle.disk_model.proofs.Lemmas.{Running}
use Rattle.page_store.specs.Types.{LeavesLog, InPlace, IsOpened}
use Rattle.page_store.proofs.Changes.{Stays}
use Rattle.page_store.proofs.Stages.{BesideBatch}
use Rattle.page_store.proofs.writing.write_places.Given as goal

abbrev pub invariant-loop-page : goal.invariant-loop-page
invariant-loop-page g l =
    let meaning = g.D.Disk.meaning in
    let old = (meaning.files l.fn.disk).data_bytes in
    record {
      later : meaning.fault_count l.fn.disk ≤ meaning.fault_count l.disk;
      told : meaning.told l.disk ↔ meaning.told l.fn.disk;
      log : LeavesLog meaning l.fn.disk l.disk;
      reads : meaning.log_reads l.disk ≡ meaning.log_reads l.fn.disk;
      run : (shape : Shape) (pages : ℕ → List ℕ) → IsSettled meaning l.fn.disk Data → IsOpened shape pages l.batch old → Running meaning l.fn.disk l.disk Data (Stays (BesideBatch l.batch) old) (InPlace l.page-index l.batch);
    }
