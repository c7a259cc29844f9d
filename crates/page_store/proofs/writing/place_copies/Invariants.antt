use Rattle.std.proofs.Common.{◌≡◌, ◌≤◌, List, ℕ, length, ◌↔◌}
use Rattle.seg_words.specs.Types.{Shape, DOUBLE_WRITE_BLOCK}
use Rattle.disk_model.specs.Types.{IsSettled}
use Rattle.disk_model.specs.declared.disk.File.TheVariants.{Data}
use Rattle.disk_model.proofs.Lemmas.{Running}
use Rattle.page_store.specs.Types.{LeavesLog, block, head_blocks, InPlace, IsOpened, RawPage}
use Rattle.page_store.proofs.Changes.{Stays}
use Rattle.page_store.proofs.Stages.{BesideBatch}
use Rattle.page_store.proofs.writing.place_copies.Given as goal

abbrev pub invariant-loop-i : goal.invariant-loop-i
invariant-loop-i g l =
    let meaning = g.D.Disk.meaning in
    let old = (meaning.files l.fn.disk).data_bytes in
    record {
      later : meaning.fault_count l.fn.disk ≤ meaning.fault_count l.disk;
      told : meaning.told l.disk ↔ meaning.told l.fn.disk;
      log : LeavesLog meaning l.fn.disk l.disk;
      reads : meaning.told l.fn.disk → meaning.log_reads l.disk ≡ meaning.log_reads l.fn.disk;
      grows : meaning.told l.fn.disk → length old ≤ length (meaning.files l.disk).data_bytes;
      run : (shape : Shape) (pages : ℕ → List ℕ) (batch : List RawPage) → IsSettled meaning l.fn.disk Data → IsOpened shape pages batch old → l.blocks ≡ head_blocks (block DOUBLE_WRITE_BLOCK old) → Running meaning l.fn.disk l.disk Data (Stays (BesideBatch batch) old) (InPlace l.i batch);
    }
