use Rattle.std.proofs.Common.{◌≡◌, ◌≤◌, List, ℕ, ◌↔◌}
use Rattle.seg_words.specs.Types.{Shape}
use Rattle.disk_model.specs.declared.disk.File.TheVariants.{Data}
use Rattle.disk_model.proofs.Lemmas.{Running}
use Rattle.page_store.specs.Types.{LeavesLog, IsStore}
use Rattle.page_store.proofs.Changes.{Stays}
use Rattle.page_store.proofs.Stages.{BesideArea}
use Rattle.page_store.proofs.Moves.{Copying}
use Rattle.page_store.proofs.writing.write_copies.Given as goal

abbrev pub invariant-loop-i : goal.invariant-loop-i
invariant-loop-i g l =
    let meaning = g.D.Disk.meaning in
    record {
      later : meaning.fault_count l.fn.disk ≤ meaning.fault_count l.disk;
      told : meaning.told l.disk ↔ meaning.told l.fn.disk;
      log : LeavesLog meaning l.fn.disk l.disk;
      reads : meaning.log_reads l.disk ≡ meaning.log_reads l.fn.disk;
      run : (shape : Shape) (pages : ℕ → List ℕ) → IsStore meaning l.fn.disk shape pages → Running meaning l.fn.disk l.disk Data (Stays BesideArea (meaning.files l.fn.disk).data_bytes) (Copying l.batch l.i);
    }
