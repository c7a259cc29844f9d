-- The checkpoint page: from which record on opening has to redo (Oracle Database Concepts, "Overview of Checkpoints").
-- The layout is this engine's own.
use Rattle.std.specs.Prelude.{ℕ, ◌<◌, ◌^◌, List, ◌++◌}
use Rattle.seg_words.specs.Types.{w32, w64, to_be_bytes, number_in}
use Rattle.page_bytes.specs.Types.{page_of, head_bytes}

-- how many records there were, where the log's end gate stood, how many commits there were; its own LSN is that length
pub record Checkpoint : Type 0 where
  pub dba : ℕ
  pub records : ℕ
  pub end_gate : ℕ
  pub commits : ℕ

abbrev pub front_of_checkpoint : Checkpoint → List ℕ
front_of_checkpoint p = head_bytes 1 0 0 p.dba p.records ++ to_be_bytes w64 p.records ++ to_be_bytes w64 p.end_gate ++ to_be_bytes w64 p.commits

unfoldable pub spelling_of_checkpoint : Checkpoint → List ℕ
spelling_of_checkpoint p = page_of (front_of_checkpoint p)

unfoldable pub checkpoint_in : List ℕ → Checkpoint
checkpoint_in bytes = record { dba = number_in w32 bytes 4; records = number_in w64 bytes 16; end_gate = number_in w64 bytes 24; commits = number_in w64 bytes 32 }

pub record IsCheckpoint (p : Checkpoint) : Type 0 where
  pub dba : p.dba < 2 ^ 32
  pub records : p.records < 2 ^ 64
  pub end_gate : p.end_gate < 2 ^ 64
  pub commits : p.commits < 2 ^ 64
