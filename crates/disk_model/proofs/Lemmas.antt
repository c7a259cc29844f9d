-- The lemmas that proofs of the crates above cite: import them from here. Declares nothing.
pub use Rattle.disk_model.proofs.Going.{started, weaker, untouched_start, untouched_then}
pub use Rattle.disk_model.proofs.Keeping.{always_run, always_same}
pub use Rattle.disk_model.proofs.Moments.{on_ok}
pub use Rattle.disk_model.proofs.OneFile.{So, so_started, only_weaker, only_through, then_only, put_content}
pub use Rattle.disk_model.proofs.Rows.{torn_wider}
pub use Rattle.disk_model.proofs.Runs.{Running, run_started, run_write, run_written, run_looked, run_synced, run_settles, leaves_looked, leaves_so, leaves_then, put_settles, settles_looked, settles_so, settles_then}
pub use Rattle.disk_model.proofs.WriteAndSync.{after_sync, is_put, next_made, next_write}
