-- A checkpoint page that is spelled is read.
use Rattle.std.proofs.Common.{◌≡◌, refl, w32, w64}
use Rattle.seg_words.proofs.Lemmas.{from_be_bytes-to_be_bytes_4, from_be_bytes-to_be_bytes_8}
use Rattle.seg_words.specs.Types.{number_in}
use Rattle.segment_blocks.specs.Checkpoints.{Checkpoint, spelling_of_checkpoint, checkpoint_in, IsCheckpoint}

pub checkpoint_again : (p : Checkpoint) → IsCheckpoint p → checkpoint_in (spelling_of_checkpoint p) ≡ p
unfolding spelling_of_checkpoint checkpoint_in
checkpoint_again p fits =
    let e1 : number_in w32 (spelling_of_checkpoint p) 4 ≡ p.dba = from_be_bytes-to_be_bytes_4 p.dba fits.dba in
    let e2 : number_in w64 (spelling_of_checkpoint p) 16 ≡ p.records = from_be_bytes-to_be_bytes_8 p.records fits.records in
    let e3 : number_in w64 (spelling_of_checkpoint p) 24 ≡ p.end_gate = from_be_bytes-to_be_bytes_8 p.end_gate fits.end_gate in
    let e4 : number_in w64 (spelling_of_checkpoint p) 32 ≡ p.commits = from_be_bytes-to_be_bytes_8 p.commits fits.commits in
    rw (e1, e2, e3, e4) refl
