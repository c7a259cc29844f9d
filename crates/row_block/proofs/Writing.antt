-- A page that is written is spelled.
use Rattle.std.proofs.Common.{◌≡◌, ℕ, List, [], ◌++◌, length, ap, ◌∙◌, flat_map}
use Rattle.page_bytes.specs.Types.{page_of, head_bytes, IsFront, entry_bytes}
use Rattle.seg_words.specs.Types.{slot_bytes}
use Rattle.row_block.specs.Types.{RowPage, row_bytes, spelling}

pub spelled : (p : RowPage) (head page : List ℕ) (at : ℕ) → head ≡ head_bytes 11 (length p.block.entries) (length p.block.slots) p.dba p.lsn
    → IsFront page (((([] ++ head) ++ flat_map entry_bytes p.block.entries) ++ flat_map slot_bytes p.block.slots) ++ flat_map row_bytes p.block.slots) at → page ≡ spelling p
unfolding spelling
spelled p head page at h f = f.bytes ∙ ap (λ (x : List ℕ). page_of (((x ++ flat_map entry_bytes p.block.entries) ++ flat_map slot_bytes p.block.slots) ++ flat_map row_bytes p.block.slots)) h
