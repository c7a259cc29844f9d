-- Parts written one behind the other, and the page in three pieces.
use Rattle.std.proofs.Common.{◌≡◌, ℕ, List, ◌++◌, ap, ◌∙◌, append_assoc, flat_map}
use Rattle.seg_words.specs.Types.{slot_bytes}
use Rattle.page_bytes.specs.Types.{head_bytes, page_of}
use Rattle.undo_block.specs.Types.{Part, UndoPage, part_head, part_bytes, fields_of, spelling}

-- a part behind a front, in its three pieces
pub part_added : (front head slot row : List ℕ) (p : Part) → head ≡ part_head p → slot ≡ slot_bytes p.old → row ≡ p.old.bytes → ((front ++ head) ++ slot) ++ row ≡ front ++ part_bytes p
unfolding part_bytes
part_added front head slot row p h s r =
    let group : ((front ++ head) ++ slot) ++ row ≡ front ++ ((head ++ slot) ++ row) = simp append_assoc in
    group ∙ ap (λ (x : List ℕ). front ++ ((x ++ slot) ++ row)) h ∙ ap (λ (x : List ℕ). front ++ ((part_head p ++ x) ++ row)) s ∙ ap (λ (x : List ℕ). front ++ ((part_head p ++ slot_bytes p.old) ++ x)) r

pub spelled : (u : UndoPage) (page head fields : List ℕ) → head ≡ head_bytes 6 0 0 u.dba u.lsn → fields ≡ fields_of u.sequence u.parts → page ≡ page_of ((head ++ fields) ++ flat_map part_bytes u.parts) → page ≡ spelling u
unfolding spelling
spelled u page head fields h f is = is
    ∙ ap (λ (x : List ℕ). page_of ((x ++ fields) ++ flat_map part_bytes u.parts)) h
    ∙ ap (λ (x : List ℕ). page_of ((head_bytes 6 0 0 u.dba u.lsn ++ x) ++ flat_map part_bytes u.parts)) f
