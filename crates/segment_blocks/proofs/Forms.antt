-- Pages written part by part: the bytes behind each other are the spelling.
use Rattle.std.proofs.Common.{◌≡◌, ℕ, ◌-◌, ◌≤◌, List, [], ◌∷◌, ◌++◌, length, take, ap, sym, ◌∙◌, append_assoc, Some, replicate, take_all, flat_map, w32, w64}
use Rattle.seg_words.proofs.Lemmas.{take-replicate, to_be_bytes}
use Rattle.seg_words.specs.Types.{LONGEST_NAME}
use Rattle.page_bytes.specs.Types.{head_bytes, page_of}
use Rattle.segment_blocks.specs.Types.{Checkpoint, spelling_of_checkpoint, Space, spelling_of_space, Tables, spelled_table, spelled_entry, spelling_of_tables, Header, extent_bytes, fields_of, spelling_of_header}

pub checkpoint_written : (p : Checkpoint) (page head a b d : List ℕ) → head ≡ head_bytes 1 0 0 p.dba p.records → a ≡ to_be_bytes w64 p.records → b ≡ to_be_bytes w64 p.end_gate → d ≡ to_be_bytes w64 p.commits
    → page ≡ page_of (((head ++ a) ++ b) ++ d) → page ≡ spelling_of_checkpoint p
unfolding spelling_of_checkpoint
checkpoint_written p page head a b d h1 h2 h3 h4 is = is
    ∙ ap (λ (x : List ℕ). page_of (((x ++ a) ++ b) ++ d)) h1
    ∙ ap (λ (x : List ℕ). page_of (((head_bytes 1 0 0 p.dba p.records ++ x) ++ b) ++ d)) h2
    ∙ ap (λ (x : List ℕ). page_of (((head_bytes 1 0 0 p.dba p.records ++ to_be_bytes w64 p.records) ++ x) ++ d)) h3
    ∙ ap (λ (x : List ℕ). page_of (((head_bytes 1 0 0 p.dba p.records ++ to_be_bytes w64 p.records) ++ to_be_bytes w64 p.end_gate) ++ x)) h4

pub header_written : (h : Header) (page head fields : List ℕ) → head ≡ head_bytes 10 0 0 h.dba h.lsn → fields ≡ fields_of h.obj h.pctfree h.movement h.low h.high (length h.extents)
    → page ≡ page_of ((head ++ fields) ++ flat_map extent_bytes h.extents) → page ≡ spelling_of_header h
unfolding spelling_of_header
header_written h page head fields h1 h2 is = is
    ∙ ap (λ (x : List ℕ). page_of ((x ++ fields) ++ flat_map extent_bytes h.extents)) h1
    ∙ ap (λ (x : List ℕ). page_of ((head_bytes 10 0 0 h.dba h.lsn ++ x) ++ flat_map extent_bytes h.extents)) h2

pub space_written : (s : Space) (page head lowerings : List ℕ) → head ≡ head_bytes 4 0 0 s.dba s.lsn → lowerings ≡ to_be_bytes w64 s.lowerings
    → page ≡ page_of ((head ++ lowerings) ++ s.bits) → page ≡ spelling_of_space s
unfolding spelling_of_space
space_written s page head lowerings h1 h2 is = is
    ∙ ap (λ (x : List ℕ). page_of ((x ++ lowerings) ++ s.bits)) h1
    ∙ ap (λ (x : List ℕ). page_of ((head_bytes 4 0 0 s.dba s.lsn ++ x) ++ s.bits)) h2

-- an entry of the catalogue behind a front
pub table_added : (front name name_zeros header_bytes zeros : List ℕ) (header : ℕ) → length name ≤ LONGEST_NAME → name_zeros ≡ replicate (LONGEST_NAME - length name) 0 → header_bytes ≡ to_be_bytes w32 header → zeros ≡ replicate 29 0
    → ((((front ++ length name ∷ []) ++ name) ++ name_zeros) ++ header_bytes) ++ zeros ≡ front ++ spelled_table (Some (record { name = name; header = header }))
table_added front name name_zeros header_bytes zeros header most e1 e2 e3 =
    let group : ((((front ++ length name ∷ []) ++ name) ++ name_zeros) ++ header_bytes) ++ zeros ≡ front ++ (((length name ∷ name ++ name_zeros) ++ header_bytes) ++ zeros) = simp append_assoc in
    group ∙ ap (λ (x : List ℕ). front ++ (((length name ∷ x ++ name_zeros) ++ header_bytes) ++ zeros)) (sym (take_all LONGEST_NAME name most))
    ∙ ap (λ (x : List ℕ). front ++ (((length name ∷ take LONGEST_NAME name ++ x) ++ header_bytes) ++ zeros)) e1
    ∙ ap (λ (x : List ℕ). front ++ (((length name ∷ take LONGEST_NAME name ++ replicate (LONGEST_NAME - length name) 0) ++ x) ++ zeros)) e2
    ∙ ap (λ (x : List ℕ). front ++ (((length name ∷ take LONGEST_NAME name ++ replicate (LONGEST_NAME - length name) 0) ++ to_be_bytes w32 header) ++ x)) e3

pub first_zeros : (n : ℕ) → n ≤ 64 → take {A = ℕ} n (replicate {A = ℕ} 64 0) ≡ replicate n 0
first_zeros n le = take-replicate {X = ℕ} n 64 0 le

pub tables_written : (t : Tables) (page head : List ℕ) → head ≡ head_bytes 3 0 0 t.dba t.lsn → page ≡ page_of (head ++ flat_map spelled_entry t.entries) → page ≡ spelling_of_tables t
unfolding spelling_of_tables
tables_written t page head h is = is ∙ ap (λ (x : List ℕ). page_of (x ++ flat_map spelled_entry t.entries)) h
