-- A catalogue that is spelled is read.
use Rattle.std.proofs.Common.{◌≡◌, ℕ, ◌-◌, ◌≤◌, min, Bool, true, false, List, ◌++◌, length, take, drop, Option, Some, None, refl, sym, ap, ◌∙◌, append_assoc, arith, replicate, if◌then◌else◌, ◌&&◌, nat_le, slice_index, w32, w64, flat_map, length-append, length-take, take_all, leb-true}
use Rattle.seg_words.proofs.Lemmas.{to_be_bytes, from_be_bytes, list_all, from_be_bytes-to_be_bytes_4, from_be_bytes-to_be_bytes_8, length-replicate}
use Rattle.seg_words.specs.Types.{number_in, is_name, is_lower, is_name_byte, BLOCK_SIZE, MOST_TABLES, LONGEST_NAME}
use Rattle.page_bytes.proofs.Fronts.{take_front, drop_front}
use Rattle.page_bytes.specs.Types.{pieces_in}
use Rattle.page_bytes.proofs.PiecesIn.{pieces_again}
use Rattle.segment_blocks.specs.declared.entry.CatalogueEntry.{CatalogueEntry}
use Rattle.segment_blocks.specs.declared.entry.NamedTable.{NamedTable}
use Rattle.segment_blocks.specs.Catalogues.{Tables, spelled_table, spelled_entry, name_bytes, entry_in, IsTable, IsCatalogueEntry, front_of_tables, spelling_of_tables, tables_in, IsCatalogue}

length-padded : (name : List ℕ) → length (take LONGEST_NAME name ++ replicate (LONGEST_NAME - length name) 0) ≡ LONGEST_NAME
length-padded name = omega (arith, length-append (take LONGEST_NAME name) (replicate (LONGEST_NAME - length name) 0), length-take LONGEST_NAME name, length-replicate {A = ℕ} (LONGEST_NAME - length name) 0)

length-spelled_table : (t : Option NamedTable) → length (spelled_table t) ≡ 64
length-spelled_table None = refl
length-spelled_table (Some t) =
    let padded : List ℕ = take LONGEST_NAME t.name ++ replicate (LONGEST_NAME - length t.name) 0 in
    omega (arith, length-append (padded ++ to_be_bytes w32 t.header) (replicate 29 0), length-append padded (to_be_bytes w32 t.header), length-padded t.name, length-replicate {A = ℕ} 29 0)

pub length-spelled_entry : (e : CatalogueEntry) → length (spelled_entry e) ≡ 64
length-spelled_entry e = length-spelled_table e.table

-- a name has at most 30 bytes
short : (a b c d : Bool) → (a && b && c && d) ≡ true → b ≡ true
short true true c d h = refl
short true false c d h = absurd cc
short false b c d h = absurd cc

pub name_short : (name : List ℕ) → is_name name ≡ true → length name ≤ LONGEST_NAME
name_short name is = leb-true (length name) LONGEST_NAME (short (nat_le 1 (length name)) (nat_le (length name) LONGEST_NAME) (is_lower (slice_index name 0)) (list_all is_name_byte name) is)

-- a name behind its length, whatever follows
name_again : (n : ℕ) (name zeros rest : List ℕ) → n ≡ length name → n ≤ LONGEST_NAME → take (min n LONGEST_NAME) ((take LONGEST_NAME name ++ zeros) ++ rest) ≡ name
name_again n name zeros rest e most =
    let whole : take LONGEST_NAME name ≡ name = take_all LONGEST_NAME name (omega (arith, e, most)) in
    let front : (take LONGEST_NAME name ++ zeros) ++ rest ≡ name ++ (zeros ++ rest) = ap (λ (x : List ℕ). (x ++ zeros) ++ rest) whole ∙ append_assoc name zeros rest in
    let count : min n LONGEST_NAME ≡ n = omega (arith, most) in
    ap (λ (k : ℕ). take k ((take LONGEST_NAME name ++ zeros) ++ rest)) count ∙ ap (take n) front ∙ take_front name (zeros ++ rest) n (sym e)

table_again : (t : NamedTable) → IsTable (Some t) → entry_in (spelled_table (Some t)) ≡ record { table = Some t }
table_again t fits =
    let g : List ℕ = spelled_table (Some t) in
    let padded : List ℕ = take LONGEST_NAME t.name ++ replicate (LONGEST_NAME - length t.name) 0 in
    let header : List ℕ = to_be_bytes w32 t.header in
    let zeros : List ℕ = replicate 29 0 in
    let behind : drop 1 g ≡ padded ++ (header ++ zeros) = append_assoc padded header zeros in
    let e1 : name_bytes g ≡ t.name = ap (take (min (length t.name) LONGEST_NAME)) behind ∙ name_again (length t.name) t.name (replicate (LONGEST_NAME - length t.name) 0) (header ++ zeros) refl (name_short t.name fits.0) in
    let at : drop 31 g ≡ header ++ zeros = ap (drop LONGEST_NAME) behind ∙ drop_front padded (header ++ zeros) LONGEST_NAME (length-padded t.name) in
    let e2 : number_in w32 g 31 ≡ t.header = ap (λ (x : List ℕ). from_be_bytes w32 (take 4 x)) at ∙ from_be_bytes-to_be_bytes_4 t.header fits.1 in
    ap (λ (n : List ℕ). entry_with n (number_in w32 g 31)) e1 ∙ ap (λ (h : ℕ). entry_with t.name h) e2 ∙ ap (λ (b : Bool). entry_if b t.name t.header) fits.0
  where
    entry_if : Bool → List ℕ → ℕ → CatalogueEntry
    entry_if b n h = record { table = if b then Some (record { name = n; header = h }) else None }

    entry_with : List ℕ → ℕ → CatalogueEntry
    entry_with n h = entry_if (is_name n) n h

option_again : (o : Option NamedTable) → IsTable o → entry_in (spelled_table o) ≡ record { table = o }
option_again None fits = refl
option_again (Some t) fits = table_again t fits

pub entry_again : (e : CatalogueEntry) → IsCatalogueEntry e → entry_in (spelled_entry e) ≡ e
entry_again e fits = option_again e.table fits

pub tables_again : (t : Tables) → IsCatalogue t → tables_in (spelling_of_tables t) ≡ t
unfolding spelling_of_tables tables_in
tables_again t fits =
    let zeros : List ℕ = replicate (BLOCK_SIZE - length (front_of_tables t)) 0 in
    let e1 : number_in w32 (spelling_of_tables t) 4 ≡ t.dba = from_be_bytes-to_be_bytes_4 t.dba fits.dba in
    let e2 : number_in w64 (spelling_of_tables t) 8 ≡ t.lsn = from_be_bytes-to_be_bytes_8 t.lsn fits.lsn in
    let e3 : pieces_in entry_in 64 MOST_TABLES (flat_map spelled_entry t.entries ++ zeros) ≡ t.entries
    = ap (λ (n : ℕ). pieces_in entry_in 64 n (flat_map spelled_entry t.entries ++ zeros)) (sym fits.count) ∙ pieces_again spelled_entry entry_in IsCatalogueEntry 64 t.entries zeros length-spelled_entry entry_again fits.entries in
    rw (e1, e2, e3) refl
