-- A list entry that is spelled is read.
use Rattle.std.proofs.Common.{◌≡◌, length, refl, w64}
use Rattle.seg_words.proofs.Lemmas.{from_be_bytes-to_be_bytes_8}
use Rattle.seg_words.specs.Types.{ListEntry, number_in}
use Rattle.page_bytes.specs.Entries.{entry_bytes, entry_from, IsListEntry}

pub length-entry_bytes : (e : ListEntry) → length (entry_bytes e) ≡ 24
length-entry_bytes e = refl

pub entry_again : (e : ListEntry) → IsListEntry e → entry_from (entry_bytes e) ≡ e
entry_again e fits =
    let e1 : number_in w64 (entry_bytes e) 0 ≡ e.txn = from_be_bytes-to_be_bytes_8 e.txn fits.txn in
    let e2 : number_in w64 (entry_bytes e) 8 ≡ e.number = from_be_bytes-to_be_bytes_8 e.number fits.number in
    rw (e1, e2) refl
