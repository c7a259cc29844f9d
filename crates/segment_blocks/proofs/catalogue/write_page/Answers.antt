use Rattle.std.proofs.Common.{◌≡◌, ℕ, List, [], length, ap, arith}
use Rattle.page_bytes.proofs.PiecesIn.{length-spelled}
use Rattle.segment_blocks.specs.Types.{spelled_entry}
use Rattle.segment_blocks.specs.CatalogueAgain.{length-spelled_entry}
use Rattle.segment_blocks.proofs.Forms.{tables_written}
use Rattle.segment_blocks.proofs.catalogue.write_page.Goals as goal

pub add_all-requires : goal.add_all-requires
add_all-requires c =
    let head : length c.head_bytes.result ≡ 16 = ap (λ (x : List ℕ). length x) c.head_bytes.ensures in
    omega (arith, head, length-spelled spelled_entry 64 c.args.entries.now length-spelled_entry)

pub returns : goal.returns
returns c =
    tables_written (record { dba = c.args.dba; lsn = c.args.lsn; entries = c.args.entries.now }) c.add_all.new.page c.head_bytes.result c.head_bytes.ensures
    (c.add_all.ensures.bytes c.head_bytes.result (c.add-entries_at.ensures.bytes [] c.begin-start.ensures)).bytes
