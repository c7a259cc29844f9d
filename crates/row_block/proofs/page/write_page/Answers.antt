use Rattle.std.proofs.Common.{arith, ap, ◌≡◌, ◌++◌, List, ℕ, length, [], flat_map}
use Rattle.seg_words.specs.Types.{slot_bytes, PAGE_HEAD_SIZE}
use Rattle.page_bytes.specs.Types.{entry_bytes}
use Rattle.row_block.specs.Again.{length-entries, length-slots, laid_sizes}
use Rattle.row_block.proofs.Writing.{spelled}
use Rattle.row_block.proofs.page.write_page.Goals as goal

pub add_all-slots_at-requires : goal.add_all-slots_at-requires
add_all-slots_at-requires c =
    let head : length c.head_bytes-head.result ≡ PAGE_HEAD_SIZE = ap (λ (x : List ℕ). length x) c.head_bytes-head.ensures in
    omega (arith, length-entries c.args.entries.now)

pub add_slots-rows_at-requires : goal.add_slots-rows_at-requires
add_slots-rows_at-requires c =
    let head : length c.head_bytes-head.result ≡ PAGE_HEAD_SIZE = ap (λ (x : List ℕ). length x) c.head_bytes-head.ensures in
    omega (arith, length-entries c.args.entries.now, length-slots c.args.slots.now, laid_sizes c.args.slots.now)

pub add_rows-requires : goal.add_rows-requires
add_rows-requires c =
    let head : length c.head_bytes-head.result ≡ PAGE_HEAD_SIZE = ap (λ (x : List ℕ). length x) c.head_bytes-head.ensures in
    omega (arith, length-entries c.args.entries.now, length-slots c.args.slots.now, laid_sizes c.args.slots.now)

pub returns : goal.returns
returns c = spelled (record { dba = c.args.dba; lsn = c.args.lsn; block = record { slots = c.args.slots.now; entries = c.args.entries.now } }) c.head_bytes-head.result c.add_rows.new.page _ c.head_bytes-head.ensures
    (c.add_rows.ensures ((([] ++ c.head_bytes-head.result) ++ flat_map entry_bytes c.args.entries.now) ++ flat_map slot_bytes c.args.slots.now)
    (c.add_slots-rows_at.ensures.bytes (([] ++ c.head_bytes-head.result) ++ flat_map entry_bytes c.args.entries.now)
    (c.add_all-slots_at.ensures.bytes ([] ++ c.head_bytes-head.result) (c.add-entries_at.ensures.bytes [] c.begin-start.ensures))))
