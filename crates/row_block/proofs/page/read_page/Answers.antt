use Rattle.std.proofs.Common.{arith, ap, ◌∙◌, ◌≡◌, List, ℕ, length}
use Rattle.seg_words.specs.Types.{ListEntry, LIST_ENTRY_SIZE}
use Rattle.page_bytes.specs.Types.{entry_from, pieces_in}
use Rattle.page_bytes.proofs.PiecesIn.{length-pieces_in}
use Rattle.row_block.proofs.Reading.{read_fits}
use Rattle.row_block.proofs.page.read_page.Goals as goal

pub copy-requires : goal.copy-requires
copy-requires c =
    let all : length c.deref.result.now ≡ c.args.entries
    = ap (λ (x : List ListEntry). length x) (c.deref.ensures.value ∙ c.in_ok-list.ensures) ∙ length-pieces_in entry_from LIST_ENTRY_SIZE _ c.split_at.result.1.now ∙ c.from.ensures in
    omega (arith, all, c.requires.most)

pub from_parts-requires : goal.from_parts-requires
from_parts-requires c = read_fits c.args.entries c.args.slots c.args.bytes.now c.split_at.result.1.now c.split_at-2.result.1.now c.split_at-3.result.1.now c.copy.result c.in_ok-slots.slots.items c.requires.long c.requires.least c.requires.most c.requires.slots c.requires.room
    c.split_at-3.ensures.back (c.copy.ensures ∙ c.deref.ensures.value ∙ c.in_ok-list.ensures ∙ ap (λ (n : ℕ). pieces_in entry_from LIST_ENTRY_SIZE n c.split_at.result.1.now) c.from.ensures) c.in_ok-slots.ensures
