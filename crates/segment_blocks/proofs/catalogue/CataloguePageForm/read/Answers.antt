use Rattle.std.proofs.Common.{List, length, ap, ◌∙◌}
use Rattle.seg_words.specs.Types.{MOST_TABLES}
use Rattle.page_bytes.proofs.PiecesIn.{length-pieces_in}
use Rattle.segment_blocks.specs.Types.{CatalogueEntry, entry_in}
use Rattle.segment_blocks.proofs.catalogue.CataloguePageForm.read.Goals as goal

pub invariant_of-result : goal.invariant_of-result
invariant_of-result c = ap (λ (x : List CatalogueEntry). length x) c.in_ok-entries.ensures ∙ length-pieces_in entry_in 64 MOST_TABLES c.split_at.result.1.now
