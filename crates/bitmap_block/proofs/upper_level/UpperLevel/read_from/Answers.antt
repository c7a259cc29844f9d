use Rattle.std.proofs.Common.{ℕ, ap, ◌∙◌}
use Rattle.seg_words.proofs.Lemmas.{length-replicate}
use Rattle.bitmap_block.specs.Types.{codes_in}
use Rattle.bitmap_block.proofs.Forms.{summary_read}
use Rattle.bitmap_block.proofs.upper_level.UpperLevel.read_from.Goals as goal

pub returns : goal.returns
returns g c = summary_read g.row.CODES c.args.bytes.now c.read_codes.new.codes c.number_u32.result c.number_u64.result c.number_u32.ensures c.number_u64.ensures
    (c.read_codes.ensures.codes ∙ ap (λ n. codes_in n c.split_at.result.1.now) (length-replicate {A = ℕ} g.row.CODES 0) ∙ ap (codes_in g.row.CODES) c.split_at.ensures.back)
