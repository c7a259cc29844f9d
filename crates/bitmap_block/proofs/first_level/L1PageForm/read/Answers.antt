use Rattle.std.proofs.Common.{ap, ◌∙◌}
use Rattle.bitmap_block.specs.Types.{CODES_OF_L1, codes_in}
use Rattle.bitmap_block.proofs.Forms.{map_read}
use Rattle.bitmap_block.proofs.first_level.L1PageForm.read.Goals as goal

pub returns : goal.returns
returns c = map_read c.args.bytes.now c.read_codes.new.codes c.number_u32.result c.number_u64.result c.number_u64-2.result c.number_u32.ensures c.number_u64.ensures c.number_u64-2.ensures
    (c.read_codes.ensures.codes ∙ ap (codes_in CODES_OF_L1) c.split_at.ensures.back)
