use Rattle.std.proofs.Common.{◌∙◌, sym}
use Rattle.shrink_move.proofs.Placing.{coded_is, first_most, first_there, near_first, no_first}
use Rattle.shrink_move.proofs.walking.coded_in.Goals as goal

pub returns-in-None-clause-sound : goal.returns-in-None-clause-sound
returns-in-None-clause-sound g c = λ R o index e k at n most u. absurd (no_first g.D.Disk.meaning R o index c.args.extent c.args.store.now c.args.ground.now e k at n c.requires (sym c.block_in.ensures ∙ c.in-None.is))

pub returns-in-Ok-clause-says : goal.returns-in-Ok-clause-says
returns-in-Ok-clause-says g c = λ R o index e k at n head most.
    coded_is c.args.ground.now.shape c.args.store.now.shape R o index c.args.extent c.args.nth c.in-Some.first c.nth_block.result c.in-Ok.code e k.shape (sym c.block_in.ensures ∙ c.in-Some.is) n head most c.nth_block.ensures
    (λ f m. c.in-Ok.ensures.says R o index e k.holds at f m)

pub returns-in-Err-clause-sound : goal.returns-in-Err-clause-sound
returns-in-Err-clause-sound g c = λ R o index e k at n most u. c.in-Err.ensures.sound R o index e k.holds k.table at (first_there c.args.ground.now.shape c.args.store.now.shape c.args.extent c.in-Some.first e k.shape (sym c.block_in.ensures ∙ c.in-Some.is) n) (near_first c.args.ground.now.shape c.args.nth c.requires most) u

pub nth_block-requires : goal.nth_block-requires
nth_block-requires g c = first_most c.args.ground.now.shape c.args.extent c.in-Some.first c.requires (sym c.block_in.ensures ∙ c.in-Some.is)
