use Rattle.std.proofs.Common.{◌≡◌, ◌<◌, ℕ, List, length, take, set, arith}
use Rattle.seg_words.proofs.Lemmas.{common_steps, take-set-lt}
use Rattle.row_block.proofs.entries.Entries.set.Goals as goal

stored : {A : Type 0} (all now : List A) (n at : ℕ) (a : A) → take n all ≡ now → at < length now → take n (set all at a) ≡ set now at a
stored all now n at a e h = rw (← e) (take-set-lt n all at a (let k : at < length (take n all) = rw e h in grind (arith, common_steps)))

pub returns : goal.returns
returns c = stored c.self.inside.all c.args.self.now c.self.inside.count c.args.at c.args.entry c.self.view_is c.requires
