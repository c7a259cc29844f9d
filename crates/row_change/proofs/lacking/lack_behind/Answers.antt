use Rattle.std.proofs.Common.{◌≡◌, ◌∷◌, [], ℕ, List, Option, subst}
use Rattle.store_core.proofs.Lookups.{looked_same}
use Rattle.row_change.specs.Lacking.{lack_of}
use Rattle.row_change.proofs.Listed.{lack_first, lack_last}
use Rattle.row_change.proofs.lacking.lack_behind.Goals as goal

pub returns-in-Some-clause-looked : goal.returns-in-Some-clause-looked
returns-in-Some-clause-looked g c = looked_same g.D.Disk.meaning c.args.store.now _ c.requires

pub returns-in-Some-clause-says : goal.returns-in-Some-clause-says
returns-in-Some-clause-says g c = λ R o who b own t a e x. lack_first R own b (c.args.next ∷ []) c.in-Some.txns (subst (λ (z : Option (List ℕ)). z ≡ lack_of R own b) c.in-Some.is e)

pub returns-in-None-clause-says : goal.returns-in-None-clause-says
returns-in-None-clause-says g c = λ R o who b own t a e x. lack_last R own b c.args.next c.lack_at.result (subst (λ (z : Option (List ℕ)). z ≡ lack_of R own b) c.in-None.is e) (c.lack_at.ensures.says R o who own t a x)

pub returns-in-None-clause-sound : goal.returns-in-None-clause-sound
returns-in-None-clause-sound g c = λ R o who own t a x. c.lack_at.ensures.sound R o who own t a x c.requires
