use Rattle.std.proofs.Common.{◌∙◌, sym}
use Rattle.store_core.proofs.Lookups.{looked_ok, looked_same}
use Rattle.free_search.specs.Looks.{row_sought}
use Rattle.free_search.proofs.Codes.{room_left, room_taken, room_wanting}
use Rattle.free_search.proofs.place.room_at.Goals as goal

pub returns-then-is_left_out-clause-looked : goal.returns-then-is_left_out-clause-looked
returns-then-is_left_out-clause-looked g c = looked_same g.D.Disk.meaning c.args.store.now _ c.requires.unspent

pub returns-then-is_left_out-clause-says : goal.returns-then-is_left_out-clause-says
returns-then-is_left_out-clause-says g c = λ R t k x. room_left R (row_sought c.args.look.now) c.args.dba (sym c.is_left_out.ensures ∙ c.if-is_left_out.true)

pub returns-in-Ok-true-clause-looked : goal.returns-in-Ok-true-clause-looked
returns-in-Ok-true-clause-looked g c = looked_ok g.D.Disk.meaning c.args.store.now c.takes.new.store c.in-Ok-true.field-0 _ c.in-Ok-true.ensures.looked

pub returns-in-Ok-true-clause-says : goal.returns-in-Ok-true-clause-says
returns-in-Ok-true-clause-says g c = λ R t k x. room_taken R (row_sought c.args.look.now) c.args.dba c.in-Ok-true.field-0 (sym c.is_left_out.ensures ∙ c.if-is_left_out.false) (c.in-Ok-true.ensures.says R t k x) c.in-Ok-true.field-0-test

pub returns-in-Ok-false-clause-looked : goal.returns-in-Ok-false-clause-looked
returns-in-Ok-false-clause-looked g c = looked_ok g.D.Disk.meaning c.args.store.now c.takes.new.store c.in-Ok-false.field-0 _ c.in-Ok-false.ensures.looked

pub returns-in-Ok-false-clause-says : goal.returns-in-Ok-false-clause-says
returns-in-Ok-false-clause-says g c = λ R t k x. room_wanting R (row_sought c.args.look.now) c.args.dba c.in-Ok-false.field-0 (sym c.is_left_out.ensures ∙ c.if-is_left_out.false) (c.in-Ok-false.ensures.says R t k x) c.in-Ok-false.field-0-test

pub returns-in-Err-clause-sound : goal.returns-in-Err-clause-sound
returns-in-Err-clause-sound g c = λ R t k x. c.in-Err.ensures.sound R t k x c.requires.unspent
