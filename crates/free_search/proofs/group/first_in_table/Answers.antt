use Rattle.std.proofs.Common.{ℕ, ◌+◌, ◌*◌, Ok, Err, Option, Some, subst}
use Rattle.seg_words.specs.Types.{EXTENTS_OF_L2}
use Rattle.redo_model.specs.Model.{data_blocks}
use Rattle.data_places.specs.Places.{data_count}
use Rattle.store_core.specs.Causes.{HasLooked}
use Rattle.free_search.specs.Looks.{passes_in, row_sought}
use Rattle.free_search.specs.Walks.{FirstWithin}
use Rattle.store_core.proofs.Lookups.{looked_on, looked_ok, looked_err}
use Rattle.free_search.proofs.Walking.{searched_none, searched_next, searched_found, searched_fails, searched_all}
use Rattle.free_search.proofs.group.first_in_table.Goals as goal

pub loop-group-init : goal.loop-group-init
loop-group-init g c = searched_none g.D.Disk.meaning c.args.store.now c.args.look.now c.args.wanted.now c.args.only c.requires.unspent

pub returns-in-Err-clause-looked : goal.returns-in-Err-clause-looked
returns-in-Err-clause-looked g c = looked_on g.D.Disk.meaning c.args.store.now c.loop-group.store c.first_in_group.new.store tt (Err c.in-Err.fault) c.loop-group.invariant.looked (looked_err g.D.Disk.meaning c.loop-group.store c.first_in_group.new.store c.in-Err.fault c.in-Err.ensures.looked)

pub returns-in-Err-clause-sound : goal.returns-in-Err-clause-sound
returns-in-Err-clause-sound g c = λ R t k. searched_fails g.D.Disk.meaning c.args.store.now c.loop-group.store c.args.look.now c.args.wanted.now c.args.only c.loop-group.group c.in-Err.fault R c.loop-group.invariant (λ Q q z. c.in-Err.ensures.sound Q q z) t k

pub returns-in-Ok-Some-clause-looked : goal.returns-in-Ok-Some-clause-looked
returns-in-Ok-Some-clause-looked g c = looked_on g.D.Disk.meaning c.args.store.now c.loop-group.store c.first_in_group.new.store tt (Ok (Some c.in-Ok-Some.dba)) c.loop-group.invariant.looked (subst (λ (o : Option ℕ). HasLooked g.D.Disk.meaning c.loop-group.store c.first_in_group.new.store (Ok o)) c.in-Ok-Some.field-0-is c.in-Ok-Some.ensures.looked)

pub returns-in-Ok-Some-clause-says : goal.returns-in-Ok-Some-clause-says
returns-in-Ok-Some-clause-says g c = λ R t k. searched_found g.D.Disk.meaning c.args.store.now c.loop-group.store c.args.look.now c.args.wanted.now c.args.only c.loop-group.group c.in-Ok-Some.dba R c.loop-group.invariant (λ Q q z. subst (λ (o : Option ℕ). FirstWithin (passes_in c.args.look.now.shape Q (row_sought c.args.look.now) c.args.wanted.now c.args.only) (data_blocks c.args.look.now.shape Q c.args.look.now.segment.obj) c.args.look.now.segment.high (data_count c.args.look.now.shape (EXTENTS_OF_L2 * c.loop-group.group)) (data_count c.args.look.now.shape (EXTENTS_OF_L2 * c.loop-group.group + EXTENTS_OF_L2)) o) c.in-Ok-Some.field-0-is (c.in-Ok-Some.ensures.says Q q z)) t k

pub loop-group-preserved : goal.loop-group-preserved
loop-group-preserved g c = searched_next g.D.Disk.meaning c.args.store.now c.loop-group.store c.first_in_group.new.store c.args.look.now c.args.wanted.now c.args.only c.loop-group.group c.loop-group.invariant (subst (λ (o : Option ℕ). HasLooked g.D.Disk.meaning c.loop-group.store c.first_in_group.new.store (Ok o)) c.in-Ok-None.field-0-is c.in-Ok-None.ensures.looked) (λ Q q z. subst (λ (o : Option ℕ). FirstWithin (passes_in c.args.look.now.shape Q (row_sought c.args.look.now) c.args.wanted.now c.args.only) (data_blocks c.args.look.now.shape Q c.args.look.now.segment.obj) c.args.look.now.segment.high (data_count c.args.look.now.shape (EXTENTS_OF_L2 * c.loop-group.group)) (data_count c.args.look.now.shape (EXTENTS_OF_L2 * c.loop-group.group + EXTENTS_OF_L2)) o) c.in-Ok-None.field-0-is (c.in-Ok-None.ensures.says Q q z))

pub returns-clause-looked : goal.returns-clause-looked
returns-clause-looked g c = looked_ok g.D.Disk.meaning c.args.store.now c.loop-group.store tt _ c.loop-group.invariant.looked

pub returns-clause-says : goal.returns-clause-says
returns-clause-says g c = λ R t k. searched_all g.D.Disk.meaning c.args.store.now c.loop-group.store c.args.look.now c.args.wanted.now c.args.only c.loop-group.group R c.requires.most c.loop-group-test.false c.loop-group.invariant t k
