use Rattle.std.proofs.Common.{◌≡◌, ℕ, true, List, Ok, Err, sym, subst, arith}
use Rattle.seg_words.specs.Types.{Shape, is_shape}
use Rattle.version_laws.specs.Types.{IsInRing}
use Rattle.store_core.specs.Causes.{HasLooked}
use Rattle.store_core.proofs.Lookups.{looked_on, looked_ok, looked_err, looked_memory}
use Rattle.row_change.specs.declared.spot.Behind.{Behind}
use Rattle.row_change.specs.Spots.{IsBehind}
use Rattle.row_change.proofs.Searches.{Searching, current_ring, searching_none, searching_held, searching_free, searching_all, searching_sound}
use Rattle.row_change.proofs.spot.next_spot.Goals as goal

pub loop-step-init : goal.loop-step-init
loop-step-init g c = subst (λ (hs : List (ℕ × ℕ)). Searching g.D.Disk.meaning c.args.store.now c.args.store.now c.args.table.now c.shape-shape.result c.args.current 0 hs) (sym c.new-holders.ensures) (searching_none g.D.Disk.meaning c.args.store.now c.args.table.now c.shape-shape.result c.args.current c.requires.unspent c.shape-shape.ensures c.in-Some.ensures.ring)

pub returns-in-None-clause-looked : goal.returns-in-None-clause-looked
returns-in-None-clause-looked g c = looked_err g.D.Disk.meaning c.args.store.now c.refuse.new.self c.refuse.result c.refuse.ensures.looked

pub returns-in-None-clause-sound : goal.returns-in-None-clause-sound
returns-in-None-clause-sound g c = λ R o t k i e. absurd (c.in-None.ensures.outside (subst (λ (s : Shape). is_shape s ≡ true) (sym c.shape-shape.ensures) t.list.within) (subst (λ (s : Shape). IsInRing s c.args.current) (sym c.shape-shape.ensures) (current_ring c.args.store.now.shape R c.args.current t.list.within t.lawful.allowed e)))

pub returns-in-Err-clause-looked : goal.returns-in-Err-clause-looked
returns-in-Err-clause-looked g c = looked_on g.D.Disk.meaning c.args.store.now c.loop-step.store c.ask_behind.new.store tt (Err c.in-Err.fault) c.loop-step.invariant.looked (looked_err g.D.Disk.meaning c.loop-step.store c.ask_behind.new.store c.in-Err.fault c.in-Err.ensures.looked)

pub returns-in-Err-clause-sound : goal.returns-in-Err-clause-sound
returns-in-Err-clause-sound g c = λ R o t k i e. searching_sound g.D.Disk.meaning c.args.store.now c.loop-step.store c.args.table.now c.shape-shape.result c.args.current c.loop-step.step c.nth_of_ring-block.result o c.loop-step.holders c.in-Err.fault R c.nth_of_ring-block.ensures.ring c.loop-step.invariant (λ Q p s h y r n. c.in-Err.ensures.sound Q p s h y r n) t k i

pub returns-in-Free-clause-looked : goal.returns-in-Free-clause-looked
returns-in-Free-clause-looked g c = looked_ok g.D.Disk.meaning c.args.store.now c.ask_behind.new.store c.in-Ok.behind _ (looked_on g.D.Disk.meaning c.args.store.now c.loop-step.store c.ask_behind.new.store tt (Ok c.in-Ok.behind) c.loop-step.invariant.looked c.in-Ok.ensures.looked)

pub returns-in-Free-clause-says : goal.returns-in-Free-clause-says
returns-in-Free-clause-says g c = λ R t k e. searching_free g.D.Disk.meaning c.args.store.now c.loop-step.store c.args.table.now c.shape-shape.result c.args.current c.loop-step.step c.nth_of_ring-block.result c.loop-step.holders c.in-Free.reuse R (let n = c.in-Some.ensures.others in let l = c.loop-step-test.true in omega (arith, l, n)) c.nth_of_ring-block.ensures.value c.nth_of_ring-block.ensures.ring c.loop-step.invariant (λ Q s h r. subst (λ (y : Behind). IsBehind Q c.nth_of_ring-block.result y) c.in-Free.is (c.in-Ok.ensures.says Q s h r)) t k e

pub returns-in-Err-hold-clause-looked : goal.returns-in-Err-hold-clause-looked
returns-in-Err-hold-clause-looked g c = looked_memory {A = Behind} g.D.Disk.meaning c.args.store.now c.ask_behind.new.store c.in-Ok.behind (looked_on g.D.Disk.meaning c.args.store.now c.loop-step.store c.ask_behind.new.store tt (Ok c.in-Ok.behind) c.loop-step.invariant.looked c.in-Ok.ensures.looked)

pub loop-step-preserved : goal.loop-step-preserved
loop-step-preserved g c = searching_held g.D.Disk.meaning c.args.store.now c.loop-step.store c.ask_behind.new.store c.args.table.now c.shape-shape.result c.args.current c.loop-step.step c.nth_of_ring-block.result c.in-Held.number c.loop-step.holders c.hold.new.holders (let n = c.in-Some.ensures.others in let l = c.loop-step-test.true in omega (arith, l, n)) c.nth_of_ring-block.ensures.value c.nth_of_ring-block.ensures.ring c.loop-step.invariant
    (subst (λ (y : Behind). HasLooked {T = Behind} g.D.Disk.meaning c.loop-step.store c.ask_behind.new.store (Ok y)) c.in-Held.is c.in-Ok.ensures.looked)
    (λ Q s h r. subst (λ (y : Behind). IsBehind Q c.nth_of_ring-block.result y) c.in-Held.is (c.in-Ok.ensures.says Q s h r)) c.in-Ok-hold.ensures.ok

pub returns-clause-looked : goal.returns-clause-looked
returns-clause-looked g c = looked_ok g.D.Disk.meaning c.args.store.now c.loop-step.store tt _ c.loop-step.invariant.looked

pub returns-clause-says : goal.returns-clause-says
returns-clause-says g c = λ R t k e. searching_all g.D.Disk.meaning c.args.store.now c.loop-step.store c.args.table.now c.shape-shape.result c.args.current c.loop-step.step c.loop-step.holders R (let n = c.in-Some.ensures.others in let l = c.loop-step-test.false in omega (arith, l, n)) c.loop-step.invariant t k e
