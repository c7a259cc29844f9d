use Rattle.std.proofs.Common.{Some, ◌∙◌, sym, subst}
use Rattle.std.specs.Prelude.{Result, Ok, Err}
use Rattle.store_core.specs.Causes.{HasLooked}
use Rattle.store_core.specs.declared.fault.StoreFault.{StoreFault}
use Rattle.store_core.proofs.Lookups.{looked_on, looked_ok, looked_err}
use Rattle.free_search.proofs.Known.{knows_later}
use Rattle.free_search.proofs.Finding.{find_is, refused_is}
use Rattle.free_search.proofs.search.find.Goals as goal

pub returns-in-Err-clause-looked : goal.returns-in-Err-clause-looked
returns-in-Err-clause-looked g c = looked_err g.D.Disk.meaning c.args.store.now c.look_at.new.store c.in-Err.fault c.in-Err.ensures.looked

pub returns-in-Ok-Some-clause-looked : goal.returns-in-Ok-Some-clause-looked
returns-in-Ok-Some-clause-looked g c = looked_ok g.D.Disk.meaning c.args.store.now c.search.new.store c.in-Ok-Some.field-0 tt (looked_on g.D.Disk.meaning c.args.store.now c.look_at.new.store c.search.new.store c.in-Ok.look (Ok c.in-Ok-Some.field-0) c.in-Ok.ensures.looked c.in-Ok-Some.ensures.looked)

pub returns-in-Ok-Some-clause-found : goal.returns-in-Ok-Some-clause-found
returns-in-Ok-Some-clause-found g c = λ R t i.
    let is = c.in-Ok.ensures.says R t i in
    find_is c.args.store.now.shape R c.args.obj _ c.in-Ok.look c.args.hint (Some c.in-Ok-Some.found) is (sym c.in-Ok-Some.field-0-is ∙ c.in-Ok-Some.ensures.says R (c.in-Ok.ensures.looked.stays_true R t) (knows_later g.D.Disk.meaning c.args.store.now c.look_at.new.store R c.in-Ok.look c.in-Ok.ensures.looked.loan is.knows))

pub returns-in-Ok-None-clause-refused : goal.returns-in-Ok-None-clause-refused
returns-in-Ok-None-clause-refused g c = λ R t i.
    let is = c.in-Ok.ensures.says R t i in
    refused_is g.D.Disk.meaning c.args.store.now R c.args.obj _ c.in-Ok.look c.args.hint c.refusal.result t i is
    (sym c.in-Ok-None.field-0-is ∙ c.in-Ok-None.ensures.says R (c.in-Ok.ensures.looked.stays_true R t) (knows_later g.D.Disk.meaning c.args.store.now c.look_at.new.store R c.in-Ok.look c.in-Ok.ensures.looked.loan is.knows))
    (c.refusal.ensures.why c.args.store.now.shape R is.knows)

pub returns-clause-looked : goal.returns-clause-looked
returns-clause-looked g c = looked_on g.D.Disk.meaning c.args.store.now c.look_at.new.store c.search.new.store c.in-Ok.look (Err c.in-Err-search.fault) c.in-Ok.ensures.looked (looked_err g.D.Disk.meaning c.look_at.new.store c.search.new.store c.in-Err-search.fault c.in-Err-search.ensures.looked)

pub returns-clause-sound : goal.returns-clause-sound
returns-clause-sound g c = λ R t i n.
    let is = c.in-Ok.ensures.says R t i in
    c.in-Err-search.ensures.sound R (c.in-Ok.ensures.looked.stays_true R t) (knows_later g.D.Disk.meaning c.args.store.now c.look_at.new.store R c.in-Ok.look c.in-Ok.ensures.looked.loan is.knows)

pub returns-in-Ok-None-clause-looked : goal.returns-in-Ok-None-clause-looked
returns-in-Ok-None-clause-looked g c = subst (λ (r : Result (Unit {0}) StoreFault). HasLooked g.D.Disk.meaning c.args.store.now c.search.new.store r) (sym c.refusal.ensures.own)
    (looked_ok g.D.Disk.meaning c.args.store.now c.search.new.store c.in-Ok-None.field-0 tt (looked_on g.D.Disk.meaning c.args.store.now c.look_at.new.store c.search.new.store c.in-Ok.look (Ok c.in-Ok-None.field-0) c.in-Ok.ensures.looked c.in-Ok-None.ensures.looked))

pub returns-in-Ok-None-clause-sound : goal.returns-in-Ok-None-clause-sound
returns-in-Ok-None-clause-sound g c = λ R t i n. c.refusal.ensures.sound
