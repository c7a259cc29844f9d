use Rattle.std.proofs.Common.{ℕ, ◌∷◌, List, Ok, subst}
use Rattle.redo_model.specs.Records.{Record, Clean}
use Rattle.usage_laws.specs.Types.{drafted_clean, with_clean}
use Rattle.usage_laws.proofs.CleanLaw.{cleans_are_allowed}
use Rattle.store_core.specs.Adding.{Adds}
use Rattle.store_core.proofs.Additions.{adds_told, adds_same, adds_none, tried_on, tried_none}
use Rattle.space_usage.proofs.Bitmaps.{called_clean, clean_read, clean_told, none_told, with_called, with_none, rows_have}
use Rattle.space_usage.proofs.Stored.{some_list}
use Rattle.space_usage.proofs.cleaning.clean_block_of.Goals as goal

pub returns-in-Ok-Some-clause-cleans : goal.returns-in-Ok-Some-clause-cleans
returns-in-Ok-Some-clause-cleans g c = λ R o h k.
    let M = g.D.Disk.meaning in
    let a = c.args.store.now in
    let d : ℕ = c.args.dba in
    let told = clean_told a.shape R o d c.args.table.now c.in-Ok-Some.field-0 c.in-Ok-Some.ended h.holds.list.within h.holds.lawful h.here k (c.in-Ok-Some.ensures.says R h.holds) c.in-Ok-Some.field-0-is in
    subst (λ (Q : List Record). Adds {T = Unit {0}} M R Q a c.add_clean.new.store c.add_clean.result) (with_called R d told.0)
    (adds_told M a c.ask.new.store c.add_clean.new.store c.in-Ok-Some.field-0 c.add_clean.result (Clean (drafted_clean R d)) (Clean (record { dba = d; ended = c.in-Ok-Some.ended })) R h.holds c.in-Ok-Some.ensures.looked told.1 (cleans_are_allowed a.shape R o d h.holds.lawful h.here) (λ Q q l. c.add_clean.ensures.adds Q q l))

pub returns-in-Ok-Some-clause-list : goal.returns-in-Ok-Some-clause-list
returns-in-Ok-Some-clause-list g c = λ R h. some_list g.D.Disk.meaning c.add_clean.new.store (Clean (record { dba = c.args.dba; ended = c.in-Ok-Some.ended }) ∷ R) c.add_clean.result (c.add_clean.ensures.list R (c.in-Ok-Some.ensures.looked.list R h))

pub returns-in-Ok-Some-clause-tried : goal.returns-in-Ok-Some-clause-tried
returns-in-Ok-Some-clause-tried g c = tried_on g.D.Disk.meaning c.args.store.now c.ask.new.store c.add_clean.new.store c.in-Ok-Some.field-0 c.add_clean.result c.in-Ok-Some.ensures.looked c.add_clean.ensures.tried

pub returns-in-Ok-None-clause-cleans : goal.returns-in-Ok-None-clause-cleans
returns-in-Ok-None-clause-cleans g c = λ R o h k.
    let M = g.D.Disk.meaning in
    let a = c.args.store.now in
    let d : ℕ = c.args.dba in
    subst (λ (Q : List Record). Adds {T = Unit {0}} M R Q a c.ask.new.store (Ok tt))
    (with_none R d (none_told a.shape R o d c.args.table.now c.in-Ok-None.field-0 h.holds.list.within h.holds.lawful h.here k (c.in-Ok-None.ensures.says R h.holds) c.in-Ok-None.field-0-is))
    (adds_same M a c.ask.new.store c.in-Ok-None.field-0 tt R h.holds c.in-Ok-None.ensures.looked)

pub returns-in-Err-clause-cleans : goal.returns-in-Err-clause-cleans
returns-in-Err-clause-cleans g c = λ R o h k.
    let a = c.args.store.now in
    let d : ℕ = c.args.dba in
    adds_none g.D.Disk.meaning a c.ask.new.store c.in-Err.fault R (with_clean R d) h.holds c.in-Err.ensures.looked
    (λ n. c.in-Err.ensures.sound R (called_clean R d) h.holds n (rows_have a.shape R o d h.holds.list.within h.holds.lawful h.table h.here) (clean_read a.shape R o d c.args.table.now h.holds.list.within h.holds.lawful h.here k))

pub returns-in-Err-clause-tried : goal.returns-in-Err-clause-tried
returns-in-Err-clause-tried g c = tried_none g.D.Disk.meaning c.args.store.now c.ask.new.store c.in-Err.fault c.in-Err.ensures.looked
