use Rattle.std.proofs.Common.{◌≡◌, ℕ, List, ap, sym, subst, refl, ◌∙◌, ◌<◌, ◌^◌, arith, Ok, Err}
use Rattle.disk_model.specs.Types.{Files}
use Rattle.log_frame.specs.Types.{Covers}
use Rattle.redo_log.specs.Found.{IsCounted, Stops}
use Rattle.disk_model.proofs.Lemmas.{untouched_then}
use Rattle.redo_log.proofs.Sound.{opened}
use Rattle.redo_log.proofs.Walking.{opens, stops_opening, begins_not, counted_here}
use Rattle.redo_log.proofs.opening.open.Goals as goal

pub returns-in-Err-clause-found : goal.returns-in-Err-clause-found
returns-in-Err-clause-found g c R0 told before =
    begins_not (g.D.Disk.meaning.files c.args.disk.now).log_bytes c.args.from R0 c.in-Err.fault c.of_frame.result c.of_frame.ensures.same (c.in-Err.ensures.begins told)

pub returns-in-Err-count_records-clause-found : goal.returns-in-Err-count_records-clause-found
returns-in-Err-count_records-clause-found g c R0 told before =
    let meaning = g.D.Disk.meaning in
    let file = (meaning.files c.args.disk.now).log_bytes in
    let later = (meaning.files c.open.new.disk).log_bytes in
    let look = c.open.ensures.untouched in
    let same : later ≡ file = ap (λ (f : Files). f.log_bytes) (look.files told) in
    let begun = c.in-Ok.ensures.begins told in
    let counted = counted_here file later c.args.from c.in-Ok.groups c.count_records.new.groups.next R0 (Err c.in-Err-count_records.fault) same begun.1 begun.2 (λ covers. c.in-Err-count_records.ensures.counted R0 (look.told.1 told) covers before) in
    stops_opening file c.args.from R0 c.in-Err-count_records.fault begun.0 counted

pub returns-in-Ok-over-clause-found : goal.returns-in-Ok-over-clause-found
returns-in-Ok-over-clause-found g c R0 told before =
    let meaning = g.D.Disk.meaning in
    let file = (meaning.files c.args.disk.now).log_bytes in
    let later = (meaning.files c.open.new.disk).log_bytes in
    let look = c.open.ensures.untouched in
    let same : later ≡ file = ap (λ (f : Files). f.log_bytes) (look.files told) in
    let begun = c.in-Ok.ensures.begins told in
    let log = c.in-Ok-over.ensures in
    let end = c.count_records.new.groups.next in
    let count = c.in-Ok-count_records.count in
    let counted = counted_here file later c.args.from c.in-Ok.groups end R0 (Ok count) same begun.1 begun.2 (λ covers. c.in-Ok-count_records.ensures.counted R0 (look.told.1 told) covers before) in
    opens file c.args.from end R0 count c.in-Ok-over.log begun.0 counted (log.end ∙ c.into_log.ensures) log.stable log.count log.none

pub returns-in-Err-clause-whole : goal.returns-in-Err-clause-whole
returns-in-Err-clause-whole g c shape passed after R0 R settled log place before holds =
    let meaning = g.D.Disk.meaning in
    let start = c.args.disk.now in
    opened shape passed after (meaning.files start).log_bytes c.args.from R0 R log place holds meaning start c.open.new.disk (Err c.of_frame.result) settled c.open.ensures.untouched refl (returns-in-Err-clause-found g c R0 settled.told before)

pub returns-in-Err-count_records-clause-whole : goal.returns-in-Err-count_records-clause-whole
returns-in-Err-count_records-clause-whole g c shape passed after R0 R settled log place before holds =
    let meaning = g.D.Disk.meaning in
    let start = c.args.disk.now in
    opened shape passed after (meaning.files start).log_bytes c.args.from R0 R log place holds meaning start c.count_records.new.disk (Err c.in-Err-count_records.fault) settled (untouched_then meaning start c.open.new.disk c.count_records.new.disk c.open.ensures.untouched c.count_records.ensures.untouched) refl (returns-in-Err-count_records-clause-found g c R0 settled.told before)

pub returns-in-Ok-over-clause-whole : goal.returns-in-Ok-over-clause-whole
returns-in-Ok-over-clause-whole g c shape passed after R0 R settled log place before holds =
    let meaning = g.D.Disk.meaning in
    let start = c.args.disk.now in
    opened shape passed after (meaning.files start).log_bytes c.args.from R0 R log place holds meaning start c.count_records.new.disk (Ok c.in-Ok-over.log) settled (untouched_then meaning start c.open.new.disk c.count_records.new.disk c.open.ensures.untouched c.count_records.ensures.untouched) refl (returns-in-Ok-over-clause-found g c R0 settled.told before)
