use Rattle.std.proofs.Common.{◌≡◌, ℕ, ◌+◌, IfOk, Option, ◌∙◌, sym, subst}
use Rattle.redo_model.specs.Model.{IsRowBlock}
use Rattle.store_core.proofs.Lookups.{looked_on, looked_ok}
use Rattle.free_search.specs.Looks.{found_if, row_sought}
use Rattle.free_search.specs.Codes.{room_for}
use Rattle.free_search.proofs.Known.{fixed, knows_later}
use Rattle.free_search.proofs.Codes.{no_code, with_room, code_formatted}
use Rattle.free_search.proofs.Extents.{row_block, first_given, code_told}
use Rattle.free_search.proofs.place.block_at.Goals as goal

pub returns-in-Err-clause-sound : goal.returns-in-Err-clause-sound
returns-in-Err-clause-sound g c = λ R index e t k f least u n. c.in-Err.ensures.sound R c.args.look.now.segment.obj index e t k.table f.extent (first_given c.args.store.now.shape R c.args.look.now index c.args.first e k f) c.requires.nth n

pub returns-then-not-has_code-clause-looked : goal.returns-then-not-has_code-clause-looked
returns-then-not-has_code-clause-looked g c = looked_ok g.D.Disk.meaning c.args.store.now c.code_at.new.store c.in-Ok.code _ c.in-Ok.ensures.looked

pub returns-then-not-has_code-clause-says : goal.returns-then-not-has_code-clause-says
returns-then-not-has_code-clause-says g c = λ R index e t k f least u.
    let l = c.args.look.now in
    no_code l.shape R (row_sought l) c.args.wanted.now (c.args.first + c.args.nth) c.in-Ok.code (fixed g.D.Disk.meaning c.args.store.now R l t k).lawful.allowed
    (code_told g.D.Disk.meaning c.args.store.now R l index c.args.first c.args.nth c.in-Ok.code e t k f least u (λ Q o i x q at is m. c.in-Ok.ensures.says Q o i x q at is m))
    (sym c.has_code.ensures ∙ c.if-not-has_code.true)

pub returns-clause-looked : goal.returns-clause-looked
returns-clause-looked g c = looked_on g.D.Disk.meaning c.args.store.now c.code_at.new.store c.room_at.new.store c.in-Ok.code c.room_at.result c.in-Ok.ensures.looked c.room_at.ensures.looked

pub returns-clause-says : goal.returns-clause-says
returns-clause-says g c = λ R index e t k f least u.
    let l = c.args.look.now in
    let b = c.args.first + c.args.nth in
    let same = c.nth_block.ensures in
    let known = fixed g.D.Disk.meaning c.args.store.now R l t k in
    let code = code_told g.D.Disk.meaning c.args.store.now R l index c.args.first c.args.nth c.in-Ok.code e t k f least u (λ Q o i x q at is m. c.in-Ok.ensures.says Q o i x q at is m) in
    let has = sym c.has_code.ensures ∙ c.if-not-has_code.false in
    let row = row_block R l index e c.args.first c.args.nth known f least u (code_formatted l.shape R c.args.wanted.now b c.in-Ok.code known.lawful.allowed code has) in
    subst (λ (v : Option ℕ). IfOk c.room_at.result (λ r. r ≡ v)) (with_room l.shape R (row_sought l) c.args.wanted.now b c.in-Ok.code known.lawful.allowed code has)
    (subst (λ (d : ℕ). IfOk c.room_at.result (λ r. r ≡ found_if (room_for R (row_sought l) d) d)) same
    (c.room_at.ensures.says R (c.in-Ok.ensures.looked.stays_true R t) (knows_later g.D.Disk.meaning c.args.store.now c.code_at.new.store R l c.in-Ok.ensures.looked.loan k)
    (subst (λ (d : ℕ). IsRowBlock l.shape R l.segment.obj d) (sym same) row)))

pub returns-clause-sound : goal.returns-clause-sound
returns-clause-sound g c = λ R index e t k f least u n.
    let l = c.args.look.now in
    let known = fixed g.D.Disk.meaning c.args.store.now R l t k in
    let code = code_told g.D.Disk.meaning c.args.store.now R l index c.args.first c.args.nth c.in-Ok.code e t k f least u (λ Q o i x q at is m. c.in-Ok.ensures.says Q o i x q at is m) in
    let row = row_block R l index e c.args.first c.args.nth known f least u (code_formatted l.shape R c.args.wanted.now (c.args.first + c.args.nth) c.in-Ok.code known.lawful.allowed code (sym c.has_code.ensures ∙ c.if-not-has_code.false)) in
    c.room_at.ensures.sound R (c.in-Ok.ensures.looked.stays_true R t) (knows_later g.D.Disk.meaning c.args.store.now c.code_at.new.store R l c.in-Ok.ensures.looked.loan k)
    (subst (λ (d : ℕ). IsRowBlock l.shape R l.segment.obj d) (sym c.nth_block.ensures) row)
