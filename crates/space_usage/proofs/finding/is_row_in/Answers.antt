use Rattle.std.proofs.Common.{◌≡◌, ◌+◌, ◌<◌, ◌≤◌, ℕ, ◌∙◌, sym, ap, subst, true}
use Rattle.seg_words.specs.Types.{Shape, head_blocks}
use Rattle.redo_laws.specs.Among.{is_in}
use Rattle.redo_model.specs.Model.{code_of, extent_data}
use Rattle.store_core.proofs.Lookups.{looked_ok, looked_err, looked_same}
use Rattle.space_usage.proofs.Fixes.{stands_in, by_numbers, head_told, code_row, data_there}
use Rattle.space_usage.proofs.Walks.{first_is, first_there, near_first, no_first}
use Rattle.space_usage.proofs.finding.is_row_in.Goals as goal

pub returns-in-None-clause-sound : goal.returns-in-None-clause-sound
returns-in-None-clause-sound g c = λ R o e k at n i. absurd (no_first g.D.Disk.meaning R o c.args.index c.args.extent c.args.store.now c.args.shape.now c.args.segment.now e k at n c.requires.shape (sym c.block_in.ensures ∙ c.in-None.is))

pub returns-then-nth-head_blocks-clause-looked : goal.returns-then-nth-head_blocks-clause-looked
returns-then-nth-head_blocks-clause-looked g c = looked_same g.D.Disk.meaning c.args.store.now _ c.requires.unspent

pub returns-then-nth-head_blocks-clause-says : goal.returns-then-nth-head_blocks-clause-says
returns-then-nth-head_blocks-clause-says g c = λ R o e k at n i.
    let sh = c.args.shape.now in
    let there = stands_in g.D.Disk.meaning R o c.args.dba c.args.index c.args.extent c.in-Some.first c.nth_in-nth.result c.args.store.now sh c.args.segment.now e k c.requires.shape at n i (first_is sh c.args.extent c.in-Some.first (sym c.block_in.ensures ∙ c.in-Some.is)) c.nth_in-nth.ensures in
    head_told sh R o c.args.dba c.args.index c.args.extent c.in-Some.first c.nth_in-nth.result e there (subst (λ (m : ℕ). c.nth_in-nth.result < m) c.head_blocks.ensures.value c.if-nth-head_blocks.true)

pub returns-in-Ok-clause-looked : goal.returns-in-Ok-clause-looked
returns-in-Ok-clause-looked g c = looked_ok {A = ℕ} g.D.Disk.meaning c.args.store.now c.code_at.new.store c.in-Ok.code _ c.in-Ok.ensures.looked

pub returns-in-Ok-clause-says : goal.returns-in-Ok-clause-says
returns-in-Ok-clause-says g c = λ R o e k at n i.
    let sh = c.args.shape.now in
    let s = c.args.store.now in
    let first = c.in-Some.first in
    let nth = c.nth_in-nth.result in
    let there = stands_in g.D.Disk.meaning R o c.args.dba c.args.index c.args.extent first nth s sh c.args.segment.now e k c.requires.shape at n i (first_is sh c.args.extent first (sym c.block_in.ensures ∙ c.in-Some.is)) c.nth_in-nth.ensures in
    let head : head_blocks c.args.index ≤ nth = subst (λ (m : ℕ). m ≤ nth) c.head_blocks.ensures.value c.if-nth-head_blocks.false in
    let place = (by_numbers sh R o c.args.dba c.args.index c.args.extent first nth e there).place in
    let in_data : is_in (first + nth) (extent_data s.shape c.args.index e.number) ≡ true = subst (λ (z : Shape). is_in (first + nth) (extent_data z c.args.index e.number) ≡ true) k.shape (subst (λ d. is_in d (extent_data sh c.args.index e.number) ≡ true) (sym place) (data_there sh R o c.args.dba c.args.index c.args.extent first nth e there head)) in
    let code = c.in-Ok.ensures.says R o c.args.index e k.holds at (first_there sh s.shape c.args.extent first e k.shape (sym c.block_in.ensures ∙ c.in-Some.is) n) in_data in
    code_row sh R o c.args.dba c.args.index c.args.extent first nth c.in-Ok.code e there head (code ∙ ap (code_of s.shape R) place ∙ ap (λ (z : Shape). code_of z R c.args.dba) (sym k.shape))

pub returns-in-Err-clause-looked : goal.returns-in-Err-clause-looked
returns-in-Err-clause-looked g c = looked_err {A = ℕ} g.D.Disk.meaning c.args.store.now c.code_at.new.store c.in-Err.fault c.in-Err.ensures.looked

pub returns-in-Err-clause-sound : goal.returns-in-Err-clause-sound
returns-in-Err-clause-sound g c = λ R o e k at n i.
    let sh = c.args.shape.now in
    let first = c.in-Some.first in
    let nth = c.nth_in-nth.result in
    let there = stands_in g.D.Disk.meaning R o c.args.dba c.args.index c.args.extent first nth c.args.store.now sh c.args.segment.now e k c.requires.shape at n i (first_is sh c.args.extent first (sym c.block_in.ensures ∙ c.in-Some.is)) c.nth_in-nth.ensures in
    c.in-Err.ensures.sound R o c.args.index e k.holds k.table at (first_there sh c.args.store.now.shape c.args.extent first e k.shape (sym c.block_in.ensures ∙ c.in-Some.is) n) (near_first sh nth c.requires.shape (by_numbers sh R o c.args.dba c.args.index c.args.extent first nth e there).below) c.requires.unspent
