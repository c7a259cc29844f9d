use Rattle.std.proofs.Common.{◌≡◌, ap, sym, ◌∙◌}
use Rattle.seg_words.specs.Types.{Shape}
use Rattle.page_store.specs.Types.{block}
use Rattle.page_set.specs.declared.page.Page.{Page}
use Rattle.page_set.specs.Spelled.{meaning_of}
use Rattle.buffer_pool.specs.Frames.{has_page, in_file}
use Rattle.buffer_pool.proofs.Decoded.{store_page, store_wrong, file_wrong, wrong_bytes}
use Rattle.buffer_pool.proofs.reading.read_page.Goals as goal

pub returns-in-Ok-decode-clause-page : goal.returns-in-Ok-decode-clause-page
returns-in-Ok-decode-clause-page g c = λ pages s.
    let has = ap (λ (sh : Shape). has_page sh c.args.dba) (sym c.shape.ensures) ∙ sym c.has_page.ensures ∙ c.if-not-has_page.false in
    store_page c.args.store.now c.args.dba has pages c.get.new.into c.in-Ok-decode.page (c.in-Ok.ensures.page pages s) c.in-Ok-decode.ensures.exact

pub returns-in-Err-BadPage-clause-page : goal.returns-in-Err-BadPage-clause-page
returns-in-Err-BadPage-clause-page g c = λ pages s.
    let has = ap (λ (sh : Shape). has_page sh c.args.dba) (sym c.shape.ensures) ∙ sym c.has_page.ensures ∙ c.if-not-has_page.false in
    store_wrong c.args.store.now c.args.dba has pages (λ (p : Page). p ≡ in_file pages c.args.dba) c.get.new.into c.in-Err-BadPage.field-0-0 (c.in-Ok.ensures.page pages s) c.get.array_long
    (wrong_bytes c.args.dba c.get.new.into c.in-Err-BadPage.field-0 c.in-Err-BadPage.field-0-0 c.in-Err-BadPage.field-0-is c.in-Err-BadPage.ensures.exact)

pub returns-in-Err-BadPage-clause-found : goal.returns-in-Err-BadPage-clause-found
returns-in-Err-BadPage-clause-found g c = λ told.
    let has = ap (λ (sh : Shape). has_page sh c.args.dba) (sym c.shape.ensures) ∙ sym c.has_page.ensures ∙ c.if-not-has_page.false in
    file_wrong c.args.store.now c.args.dba has (g.D.Disk.meaning.files c.args.disk.now).data_bytes c.get.new.into (λ (p : Page). p ≡ meaning_of c.args.dba (block c.args.dba (g.D.Disk.meaning.files c.args.disk.now).data_bytes)) c.in-Err-BadPage.field-0-0 (c.in-Ok.ensures.found told) c.get.array_long
    (wrong_bytes c.args.dba c.get.new.into c.in-Err-BadPage.field-0 c.in-Err-BadPage.field-0-0 c.in-Err-BadPage.field-0-is c.in-Err-BadPage.ensures.exact)
