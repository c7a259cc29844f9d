-- The page that a frame lends, and that of the transaction table with a Commit.
use Rattle.std.proofs.Common.{◌≡◌, ℕ, suc, true, List, ◌∷◌, length, Option, Some, None, IsSome, sym, subst}
use Rattle.std.proofs.lemmas.Bool.{true≢false}
use Rattle.seg_words.specs.Types.{Shape, TXN_TABLE_BLOCK}
use Rattle.redo_record.specs.declared.record.Record.{Record}
use Rattle.redo_record.specs.declared.record.Record.TheVariants.{Commit}
use Rattle.redo_record.specs.declared.transaction.CommitRecord.{CommitRecord}
use Rattle.page_set.specs.declared.page.Page.{Page}
use Rattle.page_set.specs.Changes.{Fits}
use Rattle.page_set.specs.Folded.{page_of}
use Rattle.buffer_pool.specs.declared.frame.Frame.{Frame}
use Rattle.buffer_pool.specs.Frames.{frame_at, has_page, page_over, HasOnlyPages, IsShown, Pool, Shows}
use Rattle.buffer_pool.specs.Preparing.{changed_at}
use Rattle.store_pages.specs.Pages.{IsFetched, ShowsAfter}

framed_page : (d : ℕ) (o : Option Frame) (bytes : List ℕ) (page base : Page) → IsSome o → IsShown d o bytes page → page_over o base ≡ page
framed_page d None bytes page base some shown = absurd (true≢false (sym some))
framed_page d (Some f) bytes page base some shown = shown.0

pub lent_page : (file : ℕ → List ℕ) (R : List Record) (d : ℕ) (p : Pool) (base : Page) → ShowsAfter file R p → has_page p.shape d ≡ true → IsSome (frame_at p.held d) → page_over (frame_at p.held d) base ≡ page_of p.shape R d
lent_page file R d p base shows has some = framed_page d (frame_at p.held d) (file d) (page_of p.shape R d) base some (shows.at d has)

pub table_fetched : (p : Pool) → HasOnlyPages p.shape p.held → IsSome (frame_at p.held TXN_TABLE_BLOCK) → IsFetched TXN_TABLE_BLOCK p
table_fetched p only some = record { has = only.at TXN_TABLE_BLOCK some; framed = some }

-- pages that were changed, in a pool of the same shape
pub after_shape : (p q : Pool) (file : ℕ → List ℕ) (R : List Record) → q.shape ≡ p.shape → Shows p.shape file (page_of p.shape R) q.held → ShowsAfter file R q
after_shape p q file R e shows = subst (λ (sh : Shape). Shows sh file (page_of sh R) q.held) (sym e) shows

pub commit_shows : (p q : Pool) (file : ℕ → List ℕ) (R : List Record) (c : CommitRecord) (lsn : ℕ) → lsn ≡ suc (length R) → q.shape ≡ p.shape → Shows p.shape file (changed_at p.shape (Commit c) lsn (page_of p.shape R)) q.held → ShowsAfter file (Commit c ∷ R) q
commit_shows p q file R c lsn e shape shows =
    after_shape p q file (Commit c ∷ R) shape (record {
      at = λ d has. subst (λ (l : ℕ). IsShown d (frame_at q.held d) (file d) (changed_at p.shape (Commit c) l (page_of p.shape R) d)) e (shows.at d has);
    })

pub fits_as : (c : CommitRecord) (lsn : ℕ) (x y : Page) → x ≡ y → Fits (Commit c) lsn x → Fits (Commit c) lsn y
fits_as c lsn x y e fits = subst (Fits (Commit c) lsn) e fits
