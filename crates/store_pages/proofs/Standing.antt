-- What the frames show over a disk that was only read, and what such a disk leaves.
use Rattle.std.proofs.Common.{ℕ, List, length, refl, ap, subst, sym, arith, ◌∙◌, ⊎_elim}
use Rattle.seg_words.specs.Types.{Shape}
use Rattle.disk_model.specs.Types.{Files, Meaning, Untouched}
use Rattle.disk_model.specs.declared.disk.File.TheVariants.{Data}
use Rattle.disk_model.proofs.Lemmas.{leaves_looked, then_only}
use Rattle.redo_record.specs.declared.record.Record.{Record}
use Rattle.page_store.specs.Types.{AsLong, IsStore}
use Rattle.page_set.specs.declared.page.Page.{Page}
use Rattle.page_set.specs.Folded.{page_of}
use Rattle.buffer_pool.specs.Frames.{Pool, Shows}
use Rattle.buffer_pool.specs.Looks.{Looks}
use Rattle.buffer_pool.proofs.Stores.{store_stays}
use Rattle.pool_laws.specs.Folds.{AreFolded}
use Rattle.store_pages.specs.Pages.{HasFolds, HasPages, IsOver, KeepsFiles, LeavesFolds}

module _ {D : Type 0} (meaning : Meaning D) (log : List Record) (m : ℕ) where
  -- a pool that pages were only read into
  pub over_looked : (d0 d1 : D) (p q : Pool) (image : ℕ → Page) → IsOver meaning d0 log m image p → Looks meaning d0 d1 p q → IsOver meaning d1 log m image q
  over_looked d0 d1 p q image h k = record {
    file = h.file;
    base = subst (λ (sh : Shape). IsStore meaning d1 sh h.file) (sym k.shape) (store_stays meaning d0 d1 p.shape h.file h.base k.untouched);
    folded = subst (λ (sh : Shape). AreFolded sh log m h.file) (sym k.shape) h.folded;
    shown = subst (λ (sh : Shape). Shows sh h.file image q.held) (sym k.shape) (record { at = λ d has. (k.shows h.file h.base).at d (image d) (h.shown.at d has) });
  }

  pub pages_looked : (d0 d1 : D) (p q : Pool) (R : List Record) → HasPages meaning d0 log m R p → Looks meaning d0 d1 p q → HasPages meaning d1 log m R q
  pages_looked d0 d1 p q R h k = record {
    part = h.part;
    marked = h.marked;
    over = subst (λ (sh : Shape). IsOver meaning d1 log m (page_of sh R) q) (sym k.shape) (over_looked d0 d1 p q (page_of p.shape R) h.over k);
  }

  pub folds_now : (d : D) (p : Pool) (image : ℕ → Page) → IsOver meaning d log m image p → HasFolds p.shape log m (meaning.files d).data_bytes
  folds_now d p image h = record { pages = h.file; has = h.base.file.has; folded = h.folded }

  pub folds_looked : (d0 d1 : D) (p : Pool) (image : ℕ → Page) → IsOver meaning d0 log m image p → Untouched meaning d0 d1 → LeavesFolds meaning d0 d1 p.shape log m
  folds_looked d0 d1 p image h look =
      let bytes : List ℕ = (meaning.files d0).data_bytes in
      leaves_looked meaning Data d0 d1 (AsLong bytes (HasFolds p.shape log m)) h.base.settled look (record { long = refl; is = folds_now d0 p image h })

module _ {D : Type 0} (meaning : Meaning D) where
  pub keeps_start : (d : D) → KeepsFiles meaning d d
  keeps_start d = record { long = refl; log_stays = refl }

  pub keeps_looked : (d0 d1 : D) → meaning.told d0 → Untouched meaning d0 d1 → KeepsFiles meaning d0 d1
  keeps_looked d0 d1 told look = record {
    long = ap (λ (f : Files). length f.data_bytes) (look.files told);
    log_stays = ap (λ (f : Files). f.log_bytes) (look.files told);
  }

  pub keeps_then : (d0 d1 d2 : D) → KeepsFiles meaning d0 d1 → KeepsFiles meaning d1 d2 → KeepsFiles meaning d0 d2
  keeps_then d0 d1 d2 first second = record { long = second.long ∙ first.long; log_stays = second.log_stays ∙ first.log_stays }

  -- calls that changed the data file alone, one after the other
  pub folds_then : (d0 d1 d2 : D) (sh : Shape) (log : List Record) (m : ℕ) → LeavesFolds meaning d0 d1 sh log m → KeepsFiles meaning d0 d1 → LeavesFolds meaning d1 d2 sh log m → LeavesFolds meaning d0 d2 sh log m
  folds_then d0 d1 d2 sh log m first keeps second =
      let P : List ℕ → Type 0 = AsLong (meaning.files d0).data_bytes (HasFolds sh log m) in
      let Q : List ℕ → Type 0 = AsLong (meaning.files d1).data_bytes (HasFolds sh log m) in
      then_only meaning d0 d1 Data d2 P Q P first
      (λ image is. ⊎_elim (λ was. absurd (omega (arith, was.0, first.later))) (λ now. now.1) (first.each (meaning.clock d1) image (omega arith) is))
      second (λ bytes is. record { long = is.long ∙ keeps.long; is = is.is })
