-- Whether records fit on the pages that they touch, out of what the pool answers.
use Rattle.std.proofs.Common.{◌≡◌, ◌⊎◌, ℕ, suc, ◌+◌, Bool, true, false, ◌&&◌, ◌||◌, nat_lt, cond, List, ◌∷◌, length, Option, Some, None, Result, Ok, Err, OnOk, IfErr, refl, sym, ap, subst, arith, ◌∙◌, inl, inr, ⊎_elim, lt-ltb}
use Rattle.std.proofs.lemmas.Bool.{true≢false}
use Rattle.seg_words.specs.Types.{Shape}
use Rattle.disk_model.specs.Types.{Meaning}
use Rattle.redo_record.specs.declared.record.Record.{Record}
use Rattle.page_store.specs.declared.fault.PageFault.{PageFault}
use Rattle.page_store.specs.declared.fault.PageFault.TheVariants.{DeviceFault, BadPage, NoMemory}
use Rattle.page_store.specs.Types.{IsStore}
use Rattle.page_set.specs.declared.page.Page.{Page}
use Rattle.page_set.specs.Pages.{lsn_of}
use Rattle.page_set.specs.Changes.{changed_page, Fits}
use Rattle.page_set.specs.Among.{is_among}
use Rattle.page_set.specs.Folded.{page_of, touched}
use Rattle.page_set.proofs.LsnLaw.{lsns_tell}
use Rattle.buffer_pool.specs.declared.changed.NewPage.{NewPage}
use Rattle.buffer_pool.specs.declared.frame.Frame.{Frame}
use Rattle.buffer_pool.specs.Frames.{frame_at, has_page, IsSpelled, Pool, Shows}
use Rattle.buffer_pool.specs.Reading.{IsFetching}
use Rattle.buffer_pool.specs.Preparing.{redone, IsPreparing}
use Rattle.store_pages.specs.Pages.{HasPages}
use Rattle.store_pages.specs.Fitting.{AreBothFit, FitsAll, WhyNotAdded, WhyNotBoth, WhyNotFetched}

either_true : (a b : Bool) → (a || b) ≡ true → (a ≡ true) ⊎ (b ≡ true)
either_true true b h = inl refl
either_true false b h = inr h

left_true : (a b : Bool) → a ≡ true → (a || b) ≡ true
left_true true b h = refl
left_true false b h = absurd (true≢false (sym h))

right_true : (a b : Bool) → b ≡ true → (a || b) ≡ true
right_true true b h = refl
right_true false b h = h

and_true : (a b : Bool) (x y : Page) → b ≡ true → cond (a && b) x y ≡ cond a x y
and_true true b x y h = rw h refl
and_true false b x y h = refl

-- the page after some records has none that comes next
numbered : (sh : Shape) (R : List Record) (lsn d : ℕ) → lsn ≡ suc (length R) → nat_lt (lsn_of (page_of sh R d)) lsn ≡ true
numbered sh R lsn d e = lt-ltb (lsn_of (page_of sh R d)) lsn (omega (arith, (lsns_tell sh R d).most, e))

redone_page : (sh : Shape) (R : List Record) (r : Record) (lsn d : ℕ) → lsn ≡ suc (length R) → redone sh r lsn d (page_of sh R d) ≡ page_of sh (r ∷ R) d
redone_page sh R r lsn d e =
    ap (λ (n : ℕ). redone sh r n d (page_of sh R d)) e
    ∙ and_true (is_among (touched sh r) d) (nat_lt (lsn_of (page_of sh R d)) (suc (length R))) (changed_page r (suc (length R)) (page_of sh R d)) (page_of sh R d) (numbered sh R (suc (length R)) d refl)

-- ---- a block's page that is fetched

no_page : (b : Bool) → (b ≡ true → ⊥) → b ≡ false
no_page true h = absurd (h refl)
no_page false h = refl

not_fetched : (sh : Shape) (d : ℕ) (bytes : List ℕ) (o : Option Frame) (fault : PageFault) → (has_page sh d ≡ true → IsSpelled d bytes) → IsFetching sh d (IsSpelled d bytes) o (Err fault) → WhyNotFetched sh d fault
not_fetched sh d bytes (Some f) fault spelled is = absurd cc
not_fetched sh d bytes None DeviceFault spelled is = tt
not_fetched sh d bytes None (BadPage b) spelled is = (is.0, no_page (has_page sh d) (λ has. is.1 has (spelled has)))
not_fetched sh d bytes None NoMemory spelled is = tt

module _ {D : Type 0} (meaning : Meaning D) (d0 : D) (log : List Record) (m : ℕ) (R : List Record) (p : Pool) (h : HasPages meaning d0 log m R p) where
  pub why_not_fetched : (d : ℕ) (result : Result (Unit {0}) PageFault) → ((pages : ℕ → List ℕ) → IsStore meaning d0 p.shape pages → IsFetching p.shape d (IsSpelled d (pages d)) (frame_at p.held d) result) → IfErr result (WhyNotFetched p.shape d)
  why_not_fetched d (Ok x) is = tt
  why_not_fetched d (Err fault) is = not_fetched p.shape d (h.over.file d) (frame_at p.held d) fault (h.over.folded.spelled d) (is h.over.file h.over.base)

  -- ---- one record

  module _ (r : Record) (lsn : ℕ) (e : lsn ≡ suc (length R)) where
    pub fits_all : (result : Result (List NewPage) PageFault) → ((pages : ℕ → List ℕ) (image : ℕ → Page) → IsStore meaning d0 p.shape pages → Shows p.shape pages image p.held → IsPreparing p.shape r None lsn pages p.held image result) → OnOk result (FitsAll p.shape R r)
    fits_all (Err fault) answers = tt
    fits_all (Ok new) answers = λ d y.
        let ready = answers h.over.file (page_of p.shape R) h.over.base h.over.shown d y in
        (ready.has, subst (λ (n : ℕ). Fits r n (page_of p.shape R d)) e (ready.fit y (numbered p.shape R lsn d e)))

    why : (fault : PageFault) → IsPreparing p.shape r None lsn h.over.file p.held (page_of p.shape R) (Err fault) → WhyNotAdded p.shape R r fault
    why DeviceFault is = tt
    why (BadPage b) is = record {
      touches = is.0;
      unfit = λ f. is.1 (record {
        has = f.0;
        spelled = λ none. h.over.folded.spelled b f.0;
        fit = λ y lt. subst (λ (n : ℕ). Fits r n (page_of p.shape R b)) (sym e) f.1;
      });
    }
    why NoMemory is = tt

    pub why_not_added : (result : Result (List NewPage) PageFault) → ((pages : ℕ → List ℕ) (image : ℕ → Page) → IsStore meaning d0 p.shape pages → Shows p.shape pages image p.held → IsPreparing p.shape r None lsn pages p.held image result) → IfErr result (WhyNotAdded p.shape R r)
    why_not_added (Ok new) answers = tt
    why_not_added (Err fault) answers = why fault (answers h.over.file (page_of p.shape R) h.over.base h.over.shown)

  -- ---- two of them

  module _ (a b : Record) (lsn : ℕ) (e : lsn ≡ suc (length R)) where
    after_first : (d : ℕ) → redone p.shape a lsn d (page_of p.shape R d) ≡ page_of p.shape (a ∷ R) d
    after_first d = redone_page p.shape R a lsn d e

    number : lsn + 1 ≡ suc (length (a ∷ R))
    number = omega (arith, e)

    pub both_fit : (result : Result (List NewPage) PageFault) → ((pages : ℕ → List ℕ) (image : ℕ → Page) → IsStore meaning d0 p.shape pages → Shows p.shape pages image p.held → IsPreparing p.shape a (Some b) lsn pages p.held image result) → OnOk result (AreBothFit p.shape R a b)
    both_fit (Err fault) answers = tt
    both_fit (Ok new) answers = record {
      first_fits = λ d y.
          let ready = answers h.over.file (page_of p.shape R) h.over.base h.over.shown d (left_true (is_among (touched p.shape a) d) (is_among (touched p.shape b) d) y) in
          (ready.has, subst (λ (n : ℕ). Fits a n (page_of p.shape R d)) e (ready.fit.0 y (numbered p.shape R lsn d e)));
      second_fits = λ d y.
          let ready = answers h.over.file (page_of p.shape R) h.over.base h.over.shown d (right_true (is_among (touched p.shape a) d) (is_among (touched p.shape b) d) y) in
          let fit = subst (λ (x : Page). nat_lt (lsn_of x) (lsn + 1) ≡ true → Fits b (lsn + 1) x) (after_first d) (ready.fit.1 y) in
          (ready.has, subst (λ (n : ℕ). Fits b n (page_of p.shape (a ∷ R) d)) number (fit (numbered p.shape (a ∷ R) (lsn + 1) d number)));
    }

    why_both : (fault : PageFault) → IsPreparing p.shape a (Some b) lsn h.over.file p.held (page_of p.shape R) (Err fault) → WhyNotBoth p.shape R a b fault
    why_both DeviceFault is = tt
    why_both (BadPage d) is = record {
      touches = is.0;
      unfit = λ first second.
          let has : has_page p.shape d ≡ true = ⊎_elim (λ y. (first y).0) (λ y. (second y).0) (either_true (is_among (touched p.shape a) d) (is_among (touched p.shape b) d) is.0) in
          is.1 (record {
            has = has;
            spelled = λ none. h.over.folded.spelled d has;
            fit = (
              λ y lt. subst (λ (n : ℕ). Fits a n (page_of p.shape R d)) (sym e) (first y).1,
              λ y lt. subst (λ (x : Page). Fits b (lsn + 1) x) (sym (after_first d)) (subst (λ (n : ℕ). Fits b n (page_of p.shape (a ∷ R) d)) (sym number) (second y).1),
            );
          });
    }
    why_both NoMemory is = tt

    pub why_not_both : (result : Result (List NewPage) PageFault) → ((pages : ℕ → List ℕ) (image : ℕ → Page) → IsStore meaning d0 p.shape pages → Shows p.shape pages image p.held → IsPreparing p.shape a (Some b) lsn pages p.held image result) → IfErr result (WhyNotBoth p.shape R a b)
    why_not_both (Ok new) answers = tt
    why_not_both (Err fault) answers = why_both fault (answers h.over.file (page_of p.shape R) h.over.base h.over.shown)

-- two facts of an answer that went well
pub both_ok : {A E : Type 0} (result : Result A E) (P Q R : Type 0) → (P → Q → R) → OnOk result P → OnOk result Q → OnOk result R
both_ok (Ok a) P Q R f p q = f p q
both_ok (Err e) P Q R f p q = tt
