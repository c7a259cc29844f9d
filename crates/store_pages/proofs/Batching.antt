-- What a batch leaves of the data file and of what the frames show.
use Rattle.std.proofs.Common.{◌≡◌, ℕ, suc, ◌+◌, ◌<◌, ◌≤◌, Bool, true, false, ◌||◌, nat_eq, cond, min, zero, List, [], ◌∷◌, length, map, take, Option, Some, None, Result, Ok, Err, OnOk, IfSome, IsSome, refl, sym, ap, subst, arith, ◌∙◌, ⊎_elim, inl, inr}
use Rattle.std.specs.List.{All, list_any}
use Rattle.std.proofs.lemmas.Bool.{true≢false, eqb-true}
use Rattle.seg_words.specs.Types.{Shape}
use Rattle.seg_words.proofs.Lemmas.{cases_order}
use Rattle.disk_model.specs.Types.{Meaning, Leaves, OnlyFile}
use Rattle.disk_model.specs.declared.disk.File.TheVariants.{Data}
use Rattle.disk_model.proofs.Lemmas.{leaves_so}
use Rattle.redo_record.specs.declared.record.Record.{Record}
use Rattle.redo_model.specs.Lists.{prefix, same, Extends}
use Rattle.redo_laws.proofs.lists.Prefixes.{prefix_extends, prefix_longer, prefix_size}
use Rattle.page_store.specs.declared.fault.PageFault.{PageFault}
use Rattle.page_store.specs.declared.page.RawPage.{RawPage}
use Rattle.page_store.specs.Types.{after, blocks_of, AsLong, IsStore, Leads, WholeOrNot}
use Rattle.page_set.specs.declared.page.Page.{Page}
use Rattle.page_set.specs.declared.page.Page.TheVariants.{Zero}
use Rattle.page_set.specs.Pages.{dba_of, lsn_of}
use Rattle.page_set.specs.Spelled.{meaning_of, spelling_of, HasSpelling}
use Rattle.page_set.specs.Folded.{page_of}
use Rattle.page_set.proofs.LsnLaw.{lsns_tell}
use Rattle.page_set.proofs.ReadAgain.{meaning_again}
use Rattle.buffer_pool.specs.declared.frame.Frame.{Frame}
use Rattle.buffer_pool.specs.Frames.{frame_at, framed, has_page, page_over, HasOnlyPages, IsShown, IsSpelled, IsWritten, Pool, Shows}
use Rattle.buffer_pool.specs.Batches.{raw_page, AreDirtyUpTo, IsBatch, IsDueIn, ReadBack}
use Rattle.buffer_pool.proofs.Batched.{blocks_raw, page_in_raw}
use Rattle.pool_laws.specs.Reached.{AreReached, IsReached}
use Rattle.pool_laws.specs.Folds.{AreFolded}
use Rattle.pool_laws.proofs.Written.{written_reached}
use Rattle.store_pages.specs.Pages.{AreOlder, AreReadable, AreWritable, HasFolds, HasPages, IsOver, KeepsFiles, LeavesFolds}

-- ---- the pages of the file

any_of : (P : ℕ → Type 0) (ns : List ℕ) (d : ℕ) → All P ns → list_any (λ b. nat_eq b d) ns ≡ true → P d
any_of P [] d all y = absurd (true≢false (sym y))
any_of P (n ∷ ns) d all y = decide (nat_eq n d) refl (any_of P ns d (λ k i less. all (suc k) i (omega arith))) y
  where
    decide : (t : Bool) → nat_eq n d ≡ t → (list_any (λ b. nat_eq b d) ns ≡ true → P d) → (t || list_any (λ b. nat_eq b d) ns) ≡ true → P d
    decide true e rest h = subst P (eqb-true n d e) (all 0 n (omega arith))
    decide false e rest h = rest h

due_shows : (upto d : ℕ) (o : Option Frame) (bytes : List ℕ) (p : Page) → IsDueIn upto o → IsShown d o bytes p → (page_over o (Zero d) ≡ p) × (lsn_of p ≤ upto)
due_shows upto d None bytes p due shown = absurd due
due_shows upto d (Some f) bytes p due shown = (shown.0, subst (λ (q : Page). lsn_of q ≤ upto) shown.0 due.1)

means : (d : ℕ) (bytes : List ℕ) (p : Page) → HasSpelling p → dba_of p ≡ d → bytes ≡ spelling_of p → meaning_of d bytes ≡ p
means d bytes p fits at is = ap (meaning_of d) is ∙ ap (λ (n : ℕ). meaning_of n (spelling_of p)) (sym at) ∙ meaning_again p fits

module _ (sh : Shape) (log : List Record) (m most upto : ℕ) (image : ℕ → Page) (file : ℕ → List ℕ) (held : List (ℕ × Frame)) (batch : List RawPage)
    (w : AreWritable sh log m upto image) (shows : Shows sh file image held) (is : IsBatch most upto held batch) (due : All (λ d. IsDueIn upto (frame_at held d)) (blocks_of batch)) (f : AreFolded sh log m file) where
  due_too : All (λ d. IsDueIn upto (frame_at held d)) (take most is.all)
  due_too = subst (All (λ d. IsDueIn upto (frame_at held d))) (ap blocks_of is.pages ∙ blocks_raw held (take most is.all)) due

  new_bytes : (d : ℕ) → after batch file d ≡ cond (list_any (λ b. nat_eq b d) (take most is.all)) (spelling_of (framed held d)) (file d)
  new_bytes d = ap (λ (ps : List RawPage). after ps file d) is.pages ∙ page_in_raw held (take most is.all) d (file d)

  written : (d : ℕ) → has_page sh d ≡ true → list_any (λ b. nat_eq b d) (take most is.all) ≡ true → IsReached sh log m d (meaning_of d (spelling_of (framed held d))) × IsSpelled d (spelling_of (framed held d))
  written d has y =
      let tells = due_shows upto d (frame_at held d) (file d) (image d) (any_of (λ d. IsDueIn upto (frame_at held d)) (take most is.all) d due_too y) (shows.at d has) in
      let spells : spelling_of (framed held d) ≡ spelling_of (image d) = ap spelling_of tells.0 in
      let read : meaning_of d (spelling_of (framed held d)) ≡ image d = means d (spelling_of (framed held d)) (image d) (w.back.spelled d has) (w.back.dba d has) spells in (
        subst (λ (q : Page). IsReached sh log m d q) (sym read) (w.reached d has tells.1),
        subst (IsWritten d (spelling_of (framed held d))) (sym read) (record { spells = spells; dba = w.back.dba d has; reads = read }),
      )

  each : (d : ℕ) → has_page sh d ≡ true → IsReached sh log m d (meaning_of d (after batch file d)) × IsSpelled d (after batch file d)
  each d has = subst (λ (bytes : List ℕ). IsReached sh log m d (meaning_of d bytes) × IsSpelled d bytes) (sym (new_bytes d)) (decide (list_any (λ b. nat_eq b d) (take most is.all)) refl)
    where
      decide : (t : Bool) → list_any (λ b. nat_eq b d) (take most is.all) ≡ t
          → IsReached sh log m d (meaning_of d (cond t (spelling_of (framed held d)) (file d))) × IsSpelled d (cond t (spelling_of (framed held d)) (file d))
      decide true y = written d has y
      decide false n = (f.reached d has, f.spelled d has)

  pub folded_after : AreFolded sh log m (after batch file)
  folded_after = record { reached = λ d has. (each d has).0; spelled = λ d has. (each d has).1 }

-- ---- a batch that was taken

-- what the pool says of a batch that it gave
pub record IsTaken (most upto : ℕ) (p q : Pool) (batch : List RawPage) : Type 0 where
  pub is : IsBatch most upto p.held batch
  pub due : All (λ d. IsDueIn upto (frame_at p.held d)) (blocks_of batch)
  pub shows : (file : ℕ → List ℕ) (image : ℕ → Page) → Shows p.shape file image p.held → ReadBack p.shape image → Shows p.shape (after batch file) image q.held
  pub shape : q.shape ≡ p.shape

pub taken : (most upto : ℕ) (p q : Pool) (batch : List RawPage) → IsBatch most upto p.held batch → All (λ d. IsDueIn upto (frame_at p.held d)) (blocks_of batch)
    → ((file : ℕ → List ℕ) (image : ℕ → Page) → Shows p.shape file image p.held → ReadBack p.shape image → Shows p.shape (after batch file) image q.held) → q.shape ≡ p.shape → IsTaken most upto p q batch
taken most upto p q batch is due shows shape = record { is = is; due = due; shows = shows; shape = shape }

module _ {D : Type 0} (meaning : Meaning D) (d0 : D) (most upto : ℕ) (p q : Pool) (batch : List RawPage) (t : IsTaken most upto p q batch)
    (log : List Record) (m : ℕ) (image : ℕ → Page) (h : IsOver meaning d0 log m image p) (w : AreWritable p.shape log m upto image) where
  folds : AreFolded p.shape log m (after batch h.file)
  folds = folded_after p.shape log m most upto image h.file p.held batch w h.shown t.is t.due h.folded

  either : (bytes : List ℕ) → WholeOrNot p.shape h.file batch bytes → HasFolds p.shape log m bytes
  either bytes x = ⊎_elim (λ has. record { pages = h.file; has = has; folded = h.folded }) (λ has. record { pages = after batch h.file; has = has; folded = folds }) x

  shown_after : Shows q.shape (after batch h.file) image q.held
  shown_after = subst (λ (sh : Shape). Shows sh (after batch h.file) image q.held) (sym t.shape) (t.shows h.file image h.shown w.back)

  -- where no page was due
  pub none_over : batch ≡ [] → IsOver meaning d0 log m image q
  none_over none = record {
    file = h.file;
    base = subst (λ (sh : Shape). IsStore meaning d0 sh h.file) (sym t.shape) h.base;
    folded = subst (λ (sh : Shape). AreFolded sh log m h.file) (sym t.shape) h.folded;
    shown = record { at = λ d has. (subst (λ (ps : List RawPage). Shows q.shape (after ps h.file) image q.held) none shown_after).at d has };
  }

  -- where it was written, by a store of this shape
  module _ (st : Shape) (at : st ≡ p.shape) (bs : List RawPage) (same_batch : bs ≡ batch) (d1 : D) where
    base : IsStore meaning d0 st h.file
    base = subst (λ (sh : Shape). IsStore meaning d0 sh h.file) (sym at) h.base

    pub put_leaves : ((pages : ℕ → List ℕ) → IsStore meaning d0 st pages → Leaves meaning d0 d1 (OnlyFile meaning d0 Data (AsLong (meaning.files d0).data_bytes (WholeOrNot st pages bs)))) → LeavesFolds meaning d0 d1 p.shape log m
    put_leaves leaves =
        let bytes : List ℕ = (meaning.files d0).data_bytes in
        leaves_so meaning Data d0 d1 (AsLong bytes (HasFolds p.shape log m)) (AsLong bytes (WholeOrNot p.shape h.file batch))
        (subst (λ (ps : List RawPage). Leaves meaning d0 d1 (OnlyFile meaning d0 Data (AsLong bytes (WholeOrNot p.shape h.file ps)))) same_batch
        (subst (λ (sh : Shape). Leaves meaning d0 d1 (OnlyFile meaning d0 Data (AsLong bytes (WholeOrNot sh h.file bs)))) at (leaves h.file base)))
        (λ b x. record { long = x.long; is = either b x.is })

    lead : ((pages : ℕ → List ℕ) → IsStore meaning d0 st pages → Leads meaning d0 d1 st (after bs pages)) → Leads meaning d0 d1 p.shape (after batch h.file)
    lead leads = subst (λ (ps : List RawPage). Leads meaning d0 d1 p.shape (after ps h.file)) same_batch (subst (λ (sh : Shape). Leads meaning d0 d1 sh (after bs h.file)) at (leads h.file base))

    pub put_over : ((pages : ℕ → List ℕ) → IsStore meaning d0 st pages → Leads meaning d0 d1 st (after bs pages)) → IsOver meaning d1 log m image q
    put_over leads = record {
      file = after batch h.file;
      base = subst (λ (sh : Shape). IsStore meaning d1 sh (after batch h.file)) (sym t.shape) (lead leads).store;
      folded = subst (λ (sh : Shape). AreFolded sh log m (after batch h.file)) (sym t.shape) folds;
      shown = shown_after;
    }

    pub put_keeps : ((pages : ℕ → List ℕ) → IsStore meaning d0 st pages → Leads meaning d0 d1 st (after bs pages)) → KeepsFiles meaning d0 d1
    put_keeps leads = record { long = (lead leads).long; log_stays = (lead leads).log_stays }

-- no longer than what was asked for
taken_most : (held : List (ℕ × Frame)) (most : ℕ) (all : List ℕ) → length (map (raw_page held) (take most all)) ≤ most
taken_most held zero all = omega arith
taken_most held (suc n) [] = omega arith
taken_most held (suc n) (d ∷ ds) = omega (arith, taken_most held n ds)

pub batch_most : (most upto : ℕ) (held : List (ℕ × Frame)) (batch : List RawPage) → IsBatch most upto held batch → length batch ≤ most
batch_most most upto held batch is = subst (λ (ps : List RawPage). length ps ≤ most) (sym is.pages) (taken_most held most is.all)

pub no_pages : (batch : List RawPage) → length batch ≡ 0 → batch ≡ []
no_pages [] h = refl
no_pages (p ∷ ps) h = absurd (omega (arith, h))

-- ---- how far the pages have come

framed_up : (d upto : ℕ) (o : Option Frame) (bytes : List ℕ) (p : Page) → (IsSome o → IsShown d o bytes p × (lsn_of p ≤ upto)) → IfSome o (λ f. f.dirty ≡ true → lsn_of f.page ≤ upto)
framed_up d upto None bytes p shown = tt
framed_up d upto (Some f) bytes p shown = λ dirty. let k = shown refl in subst (λ (q : Page). lsn_of q ≤ upto) (sym k.0.0) k.1

pub up_to : (sh : Shape) (upto : ℕ) (file : ℕ → List ℕ) (image : ℕ → Page) (held : List (ℕ × Frame)) → Shows sh file image held → AreOlder sh upto image → HasOnlyPages sh held → AreDirtyUpTo upto held
up_to sh upto file image held shown older only = record { at = λ d. framed_up d upto (frame_at held d) (file d) (image d) (λ has. (shown.at d (only.at d has), older.at d (only.at d has))) }

pub older_after : (sh : Shape) (R : List Record) (upto : ℕ) → length R ≤ upto → AreOlder sh upto (page_of sh R)
older_after sh R upto le = record { at = λ d has. omega (arith, (lsns_tell sh R d).most, le) }

pub writable_after : (sh : Shape) (log R : List Record) (m upto : ℕ) → Extends log R → m ≤ length log → upto ≤ length log → ReadBack sh (page_of sh R) → AreWritable sh log m upto (page_of sh R)
writable_after sh log R m upto part marked few back = record { back = back; reached = λ d has le. written_reached sh log R m d part marked (omega (arith, le, few)) }

-- a page that has come as far as the first n records is one of the first records, n of them or more
record IsPageOf (sh : Shape) (R : List Record) (n d : ℕ) (p : Page) : Type 0 where
  pub count : ℕ
  pub least : n ≤ count
  pub most : count ≤ length R
  pub is : p ≡ page_of sh (prefix R count) d

of_reached : (sh : Shape) (R : List Record) (n d : ℕ) (p : Page) → n ≤ length R → IsReached sh R n d p → IsPageOf sh R n d p
of_reached sh R n d p le h = elim (cases_order (lsn_of p) n) [
  | inl e ↦ record { count = n; least = omega arith; most = le; is = h.older (omega (arith, e)) }
  | inr (inl lt) ↦ record { count = n; least = omega arith; most = le; is = h.older (omega (arith, lt)) }
  | inr (inr gt) ↦ record { count = lsn_of p; least = omega (arith, gt); most = h.most; is = h.newer (omega (arith, gt)) }
]

longer : (sh : Shape) (Q R : List Record) (m d : ℕ) (p : Page) → Extends Q R → m ≤ length Q → length Q ≤ length R → IsReached sh Q m d p → IsReached sh R m d p
longer sh Q R m d p e le few reached = record {
  most = omega (arith, reached.most, few);
  older = λ l. reached.older l ∙ ap (λ (X : List Record). page_of sh X d) (sym (prefix_longer Q R m e le));
  newer = λ l. reached.newer l ∙ ap (λ (X : List Record). page_of sh X d) (sym (prefix_longer Q R (lsn_of p) e reached.most));
}

pub reached_less : (sh : Shape) (R : List Record) (m n d : ℕ) (p : Page) → m ≤ n → n ≤ length R → IsReached sh R n d p → IsReached sh R m d p
reached_less sh R m n d p le few h =
    let x = of_reached sh R n d p few h in
    let Q : List Record = prefix R x.count in
    let long : length Q ≡ x.count = prefix_size R x.count x.most in
    let own : IsReached sh Q m d (page_of sh Q d) = written_reached sh Q Q m d same (omega (arith, long, x.least, le)) (lsns_tell sh Q d).most in
    subst (λ (q : Page). IsReached sh R m d q) (sym x.is) (longer sh Q R m d (page_of sh Q d) (prefix_extends R x.count) (omega (arith, long, x.least, le)) (omega (arith, long, x.most)) own)

pub writable_reached : (sh : Shape) (R : List Record) (m n upto : ℕ) (image : ℕ → Page) → m ≤ n → n ≤ length R → AreReached sh R n image → AreReadable sh R → AreWritable sh R m upto image
writable_reached sh R m n upto image le few h readable = record {
  back = record {
    spelled = λ d has. let x = of_reached sh R n d (image d) few (h.at d has) in subst HasSpelling (sym x.is) ((readable.at x.count).spelled d has);
    dba = λ d has. let x = of_reached sh R n d (image d) few (h.at d has) in subst (λ (p : Page). dba_of p ≡ d) (sym x.is) ((readable.at x.count).dba d has);
  };
  reached = λ d has old. reached_less sh R m n d (image d) le few (h.at d has);
}

pub older_reached : (sh : Shape) (R : List Record) (n : ℕ) (image : ℕ → Page) → AreReached sh R n image → AreOlder sh (length R) image
older_reached sh R n image h = record { at = λ d has. (h.at d has).most }

-- a batch of 32 of at most 257 leaves no more than 240
pub room_left : (n before now : ℕ) → n ≡ min 32 before → now + n ≡ before → before ≤ 257 → 240 < before → now ≤ 240
room_left n before now is sum most over = omega (arith, is, sum, most, over)

-- the pages after the records, over the data file as the batch leaves it
pub pages_put : {A : Type 0} {D : Type 0} (meaning : Meaning D) (d0 d1 : D) (log : List Record) (m : ℕ) (R : List Record) (p q : Pool) → HasPages meaning d0 log m R p → q.shape ≡ p.shape
    → (result : Result A PageFault) → OnOk result (IsOver meaning d1 log m (page_of p.shape R) q) → OnOk result (HasPages meaning d1 log m R q)
pages_put meaning d0 d1 log m R p q h shape (Ok a) over = record {
  part = h.part;
  marked = h.marked;
  over = subst (λ (sh : Shape). IsOver meaning d1 log m (page_of sh R) q) (sym shape) over;
}
pages_put meaning d0 d1 log m R p q h shape (Err e) over = tt
