-- Records that are put into pages one after the other, and the first that doesn't fit.
use Rattle.std.proofs.Common.{◌≡◌, ℕ, zero, suc, ◌+◌, ◌<◌, ◌≤◌, Bool, true, false, eqb, ◌||◌, List, [], ◌∷◌, ◌++◌, length, get_or, take, drop, reverse, refl, sym, ap, subst, ◌∙◌, inl, inr, arith}
use Rattle.std.proofs.lemmas.Bool.{cases_Bool, true≢false, eqb-true, eq-eqb}
use Rattle.std.proofs.lemmas.List.{length-take, take_all, take-append-drop}
use Rattle.seg_words.proofs.Lemmas.{take_more, length-reverse, reverse-append}
use Rattle.seg_base.specs.declared.shape.Shape.{Shape}
use Rattle.redo_record.specs.declared.record.Record.{Record}
use Rattle.page_set.specs.declared.page.Page.{Page}
use Rattle.page_set.specs.Changes.{Fits}
use Rattle.page_set.specs.Among.{is_among}
use Rattle.page_set.specs.Folded.{page_of, touched, touched_once}
use Rattle.page_set.proofs.ListedLaw.{are_listed}
use Rattle.page_map.specs.Pages.{page_at, HasPages, AreFit}
use Rattle.page_map.specs.Fitting.{FitsAt, WhyNotAt, WhyNotAmong, FitsOn, FitsAll, AreAllFit, IsUnfit, WhyNotAdded, StopsAt, WhyNotFolded}
use Rattle.page_map.specs.declared.fault.PageFault.{PageFault}
use Rattle.page_map.specs.declared.fault.PageFault.TheVariants.{BadPage, NoMemory}

-- the blocks of a record, one after the other

pub why_first : (r : Record) (lsn : ℕ) (first ps : List Page) (d : ℕ) (ds : List ℕ) (e : PageFault) → WhyNotAt r lsn first ps d e → WhyNotAmong r lsn first ps (d ∷ ds) e
why_first r lsn first ps d ds (BadPage b) h =
    (ap (λ (x : Bool). x || is_among ds b) (eq-eqb d b (sym h.0)), λ f. h.1 (subst (FitsAt r lsn first ps) h.0 f))
why_first r lsn first ps d ds NoMemory h = tt

or_true : (a b : Bool) → b ≡ true → (a || b) ≡ true
or_true true b h = refl
or_true false b h = h

pub why_rest : (r : Record) (lsn : ℕ) (first ps : List Page) (d : ℕ) (ds : List ℕ) (e : PageFault) → WhyNotAmong r lsn first ps ds e → WhyNotAmong r lsn first ps (d ∷ ds) e
why_rest r lsn first ps d ds (BadPage b) h = (or_true (eqb d b) (is_among ds b) h.0, h.1)
why_rest r lsn first ps d ds NoMemory h = tt

-- one record on the pages of the fold

to_fold : (sh : Shape) (R : List Record) (r : Record) (lsn : ℕ) (ps : List Page) (d : ℕ) → HasPages sh R ps → lsn ≡ suc (length R) → FitsAt r lsn [] ps d → FitsOn sh R r d
to_fold sh R r lsn ps d h e f =
    let lt : d < sh.blocks = subst (λ (n : ℕ). d < n) h.count f.0 in
    (lt, subst (λ (p : Page). Fits r (suc (length R)) p) (h.each d lt) (subst (λ (n : ℕ). Fits r n (page_at ps d)) e f.1))

from_fold : (sh : Shape) (R : List Record) (r : Record) (lsn : ℕ) (ps : List Page) (d : ℕ) → HasPages sh R ps → lsn ≡ suc (length R) → FitsOn sh R r d → FitsAt r lsn [] ps d
from_fold sh R r lsn ps d h e f =
    (subst (λ (n : ℕ). d < n) (sym h.count) f.0, subst (λ (n : ℕ). Fits r n (page_at ps d)) (sym e) (subst (λ (p : Page). Fits r (suc (length R)) p) (sym (h.each d f.0)) f.1))

fit_at : (r : Record) (lsn : ℕ) (ps : List Page) (ds : List ℕ) (d : ℕ) → AreFit r lsn [] ps ds → is_among ds d ≡ true → FitsAt r lsn [] ps d
fit_at r lsn ps [] d h y = absurd (true≢false (sym y))
fit_at r lsn ps (x ∷ ds) d h y = elim (cases_Bool (eqb x d)) [
  | inl same ↦ subst (FitsAt r lsn [] ps) (eqb-true x d same) (h.0, h.1)
  | inr other ↦ fit_at r lsn ps ds d h.2 (sym (ap (λ (b : Bool). b || is_among ds d) other) ∙ y)
]

pub fits_all : (sh : Shape) (R : List Record) (r : Record) (lsn : ℕ) (ps : List Page) → HasPages sh R ps → lsn ≡ suc (length R) → AreFit r lsn [] ps (touched_once sh r) → FitsAll sh R r
fits_all sh R r lsn ps h e fit = λ d y. to_fold sh R r lsn ps d h e (fit_at r lsn ps (touched_once sh r) d fit ((are_listed sh r).0 d ∙ y))

pub not_added : (sh : Shape) (R : List Record) (r : Record) (lsn : ℕ) (ps : List Page) (e : PageFault) → HasPages sh R ps → lsn ≡ suc (length R) → WhyNotAmong r lsn [] ps (touched_once sh r) e → WhyNotAdded sh R r e
not_added sh R r lsn ps (BadPage b) h e why = record {
  touches = sym ((are_listed sh r).0 b) ∙ why.0;
  unfit = λ f. why.1 (from_fold sh R r lsn ps b h e f);
}
not_added sh R r lsn ps NoMemory h e why = tt

-- the first i records of some are in the pages
pub record AreIn (sh : Shape) (xs : List Record) (i : ℕ) (ps : List Page) : Type 0 where
  pub pages : HasPages sh (reverse (take i xs)) ps
  pub fit : AreAllFit sh (reverse (take i xs))

pub none_in : (sh : Shape) (xs : List Record) (ps : List Page) → HasPages sh [] ps → AreIn sh xs 0 ps
none_in sh xs ps h = record { pages = h; fit = tt }

newest : (xs : List Record) (i : ℕ) (r : Record) → r ≡ get_or xs i r → i < length xs → reverse (take (i + 1) xs) ≡ r ∷ reverse (take i xs)
newest xs i r e lt = ap reverse (take_more xs i r lt) ∙ reverse-append (take i xs) (get_or xs i r ∷ []) ∙ ap (λ (x : Record). x ∷ reverse (take i xs)) (sym e)

count : (xs : List Record) (i : ℕ) → i < length xs → i + 1 ≡ suc (length (reverse (take i xs)))
count xs i lt = omega (arith, length-reverse (take i xs), length-take i xs)

pub one_more_in : (sh : Shape) (xs : List Record) (i : ℕ) (r : Record) (old new : List Page) → AreIn sh xs i old → r ≡ get_or xs i r → i < length xs
    → ((R : List Record) → HasPages sh R old → i + 1 ≡ suc (length R) → HasPages sh (r ∷ R) new)
    → ((R : List Record) → HasPages sh R old → i + 1 ≡ suc (length R) → FitsAll sh R r) → AreIn sh xs (i + 1) new
one_more_in sh xs i r old new h e lt leads fits = record {
  pages = subst (λ (R : List Record). HasPages sh R new) (sym (newest xs i r e lt)) (leads (reverse (take i xs)) h.pages (count xs i lt));
  fit = subst (AreAllFit sh) (sym (newest xs i r e lt)) (h.fit, fits (reverse (take i xs)) h.pages (count xs i lt));
}

pub all_in : (sh : Shape) (xs : List Record) (ps : List Page) → AreIn sh xs (length xs) ps → HasPages sh (reverse xs) ps
all_in sh xs ps h = subst (λ (zs : List Record). HasPages sh (reverse zs) ps) (take_all (length xs) xs (omega arith)) h.pages

pub all_fit : (sh : Shape) (xs : List Record) (ps : List Page) → AreIn sh xs (length xs) ps → AreAllFit sh (reverse xs)
all_fit sh xs ps h = subst (λ (zs : List Record). AreAllFit sh (reverse zs)) (take_all (length xs) xs (omega arith)) h.fit

split : (xs : List Record) (i : ℕ) (r : Record) → r ≡ get_or xs i r → i < length xs → reverse xs ≡ reverse (drop (i + 1) xs) ++ r ∷ reverse (take i xs)
split xs i r e lt = ap reverse (sym (take-append-drop (i + 1) xs)) ∙ reverse-append (take (i + 1) xs) (drop (i + 1) xs) ∙ ap (λ (R : List Record). reverse (drop (i + 1) xs) ++ R) (newest xs i r e lt)

pub stops_in : (sh : Shape) (xs : List Record) (i : ℕ) (r : Record) (ps : List Page) (e : PageFault) → AreIn sh xs i ps → r ≡ get_or xs i r → i < length xs
    → ((R : List Record) → HasPages sh R ps → i + 1 ≡ suc (length R) → WhyNotAdded sh R r e) → WhyNotFolded sh (reverse xs) e
stops_in sh xs i r ps (BadPage b) h is lt why = record {
  newer = reverse (drop (i + 1) xs);
  stop = r;
  older = reverse (take i xs);
  split = split xs i r is lt;
  fit = h.fit;
  unfit = why (reverse (take i xs)) h.pages (count xs i lt);
}
stops_in sh xs i r ps NoMemory h is lt why = tt
