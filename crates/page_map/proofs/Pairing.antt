-- Two records that are put into pages one after the other: whether both fit, and which one doesn't.
use Rattle.std.proofs.Common.{◌≡◌, ℕ, suc, ◌+◌, ◌<◌, Bool, true, eqb, ◌||◌, List, [], ◌∷◌, ◌++◌, length, refl, sym, ap, subst, ◌∙◌, inl, inr, arith}
use Rattle.std.proofs.lemmas.Bool.{cases_Bool, true≢false, eqb-true}
use Rattle.seg_base.specs.declared.shape.Shape.{Shape}
use Rattle.redo_record.specs.declared.record.Record.{Record}
use Rattle.page_set.specs.declared.page.Page.{Page}
use Rattle.page_set.specs.Changes.{Fits}
use Rattle.page_set.specs.Among.{is_among}
use Rattle.page_set.specs.Folded.{page_of, touched_once}
use Rattle.page_set.proofs.ListedLaw.{are_listed}
use Rattle.page_map.specs.Pages.{page_at, over_in, HasPages, installed, made, AreThere, AreFit}
use Rattle.page_map.specs.Fitting.{FitsAt, WhyNotAmong, FitsOn, FitsAll, AreBothFit, WhyNotBoth}
use Rattle.page_map.specs.declared.fault.PageFault.{PageFault}
use Rattle.page_map.specs.declared.fault.PageFault.TheVariants.{BadPage, NoMemory}
use Rattle.page_map.proofs.Folding.{leads, over_is}
use Rattle.page_map.proofs.Replaying.{fits_all, not_added}

fit_among : (r : Record) (lsn : ℕ) (first ps : List Page) (ds : List ℕ) (d : ℕ) → AreFit r lsn first ps ds → is_among ds d ≡ true → FitsAt r lsn first ps d
fit_among r lsn first ps [] d h y = absurd (true≢false (sym y))
fit_among r lsn first ps (x ∷ ds) d h y = elim (cases_Bool (eqb x d)) [
  | inl same ↦ subst (FitsAt r lsn first ps) (eqb-true x d same) (h.0, h.1)
  | inr other ↦ fit_among r lsn first ps ds d h.2 (sym (ap (λ (b : Bool). b || is_among ds d) other) ∙ y)
]

-- the page of a block once the first record's pages are put over the others
module _ (sh : Shape) (R : List Record) (a b : Record) (lsn : ℕ) (ps first : List Page) (h : HasPages sh R ps) (e : lsn ≡ suc (length R)) (there : AreThere (length ps) (touched_once sh a)) (is : first ≡ [] ++ made a lsn [] ps (touched_once sh a)) where
  next_page : (d : ℕ) → d < sh.blocks → over_in first (page_at ps d) d ≡ page_of sh (a ∷ R) d
  next_page d lt = over_is first ps (page_at ps d) d (subst (λ (n : ℕ). d < n) (sym h.count) lt) refl ∙ ((leads sh R a lsn ps first h e there is).to ps h).each d lt

  number : lsn + 1 ≡ suc (length (a ∷ R))
  number = omega (arith, e)

  to_next : (d : ℕ) → FitsAt b (lsn + 1) first ps d → FitsOn sh (a ∷ R) b d
  to_next d f =
      let lt : d < sh.blocks = subst (λ (n : ℕ). d < n) h.count f.0 in
      (lt, subst (λ (p : Page). Fits b (suc (length (a ∷ R))) p) (next_page d lt) (subst (λ (n : ℕ). Fits b n (over_in first (page_at ps d) d)) number f.1))

  from_next : (d : ℕ) → FitsOn sh (a ∷ R) b d → FitsAt b (lsn + 1) first ps d
  from_next d f =
      (subst (λ (n : ℕ). d < n) (sym h.count) f.0, subst (λ (n : ℕ). Fits b n (over_in first (page_at ps d) d)) (sym number) (subst (λ (p : Page). Fits b (suc (length (a ∷ R))) p) (sym (next_page d f.0)) f.1))

  pub both_fit : AreFit a lsn [] ps (touched_once sh a) → AreFit b (lsn + 1) first ps (touched_once sh b) → AreBothFit sh R a b
  both_fit one two = record {
    first_fits = fits_all sh R a lsn ps h e one;
    second_fits = λ d y. to_next d (fit_among b (lsn + 1) first ps (touched_once sh b) d two ((are_listed sh b).0 d ∙ y));
  }

  pub second_unfit : (fault : PageFault) → AreFit a lsn [] ps (touched_once sh a) → WhyNotAmong b (lsn + 1) first ps (touched_once sh b) fault → WhyNotBoth sh R a b fault
  second_unfit (BadPage d) one why = inr (
    fits_all sh R a lsn ps h e one,
    record {
      touches = sym ((are_listed sh b).0 d) ∙ why.0;
      unfit = λ f. why.1 (from_next d f);
    },
  )
  second_unfit NoMemory one why = tt

pub first_unfit : (sh : Shape) (R : List Record) (a b : Record) (lsn : ℕ) (ps : List Page) (fault : PageFault) → HasPages sh R ps → lsn ≡ suc (length R) → WhyNotAmong a lsn [] ps (touched_once sh a) fault → WhyNotBoth sh R a b fault
first_unfit sh R a b lsn ps (BadPage d) h e why = inl (not_added sh R a lsn ps (BadPage d) h e why)
first_unfit sh R a b lsn ps NoMemory h e why = tt

-- the same of equal lists and numbers
pub both_at : (sh : Shape) (R : List Record) (a b : Record) (lsn l : ℕ) (ps p q first f : List Page) → l ≡ lsn → p ≡ ps → q ≡ ps → f ≡ first → HasPages sh R ps → lsn ≡ suc (length R)
    → AreThere (length p) (touched_once sh a) → first ≡ [] ++ made a lsn [] p (touched_once sh a) → AreFit a lsn [] p (touched_once sh a) → AreFit b (l + 1) f q (touched_once sh b) → AreBothFit sh R a b
both_at sh R a b lsn l ps p q first f el ep eq ef h e there is one two =
    both_fit sh R a b lsn ps first h e
    (subst (λ (x : List Page). AreThere (length x) (touched_once sh a)) ep there)
    (subst (λ (x : List Page). first ≡ [] ++ made a lsn [] x (touched_once sh a)) ep is)
    (subst (λ (x : List Page). AreFit a lsn [] x (touched_once sh a)) ep one)
    (subst (λ (n : ℕ). AreFit b (n + 1) first ps (touched_once sh b)) el
    (subst (λ (x : List Page). AreFit b (l + 1) x ps (touched_once sh b)) ef (subst (λ (x : List Page). AreFit b (l + 1) f x (touched_once sh b)) eq two)))
