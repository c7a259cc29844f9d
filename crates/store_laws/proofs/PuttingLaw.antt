-- Records of a lawful list fit on the pages of a store.
use Rattle.std.proofs.Common.{◌≡◌, ℕ, suc, ◌+◌, ◌<◌, Bool, true, false, eqb, ◌||◌, List, [], ◌∷◌, length, refl, sym, ◌∙◌, ap, subst, inl, inr, arith}
use Rattle.std.proofs.lemmas.Bool.{cases_Bool, true≢false, eqb-true, eq-eqb}
use Rattle.seg_base.specs.declared.shape.Shape.{Shape}
use Rattle.seg_base.specs.Places.{is_shape}
use Rattle.redo_record.specs.declared.record.Record.{Record}
use Rattle.redo_record.specs.declared.record.Record.TheVariants.{Table, Movement, Extend, FormatBlock, Class, Advance, Lower, Begin, Reuse, Insert, Update, Migrate, Return, Delete, Commit, Back, Ended, Move, Clean}
use Rattle.redo_model.specs.Lawful.{AreAllowed, is_whole, IsLawful}
use Rattle.page_set.specs.declared.page.Page.{Page}
use Rattle.page_set.specs.Changes.{Fits}
use Rattle.page_set.specs.Among.{is_among}
use Rattle.page_set.specs.Folded.{page_of, touched, touched_once}
use Rattle.page_set.proofs.ListedLaw.{are_listed}
use Rattle.page_map.specs.Pages.{page_at, over_in, HasPages, installed, made, AreThere, AreFit}
use Rattle.page_map.specs.Fitting.{FitsOn, FitsAll, AreAllFit}
use Rattle.page_map.proofs.Folding.{one_step, over_is}
use Rattle.sort_laws.proofs.MeetsLaw.{called_reuses_find_table}
use Rattle.page_fit.specs.FitPages.{IsTabled}
use Rattle.page_fit.proofs.FitLaw.{records_fit_pages}
use Rattle.store_laws.specs.Putting.{PairFits, RecordsFit, PairsFit, FittingRecordsFit, FittingPairsFit, LawfulListsFit}
use Rattle.store_laws.proofs.There.{all_there}

-- on the pages of the fold
fits_all : (sh : Shape) (R : List Record) (r : Record) → is_shape sh ≡ true → AreAllowed sh (r ∷ R) → IsTabled R r → FitsAll sh R r
fits_all sh R r s h t = λ d y. (all_there sh R r d s h y, records_fit_pages sh R r d s h t y)

-- of blocks each of which has a property
abbrev Each : (ℕ → Type 0) → List ℕ → Type 0
Each P [] = Unit {0}
Each P (d ∷ ds) = P d × Each P ds

each_of : (P : ℕ → Type 0) (ds : List ℕ) → ((d : ℕ) → is_among ds d ≡ true → P d) → Each P ds
each_of P [] h = tt
each_of P (x ∷ ds) h = (h x (ap (λ (b : Bool). b || is_among ds x) (eq-eqb x x refl)), each_of P ds (λ d y. h d (or_true (eqb x d) (is_among ds d) y)))
  where
    or_true : (a b : Bool) → b ≡ true → (a || b) ≡ true
    or_true true b k = refl
    or_true false b k = k

listed : (sh : Shape) (R : List Record) (r : Record) → FitsAll sh R r → Each (FitsOn sh R r) (touched_once sh r)
listed sh R r fits = each_of (FitsOn sh R r) (touched_once sh r) (λ d y. fits d (sym ((are_listed sh r).0 d) ∙ y))

are_there : (sh : Shape) (R : List Record) (r : Record) (ds : List ℕ) → Each (FitsOn sh R r) ds → AreThere sh.blocks ds
are_there sh R r [] h = tt
are_there sh R r (d ∷ ds) h = (h.0.0, are_there sh R r ds h.1)

are_fit : (sh : Shape) (R : List Record) (r : Record) (lsn : ℕ) (first ps : List Page) (ds : List ℕ) → length ps ≡ sh.blocks → lsn ≡ suc (length R)
    → ((d : ℕ) → d < sh.blocks → over_in first (page_at ps d) d ≡ page_of sh R d) → Each (FitsOn sh R r) ds → AreFit r lsn first ps ds
are_fit sh R r lsn first ps [] count e same h = tt
are_fit sh R r lsn first ps (d ∷ ds) count e same h = (
  subst (λ (n : ℕ). d < n) (sym count) h.0.0,
  subst (λ (n : ℕ). Fits r n (over_in first (page_at ps d) d)) (sym e) (subst (λ (p : Page). Fits r (suc (length R)) p) (sym (same d h.0.0)) h.0.1),
  are_fit sh R r lsn first ps ds count e same h.1,
)

pub fitting_records_fit : FittingRecordsFit
fitting_records_fit sh R r ps has fits = are_fit sh R r (suc (length R)) [] ps (touched_once sh r) has.count refl has.each (listed sh R r fits)

pub records_fit : RecordsFit
records_fit sh R r ps s h t has = fitting_records_fit sh R r ps has (fits_all sh R r s h t)

-- the record that another calls for is no Reuse
called_tabled : (sh : Shape) (R : List Record) (a b : Record) → AreAllowed sh (b ∷ a ∷ R) → is_whole (a ∷ R) ≡ false → IsTabled (a ∷ R) b
called_tabled sh R (Table t) (Reuse q) h w = absurd (h.1.called_for)
called_tabled sh R (Reuse p) (Reuse q) h w = absurd (h.1.called_for)
called_tabled sh R (Movement m) (Reuse q) h w = absurd (true≢false w)
called_tabled sh R (Extend e) (Reuse q) h w = absurd (true≢false w)
called_tabled sh R (FormatBlock f) (Reuse q) h w = absurd (true≢false w)
called_tabled sh R (Class k) (Reuse q) h w = absurd (true≢false w)
called_tabled sh R (Advance a) (Reuse q) h w = absurd (true≢false w)
called_tabled sh R (Lower l) (Reuse q) h w = absurd (true≢false w)
called_tabled sh R (Begin g) (Reuse q) h w = absurd (true≢false w)
called_tabled sh R (Insert x) (Reuse q) h w = absurd (true≢false w)
called_tabled sh R (Update x) (Reuse q) h w = absurd (true≢false w)
called_tabled sh R (Migrate x) (Reuse q) h w = absurd (true≢false w)
called_tabled sh R (Return x) (Reuse q) h w = absurd (true≢false w)
called_tabled sh R (Delete x) (Reuse q) h w = absurd (true≢false w)
called_tabled sh R (Commit c) (Reuse q) h w = absurd (true≢false w)
called_tabled sh R (Back k) (Reuse q) h w = absurd (true≢false w)
called_tabled sh R (Ended e) (Reuse q) h w = absurd (true≢false w)
called_tabled sh R (Move m) (Reuse q) h w = absurd (true≢false w)
called_tabled sh R (Clean c) (Reuse q) h w = absurd (true≢false w)
called_tabled sh R a _ h w = tt

-- where another record follows it, a Reuse has a transaction before it
followed_tabled : (sh : Shape) (R : List Record) (a b : Record) → is_shape sh ≡ true → AreAllowed sh (b ∷ a ∷ R) → IsTabled R a
followed_tabled sh R (Reuse q) b s h = (called_reuses_find_table sh R q b s h).0
followed_tabled sh R _ b s h = tt

pub fitting_pairs_fit : FittingPairsFit
fitting_pairs_fit sh R a b ps has first second =
    let new : List Page = made a (suc (length R)) [] ps (touched_once sh a) in
    let next : HasPages sh (a ∷ R) (installed new ps) = one_step sh R a ps ps has has (are_there sh R a (touched_once sh a) (listed sh R a first)) in
    record {
      first = fitting_records_fit sh R a ps has first;
      second = are_fit sh (a ∷ R) b (suc (length R) + 1) new ps (touched_once sh b) has.count (omega arith)
          (λ d lt. over_is new ps (page_at ps d) d (subst (λ (n : ℕ). d < n) (sym has.count) lt) refl ∙ next.each d lt) (listed sh (a ∷ R) b second);
    }

pub pairs_fit : PairsFit
pairs_fit sh R a b ps s h w has = fitting_pairs_fit sh R a b ps has (fits_all sh R a s h.0 (followed_tabled sh R a b s h)) (fits_all sh (a ∷ R) b s h (called_tabled sh R a b h w))

-- ---- whole lists

abbrev TopTabled : List Record → Type 0
TopTabled [] = Unit {0}
TopTabled (r ∷ R) = IsTabled R r

rest_tabled : (sh : Shape) (R : List Record) (b : Record) → is_shape sh ≡ true → AreAllowed sh (b ∷ R) → TopTabled R
rest_tabled sh [] b s h = tt
rest_tabled sh (a ∷ R) b s h = followed_tabled sh R a b s h

whole_tabled : (R : List Record) → is_whole R ≡ true → TopTabled R
whole_tabled [] w = tt
whole_tabled (Reuse q ∷ R) w = absurd (true≢false (sym w))
whole_tabled (_ ∷ R) w = tt

lists_fit : (sh : Shape) (R : List Record) → is_shape sh ≡ true → AreAllowed sh R → TopTabled R → AreAllFit sh R
lists_fit sh [] s h t = tt
lists_fit sh (r ∷ R) s h t = (lists_fit sh R s h.0 (rest_tabled sh R r s h), fits_all sh R r s h t)

pub lawful_lists_fit : LawfulListsFit
lawful_lists_fit sh R s h = lists_fit sh R s h.allowed (whole_tabled R h.whole)
