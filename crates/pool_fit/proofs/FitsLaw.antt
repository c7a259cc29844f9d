-- Records of a lawful list fit on the pages that they touch.
use Rattle.std.proofs.Common.{◌≡◌, true, false, List, [], ◌∷◌, ◌++◌, refl, sym, subst}
use Rattle.std.proofs.lemmas.Bool.{true≢false}
use Rattle.seg_base.specs.declared.shape.Shape.{Shape}
use Rattle.seg_base.specs.Places.{is_shape}
use Rattle.redo_record.specs.declared.record.Record.{Record}
use Rattle.redo_record.specs.declared.record.Record.TheVariants.{Table, Movement, Extend, FormatBlock, Class, Advance, Lower, Begin, Reuse, Insert, Update, Migrate, Return, Delete, Commit, Back, Ended, Move, Clean}
use Rattle.redo_model.specs.Lawful.{AreAllowed, is_whole}
use Rattle.sort_laws.proofs.MeetsLaw.{called_reuses_find_table}
use Rattle.page_fit.specs.FitPages.{IsTabled}
use Rattle.page_fit.proofs.FitLaw.{records_fit_pages}
use Rattle.store_pages.specs.Fitting.{FitsAll}
use Rattle.pool_fit.specs.Fitting.{RecordsFit, PairsFit, CommitsFit, LawfulListsFit, LawfulListsDontStop}
use Rattle.pool_fit.proofs.TouchedLaw.{touched_have_pages}

pub records_fit : RecordsFit
records_fit sh R r s h t = λ d y. (touched_have_pages sh R r d s h y, records_fit_pages sh R r d s h t y)

pub commits_fit : CommitsFit
commits_fit sh R c s h = records_fit_pages sh R (Commit c) 1 s h tt refl

-- the record that another calls for is no Reuse
called_tabled : (sh : Shape) (R : List Record) (a b : Record) → AreAllowed sh (b ∷ a ∷ R) → is_whole (a ∷ R) ≡ false → IsTabled (a ∷ R) b
called_tabled sh R (Table t) (Reuse q) h w = absurd (h.1.called_for)
called_tabled sh R (Reuse p) (Reuse q) h w = absurd (h.1.called_for)
called_tabled sh R (Movement m) (Reuse q) h w = absurd (true≢false w)
called_tabled sh R (Extend e) (Reuse q) h w = absurd (true≢false w)
called_tabled sh R (FormatBlock f) (Reuse q) h w = absurd (true≢false w)
called_tabled sh R (Class k) (Reuse q) h w = absurd (true≢false w)
called_tabled sh R (Advance a) (Reuse q) h w = absurd (true≢false w)
called_tabled sh R (Lower l) (Reuse q) h w = absurd (true≢false w)
called_tabled sh R (Begin g) (Reuse q) h w = absurd (true≢false w)
called_tabled sh R (Insert x) (Reuse q) h w = absurd (true≢false w)
called_tabled sh R (Update x) (Reuse q) h w = absurd (true≢false w)
called_tabled sh R (Migrate x) (Reuse q) h w = absurd (true≢false w)
called_tabled sh R (Return x) (Reuse q) h w = absurd (true≢false w)
called_tabled sh R (Delete x) (Reuse q) h w = absurd (true≢false w)
called_tabled sh R (Commit c) (Reuse q) h w = absurd (true≢false w)
called_tabled sh R (Back k) (Reuse q) h w = absurd (true≢false w)
called_tabled sh R (Ended e) (Reuse q) h w = absurd (true≢false w)
called_tabled sh R (Move m) (Reuse q) h w = absurd (true≢false w)
called_tabled sh R (Clean c) (Reuse q) h w = absurd (true≢false w)
called_tabled sh R a _ h w = tt

-- where another record follows it, a Reuse has a transaction before it
followed_tabled : (sh : Shape) (R : List Record) (a b : Record) → is_shape sh ≡ true → AreAllowed sh (b ∷ a ∷ R) → IsTabled R a
followed_tabled sh R (Reuse q) b s h = (called_reuses_find_table sh R q b s h).0
followed_tabled sh R _ b s h = tt

pub pairs_fit : PairsFit
pairs_fit sh R a b s h w = record { first_fits = records_fit sh R a s h.0 (followed_tabled sh R a b s h); second_fits = records_fit sh (a ∷ R) b s h (called_tabled sh R a b h w) }

-- ---- whole lists

abbrev TopTabled : List Record → Type 0
TopTabled [] = Unit {0}
TopTabled (r ∷ R) = IsTabled R r

rest_tabled : (sh : Shape) (R : List Record) (b : Record) → is_shape sh ≡ true → AreAllowed sh (b ∷ R) → TopTabled R
rest_tabled sh [] b s h = tt
rest_tabled sh (a ∷ R) b s h = followed_tabled sh R a b s h

whole_tabled : (R : List Record) → is_whole R ≡ true → TopTabled R
whole_tabled [] w = tt
whole_tabled (Reuse q ∷ R) w = absurd (true≢false (sym w))
whole_tabled (_ ∷ R) w = tt

list_fits : (sh : Shape) (newer older : List Record) (r : Record) → is_shape sh ≡ true → AreAllowed sh (newer ++ r ∷ older) → TopTabled (newer ++ r ∷ older) → FitsAll sh older r
list_fits sh [] older r s h t = records_fit sh older r s h t
list_fits sh (x ∷ newer) older r s h t = list_fits sh newer older r s h.0 (rest_tabled sh (newer ++ r ∷ older) x s h)

pub lawful_lists_fit : LawfulListsFit
lawful_lists_fit sh R newer older r s h e = list_fits sh newer older r s (subst (AreAllowed sh) e h.allowed) (subst TopTabled e (whole_tabled R h.whole))

pub lawful_lists_dont_stop : LawfulListsDontStop
lawful_lists_dont_stop sh R m d s h z = z.unfit.unfit (lawful_lists_fit sh R z.newer z.older z.stop s h z.split d z.unfit.touches)
