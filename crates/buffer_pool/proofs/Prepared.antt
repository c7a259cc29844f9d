-- What `prepare` answers, from what was brought into frames and what was made of it.
use Rattle.std.proofs.Common.{◌≡◌, ℕ, ◌+◌, List, [], ◌++◌, Some, None, Result, Ok, Err, IfOk, sym, subst, ap, ◌∙◌}
use Rattle.disk_model.specs.Types.{Meaning}
use Rattle.seg_words.specs.Types.{Shape}
use Rattle.redo_record.specs.declared.record.Record.{Record}
use Rattle.page_store.specs.Types.{IsStore}
use Rattle.page_store.specs.declared.fault.PageFault.{PageFault}
use Rattle.page_set.specs.declared.page.Page.{Page}
use Rattle.page_set.specs.Folded.{touched_once}
use Rattle.buffer_pool.specs.declared.changed.NewPage.{NewPage}
use Rattle.buffer_pool.specs.Frames.{Pool, Shows}
use Rattle.buffer_pool.specs.Looks.{Looks}
use Rattle.buffer_pool.specs.Reading.{WhyNotFetched}
use Rattle.buffer_pool.specs.Preparing.{made, made_by_two, redone_all, AllFit, AreFramed, HaveFrames, IsPreparing, LeadsTo, WhyNotMade, WhyNotMadeByTwo}
use Rattle.buffer_pool.proofs.Made.{shows_kept, applies_one, applies_two, frames_made, frames_by_two, framed_left, framed_right, not_fetched_one, not_fetched_two, not_made_one, not_made_two, made_one_ready, made_two_ready}

pub framed_now : (p q : Pool) (ds : List ℕ) → q.shape ≡ p.shape → AreFramed p.shape ds q.held → AreFramed q.shape ds q.held
framed_now p q ds same h = subst (λ (sh : Shape). AreFramed sh ds q.held) (sym same) h

pub left_now : (p q : Pool) (ds es all : List ℕ) → q.shape ≡ p.shape → all ≡ ds ++ es → AreFramed p.shape all q.held → AreFramed q.shape ds q.held × AreFramed q.shape es q.held
left_now p q ds es all same is h =
    let both : AreFramed p.shape (ds ++ es) q.held = subst (λ (xs : List ℕ). AreFramed p.shape xs q.held) is h in
    (framed_now p q ds same (framed_left p.shape ds es q.held both), framed_now p q es same (framed_right p.shape ds es q.held both))

pub one_has : (p q : Pool) (ds : List ℕ) (r : Record) (lsn : ℕ) (new : List NewPage) → AreFramed p.shape ds q.held → new ≡ made r lsn [] q.held ds → HaveFrames new q.held
one_has p q ds r lsn new all is = subst (λ (ns : List NewPage). HaveFrames ns q.held) (sym is) (frames_made r lsn [] q.held ds p.shape all)

pub two_have : (p q : Pool) (ds es all : List ℕ) (r t : Record) (lsn : ℕ) (new : List NewPage) → all ≡ ds ++ es → AreFramed p.shape all q.held → new ≡ made_by_two r t lsn q.held ds es → HaveFrames new q.held
two_have p q ds es all r t lsn new split framed is =
    let both : AreFramed p.shape (ds ++ es) q.held = subst (λ (xs : List ℕ). AreFramed p.shape xs q.held) split framed in
    subst (λ (ns : List NewPage). HaveFrames ns q.held) (sym is) (frames_by_two r t lsn q.held ds es p.shape (framed_left p.shape ds es q.held both) (framed_right p.shape ds es q.held both))

module _ {D : Type 0} (meaning : Meaning D) (d0 d1 : D) (p q : Pool) (looks : Looks meaning d0 d1 p q) (pages : ℕ → List ℕ) (image : ℕ → Page) (store : IsStore meaning d0 p.shape pages) (s : Shows p.shape pages image p.held) where
  now : Shows p.shape pages image q.held
  now = shows_kept p.shape pages image p.held q.held s (looks.shows pages store)

  module _ (r : Record) (lsn : ℕ) (ds : List ℕ) (is : ds ≡ touched_once p.shape r) where
    all_framed : AreFramed p.shape ds q.held → AreFramed p.shape (touched_once p.shape r) q.held
    all_framed h = subst (λ (xs : List ℕ). AreFramed p.shape xs q.held) is h

    pub one_applies : (new : List NewPage) → AreFramed p.shape ds q.held → new ≡ made r lsn [] q.held ds → LeadsTo p.shape image (redone_all p.shape r None lsn image) new
    one_applies new all e = applies_one p.shape pages image r lsn q.held new now (all_framed all) (e ∙ ap (made r lsn [] q.held) is)

    pub one_ready : (new : List NewPage) → AreFramed p.shape ds q.held → AllFit r lsn [] q.held ds → IsPreparing p.shape r None lsn pages p.held image (Ok new)
    one_ready new all fit = made_one_ready p.shape pages image p.held q.held r lsn now looks.same (all_framed all) (subst (AllFit r lsn [] q.held) is fit)

    pub one_not_fetched : (e : PageFault) → WhyNotFetched p.shape pages p.held ds e → IsPreparing p.shape r None lsn pages p.held image (Err e)
    one_not_fetched e why = not_fetched_one p.shape pages image p.held q.held r lsn e s (subst (λ (xs : List ℕ). WhyNotFetched p.shape pages p.held xs e) is why)

    pub one_not_made : (e : PageFault) → AreFramed p.shape ds q.held → WhyNotMade r lsn [] q.held ds e → IsPreparing p.shape r None lsn pages p.held image (Err e)
    one_not_made e all why = not_made_one p.shape pages image p.held q.held r lsn e now (all_framed all) (subst (λ (xs : List ℕ). WhyNotMade r lsn [] q.held xs e) is why)

  module _ (r t : Record) (lsn : ℕ) (ds es all : List ℕ) (is : ds ≡ touched_once p.shape r) (more : es ≡ touched_once p.shape t) (split : all ≡ ds ++ es) where
    both_are : all ≡ touched_once p.shape r ++ touched_once p.shape t
    both_are = split ∙ ap (λ (xs : List ℕ). xs ++ es) is ∙ ap (λ (xs : List ℕ). touched_once p.shape r ++ xs) more

    first_framed : AreFramed p.shape all q.held → AreFramed p.shape (touched_once p.shape r) q.held
    first_framed h = framed_left p.shape (touched_once p.shape r) (touched_once p.shape t) q.held (subst (λ (xs : List ℕ). AreFramed p.shape xs q.held) both_are h)

    second_framed : AreFramed p.shape all q.held → AreFramed p.shape (touched_once p.shape t) q.held
    second_framed h = framed_right p.shape (touched_once p.shape r) (touched_once p.shape t) q.held (subst (λ (xs : List ℕ). AreFramed p.shape xs q.held) both_are h)

    pub two_apply : (new : List NewPage) → AreFramed p.shape all q.held → new ≡ made_by_two r t lsn q.held ds es → LeadsTo p.shape image (redone_all p.shape r (Some t) lsn image) new
    two_apply new framed e =
        applies_two p.shape pages image r t lsn q.held new now (first_framed framed) (second_framed framed)
        (e ∙ ap (λ (xs : List ℕ). made_by_two r t lsn q.held xs es) is ∙ ap (λ (xs : List ℕ). made_by_two r t lsn q.held (touched_once p.shape r) xs) more)

    pub two_ready : (new : List NewPage) → AreFramed p.shape all q.held → AllFit r lsn [] q.held ds × AllFit t (lsn + 1) (made r lsn [] q.held ds) q.held es → IsPreparing p.shape r (Some t) lsn pages p.held image (Ok new)
    two_ready new framed fit =
        made_two_ready p.shape pages image p.held q.held r t lsn now looks.same (first_framed framed) (second_framed framed)
        (subst (AllFit r lsn [] q.held) is fit.0)
        (subst (λ (xs : List ℕ). AllFit t (lsn + 1) (made r lsn [] q.held xs) q.held (touched_once p.shape t)) is (subst (AllFit t (lsn + 1) (made r lsn [] q.held ds) q.held) more fit.1))

    pub two_not_fetched : (e : PageFault) → WhyNotFetched p.shape pages p.held all e → IsPreparing p.shape r (Some t) lsn pages p.held image (Err e)
    two_not_fetched e why = not_fetched_two p.shape pages image p.held q.held r t lsn e s (subst (λ (xs : List ℕ). WhyNotFetched p.shape pages p.held xs e) both_are why)

    pub two_not_made : (e : PageFault) → AreFramed p.shape all q.held → WhyNotMadeByTwo r t lsn q.held ds es e → IsPreparing p.shape r (Some t) lsn pages p.held image (Err e)
    two_not_made e framed why =
        not_made_two p.shape pages image p.held q.held r t lsn e now (first_framed framed) (second_framed framed)
        (subst (λ (xs : List ℕ). WhyNotMadeByTwo r t lsn q.held xs (touched_once p.shape t) e) is (subst (λ (xs : List ℕ). WhyNotMadeByTwo r t lsn q.held ds xs e) more why))

pub if_ok : {A E : Type 0} (r : Result A E) (P Q : A → Type 0) → ((a : A) → P a → Q a) → IfOk r P → IfOk r Q
if_ok (Ok a) P Q f h = f a h
if_ok (Err e) P Q f h = tt
