-- Putting what a record makes of the pages that it touches into their places is one step of the fold.
use Rattle.std.proofs.Common.{◌≡◌, ◌≢◌, ℕ, zero, suc, ◌+◌, ◌<◌, ◌≤◌, Bool, true, false, cond, eqb, ◌||◌, List, [], ◌∷◌, ◌++◌, length, refl, sym, ap, subst, ◌∙◌, inl, inr, arith, append_assoc, append-nil}
use Rattle.std.specs.Prelude.{slice_index_or, slice_set}
use Rattle.std.proofs.lemmas.Bool.Decides.{eqb_tells}
use Rattle.std.proofs.lemmas.List.{get_or-set_same, get_or-set_other, length-set}
use Rattle.seg_base.specs.declared.shape.Shape.{Shape}
use Rattle.redo_record.specs.declared.record.Record.{Record}
use Rattle.redo_record.specs.declared.record.Record.TheVariants.{Commit}
use Rattle.redo_record.specs.declared.transaction.CommitRecord.{CommitRecord}
use Rattle.page_set.specs.declared.page.Page.{Page}
use Rattle.page_set.specs.declared.page.Page.TheVariants.{Zero}
use Rattle.page_set.specs.Pages.{dba_of}
use Rattle.page_set.specs.Changes.{changed_page}
use Rattle.page_set.specs.Among.{is_among}
use Rattle.page_set.specs.Folded.{page_of, touched, touched_once}
use Rattle.page_set.proofs.SaysLaw.{says, dba_says, changed_says}
use Rattle.page_set.proofs.ListedLaw.{are_listed}
use Rattle.page_map.specs.Pages.{page_at, over_in, HasPages, installed, made, AreThere, Leads}

pub set_past : (ps : List Page) (i : ℕ) (p : Page) → length ps ≤ i → ps ≡ slice_set ps i p
set_past [] i p h = refl
set_past (q ∷ ps) zero p h = absurd (omega (arith, h))
set_past (q ∷ ps) (suc i) p h = ap (λ (x : List Page). q ∷ x) (set_past ps i p (omega (arith, h)))

pub made_none : (r : Record) (lsn : ℕ) (first ps old : List Page) → old ≡ old ++ made r lsn first ps []
made_none r lsn first ps old = sym (append-nil old)

pub made_next : (r : Record) (lsn d : ℕ) (first ps : List Page) (ds : List ℕ) (old new : List Page) (p : Page) → p ≡ changed_page r lsn (over_in first (page_at ps d) d)
    → new ≡ (old ++ p ∷ []) ++ made r lsn first ps ds → new ≡ old ++ made r lsn first ps (d ∷ ds)
made_next r lsn d first ps ds old new p e h =
    h ∙ append_assoc old (p ∷ []) (made r lsn first ps ds) ∙ ap (λ (x : Page). old ++ x ∷ made r lsn first ps ds) e

-- the new page of each block among these, and the old one of each other
abbrev picked : (ℕ → Page) → List ℕ → (ℕ → Page) → ℕ → Page
picked f [] old d = old d
picked f (x ∷ xs) old d = picked f xs (λ e. cond (eqb x e) (f e) (old e)) d

abbrev pages_of : (ℕ → Page) → List ℕ → List Page
pages_of f [] = []
pages_of f (d ∷ ds) = f d ∷ pages_of f ds

one_set : (f old : ℕ → Page) (n x : ℕ) (ps : List Page) → length ps ≡ n → x < n → dba_of (f x) ≡ x → ((d : ℕ) → d < n → page_at ps d ≡ old d)
    → (d : ℕ) → d < n → page_at (slice_set ps (dba_of (f x)) (f x)) d ≡ cond (eqb x d) (f d) (old d)
one_set f old n x ps count lt dba each d dlt = elim (eqb_tells x d) [
  | inl y ↦ rw (y.0) (ap (λ (i : ℕ). slice_index_or (slice_set ps i (f x)) d (Zero d)) (dba ∙ y.1) ∙ get_or-set_same ps d (f x) (Zero d) (omega (arith, dlt, count)) ∙ ap f y.1)
  | inr z ↦ rw (z.0) (ap (λ (i : ℕ). slice_index_or (slice_set ps i (f x)) d (Zero d)) dba ∙ get_or-set_other ps x d (f x) (Zero d) (λ e. z.1 (sym e)) ∙ each d dlt)
]

-- each of these blocks is there, and its new page is its own
record Own (f : ℕ → Page) (n x : ℕ) : Type 0 where
  there : x < n
  dba : dba_of (f x) ≡ x

abbrev AllOwn : (ℕ → Page) → ℕ → List ℕ → Type 0
AllOwn f n [] = Unit {0}
AllOwn f n (x ∷ xs) = Own f n x × AllOwn f n xs

put_all : (f old : ℕ → Page) (n : ℕ) (ds : List ℕ) (ps : List Page) → length ps ≡ n → AllOwn f n ds → ((d : ℕ) → d < n → page_at ps d ≡ old d)
    → (d : ℕ) → d < n → page_at (installed (pages_of f ds) ps) d ≡ picked f ds old d
put_all f old n [] ps count own each d dlt = each d dlt
put_all f old n (x ∷ xs) ps count own each d dlt =
    put_all f (λ e. cond (eqb x e) (f e) (old e)) n xs (slice_set ps (dba_of (f x)) (f x)) (length-set ps (dba_of (f x)) (f x) ∙ count) own.1
    (one_set f old n x ps count own.0.there own.0.dba each) d dlt

or_cond : (a b : Bool) (p q : Page) → cond b p (cond a p q) ≡ cond (a || b) p q
or_cond true true p q = refl
or_cond true false p q = refl
or_cond false b p q = refl

picked_is : (f old : ℕ → Page) (ds : List ℕ) (d : ℕ) → picked f ds old d ≡ cond (is_among ds d) (f d) (old d)
picked_is f old [] d = refl
picked_is f old (x ∷ xs) d = picked_is f (λ e. cond (eqb x e) (f e) (old e)) xs d ∙ or_cond (eqb x d) (is_among xs d) (f d) (old d)

installed_count : (new ps : List Page) → length (installed new ps) ≡ length ps
installed_count [] ps = refl
installed_count (p ∷ new) ps = installed_count new (slice_set ps (dba_of p) p) ∙ length-set ps (dba_of p) p

-- what is made of the pages of the fold
made_of : (sh : Shape) (R : List Record) (r : Record) (lsn : ℕ) (ps : List Page) (ds : List ℕ) → ((d : ℕ) → d < sh.blocks → page_at ps d ≡ page_of sh R d) → AreThere sh.blocks ds
    → made r lsn [] ps ds ≡ pages_of (λ d. changed_page r lsn (page_of sh R d)) ds
made_of sh R r lsn ps [] each there = refl
made_of sh R r lsn ps (d ∷ ds) each there =
    ap (λ (x : Page). changed_page r lsn x ∷ made r lsn [] ps ds) (each d there.0)
    ∙ ap (λ (xs : List Page). changed_page r lsn (page_of sh R d) ∷ xs) (made_of sh R r lsn ps ds each there.1)

changed_dba : (sh : Shape) (r : Record) (R : List Record) (lsn d : ℕ) → dba_of (changed_page r lsn (page_of sh R d)) ≡ d
changed_dba sh r R lsn d = dba_says (r ∷ R) d (changed_page r lsn (page_of sh R d)) (changed_says r R d lsn (page_of sh R d) (says sh R d))

all_own : (sh : Shape) (r : Record) (R : List Record) (lsn : ℕ) (ds : List ℕ) → AreThere sh.blocks ds → AllOwn (λ d. changed_page r lsn (page_of sh R d)) sh.blocks ds
all_own sh r R lsn [] there = tt
all_own sh r R lsn (d ∷ ds) there = (record { there = there.0; dba = changed_dba sh r R lsn d }, all_own sh r R lsn ds there.1)

pub one_step : (sh : Shape) (R : List Record) (r : Record) (ps qs : List Page) → HasPages sh R ps → HasPages sh R qs → AreThere sh.blocks (touched_once sh r)
    → HasPages sh (r ∷ R) (installed (made r (suc (length R)) [] qs (touched_once sh r)) ps)
one_step sh R r ps qs h k there =
    let f : ℕ → Page = λ d. changed_page r (suc (length R)) (page_of sh R d) in
    let e : made r (suc (length R)) [] qs (touched_once sh r) ≡ pages_of f (touched_once sh r) = made_of sh R r (suc (length R)) qs (touched_once sh r) k.each there in
    record {
      count = installed_count (made r (suc (length R)) [] qs (touched_once sh r)) ps ∙ h.count;
      each = λ d lt. ap (λ (new : List Page). page_at (installed new ps) d) e
          ∙ put_all f (page_of sh R) sh.blocks (touched_once sh r) ps h.count (all_own sh r R (suc (length R)) (touched_once sh r) there) h.each d lt
          ∙ picked_is f (page_of sh R) (touched_once sh r) d
          ∙ ap (λ (b : Bool). cond b (f d) (page_of sh R d)) ((are_listed sh r).0 d);
    }

pub leads : (sh : Shape) (R : List Record) (r : Record) (lsn : ℕ) (qs new : List Page) → HasPages sh R qs → lsn ≡ suc (length R) → AreThere (length qs) (touched_once sh r)
    → new ≡ [] ++ made r lsn [] qs (touched_once sh r) → Leads sh R (r ∷ R) new
leads sh R r lsn qs new k e there is = record {
  to = λ ps h.
      let there2 : AreThere sh.blocks (touched_once sh r) = subst (λ (m : ℕ). AreThere m (touched_once sh r)) k.count there in
      let same : made r (suc (length R)) [] qs (touched_once sh r) ≡ new = ap (λ (l : ℕ). made r l [] qs (touched_once sh r)) (sym e) ∙ sym is in
      subst (λ (x : List Page). HasPages sh (r ∷ R) (installed x ps)) same (one_step sh R r ps qs h k there2);
}

-- ---- two records, one after the other

pub over_is : (first ps : List Page) (base : Page) (d : ℕ) → d < length ps → base ≡ page_at ps d → over_in first base d ≡ page_at (installed first ps) d
over_is [] ps base d lt e = e
over_is (p ∷ first) ps base d lt e =
    let lt2 : d < length (slice_set ps (dba_of p) p) = subst (λ (n : ℕ). d < n) (sym (length-set ps (dba_of p) p)) lt in
    elim (eqb_tells (dba_of p) d) [
      | inl y ↦ rw (y.0) (over_is first (slice_set ps (dba_of p) p) p d lt2 (sym (ap (λ (i : ℕ). slice_index_or (slice_set ps i p) d (Zero d)) y.1 ∙ get_or-set_same ps d p (Zero d) lt)))
      | inr z ↦ rw (z.0) (over_is first (slice_set ps (dba_of p) p) base d lt2 (e ∙ sym (get_or-set_other ps (dba_of p) d p (Zero d) (λ e. z.1 (sym e)))))
    ]

made_over : (r : Record) (lsn : ℕ) (first ps : List Page) (ds : List ℕ) → AreThere (length ps) ds → made r lsn first ps ds ≡ made r lsn [] (installed first ps) ds
made_over r lsn first ps [] there = refl
made_over r lsn first ps (d ∷ ds) there =
    ap (λ (x : Page). changed_page r lsn x ∷ made r lsn first ps ds) (over_is first ps (page_at ps d) d there.0 refl)
    ∙ ap (λ (xs : List Page). changed_page r lsn (page_at (installed first ps) d) ∷ xs) (made_over r lsn first ps ds there.1)

installed_append : (new more ps : List Page) → installed (new ++ more) ps ≡ installed more (installed new ps)
installed_append [] more ps = refl
installed_append (p ∷ new) more ps = installed_append new more (slice_set ps (dba_of p) p)

pub leads_two : (sh : Shape) (R : List Record) (a b : Record) (lsn : ℕ) (qs new more all : List Page) → HasPages sh R qs → lsn ≡ suc (length R)
    → AreThere (length qs) (touched_once sh a) → AreThere (length qs) (touched_once sh b)
    → new ≡ [] ++ made a lsn [] qs (touched_once sh a) → more ≡ [] ++ made b (lsn + 1) new qs (touched_once sh b) → all ≡ new ++ more → Leads sh R (b ∷ a ∷ R) all
leads_two sh R a b lsn qs new more all k e there1 there2 is1 is2 is = record {
  to = λ ps h.
      let one : Leads sh R (a ∷ R) new = leads sh R a lsn qs new k e there1 is1 in
      let qs1 : HasPages sh (a ∷ R) (installed new qs) = one.to qs k in
      let same : more ≡ [] ++ made b (lsn + 1) [] (installed new qs) (touched_once sh b) = is2 ∙ made_over b (lsn + 1) new qs (touched_once sh b) there2 in
      let e2 : lsn + 1 ≡ suc (length (a ∷ R)) = omega (arith, e) in
      let there3 : AreThere (length (installed new qs)) (touched_once sh b) = subst (λ (n : ℕ). AreThere n (touched_once sh b)) (sym (installed_count new qs)) there2 in
      let two : Leads sh (a ∷ R) (b ∷ a ∷ R) more = leads sh (a ∷ R) b (lsn + 1) (installed new qs) more qs1 e2 there3 same in
      subst (λ (x : List Page). HasPages sh (b ∷ a ∷ R) x) (sym (ap (λ (x : List Page). installed x ps) is ∙ installed_append new more ps)) (two.to (installed new ps) (one.to ps h));
}

-- ---- a Commit, in place

pub commits : (sh : Shape) (R : List Record) (c : CommitRecord) (lsn : ℕ) (ps new : List Page) → HasPages sh R ps → lsn ≡ suc (length R) → 1 < length ps
    → new ≡ slice_set ps 1 (changed_page (Commit c) lsn (page_at ps 1)) → HasPages sh (Commit c ∷ R) new
commits sh R c lsn ps new h e there is =
    let d : dba_of (changed_page (Commit c) (suc (length R)) (page_at ps 1)) ≡ 1 =
    ap (λ (x : Page). dba_of (changed_page (Commit c) (suc (length R)) x)) (h.each 1 (subst (λ (n : ℕ). 1 < n) h.count there)) ∙ changed_dba sh (Commit c) R (suc (length R)) 1 in
    let one : HasPages sh (Commit c ∷ R) (slice_set ps (dba_of (changed_page (Commit c) (suc (length R)) (page_at ps 1))) (changed_page (Commit c) (suc (length R)) (page_at ps 1))) =
    one_step sh R (Commit c) ps ps h h (subst (λ (n : ℕ). 1 < n) h.count there, tt) in
    subst (λ (x : List Page). HasPages sh (Commit c ∷ R) x) (sym (is ∙ ap (λ (l : ℕ). slice_set ps 1 (changed_page (Commit c) l (page_at ps 1))) e))
    (subst (λ (i : ℕ). HasPages sh (Commit c ∷ R) (slice_set ps i (changed_page (Commit c) (suc (length R)) (page_at ps 1)))) d one)

pub installs : (sh : Shape) (R Q : List Record) (ps new qs : List Page) → HasPages sh R ps → Leads sh R Q new → qs ≡ installed new ps → HasPages sh Q qs
installs sh R Q ps new qs h l e = subst (λ (x : List Page). HasPages sh Q x) (sym e) (l.to ps h)
