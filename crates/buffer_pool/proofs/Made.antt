-- What records make of the pages in their frames.
use Rattle.std.proofs.Common.{◌≡◌, inl, inr, ℕ, suc, ◌+◌, Bool, true, false, ◌&&◌, ◌||◌, cond, nat_eq, nat_lt, List, [], ◌∷◌, ◌++◌, length, Option, Some, None, IsSome, Err, refl, sym, ap, subst, arith, ◌∙◌, append_assoc, append-nil}
use Rattle.std.proofs.lemmas.Bool.{true≢false, eqb-true, eq-eqb, lt-ltb, cases_Bool}
use Rattle.seg_words.specs.Types.{Shape}
use Rattle.redo_record.specs.declared.record.Record.{Record}
use Rattle.page_store.specs.Types.{Names}
use Rattle.page_store.specs.declared.fault.PageFault.{PageFault}
use Rattle.page_store.specs.declared.fault.PageFault.TheVariants.{DeviceFault, BadPage, NoMemory}
use Rattle.page_set.specs.declared.page.Page.{Page}
use Rattle.page_set.specs.declared.page.Page.TheVariants.{Zero}
use Rattle.page_set.specs.Pages.{lsn_of}
use Rattle.page_set.specs.Changes.{changed_page}
use Rattle.page_set.specs.Among.{is_among}
use Rattle.page_set.specs.Folded.{touched, touched_once, page_of}
use Rattle.page_set.proofs.ListedLaw.{are_listed}
use Rattle.page_set.proofs.LsnLaw.{lsns_tell}
use Rattle.buffer_pool.specs.declared.changed.NewPage.{NewPage}
use Rattle.buffer_pool.specs.declared.frame.Frame.{Frame}
use Rattle.buffer_pool.specs.Frames.{frame_at, framed, has_page, page_over, IsShown, IsSpelled, IsWritten, Keeps, SameDirty, Shows}
use Rattle.buffer_pool.specs.Reading.{WhyNotFetched}
use Rattle.buffer_pool.specs.Preparing.{any_touches, made, made_by_two, one_made, over_in, redone, redone_all, with_records, AllFit, AreFramed, FitsOn, HaveFrames, IsPreparing, IsReady, Leads, LeadsTo, WhyNotMade, WhyNotMadeByTwo}

-- the pages of a list of blocks, one after the other

pub made_none : (r : Record) (lsn : ℕ) (first : List NewPage) (held : List (ℕ × Frame)) (old : List NewPage) → old ≡ old ++ made r lsn first held []
made_none r lsn first held old = sym (append-nil old)

pub made_next : (r : Record) (lsn d : ℕ) (first : List NewPage) (held : List (ℕ × Frame)) (ds : List ℕ) (p : Page) (old mid new : List NewPage) → p ≡ over_in first (framed held d) d
    → mid ≡ old ++ one_made r lsn d p → new ≡ mid ++ made r lsn first held ds → new ≡ old ++ made r lsn first held (d ∷ ds)
made_next r lsn d first held ds p old mid new is one rest =
    rest ∙ ap (λ (x : List NewPage). x ++ made r lsn first held ds) one ∙ append_assoc old (one_made r lsn d p) (made r lsn first held ds)
    ∙ ap (λ (q : Page). old ++ (one_made r lsn d q ++ made r lsn first held ds)) is

pub fit_next : (r : Record) (lsn d : ℕ) (first : List NewPage) (held : List (ℕ × Frame)) (ds : List ℕ) (p : Page) → p ≡ over_in first (framed held d) d → FitsOn r lsn p → AllFit r lsn first held ds → AllFit r lsn first held (d ∷ ds)
fit_next r lsn d first held ds p is fit rest = (subst (FitsOn r lsn) is fit, rest)

pub why_first : (r : Record) (lsn d : ℕ) (first : List NewPage) (held : List (ℕ × Frame)) (ds : List ℕ) (p : Page) → p ≡ over_in first (framed held d) d → (FitsOn r lsn p → ⊥) → WhyNotMade r lsn first held (d ∷ ds) (BadPage d)
why_first r lsn d first held ds p is unfit = (ap (λ (x : Bool). x || is_among ds d) (eq-eqb d d refl), λ f. unfit (subst (FitsOn r lsn) (sym is) f))

or_true : (a b : Bool) → b ≡ true → (a || b) ≡ true
or_true true b h = refl
or_true false b h = h

or_first : (a b : Bool) → a ≡ true → (a || b) ≡ true
or_first true b h = refl
or_first false b h = absurd (true≢false (sym h))

pub why_rest : (r : Record) (lsn d : ℕ) (first : List NewPage) (held : List (ℕ × Frame)) (ds : List ℕ) (e : PageFault) → WhyNotMade r lsn first held ds e → WhyNotMade r lsn first held (d ∷ ds) e
why_rest r lsn d first held ds (BadPage b) h = (or_true (nat_eq d b) (is_among ds b) h.0, h.1)
why_rest r lsn d first held ds NoMemory h = tt
why_rest r lsn d first held ds DeviceFault h = h

-- it is no fault of the device
pub no_device : (r : Record) (lsn : ℕ) (first : List NewPage) (held : List (ℕ × Frame)) (ds : List ℕ) (e : PageFault) → WhyNotMade r lsn first held ds e → e ≡ DeviceFault → ⊥
no_device r lsn first held ds DeviceFault why is = why
no_device r lsn first held ds (BadPage b) why is = apart is
  where
    apart : BadPage b ≡ DeviceFault → ⊥
    apart is = cc
no_device r lsn first held ds NoMemory why is = apart is
  where
    apart : NoMemory ≡ DeviceFault → ⊥
    apart is = cc

pub no_device_by_two : (r s : Record) (lsn : ℕ) (held : List (ℕ × Frame)) (ds es : List ℕ) (e : PageFault) → WhyNotMadeByTwo r s lsn held ds es e → e ≡ DeviceFault → ⊥
no_device_by_two r s lsn held ds es e why is = elim why [
  | inl first ↦ no_device r lsn [] held ds e first is
  | inr second ↦ no_device s (lsn + 1) (made r lsn [] held ds) held es e second is
]

-- each of them has a frame

have_append : (ns ms : List NewPage) (held : List (ℕ × Frame)) → HaveFrames ns held → HaveFrames ms held → HaveFrames (ns ++ ms) held
have_append [] ms held h k = k
have_append (n ∷ ns) ms held h k = (h.0, have_append ns ms held h.1 k)

pub frames_made : (r : Record) (lsn : ℕ) (first : List NewPage) (held : List (ℕ × Frame)) (ds : List ℕ) (sh : Shape) → AreFramed sh ds held → HaveFrames (made r lsn first held ds) held
frames_made r lsn first held [] sh h = tt
frames_made r lsn first held (d ∷ ds) sh h = have_append (one_made r lsn d p) (made r lsn first held ds) held (one (nat_lt (lsn_of p) lsn)) (frames_made r lsn first held ds sh h.2)
  where
    p : Page
    p = over_in first (framed held d) d

    one : (t : Bool) → HaveFrames (cond t (record { dba = d; page = changed_page r lsn p } ∷ []) []) held
    one true = (h.1, tt)
    one false = tt

pub frames_by_two : (r s : Record) (lsn : ℕ) (held : List (ℕ × Frame)) (ds es : List ℕ) (sh : Shape) → AreFramed sh ds held → AreFramed sh es held → HaveFrames (made_by_two r s lsn held ds es) held
frames_by_two r s lsn held ds es sh h k =
    have_append (made r lsn [] held ds) (made s (lsn + 1) (made r lsn [] held ds) held es) held (frames_made r lsn [] held ds sh h) (frames_made s (lsn + 1) (made r lsn [] held ds) held es sh k)

-- put over the page of a block they give what the records make of it

over_append : (ns ms : List NewPage) (p : Page) (d : ℕ) → over_in (ns ++ ms) p d ≡ over_in ms (over_in ns p d) d
over_append [] ms p d = refl
over_append (n ∷ ns) ms p d = decide (nat_eq n.dba d) (over_append ns ms n.page d) (over_append ns ms p d)
  where
    decide : (t : Bool) → over_in (ns ++ ms) n.page d ≡ over_in ms (over_in ns n.page d) d → over_in (ns ++ ms) p d ≡ over_in ms (over_in ns p d) d
        → cond t (over_in (ns ++ ms) n.page d) (over_in (ns ++ ms) p d) ≡ over_in ms (cond t (over_in ns n.page d) (over_in ns p d)) d
    decide true same other = same
    decide false same other = other

-- the page of block d when those that are made of these blocks are put over another
over_made : (r : Record) (lsn d : ℕ) (first : List NewPage) (held : List (ℕ × Frame)) (ds : List ℕ) (p : Page)
    → over_in (made r lsn first held ds) p d ≡ cond (is_among ds d && nat_lt (lsn_of (over_in first (framed held d) d)) lsn) (changed_page r lsn (over_in first (framed held d) d)) p
over_made r lsn d first held [] p = refl
over_made r lsn d first held (x ∷ ds) p =
    over_append (one_made r lsn x q) (made r lsn first held ds) p d ∙ over_made r lsn d first held ds (over_in (one_made r lsn x q) p d) ∙ decide (nat_eq x d) refl
  where
    q : Page
    q = over_in first (framed held x) x

    here : Page
    here = over_in first (framed held d) d

    new : Page
    new = changed_page r lsn here

    fold : (a t : Bool) → cond (a && t) new (cond t new p) ≡ cond t new p
    fold true true = refl
    fold true false = refl
    fold false t = refl

    lesser : (t : Bool) → over_in (cond t (record { dba = d; page = new } ∷ []) []) p d ≡ cond t new p
    lesser true = rw (eq-eqb d d refl) refl
    lesser false = refl

    decide : (t : Bool) → nat_eq x d ≡ t
        → cond (is_among ds d && nat_lt (lsn_of here) lsn) new (over_in (one_made r lsn x q) p d) ≡ cond ((t || is_among ds d) && nat_lt (lsn_of here) lsn) new p
    decide true e =
        let same : x ≡ d = eqb-true x d e in
        ap (λ (y : ℕ). cond (is_among ds d && nat_lt (lsn_of here) lsn) new (over_in (one_made r lsn y (over_in first (framed held y) y)) p d)) same
        ∙ ap (λ (z : Page). cond (is_among ds d && nat_lt (lsn_of here) lsn) new z) (lesser (nat_lt (lsn_of here) lsn))
        ∙ fold (is_among ds d) (nat_lt (lsn_of here) lsn)
    decide false e = ap (λ (z : Page). cond (is_among ds d && nat_lt (lsn_of here) lsn) new z) (other (nat_lt (lsn_of q) lsn))
      where
        other : (t : Bool) → over_in (cond t (record { dba = x; page = changed_page r lsn q } ∷ []) []) p d ≡ p
        other true = rw e refl
        other false = refl

-- a block that has a frame shows the page of its frame
pub shown_framed : (d : ℕ) (held : List (ℕ × Frame)) (bytes : List ℕ) (p : Page) → IsSome (frame_at held d) → IsShown d (frame_at held d) bytes p → framed held d ≡ p
shown_framed d held bytes p has h = decide (frame_at held d) has h
  where
    decide : (o : Option Frame) → IsSome o → IsShown d o bytes p → page_over o (Zero d) ≡ p
    decide None has h = cc
    decide (Some f) has h = h.0

are_framed : (sh : Shape) (ds : List ℕ) (held : List (ℕ × Frame)) (d : ℕ) → AreFramed sh ds held → is_among ds d ≡ true → (has_page sh d ≡ true) × IsSome (frame_at held d)
are_framed sh [] held d h y = absurd (true≢false (sym y))
are_framed sh (x ∷ ds) held d h y = elim (cases_Bool (nat_eq x d)) [
  | inl same ↦ subst (λ (j : ℕ). (has_page sh j ≡ true) × IsSome (frame_at held j)) (eqb-true x d same) (h.0, h.1)
  | inr other ↦ are_framed sh ds held d h.2 (sym (ap (λ (b : Bool). b || is_among ds d) other) ∙ y)
]

among_append : (ds es : List ℕ) (b : ℕ) → is_among (ds ++ es) b ≡ (is_among ds b || is_among es b)
among_append [] es b = refl
among_append (x ∷ ds) es b = ap (λ (y : Bool). nat_eq x b || y) (among_append ds es b) ∙ or_assoc (nat_eq x b) (is_among ds b) (is_among es b)
  where
    or_assoc : (a c e : Bool) → (a || (c || e)) ≡ ((a || c) || e)
    or_assoc true c e = refl
    or_assoc false c e = refl

-- one record

redone_one : (sh : Shape) (r : Record) (lsn : ℕ) (held : List (ℕ × Frame)) (d : ℕ) (bytes : List ℕ) (p : Page) → AreFramed sh (touched_once sh r) held → IsShown d (frame_at held d) bytes p
    → over_in (made r lsn [] held (touched_once sh r)) p d ≡ redone sh r lsn d p
redone_one sh r lsn held d bytes p all h =
    over_made r lsn d [] held (touched_once sh r) p ∙ decide (is_among (touched_once sh r) d) refl
    ∙ ap (λ (b : Bool). cond (b && nat_lt (lsn_of p) lsn) (changed_page r lsn p) p) ((are_listed sh r).0 d)
  where
    decide : (t : Bool) → is_among (touched_once sh r) d ≡ t
        → cond (t && nat_lt (lsn_of (framed held d)) lsn) (changed_page r lsn (framed held d)) p ≡ cond (t && nat_lt (lsn_of p) lsn) (changed_page r lsn p) p
    decide true e =
        ap (λ (q : Page). cond (nat_lt (lsn_of q) lsn) (changed_page r lsn q) p) (shown_framed d held bytes p (are_framed sh (touched_once sh r) held d all e).1 h)
    decide false e = refl

-- two, one after the other

redone_two : (sh : Shape) (r s : Record) (lsn : ℕ) (held : List (ℕ × Frame)) (d : ℕ) (bytes : List ℕ) (p : Page) → AreFramed sh (touched_once sh r) held → AreFramed sh (touched_once sh s) held → IsShown d (frame_at held d) bytes p
    → over_in (made_by_two r s lsn held (touched_once sh r) (touched_once sh s)) p d ≡ redone sh s (lsn + 1) d (redone sh r lsn d p)
redone_two sh r s lsn held d bytes p all more h =
    over_append one (made s (lsn + 1) one held (touched_once sh s)) p d ∙ over_made s (lsn + 1) d one held (touched_once sh s) (over_in one p d)
    ∙ decide (is_among (touched_once sh s) d) refl
    ∙ ap (λ (b : Bool). cond (b && nat_lt (lsn_of q) (lsn + 1)) (changed_page s (lsn + 1) q) q) ((are_listed sh s).0 d)
    ∙ ap (λ (x : Page). redone sh s (lsn + 1) d x) (redone_one sh r lsn held d bytes p all h)
  where
    one : List NewPage
    one = made r lsn [] held (touched_once sh r)

    q : Page
    q = over_in one p d

    decide : (t : Bool) → is_among (touched_once sh s) d ≡ t
        → cond (t && nat_lt (lsn_of (over_in one (framed held d) d)) (lsn + 1)) (changed_page s (lsn + 1) (over_in one (framed held d) d)) q ≡ cond (t && nat_lt (lsn_of q) (lsn + 1)) (changed_page s (lsn + 1) q) q
    decide true e =
        ap (λ (x : Page). cond (nat_lt (lsn_of (over_in one x d)) (lsn + 1)) (changed_page s (lsn + 1) (over_in one x d)) q) (shown_framed d held bytes p (are_framed sh (touched_once sh s) held d more e).1 h)
    decide false e = refl

pub shows_kept : (sh : Shape) (pages : ℕ → List ℕ) (image : ℕ → Page) (a b : List (ℕ × Frame)) → Shows sh pages image a → Keeps pages a b → Shows sh pages image b
shows_kept sh pages image a b s k = record { at = λ d has. k.at d (image d) (s.at d has) }

pub applies_one : (sh : Shape) (pages : ℕ → List ℕ) (image : ℕ → Page) (r : Record) (lsn : ℕ) (held : List (ℕ × Frame)) (new : List NewPage) → Shows sh pages image held → AreFramed sh (touched_once sh r) held
    → new ≡ made r lsn [] held (touched_once sh r) → LeadsTo sh image (redone_all sh r None lsn image) new
applies_one sh pages image r lsn held new s all is = λ d has.
    ap (λ (ns : List NewPage). over_in ns (image d) d) is ∙ redone_one sh r lsn held d (pages d) (image d) all (s.at d has)

pub applies_two : (sh : Shape) (pages : ℕ → List ℕ) (image : ℕ → Page) (r t : Record) (lsn : ℕ) (held : List (ℕ × Frame)) (new : List NewPage) → Shows sh pages image held → AreFramed sh (touched_once sh r) held → AreFramed sh (touched_once sh t) held
    → new ≡ made_by_two r t lsn held (touched_once sh r) (touched_once sh t) → LeadsTo sh image (redone_all sh r (Some t) lsn image) new
applies_two sh pages image r t lsn held new s all more is = λ d has.
    ap (λ (ns : List NewPage). over_in ns (image d) d) is ∙ redone_two sh r t lsn held d (pages d) (image d) all more (s.at d has)

-- the next record finds each page at a lesser LSN

and_true : (a b : Bool) (x y : Page) → b ≡ true → cond (a && b) x y ≡ cond a x y
and_true true b x y h = rw h refl
and_true false b x y h = refl

redone_next : (sh : Shape) (R : List Record) (r : Record) (lsn d : ℕ) → lsn ≡ suc (length R) → redone sh r lsn d (page_of sh R d) ≡ page_of sh (r ∷ R) d
redone_next sh R r lsn d e =
    ap (λ (n : ℕ). redone sh r n d (page_of sh R d)) e
    ∙ and_true (is_among (touched sh r) d) (nat_lt (lsn_of (page_of sh R d)) (suc (length R))) (changed_page r (suc (length R)) (page_of sh R d)) (page_of sh R d)
    (lt-ltb (lsn_of (page_of sh R d)) (suc (length R)) (omega (arith, (lsns_tell sh R d).most)))

pub fresh : (sh : Shape) (R : List Record) (r : Record) (s : Option Record) (lsn : ℕ) (new : List NewPage) → lsn ≡ suc (length R) → LeadsTo sh (page_of sh R) (redone_all sh r s lsn (page_of sh R)) new → Leads sh R (with_records r s R) new
fresh sh R r None lsn new e l = λ d has. l d has ∙ redone_next sh R r lsn d e
fresh sh R r (Some s) lsn new e l = λ d has.
    let two : lsn + 1 ≡ suc (length (r ∷ R)) = omega (arith, e) in
    l d has ∙ ap (λ (p : Page). redone sh s (lsn + 1) d p) (redone_next sh R r lsn d e) ∙ redone_next sh (r ∷ R) s (lsn + 1) d two

-- why they aren't made

fit_at : (r : Record) (lsn : ℕ) (first : List NewPage) (held : List (ℕ × Frame)) (ds : List ℕ) (d : ℕ) → AllFit r lsn first held ds → is_among ds d ≡ true → FitsOn r lsn (over_in first (framed held d) d)
fit_at r lsn first held [] d h y = absurd (true≢false (sym y))
fit_at r lsn first held (x ∷ ds) d h y = elim (cases_Bool (nat_eq x d)) [
  | inl same ↦ subst (λ (j : ℕ). FitsOn r lsn (over_in first (framed held j) j)) (eqb-true x d same) h.0
  | inr other ↦ fit_at r lsn first held ds d h.1 (sym (ap (λ (b : Bool). b || is_among ds d) other) ∙ y)
]

is_spelled : (d : ℕ) (bytes : List ℕ) (p : Page) → IsWritten d bytes p → IsSpelled d bytes
is_spelled d bytes p w = subst (IsWritten d bytes) (sym w.reads) w

module _ (sh : Shape) (pages : ℕ → List ℕ) (image : ℕ → Page) (old new : List (ℕ × Frame)) where
  spelled_before : (d : ℕ) → SameDirty old new → Shows sh pages image new → has_page sh d ≡ true → IsSome (frame_at new d) → frame_at old d ≡ None → IsSpelled d (pages d)
  spelled_before d same s has some none = decide (frame_at new d) refl some
    where
      clean : (f : Frame) (t : Bool) → f.dirty ≡ t → frame_at new d ≡ Some f → IsSpelled d (pages d)
      clean f true e is = let was : frame_at old d ≡ Some f = (same.at d f e).0 is in let no : None ≡ Some f = sym none ∙ was in cc
      clean f false e is =
          let shown : IsShown d (Some f) (pages d) (image d) = subst (λ (o : Option Frame). IsShown d o (pages d) (image d)) is (s.at d has) in
          is_spelled d (pages d) (image d) (shown.1 e)

      decide : (o : Option Frame) → frame_at new d ≡ o → IsSome o → IsSpelled d (pages d)
      decide None is h = cc
      decide (Some f) is h = clean f f.dirty refl is

  not_ready : (r : Record) (s : Option Record) (lsn b : ℕ) (ds : List ℕ) → Shows sh pages image old → WhyNotFetched sh pages old ds (BadPage b) → IsReady sh r s lsn (pages b) (frame_at old b) b (image b) → ⊥
  not_ready r s lsn b ds shows why ready = decide (frame_at old b) refl
    where
      clean : (f : Frame) (t : Bool) → f.dirty ≡ t → frame_at old b ≡ Some f → ⊥
      clean f true e is = why.1 f is e
      clean f false e is =
          let shown : IsShown b (Some f) (pages b) (image b) = subst (λ (o : Option Frame). IsShown b o (pages b) (image b)) is (shows.at b ready.has) in
          why.2 ready.has (is_spelled b (pages b) (image b) (shown.1 e))

      decide : (o : Option Frame) → frame_at old b ≡ o → ⊥
      decide None is = why.2 ready.has (ready.spelled is)
      decide (Some f) is = clean f f.dirty refl is

  pub not_fetched_one : (r : Record) (lsn : ℕ) (e : PageFault) → Shows sh pages image old → WhyNotFetched sh pages old (touched_once sh r) e → IsPreparing sh r None lsn pages old image (Err e)
  not_fetched_one r lsn DeviceFault shows why = tt
  not_fetched_one r lsn (BadPage b) shows why =
      (sym ((are_listed sh r).0 b) ∙ why.0, not_ready r None lsn b (touched_once sh r) shows why)
  not_fetched_one r lsn NoMemory shows why = tt

  pub not_fetched_two : (r s : Record) (lsn : ℕ) (e : PageFault) → Shows sh pages image old → WhyNotFetched sh pages old (touched_once sh r ++ touched_once sh s) e → IsPreparing sh r (Some s) lsn pages old image (Err e)
  not_fetched_two r s lsn DeviceFault shows why = tt
  not_fetched_two r s lsn (BadPage b) shows why = (
    sym (ap (λ (x : Bool). x || is_among (touched_once sh s) b) ((are_listed sh r).0 b) ∙ ap (λ (x : Bool). is_among (touched sh r) b || x) ((are_listed sh s).0 b)) ∙ sym (among_append (touched_once sh r) (touched_once sh s) b) ∙ why.0,
    not_ready r (Some s) lsn b (touched_once sh r ++ touched_once sh s) shows why,
  )
  not_fetched_two r s lsn NoMemory shows why = tt

  page_now : (d : ℕ) → Shows sh pages image new → has_page sh d ≡ true → IsSome (frame_at new d) → framed new d ≡ image d
  page_now d s has some = shown_framed d new (pages d) (image d) some (s.at d has)

  pub not_made_one : (r : Record) (lsn : ℕ) (e : PageFault) → Shows sh pages image new → AreFramed sh (touched_once sh r) new → WhyNotMade r lsn [] new (touched_once sh r) e → IsPreparing sh r None lsn pages old image (Err e)
  not_made_one r lsn DeviceFault s all why = tt
  not_made_one r lsn (BadPage b) s all why =
      let there = are_framed sh (touched_once sh r) new b all why.0 in
      let touches : is_among (touched sh r) b ≡ true = sym ((are_listed sh r).0 b) ∙ why.0 in
      (touches, λ ready. why.1 (subst (FitsOn r lsn) (sym (page_now b s there.0 there.1)) (ready.fit touches)))
  not_made_one r lsn NoMemory s all why = tt

  pub not_made_two : (r t : Record) (lsn : ℕ) (e : PageFault) → Shows sh pages image new → AreFramed sh (touched_once sh r) new → AreFramed sh (touched_once sh t) new
      → WhyNotMadeByTwo r t lsn new (touched_once sh r) (touched_once sh t) e → IsPreparing sh r (Some t) lsn pages old image (Err e)
  not_made_two r t lsn DeviceFault s all more why = tt
  not_made_two r t lsn NoMemory s all more why = tt
  not_made_two r t lsn (BadPage b) s all more why = elim why [
    | inl first ↦ (
        let there = are_framed sh (touched_once sh r) new b all first.0 in
        let touches : is_among (touched sh r) b ≡ true = sym ((are_listed sh r).0 b) ∙ first.0 in
        (or_first (is_among (touched sh r) b) (is_among (touched sh t) b) touches, λ ready. first.1 (subst (FitsOn r lsn) (sym (page_now b s there.0 there.1)) (ready.fit.0 touches))))
    | inr second ↦ (
        let there = are_framed sh (touched_once sh t) new b more second.0 in
        let touches : is_among (touched sh t) b ≡ true = sym ((are_listed sh t).0 b) ∙ second.0 in
        let now : framed new b ≡ image b = page_now b s there.0 there.1 in
        let one : List NewPage = made r lsn [] new (touched_once sh r) in
        let same : over_in one (framed new b) b ≡ redone sh r lsn b (image b) = ap (λ (p : Page). over_in one p b) now ∙ redone_one sh r lsn new b (pages b) (image b) all (s.at b there.0) in
        (or_true (is_among (touched sh r) b) (is_among (touched sh t) b) touches, λ ready. second.1 (subst (FitsOn t (lsn + 1)) (sym same) (ready.fit.1 touches))))
  ]

  pub made_one_ready : (r : Record) (lsn : ℕ) → Shows sh pages image new → SameDirty old new → AreFramed sh (touched_once sh r) new → AllFit r lsn [] new (touched_once sh r)
      → (d : ℕ) → any_touches sh r None d ≡ true → IsReady sh r None lsn (pages d) (frame_at old d) d (image d)
  made_one_ready r lsn s same all fit d touches =
      let listed : is_among (touched_once sh r) d ≡ true = (are_listed sh r).0 d ∙ touches in
      let there = are_framed sh (touched_once sh r) new d all listed in
      record {
        has = there.0;
        spelled = spelled_before d same s there.0 there.1;
        fit = λ y. subst (FitsOn r lsn) (page_now d s there.0 there.1) (fit_at r lsn [] new (touched_once sh r) d fit listed);
      }

  pub made_two_ready : (r t : Record) (lsn : ℕ) → Shows sh pages image new → SameDirty old new → AreFramed sh (touched_once sh r) new → AreFramed sh (touched_once sh t) new
      → AllFit r lsn [] new (touched_once sh r) → AllFit t (lsn + 1) (made r lsn [] new (touched_once sh r)) new (touched_once sh t)
      → (d : ℕ) → any_touches sh r (Some t) d ≡ true → IsReady sh r (Some t) lsn (pages d) (frame_at old d) d (image d)
  made_two_ready r t lsn s same all more fit fit2 d touches =
      let there = framed_by_either in
      record {
        has = there.0;
        spelled = spelled_before d same s there.0 there.1;
        fit = (
          λ y. subst (FitsOn r lsn) (page_now d s there.0 there.1) (fit_at r lsn [] new (touched_once sh r) d fit ((are_listed sh r).0 d ∙ y)),
          λ y. subst (FitsOn t (lsn + 1)) (after_first there.0 there.1) (fit_at t (lsn + 1) (made r lsn [] new (touched_once sh r)) new (touched_once sh t) d fit2 ((are_listed sh t).0 d ∙ y)),
        );
      }
    where
      framed_by_either : (has_page sh d ≡ true) × IsSome (frame_at new d)
      framed_by_either = elim (cases_Bool (is_among (touched sh r) d)) [
        | inl y ↦ are_framed sh (touched_once sh r) new d all ((are_listed sh r).0 d ∙ y)
        | inr n ↦ are_framed sh (touched_once sh t) new d more ((are_listed sh t).0 d ∙ sym (ap (λ (b : Bool). b || is_among (touched sh t) d) n) ∙ touches)
      ]

      after_first : has_page sh d ≡ true → IsSome (frame_at new d) → over_in (made r lsn [] new (touched_once sh r)) (framed new d) d ≡ redone sh r lsn d (image d)
      after_first has some =
          ap (λ (p : Page). over_in (made r lsn [] new (touched_once sh r)) p d) (page_now d s has some) ∙ redone_one sh r lsn new d (pages d) (image d) all (s.at d has)

-- which blocks are named

pub touched_one : (sh : Shape) (r : Record) (ds : List ℕ) (b : ℕ) → ds ≡ touched_once sh r → is_among ds b ≡ true → any_touches sh r None b ≡ true
touched_one sh r ds b is h = sym ((are_listed sh r).0 b) ∙ ap (λ (xs : List ℕ). is_among xs b) (sym is) ∙ h

pub touched_either : (sh : Shape) (r s : Record) (ds es all : List ℕ) (b : ℕ) → ds ≡ touched_once sh r → es ≡ touched_once sh s → all ≡ ds ++ es → is_among all b ≡ true → any_touches sh r (Some s) b ≡ true
touched_either sh r s ds es all b is more split h =
    sym (ap (λ (x : Bool). x || is_among (touched_once sh s) b) ((are_listed sh r).0 b) ∙ ap (λ (x : Bool). is_among (touched sh r) b || x) ((are_listed sh s).0 b))
    ∙ sym (among_append (touched_once sh r) (touched_once sh s) b)
    ∙ ap (λ (xs : List ℕ). is_among xs b) (sym (split ∙ ap (λ (xs : List ℕ). xs ++ es) is ∙ ap (λ (xs : List ℕ). touched_once sh r ++ xs) more)) ∙ h

pub names_one : (sh : Shape) (r : Record) (ds : List ℕ) (e : PageFault) → ds ≡ touched_once sh r → Names (λ b. is_among ds b ≡ true) e → Names (λ b. any_touches sh r None b ≡ true) e
names_one sh r ds DeviceFault is h = tt
names_one sh r ds (BadPage b) is h = touched_one sh r ds b is h
names_one sh r ds NoMemory is h = tt

pub names_two : (sh : Shape) (r s : Record) (ds es all : List ℕ) (e : PageFault) → ds ≡ touched_once sh r → es ≡ touched_once sh s → all ≡ ds ++ es → Names (λ b. is_among all b ≡ true) e → Names (λ b. any_touches sh r (Some s) b ≡ true) e
names_two sh r s ds es all DeviceFault is more split h = tt
names_two sh r s ds es all (BadPage b) is more split h = touched_either sh r s ds es all b is more split h
names_two sh r s ds es all NoMemory is more split h = tt

pub names_made : (sh : Shape) (r : Record) (lsn : ℕ) (held : List (ℕ × Frame)) (ds : List ℕ) (e : PageFault) → ds ≡ touched_once sh r → WhyNotMade r lsn [] held ds e → Names (λ b. any_touches sh r None b ≡ true) e
names_made sh r lsn held ds DeviceFault is h = tt
names_made sh r lsn held ds (BadPage b) is h = touched_one sh r ds b is h.0
names_made sh r lsn held ds NoMemory is h = tt

pub names_made_two : (sh : Shape) (r s : Record) (lsn : ℕ) (held : List (ℕ × Frame)) (ds es : List ℕ) (e : PageFault) → ds ≡ touched_once sh r → es ≡ touched_once sh s → WhyNotMadeByTwo r s lsn held ds es e → Names (λ b. any_touches sh r (Some s) b ≡ true) e
names_made_two sh r s lsn held ds es DeviceFault is more h = tt
names_made_two sh r s lsn held ds es NoMemory is more h = tt
names_made_two sh r s lsn held ds es (BadPage b) is more h = elim h [
  | inl first ↦ or_first (is_among (touched sh r) b) (is_among (touched sh s) b) (touched_one sh r ds b is first.0)
  | inr second ↦ or_true (is_among (touched sh r) b) (is_among (touched sh s) b) (touched_one sh s es b more second.0)
]

-- of the blocks of two records those of each

pub framed_left : (sh : Shape) (ds es : List ℕ) (held : List (ℕ × Frame)) → AreFramed sh (ds ++ es) held → AreFramed sh ds held
framed_left sh [] es held h = tt
framed_left sh (d ∷ ds) es held h = (h.0, h.1, framed_left sh ds es held h.2)

pub framed_right : (sh : Shape) (ds es : List ℕ) (held : List (ℕ × Frame)) → AreFramed sh (ds ++ es) held → AreFramed sh es held
framed_right sh [] es held h = h
framed_right sh (d ∷ ds) es held h = framed_right sh ds es held h.2
