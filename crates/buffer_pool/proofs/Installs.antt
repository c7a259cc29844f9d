-- What putting pages into their frames shows.
use Rattle.std.proofs.Common.{◌≡◌, ℕ, ◌+◌, ◌≤◌, Bool, true, false, List, [], ◌∷◌, Option, Some, None, IsSome, refl, sym, ap, subst, arith, cond, nat_eq, length, ◌∙◌}
use Rattle.std.specs.Map.{set_value}
use Rattle.std.specs.Cmp.{nat_eq_equiv}
use Rattle.std.proofs.lemmas.Map.{lookup-set_value}
use Rattle.std.proofs.lemmas.Grind.{common_steps}
use Rattle.std.proofs.lemmas.Bool.{true≢false}
use Rattle.std.proofs.lemmas.Bool.Decides.{nat_tests}
use Rattle.seg_words.specs.Types.{Shape}
use Rattle.page_set.specs.declared.page.Page.{Page}
use Rattle.buffer_pool.specs.declared.changed.NewPage.{NewPage}
use Rattle.buffer_pool.specs.declared.frame.Frame.{Frame}
use Rattle.buffer_pool.specs.Frames.{dirty_count, dirty_frame, frame_at, has_page, weight, HasOnlyPages, IsShown, Shows}
use Rattle.buffer_pool.specs.Preparing.{frame_with, over_in, HaveFrames, Installed, LeadsTo}
use Rattle.buffer_pool.proofs.Drops.{one_number, equal}

pub dirty_count-le-length : (es : List (ℕ × Frame)) → dirty_count es ≤ length es
dirty_count-le-length [] = omega arith
dirty_count-le-length (e ∷ es) = grind (arith, common_steps, dirty_count-le-length es)

pub weight_le : (f : Frame) → weight f ≤ 1
weight_le f = grind (arith, common_steps)

pub count_front : (n : ℕ) (f : Frame) (es : List (ℕ × Frame)) → weight f + dirty_count es ≡ dirty_count ((n, f) ∷ es)
count_front n f es = grind (arith, common_steps)

pub lookup-changed : (k q : ℕ) (es : List (ℕ × Frame)) (f : Frame) → IsSome (frame_at es k) → frame_at (set_value (nat_eq k) es f) q ≡ cond (nat_eq k q) (Some f) (frame_at es q)
lookup-changed k q es f h = lookup-set_value nat_eq_equiv (nat_eq k) (one_number k) q f es h

flip : (a b : ℕ) → nat_eq a b ≡ nat_eq b a
flip a b = grind (arith, nat_tests)

pub unequal : (a b : ℕ) → (a ≡ b → ⊥) → nat_eq a b ≡ false
unequal a b h = grind (arith, nat_tests)

cond_twice : (b : Bool) (x y : Option Frame) (z : Option Frame) → cond b x z ≡ cond b x (cond b y z)
cond_twice true x y z = refl
cond_twice false x y z = refl

pub installed_first : (n : ℕ) (f : Frame) (p : Page) (es : List (ℕ × Frame)) → Installed (record { dba = n; page = p } ∷ []) ((n, f) ∷ es) ((n, dirty_frame p) ∷ es)
installed_first n f p es = record {
  at = λ d. rw (flip n d) (cond_twice (nat_eq d n) (Some (dirty_frame p)) (Some f) (frame_at es d));
}

either_way : (a b : Bool) (x y z : Option Frame) → (b ≡ true → a ≡ false) → cond a y (cond b x z) ≡ cond b x (cond a y z)
either_way true true x y z h = absurd (true≢false (h refl))
either_way true false x y z h = refl
either_way false true x y z h = refl
either_way false false x y z h = refl

pub installed_frame : (n : ℕ) (f : Frame) (k : ℕ) (p : Page) (es : List (ℕ × Frame)) → nat_eq k n ≡ false → IsSome (frame_at es k) → Installed (record { dba = k; page = p } ∷ []) ((n, f) ∷ es) ((n, f) ∷ set_value (nat_eq k) es (dirty_frame p))
installed_frame n f k p es other has = record {
  at = λ d. rw (lookup-changed k d es (dirty_frame p) has) (either_way (nat_eq d n) (nat_eq k d) (Some (dirty_frame p)) (Some f) (frame_at es d)
      (λ same. let is : k ≡ d = equal k d same in subst (λ (j : ℕ). nat_eq j n ≡ false) is other));
}

pub has_frame : (n : ℕ) (f : Frame) (k : ℕ) (es : List (ℕ × Frame)) → nat_eq k n ≡ false → IsSome (frame_at ((n, f) ∷ es) k) → IsSome (frame_at es k)
has_frame n f k es other h = rw other at h

pub absent_changed : (n k : ℕ) (p : Page) (es : List (ℕ × Frame)) → nat_eq k n ≡ false → IsSome (frame_at es k) → frame_at es n ≡ None → frame_at (set_value (nat_eq k) es (dirty_frame p)) n ≡ None
absent_changed n k p es other has none = rw (lookup-changed k n es (dirty_frame p) has, other) none

-- a frame stays a frame
frame_stays : (ns : List NewPage) (o : Option Frame) (d : ℕ) → IsSome o → IsSome (frame_with ns o d)
frame_stays [] o d h = h
frame_stays (n ∷ ns) o d h = frame_stays ns (cond (nat_eq n.dba d) (Some (dirty_frame n.page)) o) d (still (nat_eq n.dba d))
  where
    still : (b : Bool) → IsSome (cond b (Some (dirty_frame n.page)) o)
    still true = refl
    still false = h

pub have_still : (ns ms : List NewPage) (a b : List (ℕ × Frame)) → Installed ms a b → HaveFrames ns a → HaveFrames ns b
have_still [] ms a b i h = tt
have_still (n ∷ ns) ms a b i h = (rw (i.at n.dba) (frame_stays ms (frame_at a n.dba) n.dba h.0), have_still ns ms a b i h.1)

-- only pages have frames, where each of the new ones had one
pub only_pages_still : (sh : Shape) (n : NewPage) (a b : List (ℕ × Frame)) → Installed (n ∷ []) a b → IsSome (frame_at a n.dba) → HasOnlyPages sh a → HasOnlyPages sh b
only_pages_still sh n a b i has old = record { at = λ d h. decide d (nat_eq n.dba d) refl (rw (i.at d) at h) }
  where
    decide : (d : ℕ) (t : Bool) → nat_eq n.dba d ≡ t → IsSome (cond (nat_eq n.dba d) (Some (dirty_frame n.page)) (frame_at a d)) → has_page sh d ≡ true
    decide d true e h = subst (λ (j : ℕ). has_page sh j ≡ true) (equal n.dba d e) (old.at n.dba has)
    decide d false e h = old.at d (rw e at h)

-- how far an installing has come: what is left makes of the frames now what all of it makes of the first ones
pub record Progress (all left : List NewPage) (first now : List (ℕ × Frame)) : Type 0 where
  pub same : (d : ℕ) → frame_with left (frame_at now d) d ≡ frame_with all (frame_at first d) d
  pub have : HaveFrames left now

pub begun : (all : List NewPage) (first : List (ℕ × Frame)) → HaveFrames all first → Progress all all first first
begun all first have = record { same = λ d. refl; have = have }

pub further : (all : List NewPage) (n : NewPage) (left : List NewPage) (first now new : List (ℕ × Frame)) → Progress all (n ∷ left) first now → Installed (n ∷ []) now new → Progress all left first new
further all n left first now new p i = record {
  same = λ d. ap (λ (o : Option Frame). frame_with left o d) (i.at d) ∙ p.same d;
  have = have_still left (n ∷ []) now new i p.have.1;
}

pub finished : (all left : List NewPage) (first now : List (ℕ × Frame)) → Progress all left first now → left ≡ [] → Installed all first now
finished all left first now p is = record {
  at = λ d. ap (λ (ns : List NewPage). frame_with ns (frame_at now d) d) (sym is) ∙ p.same d;
}

-- what the frames show then
one_shown : (d : ℕ) (ns : List NewPage) (o : Option Frame) (bytes : List ℕ) (page : Page) → IsShown d o bytes page → IsShown d (frame_with ns o d) bytes (over_in ns page d)
one_shown d [] o bytes page h = h
one_shown d (n ∷ ns) o bytes page h =
    decide (nat_eq n.dba d) (one_shown d ns (Some (dirty_frame n.page)) bytes n.page (refl, λ c. absurd (true≢false c))) (one_shown d ns o bytes page h)
  where
    decide : (t : Bool) → IsShown d (frame_with ns (Some (dirty_frame n.page)) d) bytes (over_in ns n.page d) → IsShown d (frame_with ns o d) bytes (over_in ns page d)
        → IsShown d (frame_with ns (cond t (Some (dirty_frame n.page)) o) d) bytes (cond t (over_in ns n.page d) (over_in ns page d))
    decide true new old = new
    decide false new old = old

pub shows_installed : (sh : Shape) (pages : ℕ → List ℕ) (image image2 : ℕ → Page) (ns : List NewPage) (a b : List (ℕ × Frame)) → Installed ns a b → Shows sh pages image a → LeadsTo sh image image2 ns → Shows sh pages image2 b
shows_installed sh pages image image2 ns a b i s l = record {
  at = λ d has. rw (i.at d) (subst (λ (p : Page). IsShown d (frame_with ns (frame_at a d) d) (pages d) p) (l d has) (one_shown d ns (frame_at a d) (pages d) (image d) (s.at d has)));
}
