-- What dropping, adding and changing a frame keeps.
use Rattle.std.proofs.Common.{◌≡◌, ◌↔◌, ℕ, ◌+◌, Bool, true, false, List, [], ◌∷◌, Option, Some, None, IsSome, refl, sym, subst, arith, cond, nat_eq, length, ◌∙◌, not}
use Rattle.std.specs.List.{IsDistinct}
use Rattle.std.specs.Option.{option_map, unwrap_or}
use Rattle.std.specs.Map.{keys_of, remove_entry, set_value}
use Rattle.std.specs.Cmp.{nat_eq_equiv}
use Rattle.std.proofs.lemmas.Map.{lookup-remove_entry}
use Rattle.std.proofs.lemmas.Map.Entries.{sum_by-remove_entry, sum_by-set_value}
use Rattle.std.proofs.lemmas.Grind.{common_steps}
use Rattle.std.proofs.lemmas.Bool.Decides.{nat_tests}
use Rattle.page_set.specs.declared.page.Page.{Page}
use Rattle.buffer_pool.specs.declared.frame.Frame.{Frame}
use Rattle.buffer_pool.specs.Frames.{clean_frame, dirty_count, dirty_frame, frame_at, weight, IsClean, IsShown, IsWritten, Keeps, KeepsFrames, SameDirty}

-- a test for one number tells numbers apart as `nat_eq` does
pub one_number : (k x y : ℕ) → nat_eq k x ≡ true → nat_eq k y ≡ nat_eq x y
one_number k x y h = grind (arith, nat_tests)

pub equal : (a b : ℕ) → nat_eq a b ≡ true → a ≡ b
equal a b h = grind (arith, nat_tests)

pub lookup-removed : (k q : ℕ) (es : List (ℕ × Frame)) → IsDistinct nat_eq (keys_of es) → frame_at (remove_entry (nat_eq k) es) q ≡ cond (nat_eq k q) None (frame_at es q)
lookup-removed k q es apart = lookup-remove_entry nat_eq_equiv (nat_eq k) (one_number k) q es apart

length-removed : (k : ℕ) (es : List (ℕ × Frame)) → IsSome (frame_at es k) → length (remove_entry (nat_eq k) es) + 1 ≡ length es
length-removed k [] h = cc
length-removed k (e ∷ es) h = grind (arith, nat_tests, common_steps, length-removed k es)

clean_some : (o : Option Frame) → IsClean o → IsSome o
clean_some None h = absurd h
clean_some (Some f) h = refl

clean_weight : (o : Option Frame) → IsClean o → unwrap_or (option_map weight o) 0 ≡ 0
clean_weight None h = refl
clean_weight (Some f) h = rw h

-- a clean frame that is dropped
drop_shown : (d : ℕ) (b : Bool) (o : Option Frame) (bytes : List ℕ) (page : Page) → (b ≡ true → IsClean o) → IsShown d o bytes page → IsShown d (cond b None o) bytes page
drop_shown d true None bytes page c h = h
drop_shown d true (Some f) bytes page c h = (h.1 (c refl)).reads
drop_shown d false o bytes page c h = h

none_dirty : (o : Option Frame) (f : Frame) → IsClean o → f.dirty ≡ true → o ≡ Some f → None ≡ Some f
none_dirty None f c d e = e
none_dirty (Some g) f c d e = cc

drop_dirty : (b : Bool) (o : Option Frame) (f : Frame) → (b ≡ true → IsClean o) → f.dirty ≡ true → (cond b None o ≡ Some f) ↔ (o ≡ Some f)
drop_dirty true o f c d = (λ e. absurd_none f e, λ e. none_dirty o f (c refl) d e)
  where
    absurd_none : (f : Frame) → None ≡ Some f → o ≡ Some f
    absurd_none f e = cc
drop_dirty false o f c d = (λ e. e, λ e. e)

clean_at : (k q : ℕ) (es : List (ℕ × Frame)) → IsClean (frame_at es k) → nat_eq k q ≡ true → IsClean (frame_at es q)
clean_at k q es clean e = subst (λ (j : ℕ). IsClean (frame_at es j)) (equal k q e) clean

pub keeps_dropped : (pages : ℕ → List ℕ) (k : ℕ) (es : List (ℕ × Frame)) → IsDistinct nat_eq (keys_of es) → IsClean (frame_at es k) → Keeps pages es (remove_entry (nat_eq k) es)
keeps_dropped pages k es apart clean = record {
  at = λ q page h. rw (lookup-removed k q es apart) (drop_shown q (nat_eq k q) (frame_at es q) (pages q) page (clean_at k q es clean) h);
}

pub dirty_dropped : (k : ℕ) (es : List (ℕ × Frame)) → IsDistinct nat_eq (keys_of es) → IsClean (frame_at es k) → SameDirty es (remove_entry (nat_eq k) es)
dirty_dropped k es apart clean = record {
  at = λ q f d. rw (lookup-removed k q es apart) (drop_dirty (nat_eq k q) (frame_at es q) f (clean_at k q es clean) d);
}

pub fits_dropped : (k : ℕ) (es : List (ℕ × Frame)) → IsClean (frame_at es k) → length (remove_entry (nat_eq k) es) + 1 ≡ length es
fits_dropped k es clean = length-removed k es (clean_some (frame_at es k) clean)

pub absent_dropped : (k q : ℕ) (es : List (ℕ × Frame)) → IsDistinct nat_eq (keys_of es) → frame_at es q ≡ None → frame_at (remove_entry (nat_eq k) es) q ≡ None
absent_dropped k q es apart h = grind (arith, nat_tests, lookup-removed k q es apart)

pub count_dropped : (k : ℕ) (es : List (ℕ × Frame)) → IsClean (frame_at es k) → dirty_count (remove_entry (nat_eq k) es) ≡ dirty_count es
count_dropped k es clean = let sums = sum_by-remove_entry weight (nat_eq k) es in let none = clean_weight (frame_at es k) clean in omega (arith, sums, none)

pub keeps_itself : (pages : ℕ → List ℕ) (es : List (ℕ × Frame)) → Keeps pages es es
keeps_itself pages es = record { at = λ q page h. h }

pub keeps_then : (pages : ℕ → List ℕ) (a b c : List (ℕ × Frame)) → Keeps pages a b → Keeps pages b c → Keeps pages a c
keeps_then pages a b c p q = record { at = λ k page h. q.at k page (p.at k page h) }

pub keeps_same : (pages : ℕ → List ℕ) (a b : List (ℕ × Frame)) → ((d : ℕ) → frame_at b d ≡ frame_at a d) → Keeps pages a b
keeps_same pages a b same = record { at = λ q page h. rw (same q) h }

pub dirty_itself : (a : List (ℕ × Frame)) → SameDirty a a
dirty_itself a = record { at = λ q f d. (λ e. e, λ e. e) }

pub dirty_then : (a b c : List (ℕ × Frame)) → SameDirty a b → SameDirty b c → SameDirty a c
dirty_then a b c p q = record { at = λ k f d. (λ e. (p.at k f d).0 ((q.at k f d).0 e), λ e. (q.at k f d).1 ((p.at k f d).1 e)) }

pub dirty_same : (a b : List (ℕ × Frame)) → ((d : ℕ) → frame_at b d ≡ frame_at a d) → SameDirty a b
dirty_same a b same = record { at = λ q f d. rw (same q) (λ e. e, λ e. e) }

pub frames_itself : (a : List (ℕ × Frame)) → KeepsFrames a a
frames_itself a = record { at = λ d h. h }

pub frames_then : (a b c : List (ℕ × Frame)) → KeepsFrames a b → KeepsFrames b c → KeepsFrames a c
frames_then a b c p q = record { at = λ d h. q.at d (p.at d h) }

pub frames_same : (a b : List (ℕ × Frame)) → ((d : ℕ) → frame_at b d ≡ frame_at a d) → KeepsFrames a b
frames_same a b same = record { at = λ d h. rw (same d) h }

pub set_value_none : (k : ℕ) (es : List (ℕ × Frame)) (w : Frame) → frame_at es k ≡ None → es ≡ set_value (nat_eq k) es w
set_value_none k [] w h = refl
set_value_none k (e ∷ es) w h = grind (arith, nat_tests, common_steps, set_value_none k es w)

pub dirty_changed : (k : ℕ) (es : List (ℕ × Frame)) (f : Frame) (p : Page) → frame_at es k ≡ Some f → dirty_count (set_value (nat_eq k) es (dirty_frame p)) ≡ dirty_count es + cond (not f.dirty) 1 0
dirty_changed k es f p h = let sums = sum_by-set_value weight (nat_eq k) es f (dirty_frame p) h in grind (arith, common_steps, sums)

-- a page that was read, in front of the others
add_shown : (d : ℕ) (b : Bool) (o : Option Frame) (p page : Page) (bytes : List ℕ) → (b ≡ true → (o ≡ None) × IsWritten d bytes p) → IsShown d o bytes page → IsShown d (cond b (Some (clean_frame p)) o) bytes page
add_shown d true o p page bytes a h =
    let none : IsShown d None bytes page = subst (λ (x : Option Frame). IsShown d x bytes page) (a refl).0 h in
    let written : IsWritten d bytes p = (a refl).1 in
    let same : p ≡ page = sym written.reads ∙ none in
    (same, λ c. subst (IsWritten d bytes) same written)
add_shown d false o p page bytes a h = h

pub keeps_added : (pages : ℕ → List ℕ) (k : ℕ) (p : Page) (es : List (ℕ × Frame)) → frame_at es k ≡ None → IsWritten k (pages k) p → Keeps pages es ((k, clean_frame p) ∷ es)
keeps_added pages k p es absent written = record {
  at = λ q page h. add_shown q (nat_eq q k) (frame_at es q) p page (pages q)
      (λ e. subst (λ (j : ℕ). (frame_at es j ≡ None) × IsWritten j (pages j) p) (sym (equal q k e)) (absent, written)) h;
}

add_dirty : (b : Bool) (o : Option Frame) (p : Page) (f : Frame) → (b ≡ true → o ≡ None) → f.dirty ≡ true → (cond b (Some (clean_frame p)) o ≡ Some f) ↔ (o ≡ Some f)
add_dirty true o p f a d = (λ e. no_clean e, λ e. no_frame e)
  where
    no_clean : Some (clean_frame p) ≡ Some f → o ≡ Some f
    no_clean e = cc

    no_frame : o ≡ Some f → Some (clean_frame p) ≡ Some f
    no_frame e = let none : o ≡ None = a refl in cc
add_dirty false o p f a d = (λ e. e, λ e. e)

pub dirty_added : (k : ℕ) (p : Page) (es : List (ℕ × Frame)) → frame_at es k ≡ None → SameDirty es ((k, clean_frame p) ∷ es)
dirty_added k p es absent = record {
  at = λ q f d. add_dirty (nat_eq q k) (frame_at es q) p f (λ e. subst (λ (j : ℕ). frame_at es j ≡ None) (sym (equal q k e)) absent) d;
}

pub frames_added : (k : ℕ) (f : Frame) (es : List (ℕ × Frame)) → KeepsFrames es ((k, f) ∷ es)
frames_added k f es = record { at = λ q h. grind (arith, nat_tests) }

-- behind the frame that is never given away
pub keeps_behind : (pages : ℕ → List ℕ) (k : ℕ) (f : Frame) (a b : List (ℕ × Frame)) → Keeps pages a b → Keeps pages ((k, f) ∷ a) ((k, f) ∷ b)
keeps_behind pages k f a b h = record {
  at = λ q page. elim (nat_eq q k) as (λ t. IsShown q (cond t (Some f) (frame_at a q)) (pages q) page → IsShown q (cond t (Some f) (frame_at b q)) (pages q) page) [
    | true ↦ λ x. x
    | false ↦ λ x. h.at q page x
  ];
}

pub dirty_behind : (k : ℕ) (f : Frame) (a b : List (ℕ × Frame)) → SameDirty a b → SameDirty ((k, f) ∷ a) ((k, f) ∷ b)
dirty_behind k f a b h = record {
  at = λ q g d. elim (nat_eq q k) as (λ t. (cond t (Some f) (frame_at b q) ≡ Some g) ↔ (cond t (Some f) (frame_at a q) ≡ Some g)) [
    | true ↦ (λ e. e, λ e. e)
    | false ↦ h.at q g d
  ];
}

pub frames_behind : (k : ℕ) (f : Frame) (a b : List (ℕ × Frame)) → KeepsFrames a b → KeepsFrames ((k, f) ∷ a) ((k, f) ∷ b)
frames_behind k f a b h = record {
  at = λ q. elim (nat_eq q k) as (λ t. IsSome (cond t (Some f) (frame_at a q)) → IsSome (cond t (Some f) (frame_at b q))) [
    | true ↦ λ x. x
    | false ↦ λ x. h.at q x
  ];
}
