-- What bringing a block into a frame answers, and which frames there are afterwards.
use Rattle.std.proofs.Common.{◌≡◌, ◌⊎◌, inl, inr, ℕ, ◌≤◌, Bool, true, false, List, [], ◌∷◌, Option, Some, None, IfSome, IsSome, is_some, Result, Err, Ok, refl, sym, subst, arith, cond, nat_eq}
use Rattle.std.proofs.lemmas.Bool.{true≢false}
use Rattle.std.proofs.lemmas.Bool.Decides.{nat_tests}
use Rattle.seg_words.specs.Types.{Shape}
use Rattle.page_store.specs.declared.fault.PageFault.{PageFault}
use Rattle.page_store.specs.declared.fault.PageFault.TheVariants.{DeviceFault, BadPage, NoMemory}
use Rattle.page_set.specs.declared.page.Page.{Page}
use Rattle.buffer_pool.specs.declared.frame.Frame.{Frame}
use Rattle.buffer_pool.specs.Frames.{clean_frame, frame_at, has_page, in_file, HasOnlyPages, IsShown, IsSpelled, IsWritten, Shows}
use Rattle.page_set.specs.Pages.{lsn_of}
use Rattle.buffer_pool.specs.Batches.{AreDirtyUpTo}
use Rattle.buffer_pool.specs.Reading.{IsFetching, IsReading}

pub is_none : (o : Option Frame) → is_some o ≡ false → o ≡ None
is_none None h = refl
is_none (Some f) h = cc

module _ (sh : Shape) (d : ℕ) (Spelled : Type 0) where
  pub fetched_hit : (o : Option Frame) → is_some o ≡ true → IsFetching sh d Spelled o (Ok tt)
  fetched_hit None h = cc
  fetched_hit (Some f) h = refl

  pub fetched_read : (o : Option Frame) (P : Page → Type 0) (p : Page) → is_some o ≡ false → IsReading sh d Spelled P (Ok p) → IsFetching sh d Spelled o (Ok tt)
  fetched_read None P p h is = (is.0, is.1)
  fetched_read (Some f) P p h is = cc

  pub fetched_err : (o : Option Frame) (P : Page → Type 0) (e : PageFault) → is_some o ≡ false → IsReading sh d Spelled P (Err e) → IsFetching sh d Spelled o (Err e)
  fetched_err None P DeviceFault h is = tt
  fetched_err None P (BadPage b) h is = is
  fetched_err None P NoMemory h is = tt
  fetched_err (Some f) P e h is = cc

  pub fetched_memory : (o : Option Frame) → is_some o ≡ false → IsFetching sh d Spelled o (Err NoMemory)
  fetched_memory None h = tt
  fetched_memory (Some f) h = cc

-- what was read is what the file's bytes spell
pub written : (sh : Shape) (d : ℕ) (pages : ℕ → List ℕ) (p : Page) → IsReading sh d (IsSpelled d (pages d)) (λ q. q ≡ in_file pages d) (Ok p) → IsWritten d (pages d) p
written sh d pages p is = subst (IsWritten d (pages d)) (sym is.2) is.1

-- a frame that wasn't there is that of the block
pub only_added : (sh : Shape) (k : ℕ) (a b : List (ℕ × Frame)) → ((d : ℕ) → nat_eq d k ≡ false → frame_at a d ≡ None → frame_at b d ≡ None) → has_page sh k ≡ true
    → (d : ℕ) → IsSome (frame_at b d) → IsSome (frame_at a d) ⊎ ((d ≡ k) × (has_page sh k ≡ true))
only_added sh k a b absent has d h = decide (nat_eq d k) (frame_at a d) refl refl
  where
    decide : (t : Bool) (o : Option Frame) → nat_eq d k ≡ t → frame_at a d ≡ o → IsSome (frame_at a d) ⊎ ((d ≡ k) × (has_page sh k ≡ true))
    decide true o e is = inr (grind (arith, nat_tests), has)
    decide false None e is = let none : frame_at b d ≡ None = absent d e is in absurd (cc)
    decide false (Some f) e is = inl (rw is refl)

pub only_same : (sh : Shape) (k : ℕ) (a b : List (ℕ × Frame)) → ((d : ℕ) → frame_at b d ≡ frame_at a d) → (d : ℕ) → IsSome (frame_at b d) → IsSome (frame_at a d) ⊎ ((d ≡ k) × (has_page sh k ≡ true))
only_same sh k a b same d h = inl (rw (sym (same d)) h)

-- block 1 keeps its frame to itself, and only pages have frames
pub still_apart : (sh : Shape) (k n : ℕ) (a b : List (ℕ × Frame)) → ((d : ℕ) → IsSome (frame_at b d) → IsSome (frame_at a d) ⊎ ((d ≡ k) × (has_page sh k ≡ true))) → frame_at a n ≡ None → (k ≡ n → ⊥) → frame_at b n ≡ None
still_apart sh k n a b only none other = decide (frame_at b n) refl
  where
    decide : (o : Option Frame) → frame_at b n ≡ o → frame_at b n ≡ None
    decide None is = is
    decide (Some f) is = elim (only n (rw is refl)) [
      | inl was ↦ absurd (cc)
      | inr there ↦ absurd (other (sym there.0))
    ]

pub still_pages : (sh : Shape) (k n : ℕ) (f : Frame) (a b : List (ℕ × Frame)) → ((d : ℕ) → IsSome (frame_at b d) → IsSome (frame_at a d) ⊎ ((d ≡ k) × (has_page sh k ≡ true))) → HasOnlyPages sh ((n, f) ∷ a) → HasOnlyPages sh ((n, f) ∷ b)
still_pages sh k n f a b only old = record { at = λ d h. decide d (nat_eq d n) refl h }
  where
    decide : (d : ℕ) (t : Bool) → nat_eq d n ≡ t → IsSome (frame_at ((n, f) ∷ b) d) → has_page sh d ≡ true
    decide d true e h = old.at d (rw e refl)
    decide d false e h =
        let here : IsSome (frame_at b d) = rw e at h in
        elim (only d here) [
          | inl was ↦ old.at d (rw e was)
          | inr there ↦ subst (λ (j : ℕ). has_page sh j ≡ true) (sym there.0) there.1
        ]

-- behind the frame of another block
pub fetched_behind : (sh : Shape) (d : ℕ) (Spelled : Type 0) (n : ℕ) (f : Frame) (es : List (ℕ × Frame)) (r : Result (Unit {0}) PageFault) → nat_eq d n ≡ false → IsFetching sh d Spelled (frame_at es d) r → IsFetching sh d Spelled (frame_at ((n, f) ∷ es) d) r
fetched_behind sh d Spelled n f es r other h = rw other h

-- after frames were dropped
was_there : (a b : List (ℕ × Frame)) → ((d : ℕ) → frame_at a d ≡ None → frame_at b d ≡ None) → (d : ℕ) → IsSome (frame_at b d) → IsSome (frame_at a d)
was_there a b absent d h = decide (frame_at a d) refl
  where
    decide : (o : Option Frame) → frame_at a d ≡ o → IsSome (frame_at a d)
    decide None is = let none : frame_at b d ≡ None = absent d is in absurd (cc)
    decide (Some f) is = rw is refl

pub pages_dropped : (sh : Shape) (n : ℕ) (f : Frame) (a b : List (ℕ × Frame)) → ((d : ℕ) → frame_at a d ≡ None → frame_at b d ≡ None) → HasOnlyPages sh ((n, f) ∷ a) → HasOnlyPages sh ((n, f) ∷ b)
pages_dropped sh n f a b absent old = still_pages sh n n f a b (λ d h. inl (was_there a b absent d h)) old

pub clean_first : (n : ℕ) (p : Page) → AreDirtyUpTo 0 ((n, clean_frame p) ∷ [])
clean_first n p = record { at = λ d. decide (nat_eq d n) }
  where
    decide : (t : Bool) → IfSome (cond t (Some (clean_frame p)) None) (λ f. f.dirty ≡ true → lsn_of f.page ≤ 0)
    decide true = λ dirty. absurd (true≢false (sym dirty))
    decide false = tt

-- a pool in which block n alone has a frame
pub only_first : (sh : Shape) (n : ℕ) (f : Frame) → has_page sh n ≡ true → HasOnlyPages sh ((n, f) ∷ [])
only_first sh n f has = record { at = λ d h. decide d (nat_eq d n) refl h }
  where
    decide : (d : ℕ) (t : Bool) → nat_eq d n ≡ t → IsSome (cond t (Some f) None) → has_page sh d ≡ true
    decide d true e h = let same : d ≡ n = grind (arith, nat_tests) in subst (λ (j : ℕ). has_page sh j ≡ true) (sym same) has
    decide d false e h = absurd (true≢false (sym h))

pub shows_new : (sh : Shape) (n : ℕ) (pages : ℕ → List ℕ) (p : Page) → IsReading sh n (IsSpelled n (pages n)) (λ q. q ≡ in_file pages n) (Ok p) → Shows sh pages (in_file pages) ((n, clean_frame p) ∷ [])
shows_new sh n pages p is = record { at = λ d has. decide d (nat_eq d n) refl }
  where
    decide : (d : ℕ) (t : Bool) → nat_eq d n ≡ t → IsShown d (cond t (Some (clean_frame p)) None) (pages d) (in_file pages d)
    decide d true e =
        let same : n ≡ d = grind (arith, nat_tests) in
        subst (λ (j : ℕ). IsShown j (Some (clean_frame p)) (pages j) (in_file pages j)) same (is.2, λ c. is.1)
    decide d false e = refl

pub reading_err : {A B : Type 0} (sh : Shape) (d : ℕ) (Spelled : Type 0) (P : A → Type 0) (Q : B → Type 0) (e : PageFault) → IsReading sh d Spelled P (Err e) → IsReading sh d Spelled Q (Err e)
reading_err sh d Spelled P Q DeviceFault is = tt
reading_err sh d Spelled P Q (BadPage b) is = is
reading_err sh d Spelled P Q NoMemory is = tt

-- the block of the frame in front
pub front_some : (d n : ℕ) (f : Frame) (es : List (ℕ × Frame)) → d ≡ n → is_some (frame_at ((n, f) ∷ es) d) ≡ true
front_some d n f es e = let yes : nat_eq d n ≡ true = grind (arith, nat_tests) in rw yes refl

-- with another frame in front
pub front_pages : (sh : Shape) (n : ℕ) (f g : Frame) (es : List (ℕ × Frame)) → HasOnlyPages sh ((n, f) ∷ es) → HasOnlyPages sh ((n, g) ∷ es)
front_pages sh n f g es old = record { at = λ d h. old.at d (decide d (nat_eq d n) h) }
  where
    decide : (d : ℕ) (t : Bool) → IsSome (cond t (Some g) (frame_at es d)) → IsSome (cond t (Some f) (frame_at es d))
    decide d true h = refl
    decide d false h = h
