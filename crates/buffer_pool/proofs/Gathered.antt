-- Bringing the blocks of records into frames, one after the other.
use Rattle.std.proofs.Common.{◌≡◌, ℕ, zero, suc, ◌≤◌, Bool, true, false, ◌||◌, nat_eq, List, [], ◌∷◌, length, drop, take, slice_index_or, Option, Some, None, Err, refl, sym, subst, arith}
use Rattle.std.proofs.lemmas.Bool.{true≢false, eq-eqb, eqb-true}
use Rattle.seg_words.specs.Types.{Shape}
use Rattle.disk_model.specs.Types.{Meaning}
use Rattle.page_store.specs.Types.{IsStore, Names}
use Rattle.page_store.specs.declared.fault.PageFault.{PageFault}
use Rattle.page_store.specs.declared.fault.PageFault.TheVariants.{DeviceFault, BadPage, NoMemory}
use Rattle.page_set.specs.Among.{is_among}
use Rattle.buffer_pool.specs.declared.frame.Frame.{Frame}
use Rattle.buffer_pool.specs.Frames.{frame_at, has_page, IsSpelled, Pool, SameDirty}
use Rattle.buffer_pool.specs.Reading.{IsFetching, WhyNotFetched}
use Rattle.buffer_pool.specs.Looks.{Looks}
use Rattle.buffer_pool.proofs.Stores.{store_stays}

or_true : (a b : Bool) → b ≡ true → (a || b) ≡ true
or_true true b h = refl
or_true false b h = h

or_first : (a b : Bool) → a ≡ true → (a || b) ≡ true
or_first true b h = refl
or_first false b h = absurd (true≢false (sym h))

no_frame : (o : Option Frame) (f : Frame) → o ≡ None → o ≡ Some f → ⊥
no_frame None f e h = none_some h
  where
    none_some : None ≡ Some f → ⊥
    none_some h = cc
no_frame (Some g) f e h = some_none e
  where
    some_none : Some g ≡ None → ⊥
    some_none e = cc

among_first : (ds : List ℕ) (d : ℕ) → 1 ≤ length ds → d ≡ slice_index_or ds 0 d → is_among ds d ≡ true
among_first [] d some is = absurd (omega (arith, some))
among_first (x ∷ ds) d some is = or_first (nat_eq x d) (is_among ds d) (eq-eqb x d (sym is))

or_either : (a b c : Bool) → (b ≡ true → c ≡ true) → (a || b) ≡ true → (a || c) ≡ true
or_either true b c f h = refl
or_either false b c f h = f h

among_take : (n : ℕ) (ds : List ℕ) (d : ℕ) → is_among (take n ds) d ≡ true → is_among ds d ≡ true
among_take zero ds d h = absurd (true≢false (sym h))
among_take (suc n) [] d h = h
among_take (suc n) (x ∷ ds) d h = or_either (nat_eq x d) (is_among (take n ds) d) (is_among ds d) (among_take n ds d) h

among_rest : (ds : List ℕ) (d : ℕ) → is_among (drop 1 ds) d ≡ true → is_among ds d ≡ true
among_rest [] d h = h
among_rest (x ∷ ds) d h = or_true (nat_eq x d) (is_among ds d) h

module _ (sh : Shape) (pages : ℕ → List ℕ) where
  pub why_first : (held : List (ℕ × Frame)) (d : ℕ) (ds : List ℕ) (e : PageFault) → IsFetching sh d (IsSpelled d (pages d)) (frame_at held d) (Err e) → WhyNotFetched sh pages held (d ∷ ds) e
  why_first held d ds e h = decide (frame_at held d) refl h
    where
      of_fault : (e : PageFault) → frame_at held d ≡ None → IsFetching sh d (IsSpelled d (pages d)) None (Err e) → WhyNotFetched sh pages held (d ∷ ds) e
      of_fault DeviceFault is h = tt
      of_fault (BadPage b) is h = (
        or_first (nat_eq d b) (is_among ds b) (eq-eqb d b (sym h.0)),
        λ f at dirty. no_frame (frame_at held b) f (subst (λ (j : ℕ). frame_at held j ≡ None) (sym h.0) is) at,
        λ has spelled. h.1 (subst (λ (j : ℕ). has_page sh j ≡ true) h.0 has) (subst (λ (j : ℕ). IsSpelled j (pages j)) h.0 spelled),
      )
      of_fault NoMemory is h = tt

      decide : (o : Option Frame) → frame_at held d ≡ o → IsFetching sh d (IsSpelled d (pages d)) o (Err e) → WhyNotFetched sh pages held (d ∷ ds) e
      decide None is h = of_fault e is h
      decide (Some f) is h = absurd (true≢false (sym h))

  still_why : (a b : List (ℕ × Frame)) (d : ℕ) → SameDirty a b → ((f : Frame) → frame_at b d ≡ Some f → f.dirty ≡ true → ⊥) → (f : Frame) → frame_at a d ≡ Some f → f.dirty ≡ true → ⊥
  still_why a b d same none f is dirty = none f ((same.at d f dirty).1 is) dirty

  pub still_why_not : (a b : List (ℕ × Frame)) (ds : List ℕ) (e : PageFault) → SameDirty a b → WhyNotFetched sh pages b ds e → WhyNotFetched sh pages a ds e
  still_why_not a b ds DeviceFault same h = tt
  still_why_not a b ds (BadPage x) same h = (h.0, still_why a b x same h.1, h.2)
  still_why_not a b ds NoMemory same h = tt

  -- one of some blocks
  of_one : (a : List (ℕ × Frame)) (d : ℕ) (ds : List ℕ) (e : PageFault) → is_among ds d ≡ true → WhyNotFetched sh pages a (d ∷ []) e → WhyNotFetched sh pages a ds e
  of_one a d ds DeviceFault among h = tt
  of_one a d ds (BadPage x) among h = (is_it (nat_eq d x) refl h.0, h.1, h.2)
    where
      is_it : (t : Bool) → nat_eq d x ≡ t → (t || false) ≡ true → is_among ds x ≡ true
      is_it true e h = subst (λ (j : ℕ). is_among ds j ≡ true) (eqb-true d x e) among
      is_it false e h = absurd (true≢false (sym h))
  of_one a d ds NoMemory among h = tt

  -- the first of them
  pub why_head : (a : List (ℕ × Frame)) (ds : List ℕ) (d : ℕ) (e : PageFault) → 1 ≤ length ds → d ≡ slice_index_or ds 0 d → IsFetching sh d (IsSpelled d (pages d)) (frame_at a d) (Err e) → WhyNotFetched sh pages a ds e
  why_head a ds d e some is h = of_one a d ds e (among_first ds d some is) (why_first a d [] e h)

  -- one of those behind it
  pub why_behind : (a b : List (ℕ × Frame)) (ds : List ℕ) (n : ℕ) (e : PageFault) → SameDirty a b → WhyNotFetched sh pages b (take n (drop 1 ds)) e → WhyNotFetched sh pages a ds e
  why_behind a b ds n DeviceFault same h = tt
  why_behind a b ds n (BadPage x) same h = (among_rest ds x (among_take n (drop 1 ds) x h.0), still_why a b x same h.1, h.2)
  why_behind a b ds n NoMemory same h = tt

-- which block is named
pub names_head : (ds : List ℕ) (d : ℕ) (e : PageFault) → 1 ≤ length ds → d ≡ slice_index_or ds 0 d → Names (λ b. b ≡ d) e → Names (λ b. is_among ds b ≡ true) e
names_head ds d DeviceFault some is h = tt
names_head ds d (BadPage b) some is h = subst (λ (j : ℕ). is_among ds j ≡ true) (sym h) (among_first ds d some is)
names_head ds d NoMemory some is h = tt

pub names_rest : (ds : List ℕ) (n : ℕ) (e : PageFault) → Names (λ b. is_among (take n (drop 1 ds)) b ≡ true) e → Names (λ b. is_among ds b ≡ true) e
names_rest ds n DeviceFault h = tt
names_rest ds n (BadPage b) h = among_rest ds b (among_take n (drop 1 ds) b h)
names_rest ds n NoMemory h = tt

pub names_so : (P Q : ℕ → Type 0) (e : PageFault) → ((b : ℕ) → P b → Q b) → Names P e → Names Q e
names_so P Q DeviceFault f h = tt
names_so P Q (BadPage b) f h = f b h
names_so P Q NoMemory f h = tt

module _ {D : Type 0} (meaning : Meaning D) (d0 d1 : D) (p q : Pool) (looks : Looks meaning d0 d1 p q) (pages : ℕ → List ℕ) (s : IsStore meaning d0 p.shape pages) where
  store_now : IsStore meaning d1 q.shape pages
  store_now = subst (λ (sh : Shape). IsStore meaning d1 sh pages) (sym looks.shape) (store_stays meaning d0 d1 p.shape pages s looks.untouched)

  pub why_rest : (ds : List ℕ) (n : ℕ) (e : PageFault) → ((pages : ℕ → List ℕ) → IsStore meaning d1 q.shape pages → WhyNotFetched q.shape pages q.held (take n (drop 1 ds)) e) → WhyNotFetched p.shape pages p.held ds e
  why_rest ds n e why =
      why_behind p.shape pages p.held q.held ds n e looks.same (subst (λ (sh : Shape). WhyNotFetched sh pages q.held (take n (drop 1 ds)) e) looks.shape (why pages store_now))

  pub why_then : (ds : List ℕ) (e : PageFault) → ((pages : ℕ → List ℕ) → IsStore meaning d1 q.shape pages → WhyNotFetched q.shape pages q.held ds e) → WhyNotFetched p.shape pages p.held ds e
  why_then ds e why =
      still_why_not p.shape pages p.held q.held ds e looks.same (subst (λ (sh : Shape). WhyNotFetched sh pages q.held ds e) looks.shape (why pages store_now))
