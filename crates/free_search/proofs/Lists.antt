-- The first that passes, by places in a list.
use Rattle.std.proofs.Common.{◌≡◌, ◌⊎◌, ℕ, zero, suc, ◌<◌, ◌≤◌, Bool, true, false, leb, leb-true, leb-false, List, [], ◌∷◌, length, take, find, slice_get, Option, Some, None, refl, sym, ◌∙◌, ap, subst, arith, inl, inr}
use Rattle.seg_words.proofs.Lemmas.{cond-true, cond-false, cases_Bool}
use Rattle.free_search.specs.Walks.{NoneWithin, IsFirstWithin, FirstWithin}

nothing_there : (p : ℕ → Bool) (bs : List ℕ) (high : ℕ) → ((k b : ℕ) → k < high → slice_get bs k ≡ Some b → p b ≡ false) → find p (take high bs) ≡ None
nothing_there p bs zero h = refl
nothing_there p [] (suc n) h = refl
nothing_there p (b ∷ bs) (suc n) h = cond-false _ _ _ (h 0 b (omega arith) refl) ∙ nothing_there p bs n (λ k c l e. h (suc k) c (omega (arith, l)) e)

first_there : (p : ℕ → Bool) (bs : List ℕ) (high place b : ℕ) → place < high → slice_get bs place ≡ Some b → p b ≡ true → ((k c : ℕ) → k < place → slice_get bs k ≡ Some c → p c ≡ false) → find p (take high bs) ≡ Some b
first_there p bs zero place b l e y h = absurd (omega (arith, l))
first_there p [] (suc n) place b l e y h = absurd (let z : ◌≡◌ {A = Option ℕ} None (Some b) = e in cc)
first_there p (c ∷ bs) (suc n) zero b l e y h =
    let same : c ≡ b = (let z : ◌≡◌ {A = Option ℕ} (Some c) (Some b) = e in cc) in
    cond-true _ _ _ (ap p same ∙ y) ∙ ap (λ (x : ℕ). Some x) same
first_there p (c ∷ bs) (suc n) (suc place) b l e y h = cond-false _ _ _ (h 0 c (omega arith) refl) ∙ first_there p bs n place b (omega (arith, l)) e y (λ k d m s. h (suc k) d (omega (arith, m)) s)

-- what was passed from the start on is all there is under the high mark
pub none_found : (p : ℕ → Bool) (bs : List ℕ) (high to : ℕ) → NoneWithin p bs high 0 to → high ≤ to → None ≡ find p (take high bs)
none_found p bs high to n l = sym (nothing_there p bs high (λ k b m e. n k b (omega arith) (omega (arith, m, l)) m e))

-- the first one from a place on, where what was passed before has none
pub one_found : (p : ℕ → Bool) (bs : List ℕ) (high from to b : ℕ) → NoneWithin p bs high 0 from → IsFirstWithin p bs high from to b → Some b ≡ find p (take high bs)
one_found p bs high from to b n f =
    sym (first_there p bs high f.place b f.under f.here f.passes (λ k c l e. go k c l e (cases_Bool (leb from k))))
  where
    go : (k c : ℕ) → k < f.place → slice_get bs k ≡ Some c → (leb from k ≡ true) ⊎ (leb from k ≡ false) → p c ≡ false
    go k c l e (inl y) = (let u = f.under in f.none k c (leb-true from k y) l (omega (arith, l, u)) e)
    go k c l e (inr m) = (let u = f.under in n k c (omega arith) (leb-false from k m) (omega (arith, l, u)) e)

pub none_further : (p : ℕ → Bool) (bs : List ℕ) (high start from to : ℕ) → NoneWithin p bs high start from → NoneWithin p bs high from to → NoneWithin p bs high start to
none_further p bs high start from to n m k b z l u e = elim (cases_Bool (leb from k)) [ inl y ↦ m k b (leb-true from k y) l u e | inr f ↦ n k b z (leb-false from k f) u e ]

pub none_passed : (p : ℕ → Bool) (bs : List ℕ) (high start to : ℕ) → to ≤ start → NoneWithin p bs high start to
none_passed p bs high start to none k b z l u e = absurd (omega (arith, none, z, l))

-- fewer places
pub none_shorter : (p : ℕ → Bool) (bs : List ℕ) (high start from to : ℕ) → to ≤ from → NoneWithin p bs high start from → NoneWithin p bs high start to
none_shorter p bs high start from to less n k b z l u e = n k b z (omega (arith, l, less)) u e

-- no more places than there are under the high mark
pub none_under : (p : ℕ → Bool) (bs : List ℕ) (high start from to : ℕ) → high ≤ from → NoneWithin p bs high start from → NoneWithin p bs high start to
none_under p bs high start from to less n k b z l u e = n k b z (omega (arith, u, less)) u e

-- the first one from a place on is the first one from an earlier place on, where what was passed between has none
pub first_further : (p : ℕ → Bool) (bs : List ℕ) (high start from to end b : ℕ) → start ≤ from → to ≤ end → NoneWithin p bs high start from → IsFirstWithin p bs high from to b → IsFirstWithin p bs high start end b
first_further p bs high start from to end b before after n f =
    let least = f.least in
    let below = f.below in
    record {
      place = f.place;
      least = omega (arith, before, least);
      below = omega (arith, below, after);
      under = f.under;
      here = f.here;
      passes = f.passes;
      none = none_further p bs high start from f.place n f.none;
    }

place_below : (bs : List ℕ) (k b : ℕ) → slice_get bs k ≡ Some b → k < length bs
place_below [] k b e = absurd (let z : ◌≡◌ {A = Option ℕ} None (Some b) = e in cc)
place_below (c ∷ bs) zero b e = omega arith
place_below (c ∷ bs) (suc k) b e = (let l = place_below bs k b e in omega (arith, l))

-- past the end of a list nothing is
pub none_past : (p : ℕ → Bool) (bs : List ℕ) (high start to : ℕ) → length bs ≤ start → NoneWithin p bs high start to
none_past p bs high start to end k b z l u e = (let m = place_below bs k b e in absurd (omega (arith, end, z, m)))

-- up to a place is up to a further one, where the list ends before
pub first_longer : (p : ℕ → Bool) (bs : List ℕ) (high start to end : ℕ) (r : Option ℕ) → (to ≡ end) ⊎ ((length bs ≤ to) × (to ≤ end)) → FirstWithin p bs high start to r → FirstWithin p bs high start end r
first_longer p bs high start to end r (inl e) f = subst (λ n. FirstWithin p bs high start n r) e f
first_longer p bs high start to end None (inr w) f = none_further p bs high start to end f (none_past p bs high to end w.0)
first_longer p bs high start to end (Some b) (inr w) f =
    let below = f.below in
    let more = w.1 in
    record { place = f.place; least = f.least; below = omega (arith, below, more); under = f.under; here = f.here; passes = f.passes; none = f.none }
