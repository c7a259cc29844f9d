-- Extents and the blocks of a scan, block by block; and places without a scan.
use Rattle.std.proofs.Common.{◌≡◌, ℕ, zero, suc, ◌+◌, inl, inr, leb, leb-true, leb-false, option_map, drop, set, ◌≤◌, ◌<◌, Bool, true, false, ◌||◌, List, [], ◌∷◌, ◌++◌, length, take, get_or, Option, None, refl, sym, ◌∙◌, ap, subst, arith, true≢false}
use Rattle.seg_words.proofs.Lemmas.{cases_Bool, or_left, or_right}
use Rattle.seg_words.specs.Types.{Shape}
use Rattle.redo_model.specs.Model.{in_extent}
use Rattle.history_model.specs.Released.{has_any, least_having}
use Rattle.std.proofs.lemmas.List.{get_or-set_same, get_or-set_other, length-set}
use Rattle.store_core.specs.declared.lowered.Lowered.{Lowered}
use Rattle.scan_table.specs.declared.scan.OpenScan.{OpenScan}
use Rattle.scan_table.specs.Standing.{mark_with, marked_by}

pub any_here : (sh : Shape) (x : ℕ) (bs : List ℕ) (i b : ℕ) → i < length bs → b ≡ get_or bs i b → in_extent sh x b ≡ true → has_any sh x bs ≡ true
any_here sh x [] i b l e h = absurd (omega (arith, l))
any_here sh x (c ∷ bs) zero b l e h = or_left (in_extent sh x c) _ (subst (λ (d : ℕ). in_extent sh x d ≡ true) e h)
any_here sh x (c ∷ bs) (suc i) b l e h = or_right (in_extent sh x c) _ (any_here sh x bs i b (omega (arith, l)) e h)

pub any_next : (sh : Shape) (x : ℕ) (bs : List ℕ) (i b : ℕ) → i < length bs → b ≡ get_or bs i b → in_extent sh x b ≡ false → has_any sh x (take i bs) ≡ false → has_any sh x (take (i + 1) bs) ≡ false
any_next sh x bs i b l e h k = subst (λ n. has_any sh x (take n bs) ≡ false) (let z : suc i ≡ i + 1 = omega arith in z) (go bs i l e k)
  where
    or_first : (u v : Bool) → (u || v) ≡ false → u ≡ false
    or_first true v z = absurd (true≢false z)
    or_first false v z = refl

    or_second : (u v : Bool) → (u || v) ≡ false → v ≡ false
    or_second true v z = absurd (true≢false z)
    or_second false v z = z

    or_none : (u v : Bool) → u ≡ false → v ≡ false → (u || v) ≡ false
    or_none true v y z = y
    or_none false v y z = z

    go : (bs : List ℕ) (i : ℕ) → i < length bs → b ≡ get_or bs i b → has_any sh x (take i bs) ≡ false → has_any sh x (take (suc i) bs) ≡ false
    go [] i l e k = absurd (omega (arith, l))
    go (c ∷ bs) zero l e k = or_none (in_extent sh x c) false (subst (λ (d : ℕ). in_extent sh x d ≡ false) e h) refl
    go (c ∷ bs) (suc i) l e k = or_none (in_extent sh x c) _ (or_first (in_extent sh x c) _ k) (go bs i (omega (arith, l)) e (or_second (in_extent sh x c) _ k))

pub any_none : (sh : Shape) (x : ℕ) (bs : List ℕ) (i : ℕ) → length bs ≤ i → has_any sh x (take i bs) ≡ false → has_any sh x bs ≡ false
any_none sh x bs i l k = subst (λ (ys : List ℕ). has_any sh x ys ≡ false) (whole bs i l) k
  where
    whole : (xs : List ℕ) (i : ℕ) → length xs ≤ i → take i xs ≡ xs
    whole [] zero l = refl
    whole [] (suc i) l = refl
    whole (x ∷ xs) zero l = absurd (omega (arith, l))
    whole (x ∷ xs) (suc i) l = ap (λ (ys : List ℕ). x ∷ ys) (whole xs i (omega (arith, l)))

-- places

abbrev pub AreNone : List (Option OpenScan) → Type 0
AreNone xs = (k : ℕ) → get_or xs k None ≡ None

pub none_pushed : (xs ys : List (Option OpenScan)) → AreNone xs → ys ≡ xs ++ None ∷ [] → AreNone ys
none_pushed xs ys h e = λ k. subst (λ (zs : List (Option OpenScan)). get_or zs k None ≡ None) (sym e) (go xs h k)
  where
    go : (xs : List (Option OpenScan)) → AreNone xs → (k : ℕ) → get_or (xs ++ None ∷ []) k None ≡ None
    go [] h zero = refl
    go [] h (suc k) = refl
    go (x ∷ xs) h zero = h 0
    go (x ∷ xs) h (suc k) = go xs (λ j. h (suc j)) k

-- nothing is left to read

none_dropped : (bs : List ℕ) (n : ℕ) → length bs < n → drop n bs ≡ []
none_dropped [] zero l = refl
none_dropped [] (suc n) l = refl
none_dropped (b ∷ bs) zero l = absurd (omega (arith, l))
none_dropped (b ∷ bs) (suc n) l = none_dropped bs n (omega (arith, l))

none_having : (sh : Shape) (xs : List ℕ) → least_having sh [] xs ≡ None
none_having sh [] = refl
none_having sh (x ∷ xs) = none_having sh xs

pub none_gone : (sh : Shape) (bs : List ℕ) (n lowering : ℕ) (xs : List ℕ) → length bs < n → None ≡ mark_with lowering (least_having sh (drop n bs) xs)
none_gone sh bs n lowering xs l = sym (ap (mark_with lowering) (ap (λ (z : List ℕ). least_having sh z xs) (none_dropped bs n l) ∙ none_having sh xs))

-- places that are marked one by one

pub record MarkedUpTo (o : ℕ) (l : Lowered) (old new : List (Option OpenScan)) (at : ℕ) : Type 0 where
  pub count : length new ≡ length old
  pub before : (k : ℕ) → k < at → get_or new k None ≡ option_map (marked_by o l) (get_or old k None)
  pub left : (k : ℕ) → at ≤ k → get_or new k None ≡ get_or old k None

pub none_marked : (o : ℕ) (l : Lowered) (old : List (Option OpenScan)) → MarkedUpTo o l old old 0
none_marked o l old = record { count = refl; before = λ k b. absurd (omega (arith, b)); left = λ k b. refl }

pub one_marked : (o : ℕ) (l : Lowered) (old mid new : List (Option OpenScan)) (at : ℕ) → at < length mid → MarkedUpTo o l old mid at → new ≡ set mid at (option_map (marked_by o l) (get_or mid at None)) → MarkedUpTo o l old new (at + 1)
one_marked o l old mid new at w h e = record {
  count = ap (λ (xs : List (Option OpenScan)). length xs) e ∙ (length-set mid at (option_map (marked_by o l) (get_or mid at None)) ∙ h.count);
  before = λ k b. ap (λ (xs : List (Option OpenScan)). get_or xs k None) e ∙ elim (cases_Bool (leb at k)) [
    | inl y ↦ (let m = leb-true at k y in let same : at ≡ k = omega (arith, m, b) in
        subst (λ j. get_or (set mid at (option_map (marked_by o l) (get_or mid at None))) j None ≡ option_map (marked_by o l) (get_or old j None)) same
        (get_or-set_same mid at (option_map (marked_by o l) (get_or mid at None)) None w ∙ ap (option_map (marked_by o l)) (h.left at (omega arith))))
    | inr f ↦ (let m = leb-false at k f in get_or-set_other mid at k (option_map (marked_by o l) (get_or mid at None)) None (λ z. omega (arith, m, z)) ∙ h.before k m)
  ];
  left = λ k b. ap (λ (xs : List (Option OpenScan)). get_or xs k None) e ∙ (get_or-set_other mid at k (option_map (marked_by o l) (get_or mid at None)) None (λ z. omega (arith, b, z)) ∙ h.left k (omega (arith, b)));
}

past_end : (xs : List (Option OpenScan)) (k : ℕ) → length xs ≤ k → get_or xs k None ≡ None
past_end [] k l = refl
past_end (x ∷ xs) zero l = absurd (omega (arith, l))
past_end (x ∷ xs) (suc k) l = past_end xs k (omega (arith, l))

pub all_marked : (o : ℕ) (l : Lowered) (old new : List (Option OpenScan)) (at k : ℕ) → length new ≤ at → MarkedUpTo o l old new at → get_or new k None ≡ option_map (marked_by o l) (get_or old k None)
all_marked o l old new at k w h = elim (cases_Bool (leb at k)) [
  | inl y ↦ (let m = leb-true at k y in let c = h.count in past_end new k (omega (arith, w, m)) ∙ sym (ap (option_map (marked_by o l)) (past_end old k (omega (arith, w, m, c)))))
  | inr f ↦ h.before k (leb-false at k f)
]
