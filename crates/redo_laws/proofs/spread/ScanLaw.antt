-- A scan finds each row of its view, once.
use Rattle.std.proofs.Common.{◌≡◌, ℕ, zero, suc, ◌<◌, true, false, ◌||◌, eqb, List, [], ◌∷◌, ◌++◌, Option, Some, None, refl, sym, ◌∙◌, ap, ap₂, subst, arith, inl, inr, le_refl, eqb-true, true≢false, eq-eqb, option_to_list}
use Rattle.seg_words.proofs.Lemmas.{eqb-false, cases_Bool, cases_order, or_cases, cond-true, cond-false}
use Rattle.seg_words.specs.Types.{Shape}
use Rattle.redo_model.specs.Records.{Record}
use Rattle.redo_model.specs.Model.{commit_count, view, slot_count, row_at, rows_at, found_below, IsTable, IsRowBlock, is_formatted, under_high, AreAllowed}
use Rattle.redo_laws.specs.Among.{is_in}
use Rattle.redo_laws.specs.Scan.{scan_list, scanned, numbered, IsReadAfter, ScansAreWhole}
use Rattle.redo_laws.specs.Views.{IsOpen}
use Rattle.redo_laws.proofs.lists.Bools.{off}
use Rattle.redo_laws.proofs.space.Places.{in_contains, contains_in, segments, a_table}
use Rattle.redo_laws.proofs.space.Apart.{Distinct, in_filter, filter_has, distinct_scan}
use Rattle.redo_laws.proofs.spread.SpreadLaw.{slot_there, rows_are_spread}
use Rattle.redo_laws.proofs.spread.StaysLaw.{blocks_stay}
use Rattle.redo_laws.proofs.spread.InOrder.{numbered-append, ordered_view}

-- a row that has another number
other_row : (n : ℕ) (p : ℕ × List ℕ) → (◌≡◌ {A = Option (ℕ × List ℕ)} (Some p) (Some (n, p.1)) → ⊥) → numbered n (p ∷ []) ≡ []
other_row n p h = cond-false _ _ _ (off _ (λ y. h (ap (λ z. Some (z, p.1)) (eqb-true p.0 n y))))

none_found : (f : ℕ → Option (ℕ × List ℕ)) (m n : ℕ) → ((k : ℕ) (x : List ℕ) → k < m → f k ≡ Some (n, x) → ⊥) → numbered n (found_below f m) ≡ []
none_found f zero n h = refl
none_found f (suc m) n h =
    let rest : numbered n (found_below f m) ≡ [] = none_found f m n (λ k x l. h k x (omega arith)) in
    (elim (f m) as (λ v. f m ≡ v → numbered n (elim v [ None ↦ found_below f m | Some x ↦ found_below f m ++ x ∷ [] ]) ≡ []) [
      | None ↦ λ e. rest
      | Some p ↦ λ e. numbered-append n (found_below f m) (p ∷ []) ∙ ap₂ (λ (xs ys : List (List ℕ)). xs ++ ys) rest (other_row n p (λ q. h m p.1 (omega arith) (e ∙ q)))
    ]) refl

one_found : (f : ℕ → Option (ℕ × List ℕ)) (m k n : ℕ) (x : List ℕ) → k < m → f k ≡ Some (n, x) → ((j : ℕ) (y : List ℕ) → f j ≡ Some (n, y) → j ≡ k) → numbered n (found_below f m) ≡ x ∷ []
one_found f zero k n x l e h = absurd (omega arith)
one_found f (suc m) k n x l e h =
    elim (cases_Bool (eqb k m)) [
      | inl y ↦
          let same : k ≡ m = eqb-true k m y in
          let rest : numbered n (found_below f m) ≡ [] = none_found f m n (λ j z u g. let q = h j z g in absurd (omega arith)) in
          ap (λ (v : Option (ℕ × List ℕ)). numbered n (elim v as (λ _. List (ℕ × List ℕ)) [ None ↦ found_below f m | Some z ↦ found_below f m ++ z ∷ [] ])) (subst (λ j. f j ≡ Some (n, x)) same e)
          ∙ numbered-append n (found_below f m) ((n, x) ∷ [])
          ∙ ap₂ (λ (xs ys : List (List ℕ)). xs ++ ys) rest (cond-true _ _ _ (eq-eqb n n refl))
      | inr off ↦
          let ne : k ≡ m → ⊥ = eqb-false k m off in
          let rest : numbered n (found_below f m) ≡ x ∷ [] = one_found f m k n x (below k m l ne) e h in
          (elim (f m) as (λ v. f m ≡ v → numbered n (elim v [ None ↦ found_below f m | Some z ↦ found_below f m ++ z ∷ [] ]) ≡ x ∷ []) [
            | None ↦ λ g. rest
            | Some p ↦ λ g. numbered-append n (found_below f m) (p ∷ []) ∙ ap₂ (λ (xs ys : List (List ℕ)). xs ++ ys) rest (other_row n p (λ q. ne (sym (h m p.1 (g ∙ q)))))
          ]) refl
    ]
  where
    below : (k m : ℕ) → k < suc m → (k ≡ m → ⊥) → k < m
    below k m l ne = elim (cases_order k m) [ inl e ↦ absurd (ne e) | inr w ↦ elim w [ inl u ↦ u | inr u ↦ absurd (omega arith) ] ]

-- no block gives a row of this number
none_scanned : (read : ℕ → List Record) (bs : List ℕ) (s t n : ℕ) → ((b k : ℕ) (x : List ℕ) → is_in b bs ≡ true → row_at (read b) b k s t ≡ Some (n, x) → ⊥) → numbered n (scanned read bs s t) ≡ []
none_scanned read [] s t n h = refl
none_scanned read (b ∷ bs) s t n h =
    numbered-append n (rows_at (read b) b s t) (scanned read bs s t)
    ∙ ap₂ (λ (xs ys : List (List ℕ)). xs ++ ys)
    (none_found (λ k. row_at (read b) b k s t) (slot_count (read b) b) n (λ k x l. h b k x (head_in b bs)))
    (none_scanned read bs s t n (λ c k x m. h c k x (tail_in b c bs m)))
  where
    head_in : (b : ℕ) (bs : List ℕ) → is_in b (b ∷ bs) ≡ true
    head_in b bs = ap (λ v. v || is_in b bs) (eq-eqb b b refl)

    tail_in : (b c : ℕ) (bs : List ℕ) → is_in c bs ≡ true → is_in c (b ∷ bs) ≡ true
    tail_in b c bs m = elim (eqb b c) as (λ v. (v || is_in c bs) ≡ true) [ true ↦ refl | false ↦ m ]

-- one slot of one block gives it
record GivenHere (read : ℕ → List Record) (bs : List ℕ) (s t n b k : ℕ) (x : List ℕ) : Type 0 where
  there : is_in b bs ≡ true
  gives : row_at (read b) b k s t ≡ Some (n, x)
  once : (c l : ℕ) (y : List ℕ) → is_in c bs ≡ true → row_at (read c) c l s t ≡ Some (n, y) → (c ≡ b) × (l ≡ k)

one_scanned : (read : ℕ → List Record) (bs : List ℕ) (s t n b k : ℕ) (x : List ℕ) → Distinct bs → GivenHere read bs s t n b k x → numbered n (scanned read bs s t) ≡ x ∷ []
one_scanned read [] s t n b k x d g = absurd (true≢false (sym g.there))
one_scanned read (c ∷ bs) s t n b k x d g =
    numbered-append n (rows_at (read c) c s t) (scanned read bs s t)
    ∙ elim (cases_Bool (eqb c b)) [
      | inl y ↦
          let same : c ≡ b = eqb-true c b y in
          ap₂ (λ (xs ys : List (List ℕ)). xs ++ ys)
          (subst (λ z. numbered n (rows_at (read z) z s t) ≡ x ∷ []) (sym same)
          (one_found (λ j. row_at (read b) b j s t) (slot_count (read b) b) k n x (slot_there (read b) b k s t n x g.gives) g.gives (λ j z e. (g.once b j z g.there e).1)))
          (none_scanned read bs s t n (λ e l z m f. true≢false (sym (subst (λ w. is_in w bs ≡ true) ((g.once e l z (later_in c e bs m) f).0 ∙ sym same) m) ∙ d.0)))
      | inr off ↦
          ap₂ (λ (xs ys : List (List ℕ)). xs ++ ys)
          (none_found (λ j. row_at (read c) c j s t) (slot_count (read c) c) n (λ j z l e. eqb-false c b off (g.once c j z (first_in c bs) e).0))
          (one_scanned read bs s t n b k x d.1 (record {
            there = elim (or_cases (eqb c b) (is_in b bs) g.there) [ inl y ↦ absurd (true≢false (sym y ∙ off)) | inr y ↦ y ];
            gives = g.gives;
            once = λ e l z m f. g.once e l z (later_in c e bs m) f;
          }))
    ]
  where
    first_in : (b : ℕ) (bs : List ℕ) → is_in b (b ∷ bs) ≡ true
    first_in b bs = ap (λ v. v || is_in b bs) (eq-eqb b b refl)

    later_in : (b c : ℕ) (bs : List ℕ) → is_in c bs ≡ true → is_in c (b ∷ bs) ≡ true
    later_in b c bs m = elim (eqb b c) as (λ v. (v || is_in c bs) ≡ true) [ true ↦ refl | false ↦ m ]

-- a block of the list is a row block
listed : (sh : Shape) (Q : List Record) (o b : ℕ) → is_in b (scan_list sh Q o) ≡ true → IsRowBlock sh Q o b
listed sh Q o b h = let r = in_filter (λ c. is_formatted sh Q c) b (under_high sh Q o) h in record { here = contains_in (under_high sh Q o) b r.0; formatted = r.1 }

scan_each : (sh : Shape) (Q : List Record) (o t : ℕ) (read : ℕ → List Record) → AreAllowed sh Q → IsTable Q o → IsOpen Q t → ((b : ℕ) → IsRowBlock sh Q o b → IsReadAfter sh Q (read b) t b) → (n : ℕ) → numbered n (scanned read (scan_list sh Q o) (commit_count Q) t) ≡ option_to_list (view Q o (commit_count Q) t n)
scan_each sh Q o t read h table open' later n =
    let s = commit_count Q in
    let d = rows_are_spread sh Q o s t h table (le_refl s) open' in
    let stays : (b k : ℕ) → is_in b (scan_list sh Q o) ≡ true → row_at (read b) b k s t ≡ row_at Q b k s t = λ b k m. let r = later b (listed sh Q o b m) in blocks_stay sh Q (read b) b k s t r.allowed (le_refl s) r.later in
    (elim (view Q o s t n) as (λ v. view Q o s t n ≡ v → numbered n (scanned read (scan_list sh Q o) s t) ≡ option_to_list v) [
      | None ↦ λ e. none_scanned read (scan_list sh Q o) s t n (λ b k x m f.
          let seen : view Q o s t n ≡ Some x = d.viewed b k n x (listed sh Q o b m) (sym (stays b k m) ∙ f) in
          absurd (let z : ◌≡◌ {A = Option (List ℕ)} None (Some x) = sym e ∙ seen in cc))
      | Some x ↦ λ e.
          let g = d.given n x e in
          let m = filter_has (λ c. is_formatted sh Q c) g.block (under_high sh Q o) (in_contains (under_high sh Q o) g.block g.here.here.0 g.here.here.1 g.here.here.2) g.here.formatted in
          one_scanned read (scan_list sh Q o) s t n g.block g.slot x (distinct_scan sh Q o (λ c. is_formatted sh Q c) h (a_table sh Q o (segments sh Q h) table)) (record {
            there = m;
            gives = stays g.block g.slot m ∙ g.gives;
            once = λ c l y k f. d.once c l g.block g.slot n y x (sym (stays c l k) ∙ f) g.gives;
          })
    ]) refl

pub scans_are_whole : ScansAreWhole
scans_are_whole sh Q o t read h table open' later =
    let each = scan_each sh Q o t read h table open' later in
    record { each = each; in_order = λ rows up same. ordered_view sh Q o t rows h table open' up (λ n. same n ∙ each n) }
