-- What a search for a block gives.
use Rattle.std.proofs.Common.{◌≡◌, ℕ, zero, suc, ◌+◌, ◌<◌, Bool, true, false, not, ◌&&◌, eqb, List, [], ◌∷◌, take, find, Option, Some, None, refl, sym, ◌∙◌, ap, subst, arith, inl, inr, eqb-true, eq-eqb, true≢false}
use Rattle.seg_words.proofs.Lemmas.{cond-true, cond-false, cases_Bool, and_parts, or_cases, not-true, or_left, or_right, position_or_len}
use Rattle.seg_words.specs.Types.{Shape, is_shape}
use Rattle.redo_model.specs.Records.{Record}
use Rattle.redo_model.specs.Model.{in_extent, data_blocks, high_mark, under_high, is_formatted, IsRowBlock, IsTable, pctfree_of, takes_row, AreAllowed}
use Rattle.redo_laws.specs.Among.{is_in}
use Rattle.redo_laws.proofs.allowed.AllKinds.{found_in}
use Rattle.redo_laws.proofs.lists.Bools.{off}
use Rattle.redo_laws.proofs.space.Places.{contains_in}
use Rattle.redo_laws.proofs.space.ApartLaw.{is_listed}
use Rattle.mark_laws.specs.declared.step.MarkStep.{MarkStep}
use Rattle.mark_laws.specs.declared.step.Found.{Found}
use Rattle.mark_laws.specs.Movements.{next_mark, NoMark}
use Rattle.mark_laws.specs.Searches.{Sought, is_left_out, is_usable, is_good, is_good_in, first_hinted, block_or, mark_or, find_of, IsFirst, HasNone, NoneHinted, IsHinted, IsRefused, SearchGives, SearchesMean, TakesIt, FoundTakes}
use Rattle.mark_laws.proofs.Numbers.{none_not_some, some_same}
use Rattle.mark_laws.proofs.MovementsLaw.{next_marks_mean}

-- the first of a list

none_in : (p : ℕ → Bool) (bs : List ℕ) (b : ℕ) → find p bs ≡ None → is_in b bs ≡ true → p b ≡ false
none_in p [] b h m = absurd (true≢false (sym m))
none_in p (c ∷ bs) b h m = elim (cases_Bool (p c)) [
  | inl y ↦ absurd (none_not_some c (sym h ∙ cond-true _ _ _ y))
  | inr n ↦ elim (or_cases (eqb c b) (is_in b bs) m) [
    | inl e ↦ subst (λ x. p x ≡ false) (eqb-true c b e) n
    | inr z ↦ none_in p bs b (sym (cond-false _ _ _ n) ∙ h) z
  ]
]

none_found : (p : ℕ → Bool) (bs : List ℕ) → ((b : ℕ) → is_in b bs ≡ true → p b ≡ false) → find p bs ≡ None
none_found p [] h = refl
none_found p (b ∷ bs) h = cond-false _ _ _ (h b (or_left (eqb b b) _ (eq-eqb b b refl))) ∙ none_found p bs (λ c m. h c (or_right (eqb b c) _ m))

abbrev place_of : List ℕ → ℕ → ℕ
place_of bs b = position_or_len (λ c. eqb c b) bs

place_here : (b c : ℕ) (bs : List ℕ) → eqb b c ≡ true → place_of (b ∷ bs) c ≡ 0
place_here b c bs h = rw h refl

place_past : (b c : ℕ) (bs : List ℕ) → eqb b c ≡ false → place_of (b ∷ bs) c ≡ suc (place_of bs c)
place_past b c bs h = rw h (let z : 1 + place_of bs c ≡ suc (place_of bs c) = omega arith in z)

-- what stands before the first that passes doesn't pass
before_found : (p : ℕ → Bool) (n : ℕ) (bs : List ℕ) (b c : ℕ) → find p (take n bs) ≡ Some b → is_in c (take n bs) ≡ true → place_of bs c < place_of bs b → p c ≡ false
before_found p zero bs b c h m l = absurd (none_not_some b h)
before_found p (suc n) [] b c h m l = absurd (none_not_some b h)
before_found p (suc n) (x ∷ bs) b c h m l = elim (cases_Bool (p x)) [
  | inl y ↦
      let same : x ≡ b = some_same x b (sym (cond-true _ _ _ y) ∙ h) in
      let at = place_here x b bs (eq-eqb x b same) in
      absurd (omega (arith, at, l))
  | inr f ↦ elim (cases_Bool (eqb x c)) [
    | inl e ↦ subst (λ z. p z ≡ false) (eqb-true x c e) f
    | inr e ↦ elim (cases_Bool (eqb x b)) [
      | inl g ↦ (let at = place_here x b bs g in absurd (omega (arith, at, l)))
      | inr g ↦
          let k = place_past x c bs e in
          let j = place_past x b bs g in
          let rest : is_in c (take n bs) ≡ true = elim (or_cases (eqb x c) (is_in c (take n bs)) m) [ inl z ↦ absurd (true≢false (sym z ∙ e)) | inr z ↦ z ] in
          before_found p n bs b c (sym (cond-false _ _ _ f) ∙ h) rest (omega (arith, k, j, l))
    ]
  ]
]

-- row blocks

row_block : (sh : Shape) (R : List Record) (o b : ℕ) → is_in b (under_high sh R o) ≡ true → is_formatted sh R b ≡ true → IsRowBlock sh R o b
row_block sh R o b m f = record { here = contains_in (under_high sh R o) b m; formatted = f }

listed : (sh : Shape) (R : List Record) (o b : ℕ) → IsRowBlock sh R o b → is_in b (under_high sh R o) ≡ true
listed sh R o b r = is_listed (under_high sh R o) b r.here

-- only formatted blocks pass
abbrev Formatted : Shape → List Record → (ℕ → Bool) → Type 0
Formatted sh R p = (b : ℕ) → p b ≡ true → is_formatted sh R b ≡ true

usable_formatted : (sh : Shape) (R : List Record) (q : Sought) → Formatted sh R (is_usable sh R q)
usable_formatted sh R q b h = (and_parts (is_formatted sh R b) _ (and_parts (is_formatted sh R b && not (is_left_out q.but b)) _ h).0).0

good_usable : (sh : Shape) (R : List Record) (q : Sought) (b : ℕ) → is_good sh R q b ≡ true → is_usable sh R q b ≡ true
good_usable sh R q b h = (and_parts _ (is_usable sh R q b) h).1

good_formatted : (sh : Shape) (R : List Record) (q : Sought) → Formatted sh R (is_good sh R q)
good_formatted sh R q b h = usable_formatted sh R q b (good_usable sh R q b h)

hinted_good : (sh : Shape) (R : List Record) (q : Sought) (x b : ℕ) → is_good_in sh R q x b ≡ true → is_good sh R q b ≡ true
hinted_good sh R q x b h = (and_parts (in_extent sh x b) (is_good sh R q b) h).1

hinted_formatted : (sh : Shape) (R : List Record) (q : Sought) (x : ℕ) → Formatted sh R (is_good_in sh R q x)
hinted_formatted sh R q x b h = good_formatted sh R q b (hinted_good sh R q x b h)

first_is : (sh : Shape) (R : List Record) (o : ℕ) (p : ℕ → Bool) (b : ℕ) → Formatted sh R p → find p (under_high sh R o) ≡ Some b → IsFirst sh R o p b
first_is sh R o p b f h =
    let r = found_in p (under_high sh R o) b h in
    record {
      here = row_block sh R o b r.0 (f b r.1);
      passes = r.1;
      first = λ c k l. before_found p (high_mark R o) (data_blocks sh R o) b c h (listed sh R o c k) l;
    }

has_none : (sh : Shape) (R : List Record) (o : ℕ) (p : ℕ → Bool) → find p (under_high sh R o) ≡ None → HasNone sh R o p
has_none sh R o p h b r = none_in p (under_high sh R o) b h (listed sh R o b r)

none_there : (sh : Shape) (R : List Record) (o : ℕ) (p : ℕ → Bool) → Formatted sh R p → HasNone sh R o p → find p (under_high sh R o) ≡ None
none_there sh R o p f h = none_found p (under_high sh R o) (λ b m. off (p b) (λ y. true≢false (sym y ∙ h b (row_block sh R o b m (f b y)))))

-- step by step

hinted : (sh : Shape) (R : List Record) (q : Sought) (hint : Option ℕ) (b : ℕ) → first_hinted sh R q hint ≡ Some b → IsHinted sh R q hint b
hinted sh R q None b h = absurd (none_not_some b h)
hinted sh R q (Some x) b h = first_is sh R q.obj (is_good_in sh R q x) b (hinted_formatted sh R q x) h

none_hinted : (sh : Shape) (R : List Record) (q : Sought) (hint : Option ℕ) → first_hinted sh R q hint ≡ None → NoneHinted sh R q hint
none_hinted sh R q None h = tt
none_hinted sh R q (Some x) h = has_none sh R q.obj (is_good_in sh R q x) h

last_gives : (sh : Shape) (R : List Record) (q : Sought) (hint : Option ℕ) (u : Option ℕ) → HasNone sh R q.obj (is_good sh R q) → NoMark sh R q.obj → find (is_usable sh R q) (under_high sh R q.obj) ≡ u → SearchGives sh R q hint (block_or u None)
last_gives sh R q hint (Some b) g m h = inr (inr (record { none_good = g; no_mark = m; first = first_is sh R q.obj (is_usable sh R q) b (usable_formatted sh R q) h }))
last_gives sh R q hint None g m h = record { none_takes = has_none sh R q.obj (is_usable sh R q) h; no_mark = m }

abbrev then_last : Shape → List Record → Sought → Option Found
then_last sh R q = block_or (find (is_usable sh R q) (under_high sh R q.obj)) None

mark_gives : (sh : Shape) (R : List Record) (q : Sought) (hint : Option ℕ) (u : Option MarkStep) → is_shape sh ≡ true → AreAllowed sh R → IsTable R q.obj → HasNone sh R q.obj (is_good sh R q) → next_mark sh R q.obj ≡ u → SearchGives sh R q hint (mark_or u (then_last sh R q))
mark_gives sh R q hint (Some m) s a t g h = record { none_good = g; next = (next_marks_mean sh R q.obj s a t).is m h }
mark_gives sh R q hint None s a t g h = last_gives sh R q hint (find (is_usable sh R q) (under_high sh R q.obj)) g ((next_marks_mean sh R q.obj s a t).none h) refl

abbrev then_mark : Shape → List Record → Sought → Option Found
then_mark sh R q = mark_or (next_mark sh R q.obj) (then_last sh R q)

good_gives : (sh : Shape) (R : List Record) (q : Sought) (hint : Option ℕ) (u : Option ℕ) → is_shape sh ≡ true → AreAllowed sh R → IsTable R q.obj → NoneHinted sh R q hint → find (is_good sh R q) (under_high sh R q.obj) ≡ u → SearchGives sh R q hint (block_or u (then_mark sh R q))
good_gives sh R q hint (Some b) s a t n h = inr (inl (record { none_hinted = n; first = first_is sh R q.obj (is_good sh R q) b (good_formatted sh R q) h }))
good_gives sh R q hint None s a t n h = mark_gives sh R q hint (next_mark sh R q.obj) s a t (has_none sh R q.obj (is_good sh R q) h) refl

abbrev then_good : Shape → List Record → Sought → Option Found
then_good sh R q = block_or (find (is_good sh R q) (under_high sh R q.obj)) (then_mark sh R q)

hint_gives : (sh : Shape) (R : List Record) (q : Sought) (hint : Option ℕ) (u : Option ℕ) → is_shape sh ≡ true → AreAllowed sh R → IsTable R q.obj → first_hinted sh R q hint ≡ u → SearchGives sh R q hint (block_or u (then_good sh R q))
hint_gives sh R q hint (Some b) s a t h = inl (hinted sh R q hint b h)
hint_gives sh R q hint None s a t h = good_gives sh R q hint (find (is_good sh R q) (under_high sh R q.obj)) s a t (none_hinted sh R q hint h) refl

-- the exact refusal

no_hinted : (sh : Shape) (R : List Record) (q : Sought) (hint : Option ℕ) → HasNone sh R q.obj (is_usable sh R q) → first_hinted sh R q hint ≡ None
no_hinted sh R q None h = refl
no_hinted sh R q (Some x) h = none_there sh R q.obj (is_good_in sh R q x) (hinted_formatted sh R q x) (λ b r. off (is_good_in sh R q x b) (λ y. true≢false (sym (good_usable sh R q b (hinted_good sh R q x b y)) ∙ h b r)))

no_good : (sh : Shape) (R : List Record) (q : Sought) → HasNone sh R q.obj (is_usable sh R q) → find (is_good sh R q) (under_high sh R q.obj) ≡ None
no_good sh R q h = none_there sh R q.obj (is_good sh R q) (good_formatted sh R q) (λ b r. off (is_good sh R q b) (λ y. true≢false (sym (good_usable sh R q b y) ∙ h b r)))

no_last : (sh : Shape) (R : List Record) (q : Sought) → HasNone sh R q.obj (is_usable sh R q) → then_last sh R q ≡ None
no_last sh R q h = ap (λ (u : Option ℕ). block_or u None) (none_there sh R q.obj (is_usable sh R q) (usable_formatted sh R q) h)

refused : (sh : Shape) (R : List Record) (q : Sought) (hint : Option ℕ) → is_shape sh ≡ true → AreAllowed sh R → IsTable R q.obj → IsRefused sh R q → find_of sh R q hint ≡ None
refused sh R q hint s a t h =
    ap (λ (u : Option ℕ). block_or u (then_good sh R q)) (no_hinted sh R q hint h.none_takes)
    ∙ ap (λ (u : Option ℕ). block_or u (then_mark sh R q)) (no_good sh R q h.none_takes)
    ∙ ap (λ (u : Option MarkStep). mark_or u (then_last sh R q)) ((next_marks_mean sh R q.obj s a t).refused h.no_mark)
    ∙ no_last sh R q h.none_takes

pub searches_mean : SearchesMean
searches_mean sh R q hint s a t = record { gives = hint_gives sh R q hint (first_hinted sh R q hint) s a t refl; refused = refused sh R q hint s a t }

-- a block that was found

usable_takes : (sh : Shape) (R : List Record) (q : Sought) (b : ℕ) → IsRowBlock sh R q.obj b → is_usable sh R q b ≡ true → TakesIt sh R q b
usable_takes sh R q b r h =
    let p = and_parts (is_formatted sh R b && not (is_left_out q.but b)) (takes_row R (pctfree_of R q.obj) b q.len q.taker) h in
    record { here = r; takes = p.1; another = not-true (is_left_out q.but b) (and_parts (is_formatted sh R b) (not (is_left_out q.but b)) p.0).1 }

hinted_takes : (sh : Shape) (R : List Record) (q : Sought) (hint : Option ℕ) (b : ℕ) → IsHinted sh R q hint b → TakesIt sh R q b
hinted_takes sh R q None b h = absurd h
hinted_takes sh R q (Some x) b h = usable_takes sh R q b h.here (good_usable sh R q b (hinted_good sh R q x b h.passes))

pub found_takes : FoundTakes
found_takes sh R q hint b s a t h = elim (subst (SearchGives sh R q hint) h (searches_mean sh R q hint s a t).gives) [
  | inl k ↦ hinted_takes sh R q hint b k
  | inr w ↦ elim w [
    | inl k ↦ usable_takes sh R q b k.first.here (good_usable sh R q b k.first.passes)
    | inr k ↦ usable_takes sh R q b k.first.here k.first.passes
  ]
]
