-- The page of the space bitmap: one induction over the list.
use Rattle.std.proofs.Common.{◌≡◌, ℕ, zero, suc, ◌+◌, ◌-◌, ◌*◌, ◌/◌, ◌%◌, ◌^◌, ◌<◌, ◌≤◌, Bool, true, false, cond, not, ◌&&◌, ◌||◌, eqb, List, [], ◌∷◌, length, take, drop, map, replicate, slice_index, Option, refl, sym, ap, ap₂, ◌∙◌, subst, inl, inr, arith}
use Rattle.std.specs.Prelude.{◌==◌}
use Rattle.std.proofs.lemmas.Bool.{cases_Bool, eqb-true, eqb-false, eq-eqb, cond-true, or_right, and_parts}
use Rattle.std.proofs.Math.Nat.{zero-div}
use Rattle.seg_words.specs.Types.{MOST_TABLES}
use Rattle.seg_base.specs.declared.shape.Shape.{Shape}
use Rattle.seg_base.specs.Places.{is_shape, is_extent}
use Rattle.segment_blocks.specs.Spaces.{Space as SpacePage, is_used, with_extent}
use Rattle.redo_record.specs.declared.record.Record.{Record}
use Rattle.redo_record.specs.declared.record.Record.TheVariants.{Table, Movement, Extend, FormatBlock, Class, Advance, Lower, Begin, Reuse, Insert, Update, Migrate, Return, Delete, Commit, Back, Ended, Move, Clean}
use Rattle.redo_record.specs.declared.space.ExtendRecord.{ExtendRecord}
use Rattle.redo_record.specs.declared.space.LowerRecord.{LowerRecord}
use Rattle.redo_model.specs.Ordinals.{lowering_count}
use Rattle.redo_model.specs.Segments.{Extent, extents_of, has_extent, is_taken}
use Rattle.redo_model.specs.Lawful.{AreAllowed}
use Rattle.redo_laws.specs.Among.{is_in}
use Rattle.redo_laws.proofs.numbers.Bounds.{limits}
use Rattle.redo_laws.proofs.space.ApartLaw.{placed}
use Rattle.redo_laws.proofs.space.Places.{segments, a_table}
use Rattle.space_laws.proofs.ExtentsLaw.{lowers_free_what_they_name}
use Rattle.page_set.specs.declared.page.Page.{Page}
use Rattle.page_set.specs.declared.page.Page.TheVariants as pages
use Rattle.page_set.specs.Spaces.{AreCovered, freed}
use Rattle.page_set.specs.Pages.{dba_of}
use Rattle.page_set.specs.Started.{or_kept, as_space}
use Rattle.page_set.specs.Changes.{page_after}
use Rattle.page_set.specs.Folded.{page_of}
use Rattle.page_set.proofs.SaysLaw.{says, dba_says}
use Rattle.page_fit.proofs.LowPages.{low_of, low_apart, near_three, untouched}
use Rattle.page_fit.proofs.FitLaw.{few_extents, covered, has_dropped}
use Rattle.page_says.specs.Space.{SpaceSays, NothingTaken, SaysSpace, SpacesSay}
use Rattle.page_says.proofs.Bits.{used_same, used_other, extent_count, freed_count, freed_used}
use Rattle.page_says.proofs.Taken.{taken_same, taken_extend}

none_used : (n i : ℕ) → slice_index (replicate n 0) i ≡ 0
none_used zero i = refl
none_used (suc n) zero = refl
none_used (suc n) (suc i) = none_used n i

unused : (x : ℕ) → is_used (replicate 256 0) x ≡ false
unused x = ap (λ (b : ℕ). b / 2 ^ (7 - x % 8) % 2 == 1) (none_used 256 (x / 8)) ∙ ap (λ (n : ℕ). n % 2 == 1) (zero-div (2 ^ (7 - x % 8)))

none_taken : (R : List Record) (n x : ℕ) → NothingTaken R → is_taken R n x ≡ false
none_taken R zero x h = refl
none_taken R (suc n) x h = ap₂ (λ (es : List Extent) (b : Bool). has_extent es x || b) (h.extents (suc n)) (none_taken R n x h)

or_none : (a : Bool) → (a || false) ≡ a
or_none true = refl
or_none false = refl

-- a record that changes no extents
kept : (R S : List Record) (p : Page) → lowering_count S ≡ lowering_count R → ((o : ℕ) → extents_of S o ≡ extents_of R o) → SaysSpace R p → SaysSpace S p
kept R S (pages.Zero x) c e h = record { lowerings = c ∙ h.lowerings; extents = λ o. e o ∙ h.extents o }
kept R S (pages.Checkpoint x) c e h = absurd h
kept R S (pages.Txns x) c e h = absurd h
kept R S (pages.Catalogue x) c e h = absurd h
kept R S (pages.Space x) c e h = record { count = h.count; lowerings = h.lowerings ∙ sym c; used = λ y lt. h.used y lt ∙ sym (taken_same R S MOST_TABLES y e) }
kept R S (pages.Undo x) c e h = absurd h
kept R S (pages.First x) c e h = absurd h
kept R S (pages.Second x) c e h = absurd h
kept R S (pages.Third x) c e h = absurd h
kept R S (pages.Header x) c e h = absurd h
kept R S (pages.Rows x) c e h = absurd h

-- an extent that a table gets
extended : (R : List Record) (e : ExtendRecord) (lsn : ℕ) (s : SpacePage) → 1 ≤ e.obj → e.obj ≤ MOST_TABLES → e.extent < 2043 → SpaceSays R s → SpaceSays (Extend e ∷ R) (record s { bits = with_extent s.bits e.extent true; lsn = lsn })
extended R e lsn s one most lt h = record {
  count = extent_count s.bits e.extent true ∙ h.count;
  lowerings = h.lowerings;
  used = λ x few. elim (cases_Bool (eqb e.extent x)) [
    | inl y ↦
        let same : e.extent ≡ x = eqb-true e.extent x y in
        ap (is_used (with_extent s.bits e.extent true)) (sym same) ∙ used_same s.bits e.extent true h.count lt ∙ sym (taken_extend R e MOST_TABLES x one most ∙ or_right (is_taken R MOST_TABLES x) (eqb e.extent x) y)
    | inr n ↦ used_other s.bits e.extent x true h.count lt (λ k. eqb-false e.extent x n (sym k)) ∙ h.used x few ∙ sym (taken_extend R e MOST_TABLES x one most ∙ ap (λ (b : Bool). is_taken R MOST_TABLES x || b) n ∙ or_none (is_taken R MOST_TABLES x))
  ];
}

extent_says : (R : List Record) (e : ExtendRecord) (lsn : ℕ) (p : Page) → 1 ≤ e.obj → e.obj ≤ MOST_TABLES → e.extent < 2043 → SaysSpace R p → SaysSpace (Extend e ∷ R) (page_after (Extend e) lsn (or_kept (as_space p) p))
extent_says R e lsn (pages.Zero x) one most lt h = extended R e lsn (record { dba = x; lsn = 0; lowerings = 0; bits = replicate 256 0 }) one most lt (record { count = refl; lowerings = sym h.lowerings; used = λ y few. unused y ∙ sym (none_taken R MOST_TABLES y h) })
extent_says R e lsn (pages.Checkpoint x) one most lt h = absurd h
extent_says R e lsn (pages.Txns x) one most lt h = absurd h
extent_says R e lsn (pages.Catalogue x) one most lt h = absurd h
extent_says R e lsn (pages.Space x) one most lt h = extended R e lsn x one most lt h
extent_says R e lsn (pages.Undo x) one most lt h = absurd h
extent_says R e lsn (pages.First x) one most lt h = absurd h
extent_says R e lsn (pages.Second x) one most lt h = absurd h
extent_says R e lsn (pages.Third x) one most lt h = absurd h
extent_says R e lsn (pages.Header x) one most lt h = absurd h
extent_says R e lsn (pages.Rows x) one most lt h = absurd h

lower_says : (sh : Shape) (R : List Record) (l : LowerRecord) (lsn : ℕ) (p : Page) → AreAllowed sh (Lower l ∷ R) → AreCovered l.released → SaysSpace R p → SaysSpace (Lower l ∷ R) (page_after (Lower l) lsn p)
lower_says sh R l lsn (pages.Zero x) a c h = absurd (let n : length (extents_of R l.obj) ≡ 0 = ap (λ (es : List Extent). length es) (h.extents l.obj) in let k = a.1.kind.not_none in omega (arith, n, k))
lower_says sh R l lsn (pages.Checkpoint x) a c h = absurd h
lower_says sh R l lsn (pages.Txns x) a c h = absurd h
lower_says sh R l lsn (pages.Catalogue x) a c h = absurd h
lower_says sh R l lsn (pages.Space x) a c h = record {
  count = freed_count l.released x.bits ∙ h.count;
  lowerings = a.1.kind.lowering;
  used = λ y lt. freed_used l.released x.bits y h.count c ∙ ap (λ (b : Bool). b && not (is_in y l.released)) (h.used y lt) ∙ sym (lowers_free_what_they_name sh R l y a).of_all;
}
lower_says sh R l lsn (pages.Undo x) a c h = absurd h
lower_says sh R l lsn (pages.First x) a c h = absurd h
lower_says sh R l lsn (pages.Second x) a c h = absurd h
lower_says sh R l lsn (pages.Third x) a c h = absurd h
lower_says sh R l lsn (pages.Header x) a c h = absurd h
lower_says sh R l lsn (pages.Rows x) a c h = absurd h

space_step : (sh : Shape) (R : List Record) (r : Record) → is_shape sh ≡ true → AreAllowed sh (r ∷ R) → SaysSpace R (page_of sh R 3) → SaysSpace (r ∷ R) (page_of sh (r ∷ R) 3)
space_step sh R (Extend e) s h x =
    let p = page_of sh R 3 in
    let k = h.1.kind in
    let dba : dba_of p ≡ 3 = dba_says R 3 p (says sh R 3) in
    let n = a_table sh R e.obj (segments sh R h.0) k.table in
    let lt = few_extents sh e.extent (limits sh s) ((and_parts (is_extent sh e.extent) _ k.extent.free).0) in
    subst (SaysSpace (Extend e ∷ R)) (ap (λ (q : Option Page). page_after (Extend e) (suc (length R)) (or_kept q p)) (sym (cond-true _ _ _ (eq-eqb (dba_of p) 3 dba)))) (extent_says R e (suc (length R)) p n.least n.most lt x)
space_step sh R (Lower l) s h x =
    let whole = (placed sh R l.obj h.0).whole in
    let c : AreCovered l.released = subst AreCovered (sym h.1.kind.released) (covered sh (drop l.kept (extents_of R l.obj)) (limits sh s) (λ y k. whole y (has_dropped l.kept (extents_of R l.obj) y k))) in
    lower_says sh R l (suc (length R)) (page_of sh R 3) h c x
space_step sh R (Table r) s h x = subst (SaysSpace (Table r ∷ R)) (untouched sh R (Table r) 3 (low_apart sh R (Table r) 3 s h near_three (λ (e : 3 ≡ low_of (Table r)). omega (arith, e)))) (kept R (Table r ∷ R) (page_of sh R 3) refl (λ o. refl) x)
space_step sh R (Movement r) s h x = subst (SaysSpace (Movement r ∷ R)) (untouched sh R (Movement r) 3 (low_apart sh R (Movement r) 3 s h near_three (λ (e : 3 ≡ low_of (Movement r)). omega (arith, e)))) (kept R (Movement r ∷ R) (page_of sh R 3) refl (λ o. refl) x)
space_step sh R (FormatBlock r) s h x = subst (SaysSpace (FormatBlock r ∷ R)) (untouched sh R (FormatBlock r) 3 (low_apart sh R (FormatBlock r) 3 s h near_three (λ (e : 3 ≡ low_of (FormatBlock r)). omega (arith, e)))) (kept R (FormatBlock r ∷ R) (page_of sh R 3) refl (λ o. refl) x)
space_step sh R (Class r) s h x = subst (SaysSpace (Class r ∷ R)) (untouched sh R (Class r) 3 (low_apart sh R (Class r) 3 s h near_three (λ (e : 3 ≡ low_of (Class r)). omega (arith, e)))) (kept R (Class r ∷ R) (page_of sh R 3) refl (λ o. refl) x)
space_step sh R (Advance r) s h x = subst (SaysSpace (Advance r ∷ R)) (untouched sh R (Advance r) 3 (low_apart sh R (Advance r) 3 s h near_three (λ (e : 3 ≡ low_of (Advance r)). omega (arith, e)))) (kept R (Advance r ∷ R) (page_of sh R 3) refl (λ o. refl) x)
space_step sh R (Begin r) s h x = subst (SaysSpace (Begin r ∷ R)) (untouched sh R (Begin r) 3 (low_apart sh R (Begin r) 3 s h near_three (λ (e : 3 ≡ low_of (Begin r)). omega (arith, e)))) (kept R (Begin r ∷ R) (page_of sh R 3) refl (λ o. refl) x)
space_step sh R (Reuse r) s h x = subst (SaysSpace (Reuse r ∷ R)) (untouched sh R (Reuse r) 3 (low_apart sh R (Reuse r) 3 s h near_three (λ (e : 3 ≡ low_of (Reuse r)). omega (arith, e)))) (kept R (Reuse r ∷ R) (page_of sh R 3) refl (λ o. refl) x)
space_step sh R (Insert r) s h x = subst (SaysSpace (Insert r ∷ R)) (untouched sh R (Insert r) 3 (low_apart sh R (Insert r) 3 s h near_three (λ (e : 3 ≡ low_of (Insert r)). omega (arith, e)))) (kept R (Insert r ∷ R) (page_of sh R 3) refl (λ o. refl) x)
space_step sh R (Update r) s h x = subst (SaysSpace (Update r ∷ R)) (untouched sh R (Update r) 3 (low_apart sh R (Update r) 3 s h near_three (λ (e : 3 ≡ low_of (Update r)). omega (arith, e)))) (kept R (Update r ∷ R) (page_of sh R 3) refl (λ o. refl) x)
space_step sh R (Migrate r) s h x = subst (SaysSpace (Migrate r ∷ R)) (untouched sh R (Migrate r) 3 (low_apart sh R (Migrate r) 3 s h near_three (λ (e : 3 ≡ low_of (Migrate r)). omega (arith, e)))) (kept R (Migrate r ∷ R) (page_of sh R 3) refl (λ o. refl) x)
space_step sh R (Return r) s h x = subst (SaysSpace (Return r ∷ R)) (untouched sh R (Return r) 3 (low_apart sh R (Return r) 3 s h near_three (λ (e : 3 ≡ low_of (Return r)). omega (arith, e)))) (kept R (Return r ∷ R) (page_of sh R 3) refl (λ o. refl) x)
space_step sh R (Delete r) s h x = subst (SaysSpace (Delete r ∷ R)) (untouched sh R (Delete r) 3 (low_apart sh R (Delete r) 3 s h near_three (λ (e : 3 ≡ low_of (Delete r)). omega (arith, e)))) (kept R (Delete r ∷ R) (page_of sh R 3) refl (λ o. refl) x)
space_step sh R (Commit r) s h x = subst (SaysSpace (Commit r ∷ R)) (untouched sh R (Commit r) 3 (low_apart sh R (Commit r) 3 s h near_three (λ (e : 3 ≡ low_of (Commit r)). omega (arith, e)))) (kept R (Commit r ∷ R) (page_of sh R 3) refl (λ o. refl) x)
space_step sh R (Back r) s h x = subst (SaysSpace (Back r ∷ R)) (untouched sh R (Back r) 3 (low_apart sh R (Back r) 3 s h near_three (λ (e : 3 ≡ low_of (Back r)). omega (arith, e)))) (kept R (Back r ∷ R) (page_of sh R 3) refl (λ o. refl) x)
space_step sh R (Ended r) s h x = subst (SaysSpace (Ended r ∷ R)) (untouched sh R (Ended r) 3 (low_apart sh R (Ended r) 3 s h near_three (λ (e : 3 ≡ low_of (Ended r)). omega (arith, e)))) (kept R (Ended r ∷ R) (page_of sh R 3) refl (λ o. refl) x)
space_step sh R (Move r) s h x = subst (SaysSpace (Move r ∷ R)) (untouched sh R (Move r) 3 (low_apart sh R (Move r) 3 s h near_three (λ (e : 3 ≡ low_of (Move r)). omega (arith, e)))) (kept R (Move r ∷ R) (page_of sh R 3) refl (λ o. refl) x)
space_step sh R (Clean r) s h x = subst (SaysSpace (Clean r ∷ R)) (untouched sh R (Clean r) 3 (low_apart sh R (Clean r) 3 s h near_three (λ (e : 3 ≡ low_of (Clean r)). omega (arith, e)))) (kept R (Clean r ∷ R) (page_of sh R 3) refl (λ o. refl) x)

pub spaces_say : SpacesSay
spaces_say sh [] s h = record { lowerings = refl; extents = λ o. refl }
spaces_say sh (r ∷ R) s h = space_step sh R r s h (spaces_say sh R s h.0)
