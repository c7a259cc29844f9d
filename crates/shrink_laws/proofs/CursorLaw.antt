-- The cursor of a shrink.
use Rattle.std.proofs.Common.{◌≡◌, ◌⊎◌, ℕ, suc, ◌+◌, ◌≤◌, ◌<◌, true, false, cond, ltb, List, [], ◌∷◌, ◌++◌, length, Option, Some, None, refl, sym, ◌∙◌, ap, subst, arith, inl, inr, le_trans, le_refl, slice_get, ltb-true, ltb-false}
use Rattle.seg_words.proofs.Lemmas.{or_left, or_right, or_cases, cases_Bool}
use Rattle.seg_words.specs.Types.{Shape, By}
use Rattle.redo_model.specs.Records.{Record, ReuseRecord}
use Rattle.redo_model.specs.Model.{prefix, effect_of, is_active, is_place, image, data_blocks, is_formatted}
use Rattle.redo_laws.proofs.lists.Prefixes.{prefix_all, prefix_more}
use Rattle.redo_laws.proofs.lists.Since.{since_more, each_since}
use Rattle.shrink_laws.specs.declared.skip.Skip.{Skip}
use Rattle.shrink_laws.specs.Stops.{IsFull, row_image, is_skipped, is_named_by, is_named_since, IsPassed, IsAt, last_position, last_formatted, SkipsStand}
use Rattle.shrink_laws.specs.Cursor.{CursorStands, StepSkips, skip_of}
use Rattle.shrink_laws.specs.CursorLaws.{CursorStarts, CursorStays, CursorStaysSince, CursorGoesDown, SkippingKeeps, MovingKeeps, SkipsAreKept, StopsRightly, StopsRightlyAtBottom}
use Rattle.shrink_laws.specs.Grown.{lowers}
use Rattle.shrink_laws.proofs.GrownLaw.{append_more, append_none, get_front, blocks_grow}
use Rattle.shrink_laws.proofs.NamedLaw.{full_before}
use Rattle.redo_record.specs.declared.record.Record.TheVariants as made

-- what was passed stays passed

passed_more : (n : ℕ) (R : List Record) (r : Record) (skips : List Skip) (b k : ℕ) → n ≤ length R → IsPassed n R skips b k → IsPassed n (r ∷ R) skips b k
passed_more n R r skips b k l h =
    elim (or_cases (is_skipped skips b k) (is_named_since n R b k) h) [
      | inl y ↦ or_left (is_skipped skips b k) _ y
      | inr y ↦ or_right (is_skipped skips b k) _ (since_more (λ r. is_named_by (effect_of r) b k) n R r l ∙ or_right (is_named_by (effect_of r) b k) _ y)
    ]

passed_named : (n : ℕ) (R : List Record) (r : Record) (skips : List Skip) (b k : ℕ) → n ≤ length R → is_named_by (effect_of r) b k ≡ true → IsPassed n (r ∷ R) skips b k
passed_named n R r skips b k l y = or_right (is_skipped skips b k) _ (since_more (λ r. is_named_by (effect_of r) b k) n R r l ∙ or_left (is_named_by (effect_of r) b k) _ y)

-- positions

last_below : (sh : Shape) (B : List Record) (i was : ℕ) (bs : List ℕ) → (last_position sh B i was bs ≡ was) ⊎ (last_position sh B i was bs < i + length bs)
last_below sh B i was [] = inl refl
last_below sh B i was (b ∷ bs) =
    elim (is_formatted sh B b) as (λ v. (last_position sh B (suc i) (cond v i was) bs ≡ was) ⊎ (last_position sh B (suc i) (cond v i was) bs < i + suc (length bs))) [
      | true ↦ elim (last_below sh B (suc i) i bs) [ inl e ↦ inr (omega (arith, e)) | inr l ↦ inr (omega (arith, l)) ]
      | false ↦ elim (last_below sh B (suc i) was bs) [ inl e ↦ inl e | inr l ↦ inr (omega (arith, l)) ]
    ]

-- a position above another one, up to the last, is one of B
position_there : (sh : Shape) (B : List Record) (o n i : ℕ) → n < i → i ≤ last_formatted sh B o → i < length (data_blocks sh B o)
position_there sh B o n i l m = elim (last_below sh B 0 0 (data_blocks sh B o)) [ inl e ↦ absurd (omega (arith, l, m, e)) | inr k ↦ omega (arith, m, k) ]

at_same : (sh : Shape) (B R S : List Record) (o i b : ℕ) (far more : List ℕ) → data_blocks sh R o ≡ data_blocks sh B o ++ far → data_blocks sh S o ≡ data_blocks sh B o ++ more → i < length (data_blocks sh B o) → IsAt sh S o i b → IsAt sh R o i b
at_same sh B R S o i b far more e f l h =
    ap (λ (z : List ℕ). slice_get z i) e ∙ get_front (data_blocks sh B o) far i l ∙ sym (get_front (data_blocks sh B o) more i l) ∙ ap (λ (z : List ℕ). slice_get z i) (sym f) ∙ h

-- the cursor

pub cursor_starts : CursorStarts
cursor_starts sh B o = record {
  longer = le_refl (length B);
  far = [];
  grown = sym (append_none (data_blocks sh B o));
  within = le_refl (last_formatted sh B o);
  above = λ i b k l m a f. absurd (omega (arith, l, m));
}

pub cursor_stays : CursorStays
cursor_stays sh B R o skips cursor r e h =
    let g = blocks_grow sh R r o e in
    let now : data_blocks sh (r ∷ R) o ≡ data_blocks sh B o ++ (h.far ++ g.far) = g.is ∙ ap (λ (z : List ℕ). z ++ g.far) h.grown ∙ append_more (data_blocks sh B o) h.far g.far in
    record {
      longer = omega (arith, h.longer);
      far = h.far ++ g.far;
      grown = now;
      within = h.within;
      above = λ i b k l m a f.
          elim (cases_Bool (is_named_by (effect_of r) b k)) [
            | inl y ↦ passed_named (length B) R r skips b k h.longer y
            | inr n ↦ passed_more (length B) R r skips b k h.longer
                (h.above i b k l m (at_same sh B R (r ∷ R) o i b h.far (h.far ++ g.far) h.grown now (position_there sh B o cursor i l m) a)
                (full_before (effect_of r) b k (image R b k) n f))
          ];
    }

pub cursor_stays_since : CursorStaysSince
cursor_stays_since sh B Q R o skips cursor x n h = each_since (lowers o) (λ S. CursorStands sh B S o skips cursor) Q R x n h (λ S r y z m k. cursor_stays sh B S o skips cursor r m k)

above_or : (n i c : ℕ) → n < i → (i ≤ c) ⊎ (c < i)
above_or n i c l = elim (cases_Bool (ltb c i)) [ inl y ↦ inr (less c i y) | inr y ↦ inl (not_less c i y) ]
  where
    less : (c i : ℕ) → ltb c i ≡ true → c < i
    less c i y = ltb-true c i y

    not_less : (c i : ℕ) → ltb c i ≡ false → i ≤ c
    not_less c i y = ltb-false c i y

pub cursor_goes_down : CursorGoesDown
cursor_goes_down sh B R o skips cursor n l c h = record {
  longer = h.longer;
  far = h.far;
  grown = h.grown;
  within = le_trans l h.within;
  above = λ i b k m u a f. elim (above_or n i cursor m) [ inl y ↦ or_left (is_skipped skips b k) _ (c i b k m y a f) | inr y ↦ h.above i b k y u a f ];
}

skipped_more : (n : ℕ) (R : List Record) (skips : List Skip) (s : Skip) (b k : ℕ) → IsPassed n R skips b k → IsPassed n R (s ∷ skips) b k
skipped_more n R skips s b k h =
    elim (or_cases (is_skipped skips b k) (is_named_since n R b k) h) [
      | inl y ↦ or_left (is_skipped (s ∷ skips) b k) _ (or_right (is_place s.block s.slot b k) _ y)
      | inr y ↦ or_right (is_skipped (s ∷ skips) b k) _ y
    ]

cursor_skips : (sh : Shape) (B R : List Record) (o : ℕ) (skips : List Skip) (cursor place d k t : ℕ) → StepSkips sh R o skips cursor place d k t → CursorStands sh B R o skips cursor → CursorStands sh B R o (skip_of R d k t ∷ skips) place
cursor_skips sh B R o skips cursor place d k t s h =
    let g = cursor_goes_down sh B R o skips cursor place s.finds.down s.finds.cleared h in
    record {
      longer = g.longer;
      far = g.far;
      grown = g.grown;
      within = g.within;
      above = λ i b j m u a f. skipped_more (length B) R skips (skip_of R d k t) b j (g.above i b j m u a f);
    }

after_reuse : (sh : Shape) (B R M : List Record) (o : ℕ) (skips : List Skip) (cursor : ℕ) (q : Option ReuseRecord) → M ≡ elim q [ None ↦ R | Some x ↦ made.Reuse x ∷ R ] → CursorStands sh B R o skips cursor → CursorStands sh B M o skips cursor
after_reuse sh B R M o skips cursor None e h = subst (λ z. CursorStands sh B z o skips cursor) (sym e) h
after_reuse sh B R M o skips cursor (Some x) e h = subst (λ z. CursorStands sh B z o skips cursor) (sym e) (cursor_stays sh B R o skips cursor (made.Reuse x) refl h)

pub moving_keeps : MovingKeeps
moving_keeps sh B R R' o skips cursor place d k s h =
    let g = cursor_goes_down sh B R o skips cursor place s.finds.down s.finds.cleared h in
    subst (λ z. CursorStands sh B z o skips place) (sym s.adds) (cursor_stays sh B s.between o skips place (made.Move s.move) refl (after_reuse sh B R s.between o skips place s.reuse s.may g))

pub skips_are_kept : SkipsAreKept
skips_are_kept B R [] r h = tt
skips_are_kept B R (s ∷ ss) r h =
    let e : prefix R s.records ≡ prefix (r ∷ R) s.records = sym (prefix_more R r s.records h.0.to) in (
      record {
        from = h.0.from;
        to = omega (arith, h.0.to);
        full = subst (λ z. IsFull z s.block s.slot) e h.0.full;
        writer = subst (λ z. (row_image z s.block s.slot).writer ≡ By s.txn) e h.0.writer;
        active = subst (λ z. is_active z s.txn ≡ true) e h.0.active;
      },
      h.1,
      skips_are_kept B R ss r h.2,
    )

skips_more : (sh : Shape) (B R : List Record) (o : ℕ) (skips : List Skip) (cursor place d k t : ℕ) → StepSkips sh R o skips cursor place d k t → length B ≤ length R → SkipsStand B R skips → SkipsStand B R (skip_of R d k t ∷ skips)
skips_more sh B R o skips cursor place d k t s l h =
    let e : R ≡ prefix R (length R) = sym (prefix_all R (length R) (le_refl (length R))) in (
      record {
        from = l;
        to = le_refl (length R);
        full = subst (λ z. IsFull z d k) e s.finds.full;
        writer = subst (λ z. (row_image z d k).writer ≡ By t) e s.writer;
        active = subst (λ z. is_active z t ≡ true) e s.active;
      },
      s.finds.fresh,
      h,
    )

pub skipping_keeps : SkippingKeeps
skipping_keeps sh B R o skips cursor place d k t s h = record { cursor = cursor_skips sh B R o skips cursor place d k t s h; told = λ x. skips_more sh B R o skips cursor place d k t s h.longer x }

pub stops_rightly : StopsRightly
stops_rightly sh B R o skips cursor place d k s h =
    let g = cursor_goes_down sh B R o skips cursor place s.finds.down s.finds.cleared h in
    record {
      place = place;
      here = s.finds.here;
      not_first = s.finds.not_first;
      movable = record { full = s.finds.full; over = s.over };
      not_down = s.not_down;
      none_takes = s.none_takes;
      higher = λ i b j m u a f. g.above i b j m u a f.full;
      greater = λ j m f. or_left (is_skipped skips d j) _ (s.finds.greater j m f.full);
    }

pub stops_rightly_at_bottom : StopsRightlyAtBottom
stops_rightly_at_bottom sh B R o skips cursor c h =
    let g = cursor_goes_down sh B R o skips cursor 0 (omega arith) c h in
    λ i b k m u a f. g.above i b k m u a f.full
