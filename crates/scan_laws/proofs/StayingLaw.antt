-- Row blocks stay until they are released.
use Rattle.std.proofs.Common.{◌≡◌, ◌≢◌, ◌⊎◌, ℕ, suc, ◌+◌, ◌≤◌, Bool, true, false, cond, not, ◌&&◌, eqb, List, [], ◌∷◌, length, take, drop, refl, sym, ◌∙◌, ap, subst, arith, inl, inr, le_trans, eqb-true, eq-eqb, true≢false, leb-true, ltb-true, lt-ltb, le-leb}
use Rattle.seg_words.proofs.Lemmas.{and_from, and_parts, and_right, or_left, or_right, or_cases}
use Rattle.seg_words.specs.Types.{Shape, first_block}
use Rattle.redo_model.specs.Records.{Record, Extend, FormatBlock, Lower, LowerRecord}
use Rattle.redo_model.specs.Model.{Extends, Effect, effect_of, Extent, extents_of, data_of, has_extent, in_extent, data_blocks, high_mark, under_high, is_formatted, IsTable, LowerAllowed, IsKindAllowed, AreAllowed}
use Rattle.redo_model.specs.Lists.{same, more}
use Rattle.redo_model.specs.Effects.{Formats}
use Rattle.redo_laws.specs.Among.{is_in}
use Rattle.redo_laws.specs.Stays.{Later, not_later, one_later, IsNotOf, IsQuiet}
use Rattle.redo_laws.proofs.lists.Bools.{clash, off, both_off}
use Rattle.redo_laws.proofs.space.ApartLaw.{is_listed, numbers, number_in}
use Rattle.redo_laws.proofs.space.Places.{in_take, in_either, front_of, in_data, contains_in, extend_keeps, extend_out, format_first, same_extent, IsNumber, a_table, segments}
use Rattle.redo_laws.proofs.lists.Prefixes.{extends_length}
use Rattle.redo_laws.proofs.lists.Since.{since_more, since_none, each_since}
use Rattle.redo_laws.proofs.spread.SpreadLaw.{present_block}
use Rattle.space_laws.specs.Extents.{IsFreedBy}
use Rattle.space_laws.proofs.ExtentsLaw.{found_has, extents_stay, lowers_free_what_they_name}
use Rattle.space_laws.proofs.IncarnationsLaw.{before_step}
use Rattle.space_laws.proofs.TablesLaw.{tables_stay}
use Rattle.scan_laws.specs.Staying.{has_block, releases, RowBlocksStay, StaysSince, RowBlocksStaySince, IsGone, ReleasedAreGone, IncarnationsTellReleases, UnreleasedAreRead}

-- released extents

block_had : (sh : Shape) (xs : List ℕ) (x b : ℕ) → is_in x xs ≡ true → in_extent sh x b ≡ true → has_block sh xs b ≡ true
block_had sh [] x b i h = absurd (true≢false (sym i))
block_had sh (y ∷ xs) x b i h = elim (or_cases (eqb y x) (is_in x xs) i) [
  | inl e ↦ or_left (in_extent sh y b) _ (ap (λ z. in_extent sh z b) (eqb-true y x e) ∙ h)
  | inr z ↦ or_right (in_extent sh y b) _ (block_had sh xs x b z h)
]

had_block : (sh : Shape) (xs : List ℕ) (b : ℕ) → has_block sh xs b ≡ true → (x : ℕ) × (is_in x xs ≡ true) × (in_extent sh x b ≡ true)
had_block sh [] b h = absurd (true≢false (sym h))
had_block sh (y ∷ xs) b h = elim (or_cases (in_extent sh y b) (has_block sh xs b) h) [
  | inl e ↦ (y, or_left (eqb y y) _ (eq-eqb y y refl), e)
  | inr z ↦ let r = had_block sh xs b z in (r.0, or_right (eqb y r.0) _ r.1, r.2)
]

extent_same : (sh : Shape) (x y b : ℕ) → in_extent sh x b ≡ true → in_extent sh y b ≡ true → x ≡ y
extent_same sh x y b h k =
    let p = and_parts _ _ h in
    let q = and_parts _ _ k in
    same_extent sh x y b (leb-true (first_block sh x) b p.0) (ltb-true b (first_block sh x + sh.extent) p.1) (leb-true (first_block sh y) b q.0) (ltb-true b (first_block sh y + sh.extent) q.1)

-- a Lower keeps what it doesn't release

lower_keeps : (sh : Shape) (R : List Record) (l : LowerRecord) (o b : ℕ) → LowerAllowed sh R l → releases sh o b (Lower l) ≡ false → is_in b (data_blocks sh R o) ≡ true → is_in b (data_blocks sh (Lower l ∷ R) o) ≡ true
lower_keeps sh R l o b a n h =
    (elim (eqb l.obj o) as (λ v. eqb l.obj o ≡ v → is_in b (data_of sh 0 (cond v (take l.kept (extents_of R o)) (extents_of R o))) ≡ true) [
      | true ↦ λ y.
          elim (in_either b (data_of sh 0 (take l.kept (extents_of R o))) (data_of sh (0 + length (take l.kept (extents_of R o))) (drop l.kept (extents_of R o))) (ap (is_in b) (sym (front_of sh l.kept (extents_of R o))) ∙ h)) [
            | inl w ↦ w
            | inr w ↦
                let q = in_data sh (0 + length (take l.kept (extents_of R o))) (drop l.kept (extents_of R o)) b w in
                let here : in_extent sh q.extent b ≡ true = and_from _ _ (le-leb (first_block sh q.extent) b q.from) (lt-ltb b (first_block sh q.extent + sh.extent) q.to) in
                let mine : is_in q.extent l.released ≡ true = ap (is_in q.extent) (a.released ∙ ap (λ k. numbers (drop l.kept (extents_of R k))) (eqb-true l.obj o y)) ∙ number_in (drop l.kept (extents_of R o)) q.extent ∙ q.has in
                absurd (clash (releases sh o b (Lower l)) (and_from (eqb l.obj o) _ y (block_had sh l.released q.extent b mine here)) n)
          ]
      | false ↦ λ y. h
    ]) refl

whole_front : (xs : List ℕ) → take (length xs) xs ≡ xs
whole_front [] = refl
whole_front (x ∷ xs) = ap (λ (ys : List ℕ). x ∷ ys) (whole_front xs)

data_stays : (sh : Shape) (R : List Record) (r : Record) (o b : ℕ) → IsKindAllowed sh R r → releases sh o b r ≡ false → is_in b (data_blocks sh R o) ≡ true → is_in b (data_blocks sh (r ∷ R) o) ≡ true
data_stays sh R (Lower l) o b a n h = lower_keeps sh R l o b a n h
data_stays sh R (Extend e) o b a n h =
    in_take b (length (data_blocks sh R o)) (data_blocks sh (Extend e ∷ R) o)
    (extend_keeps sh R e o (length (data_blocks sh R o)) b (ap (is_in b) (whole_front (data_blocks sh R o)) ∙ h))
data_stays sh R _ o b a n h = h

formatted_stays : (sh : Shape) (R : List Record) (r : Record) (o b : ℕ) → IsKindAllowed sh R r → IsNumber o → is_in b (data_blocks sh R o) ≡ true → is_formatted sh R b ≡ true → is_formatted sh (r ∷ R) b ≡ true
formatted_stays sh R (FormatBlock f) o b a n h g = or_right (eqb f.dba b) _ g
formatted_stays sh R (Extend e) o b a n h g = ap (λ v. not v && is_formatted sh R b) (extend_out sh R e a o b n h) ∙ g
formatted_stays sh R _ o b a n h g = g

abbrev is_format : Effect → Bool
is_format (Formats d) = true
is_format _ = false

formats_same : (d b : ℕ) → Formats d ≡ Formats b → d ≡ b
formats_same d b e = cc

not_again : (sh : Shape) (R : List Record) (r : Record) (b : ℕ) → IsKindAllowed sh R r → is_formatted sh R b ≡ true → effect_of r ≡ Formats b → ⊥
not_again sh R (FormatBlock f) b a g e = clash (is_formatted sh R f.dba) (subst (λ z. is_formatted sh R z ≡ true) (sym (formats_same f.dba b e)) g) (format_first sh R f a).1
not_again sh R _ b a g e = true≢false (sym (ap is_format e))

pub row_blocks_stay : RowBlocksStay
row_blocks_stay sh R r o b h t here n =
    let w = is_listed (under_high sh R o) b here.here in
    let i : is_in b (data_blocks sh R o) ≡ true = in_take b (high_mark R o) (data_blocks sh R o) w in
    let number = a_table sh R o (segments sh R h.0) t in
    let listed : is_in b (data_blocks sh (r ∷ R) o) ≡ true = data_stays sh R r o b h.1.kind n i in
    record {
      row_block = present_block sh (r ∷ R) o b (segments sh (r ∷ R) h) (number, listed, formatted_stays sh R r o b h.1.kind number i here.formatted);
      listed = contains_in (data_blocks sh (r ∷ R) o) b listed;
      not_again = not_again sh R r b h.1.kind here.formatted;
    }

-- after more records

freed : (sh : Shape) (r : Record) (o b i : ℕ) (e : Extent) → IsFreedBy r o i e → in_extent sh e.number b ≡ true → releases sh o b r ≡ true
freed sh r o b i e f h = subst (λ x. releases sh o b x ≡ true) (sym f.is) (and_from (eqb f.lower.obj o) _ (eq-eqb f.lower.obj o f.table) (block_had sh f.lower.released e.number b f.named h))

-- the last of the records that were added
last_later : (P : Effect → Type 0) (Q R : List Record) → Later P Q R → (r : Record) (S : List Record) → R ≡ r ∷ S → (R ≡ Q) ⊎ (Later P Q S × P (effect_of r))
last_later P Q R not_later r S e = inl refl
last_later P Q R (one_later {R = T} x l f) r S e =
    let head : x ≡ r = (let q : x ∷ T ≡ r ∷ S = e in cc) in
    let tail : T ≡ S = (let q : x ∷ T ≡ r ∷ S = e in cc) in
    inr (subst (Later P Q) tail l, subst (λ y. P (effect_of y)) head f)

quiet_more : (Q S : List Record) (r : Record) (b t : ℕ) → Extends Q S → effect_of r ≢ Formats b → (Later (λ e. IsNotOf e t) Q S → Later (IsQuiet t b) Q S) → Later (λ e. IsNotOf e t) Q (r ∷ S) → Later (IsQuiet t b) Q (r ∷ S)
quiet_more Q S r b t x n was l = elim (last_later (λ e. IsNotOf e t) Q (r ∷ S) l r S refl) [
  | inl e ↦ (let k = extends_length Q S x in let m : suc (length S) ≡ length Q = ap (λ (z : List Record). length z) e in absurd (omega (arith, k, m)))
  | inr y ↦ one_later r (was y.0) (y.1, n)
]

abbrev Since : Shape → List Record → ℕ → ℕ → List Record → Type 0
Since sh Q o b S = AreAllowed sh S → StaysSince sh Q S o b

since_step : (sh : Shape) (Q S : List Record) (r : Record) (o b : ℕ) → Extends Q S → IsTable Q o → releases sh o b r ≡ false → Since sh Q o b S → Since sh Q o b (r ∷ S)
since_step sh Q S r o b x t n was h =
    let w = was h.0 in
    let s = row_blocks_stay sh S r o b h (tables_stay sh Q S o h.0 x t).there w.row_block n in
    record {
      row_block = s.row_block;
      not_again = one_later r w.not_again s.not_again;
      quiet = λ u l. quiet_more Q S r b u x s.not_again (w.quiet u) l;
      same_extent = λ i e a k. elim (extents_stay sh S r o i e h (w.same_extent i e a k)) [
        | inl y ↦ y
        | inr f ↦ absurd (clash (releases sh o b r) (freed sh r o b i e f k) n)
      ];
    }

pub row_blocks_stay_since : RowBlocksStaySince
row_blocks_stay_since sh Q R o b h x t here n =
    each_since (releases sh o b) (Since sh Q o b) Q R x n
    (λ a. record { row_block = here; not_again = not_later; quiet = λ u l. not_later; same_extent = λ i e y k. y })
    (λ S r y z m was. since_step sh Q S r o b y t m was) h

pub unreleased_are_read : UnreleasedAreRead
unreleased_are_read sh Q R o t b h x table here n l = record { allowed = h; later = (row_blocks_stay_since sh Q R o b h x table here n).quiet t l }

-- what is released is gone

none_has : (sh : Shape) (R : List Record) (l : LowerRecord) (o b x : ℕ) → AreAllowed sh (Lower l ∷ R) → IsTable R o → releases sh o b (Lower l) ≡ true → has_extent (extents_of (Lower l ∷ R) o) x ≡ true → in_extent sh x b ≡ true → ⊥
none_has sh R l o b x h t e has here =
    let q = and_parts (eqb l.obj o) (has_block sh l.released b) e in
    let y = had_block sh l.released b q.1 in
    let same : y.0 ≡ x = extent_same sh y.0 x b y.2 here in
    let named : is_in x l.released ≡ true = subst (λ z. is_in z l.released ≡ true) same y.1 in
    let number = a_table sh R o (segments sh R h.0) t in
    let f = (lowers_free_what_they_name sh R l x h).of_table o number.least number.most in
    clash (has_extent (extents_of (Lower l ∷ R) o) x) has (f ∙ and_right (has_extent (extents_of R o) x) (not (is_in x l.released)) (ap not named))

lower_gone : (sh : Shape) (R : List Record) (l : LowerRecord) (o b : ℕ) → AreAllowed sh (Lower l ∷ R) → IsTable R o → releases sh o b (Lower l) ≡ true → IsGone sh (Lower l ∷ R) o b
lower_gone sh R l o b h t e = record {
  no_data = λ c.
      let y = in_data sh 0 (extents_of (Lower l ∷ R) o) b (is_listed (data_blocks sh (Lower l ∷ R) o) b c) in
      none_has sh R l o b y.extent h t e y.has (and_from _ _ (le-leb (first_block sh y.extent) b y.from) (lt-ltb b (first_block sh y.extent + sh.extent) y.to));
  no_extent = λ i x a. off (in_extent sh x.number b) (λ k. none_has sh R l o b x.number h t e (found_has (extents_of (Lower l ∷ R) o) i x a) k);
}

pub released_are_gone : ReleasedAreGone
released_are_gone sh R (Lower l) o b h t e = lower_gone sh R l o b h t e
released_are_gone sh R _ o b h t e = absurd (true≢false (sym e))

-- incarnations

pub incarnations_tell_releases : IncarnationsTellReleases
incarnations_tell_releases sh Q _ o b i e h same t a k l = since_none (releases sh o b) Q (length Q) (le_self (length Q))
  where
    le_self : (n : ℕ) → n ≤ n
    le_self n = omega arith
incarnations_tell_releases sh Q (r ∷ R) o b i e h (more _ x) t a k l =
    let longer = extends_length Q R x in
    let was = incarnations_tell_releases sh Q R o b i e h.0 x t (before_step R r o i e a (le_trans l longer)) k l in
    let table = (tables_stay sh Q R o h.0 x t).there in
    since_more (releases sh o b) (length Q) R r longer
    ∙ both_off (releases sh o b r) _ (off (releases sh o b r) (λ y. clash (in_extent sh e.number b) k ((released_are_gone sh R r o b h table y).no_extent i e a))) was
