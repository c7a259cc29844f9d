-- A walk over the data blocks of a table, position by position, and what is counted on it.
use Rattle.std.proofs.Common.{◌≡◌, ℕ, zero, suc, ◌+◌, ◌-◌, ◌<◌, ◌≤◌, Bool, true, false, cond, not, ◌&&◌, eqb, ltb, List, [], ◌∷◌, length, take, slice_get, Option, Some, None, refl, sym, ◌∙◌, ap, ap₂, subst, arith, inl, inr, ltb-true}
use Rattle.std.specs.Prelude.{Result, Ok, Err, IfOk}
use Rattle.std.proofs.lemmas.Bool.{eq-eqb, ne_eqb}
use Rattle.seg_words.proofs.Lemmas.{cond-true, cond-false, cases_Bool, or_left, or_right}
use Rattle.seg_words.specs.Types.{Class as BlockClass, Full, Fs1, Fs2, Fs3, Fs4, Shape, class_code, first_block, head_blocks, is_shape, MOST_BLOCKS, MOST_EXTENT_BLOCKS}
use Rattle.disk_model.specs.Crash.{Meaning}
use Rattle.redo_model.specs.Records.{Record}
use Rattle.redo_model.specs.Model.{Extent, blocks_from, extents_of, extent_at, extent_data, data_blocks, high_mark, under_high, is_formatted, kept_class, code_of, IsTable, IsRowBlock, AreAllowed}
use Rattle.redo_laws.specs.Among.{is_in}
use Rattle.redo_laws.proofs.numbers.Bounds.{limits}
use Rattle.redo_laws.proofs.space.Places.{contains_in}
use Rattle.space_laws.proofs.MarksLaw.{marks_are_in_order, tables_are_few}
use Rattle.mark_laws.specs.There.{HasExtents}
use Rattle.mark_laws.proofs.ThereLaw.{tables_have_extents, codes_tell}
use Rattle.data_places.specs.declared.place.Place.{Place}
use Rattle.data_places.specs.Places.{IsPlace, data_count, block_or_none}
use Rattle.data_places.proofs.PlacesLaw.{counts_are_told, places_are_told}
use Rattle.segment_read.specs.declared.segment.Segment.{Segment}
use Rattle.segment_read.specs.Segments.{IsSegment, number_at}
use Rattle.txn_block.specs.Types.{TxnTable}
use Rattle.version_laws.specs.Types.{HoldsTable}
use Rattle.usage_laws.specs.Types.{calls_for_class, ruled_class}
use Rattle.store_core.specs.Store.{Held, IsTrue}
use Rattle.store_core.specs.Causes.{HasLooked, IsSoundFault}
use Rattle.store_core.specs.declared.fault.StoreFault.{StoreFault}
use Rattle.store_core.proofs.Lookups.{looked_on, looked_ok, looked_same}
use Rattle.space_usage.specs.declared.walking.Coded.{Coded}
use Rattle.history_text.specs.declared.outcome.Usage.{Usage}
use Rattle.space_usage.specs.Counting.{passes_at, count_to, keeps, is_inexact, IsUsageTo, with_code, AreAtMost, Knows, IsCoded, PlaceOf}
use Rattle.space_usage.proofs.Bitmaps.{table_has}

-- ---- what is known, after calls that only looked

pub knows_later : {D A : Type 0} (meaning : Meaning D) (a b : Held D) (R : List Record) (o : ℕ) (sh : Shape) (g : Segment) (r : Result A StoreFault) → HasLooked meaning a b r → Knows meaning R o a sh g → Knows meaning R o b sh g
knows_later meaning a b R o sh g r p k = record {
  holds = p.stays_true R k.holds;
  table = k.table;
  shape = k.shape ∙ sym p.loan.shape;
  segment_is = subst (λ (s : Shape). IsSegment s R o g) (sym p.loan.shape) k.segment_is;
}

-- what was read of a segment
pub knows_read : {D : Type 0} (meaning : Meaning D) (a b : Held D) (R : List Record) (o : ℕ) (sh : Shape) (g : Segment) → sh ≡ a.shape → HasLooked {T = Segment} meaning a b (Ok g) → IsTrue meaning R a → IsTable R o → IsSegment a.shape R o g → Knows meaning R o b sh g
knows_read meaning a b R o sh g e p t i is = record {
  holds = p.stays_true R t;
  table = i;
  shape = e ∙ sym p.loan.shape;
  segment_is = subst (λ (s : Shape). IsSegment s R o g) (sym p.loan.shape) is;
}

-- ---- one block

pub record Numbered (es : List Extent) (index x : ℕ) : Type 0 where
  pub extent : Extent
  pub at : extent_at es index ≡ Some extent
  pub number : extent.number ≡ x

pub numbered : (es : List Extent) (index x : ℕ) → number_at es index ≡ Some x → Numbered es index x
numbered [] zero x h = absurd (let z : ◌≡◌ {A = Option ℕ} None (Some x) = h in cc)
numbered [] (suc i) x h = absurd (let z : ◌≡◌ {A = Option ℕ} None (Some x) = h in cc)
numbered (e ∷ es) zero x h = record { extent = e; at = refl; number = (let z : ◌≡◌ {A = Option ℕ} (Some e.number) (Some x) = h in cc) }
numbered (e ∷ es) (suc i) x h = (let n = numbered es i x h in record { extent = n.extent; at = n.at; number = n.number })

number_is : (es : List Extent) (index : ℕ) (e : Extent) → extent_at es index ≡ Some e → number_at es index ≡ Some e.number
number_is [] index e h = absurd (let x : ◌≡◌ {A = Option Extent} None (Some e) = h in cc)
number_is (f ∷ es) zero e h = let same : f ≡ e = (let x : ◌≡◌ {A = Option Extent} (Some f) (Some e) = h in cc) in ap (λ (x : Extent). Some x.number) same
number_is (f ∷ es) (suc i) e h = number_is es i e h

pub block_is : (sh : Shape) (x n d : ℕ) → block_or_none sh x n ≡ Some d → d ≡ first_block sh x + n
block_is sh x n d h = elim (cases_Bool (ltb (first_block sh x + n) sh.blocks)) [
  | inl y ↦ (let z : ◌≡◌ {A = Option ℕ} (Some (first_block sh x + n)) (Some d) = sym (cond-true _ _ _ y) ∙ h in cc)
  | inr f ↦ absurd (let z : ◌≡◌ {A = Option ℕ} None (Some d) = sym (cond-false _ _ _ f) ∙ h in cc)
]

pub first_is : (sh : Shape) (x d : ℕ) → block_or_none sh x 0 ≡ Some d → d ≡ first_block sh x
first_is sh x d h = let z = block_is sh x 0 d h in omega (arith, z)

pub first_most : (sh : Shape) (x d : ℕ) → is_shape sh ≡ true → block_or_none sh x 0 ≡ Some d → d ≤ MOST_BLOCKS
first_most sh x d s h = elim (cases_Bool (ltb (first_block sh x + 0) sh.blocks)) [
  | inl y ↦ (let e = first_is sh x d h in let u = ltb-true _ _ y in let m = (limits sh s).most in omega (arith, e, u, m))
  | inr f ↦ absurd (let z : ◌≡◌ {A = Option ℕ} None (Some d) = sym (cond-false _ _ _ f) ∙ h in cc)
]

in_from : (b n k : ℕ) → k < n → is_in (b + k) (blocks_from b n) ≡ true
in_from b zero k l = absurd (omega (arith, l))
in_from b (suc n) zero l = or_left _ _ (eq-eqb b (b + 0) (omega arith))
in_from b (suc n) (suc k) l = or_right (eqb b (b + suc k)) _ (subst (λ c. is_in c (blocks_from (suc b) n) ≡ true) (let e : suc b + k ≡ b + suc k = omega arith in e) (in_from (suc b) n k (omega (arith, l))))

pub data_in : (sh : Shape) (index x b nth : ℕ) → b ≡ first_block sh x → head_blocks index ≤ nth → nth < sh.extent → is_in (b + nth) (extent_data sh index x) ≡ true
data_in sh index x b nth e l u =
    subst (λ c. is_in c (extent_data sh index x) ≡ true) (let z : first_block sh x + head_blocks index + (nth - head_blocks index) ≡ b + nth = omega (arith, e, l) in z)
    (in_from (first_block sh x + head_blocks index) (sh.extent - head_blocks index) (nth - head_blocks index) (omega (arith, l, u)))

-- the first block, by the shape that the store has
pub first_there : (sh k : Shape) (x first : ℕ) (e : Extent) → sh ≡ k → block_or_none sh x 0 ≡ Some first → e.number ≡ x → first ≡ first_block k e.number
first_there sh k x first e same h n = first_is sh x first h ∙ ap (first_block sh) (sym n) ∙ ap (λ (s : Shape). first_block s e.number) same

pub coded_is : (sh k : Shape) (R : List Record) (o index x nth first dba code : ℕ) (e : Extent) → sh ≡ k → block_or_none sh x 0 ≡ Some first → e.number ≡ x → head_blocks index ≤ nth → nth < sh.extent → dba ≡ first + nth
    → (first ≡ first_block k e.number → is_in (first + nth) (extent_data k index e.number) ≡ true → code ≡ code_of k R (first + nth))
    → ◌≡◌ {A = Coded} (record { dba = dba; code = code }) (record { dba = first_block sh x + nth; code = code_of sh R (first_block sh x + nth) })
coded_is sh k R o index x nth first dba code e same h n head most d says =
    let f = first_there sh k x first e same h n in
    let place : first + nth ≡ first_block sh x + nth = ap (λ b. b + nth) (first_is sh x first h) in
    let in_k : nth < k.extent = subst (λ (s : Shape). nth < s.extent) same most in
    let value = says f (data_in k index e.number first nth f head in_k) in
    ap₂ (λ (b m : ℕ). record { dba = b; code = m }) (d ∙ place) (value ∙ ap (code_of k R) place ∙ ap (λ (s : Shape). code_of s R (first_block sh x + nth)) (sym same))

pub no_first : {D : Type 0} (meaning : Meaning D) (R : List Record) (o index x : ℕ) (s : Held D) (sh : Shape) (g : Segment) (e : Extent) → Knows meaning R o s sh g → extent_at (extents_of R o) index ≡ Some e → e.number ≡ x → is_shape sh ≡ true → block_or_none sh x 0 ≡ None → ⊥
no_first meaning R o index x s sh g e k at n w none =
    let least = (limits sh w).extent_from in
    table_has sh R o index x 0 (subst (λ (z : Shape). HasExtents z R o) (sym k.shape) (tables_have_extents s.shape R o k.holds.lawful k.table)) (number_is (extents_of R o) index e at ∙ ap (λ (m : ℕ). Some m) n) (omega (arith, least)) none

pub near_first : (sh : Shape) (nth : ℕ) → is_shape sh ≡ true → nth < sh.extent → nth < MOST_EXTENT_BLOCKS
near_first sh nth s l = let m = (limits sh s).extent_to in omega (arith, l, m)

-- the block at a position
pub coded_position : {D : Type 0} (meaning : Meaning D) (R : List Record) (o position x : ℕ) (s : Held D) (sh : Shape) (g : Segment) (p : Place) (r : Result Coded StoreFault) → Knows meaning R o s sh g → IsPlace sh g.extents p position → (n : Numbered (extents_of R o) p.index x)
    → IfOk r (λ y. y ≡ record { dba = first_block sh x + p.nth; code = code_of sh R (first_block sh x + p.nth) }) → IfOk r (IsCoded sh R o position)
coded_position meaning R o position x s sh g p (Err f) k w n h = tt
coded_position meaning R o position x s sh g p (Ok c) k w n h =
    let placed : IsPlace sh (length (extents_of R o)) p position = subst (λ m. IsPlace sh m p position) k.segment_is.extents w in
    record {
      here = places_are_told sh (extents_of R o) p position n.extent placed n.at ∙ ap (λ m. Some (first_block sh m + p.nth)) n.number ∙ ap (λ (y : Coded). Some y.dba) (sym h);
      code = ap (λ (y : Coded). y.code) h ∙ ap (λ (y : Coded). code_of sh R y.dba) (sym h);
    }

-- ---- the walk

pub record Walked {D : Type 0} (meaning : Meaning D) (a b : Held D) (sh : Shape) (g : Segment) (n : ℕ) (place : Option Place) (counted_is : List Record → ℕ → Type 0) : Type 0 where
  pub looked : HasLooked {T = Unit {0}} meaning a b (Ok tt)
  pub within : n ≤ g.high
  pub place_is : PlaceOf sh g.extents n place
  pub counted : (R : List Record) (o : ℕ) → Knows meaning R o a sh g → counted_is R o

pub walk_none : {D : Type 0} (meaning : Meaning D) (a : Held D) (sh : Shape) (g : Segment) (place : Option Place) (counted_is : List Record → ℕ → Type 0) → a.fault ≡ None → PlaceOf sh g.extents 0 place → ((R : List Record) (o : ℕ) → Knows meaning R o a sh g → counted_is R o) → Walked meaning a a sh g 0 place counted_is
walk_none meaning a sh g place counted_is n p c = record { looked = looked_same meaning a tt n; within = omega arith; place_is = p; counted = c }

pub walk_place : (sh : Shape) (extents n : ℕ) (place : Option Place) (at : Place) → place ≡ Some at → PlaceOf sh extents n place → IsPlace sh extents at n
walk_place sh extents n place at e p = subst (PlaceOf sh extents n) e p

pub walk_next : {D A : Type 0} (meaning : Meaning D) (a b c : Held D) (sh : Shape) (g : Segment) (n m : ℕ) (place next : Option Place) (at : Place) (x : A) (was is : List Record → ℕ → Type 0) → Walked meaning a b sh g n place was → n < g.high → place ≡ Some at → m ≡ n + 1 → HasLooked {T = A} meaning b c (Ok x)
    → ((position : ℕ) → IsPlace sh g.extents at position → PlaceOf sh g.extents (position + 1) next)
    → ((R : List Record) (o : ℕ) → Knows meaning R o a sh g → Knows meaning R o b sh g → IsPlace sh g.extents at n → was R o → is R o) → Walked meaning a c sh g m next is
walk_next meaning a b c sh g n m place next at x was is w l e more p goes counts = record {
  looked = looked_ok meaning a c x tt (looked_on meaning a b c tt (Ok x) w.looked p);
  within = omega (arith, l, more);
  place_is = subst (λ k. PlaceOf sh g.extents k next) (sym more) (goes n (walk_place sh g.extents n place at e w.place_is));
  counted = λ R o k. counts R o k (knows_later meaning a b R o sh g (Ok tt) w.looked k) (walk_place sh g.extents n place at e w.place_is) (w.counted R o k);
}

-- below the high mark there is a place
pub walk_stops : {D : Type 0} (meaning : Meaning D) (R : List Record) (o n : ℕ) (s : Held D) (sh : Shape) (g : Segment) (place : Option Place) → Knows meaning R o s sh g → n < g.high → place ≡ None → PlaceOf sh g.extents n place → ⊥
walk_stops meaning R o n s sh g place k l e p =
    let ends : data_count sh g.extents ≤ n = subst (PlaceOf sh g.extents n) e p in
    let few = tables_are_few s.shape R k.holds.lawful.allowed in
    let most = k.table.most in
    let order = (marks_are_in_order s.shape R o k.holds.lawful.allowed k.table.least (omega (arith, most, few))).within in
    let told = counts_are_told s.shape (extents_of R o) in
    let same : data_count sh g.extents ≡ data_count s.shape (length (extents_of R o)) = ap₂ data_count k.shape k.segment_is.extents in
    let high = k.segment_is.high in
    omega (arith, ends, order, told, same, high, l)

-- ---- counts

pub count_next : (p : ℕ → Bool) (bs : List ℕ) (n m b : ℕ) (v : Bool) → m ≡ count_to p bs n → slice_get bs n ≡ Some b → v ≡ p b → m + cond v 1 0 ≡ count_to p bs (suc n)
count_next p bs n m b v e at t = ap₂ (λ x y. x + y) e (ap (λ w. cond w 1 0) t ∙ sym (ap (passes_at p) at))

code_value : (sh : Shape) (R : List Record) (b : ℕ) (v : Bool) → is_formatted sh R b ≡ v → code_of sh R b ≡ cond v (class_code (kept_class R b)) 0
code_value sh R b v e = ap (λ w. cond w (class_code (kept_class R b)) 0) e

pub keeps_told : (sh : Shape) (R : List Record) (b code : ℕ) (c : BlockClass) → code ≡ code_of sh R b → 1 ≤ class_code c → eqb code (class_code c) ≡ keeps sh R c b
keeps_told sh R b code c e l = elim (cases_Bool (is_formatted sh R b)) [
  | inl y ↦ ap (λ n. eqb n (class_code c)) (e ∙ code_value sh R b true y) ∙ ap (λ v. v && eqb (class_code (kept_class R b)) (class_code c)) (sym y)
  | inr f ↦ ap (λ n. eqb n (class_code c)) (e ∙ code_value sh R b false f) ∙ ne_eqb 0 (class_code c) (λ z. omega (arith, z, l)) ∙ ap (λ v. v && eqb (class_code (kept_class R b)) (class_code c)) (sym f)
]

pub free_told : (sh : Shape) (R : List Record) (b code : ℕ) → AreAllowed sh R → code ≡ code_of sh R b → eqb code 0 ≡ not (is_formatted sh R b)
free_told sh R b code h e = elim (cases_Bool (is_formatted sh R b)) [
  | inl y ↦ (let k = ((codes_tell sh R b h).formatted y).0 in ne_eqb code 0 (λ z. omega (arith, z, k, e))) ∙ ap not (sym y)
  | inr f ↦ eq-eqb code 0 (e ∙ code_value sh R b false f) ∙ ap not (sym f)
]

pub usage_none : (sh : Shape) (R : List Record) (o : ℕ) (k : Shape) (g : Segment) → IsSegment k R o g → IsUsageTo sh R o 0 (record { unformatted = 0; fs1 = 0; fs2 = 0; fs3 = 0; fs4 = 0; full = 0; low = g.low; high = g.high; extents = g.extents })
usage_none sh R o k g is = record { unformatted = refl; fs1 = refl; fs2 = refl; fs3 = refl; fs4 = refl; full = refl; low = is.low; high = is.high; extents = is.extents }

pub usage_next : (sh : Shape) (R : List Record) (o n : ℕ) (u : Usage) (c : Coded) → AreAllowed sh R → IsUsageTo sh R o n u → IsCoded sh R o n c → IsUsageTo sh R o (suc n) (with_code u c.code)
usage_next sh R o n u c h w k =
    let bs = data_blocks sh R o in
    record {
      unformatted = count_next _ bs n u.unformatted c.dba _ w.unformatted k.here (free_told sh R c.dba c.code h k.code);
      fs1 = count_next (keeps sh R Fs1) bs n u.fs1 c.dba _ w.fs1 k.here (keeps_told sh R c.dba c.code Fs1 k.code (omega arith));
      fs2 = count_next (keeps sh R Fs2) bs n u.fs2 c.dba _ w.fs2 k.here (keeps_told sh R c.dba c.code Fs2 k.code (omega arith));
      fs3 = count_next (keeps sh R Fs3) bs n u.fs3 c.dba _ w.fs3 k.here (keeps_told sh R c.dba c.code Fs3 k.code (omega arith));
      fs4 = count_next (keeps sh R Fs4) bs n u.fs4 c.dba _ w.fs4 k.here (keeps_told sh R c.dba c.code Fs4 k.code (omega arith));
      full = count_next (keeps sh R Full) bs n u.full c.dba _ w.full k.here (keeps_told sh R c.dba c.code Full k.code (omega arith));
      low = w.low;
      high = w.high;
      extents = w.extents;
    }

one_most : (v : Bool) (m n : ℕ) → m ≤ n → m + cond v 1 0 ≤ suc n
one_most true m n l = omega (arith, l)
one_most false m n l = omega (arith, l)

pub most_none : (g : Segment) → AreAtMost 0 (record { unformatted = 0; fs1 = 0; fs2 = 0; fs3 = 0; fs4 = 0; full = 0; low = g.low; high = g.high; extents = g.extents })
most_none g = record { unformatted = omega arith; fs1 = omega arith; fs2 = omega arith; fs3 = omega arith; fs4 = omega arith; full = omega arith }

pub most_next : (n code : ℕ) (u : Usage) → AreAtMost n u → AreAtMost (suc n) (with_code u code)
most_next n code u h = record { unformatted = one_most _ u.unformatted n h.unformatted; fs1 = one_most _ u.fs1 n h.fs1; fs2 = one_most _ u.fs2 n h.fs2; fs3 = one_most _ u.fs3 n h.fs3; fs4 = one_most _ u.fs4 n h.fs4; full = one_most _ u.full n h.full }

pub most_small : (n m : ℕ) (u : Usage) → n ≤ m → AreAtMost n u → AreAtMost m u
most_small n m u l h = record {
  unformatted = (let k = h.unformatted in omega (arith, l, k));
  fs1 = (let k = h.fs1 in omega (arith, l, k));
  fs2 = (let k = h.fs2 in omega (arith, l, k));
  fs3 = (let k = h.fs3 in omega (arith, l, k));
  fs4 = (let k = h.fs4 in omega (arith, l, k));
  full = (let k = h.full in omega (arith, l, k));
}

-- ---- the walk of usage

abbrev pub UsageWalk : {D : Type 0} → Meaning D → Held D → Held D → Shape → Segment → ℕ → Option Place → Usage → Type 0
UsageWalk meaning a b sh g n place u = Walked meaning a b sh g n place (λ R o. IsUsageTo sh R o n u) × AreAtMost n u

pub usage_begun : {D : Type 0} (meaning : Meaning D) (a : Held D) (sh : Shape) (g : Segment) (place : Option Place) (u : Usage) → a.fault ≡ None → PlaceOf sh g.extents 0 place → u ≡ record { unformatted = 0; fs1 = 0; fs2 = 0; fs3 = 0; fs4 = 0; full = 0; low = g.low; high = g.high; extents = g.extents } → UsageWalk meaning a a sh g 0 place u
usage_begun meaning a sh g place u n p e = subst (UsageWalk meaning a a sh g 0 place) (sym e) (walk_none meaning a sh g place (λ R o. IsUsageTo sh R o 0 (record { unformatted = 0; fs1 = 0; fs2 = 0; fs3 = 0; fs4 = 0; full = 0; low = g.low; high = g.high; extents = g.extents })) n p (λ R o k. usage_none sh R o a.shape g k.segment_is), most_none g)

pub usage_step : {D : Type 0} (meaning : Meaning D) (a b c : Held D) (sh : Shape) (g : Segment) (n m : ℕ) (place next : Option Place) (at : Place) (x : Coded) (u v : Usage) → UsageWalk meaning a b sh g n place u → n < g.high → place ≡ Some at → m ≡ n + 1 → HasLooked {T = Coded} meaning b c (Ok x)
    → ((R : List Record) (o position : ℕ) → Knows meaning R o b sh g → IsPlace sh g.extents at position → IsCoded sh R o position x) → v ≡ with_code u x.code → ((position : ℕ) → IsPlace sh g.extents at position → PlaceOf sh g.extents (position + 1) next) → UsageWalk meaning a c sh g m next v
usage_step {D} meaning a b c sh g n m place next at x u v w l e more p says is goes =
    subst (UsageWalk meaning a c sh g m next) (sym is) (
      walk_next meaning a b c sh g n m place next at x (λ R o. IsUsageTo sh R o n u) (λ R o. IsUsageTo sh R o m (with_code u x.code)) w.0 l e more p goes (λ R o k later there was. counts R o k later there was),
      subst (λ k. AreAtMost k (with_code u x.code)) (let z : suc n ≡ m = omega (arith, more) in z) (most_next n x.code u w.1),
    )
  where
    counts : (R : List Record) (o : ℕ) → Knows meaning R o a sh g → Knows meaning R o b sh g → IsPlace sh g.extents at n → IsUsageTo sh R o n u → IsUsageTo sh R o m (with_code u x.code)
    counts R o k later there was =
        subst (λ i. IsUsageTo sh R o i (with_code u x.code)) (let z : suc n ≡ m = omega (arith, more) in z)
        (usage_next sh R o n u x (subst (λ (s : Shape). AreAllowed s R) (sym k.shape) k.holds.lawful.allowed) was (says R o n later there))

-- at the high mark
pub usage_all : {D : Type 0} (meaning : Meaning D) (a b : Held D) (sh : Shape) (g : Segment) (n : ℕ) (place : Option Place) (u : Usage) → UsageWalk meaning a b sh g n place u → g.high ≤ n → (R : List Record) (o : ℕ) → Knows meaning R o a sh g → IsUsageTo sh R o (high_mark R o) u
usage_all meaning a b sh g n place u w l R o k =
    let last = w.0.within in
    let high = k.segment_is.high in
    subst (λ m. IsUsageTo sh R o m u) (let z : n ≡ high_mark R o = omega (arith, l, last, high) in z) (w.0.counted R o k)

pub walk_fails : {D : Type 0} (meaning : Meaning D) (a b : Held D) (sh : Shape) (g : Segment) (n : ℕ) (place : Option Place) (at : Place) (f : StoreFault) (was : List Record → ℕ → Type 0) → Walked meaning a b sh g n place was → place ≡ Some at
    → ((R : List Record) (o position : ℕ) → Knows meaning R o b sh g → IsPlace sh g.extents at position → b.fault ≡ None → IsSoundFault f) → (R : List Record) (o : ℕ) → Knows meaning R o a sh g → IsSoundFault f
walk_fails meaning a b sh g n place at f was w e sound R o k = sound R o n (knows_later meaning a b R o sh g (Ok tt) w.looked k) (walk_place sh g.extents n place at e w.place_is) (w.looked.cause.kept w.looked.cause.goes_on)

-- ---- the walk of inexact blocks

abbrev pub InexactWalk : {D : Type 0} → Meaning D → Held D → Held D → Shape → Segment → TxnTable → ℕ → Option Place → ℕ → Type 0
InexactWalk meaning a b sh g q n place count = Walked meaning a b sh g n place (λ R o. HoldsTable R q → count ≡ count_to (is_inexact sh R o) (data_blocks sh R o) n) × (count ≤ n)

pub inexact_begun : {D : Type 0} (meaning : Meaning D) (a : Held D) (sh : Shape) (g : Segment) (q : TxnTable) (place : Option Place) → a.fault ≡ None → PlaceOf sh g.extents 0 place → InexactWalk meaning a a sh g q 0 place 0
inexact_begun meaning a sh g q place n p = (walk_none meaning a sh g place (λ R o. HoldsTable R q → 0 ≡ count_to (is_inexact sh R o) (data_blocks sh R o) 0) n p (λ R o k h. refl), omega arith)

pub inexact_step : {D : Type 0} (meaning : Meaning D) (a b c d : Held D) (sh : Shape) (g : Segment) (q : TxnTable) (n m : ℕ) (place next : Option Place) (at : Place) (x : Coded) (y : Bool) (count more_count : ℕ) → InexactWalk meaning a b sh g q n place count → n < g.high → place ≡ Some at → m ≡ n + 1 → HasLooked {T = Coded} meaning b c (Ok x) → HasLooked {T = Bool} meaning c d (Ok y)
    → ((R : List Record) (o position : ℕ) → Knows meaning R o b sh g → IsPlace sh g.extents at position → IsCoded sh R o position x)
    → ((R : List Record) (o position : ℕ) → Knows meaning R o c c.shape g → HoldsTable R q → position < g.high → IsCoded c.shape R o position x → y ≡ is_inexact c.shape R o x.dba)
    → more_count ≡ count + cond y 1 0 → ((position : ℕ) → IsPlace sh g.extents at position → PlaceOf sh g.extents (position + 1) next) → InexactWalk meaning a d sh g q m next more_count
inexact_step {D} meaning a b c d sh g q n m place next at x y count more_count w l e more p r says tells is goes = (
  walk_next meaning a b d sh g n m place next at y (λ R o. HoldsTable R q → count ≡ count_to (is_inexact sh R o) (data_blocks sh R o) n) (λ R o. HoldsTable R q → more_count ≡ count_to (is_inexact sh R o) (data_blocks sh R o) m) w.0 l e more (looked_on meaning b c d x (Ok y) p r) goes (λ R o k later there was h. counts R o k later there was h),
  subst (λ k. more_count ≤ k) (let z : suc n ≡ m = omega (arith, more) in z) (subst (λ k. k ≤ suc n) (sym is) (one_most y count n w.1)),
)
  where
    counts : (R : List Record) (o : ℕ) → Knows meaning R o a sh g → Knows meaning R o b sh g → IsPlace sh g.extents at n → (HoldsTable R q → count ≡ count_to (is_inexact sh R o) (data_blocks sh R o) n) → HoldsTable R q → more_count ≡ count_to (is_inexact sh R o) (data_blocks sh R o) m
    counts R o k later there was h =
        let coded = says R o n later there in
        let known = knows_later meaning b c R o sh g (Ok x) p later in
        let at_c : Knows meaning R o c c.shape g = record { holds = known.holds; table = known.table; shape = refl; segment_is = known.segment_is } in
        let value : y ≡ is_inexact sh R o x.dba = tells R o n at_c h l (subst (λ (s : Shape). IsCoded s R o n x) known.shape coded) ∙ ap (λ (s : Shape). is_inexact s R o x.dba) (sym known.shape) in
        is ∙ count_next (is_inexact sh R o) (data_blocks sh R o) n count x.dba y (was h) coded.here value ∙ ap (count_to (is_inexact sh R o) (data_blocks sh R o)) (let z : suc n ≡ m = omega (arith, more) in z)

pub inexact_all : {D : Type 0} (meaning : Meaning D) (a b : Held D) (sh : Shape) (g : Segment) (q : TxnTable) (n : ℕ) (place : Option Place) (count : ℕ) → InexactWalk meaning a b sh g q n place count → g.high ≤ n → (R : List Record) (o : ℕ) → Knows meaning R o a sh g → HoldsTable R q → count ≡ count_to (is_inexact sh R o) (data_blocks sh R o) (high_mark R o)
inexact_all meaning a b sh g q n place count w l R o k h =
    let last = w.0.within in
    let high = k.segment_is.high in
    w.0.counted R o k h ∙ ap (count_to (is_inexact sh R o) (data_blocks sh R o)) (let z : n ≡ high_mark R o = omega (arith, l, last, high) in z)

-- the block of a position was read, and then its class couldn't be
pub inexact_fails : {D : Type 0} (meaning : Meaning D) (a b c : Held D) (sh : Shape) (g : Segment) (q : TxnTable) (n : ℕ) (place : Option Place) (at : Place) (x : Coded) (f : StoreFault) (was : List Record → ℕ → Type 0) → Walked meaning a b sh g n place was → n < g.high → place ≡ Some at → HasLooked {T = Coded} meaning b c (Ok x)
    → ((R : List Record) (o position : ℕ) → Knows meaning R o b sh g → IsPlace sh g.extents at position → IsCoded sh R o position x)
    → ((R : List Record) (o position : ℕ) → Knows meaning R o c c.shape g → HoldsTable R q → position < g.high → IsCoded c.shape R o position x → IsSoundFault f)
    → (R : List Record) (o : ℕ) → Knows meaning R o a sh g → HoldsTable R q → IsSoundFault f
inexact_fails meaning a b c sh g q n place at x f was w l e p says sound R o k h =
    let later = knows_later meaning a b R o sh g (Ok tt) w.looked k in
    let known = knows_later meaning b c R o sh g (Ok x) p later in
    let coded = says R o n later (walk_place sh g.extents n place at e w.place_is) in
    sound R o n (record { holds = known.holds; table = known.table; shape = refl; segment_is = known.segment_is }) h l (subst (λ (s : Shape). IsCoded s R o n x) known.shape coded)

-- ---- a block under the high mark

in_front : (bs : List ℕ) (n k b : ℕ) → slice_get bs k ≡ Some b → k < n → is_in b (take n bs) ≡ true
in_front [] n k b h l = absurd (let z : ◌≡◌ {A = Option ℕ} None (Some b) = h in cc)
in_front (x ∷ bs) zero k b h l = absurd (omega (arith, l))
in_front (x ∷ bs) (suc n) zero b h l = or_left _ _ (eq-eqb x b (let z : ◌≡◌ {A = Option ℕ} (Some x) (Some b) = h in cc))
in_front (x ∷ bs) (suc n) (suc k) b h l = or_right (eqb x b) _ (in_front bs n k b h (omega (arith, l)))

pub row_at : (sh : Shape) (R : List Record) (o n : ℕ) (c : Coded) → IsCoded sh R o n c → n < high_mark R o → is_formatted sh R c.dba ≡ true → IsRowBlock sh R o c.dba
row_at sh R o n c k l y = record { here = contains_in (under_high sh R o) c.dba (in_front (data_blocks sh R o) (high_mark R o) n c.dba k.here l); formatted = y }

pub coded_formatted : (sh : Shape) (R : List Record) (o n : ℕ) (c : Coded) → AreAllowed sh R → IsCoded sh R o n c → (c.code ≡ 0 → ⊥) → is_formatted sh R c.dba ≡ true
coded_formatted sh R o n c h k z = elim (cases_Bool (is_formatted sh R c.dba)) [ inl y ↦ y | inr f ↦ absurd (z (k.code ∙ (codes_tell sh R c.dba h).unformatted f)) ]

pub coded_free : (sh : Shape) (R : List Record) (o n : ℕ) (c : Coded) → AreAllowed sh R → IsCoded sh R o n c → c.code ≡ 0 → is_formatted sh R c.dba ≡ false
coded_free sh R o n c h k z = elim (cases_Bool (is_formatted sh R c.dba)) [ inl y ↦ (let l = ((codes_tell sh R c.dba h).formatted y).0 in let e = k.code in absurd (omega (arith, l, e, z))) | inr f ↦ f ]

-- whether it is inexact, by its code and its class
pub inexact_told : (sh : Shape) (R : List Record) (o n : ℕ) (c : Coded) (k : BlockClass) → AreAllowed sh R → IsCoded sh R o n c → (c.code ≡ 0 → ⊥) → k ≡ ruled_class R o c.dba → not (eqb (class_code k) c.code) ≡ is_inexact sh R o c.dba
inexact_told sh R o n c k h w z e =
    let y = coded_formatted sh R o n c h w z in
    ap (λ (x : BlockClass). not (eqb (class_code x) c.code)) e
    ∙ ap (λ m. not (eqb (class_code (ruled_class R o c.dba)) m)) (w.code ∙ code_value sh R c.dba true y)
    ∙ ap (λ v. v && calls_for_class R o c.dba) (sym y)

pub exact_free : (sh : Shape) (R : List Record) (o n : ℕ) (c : Coded) → AreAllowed sh R → IsCoded sh R o n c → c.code ≡ 0 → false ≡ is_inexact sh R o c.dba
exact_free sh R o n c h w z = ap (λ v. v && calls_for_class R o c.dba) (sym (coded_free sh R o n c h w z))

pub row_known : {D : Type 0} (meaning : Meaning D) (R : List Record) (o n : ℕ) (s : Held D) (g : Segment) (c : Coded) → Knows meaning R o s s.shape g → n < g.high → IsCoded s.shape R o n c → (c.code ≡ 0 → ⊥) → IsRowBlock s.shape R o c.dba
row_known meaning R o n s g c k l w z =
    let high = k.segment_is.high in
    row_at s.shape R o n c w (omega (arith, l, high)) (coded_formatted s.shape R o n c k.holds.lawful.allowed w z)
