-- The data block at a position, read by its extent and its place there.
use Rattle.std.proofs.Common.{◌≡◌, ℕ, zero, suc, ◌+◌, ◌-◌, ◌<◌, ◌≤◌, true, eqb, ltb, List, [], ◌∷◌, length, slice_get, Option, Some, None, MatchOption, refl, sym, ◌∙◌, ap, ap₂, subst, arith, inl, inr, ltb-true}
use Rattle.std.specs.Prelude.{Result, Ok, Err, IfOk}
use Rattle.std.proofs.lemmas.Bool.{eq-eqb}
use Rattle.seg_words.proofs.Lemmas.{cond-true, cond-false, cases_Bool, or_left, or_right}
use Rattle.seg_words.specs.Types.{Shape, first_block, head_blocks, is_shape, MOST_BLOCKS, MOST_EXTENT_BLOCKS}
use Rattle.disk_model.specs.Crash.{Meaning}
use Rattle.redo_model.specs.Records.{Record}
use Rattle.redo_model.specs.Model.{Extent, blocks_from, extents_of, extent_at, extent_data, data_blocks, code_of}
use Rattle.redo_laws.specs.Among.{is_in}
use Rattle.redo_laws.proofs.numbers.Bounds.{limits}
use Rattle.mark_laws.proofs.ThereLaw.{tables_have_extents}
use Rattle.mark_move.proofs.Drafting.{table_has}
use Rattle.data_places.specs.declared.place.Place.{Place}
use Rattle.data_places.specs.Places.{IsPlace, data_count, block_or_none}
use Rattle.data_places.proofs.PlacesLaw.{counts_are_told, places_are_told}
use Rattle.segment_read.specs.Segments.{number_at}
use Rattle.store_core.specs.Store.{Held}
use Rattle.store_core.specs.declared.fault.StoreFault.{StoreFault}
use Rattle.shrink_move.specs.declared.ground.Ground.{Ground}
use Rattle.shrink_move.specs.declared.walking.Coded.{Coded}
use Rattle.shrink_move.specs.Known.{Knows}
use Rattle.shrink_move.specs.Walks.{IsCoded}
use Rattle.shrink_move.proofs.Knowing.{lawful_here}

pub record Numbered (es : List Extent) (index x : ℕ) : Type 0 where
  pub extent : Extent
  pub at : extent_at es index ≡ Some extent
  pub number : extent.number ≡ x

pub numbered : (es : List Extent) (index x : ℕ) → number_at es index ≡ Some x → Numbered es index x
numbered [] zero x h = absurd (let z : ◌≡◌ {A = Option ℕ} None (Some x) = h in cc)
numbered [] (suc i) x h = absurd (let z : ◌≡◌ {A = Option ℕ} None (Some x) = h in cc)
numbered (e ∷ es) zero x h = record { extent = e; at = refl; number = (let z : ◌≡◌ {A = Option ℕ} (Some e.number) (Some x) = h in cc) }
numbered (e ∷ es) (suc i) x h = (let n = numbered es i x h in record { extent = n.extent; at = n.at; number = n.number })

number_is : (es : List Extent) (index : ℕ) (e : Extent) → extent_at es index ≡ Some e → number_at es index ≡ Some e.number
number_is [] index e h = absurd (let x : ◌≡◌ {A = Option Extent} None (Some e) = h in cc)
number_is (f ∷ es) zero e h = let same : f ≡ e = (let x : ◌≡◌ {A = Option Extent} (Some f) (Some e) = h in cc) in ap (λ (x : Extent). Some x.number) same
number_is (f ∷ es) (suc i) e h = number_is es i e h

-- the first block of an extent

first_is : (sh : Shape) (x d : ℕ) → block_or_none sh x 0 ≡ Some d → d ≡ first_block sh x
first_is sh x d h = elim (cases_Bool (ltb (first_block sh x + 0) sh.blocks)) [
  | inl y ↦ (let z : ◌≡◌ {A = Option ℕ} (Some (first_block sh x + 0)) (Some d) = sym (cond-true _ _ _ y) ∙ h in let w : first_block sh x + 0 ≡ d = cc in omega (arith, w))
  | inr f ↦ absurd (let z : ◌≡◌ {A = Option ℕ} None (Some d) = sym (cond-false _ _ _ f) ∙ h in cc)
]

pub first_most : (sh : Shape) (x d : ℕ) → is_shape sh ≡ true → block_or_none sh x 0 ≡ Some d → d ≤ MOST_BLOCKS
first_most sh x d s h = elim (cases_Bool (ltb (first_block sh x + 0) sh.blocks)) [
  | inl y ↦ (let e = first_is sh x d h in let u = ltb-true _ _ y in let m = (limits sh s).most in omega (arith, e, u, m))
  | inr f ↦ absurd (let z : ◌≡◌ {A = Option ℕ} None (Some d) = sym (cond-false _ _ _ f) ∙ h in cc)
]

-- by the shape that the store has
pub first_there : (sh k : Shape) (x first : ℕ) (e : Extent) → sh ≡ k → block_or_none sh x 0 ≡ Some first → e.number ≡ x → first ≡ first_block k e.number
first_there sh k x first e same h n = first_is sh x first h ∙ ap (first_block sh) (sym n) ∙ ap (λ (s : Shape). first_block s e.number) same

pub no_first : {D : Type 0} (meaning : Meaning D) (R : List Record) (o index x : ℕ) (s : Held D) (g : Ground) (e : Extent) → Knows meaning R o s g → extent_at (extents_of R o) index ≡ Some e → e.number ≡ x → is_shape g.shape ≡ true → block_or_none g.shape x 0 ≡ None → ⊥
no_first meaning R o index x s g e k at n w none =
    let least = (limits g.shape w).extent_from in
    table_has g.shape R o index x 0 (tables_have_extents g.shape R o (lawful_here meaning s R o g k) k.table) (number_is (extents_of R o) index e at ∙ ap (λ (m : ℕ). Some m) n) (omega (arith, least)) none

pub near_first : (sh : Shape) (nth : ℕ) → is_shape sh ≡ true → nth < sh.extent → nth < MOST_EXTENT_BLOCKS
near_first sh nth s l = let m = (limits sh s).extent_to in omega (arith, l, m)

-- the nth block

in_from : (b n k : ℕ) → k < n → is_in (b + k) (blocks_from b n) ≡ true
in_from b zero k l = absurd (omega (arith, l))
in_from b (suc n) zero l = or_left _ _ (eq-eqb b (b + 0) (omega arith))
in_from b (suc n) (suc k) l = or_right (eqb b (b + suc k)) _ (subst (λ c. is_in c (blocks_from (suc b) n) ≡ true) (let e : suc b + k ≡ b + suc k = omega arith in e) (in_from (suc b) n k (omega (arith, l))))

data_in : (sh : Shape) (index x b nth : ℕ) → b ≡ first_block sh x → head_blocks index ≤ nth → nth < sh.extent → is_in (b + nth) (extent_data sh index x) ≡ true
data_in sh index x b nth e l u =
    subst (λ c. is_in c (extent_data sh index x) ≡ true) (let z : first_block sh x + head_blocks index + (nth - head_blocks index) ≡ b + nth = omega (arith, e, l) in z)
    (in_from (first_block sh x + head_blocks index) (sh.extent - head_blocks index) (nth - head_blocks index) (omega (arith, l, u)))

pub coded_is : (sh k : Shape) (R : List Record) (o index x nth first dba code : ℕ) (e : Extent) → sh ≡ k → block_or_none sh x 0 ≡ Some first → e.number ≡ x → head_blocks index ≤ nth → nth < sh.extent → dba ≡ first + nth
    → (first ≡ first_block k e.number → is_in (first + nth) (extent_data k index e.number) ≡ true → code ≡ code_of k R (first + nth))
    → ◌≡◌ {A = Coded} (record { dba = dba; code = code }) (record { dba = first_block sh x + nth; code = code_of sh R (first_block sh x + nth) })
coded_is sh k R o index x nth first dba code e same h n head most d says =
    let f = first_there sh k x first e same h n in
    let place : first + nth ≡ first_block sh x + nth = ap (λ b. b + nth) (first_is sh x first h) in
    let in_k : nth < k.extent = subst (λ (s : Shape). nth < s.extent) same most in
    let value = says f (data_in k index e.number first nth f head in_k) in
    ap₂ (λ (b m : ℕ). record { dba = b; code = m }) (d ∙ place) (value ∙ ap (code_of k R) place ∙ ap (λ (s : Shape). code_of s R (first_block sh x + nth)) (sym same))

-- at a position

pub coded_position : {D : Type 0} (meaning : Meaning D) (R : List Record) (o position x : ℕ) (s : Held D) (g : Ground) (p : Place) (r : Result Coded StoreFault) → Knows meaning R o s g → IsPlace g.shape g.segment.extents p position → (n : Numbered (extents_of R o) p.index x)
    → IfOk r (λ y. y ≡ record { dba = first_block g.shape x + p.nth; code = code_of g.shape R (first_block g.shape x + p.nth) }) → IfOk r (IsCoded g.shape R o position)
coded_position meaning R o position x s g p (Err f) k w n h = tt
coded_position meaning R o position x s g p (Ok c) k w n h =
    let placed : IsPlace g.shape (length (extents_of R o)) p position = subst (λ m. IsPlace g.shape m p position) k.segment.extents w in
    record {
      here = places_are_told g.shape (extents_of R o) p position n.extent placed n.at ∙ ap (λ m. Some (first_block g.shape m + p.nth)) n.number ∙ ap (λ (y : Coded). Some y.dba) (sym h);
      code = ap (λ (y : Coded). y.code) h ∙ ap (λ (y : Coded). code_of g.shape R y.dba) (sym h);
    }

pub place_some : (sh : Shape) (extents n : ℕ) (place : Option Place) (p : Place) → place ≡ Some p → MatchOption place (data_count sh extents ≤ n) (λ q. IsPlace sh extents q n) → IsPlace sh extents p n
place_some sh extents n place p e h = subst (λ (o : Option Place). MatchOption o (data_count sh extents ≤ n) (λ q. IsPlace sh extents q n)) e h

pub place_none : (R : List Record) (o n : ℕ) (g : Ground) (place : Option Place) → g.segment.extents ≡ length (extents_of R o) → n < length (data_blocks g.shape R o) → place ≡ None → MatchOption place (data_count g.shape g.segment.extents ≤ n) (λ q. IsPlace g.shape g.segment.extents q n) → ⊥
place_none R o n g place same l e h =
    let ends : data_count g.shape g.segment.extents ≤ n = subst (λ (p : Option Place). MatchOption p (data_count g.shape g.segment.extents ≤ n) (λ q. IsPlace g.shape g.segment.extents q n)) e h in
    let told = counts_are_told g.shape (extents_of R o) in
    let count : data_count g.shape g.segment.extents ≡ data_count g.shape (length (extents_of R o)) = ap (data_count g.shape) same in
    omega (arith, ends, told, count, l)

-- ---- positions and blocks

pub no_block : {P : Type 0} (b : ℕ) → ◌≡◌ {A = Option ℕ} None (Some b) → P
no_block b e = absurd cc

pub block_inside : (a b : ℕ) → ◌≡◌ {A = Option ℕ} (Some a) (Some b) → a ≡ b
block_inside a b e = cc

pub at_in : (bs : List ℕ) (i b : ℕ) → slice_get bs i ≡ Some b → is_in b bs ≡ true
at_in [] i b h = absurd (let z : ◌≡◌ {A = Option ℕ} None (Some b) = h in cc)
at_in (x ∷ bs) zero b h = or_left (eqb x b) _ (eq-eqb x b (let z : ◌≡◌ {A = Option ℕ} (Some x) (Some b) = h in cc))
at_in (x ∷ bs) (suc i) b h = or_right (eqb x b) _ (at_in bs i b h)

pub at_within : (bs : List ℕ) (i b : ℕ) → slice_get bs i ≡ Some b → i < length bs
at_within [] i b h = absurd (let z : ◌≡◌ {A = Option ℕ} None (Some b) = h in cc)
at_within (x ∷ bs) zero b h = omega arith
at_within (x ∷ bs) (suc i) b h = (let k = at_within bs i b h in omega (arith, k))

pub at_same : (bs : List ℕ) (i b c : ℕ) → slice_get bs i ≡ Some b → slice_get bs i ≡ Some c → b ≡ c
at_same bs i b c h k = (let z : ◌≡◌ {A = Option ℕ} (Some b) (Some c) = sym h ∙ k in cc)
