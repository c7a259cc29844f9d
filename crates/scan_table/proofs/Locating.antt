-- The data blocks of a table by position, and which of them are formatted.
use Rattle.std.proofs.Common.{◌≡◌, ℕ, zero, suc, ◌+◌, ◌-◌, ◌<◌, ◌≤◌, true, cond, eqb, ltb, List, [], ◌∷◌, ◌++◌, length, take, slice_get, Option, Some, None, MatchOption, refl, sym, ◌∙◌, ap, subst, arith, inl, inr, leb-true, lt-ltb, eq-eqb, ne_eqb}
use Rattle.std.specs.Prelude.{Result, Ok, filter}
use Rattle.seg_words.proofs.Lemmas.{cond-true, cond-false, cases_Bool, filter-append, or_left, or_right}
use Rattle.seg_words.specs.Types.{Shape, MOST_EXTENT_BLOCKS, first_block, head_blocks, is_extent}
use Rattle.disk_model.specs.Crash.{Meaning}
use Rattle.redo_model.specs.Records.{Record}
use Rattle.redo_model.specs.Model.{Extent, blocks_from, code_of, data_blocks, extent_at, extent_data, extents_of, has_extent, high_mark, is_formatted, AreAllowed}
use Rattle.redo_laws.specs.Among.{is_in}
use Rattle.redo_laws.specs.Scan.{scan_list}
use Rattle.redo_laws.proofs.numbers.Bounds.{limits}
use Rattle.mark_laws.proofs.ThereLaw.{codes_tell, tables_have_extents}
use Rattle.data_places.specs.declared.place.Place.{Place}
use Rattle.data_places.specs.Places.{IsPlace, block_or_none, data_count}
use Rattle.data_places.proofs.PlacesLaw.{counts_are_told, places_are_told}
use Rattle.segment_read.specs.Segments.{IsSegment, number_at}
use Rattle.store_core.specs.Store.{Held, IsTrue}
use Rattle.store_core.specs.Causes.{HasLooked}
use Rattle.store_core.specs.declared.fault.StoreFault.{StoreFault}
use Rattle.store_core.proofs.Lookups.{looked_on}
use Rattle.scan_table.specs.declared.listing.Listing.{Listing}
use Rattle.scan_table.specs.declared.listing.FoundBlock.{FoundBlock}
use Rattle.scan_table.specs.Listing.{AddsFormatted, FormattedAt, IsFound, IsListing}
use Rattle.scan_table.proofs.Going.{append_none}

-- the store after a call, for the same table

pub listing_on : {D T : Type 0} (meaning : Meaning D) (a b : Held D) (r : Result T StoreFault) (R : List Record) (o : ℕ) (q : Listing) → HasLooked {T = T} meaning a b r → IsListing a.shape R o q → IsListing b.shape R o q
listing_on meaning a b r R o q l h = subst (λ (z : Shape). IsListing z R o q) (sym l.loan.shape) h

pub segment_given : (sh : Shape) (R : List Record) (o : ℕ) (q : Listing) → IsListing sh R o q → IsSegment sh R o q.segment
segment_given sh R o q h = subst (λ (z : Shape). IsSegment z R o q.segment) h.shape_is h.segment_is

-- blocks of extents

number_of : (es : List Extent) (index : ℕ) (e : Extent) → extent_at es index ≡ Some e → number_at es index ≡ Some e.number
number_of es index e at = rw at refl

number_has : (es : List Extent) (i x : ℕ) → number_at es i ≡ Some x → has_extent es x ≡ true
number_has [] i x h = absurd (let z : ◌≡◌ {A = Option ℕ} None (Some x) = h in cc)
number_has (e ∷ es) zero x h = let same : e.number ≡ x = (let z : ◌≡◌ {A = Option ℕ} (Some e.number) (Some x) = h in cc) in or_left _ _ (eq-eqb e.number x same)
number_has (e ∷ es) (suc i) x h = or_right (eqb e.number x) _ (number_has es i x h)

same_number : (x y : ℕ) (o : Option ℕ) → o ≡ Some x → o ≡ Some y → x ≡ y
same_number x y o p q = let z : ◌≡◌ {A = Option ℕ} (Some x) (Some y) = sym p ∙ q in cc

block_is : (sh : Shape) (x n d : ℕ) → block_or_none sh x n ≡ Some d → d ≡ first_block sh x + n
block_is sh x n d h = elim (cases_Bool (ltb (first_block sh x + n) sh.blocks)) [
  | inl y ↦ (let z : ◌≡◌ {A = Option ℕ} (Some (first_block sh x + n)) (Some d) = sym (cond-true _ _ _ y) ∙ h in cc)
  | inr f ↦ absurd (let z : ◌≡◌ {A = Option ℕ} None (Some d) = sym (cond-false _ _ _ f) ∙ h in cc)
]

pub found_is : (sh : Shape) (x n first d : ℕ) → ◌≡◌ {A = Option ℕ} (Some first) (block_or_none sh x 0) → ◌≡◌ {A = Option ℕ} (Some d) (block_or_none sh x n) → IsFound sh x n (record { first = first; dba = d })
found_is sh x n first d p q = record { first_is = (let e = block_is sh x 0 first (sym p) in omega (arith, e)); block_is = block_is sh x n d (sym q) }

pub none_there : (sh : Shape) (x n : ℕ) → is_extent sh x ≡ true → n < sh.extent → ◌≡◌ {A = Option ℕ} None (block_or_none sh x n) → ⊥
none_there sh x n w l h =
    let k = leb-true (first_block sh x + sh.extent) sh.blocks w in
    let y : ltb (first_block sh x + n) sh.blocks ≡ true = lt-ltb _ _ (omega (arith, k, l)) in
    (let z : ◌≡◌ {A = Option ℕ} (Some (first_block sh x + n)) None = sym (cond-true _ _ _ y) ∙ sym h in cc)

pub whole_told : (sh : Shape) (R : List Record) (o index x : ℕ) (q : Listing) → IsListing sh R o q → number_at (extents_of R o) index ≡ Some x → is_extent q.shape x ≡ true
whole_told sh R o index x q h at = (tables_have_extents q.shape R o h.lawful h.there).whole x (number_has (extents_of R o) index x at)

pub found_told : (sh : Shape) (R : List Record) (o index n x : ℕ) (e : Extent) (f : FoundBlock) → number_at (extents_of R o) index ≡ Some x → extent_at (extents_of R o) index ≡ Some e → IsFound sh x n f → IsFound sh e.number n f
found_told sh R o index n x e f told at h = subst (λ z. IsFound sh z n f) (same_number x e.number (number_at (extents_of R o) index) told (number_of (extents_of R o) index e at)) h

pub at_within : (es : List Extent) (i : ℕ) (e : Extent) → extent_at es i ≡ Some e → i < length es
at_within [] i e a = absurd (let x : ◌≡◌ {A = Option Extent} None (Some e) = a in cc)
at_within (x ∷ es) zero e a = omega arith
at_within (x ∷ es) (suc i) e a = (let k = at_within es i e a in omega (arith, k))

-- the block at a position

record ExtentThere (es : List Extent) (i : ℕ) : Type 0 where
  extent : Extent
  at : extent_at es i ≡ Some extent

extent_there : (es : List Extent) (i : ℕ) → i < length es → ExtentThere es i
extent_there [] i l = absurd (omega (arith, l))
extent_there (e ∷ es) zero l = record { extent = e; at = refl }
extent_there (e ∷ es) (suc i) l = let t = extent_there es i (omega (arith, l)) in record { extent = t.extent; at = t.at }

in_from : (b n k : ℕ) → k < n → is_in (b + k) (blocks_from b n) ≡ true
in_from b zero k l = absurd (omega (arith, l))
in_from b (suc n) zero l = or_left _ _ (eq-eqb b (b + 0) (omega arith))
in_from b (suc n) (suc k) l = or_right (eqb b (b + suc k)) _ (subst (λ c. is_in c (blocks_from (suc b) n) ≡ true) (let e : suc b + k ≡ b + suc k = omega arith in e) (in_from (suc b) n k (omega (arith, l))))

data_in : (sh : Shape) (index x nth : ℕ) → head_blocks index ≤ nth → nth < sh.extent → is_in (first_block sh x + nth) (extent_data sh index x) ≡ true
data_in sh index x nth l u =
    subst (λ c. is_in c (extent_data sh index x) ≡ true) (let z : first_block sh x + head_blocks index + (nth - head_blocks index) ≡ first_block sh x + nth = omega (arith, l) in z)
    (in_from (first_block sh x + head_blocks index) (sh.extent - head_blocks index) (nth - head_blocks index) (omega (arith, l, u)))

pub record StandsAt (R : List Record) (o : ℕ) (q : Listing) (p : Place) (position : ℕ) : Type 0 where
  pub extent : Extent
  pub at : extent_at (extents_of R o) p.index ≡ Some extent
  pub nth : p.nth < q.shape.extent
  pub few : p.nth < MOST_EXTENT_BLOCKS
  pub among : is_in (first_block q.shape extent.number + p.nth) (extent_data q.shape p.index extent.number) ≡ true
  pub block : slice_get (data_blocks q.shape R o) position ≡ Some (first_block q.shape extent.number + p.nth)

pub stands_at : (sh : Shape) (R : List Record) (o : ℕ) (q : Listing) (p : Place) (position : ℕ) → IsListing sh R o q → IsPlace q.shape q.segment.extents p position → StandsAt R o q p position
stands_at sh R o q p position h w =
    let place : IsPlace q.shape (length (extents_of R o)) p position = subst (λ n. IsPlace q.shape n p position) h.segment_is.extents w in
    let t = extent_there (extents_of R o) p.index place.there in
    let m = (limits q.shape h.within).extent_to in
    let u = w.within in
    record {
      extent = t.extent;
      at = t.at;
      nth = w.within;
      few = omega (arith, m, u);
      among = data_in q.shape p.index t.extent.number p.nth w.past w.within;
      block = places_are_told q.shape (extents_of R o) p position t.extent place t.at;
    }

-- its code

pub first_at : (a b : Shape) (e : Extent) (q : Listing) (d : ℕ) → b ≡ a → q.shape ≡ a → d ≡ first_block q.shape e.number → d ≡ first_block b e.number
first_at a b e q d same given is = is ∙ ap (λ (z : Shape). first_block z e.number) (given ∙ sym same)

pub data_at : (a b : Shape) (e : Extent) (q : Listing) (index nth first : ℕ) → b ≡ a → q.shape ≡ a → first ≡ first_block q.shape e.number → is_in (first_block q.shape e.number + nth) (extent_data q.shape index e.number) ≡ true → is_in (first + nth) (extent_data b index e.number) ≡ true
data_at a b e q index nth first same given is h =
    subst (λ (z : Shape). is_in (first + nth) (extent_data z index e.number) ≡ true) (given ∙ sym same)
    (subst (λ d. is_in (d + nth) (extent_data q.shape index e.number) ≡ true) (sym is) h)

pub code_at : (a b : Shape) (R : List Record) (e : Extent) (q : Listing) (nth first dba code : ℕ) → b ≡ a → q.shape ≡ a → IsFound q.shape e.number nth (record { first = first; dba = dba }) → code ≡ code_of b R (first + nth) → code ≡ code_of q.shape R dba
code_at a b R e q nth first dba code same given f is =
    is ∙ ap (λ (z : Shape). code_of z R (first + nth)) (same ∙ sym given) ∙ ap (code_of q.shape R) (ap (λ d. d + nth) f.first_is ∙ sym f.block_is)

some_is : (x y : ℕ) → ◌≡◌ {A = Option ℕ} (Some x) (Some y) → x ≡ y
some_is x y e = cc

code_tells : (sh : Shape) (R : List Record) (b code : ℕ) → AreAllowed sh R → code ≡ code_of sh R b → cond (eqb code 0) None (Some b) ≡ cond (is_formatted sh R b) (Some b) None
code_tells sh R b code h e = elim (cases_Bool (is_formatted sh R b)) [
  | inl y ↦ (let k = (codes_tell sh R b h).formatted y in let l = k.0 in cond-false _ _ _ (ne_eqb code 0 (λ z. omega (arith, z, e, l))) ∙ sym (cond-true _ _ _ y))
  | inr n ↦ (let z = (codes_tell sh R b h).unformatted n in cond-true _ _ _ (eq-eqb code 0 (e ∙ z)) ∙ sym (cond-false _ _ _ n))
]

pub formatted_told : (sh : Shape) (R : List Record) (o : ℕ) (q : Listing) (p : Place) (position dba code : ℕ) (x : Option ℕ) → IsListing sh R o q → (s : StandsAt R o q p position) → dba ≡ first_block q.shape s.extent.number + p.nth → code ≡ code_of q.shape R dba → x ≡ cond (eqb code 0) None (Some dba) → FormattedAt q.shape R o position x
formatted_told sh R o q p position dba code x h s is e c = λ b at.
    let same : dba ≡ b = is ∙ some_is _ _ (sym s.block ∙ at) in
    c ∙ code_tells q.shape R dba code h.lawful.allowed e ∙ ap (λ d. cond (is_formatted q.shape R d) (Some d) None) same

-- it is added

pub none_added : (sh : Shape) (R : List Record) (o n : ℕ) (old : List ℕ) → FormattedAt sh R o n None → AddsFormatted sh R o n old old
none_added sh R o n old h = λ b at. elim (cases_Bool (is_formatted sh R b)) [
  | inl y ↦ absurd (let z : ◌≡◌ {A = Option ℕ} None (Some b) = h b at ∙ cond-true _ _ _ y in cc)
  | inr f ↦ sym (append_none old) ∙ ap (λ (xs : List ℕ). old ++ xs) (sym (cond-false _ _ _ f))
]

pub one_added : (sh : Shape) (R : List Record) (o n d : ℕ) (old new : List ℕ) → FormattedAt sh R o n (Some d) → new ≡ old ++ d ∷ [] → AddsFormatted sh R o n old new
one_added sh R o n d old new h e = λ b at. elim (cases_Bool (is_formatted sh R b)) [
  | inl y ↦ (let same : d ≡ b = some_is d b (h b at ∙ cond-true _ _ _ y) in e ∙ ap (λ (c : ℕ). old ++ c ∷ []) same ∙ ap (λ (xs : List ℕ). old ++ xs) (sym (cond-true _ _ _ y)))
  | inr f ↦ absurd (let z : ◌≡◌ {A = Option ℕ} (Some d) None = h b at ∙ cond-false _ _ _ f in cc)
]

-- position by position

pub record Listed {D : Type 0} (meaning : Meaning D) (start now : Held D) (q : Listing) (next : Option Place) (position : ℕ) (blocks : List ℕ) : Type 0 where
  pub looked : HasLooked {T = Unit {0}} meaning start now (Ok tt)
  pub place : MatchOption next (data_count q.shape q.segment.extents ≤ position) (λ p. IsPlace q.shape q.segment.extents p position)
  pub listed : (R : List Record) (o : ℕ) → IsTrue meaning R start → IsListing start.shape R o q → blocks ≡ filter (λ b. is_formatted q.shape R b) (take position (data_blocks q.shape R o))

take_one : (xs : List ℕ) (n b : ℕ) → slice_get xs n ≡ Some b → take (suc n) xs ≡ take n xs ++ b ∷ []
take_one [] n b e = absurd (let z : ◌≡◌ {A = Option ℕ} None (Some b) = e in cc)
take_one (x ∷ xs) zero b e = ap (λ (z : ℕ). z ∷ []) (some_is x b e)
take_one (x ∷ xs) (suc n) b e = ap (λ (ys : List ℕ). x ∷ ys) (take_one xs n b e)

take_past : (xs : List ℕ) (n : ℕ) → length xs ≤ n → take n xs ≡ xs
take_past [] zero l = refl
take_past [] (suc n) l = refl
take_past (x ∷ xs) zero l = absurd (omega (arith, l))
take_past (x ∷ xs) (suc n) l = ap (λ (ys : List ℕ). x ∷ ys) (take_past xs n (omega (arith, l)))

pub listed_next : {D : Type 0} (meaning : Meaning D) (start mid now : Held D) (q : Listing) (here : Place) (next : Option Place) (position : ℕ) (old new : List ℕ) → HasLooked {T = Unit {0}} meaning start mid (Ok tt) → IsPlace q.shape q.segment.extents here position
    → ((R : List Record) (o : ℕ) → IsTrue meaning R start → IsListing start.shape R o q → old ≡ filter (λ b. is_formatted q.shape R b) (take position (data_blocks q.shape R o))) → HasLooked {T = Unit {0}} meaning mid now (Ok tt)
    → MatchOption next (data_count q.shape q.segment.extents ≤ position + 1) (λ p. IsPlace q.shape q.segment.extents p (position + 1))
    → ((R : List Record) (o : ℕ) → IsTrue meaning R mid → IsListing mid.shape R o q → AddsFormatted q.shape R o position old new) → Listed meaning start now q next (position + 1) new
listed_next meaning start mid now q here next position old new looked w listed l p says = record {
  looked = looked_on meaning start mid now tt (Ok tt) looked l;
  place = p;
  listed = λ R o t h.
      let s = stands_at start.shape R o q here position h w in
      let b = first_block q.shape s.extent.number + here.nth in
      let f = λ (c : ℕ). is_formatted q.shape R c in
      let after : suc position ≡ position + 1 = omega arith in
      says R o (looked.stays_true R t) (listing_on meaning start mid (Ok tt) R o q looked h) b s.block
      ∙ ap (λ (xs : List ℕ). xs ++ filter f (b ∷ [])) (listed R o t h)
      ∙ sym (filter-append f (take position (data_blocks q.shape R o)) (b ∷ []))
      ∙ ap (filter f) (sym (take_one (data_blocks q.shape R o) position b s.block) ∙ ap (λ n. take n (data_blocks q.shape R o)) after);
}

pub listed_all : (sh : Shape) (R : List Record) (o : ℕ) (q : Listing) (position : ℕ) (blocks : List ℕ) → IsListing sh R o q → blocks ≡ filter (λ b. is_formatted q.shape R b) (take position (data_blocks q.shape R o)) → q.segment.high ≡ position → blocks ≡ scan_list q.shape R o
listed_all sh R o q position blocks h e l = e ∙ ap (λ n. filter (λ b. is_formatted q.shape R b) (take n (data_blocks q.shape R o))) (sym l ∙ h.segment_is.high)

pub listed_short : (sh : Shape) (R : List Record) (o : ℕ) (q : Listing) (position : ℕ) (blocks : List ℕ) → IsListing sh R o q → blocks ≡ filter (λ b. is_formatted q.shape R b) (take position (data_blocks q.shape R o)) → position ≤ q.segment.high → data_count q.shape q.segment.extents ≤ position
    → blocks ≡ scan_list q.shape R o
listed_short sh R o q position blocks h e l u =
    let c = counts_are_told q.shape (extents_of R o) in
    let n : data_count q.shape q.segment.extents ≡ data_count q.shape (length (extents_of R o)) = ap (data_count q.shape) h.segment_is.extents in
    let high = h.segment_is.high in
    e ∙ ap (filter (λ b. is_formatted q.shape R b)) (take_past (data_blocks q.shape R o) position (omega (arith, c, n, u)) ∙ sym (take_past (data_blocks q.shape R o) (high_mark R o) (omega (arith, c, n, u, l, high))))

-- of the place that is next, whether there is one
pub place_now : (q : Listing) (next is : Option Place) (position : ℕ) → next ≡ is → MatchOption next (data_count q.shape q.segment.extents ≤ position) (λ p. IsPlace q.shape q.segment.extents p position)
    → MatchOption is (data_count q.shape q.segment.extents ≤ position) (λ p. IsPlace q.shape q.segment.extents p position)
place_now q next is position e h = subst (λ (o : Option Place). MatchOption o (data_count q.shape q.segment.extents ≤ position) (λ p. IsPlace q.shape q.segment.extents p position)) e h
