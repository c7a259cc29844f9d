-- A search goes over the data blocks of a table, by position.
use Rattle.std.proofs.Common.{◌≡◌, ℕ, zero, suc, ◌+◌, ◌<◌, ◌≤◌, min, true, leb, List, [], ◌∷◌, length, slice_get, Option, Some, None, refl, sym, ◌∙◌, ap, subst, arith, inl, inr, leb-true, leb-false, lt-ltb, le-leb}
use Rattle.std.specs.Prelude.{Result, Ok, Err, IfOk}
use Rattle.seg_words.proofs.Lemmas.{cases_Bool, and_from}
use Rattle.seg_words.specs.Types.{Shape, Rowid, first_block, is_shape}
use Rattle.redo_model.specs.Records.{Record}
use Rattle.redo_model.specs.Model.{commit_count, Extent, extents_of, extent_at, in_extent, data_blocks, high_mark, at_place, IsTable, IsLawful}
use Rattle.data_places.specs.declared.place.Place.{Place as DataPlace}
use Rattle.data_places.specs.Places.{IsPlace, data_count}
use Rattle.data_places.proofs.PlacesLaw.{counts_are_told, places_are_told}
use Rattle.version_laws.specs.Types.{HoldsTable}
use Rattle.segment_read.specs.Segments.{IsSegment}
use Rattle.change_laws.specs.Types.{IsOwn}
use Rattle.place_laws.specs.Located.{NoneBefore, GivesNone, IsSeenAt, IsLocated}
use Rattle.place_laws.proofs.LocatedLaw.{searches_end, given_are_at_home, located_are_found}
use Rattle.row_change.specs.declared.place.Place.{Place}
use Rattle.row_change.specs.declared.sight.Search.{Search}
use Rattle.row_change.specs.declared.sight.Sight.{Sight}
use Rattle.row_change.specs.Locating.{IsSearch, IsSearchFor, IsBlockAt, IsSeenIn, IsPlaceOf, NoneFrom, NoneBelow, SeesFor, SeesIn, FindsIn, FindsAt, Locates}

-- the same search of the store after a call on it
pub search_at : (a b : Shape) (R : List Record) (o : ℕ) (q : Search) → b ≡ a → IsSearch a R o q → IsSearch b R o q
search_at a b R o q e h = subst (λ (z : Shape). IsSearch z R o q) (sym e) h

-- slots of a block

pub none_more : (R : List Record) (q : Search) (row b k : ℕ) → NoneBelow R q row b k → SeesFor R q.own row (at_place b k) None → NoneBelow R q row b (k + 1)
none_more R q row b k h n = λ j l. elim (cases_Bool (leb k j)) [
  | inr f ↦ h j (leb-false k j f)
  | inl y ↦ (let m = leb-true k j y in let same : k ≡ j = omega (arith, l, m) in subst (λ x. SeesFor R q.own row (at_place b x) None) same n)
]

pub none_in : (R : List Record) (q : Search) (row b count end : ℕ) → NoneBelow R q row b end → NoneFrom R q b count → count ≤ end → SeesIn R q row b None
none_in R q row b count end h n all = λ k bytes e. elim (cases_Bool (leb count k)) [
  | inr f ↦ (let l = leb-false count k f in h k (omega (arith, l, all)) bytes e)
  | inl y ↦ n k (leb-true count k y) row bytes e
]

pub seen_in : (R : List Record) (q : Search) (row b k : ℕ) (x : Sight) → SeesFor R q.own row (at_place b k) (Some x) → SeesIn R q row b (Some x)
seen_in R q row b k x v = record { block = ap (λ (p : Rowid). p.dba) v.at_is; seen = subst (λ (p : Rowid). IsSeenAt R q.own row p x.undo x.head) (sym v.at_is) v.seen }

-- positions

pub record ExtentThere (es : List Extent) (i : ℕ) : Type 0 where
  pub extent : Extent
  pub at : extent_at es i ≡ Some extent

pub extent_there : (es : List Extent) (i : ℕ) → i < length es → ExtentThere es i
extent_there [] i l = absurd (omega (arith, l))
extent_there (e ∷ es) zero l = record { extent = e; at = refl }
extent_there (e ∷ es) (suc i) l = let t = extent_there es i (omega (arith, l)) in record { extent = t.extent; at = t.at }

within : (sh : Shape) (x n : ℕ) → n < sh.extent → in_extent sh x (first_block sh x + n) ≡ true
within sh x n l = and_from _ _ (le-leb (first_block sh x) (first_block sh x + n) (omega arith)) (lt-ltb (first_block sh x + n) (first_block sh x + sh.extent) (omega (arith, l)))

-- the block at a place: the extent, and where it stands there
pub record StandsAt (sh : Shape) (R : List Record) (o : ℕ) (p : DataPlace) (position : ℕ) : Type 0 where
  pub extent : Extent
  pub at : extent_at (extents_of R o) p.index ≡ Some extent
  pub nth : p.nth < sh.extent
  pub block : IsBlockAt sh R o p position (first_block sh extent.number + p.nth)

pub stands_at : (sh : Shape) (R : List Record) (o : ℕ) (p : DataPlace) (position : ℕ) → IsPlace sh (length (extents_of R o)) p position → StandsAt sh R o p position
stands_at sh R o p position h =
    let t = extent_there (extents_of R o) p.index h.there in
    record {
      extent = t.extent;
      at = t.at;
      nth = h.within;
      block = record { extent = t.extent; at = t.at; has = within sh t.extent.number p.nth h.within; block = places_are_told sh (extents_of R o) p position t.extent h t.at };
    }

pub block_is : (sh : Shape) (R : List Record) (o : ℕ) (p : DataPlace) (position d : ℕ) (s : StandsAt sh R o p position) → d ≡ first_block sh s.extent.number + p.nth → IsBlockAt sh R o p position d
block_is sh R o p position d s e = subst (IsBlockAt sh R o p position) (sym e) s.block

-- what a block gives is what its position does

same_block : (xs : List ℕ) (i b c : ℕ) → slice_get xs i ≡ Some b → slice_get xs i ≡ Some c → b ≡ c
same_block xs i b c p q = let z : ◌≡◌ {A = Option ℕ} (Some b) (Some c) = sym p ∙ q in cc

pub finds_at : (R : List Record) (q : Search) (o row : ℕ) (p : DataPlace) (position b : ℕ) (x : Option Place) → IsBlockAt q.shape R o p position b → FindsIn R q o row b x → FindsAt R q o row position x
finds_at R q o row p position b None s h = λ c e. subst (GivesNone R q.own row) (same_block (data_blocks q.shape R o) position b c s.block e) h
finds_at R q o row p position b (Some x) s h = h

pub none_at : (R : List Record) (q : Search) (o row position : ℕ) → NoneBefore q.shape R q.own o row position → FindsAt R q o row position None → NoneBefore q.shape R q.own o row (position + 1)
none_at R q o row position h f = λ i b l e. elim (cases_Bool (leb position i)) [
  | inr n ↦ h i b (leb-false position i n) e
  | inl y ↦ (let m = leb-true position i y in let same : i ≡ position = omega (arith, l, m) in f b (ap (slice_get (data_blocks q.shape R o)) (sym same) ∙ e))
]

pub none_first : (R : List Record) (q : Search) (o row : ℕ) → NoneBefore q.shape R q.own o row 0
none_first R q o row = λ i b l e. absurd (omega (arith, l))

-- where the high mark is reached, or the last data block was read

ends : (sh : Shape) (R : List Record) (o row : ℕ) (q : Search) (end : ℕ) → IsSearch sh R o q → NoneBefore q.shape R q.own o row end → min (high_mark R o) (length (data_blocks q.shape R o)) ≤ end → Locates q.shape R q.own o row None
ends sh R o row q end h n l = searches_end q.shape R q.own o row end h.lawful.allowed h.own_is h.there n l

pub ends_at_high : (sh : Shape) (R : List Record) (o row : ℕ) (q : Search) (end : ℕ) → IsSearch sh R o q → NoneBefore q.shape R q.own o row end → q.segment.high ≤ end → Locates q.shape R q.own o row None
ends_at_high sh R o row q end h n l = let e = h.segment_is.high in ends sh R o row q end h n (omega (arith, l, e))

pub ends_at_last : (sh : Shape) (R : List Record) (o row : ℕ) (q : Search) (end : ℕ) → IsSearch sh R o q → NoneBefore q.shape R q.own o row end → data_count q.shape q.segment.extents ≤ end → Locates q.shape R q.own o row None
ends_at_last sh R o row q end h n l =
    let c = counts_are_told q.shape (extents_of R o) in
    let e : data_count q.shape q.segment.extents ≡ data_count q.shape (length (extents_of R o)) = ap (data_count q.shape) h.segment_is.extents in
    ends sh R o row q end h n (omega (arith, l, c, e))

-- the next place, whichever table has so many extents
pub place_in : (sh : Shape) (R : List Record) (o : ℕ) (q : Search) (p : DataPlace) (position : ℕ) → IsSearch sh R o q → IsPlace q.shape q.segment.extents p position → IsPlace q.shape (length (extents_of R o)) p position
place_in sh R o q p position h w = subst (λ n. IsPlace q.shape n p position) h.segment_is.extents w

-- the place of a row

pub place_is : (sh : Shape) (R : List Record) (o row : ℕ) (q : Search) (here : DataPlace) (position b born : ℕ) (x : Sight) → IsSearch sh R o q → (s : IsBlockAt q.shape R o here position b) → IsSeenIn R q.own row b x → born ≡ s.extent.incarnation
    → IsPlaceOf q.shape R q.own o row (record { at = x.at; born = born; undo = x.undo; start = q.start; head = x.head })
place_is sh R o row q here position b born x h s v e =
    let at : slice_get (data_blocks q.shape R o) position ≡ Some x.at.dba = s.block ∙ ap (λ c. Some c) (sym v.block) in
    let located : IsLocated q.shape R q.own o row x.at born x.undo q.start x.head = record {
      here = given_are_at_home q.shape R q.own o row position x.at v.seen.bytes h.lawful.allowed h.there at v.seen.row;
      born_now = record { index = here.index; extent = s.extent; at = s.at; has = subst (λ c. in_extent q.shape s.extent.number c ≡ true) (sym v.block) s.has; born_is = sym e };
      seen = v.seen;
      start_is = h.start_is;
    } in
    record { located = located; found = (located_are_found q.shape R q.own o row x.at born x.undo q.start x.head h.lawful.allowed h.own_is h.there located).found }

-- for the row that was asked for
pub locates_for : (sh : Shape) (R : List Record) (o n : ℕ) (own : Option ℕ) (q : Search) (x : Option Place) → IsSearchFor sh R o own q → Locates q.shape R q.own o n x → Locates sh R own o n x
locates_for sh R o n own q x h l =
    subst (λ (z : Shape). Locates z R own o n x) h.search.shape_is (subst (λ (z : Option ℕ). Locates q.shape R z o n x) h.own_is l)

-- the first block of an extent, in the store's own shape
pub first_at : (a b : Shape) (R : List Record) (o : ℕ) (q : Search) (e : Extent) (d : ℕ) → b ≡ a → IsSearch a R o q → d ≡ first_block q.shape e.number + 0 → d ≡ first_block b e.number
first_at a b R o q e d same h is = is ∙ (let z : first_block q.shape e.number + 0 ≡ first_block q.shape e.number = omega arith in z) ∙ ap (λ (z : Shape). first_block z e.number) (h.shape_is ∙ sym same)

pub finds_told : {E : Type 0} (R : List Record) (q : Search) (o row : ℕ) (p : DataPlace) (position b : ℕ) (r : Result (Option Place) E) → IsBlockAt q.shape R o p position b → IfOk r (FindsIn R q o row b) → IfOk r (FindsAt R q o row position)
finds_told R q o row p position b (Ok x) s h = finds_at R q o row p position b x s h
finds_told R q o row p position b (Err f) s h = tt

pub locates_told : {E : Type 0} (sh : Shape) (R : List Record) (o n : ℕ) (own : Option ℕ) (q : Search) (r : Result (Option Place) E) → IsSearchFor sh R o own q → IfOk r (Locates q.shape R q.own o n) → IfOk r (Locates sh R own o n)
locates_told sh R o n own q (Ok x) h l = locates_for sh R o n own q x h l
locates_told sh R o n own q (Err f) h l = tt

-- what is read of a store for a search
pub searched : (sh mid : Shape) (R : List Record) (o : ℕ) (own : Option ℕ) (q : Search) → q.shape ≡ sh → mid ≡ sh → is_shape sh ≡ true → IsLawful sh R → IsTable R o → IsOwn R own → HoldsTable R q.table → q.start ≡ commit_count R → IsSegment mid R o q.segment → q.own ≡ own
    → IsSearchFor sh R o own q
searched sh mid R o own q e m w l i u t s g v = record {
  search = record {
    shape_is = e;
    within = ap is_shape e ∙ w;
    lawful = subst (λ (z : Shape). IsLawful z R) (sym e) l;
    there = i;
    own_is = subst (IsOwn R) (sym v) u;
    txns = t;
    start_is = s;
    segment_is = subst (λ (z : Shape). IsSegment z R o q.segment) (m ∙ sym e) g;
  };
  own_is = v;
}
