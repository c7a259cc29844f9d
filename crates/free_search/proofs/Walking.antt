-- A walk over a table's blocks, one by one.
use Rattle.std.proofs.Common.{◌≡◌, ◌⊎◌, ℕ, zero, suc, ◌+◌, ◌-◌, ◌*◌, ◌<◌, ◌≤◌, min, Bool, true, false, leb, leb-true, leb-false, inl, inr, List, length, take, find, Option, Some, None, Ok, refl, sym, ◌∙◌, ap, subst, arith}
use Rattle.seg_words.proofs.Lemmas.{cases_Bool}
use Rattle.seg_words.specs.Types.{Shape, EXTENTS_OF_L2, MOST_EXTENTS, head_blocks}
use Rattle.disk_model.specs.Crash.{Meaning}
use Rattle.redo_model.specs.Records.{Record}
use Rattle.redo_model.specs.Model.{Extent, extents_of, data_blocks, group_start, under_high}
use Rattle.space_laws.proofs.MarksLaw.{marks_are_in_order, tables_are_few}
use Rattle.data_places.specs.Places.{data_count}
use Rattle.data_places.proofs.PlacesLaw.{counts_are_told}
use Rattle.page_says.proofs.Groups.{group_number}
use Rattle.store_core.specs.Store.{Held, IsTrue}
use Rattle.store_core.specs.Causes.{HasLooked, IsSoundFault}
use Rattle.store_core.specs.declared.fault.StoreFault.{StoreFault}
use Rattle.store_core.proofs.Lookups.{looked_on, looked_ok, looked_same}
use Rattle.free_search.specs.declared.look.Look.{Look}
use Rattle.free_search.specs.declared.look.Wanted.{Wanted}
use Rattle.free_search.specs.Looks.{Knows, IsFirstBlock, NoneInGroup, NoneInRun, passes, passes_in, row_sought, found_if}
use Rattle.free_search.specs.Walks.{NoneOf, IsFirstOf, NoneWithin, IsFirstWithin, FirstWithin}
use Rattle.free_search.proofs.Known.{Fixed, fixed, knows_later}
use Rattle.free_search.proofs.Extents.{none_in_extents}
use Rattle.free_search.proofs.Lists.{none_found, one_found, none_further, none_passed, none_past, none_shorter, none_under, first_further, first_longer}

-- ---- the blocks of one extent

abbrev passing : List Record → Look → Wanted → ℕ → Bool
passing R l w = passes l.shape R (row_sought l) w

-- none of those before this number passes
pub record Tried {D : Type 0} (meaning : Meaning D) (a b : Held D) (l : Look) (w : Wanted) (first from to nth : ℕ) : Type 0 where
  pub looked : HasLooked {T = Unit {0}} meaning a b (Ok tt)
  pub least : from ≤ nth
  pub none : (R : List Record) (index : ℕ) (e : Extent) → IsTrue meaning R a → Knows a.shape R l → IsFirstBlock l.shape R l.segment.obj index e first → head_blocks index ≤ from → to ≤ l.shape.extent → NoneOf (passing R l w) first from nth

pub tried_none : {D : Type 0} (meaning : Meaning D) (a : Held D) (l : Look) (w : Wanted) (first from to : ℕ) → a.fault ≡ None → Tried meaning a a l w first from to from
tried_none meaning a l w first from to n = record { looked = looked_same meaning a tt n; least = omega arith; none = λ R index e t k f h m i least below. absurd (omega (arith, least, below)) }

pub not_found : (v : Bool) (b : ℕ) → None ≡ found_if v b → v ≡ false
not_found true b e = absurd (let z : ◌≡◌ {A = Option ℕ} None (Some b) = e in cc)
not_found false b e = refl

pub record WasFound (v : Bool) (b c : ℕ) : Type 0 where
  pub passes : v ≡ true
  pub block : c ≡ b

pub was_found : (v : Bool) (b c : ℕ) → Some c ≡ found_if v b → WasFound v b c
was_found true b c e = record { passes = refl; block = (let z : ◌≡◌ {A = Option ℕ} (Some c) (Some b) = e in cc) }
was_found false b c e = absurd (let z : ◌≡◌ {A = Option ℕ} (Some c) None = e in cc)

-- what the code says of one block
abbrev pub Says : {D : Type 0} → Meaning D → Held D → Look → Wanted → ℕ → ℕ → Option ℕ → Type 0
Says meaning b l w first nth r = (R : List Record) (index : ℕ) (e : Extent) → IsTrue meaning R b → Knows b.shape R l → IsFirstBlock l.shape R l.segment.obj index e first → head_blocks index ≤ nth → nth < l.shape.extent → r ≡ found_if (passing R l w (first + nth)) (first + nth)

pub tried_next : {D : Type 0} (meaning : Meaning D) (a b c : Held D) (l : Look) (w : Wanted) (first from to nth : ℕ) → nth < to → Tried meaning a b l w first from to nth → HasLooked {T = Option ℕ} meaning b c (Ok None) → Says meaning b l w first nth None → Tried meaning a c l w first from to (nth + 1)
tried_next {D} meaning a b c l w first from to nth less t p says = record {
  looked = looked_ok meaning a c None tt (looked_on meaning a b c tt (Ok None) t.looked p);
  least = (let m = t.least in omega (arith, m));
  none = next;
}
  where
    next : (R : List Record) (index : ℕ) (e : Extent) → IsTrue meaning R a → Knows a.shape R l → IsFirstBlock l.shape R l.segment.obj index e first → head_blocks index ≤ from → to ≤ l.shape.extent → NoneOf (passing R l w) first from (nth + 1)
    next R index e h k f head m i least below = elim (cases_Bool (leb nth i)) [
      | inl y ↦
          let up = leb-true nth i y in
          let same : nth ≡ i = omega (arith, up, below) in
          let start = t.least in
          subst (λ n. passing R l w (first + n) ≡ false) same (not_found _ (first + nth) (says R index e (t.looked.stays_true R h) (knows_later meaning a b R l t.looked.loan k) f (omega (arith, head, start)) (omega (arith, less, m))))
      | inr n ↦ t.none R index e h k f head m i least (leb-false nth i n)
    ]

pub tried_found : {D : Type 0} (meaning : Meaning D) (a b : Held D) (l : Look) (w : Wanted) (first from to nth d : ℕ) (R : List Record) (index : ℕ) (e : Extent) → nth < to → Tried meaning a b l w first from to nth → Says meaning b l w first nth (Some d)
    → IsTrue meaning R a → Knows a.shape R l → IsFirstBlock l.shape R l.segment.obj index e first → head_blocks index ≤ from → to ≤ l.shape.extent → IsFirstOf (passing R l w) first from to d
tried_found meaning a b l w first from to nth d R index e less t says h k f head m =
    let start = t.least in
    let found = was_found _ (first + nth) d (says R index e (t.looked.stays_true R h) (knows_later meaning a b R l t.looked.loan k) f (omega (arith, head, start)) (omega (arith, less, m))) in
    record { nth = nth; least = start; below = less; block = found.block; passes = found.passes; none = t.none R index e h k f head m }

pub tried_fails : {D : Type 0} (meaning : Meaning D) (a b : Held D) (l : Look) (w : Wanted) (first from to nth : ℕ) (f : StoreFault) (R : List Record) (index : ℕ) (e : Extent) → nth < to → Tried meaning a b l w first from to nth
    → ((Q : List Record) (i : ℕ) (x : Extent) → IsTrue meaning Q b → Knows b.shape Q l → IsFirstBlock l.shape Q l.segment.obj i x first → head_blocks i ≤ nth → nth < l.shape.extent → b.fault ≡ None → IsSoundFault f)
    → IsTrue meaning R a → Knows a.shape R l → IsFirstBlock l.shape R l.segment.obj index e first → head_blocks index ≤ from → to ≤ l.shape.extent → IsSoundFault f
tried_fails meaning a b l w first from to nth f R index e less t sound h k first_is head m =
    let start = t.least in
    sound R index e (t.looked.stays_true R h) (knows_later meaning a b R l t.looked.loan k) first_is (omega (arith, head, start)) (omega (arith, less, m)) (t.looked.cause.kept t.looked.cause.goes_on)

pub tried_all : {D : Type 0} (meaning : Meaning D) (a b : Held D) (l : Look) (w : Wanted) (first from to nth : ℕ) (R : List Record) (index : ℕ) (e : Extent) → to ≤ nth → Tried meaning a b l w first from to nth → IsTrue meaning R a → Knows a.shape R l → IsFirstBlock l.shape R l.segment.obj index e first → head_blocks index ≤ from → to ≤ l.shape.extent → NoneOf (passing R l w) first from to
tried_all meaning a b l w first from to nth R index e end t h k f head m i least below = t.none R index e h k f head m i least (omega (arith, below, end))

-- ---- the extents of a table

abbrev passing_in : List Record → Look → Wanted → Option ℕ → ℕ → Bool
passing_in R l w only = passes_in l.shape R (row_sought l) w only

abbrev blocks : List Record → Look → List ℕ
blocks R l = data_blocks l.shape R l.segment.obj

-- counts of data blocks

counts_up : (sh : Shape) (n m : ℕ) → n ≤ m → data_count sh n ≤ data_count sh m
counts_up sh n m l = subst (λ x. data_count sh n ≤ data_count sh x) (let z : n + (m - n) ≡ m = omega (arith, l) in z) (more n (m - n))
  where
    more : (n k : ℕ) → data_count sh n ≤ data_count sh (n + k)
    more n zero = (let e : data_count sh (n + 0) ≡ data_count sh n = ap (data_count sh) (let z : n + 0 ≡ n = omega arith in z) in omega (arith, e))
    more n (suc k) =
        let m = more n k in
        let e : data_count sh (n + suc k) ≡ data_count sh (suc (n + k)) = ap (data_count sh) (let z : n + suc k ≡ suc (n + k) = omega arith in z) in
        omega (arith, m, e)

there : (R : List Record) (l : Look) (sh : Shape) (index : ℕ) → index < l.segment.extents → Knows sh R l → index < length (extents_of R l.segment.obj)
there R l sh index less k = (let n = k.segment.extents in omega (arith, less, n))

-- the first extent of a group that has one is there
pub start_below : (R : List Record) (l : Look) (sh : Shape) (start index to : ℕ) → Knows sh R l → start ≤ index → index < to → to ≤ l.segment.extents → start < length (extents_of R l.segment.obj)
start_below R l sh start index to k order range few = there R l sh start (omega (arith, order, range, few)) k

-- extents without a block that is wanted
run_none : (R : List Record) (l : Look) (sh : Shape) (w : Wanted) (only : Option ℕ) (from to : ℕ) → Fixed R l → Knows sh R l → from ≤ to → to ≤ l.segment.extents → NoneInRun l.shape R (row_sought l) w from to
    → NoneWithin (passing_in R l w only) (blocks R l) l.segment.high (data_count l.shape from) (data_count l.shape to)
run_none R l sh w only from to f k range few none =
    let n = k.segment.extents in
    let whole : from + (to - from) ≡ to = omega (arith, range) in
    subst (λ v. NoneWithin (passing_in R l w only) (blocks R l) l.segment.high (data_count l.shape from) (data_count l.shape v)) whole
    (none_in_extents R l w only from (to - from) f (omega (arith, range, few, n)) (λ index e at least below. none index e at least (omega (arith, range, below))))

-- none of the data blocks of the extents from one index on and before another passes
pub record Passed {D : Type 0} (meaning : Meaning D) (a b : Held D) (l : Look) (w : Wanted) (only : Option ℕ) (from index : ℕ) : Type 0 where
  pub looked : HasLooked {T = Unit {0}} meaning a b (Ok tt)
  pub least : from ≤ index
  pub none : (R : List Record) → IsTrue meaning R a → Knows a.shape R l → NoneWithin (passing_in R l w only) (blocks R l) l.segment.high (data_count l.shape from) (data_count l.shape index)

pub passed_none : {D : Type 0} (meaning : Meaning D) (a : Held D) (l : Look) (w : Wanted) (only : Option ℕ) (from : ℕ) → a.fault ≡ None → Passed meaning a a l w only from from
passed_none meaning a l w only from n = record { looked = looked_same meaning a tt n; least = omega arith; none = λ R t k. none_passed (passing_in R l w only) (blocks R l) l.segment.high (data_count l.shape from) (data_count l.shape from) (omega arith) }

-- what is said of the extents that are passed over
abbrev pub SaysRun : {D : Type 0} → Meaning D → Held D → Look → Wanted → ℕ → ℕ → Type 0
SaysRun meaning b l w index next = (R : List Record) → IsTrue meaning R b → Knows b.shape R l → NoneInRun l.shape R (row_sought l) w index next

pub passed_over : {D : Type 0} (meaning : Meaning D) (a b c : Held D) (l : Look) (w : Wanted) (only : Option ℕ) (from to index next : ℕ) → to ≤ l.segment.extents → Passed meaning a b l w only from index → HasLooked {T = ℕ} meaning b c (Ok next) → (index ≤ next) × (next ≤ to) → SaysRun meaning b l w index next
    → Passed meaning a c l w only from next
passed_over meaning a b c l w only from to index next few t p within says =
    let up = within.0 in
    let most = within.1 in
    record {
      looked = looked_ok meaning a c next tt (looked_on meaning a b c tt (Ok next) t.looked p);
      least = (let n = t.least in omega (arith, n, up));
      none = λ R h k. none_further (passing_in R l w only) (blocks R l) l.segment.high (data_count l.shape from) (data_count l.shape index) (data_count l.shape next) (t.none R h k)
          (run_none R l a.shape w only index next (fixed meaning a R l h k) k up (omega (arith, most, few)) (says R (t.looked.stays_true R h) (knows_later meaning a b R l t.looked.loan k)));
    }

-- what is said of one extent
abbrev pub SaysExtent : {D : Type 0} → Meaning D → Held D → Look → Wanted → Option ℕ → ℕ → ℕ → Option ℕ → Type 0
SaysExtent meaning b l w only index passed r = (R : List Record) → IsTrue meaning R b → Knows b.shape R l → index < length (extents_of R l.segment.obj) → passed ≡ data_count l.shape index → FirstWithin (passing_in R l w only) (blocks R l) l.segment.high passed (passed + (l.shape.extent - head_blocks index)) r

next_count : (sh : Shape) (index passed : ℕ) → passed ≡ data_count sh index → passed + (sh.extent - head_blocks index) ≡ data_count sh (suc index)
next_count sh index passed e = omega (arith, e)

-- by the counts of extents
counted_says : {D : Type 0} (meaning : Meaning D) (b : Held D) (l : Look) (w : Wanted) (only : Option ℕ) (index passed : ℕ) (r : Option ℕ) (R : List Record) → index < l.segment.extents → passed ≡ data_count l.shape index → SaysExtent meaning b l w only index passed r → IsTrue meaning R b → Knows b.shape R l
    → FirstWithin (passing_in R l w only) (blocks R l) l.segment.high (data_count l.shape index) (data_count l.shape (suc index)) r
counted_says meaning b l w only index passed r R less e says t k =
    subst (λ n. FirstWithin (passing_in R l w only) (blocks R l) l.segment.high (data_count l.shape index) n r) (next_count l.shape index passed e)
    (subst (λ n. FirstWithin (passing_in R l w only) (blocks R l) l.segment.high n (passed + (l.shape.extent - head_blocks index)) r) e (says R t k (there R l b.shape index less k) e))

pub passed_next : {D : Type 0} (meaning : Meaning D) (a b c : Held D) (l : Look) (w : Wanted) (only : Option ℕ) (from to index passed : ℕ) → to ≤ l.segment.extents → index < to → passed ≡ data_count l.shape index → Passed meaning a b l w only from index → HasLooked {T = Option ℕ} meaning b c (Ok None) → SaysExtent meaning b l w only index passed None
    → Passed meaning a c l w only from (index + 1)
passed_next meaning a b c l w only from to index passed few less e t p says = record {
  looked = looked_ok meaning a c None tt (looked_on meaning a b c tt (Ok None) t.looked p);
  least = (let n = t.least in omega (arith, n));
  none = λ R h k. subst (λ n. NoneWithin (passing_in R l w only) (blocks R l) l.segment.high (data_count l.shape from) (data_count l.shape n)) (let z : suc index ≡ index + 1 = omega arith in z)
      (none_further (passing_in R l w only) (blocks R l) l.segment.high (data_count l.shape from) (data_count l.shape index) (data_count l.shape (suc index)) (t.none R h k)
      (counted_says meaning b l w only index passed None R (omega (arith, less, few)) e says (t.looked.stays_true R h) (knows_later meaning a b R l t.looked.loan k)));
}

pub passed_found : {D : Type 0} (meaning : Meaning D) (a b : Held D) (l : Look) (w : Wanted) (only : Option ℕ) (from to index passed d : ℕ) (R : List Record) → to ≤ l.segment.extents → index < to → passed ≡ data_count l.shape index → Passed meaning a b l w only from index → SaysExtent meaning b l w only index passed (Some d)
    → IsTrue meaning R a → Knows a.shape R l → IsFirstWithin (passing_in R l w only) (blocks R l) l.segment.high (data_count l.shape from) (data_count l.shape to) d
passed_found meaning a b l w only from to index passed d R few less e t says h k =
    first_further (passing_in R l w only) (blocks R l) l.segment.high (data_count l.shape from) (data_count l.shape index) (data_count l.shape (suc index)) (data_count l.shape to) d (counts_up l.shape from index t.least) (counts_up l.shape (suc index) to (omega (arith, less))) (t.none R h k)
    (counted_says meaning b l w only index passed (Some d) R (omega (arith, less, few)) e says (t.looked.stays_true R h) (knows_later meaning a b R l t.looked.loan k))

pub passed_fails : {D : Type 0} (meaning : Meaning D) (a b : Held D) (l : Look) (w : Wanted) (only : Option ℕ) (from to index : ℕ) (f : StoreFault) (R : List Record) → to ≤ l.segment.extents → index < to → Passed meaning a b l w only from index
    → ((Q : List Record) → IsTrue meaning Q b → Knows b.shape Q l → index < length (extents_of Q l.segment.obj) → b.fault ≡ None → IsSoundFault f) → IsTrue meaning R a → Knows a.shape R l → IsSoundFault f
passed_fails meaning a b l w only from to index f R few less t sound h k = sound R (t.looked.stays_true R h) (knows_later meaning a b R l t.looked.loan k) (there R l a.shape index (omega (arith, less, few)) k) (t.looked.cause.kept t.looked.cause.goes_on)

pub over_fails : {D : Type 0} (meaning : Meaning D) (a b : Held D) (l : Look) (w : Wanted) (only : Option ℕ) (from index : ℕ) (f : StoreFault) (R : List Record) → Passed meaning a b l w only from index
    → ((Q : List Record) → IsTrue meaning Q b → Knows b.shape Q l → IsSoundFault f) → IsTrue meaning R a → Knows a.shape R l → IsSoundFault f
over_fails meaning a b l w only from index f R t sound h k = sound R (t.looked.stays_true R h) (knows_later meaning a b R l t.looked.loan k)

-- the high mark is reached
pub passed_high : {D : Type 0} (meaning : Meaning D) (a b : Held D) (l : Look) (w : Wanted) (only : Option ℕ) (from to index passed : ℕ) (R : List Record) → l.segment.high ≤ passed → passed ≡ data_count l.shape index → Passed meaning a b l w only from index → IsTrue meaning R a → Knows a.shape R l → NoneWithin (passing_in R l w only) (blocks R l) l.segment.high (data_count l.shape from) (data_count l.shape to)
passed_high meaning a b l w only from to index passed R end e t h k = none_under (passing_in R l w only) (blocks R l) l.segment.high (data_count l.shape from) (data_count l.shape index) (data_count l.shape to) (omega (arith, end, e)) (t.none R h k)

-- the last extent is passed
pub passed_all : {D : Type 0} (meaning : Meaning D) (a b : Held D) (l : Look) (w : Wanted) (only : Option ℕ) (from to index : ℕ) (R : List Record) → to ≤ index → Passed meaning a b l w only from index → IsTrue meaning R a → Knows a.shape R l → NoneWithin (passing_in R l w only) (blocks R l) l.segment.high (data_count l.shape from) (data_count l.shape to)
passed_all meaning a b l w only from to index R end t h k = none_shorter (passing_in R l w only) (blocks R l) l.segment.high (data_count l.shape from) (data_count l.shape index) (data_count l.shape to) (counts_up l.shape to index end) (t.none R h k)

-- ---- the groups of a table's extents

under_is : (R : List Record) (l : Look) (sh : Shape) → Knows sh R l → take l.segment.high (blocks R l) ≡ under_high l.shape R l.segment.obj
under_is R l sh k = ap (λ n. take n (blocks R l)) k.segment.high

counted : (R : List Record) (l : Look) (sh : Shape) → Knows sh R l → length (blocks R l) ≡ data_count l.shape l.segment.extents
counted R l sh k = counts_are_told l.shape (extents_of R l.segment.obj) ∙ ap (data_count l.shape) (sym k.segment.extents)

-- a group that begins past the table's last extent
pub group_past : (R : List Record) (l : Look) (sh : Shape) (w : Wanted) (only : Option ℕ) (from start to : ℕ) → Knows sh R l → l.segment.extents ≤ from → from ≡ start → NoneWithin (passing_in R l w only) (blocks R l) l.segment.high (data_count l.shape start) to
group_past R l sh w only from start to k end e =
    let all = counted R l sh k in
    let up = counts_up l.shape l.segment.extents start (omega (arith, end, e)) in
    none_past (passing_in R l w only) (blocks R l) l.segment.high (data_count l.shape start) to (omega (arith, all, up))

-- the extents of the group that the table has are all that count
pub group_whole : (R : List Record) (l : Look) (sh : Shape) (w : Wanted) (only : Option ℕ) (from start to : ℕ) (r : Option ℕ) → Knows sh R l → from ≡ start → to ≡ min (from + EXTENTS_OF_L2) l.segment.extents → FirstWithin (passing_in R l w only) (blocks R l) l.segment.high (data_count l.shape from) (data_count l.shape to) r
    → FirstWithin (passing_in R l w only) (blocks R l) l.segment.high (data_count l.shape start) (data_count l.shape (start + EXTENTS_OF_L2)) r
group_whole R l sh w only from start to r k e is f =
    subst (λ n. FirstWithin (passing_in R l w only) (blocks R l) l.segment.high (data_count l.shape n) (data_count l.shape (n + EXTENTS_OF_L2)) r) e
    (first_longer (passing_in R l w only) (blocks R l) l.segment.high (data_count l.shape from) (data_count l.shape to) (data_count l.shape (from + EXTENTS_OF_L2)) r (ends (cases_Bool (leb (from + EXTENTS_OF_L2) l.segment.extents))) f)
  where
    ends : (leb (from + EXTENTS_OF_L2) l.segment.extents ≡ true) ⊎ (leb (from + EXTENTS_OF_L2) l.segment.extents ≡ false) → (data_count l.shape to ≡ data_count l.shape (from + EXTENTS_OF_L2)) ⊎ ((length (blocks R l) ≤ data_count l.shape to) × (data_count l.shape to ≤ data_count l.shape (from + EXTENTS_OF_L2)))
    ends (inl y) = (let up = leb-true _ _ y in inl (ap (data_count l.shape) (let z : to ≡ from + EXTENTS_OF_L2 = omega (arith, is, up) in z)))
    ends (inr n) =
        let less = leb-false _ _ n in
        let last : to ≡ l.segment.extents = omega (arith, is, less) in
        let all = counted R l sh k in
        let same : data_count l.shape to ≡ data_count l.shape l.segment.extents = ap (data_count l.shape) last in
        inr (omega (arith, all, same), counts_up l.shape to (from + EXTENTS_OF_L2) (omega (arith, is)))

-- a group without a block that is wanted
pub group_none : (R : List Record) (l : Look) (sh : Shape) (w : Wanted) (only : Option ℕ) (group from to : ℕ) → Fixed R l → Knows sh R l → l.segment.extents ≤ MOST_EXTENTS → from ≡ EXTENTS_OF_L2 * group → from < l.segment.extents → to ≡ min (from + EXTENTS_OF_L2) l.segment.extents → NoneInGroup l.shape R (row_sought l) w (EXTENTS_OF_L2 * group)
    → NoneWithin (passing_in R l w only) (blocks R l) l.segment.high (data_count l.shape from) (data_count l.shape to)
group_none R l sh w only group from to f k most e less is none =
    run_none R l sh w only from to f k (omega (arith, is, less)) (omega (arith, is)) (λ index x at least below. none index x at (its_group index least below))
  where
    its_group : (index : ℕ) → from ≤ index → index < to → group_start index ≡ EXTENTS_OF_L2 * group
    its_group index least below =
        let of = group_number index (omega (arith, below, is, most)) in
        omega (arith, of, least, below, is, e)

pub group_begins : (group from : ℕ) → group < 3 → from ≡ EXTENTS_OF_L2 * group → group_start from ≡ from
group_begins group from l e = (let of = group_number from (omega (arith, e, l)) in omega (arith, of, e))

-- none of the data blocks of the groups before this one passes
pub record Searched {D : Type 0} (meaning : Meaning D) (a b : Held D) (l : Look) (w : Wanted) (only : Option ℕ) (group : ℕ) : Type 0 where
  pub looked : HasLooked {T = Unit {0}} meaning a b (Ok tt)
  pub none : (R : List Record) → IsTrue meaning R a → Knows a.shape R l → NoneWithin (passing_in R l w only) (blocks R l) l.segment.high 0 (data_count l.shape (EXTENTS_OF_L2 * group))

pub searched_none : {D : Type 0} (meaning : Meaning D) (a : Held D) (l : Look) (w : Wanted) (only : Option ℕ) → a.fault ≡ None → Searched meaning a a l w only 0
searched_none meaning a l w only n = record { looked = looked_same meaning a tt n; none = λ R t k. none_passed (passing_in R l w only) (blocks R l) l.segment.high 0 (data_count l.shape (EXTENTS_OF_L2 * 0)) (omega arith) }

-- what is said of one group
abbrev pub SaysGroup : {D : Type 0} → Meaning D → Held D → Look → Wanted → Option ℕ → ℕ → Option ℕ → Type 0
SaysGroup meaning b l w only group r = (R : List Record) → IsTrue meaning R b → Knows b.shape R l → FirstWithin (passing_in R l w only) (blocks R l) l.segment.high (data_count l.shape (EXTENTS_OF_L2 * group)) (data_count l.shape (EXTENTS_OF_L2 * group + EXTENTS_OF_L2)) r

pub searched_next : {D : Type 0} (meaning : Meaning D) (a b c : Held D) (l : Look) (w : Wanted) (only : Option ℕ) (group : ℕ) → Searched meaning a b l w only group → HasLooked {T = Option ℕ} meaning b c (Ok None) → SaysGroup meaning b l w only group None → Searched meaning a c l w only (group + 1)
searched_next meaning a b c l w only group t p says = record {
  looked = looked_ok meaning a c None tt (looked_on meaning a b c tt (Ok None) t.looked p);
  none = λ R h k. subst (λ n. NoneWithin (passing_in R l w only) (blocks R l) l.segment.high 0 (data_count l.shape n)) (let z : EXTENTS_OF_L2 * group + EXTENTS_OF_L2 ≡ EXTENTS_OF_L2 * (group + 1) = omega arith in z)
      (none_further (passing_in R l w only) (blocks R l) l.segment.high 0 (data_count l.shape (EXTENTS_OF_L2 * group)) _ (t.none R h k) (says R (t.looked.stays_true R h) (knows_later meaning a b R l t.looked.loan k)));
}

pub searched_found : {D : Type 0} (meaning : Meaning D) (a b : Held D) (l : Look) (w : Wanted) (only : Option ℕ) (group d : ℕ) (R : List Record) → Searched meaning a b l w only group → SaysGroup meaning b l w only group (Some d)
    → IsTrue meaning R a → Knows a.shape R l → Some d ≡ find (passing_in R l w only) (under_high l.shape R l.segment.obj)
searched_found meaning a b l w only group d R t says h k =
    one_found (passing_in R l w only) (blocks R l) l.segment.high (data_count l.shape (EXTENTS_OF_L2 * group)) _ d (t.none R h k) (says R (t.looked.stays_true R h) (knows_later meaning a b R l t.looked.loan k))
    ∙ ap (find (passing_in R l w only)) (under_is R l a.shape k)

pub searched_fails : {D : Type 0} (meaning : Meaning D) (a b : Held D) (l : Look) (w : Wanted) (only : Option ℕ) (group : ℕ) (f : StoreFault) (R : List Record) → Searched meaning a b l w only group
    → ((Q : List Record) → IsTrue meaning Q b → Knows b.shape Q l → IsSoundFault f) → IsTrue meaning R a → Knows a.shape R l → IsSoundFault f
searched_fails meaning a b l w only group f R t sound h k = sound R (t.looked.stays_true R h) (knows_later meaning a b R l t.looked.loan k)

-- the last group is passed
pub searched_all : {D : Type 0} (meaning : Meaning D) (a b : Held D) (l : Look) (w : Wanted) (only : Option ℕ) (group : ℕ) (R : List Record) → l.segment.extents ≤ MOST_EXTENTS → 3 ≤ group → Searched meaning a b l w only group → IsTrue meaning R a → Knows a.shape R l → None ≡ find (passing_in R l w only) (under_high l.shape R l.segment.obj)
searched_all meaning a b l w only group R few end t h k =
    let f = fixed meaning a R l h k in
    let most = f.table.most in
    let order = (marks_are_in_order l.shape R l.segment.obj f.lawful.allowed f.table.least (omega (arith, most, tables_are_few l.shape R f.lawful.allowed))).within in
    let all = counted R l a.shape k in
    let up = counts_up l.shape l.segment.extents (EXTENTS_OF_L2 * group) (omega (arith, few, end)) in
    let high = k.segment.high in
    none_found (passing_in R l w only) (blocks R l) l.segment.high (data_count l.shape (EXTENTS_OF_L2 * group)) (t.none R h k) (omega (arith, order, all, up, high)) ∙ ap (find (passing_in R l w only)) (under_is R l a.shape k)
