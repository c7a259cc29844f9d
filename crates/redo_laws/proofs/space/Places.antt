-- Which blocks a table has: extents are of one table each, and formatted data blocks lie under the high mark.
use Rattle.std.proofs.Common.{◌≡◌, ◌⊎◌, ℕ, zero, suc, ◌+◌, ◌-◌, ◌<◌, ◌≤◌, min, true, false, cond, not, ◌||◌, eqb, leb, List, [], ◌∷◌, ◌++◌, length, take, drop, Option, Some, None, refl, sym, ◌∙◌, ap, subst, arith, inl, inr, le_trans, eqb-true, true≢false, eq-eqb, lt-ltb, le-leb, leb-true, leb-false, take-append-drop, Contains, slice_index_or}
use Rattle.seg_words.proofs.Lemmas.{eqb-false, cond-true, cond-false, cases_Bool, and_parts, and_from, or_cases, or_left, or_right, not-true, take-append-le}
use Rattle.seg_words.specs.Types.{Shape, first_block, is_extent, head_blocks, MOST_TABLES}
use Rattle.redo_model.specs.Records.{Record, Table, Extend, FormatBlock, Advance, Lower, ExtendRecord, FormatBlockRecord, AdvanceRecord, LowerRecord}
use Rattle.redo_model.specs.Model.{IsKindAllowed, AreAllowed, Extent, extents_of, in_extent, blocks_from, extent_data, data_of, data_blocks, high_mark, marks, under_high, is_formatted, IsTable, table_count, has_extent, is_taken, is_free_extent, first_unformatted, ExtendAllowed, FormatAllowed, AdvanceAllowed, LowerAllowed}
use Rattle.redo_laws.specs.Among.{is_in}
use Rattle.redo_laws.proofs.space.LowMark.{apart, free_of, data_of-append}

pub in_contains : (bs : List ℕ) (b k : ℕ) → k < length bs → slice_index_or bs k b ≡ b → is_in b bs ≡ true
in_contains [] b k l e = absurd (omega arith)
in_contains (x ∷ bs) b zero l e = or_left (eqb x b) (is_in b bs) (eq-eqb x b e)
in_contains (x ∷ bs) b (suc k) l e = or_right (eqb x b) (is_in b bs) (in_contains bs b k (omega arith) e)

pub contains_in : (bs : List ℕ) (b : ℕ) → is_in b bs ≡ true → Contains bs b
contains_in [] b h = absurd (true≢false (sym h))
contains_in (x ∷ bs) b h =
    elim (cases_Bool (eqb x b)) [
      | inl y ↦ (0, omega arith, eqb-true x b y)
      | inr f ↦ let w : Contains bs b = contains_in bs b (elim (or_cases (eqb x b) (is_in b bs) h) [ inl z ↦ absurd (true≢false (sym z ∙ f)) | inr z ↦ z ]) in (suc w.0, omega (arith, w.1), w.2)
    ]

pub in_left : (b : ℕ) (xs ys : List ℕ) → is_in b xs ≡ true → is_in b (xs ++ ys) ≡ true
in_left b [] ys h = absurd (true≢false (sym h))
in_left b (x ∷ xs) ys h = elim (or_cases (eqb x b) (is_in b xs) h) [ inl y ↦ or_left (eqb x b) _ y | inr z ↦ or_right (eqb x b) _ (in_left b xs ys z) ]

pub in_right : (b : ℕ) (xs ys : List ℕ) → is_in b ys ≡ true → is_in b (xs ++ ys) ≡ true
in_right b [] ys h = h
in_right b (x ∷ xs) ys h = or_right (eqb x b) _ (in_right b xs ys h)

pub in_either : (b : ℕ) (xs ys : List ℕ) → is_in b (xs ++ ys) ≡ true → (is_in b xs ≡ true) ⊎ (is_in b ys ≡ true)
in_either b [] ys h = inr h
in_either b (x ∷ xs) ys h =
    elim (or_cases (eqb x b) (is_in b (xs ++ ys)) h) [
      | inl y ↦ inl (or_left (eqb x b) _ y)
      | inr z ↦ elim (in_either b xs ys z) [ inl w ↦ inl (or_right (eqb x b) _ w) | inr w ↦ inr w ]
    ]

pub in_take : (b n : ℕ) (xs : List ℕ) → is_in b (take n xs) ≡ true → is_in b xs ≡ true
in_take b zero xs h = absurd (true≢false (sym h))
in_take b (suc n) [] h = h
in_take b (suc n) (x ∷ xs) h = elim (or_cases (eqb x b) (is_in b (take n xs)) h) [ inl y ↦ or_left (eqb x b) _ y | inr z ↦ or_right (eqb x b) _ (in_take b n xs z) ]

in_more : (b m n : ℕ) (xs : List ℕ) → m ≤ n → is_in b (take m xs) ≡ true → is_in b (take n xs) ≡ true
in_more b zero n xs l h = absurd (true≢false (sym h))
in_more b (suc m) zero xs l h = absurd (omega arith)
in_more b (suc m) (suc n) [] l h = h
in_more b (suc m) (suc n) (x ∷ xs) l h = elim (or_cases (eqb x b) (is_in b (take m xs)) h) [ inl y ↦ or_left (eqb x b) _ y | inr z ↦ or_right (eqb x b) _ (in_more b m n xs (omega arith) z) ]

in_longer : (b n : ℕ) (xs ys : List ℕ) → is_in b (take n xs) ≡ true → is_in b (take n (xs ++ ys)) ≡ true
in_longer b zero xs ys h = absurd (true≢false (sym h))
in_longer b (suc n) [] ys h = absurd (true≢false (sym h))
in_longer b (suc n) (x ∷ xs) ys h = elim (or_cases (eqb x b) (is_in b (take n xs)) h) [ inl y ↦ or_left (eqb x b) _ y | inr z ↦ or_right (eqb x b) _ (in_longer b n xs ys z) ]

-- what is in the front, and among the first n of the whole, is among the first n of the front
in_front : (b n : ℕ) (xs ys : List ℕ) → is_in b xs ≡ true → is_in b (take n (xs ++ ys)) ≡ true → is_in b (take (min n (length xs)) xs) ≡ true
in_front b n xs ys h t =
    elim (cases_Bool (leb n (length xs))) [
      | inl y ↦ let l : n ≤ length xs = leb-true n (length xs) y in subst (λ m. is_in b (take m xs) ≡ true) (let e : n ≡ min n (length xs) = omega arith in e) (ap (is_in b) (sym (take-append-le n xs ys l)) ∙ t)
      | inr f ↦ let l : length xs < n = leb-false n (length xs) f in subst (λ m. is_in b (take m xs) ≡ true) (let e : length xs ≡ min n (length xs) = omega arith in e) (ap (is_in b) (take_all xs) ∙ h)
    ]
  where
    take_all : (xs : List ℕ) → take (length xs) xs ≡ xs
    take_all [] = refl
    take_all (x ∷ xs) = ap (λ (ys : List ℕ). x ∷ ys) (take_all xs)

-- a data block of some extents is in one of them

pub in_range : (c b n : ℕ) → is_in c (blocks_from b n) ≡ true → (b ≤ c) × (c < b + n)
in_range c b zero h = absurd (true≢false (sym h))
in_range c b (suc n) h =
    elim (or_cases (eqb b c) (is_in c (blocks_from (suc b) n)) h) [
      | inl y ↦ let e : b ≡ c = eqb-true b c y in (omega arith, omega arith)
      | inr z ↦ let r = in_range c (suc b) n z in (omega (arith, r.0), omega (arith, r.1))
    ]

pub data_in_extent : (sh : Shape) (index x b : ℕ) → is_in b (extent_data sh index x) ≡ true → (first_block sh x ≤ b) × (b < first_block sh x + sh.extent)
data_in_extent sh index x b h = let r = in_range b (first_block sh x + head_blocks index) (sh.extent - head_blocks index) h in (omega (arith, r.0), omega (arith, r.0, r.1))

pub record InExtent (sh : Shape) (es : List Extent) (b : ℕ) : Type 0 where
  pub extent : ℕ
  pub has : has_extent es extent ≡ true
  pub from : first_block sh extent ≤ b
  pub to : b < first_block sh extent + sh.extent

pub in_data : (sh : Shape) (index : ℕ) (es : List Extent) (b : ℕ) → is_in b (data_of sh index es) ≡ true → InExtent sh es b
in_data sh index [] b h = absurd (true≢false (sym h))
in_data sh index (e ∷ es) b h =
    elim (in_either b (extent_data sh index e.number) (data_of sh (suc index) es) h) [
      | inl y ↦ let r = data_in_extent sh index e.number b y in record { extent = e.number; has = or_left (eqb e.number e.number) _ (eq-eqb e.number e.number refl); from = r.0; to = r.1 }
      | inr z ↦ let r = in_data sh (suc index) es b z in record { extent = r.extent; has = or_right (eqb e.number r.extent) _ r.has; from = r.from; to = r.to }
    ]

not_outside : (sh : Shape) (x b : ℕ) → first_block sh x ≤ b → b < first_block sh x + sh.extent → in_extent sh x b ≡ true
not_outside sh x b l u = and_from _ _ (le-leb (first_block sh x) b l) (lt-ltb b (first_block sh x + sh.extent) u)

pub same_extent : (sh : Shape) (x y b : ℕ) → first_block sh x ≤ b → b < first_block sh x + sh.extent → first_block sh y ≤ b → b < first_block sh y + sh.extent → x ≡ y
same_extent sh x y b lx ux ly uy =
    elim (cases_Bool (eqb x y)) [
      | inl e ↦ eqb-true x y e
      | inr f ↦ absurd (true≢false (sym (not_outside sh x b lx ux) ∙ apart sh x y b (λ e. eqb-false x y f (sym e)) ly uy))
    ]

pub record IsNumber (o : ℕ) : Type 0 where
  pub least : 1 ≤ o
  pub most : o ≤ MOST_TABLES

-- what the records of segments keep
pub record Segments (sh : Shape) (R : List Record) : Type 0 where
  pub tables : table_count R ≤ MOST_TABLES
  pub distinct : (o p x : ℕ) → IsNumber o → IsNumber p → has_extent (extents_of R o) x ≡ true → has_extent (extents_of R p) x ≡ true → o ≡ p
  pub under : (o b : ℕ) → IsNumber o → is_in b (data_blocks sh R o) ≡ true → is_formatted sh R b ≡ true → is_in b (under_high sh R o) ≡ true

pub same_table : (sh : Shape) (R : List Record) (o p b : ℕ) → Segments sh R → IsNumber o → IsNumber p → is_in b (data_blocks sh R o) ≡ true → is_in b (data_blocks sh R p) ≡ true → o ≡ p
same_table sh R o p b s n m h k =
    let x = in_data sh 0 (extents_of R o) b h in
    let y = in_data sh 0 (extents_of R p) b k in
    let same : y.extent ≡ x.extent = same_extent sh y.extent x.extent b y.from y.to x.from x.to in
    s.distinct o p x.extent n m x.has (subst (λ z. has_extent (extents_of R p) z ≡ true) same y.has)

pub a_table : (sh : Shape) (R : List Record) (o : ℕ) → Segments sh R → IsTable R o → IsNumber o
a_table sh R o s t = record { least = t.least; most = le_trans t.most s.tables }

-- an Extend

pub has_added : (es : List Extent) (e : Extent) (x : ℕ) → has_extent (es ++ e ∷ []) x ≡ true → (has_extent es x ≡ true) ⊎ (e.number ≡ x)
has_added [] e x h = elim (or_cases (eqb e.number x) false h) [ inl y ↦ inr (eqb-true e.number x y) | inr z ↦ inl z ]
has_added (f ∷ es) e x h =
    elim (or_cases (eqb f.number x) (has_extent (es ++ e ∷ []) x) h) [
      | inl y ↦ inl (or_left (eqb f.number x) _ y)
      | inr z ↦ elim (has_added es e x z) [ inl w ↦ inl (or_right (eqb f.number x) _ w) | inr w ↦ inr w ]
    ]

added_has : (sh : Shape) (R : List Record) (e : ExtendRecord) (o x : ℕ) → has_extent (extents_of (Extend e ∷ R) o) x ≡ true → (has_extent (extents_of R o) x ≡ true) ⊎ ((e.obj ≡ o) × (e.extent ≡ x))
added_has sh R e o x h =
    (elim (eqb e.obj o) as (λ v. eqb e.obj o ≡ v → has_extent (cond v (extents_of R o ++ record { number = e.extent; incarnation = suc (length R) } ∷ []) (extents_of R o)) x ≡ true → (has_extent (extents_of R o) x ≡ true) ⊎ ((e.obj ≡ o) × (e.extent ≡ x))) [
      | true ↦ λ y k. elim (has_added (extents_of R o) (record { number = e.extent; incarnation = suc (length R) }) x k) [ inl w ↦ inl w | inr w ↦ inr (eqb-true e.obj o y, w) ]
      | false ↦ λ y k. inl k
    ]) refl h

pub free_has : (sh : Shape) (R : List Record) (o x : ℕ) → IsNumber o → is_free_extent sh R x ≡ true → has_extent (extents_of R o) x ≡ true → ⊥
free_has sh R o x n f h = true≢false (sym h ∙ free_of R MOST_TABLES o x (not-true _ (and_parts (is_extent sh x) (not (is_taken R MOST_TABLES x)) f).1) n.least n.most)

extend_distinct : (sh : Shape) (R : List Record) (e : ExtendRecord) → ExtendAllowed sh R e → Segments sh R → (o p x : ℕ) → IsNumber o → IsNumber p → has_extent (extents_of (Extend e ∷ R) o) x ≡ true → has_extent (extents_of (Extend e ∷ R) p) x ≡ true → o ≡ p
extend_distinct sh R e a s o p x n m h k =
    elim (added_has sh R e o x h) [
      | inl y ↦ elim (added_has sh R e p x k) [
        | inl z ↦ s.distinct o p x n m y z
        | inr z ↦ absurd (free_has sh R o e.extent n a.extent.free (subst (λ w. has_extent (extents_of R o) w ≡ true) (sym z.1) y))
      ]
      | inr y ↦ elim (added_has sh R e p x k) [
        | inl z ↦ absurd (free_has sh R p e.extent m a.extent.free (subst (λ w. has_extent (extents_of R p) w ≡ true) (sym y.1) z))
        | inr z ↦ sym y.0 ∙ z.0
      ]
    ]

-- a data block after an Extend was one before, or is in the new extent
pub extend_data : (sh : Shape) (R : List Record) (e : ExtendRecord) (o b : ℕ) → is_in b (data_blocks sh (Extend e ∷ R) o) ≡ true → (is_in b (data_blocks sh R o) ≡ true) ⊎ (in_extent sh e.extent b ≡ true)
extend_data sh R e o b h =
    (elim (eqb e.obj o) as (λ v. is_in b (data_of sh 0 (cond v (extents_of R o ++ record { number = e.extent; incarnation = suc (length R) } ∷ []) (extents_of R o))) ≡ true → (is_in b (data_blocks sh R o) ≡ true) ⊎ (in_extent sh e.extent b ≡ true)) [
      | true ↦ λ k. elim (in_either b (data_blocks sh R o) _ (ap (is_in b) (sym (data_of-append sh 0 (extents_of R o) (record { number = e.extent; incarnation = suc (length R) } ∷ []))) ∙ k)) [
        | inl w ↦ inl w
        | inr w ↦ let y = in_data sh (0 + length (extents_of R o)) (record { number = e.extent; incarnation = suc (length R) } ∷ []) b w in
            let same : e.extent ≡ y.extent = elim (or_cases (eqb e.extent y.extent) false y.has) [ inl z ↦ eqb-true e.extent y.extent z | inr z ↦ absurd (true≢false (sym z)) ] in
            inr (subst (λ x. in_extent sh x b ≡ true) (sym same) (not_outside sh y.extent b y.from y.to))
      ]
      | false ↦ λ k. inl k
    ]) h

-- data blocks stay
pub extend_keeps : (sh : Shape) (R : List Record) (e : ExtendRecord) (o n b : ℕ) → is_in b (take n (data_blocks sh R o)) ≡ true → is_in b (take n (data_blocks sh (Extend e ∷ R) o)) ≡ true
extend_keeps sh R e o n b h =
    elim (eqb e.obj o) as (λ v. is_in b (take n (data_of sh 0 (cond v (extents_of R o ++ record { number = e.extent; incarnation = suc (length R) } ∷ []) (extents_of R o)))) ≡ true) [
      | true ↦ ap (λ xs. is_in b (take n xs)) (data_of-append sh 0 (extents_of R o) (record { number = e.extent; incarnation = suc (length R) } ∷ [])) ∙ in_longer b n (data_blocks sh R o) _ h
      | false ↦ h
    ]

extend_under : (sh : Shape) (R : List Record) (e : ExtendRecord) → Segments sh R → (o b : ℕ) → IsNumber o → is_in b (data_blocks sh (Extend e ∷ R) o) ≡ true → is_formatted sh (Extend e ∷ R) b ≡ true → is_in b (under_high sh (Extend e ∷ R) o) ≡ true
extend_under sh R e s o b n h f =
    let p = and_parts (not (in_extent sh e.extent b)) (is_formatted sh R b) f in
    elim (extend_data sh R e o b h) [
      | inl y ↦ extend_keeps sh R e o (high_mark R o) b (s.under o b n y p.1)
      | inr z ↦ absurd (true≢false (sym z ∙ not-true (in_extent sh e.extent b) p.0))
    ]

-- a FormatBlock

first_in : (sh : Shape) (R : List Record) (bs : List ℕ) (d : ℕ) → first_unformatted sh R bs ≡ Some d → (is_in d bs ≡ true) × (is_formatted sh R d ≡ false)
first_in sh R [] d e = absurd (let x : ◌≡◌ {A = Option ℕ} None (Some d) = e in cc)
first_in sh R (b ∷ bs) d e =
    elim (cases_Bool (is_formatted sh R b)) [
      | inl y ↦ let r = first_in sh R bs d (sym (cond-true _ _ _ y) ∙ e) in (or_right (eqb b d) _ r.0, r.1)
      | inr f ↦ let s : ◌≡◌ {A = Option ℕ} (Some b) (Some d) = sym (cond-false _ _ _ f) ∙ e in let same : b ≡ d = cc in (or_left (eqb b d) _ (eq-eqb b d same), subst (λ x. is_formatted sh R x ≡ false) same f)
    ]

pub format_first : (sh : Shape) (R : List Record) (f : FormatBlockRecord) → FormatAllowed sh R f → (is_in f.dba (under_high sh R f.obj) ≡ true) × (is_formatted sh R f.dba ≡ false)
format_first sh R f a = first_in sh R (under_high sh R f.obj) f.dba a.first

format_under : (sh : Shape) (R : List Record) (f : FormatBlockRecord) → FormatAllowed sh R f → Segments sh R → (o b : ℕ) → IsNumber o → is_in b (data_blocks sh R o) ≡ true → (eqb f.dba b || is_formatted sh R b) ≡ true → is_in b (under_high sh R o) ≡ true
format_under sh R f a s o b n h k =
    elim (or_cases (eqb f.dba b) (is_formatted sh R b) k) [
      | inl y ↦
          let r = (format_first sh R f a).0 in
          let here : is_in b (under_high sh R f.obj) ≡ true = subst (λ x. is_in x (under_high sh R f.obj) ≡ true) (eqb-true f.dba b y) r in
          let same : f.obj ≡ o = same_table sh R f.obj o b s (a_table sh R f.obj s a.table) n (in_take b (high_mark R f.obj) (data_blocks sh R f.obj) here) h in
          subst (λ x. is_in b (under_high sh R x) ≡ true) same here
      | inr z ↦ s.under o b n h z
    ]

-- an Advance

advance_under : (sh : Shape) (R : List Record) (a : AdvanceRecord) → AdvanceAllowed sh R a → Segments sh R → (o b : ℕ) → IsNumber o → is_in b (data_blocks sh R o) ≡ true → is_formatted sh R b ≡ true → is_in b (under_high sh (Advance a ∷ R) o) ≡ true
advance_under sh R a m s o b n h f =
    let was = s.under o b n h f in
    (elim (eqb a.obj o) as (λ v. eqb a.obj o ≡ v → is_in b (take (cond v (record { low = a.low; high = a.high }) (marks R o)).high (data_blocks sh R o)) ≡ true) [
      | true ↦ λ e. let same : a.obj ≡ o = eqb-true a.obj o e in let up : high_mark R o ≤ a.high = subst (λ x. high_mark R x ≤ a.high) same (omega (arith, m.high, m.room)) in in_more b (high_mark R o) a.high (data_blocks sh R o) up was
      | false ↦ λ e. was
    ]) refl

-- a Lower

pub front_of : (sh : Shape) (n : ℕ) (es : List Extent) → data_of sh 0 es ≡ data_of sh 0 (take n es) ++ data_of sh (0 + length (take n es)) (drop n es)
front_of sh n es = ap (data_of sh 0) (sym (take-append-drop n es)) ∙ data_of-append sh 0 (take n es) (drop n es)

pub has_taken : (n : ℕ) (es : List Extent) (x : ℕ) → has_extent (take n es) x ≡ true → has_extent es x ≡ true
has_taken zero es x h = absurd (true≢false (sym h))
has_taken (suc n) [] x h = h
has_taken (suc n) (e ∷ es) x h = elim (or_cases (eqb e.number x) (has_extent (take n es) x) h) [ inl y ↦ or_left (eqb e.number x) _ y | inr z ↦ or_right (eqb e.number x) _ (has_taken n es x z) ]

lower_has : (R : List Record) (l : LowerRecord) (o x : ℕ) → has_extent (extents_of (Lower l ∷ R) o) x ≡ true → has_extent (extents_of R o) x ≡ true
lower_has R l o x h =
    (elim (eqb l.obj o) as (λ v. has_extent (cond v (take l.kept (extents_of R o)) (extents_of R o)) x ≡ true → has_extent (extents_of R o) x ≡ true) [ true ↦ λ k. has_taken l.kept (extents_of R o) x k | false ↦ λ k. k ]) h

-- what is left is what was there at the front
pub lower_data : (sh : Shape) (R : List Record) (l : LowerRecord) (o b : ℕ) → is_in b (data_blocks sh (Lower l ∷ R) o) ≡ true → is_in b (data_blocks sh R o) ≡ true
lower_data sh R l o b h =
    (elim (eqb l.obj o) as (λ v. is_in b (data_of sh 0 (cond v (take l.kept (extents_of R o)) (extents_of R o))) ≡ true → is_in b (data_blocks sh R o) ≡ true) [
      | true ↦ λ k. ap (is_in b) (front_of sh l.kept (extents_of R o)) ∙ in_left b _ _ k
      | false ↦ λ k. k
    ]) h

lower_under : (sh : Shape) (R : List Record) (l : LowerRecord) → LowerAllowed sh R l → Segments sh R → (o b : ℕ) → IsNumber o → is_in b (data_blocks sh (Lower l ∷ R) o) ≡ true → is_formatted sh R b ≡ true → is_in b (under_high sh (Lower l ∷ R) o) ≡ true
lower_under sh R l a s o b n h f =
    let was = s.under o b n (lower_data sh R l o b h) f in
    (elim (eqb l.obj o) as (λ v. eqb l.obj o ≡ v → is_in b (data_of sh 0 (cond v (take l.kept (extents_of R o)) (extents_of R o))) ≡ true → is_in b (take (cond v (record { low = l.low; high = l.high }) (marks R o)).high (data_of sh 0 (cond v (take l.kept (extents_of R o)) (extents_of R o)))) ≡ true) [
      | true ↦ λ e k.
          let same : l.obj ≡ o = eqb-true l.obj o e in
          let high_is : min (high_mark R o) (length (data_of sh 0 (take l.kept (extents_of R o)))) ≡ l.high = subst (λ x. min (high_mark R x) (length (data_of sh 0 (take l.kept (extents_of R x)))) ≡ l.high) same (sym a.high) in
          subst (λ x. is_in b (take x (data_of sh 0 (take l.kept (extents_of R o)))) ≡ true) high_is
          (in_front b (high_mark R o) (data_of sh 0 (take l.kept (extents_of R o))) (data_of sh (0 + length (take l.kept (extents_of R o))) (drop l.kept (extents_of R o))) k
          (ap (λ xs. is_in b (take (high_mark R o) xs)) (sym (front_of sh l.kept (extents_of R o))) ∙ was))
      | false ↦ λ e k. was
    ]) refl h

pub segments_step : (sh : Shape) (R : List Record) (r : Record) → IsKindAllowed sh R r → Segments sh R → Segments sh (r ∷ R)
segments_step sh R (Table t) a s = record { tables = omega (arith, a.few); distinct = s.distinct; under = s.under }
segments_step sh R (Extend e) a s = record { tables = s.tables; distinct = extend_distinct sh R e a s; under = extend_under sh R e s }
segments_step sh R (FormatBlock f) a s = record { tables = s.tables; distinct = s.distinct; under = format_under sh R f a s }
segments_step sh R (Advance m) a s = record { tables = s.tables; distinct = s.distinct; under = advance_under sh R m a s }
segments_step sh R (Lower l) a s = record { tables = s.tables; distinct = λ o p x n m h k. s.distinct o p x n m (lower_has R l o x h) (lower_has R l p x k); under = lower_under sh R l a s }
segments_step sh R _ a s = record { tables = s.tables; distinct = s.distinct; under = s.under }

pub segments : (sh : Shape) (R : List Record) → AreAllowed sh R → Segments sh R
segments sh [] h = record { tables = omega arith; distinct = λ o p x n m y z. absurd (true≢false (sym y)); under = λ o b n y f. absurd (true≢false (sym y)) }
segments sh (r ∷ R) h = segments_step sh R r h.1.kind (segments sh R h.0)

-- the extent that an Extend takes has no data block
pub extend_out : (sh : Shape) (R : List Record) (e : ExtendRecord) → ExtendAllowed sh R e → (o b : ℕ) → IsNumber o → is_in b (data_blocks sh R o) ≡ true → in_extent sh e.extent b ≡ false
extend_out sh R e a o b n h =
    let y = in_data sh 0 (extents_of R o) b h in
    apart sh e.extent y.extent b (λ same. free_has sh R o e.extent n a.extent.free (subst (λ x. has_extent (extents_of R o) x ≡ true) same y.has)) y.from y.to
