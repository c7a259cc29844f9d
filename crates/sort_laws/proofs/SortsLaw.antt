-- Sorts of pages.
use Rattle.std.proofs.Common.{◌≡◌, ◌⊎◌, ℕ, zero, suc, ◌+◌, ◌%◌, ◌<◌, ◌≤◌, min, Bool, true, false, cond, not, ◌||◌, eqb, ltb, leb, List, [], ◌∷◌, ◌++◌, length, take, Option, Some, None, refl, sym, ◌∙◌, ap, subst, arith, inl, inr, true≢false, eqb-true, eq-eqb, ne_eqb, leb-true, ltb-true, ltb-false, le-leb, lt-ltb, ◌*◌}
use Rattle.seg_words.proofs.Lemmas.{cond-true, cond-false, cases_Bool, eqb-false, or_cases, or_left, or_right, and_parts, and_from, not-true}
use Rattle.seg_words.specs.Types.{Shape, first_block, is_extent, is_shape, head_blocks, MOST_TABLES, MOST_EXTENTS, EXTENTS_OF_L2, OWN_BLOCKS, LEAST_EXTENT_BLOCKS}
use Rattle.redo_model.specs.Records.{Record, Table, Movement, Extend, FormatBlock, Class, Advance, Lower, Begin, Reuse, Insert, Update, Migrate, Return, Delete, Commit, Back, Ended, Move, Clean, ExtendRecord, BeginRecord}
use Rattle.redo_model.specs.Model.{txn_count, Extent, extents_of, in_extent, data_blocks, high_mark, is_formatted, IsTable, has_extent, is_taken, is_free_extent, extent_at, block_in, group_start, undo_sequence, ExtendAllowed, IsKindAllowed, AreAllowed}
use Rattle.redo_laws.specs.Among.{is_in}
use Rattle.redo_laws.proofs.lists.Bools.{off}
use Rattle.redo_laws.proofs.numbers.Bounds.{Limits, limits, reuse_bound}
use Rattle.redo_laws.proofs.space.LowMark.{apart}
use Rattle.redo_laws.proofs.space.Places.{in_take, contains_in, in_data, IsNumber, segments, a_table, format_first, free_has}
use Rattle.page_model.specs.Types.{touched_sorts}
use Rattle.sort_laws.specs.Sorts.{Sort, Blank, Rows, Undo, Txns, First, Second, Third, as_txns, sort_after, sort_of, SortsAreMade}
use Rattle.space_laws.proofs.ExtentsLaw.{found_has, head_few, group_heads, each_block_has_one_role}

-- places

pub at_exists : (es : List Extent) (i : ℕ) → i < length es → (e : Extent) × (extent_at es i ≡ Some e)
at_exists [] i l = absurd (omega (arith, l))
at_exists (e ∷ es) zero l = (e, refl)
at_exists (e ∷ es) (suc i) l = at_exists es i (omega (arith, l))

at_below : (es : List Extent) (i : ℕ) (e : Extent) → extent_at es i ≡ Some e → i < length es
at_below [] i e h = absurd (let x : ◌≡◌ {A = Option Extent} None (Some e) = h in cc)
at_below (f ∷ es) zero e h = omega arith
at_below (f ∷ es) (suc i) e h = let l = at_below es i e h in omega (arith, l)

at_end : (es : List Extent) (x : Extent) (i : ℕ) (e : Extent) → extent_at (es ++ x ∷ []) i ≡ Some e → (extent_at es i ≡ Some e) ⊎ ((i ≡ length es) × (x ≡ e))
at_end [] x zero e h = inr (refl, (let y : ◌≡◌ {A = Option Extent} (Some x) (Some e) = h in cc))
at_end [] x (suc i) e h = absurd (let y : ◌≡◌ {A = Option Extent} None (Some e) = h in cc)
at_end (f ∷ es) x zero e h = inl h
at_end (f ∷ es) x (suc i) e h = elim (at_end es x i e h) [ inl y ↦ inl y | inr y ↦ inr (ap (λ n. suc n) y.0, y.1) ]

at_old : (es : List Extent) (x : Extent) (i : ℕ) → i < length es → extent_at (es ++ x ∷ []) i ≡ extent_at es i
at_old [] x i l = absurd (omega (arith, l))
at_old (e ∷ es) x zero l = refl
at_old (e ∷ es) x (suc i) l = at_old es x i (omega (arith, l))

pub at_last : (es : List Extent) (x : Extent) → extent_at (es ++ x ∷ []) (length es) ≡ Some x
at_last [] x = refl
at_last (e ∷ es) x = at_last es x

at_untaken : (k : ℕ) (es : List Extent) (i : ℕ) (e : Extent) → extent_at (take k es) i ≡ Some e → extent_at es i ≡ Some e
at_untaken zero es i e h = absurd (let x : ◌≡◌ {A = Option Extent} None (Some e) = h in cc)
at_untaken (suc k) [] i e h = h
at_untaken (suc k) (x ∷ es) zero e h = h
at_untaken (suc k) (x ∷ es) (suc i) e h = at_untaken k es i e h

-- the extents of a record's list are those of the list before, but for an Extend's
extents_before : (R : List Record) (r : Record) (o i : ℕ) (e : Extent) → extent_at (extents_of (r ∷ R) o) i ≡ Some e
    → (extent_at (extents_of R o) i ≡ Some e) ⊎ ((x : ExtendRecord) × (r ≡ Extend x) × (x.obj ≡ o) × (i ≡ length (extents_of R o)) × (x.extent ≡ e.number))
extents_before R (Extend x) o i e h =
    (elim (eqb x.obj o) as (λ v. eqb x.obj o ≡ v → extent_at (cond v (extents_of R o ++ record { number = x.extent; incarnation = suc (length R) } ∷ []) (extents_of R o)) i ≡ Some e
    → (extent_at (extents_of R o) i ≡ Some e) ⊎ ((z : ExtendRecord) × (Extend x ≡ Extend z) × (z.obj ≡ o) × (i ≡ length (extents_of R o)) × (z.extent ≡ e.number))) [
      | true ↦ λ y k. elim (at_end (extents_of R o) (record { number = x.extent; incarnation = suc (length R) }) i e k) [
        | inl z ↦ inl z
        | inr z ↦ inr (x, refl, eqb-true x.obj o y, z.0, ap (λ (q : Extent). q.number) z.1)
      ]
      | false ↦ λ y k. inl k
    ]) refl h
extents_before R (Lower l) o i e h =
    (elim (eqb l.obj o) as (λ v. extent_at (cond v (take l.kept (extents_of R o)) (extents_of R o)) i ≡ Some e → (extent_at (extents_of R o) i ≡ Some e) ⊎ ((z : ExtendRecord) × (Lower l ≡ Extend z) × (z.obj ≡ o) × (i ≡ length (extents_of R o)) × (z.extent ≡ e.number))) [
      | true ↦ λ k. inl (at_untaken l.kept (extents_of R o) i e k)
      | false ↦ λ k. inl k
    ]) h
extents_before R _ o i e h = inl h

-- a table that has an extent is there
more_tables : (R : List Record) (r : Record) (o : ℕ) → IsTable R o → IsTable (r ∷ R) o
more_tables R (Table t) o h = record { least = h.least; most = (let l = h.most in omega (arith, l)) }
more_tables R _ o h = record { least = h.least; most = h.most }

pub has_table : (sh : Shape) (R : List Record) (o i : ℕ) (e : Extent) → AreAllowed sh R → extent_at (extents_of R o) i ≡ Some e → IsTable R o
has_table sh [] o i e h x = absurd (let y : ◌≡◌ {A = Option Extent} None (Some e) = x in cc)
has_table sh (r ∷ R) o i e h x = elim (extents_before R r o i e x) [
  | inl y ↦ more_tables R r o (has_table sh R o i e h.0 y)
  | inr z ↦ more_tables R r o (subst (λ n. IsTable R n) z.2 (table_of sh R r z.0 z.1 h.1.kind))
]
  where
    table_of : (sh : Shape) (R : List Record) (r : Record) (x : ExtendRecord) → r ≡ Extend x → IsKindAllowed sh R r → IsTable R x.obj
    table_of sh R r x e k = let a : ExtendAllowed sh R x = subst (IsKindAllowed sh R) e k in a.table

pub has_number : (sh : Shape) (R : List Record) (o i : ℕ) (e : Extent) → AreAllowed sh R → extent_at (extents_of R o) i ≡ Some e → IsNumber o
has_number sh R o i e h x = a_table sh R o (segments sh R h) (has_table sh R o i e h x)

-- groups

group_is : (i : ℕ) → i < MOST_EXTENTS → i % EXTENTS_OF_L2 ≡ 0 → group_start i ≡ i
group_is i l m = elim (cases_Bool (ltb i EXTENTS_OF_L2)) [
  | inl y ↦ cond-true _ _ _ y ∙ (let k = ltb-true i EXTENTS_OF_L2 y in omega (arith, k, m))
  | inr f ↦ cond-false _ _ _ f ∙ elim (cases_Bool (ltb i (2 * EXTENTS_OF_L2))) [
    | inl y ↦ cond-true _ _ _ y ∙ (let k = ltb-true i (2 * EXTENTS_OF_L2) y in let j = ltb-false i EXTENTS_OF_L2 f in omega (arith, k, j, m))
    | inr g ↦ cond-false _ _ _ g ∙ (let j = ltb-false i (2 * EXTENTS_OF_L2) g in omega (arith, l, j, m))
  ]
]

pub group_below : (i : ℕ) → group_start i ≤ i
group_below i = elim (cases_Bool (ltb i EXTENTS_OF_L2)) [
  | inl y ↦ subst (λ n. n ≤ i) (sym (cond-true _ _ _ y)) (omega arith)
  | inr f ↦ subst (λ n. n ≤ i) (sym (cond-false _ _ _ f)) (elim (cases_Bool (ltb i (2 * EXTENTS_OF_L2))) [
    | inl y ↦ subst (λ n. n ≤ i) (sym (cond-true _ _ _ y)) (let j = ltb-false i EXTENTS_OF_L2 f in omega (arith, j))
    | inr g ↦ subst (λ n. n ≤ i) (sym (cond-false _ _ _ g)) (let j = ltb-false i (2 * EXTENTS_OF_L2) g in omega (arith, j))
  ])
]

group_whole : (i : ℕ) → group_start i ≡ i → i % EXTENTS_OF_L2 ≡ 0
group_whole i e = elim (cases_Bool (ltb i EXTENTS_OF_L2)) [
  | inl y ↦ (let z : 0 ≡ i = sym (cond-true _ _ _ y) ∙ e in omega (arith, z))
  | inr f ↦ elim (cases_Bool (ltb i (2 * EXTENTS_OF_L2))) [
    | inl y ↦ (let z : EXTENTS_OF_L2 ≡ i = sym (cond-true _ _ _ y) ∙ sym (cond-false _ _ _ f) ∙ e in omega (arith, z))
    | inr g ↦ (let z : 2 * EXTENTS_OF_L2 ≡ i = sym (cond-false _ _ _ g) ∙ sym (cond-false _ _ _ f) ∙ e in omega (arith, z))
  ]
]

pub group_twice : (i : ℕ) → group_start (group_start i) ≡ group_start i
group_twice i = elim (ltb i EXTENTS_OF_L2) as (λ v. group_start (cond v 0 (cond (ltb i (2 * EXTENTS_OF_L2)) EXTENTS_OF_L2 (2 * EXTENTS_OF_L2))) ≡ cond v 0 (cond (ltb i (2 * EXTENTS_OF_L2)) EXTENTS_OF_L2 (2 * EXTENTS_OF_L2))) [
  | true ↦ refl
  | false ↦ elim (ltb i (2 * EXTENTS_OF_L2)) as (λ w. group_start (cond w EXTENTS_OF_L2 (2 * EXTENTS_OF_L2)) ≡ cond w EXTENTS_OF_L2 (2 * EXTENTS_OF_L2)) [ true ↦ refl | false ↦ refl ]
]

-- where the bitmaps of a new extent stand: at the new extent, or at one that was there
pub record MapAt (sh : Shape) (R : List Record) (x : ExtendRecord) (n at start : ℕ) : Type 0 where
  pub place : ((start ≡ x.index) × (at ≡ first_block sh x.extent + n)) ⊎ ((g : Extent) × (extent_at (extents_of R x.obj) start ≡ Some g) × (at ≡ first_block sh g.number + n) × (start < x.index))

map_at : (sh : Shape) (R : List Record) (x : ExtendRecord) (n start : ℕ) → ExtendAllowed sh R x → start ≤ x.index → MapAt sh R x n (block_in sh (extent_at (extents_of (Extend x ∷ R) x.obj) start) n) start
map_at sh R x n start a l = record {
  place = elim (cases_Bool (eqb start x.index)) [
    | inl y ↦
        let s : start ≡ x.index = eqb-true start x.index y in
        inl (s, ap (λ (z : Option Extent). block_in sh z n) (list start ∙ ap (extent_at (extents_of R x.obj ++ record { number = x.extent; incarnation = suc (length R) } ∷ [])) (s ∙ a.index) ∙ at_last (extents_of R x.obj) (record { number = x.extent; incarnation = suc (length R) })))
    | inr f ↦
        let ne : start ≡ x.index → ⊥ = eqb-false start x.index f in
        let index = a.index in
        let less : start < x.index = le_ne start x.index l ne in
        let g = at_exists (extents_of R x.obj) start (omega (arith, less, index)) in
        inr (g.0, g.1, ap (λ (z : Option Extent). block_in sh z n) (list start ∙ at_old (extents_of R x.obj) (record { number = x.extent; incarnation = suc (length R) }) start (omega (arith, less, index)) ∙ g.1), less)
  ];
}
  where
    list : (i : ℕ) → extent_at (extents_of (Extend x ∷ R) x.obj) i ≡ extent_at (extents_of R x.obj ++ record { number = x.extent; incarnation = suc (length R) } ∷ []) i
    list i = ap (λ (es : List Extent). extent_at es i) (cond-true _ _ _ (eq-eqb x.obj x.obj refl))

    le_ne : (a b : ℕ) → a ≤ b → (a ≡ b → ⊥) → a < b
    le_ne a b l n = elim (cases_Bool (ltb a b)) [ inl y ↦ ltb-true a b y | inr f ↦ (let k = ltb-false a b f in absurd (n (omega (arith, l, k)))) ]

-- what leaves the sort of a block

abbrev Clear : Shape → Record → ℕ → Sort → Type 0
Clear sh (FormatBlock f) d s = eqb f.dba d ≡ false
Clear sh (Reuse q) d s = eqb q.block d ≡ false
Clear sh (Extend e) d s = in_extent sh e.extent d ≡ false
Clear sh (Begin g) d s = as_txns s ≡ s
Clear sh _ d s = Unit {0}

both_same : (b : Bool) (s t : Sort) → (b ≡ true → t ≡ s) → cond b t s ≡ s
both_same true s t h = h refl
both_same false s t h = refl

in_new : (sh : Shape) (x n : ℕ) → n < sh.extent → in_extent sh x (first_block sh x + n) ≡ true
in_new sh x n l = and_from _ _ (le-leb (first_block sh x) (first_block sh x + n) (omega arith)) (lt-ltb (first_block sh x + n) (first_block sh x + sh.extent) (omega (arith, l)))

extent_fits : (sh : Shape) (x : ℕ) → Limits sh → is_extent sh x ≡ true → first_block sh x < 4294967295
extent_fits sh x l e = let k = leb-true (first_block sh x + sh.extent) sh.blocks e in let m = l.most in let f = l.extent_from in omega (arith, k, m, f)

free_whole : (sh : Shape) (R : List Record) (x : ℕ) → is_free_extent sh R x ≡ true → is_extent sh x ≡ true
free_whole sh R x f = (and_parts (is_extent sh x) (not (is_taken R MOST_TABLES x)) f).0

-- the first block of a new extent, as the record touches it
first_touched : (sh : Shape) (R : List Record) (x : ExtendRecord) → Limits sh → ExtendAllowed sh R x → min (first_block sh x.extent) 4294967295 ≡ first_block sh x.extent
first_touched sh R x l a = let k = extent_fits sh x.extent l (free_whole sh R x.extent a.extent.free) in omega (arith, k)

-- a block of another extent isn't in the new one
old_out : (sh : Shape) (R : List Record) (x : ExtendRecord) (o i d n : ℕ) (g : Extent) → Limits sh → IsNumber o → ExtendAllowed sh R x → extent_at (extents_of R o) i ≡ Some g → d ≡ first_block sh g.number + n → n < LEAST_EXTENT_BLOCKS → in_extent sh x.extent d ≡ false
old_out sh R x o i d n g l num a at e m =
    let f = l.extent_from in
    apart sh x.extent g.number d (λ same. free_has sh R o x.extent num a.extent.free (subst (λ z. has_extent (extents_of R o) z ≡ true) same (found_has (extents_of R o) i g at))) (omega (arith, e)) (omega (arith, e, m, f))

l2_map : (sh : Shape) (R : List Record) (x : ExtendRecord) → ExtendAllowed sh R x → MapAt sh R x 1 x.l2 (group_start x.index)
l2_map sh R x a = subst (λ d. MapAt sh R x 1 d (group_start x.index)) (sym a.l2) (map_at sh R x 1 (group_start x.index) a (group_below x.index))

l3_map : (sh : Shape) (R : List Record) (x : ExtendRecord) → ExtendAllowed sh R x → MapAt sh R x 2 x.l3 0
l3_map sh R x a = subst (λ d. MapAt sh R x 2 d 0) (sym a.l3) (map_at sh R x 2 0 a (omega arith))

sort_extend : (sh : Shape) (R : List Record) (x : ExtendRecord) (d : ℕ) (s : Sort) → Limits sh → ExtendAllowed sh R x → in_extent sh x.extent d ≡ false → is_in d (touched_sorts sh (Extend x)) ≡ true → sort_after (Extend x) d s ≡ s
sort_extend sh R x d s l a out m =
    (elim (eqb d x.l2) as (λ v. eqb d x.l2 ≡ v → cond v (cond (eqb (x.index % EXTENTS_OF_L2) 0) Second s) (cond (eqb d x.l3) (cond (eqb x.index 0) Third s) First) ≡ s) [
      | true ↦ λ y. both_same (eqb (x.index % EXTENTS_OF_L2) 0) s Second (λ z. absurd (not_l2 (eqb-true d x.l2 y) (eqb-true (x.index % EXTENTS_OF_L2) 0 z)))
      | false ↦ λ y. (elim (eqb d x.l3) as (λ v. eqb d x.l3 ≡ v → cond v (cond (eqb x.index 0) Third s) First ≡ s) [
        | true ↦ λ z. both_same (eqb x.index 0) s Third (λ w. absurd (not_l3 (eqb-true d x.l3 z) (eqb-true x.index 0 w)))
        | false ↦ λ z. absurd (not_first y z)
      ]) refl
    ]) refl
  where
    not_l2 : d ≡ x.l2 → x.index % EXTENTS_OF_L2 ≡ 0 → ⊥
    not_l2 e z = elim (l2_map sh R x a).place [
      | inl p ↦ (let f = l.extent_from in true≢false (sym (in_new sh x.extent 1 (omega (arith, f))) ∙ ap (in_extent sh x.extent) (sym p.1 ∙ sym e) ∙ out))
      | inr p ↦ (let g = group_is x.index a.few z in let q = p.3 in absurd (omega (arith, g, q)))
    ]

    not_l3 : d ≡ x.l3 → x.index ≡ 0 → ⊥
    not_l3 e z = elim (l3_map sh R x a).place [
      | inl p ↦ (let f = l.extent_from in true≢false (sym (in_new sh x.extent 2 (omega (arith, f))) ∙ ap (in_extent sh x.extent) (sym p.1 ∙ sym e) ∙ out))
      | inr p ↦ (let q = p.3 in absurd (omega (arith, z, q)))
    ]

    here : d ≡ first_block sh x.extent → ⊥
    here e = (let f = l.extent_from in let z : first_block sh x.extent ≡ first_block sh x.extent + 0 = omega arith in true≢false (sym (in_new sh x.extent 0 (omega (arith, f))) ∙ ap (in_extent sh x.extent) (sym z ∙ sym e) ∙ out))

    not_first : eqb d x.l2 ≡ false → eqb d x.l3 ≡ false → ⊥
    not_first y z = elim (or_cases (eqb x.l2 d) (eqb x.l3 d || (eqb (min (first_block sh x.extent) 4294967295) d || false)) m) [
      | inl p ↦ eqb-false d x.l2 y (sym (eqb-true x.l2 d p))
      | inr p ↦ elim (or_cases (eqb x.l3 d) (eqb (min (first_block sh x.extent) 4294967295) d || false) p) [
        | inl q ↦ eqb-false d x.l3 z (sym (eqb-true x.l3 d q))
        | inr q ↦ elim (or_cases (eqb (min (first_block sh x.extent) 4294967295) d) false q) [
          | inl w ↦ here (sym (sym (first_touched sh R x l a) ∙ eqb-true (min (first_block sh x.extent) 4294967295) d w))
          | inr w ↦ true≢false (sym w)
        ]
      ]
    ]

sort_clear : (sh : Shape) (R : List Record) (r : Record) (d : ℕ) → Limits sh → IsKindAllowed sh R r → Clear sh r d (sort_of sh R d) → sort_of sh (r ∷ R) d ≡ sort_of sh R d
sort_clear sh R (Extend x) d l a c = both_same (is_in d (touched_sorts sh (Extend x))) (sort_of sh R d) _ (λ m. sort_extend sh R x d (sort_of sh R d) l a c m)
sort_clear sh R (FormatBlock f) d l a c = both_same (is_in d (touched_sorts sh (FormatBlock f))) (sort_of sh R d) _ (λ m. cond-false _ _ _ c)
sort_clear sh R (Reuse q) d l a c = both_same (is_in d (touched_sorts sh (Reuse q))) (sort_of sh R d) _ (λ m. cond-false _ _ _ c)
sort_clear sh R (Begin g) d l a c = both_same (is_in d (touched_sorts sh (Begin g))) (sort_of sh R d) _ (λ m. c)
sort_clear sh R r d l a c = both_same (is_in d (touched_sorts sh r)) (sort_of sh R d) _ (λ m. refl)

-- formatted blocks

record IsRows (sh : Shape) (R : List Record) (b : ℕ) : Type 0 where
  sort : sort_of sh R b ≡ Rows
  from : OWN_BLOCKS + sh.undo ≤ b

abbrev FormattedIn : Shape → List Record → Type 0
FormattedIn sh R = (b : ℕ) → is_formatted sh R b ≡ true → IsRows sh R b

stays_rows : (sh : Shape) (R : List Record) (r : Record) (b : ℕ) → Limits sh → IsKindAllowed sh R r → (IsRows sh R b → Clear sh r b (sort_of sh R b)) → IsRows sh R b → IsRows sh (r ∷ R) b
stays_rows sh R r b l a c h = record { sort = sort_clear sh R r b l a (c h) ∙ h.sort; from = h.from }

format_from : (sh : Shape) (R : List Record) (o d : ℕ) → is_in d (data_blocks sh R o) ≡ true → OWN_BLOCKS + sh.undo ≤ d
format_from sh R o d h = let y = in_data sh 0 (extents_of R o) d h in let f = y.from in omega (arith, f)

formatted_step : (sh : Shape) (R : List Record) (r : Record) → Limits sh → AreAllowed sh R → IsKindAllowed sh R r → FormattedIn sh R → FormattedIn sh (r ∷ R)
formatted_step sh R (FormatBlock f) l h a k b x =
    (elim (eqb f.dba b) as (λ v. eqb f.dba b ≡ v → (v || is_formatted sh R b) ≡ true → IsRows sh (FormatBlock f ∷ R) b) [
      | true ↦ λ y z. record {
        sort = cond-true _ _ _ (or_left (eqb f.dba b) _ y) ∙ cond-true _ _ _ y;
        from = subst (λ d. OWN_BLOCKS + sh.undo ≤ d) (eqb-true f.dba b y) (format_from sh R f.obj f.dba (in_take f.dba (high_mark R f.obj) (data_blocks sh R f.obj) (format_first sh R f a).0));
      }
      | false ↦ λ y z. stays_rows sh R (FormatBlock f) b l a (λ q. y) (k b z)
    ]) refl x
formatted_step sh R (Extend e) l h a k b x =
    let p = and_parts (not (in_extent sh e.extent b)) (is_formatted sh R b) x in
    stays_rows sh R (Extend e) b l a (λ q. not-true (in_extent sh e.extent b) p.0) (k b p.1)
formatted_step sh R (Reuse q) l h a k b x = stays_rows sh R (Reuse q) b l a (λ w. ne_eqb q.block b (λ e. (let m = (reuse_bound sh R q.block l.undo_from h a.block.next).1 in let f = w.from in absurd (omega (arith, m, f, e))))) (k b x)
formatted_step sh R (Begin g) l h a k b x = stays_rows sh R (Begin g) b l a (λ w. ap as_txns w.sort ∙ sym w.sort) (k b x)
formatted_step sh R (Table t) l h a k b x = stays_rows sh R (Table t) b l a (λ w. tt) (k b x)
formatted_step sh R (Movement t) l h a k b x = stays_rows sh R (Movement t) b l a (λ w. tt) (k b x)
formatted_step sh R (Class t) l h a k b x = stays_rows sh R (Class t) b l a (λ w. tt) (k b x)
formatted_step sh R (Advance t) l h a k b x = stays_rows sh R (Advance t) b l a (λ w. tt) (k b x)
formatted_step sh R (Lower t) l h a k b x = stays_rows sh R (Lower t) b l a (λ w. tt) (k b x)
formatted_step sh R (Insert t) l h a k b x = stays_rows sh R (Insert t) b l a (λ w. tt) (k b x)
formatted_step sh R (Update t) l h a k b x = stays_rows sh R (Update t) b l a (λ w. tt) (k b x)
formatted_step sh R (Migrate t) l h a k b x = stays_rows sh R (Migrate t) b l a (λ w. tt) (k b x)
formatted_step sh R (Return t) l h a k b x = stays_rows sh R (Return t) b l a (λ w. tt) (k b x)
formatted_step sh R (Delete t) l h a k b x = stays_rows sh R (Delete t) b l a (λ w. tt) (k b x)
formatted_step sh R (Commit t) l h a k b x = stays_rows sh R (Commit t) b l a (λ w. tt) (k b x)
formatted_step sh R (Back t) l h a k b x = stays_rows sh R (Back t) b l a (λ w. tt) (k b x)
formatted_step sh R (Ended t) l h a k b x = stays_rows sh R (Ended t) b l a (λ w. tt) (k b x)
formatted_step sh R (Move t) l h a k b x = stays_rows sh R (Move t) b l a (λ w. tt) (k b x)
formatted_step sh R (Clean t) l h a k b x = stays_rows sh R (Clean t) b l a (λ w. tt) (k b x)

formatted_in : (sh : Shape) (R : List Record) → Limits sh → AreAllowed sh R → FormattedIn sh R
formatted_in sh [] l h b x = absurd (true≢false (sym x))
formatted_in sh (r ∷ R) l h b x = formatted_step sh R r l h.0 h.1.kind (formatted_in sh R l h.0) b x

-- undo blocks

record IsUndo (sh : Shape) (R : List Record) (u : ℕ) : Type 0 where
  sort : sort_of sh R u ≡ Undo
  from : OWN_BLOCKS ≤ u
  to : u < OWN_BLOCKS + sh.undo

abbrev UsedIn : Shape → List Record → Type 0
UsedIn sh R = (u : ℕ) → 1 ≤ undo_sequence R u → IsUndo sh R u

stays_undo : (sh : Shape) (R : List Record) (r : Record) (u : ℕ) → Limits sh → IsKindAllowed sh R r → (IsUndo sh R u → Clear sh r u (sort_of sh R u)) → IsUndo sh R u → IsUndo sh (r ∷ R) u
stays_undo sh R r u l a c h = record { sort = sort_clear sh R r u l a (c h) ∙ h.sort; from = h.from; to = h.to }

used_step : (sh : Shape) (R : List Record) (r : Record) → Limits sh → AreAllowed sh R → IsKindAllowed sh R r → UsedIn sh R → UsedIn sh (r ∷ R)
used_step sh R (Reuse q) l h a k u x =
    (elim (eqb q.block u) as (λ v. eqb q.block u ≡ v → 1 ≤ cond v (suc (undo_sequence R u)) (undo_sequence R u) → IsUndo sh (Reuse q ∷ R) u) [
      | true ↦ λ y z.
          let b = reuse_bound sh R q.block l.undo_from h a.block.next in
          let m : is_in u (touched_sorts sh (Reuse q)) ≡ true = or_right (eqb 1 u) _ (or_left (eqb q.block u) _ y) in
          record { sort = cond-true _ _ _ m ∙ cond-true _ _ _ y; from = subst (λ d. OWN_BLOCKS ≤ d) (eqb-true q.block u y) b.0; to = subst (λ d. d < OWN_BLOCKS + sh.undo) (eqb-true q.block u y) b.1 }
      | false ↦ λ y z. stays_undo sh R (Reuse q) u l a (λ w. y) (k u z)
    ]) refl x
used_step sh R (FormatBlock f) l h a k u x = stays_undo sh R (FormatBlock f) u l a (λ w. ne_eqb f.dba u (λ e. (let m = format_from sh R f.obj f.dba (in_take f.dba (high_mark R f.obj) (data_blocks sh R f.obj) (format_first sh R f a).0) in let t = w.to in absurd (omega (arith, m, t, e))))) (k u x)
used_step sh R (Extend e) l h a k u x = stays_undo sh R (Extend e) u l a (λ w. off _ (λ y. (let p = leb-true (first_block sh e.extent) u (and_parts (leb (first_block sh e.extent) u) (ltb u (first_block sh e.extent + sh.extent)) y).0 in let t = w.to in absurd (omega (arith, p, t))))) (k u x)
used_step sh R (Begin g) l h a k u x = stays_undo sh R (Begin g) u l a (λ w. ap as_txns w.sort ∙ sym w.sort) (k u x)
used_step sh R (Table t) l h a k u x = stays_undo sh R (Table t) u l a (λ w. tt) (k u x)
used_step sh R (Movement t) l h a k u x = stays_undo sh R (Movement t) u l a (λ w. tt) (k u x)
used_step sh R (Class t) l h a k u x = stays_undo sh R (Class t) u l a (λ w. tt) (k u x)
used_step sh R (Advance t) l h a k u x = stays_undo sh R (Advance t) u l a (λ w. tt) (k u x)
used_step sh R (Lower t) l h a k u x = stays_undo sh R (Lower t) u l a (λ w. tt) (k u x)
used_step sh R (Insert t) l h a k u x = stays_undo sh R (Insert t) u l a (λ w. tt) (k u x)
used_step sh R (Update t) l h a k u x = stays_undo sh R (Update t) u l a (λ w. tt) (k u x)
used_step sh R (Migrate t) l h a k u x = stays_undo sh R (Migrate t) u l a (λ w. tt) (k u x)
used_step sh R (Return t) l h a k u x = stays_undo sh R (Return t) u l a (λ w. tt) (k u x)
used_step sh R (Delete t) l h a k u x = stays_undo sh R (Delete t) u l a (λ w. tt) (k u x)
used_step sh R (Commit t) l h a k u x = stays_undo sh R (Commit t) u l a (λ w. tt) (k u x)
used_step sh R (Back t) l h a k u x = stays_undo sh R (Back t) u l a (λ w. tt) (k u x)
used_step sh R (Ended t) l h a k u x = stays_undo sh R (Ended t) u l a (λ w. tt) (k u x)
used_step sh R (Move t) l h a k u x = stays_undo sh R (Move t) u l a (λ w. tt) (k u x)
used_step sh R (Clean t) l h a k u x = stays_undo sh R (Clean t) u l a (λ w. tt) (k u x)

used_in : (sh : Shape) (R : List Record) → Limits sh → AreAllowed sh R → UsedIn sh R
used_in sh [] l h u x = absurd (omega (arith, x))
used_in sh (r ∷ R) l h u x = used_step sh R r l h.0 h.1.kind (used_in sh R l h.0) u x

-- the transaction table

abbrev TableIn : Shape → List Record → Type 0
TableIn sh R = ((1 ≤ txn_count R) × (sort_of sh R 1 ≡ Txns)) ⊎ ((txn_count R ≡ 0) × (sort_of sh R 1 ≡ Blank))

table_begun : (sh : Shape) (R : List Record) (g : BeginRecord) → TableIn sh R → TableIn sh (Begin g ∷ R)
table_begun sh R g (inl h) = inl (omega arith, ap as_txns h.1)
table_begun sh R g (inr h) = inl (omega arith, ap as_txns h.1)

table_same : (sh : Shape) (R S : List Record) → txn_count S ≡ txn_count R → sort_of sh S 1 ≡ sort_of sh R 1 → TableIn sh R → TableIn sh S
table_same sh R S e s (inl h) = inl ((let l = h.0 in omega (arith, e, l)), s ∙ h.1)
table_same sh R S e s (inr h) = inr (e ∙ h.0, s ∙ h.1)

not_one : (sh : Shape) (x : ℕ) → in_extent sh x 1 ≡ false
not_one sh x = off _ (λ y. (let p = leb-true (first_block sh x) 1 (and_parts (leb (first_block sh x) 1) (ltb 1 (first_block sh x + sh.extent)) y).0 in absurd (omega (arith, p))))

table_step : (sh : Shape) (R : List Record) (r : Record) → Limits sh → AreAllowed sh R → IsKindAllowed sh R r → TableIn sh R → TableIn sh (r ∷ R)
table_step sh R (Begin g) l h a k = table_begun sh R g k
table_step sh R (Extend e) l h a k = table_same sh R (Extend e ∷ R) refl (sort_clear sh R (Extend e) 1 l a (not_one sh e.extent)) k
table_step sh R (FormatBlock f) l h a k = table_same sh R (FormatBlock f ∷ R) refl (sort_clear sh R (FormatBlock f) 1 l a (ne_eqb f.dba 1 (λ e. (let m = format_from sh R f.obj f.dba (in_take f.dba (high_mark R f.obj) (data_blocks sh R f.obj) (format_first sh R f a).0) in absurd (omega (arith, m, e)))))) k
table_step sh R (Reuse q) l h a k = table_same sh R (Reuse q ∷ R) refl (sort_clear sh R (Reuse q) 1 l a (ne_eqb q.block 1 (λ e. (let m = (reuse_bound sh R q.block l.undo_from h a.block.next).0 in absurd (omega (arith, m, e)))))) k
table_step sh R (Table t) l h a k = table_same sh R (Table t ∷ R) refl (sort_clear sh R (Table t) 1 l a tt) k
table_step sh R (Movement t) l h a k = table_same sh R (Movement t ∷ R) refl (sort_clear sh R (Movement t) 1 l a tt) k
table_step sh R (Class t) l h a k = table_same sh R (Class t ∷ R) refl (sort_clear sh R (Class t) 1 l a tt) k
table_step sh R (Advance t) l h a k = table_same sh R (Advance t ∷ R) refl (sort_clear sh R (Advance t) 1 l a tt) k
table_step sh R (Lower t) l h a k = table_same sh R (Lower t ∷ R) refl (sort_clear sh R (Lower t) 1 l a tt) k
table_step sh R (Insert t) l h a k = table_same sh R (Insert t ∷ R) refl (sort_clear sh R (Insert t) 1 l a tt) k
table_step sh R (Update t) l h a k = table_same sh R (Update t ∷ R) refl (sort_clear sh R (Update t) 1 l a tt) k
table_step sh R (Migrate t) l h a k = table_same sh R (Migrate t ∷ R) refl (sort_clear sh R (Migrate t) 1 l a tt) k
table_step sh R (Return t) l h a k = table_same sh R (Return t ∷ R) refl (sort_clear sh R (Return t) 1 l a tt) k
table_step sh R (Delete t) l h a k = table_same sh R (Delete t ∷ R) refl (sort_clear sh R (Delete t) 1 l a tt) k
table_step sh R (Commit t) l h a k = table_same sh R (Commit t ∷ R) refl (sort_clear sh R (Commit t) 1 l a tt) k
table_step sh R (Back t) l h a k = table_same sh R (Back t ∷ R) refl (sort_clear sh R (Back t) 1 l a tt) k
table_step sh R (Ended t) l h a k = table_same sh R (Ended t ∷ R) refl (sort_clear sh R (Ended t) 1 l a tt) k
table_step sh R (Move t) l h a k = table_same sh R (Move t ∷ R) refl (sort_clear sh R (Move t) 1 l a tt) k
table_step sh R (Clean t) l h a k = table_same sh R (Clean t ∷ R) refl (sort_clear sh R (Clean t) 1 l a tt) k

table_in : (sh : Shape) (R : List Record) → Limits sh → AreAllowed sh R → TableIn sh R
table_in sh [] l h = inr (refl, refl)
table_in sh (r ∷ R) l h = table_step sh R r l h.0 h.1.kind (table_in sh R l h.0)

-- bitmaps

pub record HeadSorts (sh : Shape) (R : List Record) (i : ℕ) (e : Extent) : Type 0 where
  pub first : sort_of sh R (first_block sh e.number + 0) ≡ First
  pub second : group_start i ≡ i → sort_of sh R (first_block sh e.number + 1) ≡ Second
  pub third : i ≡ 0 → sort_of sh R (first_block sh e.number + 2) ≡ Third

abbrev HeadsIn : Shape → List Record → Type 0
HeadsIn sh R = (o i : ℕ) (e : Extent) → extent_at (extents_of R o) i ≡ Some e → HeadSorts sh R i e

head_clear : (sh : Shape) (R : List Record) (r : Record) (o i n : ℕ) (e : Extent) → is_shape sh ≡ true → AreAllowed sh R → IsKindAllowed sh R r → extent_at (extents_of R o) i ≡ Some e → n < head_blocks i → as_txns (sort_of sh R (first_block sh e.number + n)) ≡ sort_of sh R (first_block sh e.number + n)
    → Clear sh r (first_block sh e.number + n) (sort_of sh R (first_block sh e.number + n))
head_clear sh R (FormatBlock f) o i n e s h a at l b = off _ (λ y.
    let d : f.dba ≡ first_block sh e.number + n = eqb-true f.dba (first_block sh e.number + n) y in
    let here : is_in f.dba (data_blocks sh R f.obj) ≡ true = in_take f.dba (high_mark R f.obj) (data_blocks sh R f.obj) (format_first sh R f a).0 in
    (each_block_has_one_role sh R s h).no_data o f.obj i n f.dba (record { table = has_table sh R o i e h at; extent = e; at = at; place = l; block = d }) a.table (contains_in (data_blocks sh R f.obj) f.dba here))
head_clear sh R (Reuse q) o i n e s h a at l b = ne_eqb q.block (first_block sh e.number + n) (λ x. (let m = (reuse_bound sh R q.block (limits sh s).undo_from h a.block.next).1 in absurd (omega (arith, m, x))))
head_clear sh R (Extend x) o i n e s h a at l b = (let f = (head_few i).1 in old_out sh R x o i (first_block sh e.number + n) n e (limits sh s) (has_number sh R o i e h at) a at refl (omega (arith, f, l)))
head_clear sh R (Begin g) o i n e s h a at l b = b
head_clear sh R (Table t) o i n e s h a at l b = tt
head_clear sh R (Movement t) o i n e s h a at l b = tt
head_clear sh R (Class t) o i n e s h a at l b = tt
head_clear sh R (Advance t) o i n e s h a at l b = tt
head_clear sh R (Lower t) o i n e s h a at l b = tt
head_clear sh R (Insert t) o i n e s h a at l b = tt
head_clear sh R (Update t) o i n e s h a at l b = tt
head_clear sh R (Migrate t) o i n e s h a at l b = tt
head_clear sh R (Return t) o i n e s h a at l b = tt
head_clear sh R (Delete t) o i n e s h a at l b = tt
head_clear sh R (Commit t) o i n e s h a at l b = tt
head_clear sh R (Back t) o i n e s h a at l b = tt
head_clear sh R (Ended t) o i n e s h a at l b = tt
head_clear sh R (Move t) o i n e s h a at l b = tt
head_clear sh R (Clean t) o i n e s h a at l b = tt

stays_head : (sh : Shape) (R : List Record) (r : Record) (o i n : ℕ) (e : Extent) (k : Sort) → is_shape sh ≡ true → AreAllowed sh R → IsKindAllowed sh R r → extent_at (extents_of R o) i ≡ Some e → n < head_blocks i → as_txns k ≡ k → sort_of sh R (first_block sh e.number + n) ≡ k → sort_of sh (r ∷ R) (first_block sh e.number + n) ≡ k
stays_head sh R r o i n e k s h a at l b x =
    sort_clear sh R r (first_block sh e.number + n) (limits sh s) a (head_clear sh R r o i n e s h a at l (ap as_txns x ∙ b ∙ sym x)) ∙ x

two_heads : (i : ℕ) → group_start i ≡ i → 1 < head_blocks i
two_heads i g = (let l = group_heads i in let e : head_blocks (group_start i) ≡ head_blocks i = ap head_blocks g in omega (arith, l, e))

old_heads : (sh : Shape) (R : List Record) (r : Record) (o i : ℕ) (e : Extent) → is_shape sh ≡ true → AreAllowed sh R → IsKindAllowed sh R r → extent_at (extents_of R o) i ≡ Some e → HeadSorts sh R i e → HeadSorts sh (r ∷ R) i e
old_heads sh R r o i e s h a at k = record {
  first = stays_head sh R r o i 0 e First s h a at (let f = (head_few i).0 in omega (arith, f)) refl k.first;
  second = λ g. stays_head sh R r o i 1 e Second s h a at (two_heads i g) refl (k.second g);
  third = λ z. stays_head sh R r o i 2 e Third s h a at (subst (λ n. 2 < head_blocks n) (sym z) (omega arith)) refl (k.third z);
}

-- of a new extent

not_in_old : (sh : Shape) (R : List Record) (x : ExtendRecord) (g : Extent) (i d n m : ℕ) → is_shape sh ≡ true → AreAllowed sh R → ExtendAllowed sh R x → extent_at (extents_of R x.obj) i ≡ Some g → d ≡ first_block sh g.number + n → n < LEAST_EXTENT_BLOCKS → m < LEAST_EXTENT_BLOCKS → first_block sh x.extent + m ≡ d → ⊥
not_in_old sh R x g i d n m s h a at e l k same =
    let lim = limits sh s in
    let f = lim.extent_from in
    true≢false (sym (in_new sh x.extent m (omega (arith, f, k))) ∙ ap (in_extent sh x.extent) same ∙ old_out sh R x x.obj i d n g lim (has_number sh R x.obj i g h at) a at e l)

-- a block of the new extent isn't the L2, but for the second one
not_second : (sh : Shape) (R : List Record) (x : ExtendRecord) (m : ℕ) → is_shape sh ≡ true → AreAllowed sh R → ExtendAllowed sh R x → m < LEAST_EXTENT_BLOCKS → (m ≡ 1 → ⊥) → eqb (first_block sh x.extent + m) x.l2 ≡ false
not_second sh R x m s h a l n = ne_eqb (first_block sh x.extent + m) x.l2 (λ e. elim (l2_map sh R x a).place [
  | inl p ↦ n (let q = p.1 in omega (arith, e, q))
  | inr p ↦ not_in_old sh R x p.0 (group_start x.index) x.l2 1 m s h a p.1 p.2 (omega arith) l e
])

not_third : (sh : Shape) (R : List Record) (x : ExtendRecord) (m : ℕ) → is_shape sh ≡ true → AreAllowed sh R → ExtendAllowed sh R x → m < LEAST_EXTENT_BLOCKS → (m ≡ 2 → ⊥) → eqb (first_block sh x.extent + m) x.l3 ≡ false
not_third sh R x m s h a l n = ne_eqb (first_block sh x.extent + m) x.l3 (λ e. elim (l3_map sh R x a).place [
  | inl p ↦ n (let q = p.1 in omega (arith, e, q))
  | inr p ↦ not_in_old sh R x p.0 0 x.l3 2 m s h a p.1 p.2 (omega arith) l e
])

new_l2 : (sh : Shape) (R : List Record) (x : ExtendRecord) → ExtendAllowed sh R x → group_start x.index ≡ x.index → x.l2 ≡ first_block sh x.extent + 1
new_l2 sh R x a g = elim (l2_map sh R x a).place [ inl p ↦ p.1 | inr p ↦ (let q = p.3 in absurd (omega (arith, q, g))) ]

new_l3 : (sh : Shape) (R : List Record) (x : ExtendRecord) → ExtendAllowed sh R x → x.index ≡ 0 → x.l3 ≡ first_block sh x.extent + 2
new_l3 sh R x a g = elim (l3_map sh R x a).place [ inl p ↦ p.1 | inr p ↦ (let q = p.3 in absurd (omega (arith, q, g))) ]

new_heads : (sh : Shape) (R : List Record) (x : ExtendRecord) → is_shape sh ≡ true → AreAllowed sh R → ExtendAllowed sh R x → HeadSorts sh (Extend x ∷ R) x.index (record { number = x.extent; incarnation = 0 })
new_heads sh R x s h a =
    let lim = limits sh s in
    let b = first_block sh x.extent in
    record {
      first =
          let touched_it : is_in (b + 0) (touched_sorts sh (Extend x)) ≡ true = or_right (eqb x.l2 (b + 0)) _ (or_right (eqb x.l3 (b + 0)) _ (or_left (eqb (min b 4294967295) (b + 0)) false (eq-eqb (min b 4294967295) (b + 0) (let k = first_touched sh R x lim a in omega (arith, k))))) in
          cond-true _ _ _ touched_it ∙ cond-false _ _ _ (not_second sh R x 0 s h a (omega arith) (λ e. absurd (omega (arith, e)))) ∙ cond-false _ _ _ (not_third sh R x 0 s h a (omega arith) (λ e. absurd (omega (arith, e))));
      second = λ g.
          let l2 = new_l2 sh R x a g in
          let touched_it : is_in (b + 1) (touched_sorts sh (Extend x)) ≡ true = or_left (eqb x.l2 (b + 1)) _ (eq-eqb x.l2 (b + 1) l2) in
          cond-true _ _ _ touched_it ∙ cond-true _ _ _ (eq-eqb (b + 1) x.l2 (sym l2)) ∙ cond-true _ _ _ (eq-eqb (x.index % EXTENTS_OF_L2) 0 (group_whole x.index g));
      third = λ z.
          let l3 = new_l3 sh R x a z in
          let touched_it : is_in (b + 2) (touched_sorts sh (Extend x)) ≡ true = or_right (eqb x.l2 (b + 2)) _ (or_left (eqb x.l3 (b + 2)) _ (eq-eqb x.l3 (b + 2) l3)) in
          cond-true _ _ _ touched_it ∙ cond-false _ _ _ (not_second sh R x 2 s h a (omega arith) (λ e. absurd (omega (arith, e)))) ∙ cond-true _ _ _ (eq-eqb (b + 2) x.l3 (sym l3)) ∙ cond-true _ _ _ (eq-eqb x.index 0 z);
    }

heads_step : (sh : Shape) (R : List Record) (r : Record) → is_shape sh ≡ true → AreAllowed sh R → IsKindAllowed sh R r → HeadsIn sh R → HeadsIn sh (r ∷ R)
heads_step sh R r s h a k o i e at = elim (extents_before R r o i e at) [
  | inl y ↦ old_heads sh R r o i e s h a y (k o i e y)
  | inr z ↦
      let x = z.0 in
      let allowed : ExtendAllowed sh R x = subst (IsKindAllowed sh R) z.1 a in
      let index : x.index ≡ i = allowed.index ∙ ap (λ n. length (extents_of R n)) z.2 ∙ sym z.3 in
      let n = new_heads sh R x s h allowed in
      let again : HeadSorts sh (Extend x ∷ R) x.index e = record {
        first = subst (λ w. sort_of sh (Extend x ∷ R) (first_block sh w + 0) ≡ First) z.4 n.first;
        second = λ g. subst (λ w. sort_of sh (Extend x ∷ R) (first_block sh w + 1) ≡ Second) z.4 (n.second g);
        third = λ g. subst (λ w. sort_of sh (Extend x ∷ R) (first_block sh w + 2) ≡ Third) z.4 (n.third g);
      } in
      subst (λ w. HeadSorts sh (w ∷ R) i e) (sym z.1) (subst (λ w. HeadSorts sh (Extend x ∷ R) w e) index again)
]

pub heads_in : (sh : Shape) (R : List Record) → is_shape sh ≡ true → AreAllowed sh R → HeadsIn sh R
heads_in sh [] s h o i e at = absurd (let y : ◌≡◌ {A = Option Extent} None (Some e) = at in cc)
heads_in sh (r ∷ R) s h o i e at = heads_step sh R r s h.0 h.1.kind (heads_in sh R s h.0) o i e at

pub sorts_are_made : SortsAreMade
sorts_are_made sh R s h =
    let lim = limits sh s in
    record {
      formatted = λ b x. (formatted_in sh R lim h b x).sort;
      used = λ u x. (used_in sh R lim h u x).sort;
      begun = λ l. elim (table_in sh R lim h) [ inl y ↦ y.1 | inr z ↦ (let e = z.0 in absurd (omega (arith, l, e))) ];
      not_begun = λ e. elim (table_in sh R lim h) [ inl y ↦ (let l = y.0 in absurd (omega (arith, l, e))) | inr z ↦ z.1 ];
      first = λ o i e at. subst (λ d. sort_of sh R d ≡ First) (let z : first_block sh e.number + 0 ≡ first_block sh e.number = omega arith in z) (heads_in sh R s h o i e at).first;
      second = λ o i e at g. (heads_in sh R s h o i e at).second g;
      third = λ o e at. (heads_in sh R s h o 0 e at).third refl;
    }
