-- Blocks that are neither the catalogue nor the space bitmap nor a header.
use Rattle.std.proofs.Common.{◌≡◌, ℕ, suc, ◌+◌, ◌<◌, ◌≤◌, Bool, true, false, eqb, ◌||◌, List, [], ◌∷◌, Option, refl, sym, ◌∙◌, ap, subst, arith, inl, inr}
use Rattle.std.proofs.lemmas.Bool.{cases_Bool, cases_order, eqb-true, eq-eqb, ne_eqb, cond-true, cond-false, or_cases, or_left, or_right, true≢false}
use Rattle.seg_words.specs.Types.{OWN_BLOCKS}
use Rattle.seg_base.specs.declared.shape.Shape.{Shape}
use Rattle.seg_base.specs.Places.{first_block}
use Rattle.redo_record.specs.declared.record.Record.{Record}
use Rattle.redo_record.specs.declared.record.Record.TheVariants.{Table, Movement, Extend, FormatBlock, Class, Advance, Lower, Begin, Reuse, Insert, Update, Migrate, Return, Delete, Commit, Back, Ended, Move, Clean}
use Rattle.redo_record.specs.declared.space.ExtendRecord.{ExtendRecord}
use Rattle.redo_model.specs.Segments.{Extent, IsTable, table_count, block_in}
use Rattle.redo_model.specs.Lawful.{AreAllowed}
use Rattle.redo_laws.proofs.numbers.Bounds.{Limits}
use Rattle.redo_laws.proofs.space.Places.{same_extent}
use Rattle.page_fit.specs.Headers.{stated_header}
use Rattle.page_fit.proofs.Headed.{headed}

abbrev pub header_too : Record → ℕ → Bool → Bool
header_too (Table t) d was = eqb t.header d || was
header_too _ d was = was

-- some Table states the block as its header
abbrev pub is_header : List Record → ℕ → Bool
is_header [] d = false
is_header (r ∷ R) d = header_too r d (is_header R d)

pub record Plain (R : List Record) (d : ℕ) : Type 0 where
  pub no_catalogue : d ≡ 2 → ⊥
  pub no_space : d ≡ 3 → ⊥
  pub no_header : is_header R d ≡ true → ⊥

header_kept : (r : Record) (d : ℕ) (was : Bool) → was ≡ true → header_too r d was ≡ true
header_kept (Table t) d was h = or_right (eqb t.header d) was h
header_kept _ d was h = h

pub plain_before : (r : Record) (R : List Record) (d : ℕ) → Plain (r ∷ R) d → Plain R d
plain_before r R d p = record { no_catalogue = p.no_catalogue; no_space = p.no_space; no_header = λ h. p.no_header (header_kept r d (is_header R d) h) }

-- a header is the fourth block of an extent
pub record Fourth (sh : Shape) (d : ℕ) : Type 0 where
  pub extent : ℕ
  pub is : d ≡ first_block sh extent + 3

pub header_place : (sh : Shape) (R : List Record) (d : ℕ) → AreAllowed sh R → is_header R d ≡ true → Fourth sh d
header_place sh [] d h e = absurd (true≢false (sym e))
header_place sh (Table t ∷ R) d h e = elim (or_cases (eqb t.header d) (is_header R d) e) [
  | inl y ↦ record { extent = h.1.kind.extent; is = sym (eqb-true t.header d y) ∙ h.1.kind.header }
  | inr z ↦ header_place sh R d h.0 z
]
header_place sh (Movement r ∷ R) d h e = header_place sh R d h.0 e
header_place sh (Extend r ∷ R) d h e = header_place sh R d h.0 e
header_place sh (FormatBlock r ∷ R) d h e = header_place sh R d h.0 e
header_place sh (Class r ∷ R) d h e = header_place sh R d h.0 e
header_place sh (Advance r ∷ R) d h e = header_place sh R d h.0 e
header_place sh (Lower r ∷ R) d h e = header_place sh R d h.0 e
header_place sh (Begin r ∷ R) d h e = header_place sh R d h.0 e
header_place sh (Reuse r ∷ R) d h e = header_place sh R d h.0 e
header_place sh (Insert r ∷ R) d h e = header_place sh R d h.0 e
header_place sh (Update r ∷ R) d h e = header_place sh R d h.0 e
header_place sh (Migrate r ∷ R) d h e = header_place sh R d h.0 e
header_place sh (Return r ∷ R) d h e = header_place sh R d h.0 e
header_place sh (Delete r ∷ R) d h e = header_place sh R d h.0 e
header_place sh (Commit r ∷ R) d h e = header_place sh R d h.0 e
header_place sh (Back r ∷ R) d h e = header_place sh R d h.0 e
header_place sh (Ended r ∷ R) d h e = header_place sh R d h.0 e
header_place sh (Move r ∷ R) d h e = header_place sh R d h.0 e
header_place sh (Clean r ∷ R) d h e = header_place sh R d h.0 e

-- and the header of a table
pub record HeaderOf (R : List Record) (d : ℕ) : Type 0 where
  pub obj : ℕ
  pub table : IsTable R obj
  pub is : stated_header R obj ≡ d

later_of : (r : Record) (R : List Record) (d : ℕ) → ((o : ℕ) → IsTable R o → (IsTable (r ∷ R) o) × (stated_header (r ∷ R) o ≡ stated_header R o)) → HeaderOf R d → HeaderOf (r ∷ R) d
later_of r R d f h = record { obj = h.obj; table = (f h.obj h.table).0; is = (f h.obj h.table).1 ∙ h.is }

as_table : (R S : List Record) (o : ℕ) → table_count S ≡ table_count R → IsTable R o → IsTable S o
as_table R S o e i = record { least = i.least; most = (let m = i.most in omega (arith, e, m)) }

pub header_table : (sh : Shape) (R : List Record) (d : ℕ) → AreAllowed sh R → is_header R d ≡ true → HeaderOf R d
header_table sh [] d h e = absurd (true≢false (sym e))
header_table sh (Table t ∷ R) d h e = elim (or_cases (eqb t.header d) (is_header R d) e) [
  | inl y ↦ (let n = h.1.kind.number in record {
    obj = t.obj;
    table = record { least = omega (arith, n); most = omega (arith, n) };
    is = cond-true _ _ _ (eq-eqb t.obj t.obj refl) ∙ eqb-true t.header d y;
  })
  | inr z ↦ later_of (Table t) R d
      (λ o i. (let n = h.1.kind.number in let m = i.most in (record { least = i.least; most = omega (arith, m) }, cond-false _ _ _ (ne_eqb t.obj o (λ same. omega (arith, same, n, m))))))
      (header_table sh R d h.0 z)
]
header_table sh (Movement r ∷ R) d h e = later_of (Movement r) R d (λ o i. (record { least = i.least; most = i.most }, refl)) (header_table sh R d h.0 e)
header_table sh (Extend r ∷ R) d h e = later_of (Extend r) R d (λ o i. (record { least = i.least; most = i.most }, refl)) (header_table sh R d h.0 e)
header_table sh (FormatBlock r ∷ R) d h e = later_of (FormatBlock r) R d (λ o i. (record { least = i.least; most = i.most }, refl)) (header_table sh R d h.0 e)
header_table sh (Class r ∷ R) d h e = later_of (Class r) R d (λ o i. (record { least = i.least; most = i.most }, refl)) (header_table sh R d h.0 e)
header_table sh (Advance r ∷ R) d h e = later_of (Advance r) R d (λ o i. (record { least = i.least; most = i.most }, refl)) (header_table sh R d h.0 e)
header_table sh (Lower r ∷ R) d h e = later_of (Lower r) R d (λ o i. (record { least = i.least; most = i.most }, refl)) (header_table sh R d h.0 e)
header_table sh (Begin r ∷ R) d h e = later_of (Begin r) R d (λ o i. (record { least = i.least; most = i.most }, refl)) (header_table sh R d h.0 e)
header_table sh (Reuse r ∷ R) d h e = later_of (Reuse r) R d (λ o i. (record { least = i.least; most = i.most }, refl)) (header_table sh R d h.0 e)
header_table sh (Insert r ∷ R) d h e = later_of (Insert r) R d (λ o i. (record { least = i.least; most = i.most }, refl)) (header_table sh R d h.0 e)
header_table sh (Update r ∷ R) d h e = later_of (Update r) R d (λ o i. (record { least = i.least; most = i.most }, refl)) (header_table sh R d h.0 e)
header_table sh (Migrate r ∷ R) d h e = later_of (Migrate r) R d (λ o i. (record { least = i.least; most = i.most }, refl)) (header_table sh R d h.0 e)
header_table sh (Return r ∷ R) d h e = later_of (Return r) R d (λ o i. (record { least = i.least; most = i.most }, refl)) (header_table sh R d h.0 e)
header_table sh (Delete r ∷ R) d h e = later_of (Delete r) R d (λ o i. (record { least = i.least; most = i.most }, refl)) (header_table sh R d h.0 e)
header_table sh (Commit r ∷ R) d h e = later_of (Commit r) R d (λ o i. (record { least = i.least; most = i.most }, refl)) (header_table sh R d h.0 e)
header_table sh (Back r ∷ R) d h e = later_of (Back r) R d (λ o i. (record { least = i.least; most = i.most }, refl)) (header_table sh R d h.0 e)
header_table sh (Ended r ∷ R) d h e = later_of (Ended r) R d (λ o i. (record { least = i.least; most = i.most }, refl)) (header_table sh R d h.0 e)
header_table sh (Move r ∷ R) d h e = later_of (Move r) R d (λ o i. (record { least = i.least; most = i.most }, refl)) (header_table sh R d h.0 e)
header_table sh (Clean r ∷ R) d h e = later_of (Clean r) R d (λ o i. (record { least = i.least; most = i.most }, refl)) (header_table sh R d h.0 e)

pub stated_is : (sh : Shape) (R : List Record) (o : ℕ) → AreAllowed sh R → IsTable R o → is_header R (stated_header R o) ≡ true
stated_is sh [] o h i = (let a = i.least in let b = i.most in absurd (omega (arith, a, b)))
stated_is sh (Table t ∷ R) o h i = elim (cases_Bool (eqb t.obj o)) [
  | inl y ↦ subst (λ (d : ℕ). (eqb t.header d || is_header R d) ≡ true) (sym (cond-true _ _ _ y)) (or_left (eqb t.header t.header) (is_header R t.header) (eq-eqb t.header t.header refl))
  | inr n ↦
      let most : o ≤ table_count R = elim (cases_order o (suc (table_count R))) [
        | inl e ↦ absurd (true≢false (sym (eq-eqb t.obj o (h.1.kind.number ∙ sym e)) ∙ n))
        | inr w ↦ elim w [ inl x ↦ omega (arith, x) | inr x ↦ (let k = i.most in absurd (omega (arith, x, k))) ]
      ] in
      subst (λ (d : ℕ). (eqb t.header d || is_header R d) ≡ true) (sym (cond-false _ _ _ n)) (or_right (eqb t.header (stated_header R o)) _ (stated_is sh R o h.0 (record { least = i.least; most = most })))
]
stated_is sh (Movement r ∷ R) o h i = stated_is sh R o h.0 (record { least = i.least; most = i.most })
stated_is sh (Extend r ∷ R) o h i = stated_is sh R o h.0 (record { least = i.least; most = i.most })
stated_is sh (FormatBlock r ∷ R) o h i = stated_is sh R o h.0 (record { least = i.least; most = i.most })
stated_is sh (Class r ∷ R) o h i = stated_is sh R o h.0 (record { least = i.least; most = i.most })
stated_is sh (Advance r ∷ R) o h i = stated_is sh R o h.0 (record { least = i.least; most = i.most })
stated_is sh (Lower r ∷ R) o h i = stated_is sh R o h.0 (record { least = i.least; most = i.most })
stated_is sh (Begin r ∷ R) o h i = stated_is sh R o h.0 (record { least = i.least; most = i.most })
stated_is sh (Reuse r ∷ R) o h i = stated_is sh R o h.0 (record { least = i.least; most = i.most })
stated_is sh (Insert r ∷ R) o h i = stated_is sh R o h.0 (record { least = i.least; most = i.most })
stated_is sh (Update r ∷ R) o h i = stated_is sh R o h.0 (record { least = i.least; most = i.most })
stated_is sh (Migrate r ∷ R) o h i = stated_is sh R o h.0 (record { least = i.least; most = i.most })
stated_is sh (Return r ∷ R) o h i = stated_is sh R o h.0 (record { least = i.least; most = i.most })
stated_is sh (Delete r ∷ R) o h i = stated_is sh R o h.0 (record { least = i.least; most = i.most })
stated_is sh (Commit r ∷ R) o h i = stated_is sh R o h.0 (record { least = i.least; most = i.most })
stated_is sh (Back r ∷ R) o h i = stated_is sh R o h.0 (record { least = i.least; most = i.most })
stated_is sh (Ended r ∷ R) o h i = stated_is sh R o h.0 (record { least = i.least; most = i.most })
stated_is sh (Move r ∷ R) o h i = stated_is sh R o h.0 (record { least = i.least; most = i.most })
stated_is sh (Clean r ∷ R) o h i = stated_is sh R o h.0 (record { least = i.least; most = i.most })

-- an Extend names the header of its table
pub extend_header : (sh : Shape) (R : List Record) (e : ExtendRecord) → AreAllowed sh (Extend e ∷ R) → e.header ≡ stated_header R e.obj
extend_header sh R e h =
    let a = h.1.kind in
    let i : IsTable (Extend e ∷ R) e.obj = record { least = a.table.least; most = a.table.most } in
    elim (headed sh (Extend e ∷ R) e.obj h i) [
      | inl s ↦ a.header ∙ ap (λ (x : Option Extent). block_in sh x 3) s.at ∙ sym s.block
      | inr w ↦ absurd (let z : ◌≡◌ {A = List Record} (Extend e ∷ R) (Table w.newest ∷ w.before) = w.is in cc)
    ]

pub extend_plain : (sh : Shape) (R : List Record) (e : ExtendRecord) (d : ℕ) → AreAllowed sh (Extend e ∷ R) → Plain (Extend e ∷ R) d → d ≡ e.header → ⊥
extend_plain sh R e d h p same = p.no_header (subst (λ (x : ℕ). is_header R x ≡ true) (sym (same ∙ extend_header sh R e h)) (stated_is sh R e.obj h.0 h.1.kind.table))

-- the first three blocks of an extent are plain, and so are blocks before the extents but the second and third
pub low_plain : (sh : Shape) (R : List Record) (d : ℕ) → AreAllowed sh R → (d ≡ 2 → ⊥) → (d ≡ 3 → ⊥) → d < OWN_BLOCKS + sh.undo → Plain R d
low_plain sh R d h two three lt = record { no_catalogue = two; no_space = three; no_header = λ e. (let f = header_place sh R d h e in let i = f.is in absurd (omega (arith, i, lt))) }

pub head_plain : (sh : Shape) (R : List Record) (x n d : ℕ) → AreAllowed sh R → Limits sh → n < 3 → d ≡ first_block sh x + n → Plain R d
head_plain sh R x n d h l lt is = record {
  no_catalogue = λ e. omega (arith, is, e);
  no_space = λ e. omega (arith, is, e);
  no_header = λ e.
      let f = header_place sh R d h e in
      let j = f.is in
      let w = l.extent_from in
      let same : first_block sh x ≡ first_block sh f.extent = ap (first_block sh) (same_extent sh x f.extent d (omega (arith, is)) (omega (arith, is, lt, w)) (omega (arith, j)) (omega (arith, j, w))) in
      omega (arith, is, j, same, lt);
}
