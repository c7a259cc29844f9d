-- Tables and their names.
use Rattle.std.proofs.Common.{◌≡◌, ℕ, suc, ◌≤◌, true, false, cond, eqb, List, [], ◌∷◌, Option, Some, None, refl, sym, ◌∙◌, ap, ap₂, arith, inl, inr, true≢false, eqb-true, ne_eqb, eq-eqb}
use Rattle.seg_words.proofs.Lemmas.{cond-true, cond-false, cases_Bool, cases_order, and_parts, and_from}
use Rattle.seg_words.specs.Types.{Shape}
use Rattle.redo_model.specs.Records.{Record, Table, TableRecord}
use Rattle.redo_model.specs.Lists.{same, more}
use Rattle.redo_model.specs.Model.{IsTable, is_byte_list, table_count, table_named, pctfree_of, TableAllowed, IsKindAllowed, AreAllowed}
use Rattle.space_laws.specs.Tables.{HasName, TablesAreNamed, TablesStay}

same_bytes : (xs ys : List ℕ) → is_byte_list xs ys ≡ true → xs ≡ ys
same_bytes [] [] h = refl
same_bytes [] (y ∷ ys) h = absurd (true≢false (sym h))
same_bytes (x ∷ xs) [] h = absurd (true≢false (sym h))
same_bytes (x ∷ xs) (y ∷ ys) h = let q = and_parts (eqb x y) (is_byte_list xs ys) h in ap₂ (λ z (zs : List ℕ). z ∷ zs) (eqb-true x y q.0) (same_bytes xs ys q.1)

bytes_self : (xs : List ℕ) → is_byte_list xs xs ≡ true
bytes_self [] = refl
bytes_self (x ∷ xs) = and_from (eqb x x) (is_byte_list xs xs) (eq-eqb x x refl) (bytes_self xs)

some_same : (m n : ℕ) → ◌≡◌ {A = Option ℕ} (Some m) (Some n) → m ≡ n
some_same m n e = cc

none_named : (P : Type 0) (n : ℕ) → ◌≡◌ {A = Option ℕ} None (Some n) → P
none_named P n e = absurd cc

abbrev There : List Record → Type 0
There R = (name : List ℕ) (o : ℕ) → table_named R name ≡ Some o → (1 ≤ o) × (o ≤ table_count R)

abbrev Once : List Record → Type 0
Once R = (m n : List ℕ) (o : ℕ) → table_named R m ≡ Some o → table_named R n ≡ Some o → m ≡ n

there_table : (sh : Shape) (R : List Record) (t : TableRecord) → TableAllowed sh R t → There R → There (Table t ∷ R)
there_table sh R t a h name o e =
    (elim (is_byte_list t.name name) as (λ v. cond v (Some t.obj) (table_named R name) ≡ Some o → (1 ≤ o) × (o ≤ suc (table_count R))) [
      | true ↦ λ f. let q = some_same t.obj o f in let n = a.number in (omega (arith, q, n), omega (arith, q, n))
      | false ↦ λ f. let q = h name o f in (q.0, (let l = q.1 in omega (arith, l)))
    ]) e

once_table : (sh : Shape) (R : List Record) (t : TableRecord) → TableAllowed sh R t → There R → Once R → Once (Table t ∷ R)
once_table sh R t a th h m n o e f =
    (elim (is_byte_list t.name m) as (λ v. is_byte_list t.name m ≡ v → cond v (Some t.obj) (table_named R m) ≡ Some o → m ≡ n) [
      | true ↦ λ p g. (elim (is_byte_list t.name n) as (λ v. is_byte_list t.name n ≡ v → cond v (Some t.obj) (table_named R n) ≡ Some o → m ≡ n) [
        | true ↦ λ q k. sym (same_bytes t.name m p) ∙ same_bytes t.name n q
        | false ↦ λ q k. let x = some_same t.obj o g in let y = (th n o k).1 in let z = a.number in absurd (omega (arith, x, y, z))
      ]) refl f
      | false ↦ λ p g. (elim (is_byte_list t.name n) as (λ v. is_byte_list t.name n ≡ v → cond v (Some t.obj) (table_named R n) ≡ Some o → m ≡ n) [
        | true ↦ λ q k. let x = some_same t.obj o k in let y = (th m o g).1 in let z = a.number in absurd (omega (arith, x, y, z))
        | false ↦ λ q k. h m n o g k
      ]) refl f
    ]) refl e

-- a name that is given stays
named_stays : (sh : Shape) (R : List Record) (r : Record) (name : List ℕ) (o : ℕ) → IsKindAllowed sh R r → table_named R name ≡ Some o → table_named (r ∷ R) name ≡ Some o
named_stays sh R (Table t) name o a e =
    elim (cases_Bool (is_byte_list t.name name)) [
      | inl y ↦ none_named _ o (sym a.new_name ∙ ap (table_named R) (same_bytes t.name name y) ∙ e)
      | inr n ↦ cond-false _ _ _ n ∙ e
    ]
named_stays sh R _ name o a e = e

each_step : (sh : Shape) (R : List Record) (r : Record) (o : ℕ) → IsKindAllowed sh R r → (IsTable R o → HasName R o) → IsTable (r ∷ R) o → HasName (r ∷ R) o
each_step sh R (Table t) o a h i = elim (cases_order o (suc (table_count R))) [
  | inl e ↦ record { name = t.name; named = cond-true _ _ _ (bytes_self t.name) ∙ ap (λ (x : ℕ). Some x) (a.number ∙ sym e); well_formed = a.named }
  | inr w ↦
      let l : o ≤ table_count R = elim w [ inl x ↦ omega (arith, x) | inr x ↦ (let k = i.most in absurd (omega (arith, x, k))) ] in
      let n = h (record { least = i.least; most = l }) in
      record { name = n.name; named = named_stays sh R (Table t) n.name o a n.named; well_formed = n.well_formed }
]
each_step sh R _ o a h i = let n = h (record { least = i.least; most = i.most }) in record { name = n.name; named = n.named; well_formed = n.well_formed }

pub there : (sh : Shape) (R : List Record) → AreAllowed sh R → There R
there sh [] h = λ name o e. none_named _ o e
there sh (Table t ∷ R) h = there_table sh R t h.1.kind (there sh R h.0)
there sh (_ ∷ R) h = there sh R h.0

once : (sh : Shape) (R : List Record) → AreAllowed sh R → Once R
once sh [] h = λ m n o e f. none_named _ o e
once sh (Table t ∷ R) h = once_table sh R t h.1.kind (there sh R h.0) (once sh R h.0)
once sh (_ ∷ R) h = once sh R h.0

each : (sh : Shape) (R : List Record) (o : ℕ) → AreAllowed sh R → IsTable R o → HasName R o
each sh [] o h i = (let a = i.least in let b = i.most in absurd (omega (arith, a, b)))
each sh (r ∷ R) o h i = each_step sh R r o h.1.kind (λ j. each sh R o h.0 j) i

pub tables_are_named : TablesAreNamed
tables_are_named sh R h = record {
  there = λ name o e. let q = there sh R h name o e in record { least = q.0; most = q.1 };
  one = once sh R h;
  each = λ o i. each sh R o h i;
}

-- a table stays

pub table_goes_on : (R : List Record) (r : Record) (o : ℕ) → IsTable R o → IsTable (r ∷ R) o
table_goes_on R (Table t) o i = record { least = i.least; most = (let l = i.most in omega (arith, l)) }
table_goes_on R _ o i = record { least = i.least; most = i.most }

pctfree_stays : (sh : Shape) (R : List Record) (r : Record) (o : ℕ) → IsKindAllowed sh R r → IsTable R o → pctfree_of (r ∷ R) o ≡ pctfree_of R o
pctfree_stays sh R (Table t) o a i = cond-false _ _ _ (ne_eqb t.obj o (λ e. (let n = a.number in let l = i.most in omega (arith, e, n, l))))
pctfree_stays sh R _ o a i = refl

pub tables_stay : TablesStay
tables_stay sh Q _ o h same i = record { there = i; named = λ name e. e; pctfree = refl }
tables_stay sh Q (r ∷ R) o h (more _ x) i =
    let w = tables_stay sh Q R o h.0 x i in
    record {
      there = table_goes_on R r o w.there;
      named = λ name e. named_stays sh R r name o h.1.kind (w.named name e);
      pctfree = pctfree_stays sh R r o h.1.kind w.there ∙ w.pctfree;
    }
