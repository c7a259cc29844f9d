-- The page of the catalogue: one induction over the list.
use Rattle.std.proofs.Common.{◌≡◌, ℕ, zero, suc, ◌+◌, ◌-◌, ◌<◌, ◌≤◌, Bool, true, false, eqb, ◌&&◌, List, [], ◌∷◌, length, replicate, set, get_or, Option, Some, None, refl, sym, ap, ap₂, ◌∙◌, subst, inl, inr, arith}
use Rattle.std.specs.Prelude.{position, option_map}
use Rattle.std.proofs.lemmas.Bool.{cases_Bool, cases_order, eqb-true, eq-eqb, ne_eqb, cond-true, cond-false, true≢false, and_parts}
use Rattle.std.proofs.lemmas.List.{get_or-set_same, get_or-set_other, length-set}
use Rattle.seg_words.specs.Types.{Shape, is_shape, MOST_TABLES}
use Rattle.segment_blocks.specs.Types as blocks
use Rattle.segment_blocks.specs.declared.entry.CatalogueEntry.{CatalogueEntry}
use Rattle.segment_blocks.specs.declared.entry.NamedTable.{NamedTable}
use Rattle.segment_blocks.specs.Types.{Tables, no_table, has_table, is_named, header_of_table}
use Rattle.redo_model.specs.Records.{Record, Table, TableRecord}
use Rattle.redo_model.specs.Model.{IsTable, table_count, table_named, is_byte_list, TableAllowed, AreAllowed}
use Rattle.page_set.specs.declared.page.Page.{Page}
use Rattle.page_set.specs.declared.page.Page.TheVariants as pages
use Rattle.page_set.specs.Pages.{dba_of}
use Rattle.page_set.specs.Catalogues.{entry_of_table}
use Rattle.page_set.specs.Started.{or_kept, as_catalogue}
use Rattle.page_set.specs.Changes.{page_after}
use Rattle.page_set.specs.Folded.{page_of}
use Rattle.page_set.proofs.SaysLaw.{says, dba_says}
use Rattle.page_fit.specs.Headers.{stated_header}
use Rattle.page_fit.proofs.Headed.{headers_are_stated}
use Rattle.page_fit.proofs.LowPages.{low_of, low_apart, near_two, untouched}
use Rattle.page_says.specs.Named.{stated_name, stated_table, CatalogueSays, SaysCatalogue, CataloguesSay}
use Rattle.page_says.proofs.Naming.{position_new, position_same, count_new, same_bytes, header_in}

-- the entries of a list's tables
record Has (R : List Record) (es : List CatalogueEntry) : Type 0 where
  count : length es ≡ MOST_TABLES
  table : (i : ℕ) → i < table_count R → get_or es i no_table ≡ record { table = Some (stated_table R (suc i)) }
  rest : (i : ℕ) → table_count R ≤ i → get_or es i no_table ≡ no_table
  tables : blocks.table_count es ≡ table_count R
  named : (name : List ℕ) → blocks.table_named es name ≡ table_named R name

abbrev Keeps : List Record → Page → Type 0
Keeps R (pages.Zero x) = table_count R ≡ 0
Keeps R (pages.Catalogue x) = (1 ≤ table_count R) × Has R x.entries
Keeps R _ = ⊥

-- before the first Table

none_named : (R : List Record) (name : List ℕ) → table_count R ≡ 0 → table_named R name ≡ None
none_named [] name n = refl
none_named (Table t ∷ R) name n = absurd (omega (arith, n))
none_named (_ ∷ R) name n = none_named R name n

none_there : (n i : ℕ) → get_or (replicate n no_table) i no_table ≡ no_table
none_there zero i = refl
none_there (suc n) zero = refl
none_there (suc n) (suc i) = none_there n i

has_none : (R : List Record) → table_count R ≡ 0 → Has R (replicate MOST_TABLES no_table)
has_none R n = record {
  count = refl;
  table = λ i l. absurd (omega (arith, l, n));
  rest = λ i l. none_there MOST_TABLES i;
  tables = sym n;
  named = λ name. sym (none_named R name n);
}

-- one more table

same_name : (xs : List ℕ) → is_byte_list xs xs ≡ true
same_name [] = refl
same_name (x ∷ xs) = ap₂ (λ (a b : Bool). a && b) (eq-eqb x x refl) (same_name xs)

name_is : (xs ys : List ℕ) → is_byte_list xs ys ≡ true → xs ≡ ys
name_is [] [] h = refl
name_is [] (y ∷ ys) h = absurd (true≢false (sym h))
name_is (x ∷ xs) [] h = absurd (true≢false (sym h))
name_is (x ∷ xs) (y ∷ ys) h = let k = and_parts (eqb x y) (is_byte_list xs ys) h in ap₂ (λ (a : ℕ) (bs : List ℕ). a ∷ bs) (eqb-true x y k.0) (name_is xs ys k.1)

not_named : (es : List CatalogueEntry) (name : List ℕ) → blocks.table_named es name ≡ None → position (is_named name) es ≡ None
not_named es name h = go (position (is_named name) es) h
  where
    go : (o : Option ℕ) → option_map (λ i. i + 1) o ≡ None → o ≡ None
    go None k = refl
    go (Some i) k = absurd (let z : ◌≡◌ {A = Option ℕ} (Some (i + 1)) None = k in cc)

named_too : (R : List Record) (t : TableRecord) (es : List CatalogueEntry) (n : ℕ) (name : List ℕ) → t.obj ≡ suc n → n < length es → table_named R t.name ≡ None → get_or es n no_table ≡ no_table
    → ((m : List ℕ) → blocks.table_named es m ≡ table_named R m) → blocks.table_named (set es n (entry_of_table t)) name ≡ table_named (Table t ∷ R) name
named_too R t es n name obj l new past h = elim (cases_Bool (is_byte_list t.name name)) [
  | inl y ↦
      let none : blocks.table_named es name ≡ None = h name ∙ ap (table_named R) (sym (name_is t.name name y)) ∙ new in
      ap (option_map (λ i. i + 1)) (position_new (is_named name) es n (entry_of_table t) l (not_named es name none) (same_bytes t.name name ∙ y))
      ∙ ap (λ (k : ℕ). Some k) (omega (arith, obj)) ∙ sym (cond-true _ _ _ y)
  | inr f ↦
      ap (option_map (λ i. i + 1)) (position_same (is_named name) es n (entry_of_table t) no_table (same_bytes t.name name ∙ f) (ap (is_named name) past))
      ∙ h name ∙ sym (cond-false _ _ _ f)
]

has_more : (sh : Shape) (R : List Record) (t : TableRecord) (es : List CatalogueEntry) → TableAllowed sh R t → Has R es → Has (Table t ∷ R) (set es (t.obj - 1) (entry_of_table t))
has_more sh R t es a h =
    let n = table_count R in
    let obj = a.number in
    let few = a.few in
    let count = h.count in
    let l : n < length es = omega (arith, few, count) in
    let past : get_or es n no_table ≡ no_table = h.rest n (omega arith) in
    let own : eqb t.obj (suc n) ≡ true = eq-eqb t.obj (suc n) obj in
    subst (λ (k : ℕ). Has (Table t ∷ R) (set es k (entry_of_table t))) (let z : n ≡ t.obj - 1 = omega (arith, obj) in z) (record {
      count = length-set es n (entry_of_table t) ∙ count;
      table = λ i m. elim (cases_order i n) [
        | inl e ↦ subst (λ (k : ℕ). get_or (set es n (entry_of_table t)) k no_table ≡ record { table = Some (stated_table (Table t ∷ R) (suc k)) }) (sym e)
            (get_or-set_same es n (entry_of_table t) no_table l
            ∙ ap₂ (λ (name : List ℕ) (d : ℕ). record { table = Some (record { name = name; header = d }) }) (sym (cond-true _ _ _ own)) (sym (cond-true _ _ _ own)))
        | inr w ↦ elim w [
          | inl lt ↦
              let other : eqb t.obj (suc i) ≡ false = ne_eqb t.obj (suc i) (λ k. omega (arith, k, obj, lt)) in
              get_or-set_other es n i (entry_of_table t) no_table (λ k. omega (arith, k, lt)) ∙ h.table i lt
              ∙ ap₂ (λ (name : List ℕ) (d : ℕ). record { table = Some (record { name = name; header = d }) }) (sym (cond-false _ _ _ other)) (sym (cond-false _ _ _ other))
          | inr gt ↦ absurd (omega (arith, gt, m))
        ]
      ];
      rest = λ i m. get_or-set_other es n i (entry_of_table t) no_table (λ k. omega (arith, k, m)) ∙ h.rest i (omega (arith, m));
      tables = count_new has_table es n (entry_of_table t) no_table l refl (ap has_table past) ∙ ap (λ (k : ℕ). suc k) h.tables;
      named = λ name. named_too R t es n name obj l a.new_name past h.named;
    })

-- ---- one record

kept : (R S : List Record) (p : Page) → table_count S ≡ table_count R → ((o : ℕ) → stated_table S o ≡ stated_table R o) → ((name : List ℕ) → table_named S name ≡ table_named R name) → Keeps R p → Keeps S p
kept R S (pages.Zero x) n t m h = n ∙ h
kept R S (pages.Catalogue x) n t m h = (
  (let l = h.0 in omega (arith, l, n)),
  record {
    count = h.1.count;
    table = λ i l. h.1.table i (omega (arith, l, n)) ∙ ap (λ (y : NamedTable). record { table = Some y }) (sym (t (suc i)));
    rest = λ i l. h.1.rest i (omega (arith, l, n));
    tables = h.1.tables ∙ sym n;
    named = λ name. h.1.named name ∙ sym (m name);
  },
)
kept R S p n t m h = absurd h

table_keeps : (sh : Shape) (R : List Record) (t : TableRecord) (lsn : ℕ) (p : Page) → TableAllowed sh R t → Keeps R p → Keeps (Table t ∷ R) (page_after (Table t) lsn (or_kept (as_catalogue p) p))
table_keeps sh R t lsn (pages.Zero x) a h = (omega arith, has_more sh R t (replicate MOST_TABLES no_table) a (has_none R h))
table_keeps sh R t lsn (pages.Catalogue x) a h = (omega arith, has_more sh R t x.entries a h.1)
table_keeps sh R t lsn p a h = absurd h

-- a record that makes no table
others_keep : (sh : Shape) (R : List Record) (r : Record) → is_shape sh ≡ true → AreAllowed sh (r ∷ R) → (2 ≡ low_of r → ⊥) → Keeps (r ∷ R) (page_of sh R 2) → Keeps (r ∷ R) (page_of sh (r ∷ R) 2)
others_keep sh R r s h other x = subst (Keeps (r ∷ R)) (untouched sh R r 2 (low_apart sh R r 2 s h near_two other)) x

catalogue_step : (sh : Shape) (R : List Record) (r : Record) → is_shape sh ≡ true → AreAllowed sh (r ∷ R) → Keeps R (page_of sh R 2) → Keeps (r ∷ R) (page_of sh (r ∷ R) 2)
catalogue_step sh R (Table t) s h x =
    let p = page_of sh R 2 in
    let dba : dba_of p ≡ 2 = dba_says R 2 p (says sh R 2) in
    subst (Keeps (Table t ∷ R)) (ap (λ (q : Option Page). page_after (Table t) (suc (length R)) (or_kept q p)) (sym (cond-true _ _ _ (eq-eqb (dba_of p) 2 dba)))) (table_keeps sh R t (suc (length R)) p h.1.kind x)
catalogue_step sh R r s h x = others_keep sh R r s h (λ e. omega (arith, e)) (kept R (r ∷ R) (page_of sh R 2) refl (λ o. refl) (λ m. refl) x)

keeps : (sh : Shape) (R : List Record) → is_shape sh ≡ true → AreAllowed sh R → Keeps R (page_of sh R 2)
keeps sh [] s h = refl
keeps sh (r ∷ R) s h = catalogue_step sh R r s h (keeps sh R s h.0)

-- ---- what follows from the entries

table_before : (sh : Shape) (R : List Record) (t : TableRecord) (o : ℕ) → TableAllowed sh R t → IsTable (Table t ∷ R) o → eqb t.obj o ≡ false → IsTable R o
table_before sh R t o a i n = record {
  least = i.least;
  most = elim (cases_order o (suc (table_count R))) [
    | inl e ↦ absurd (true≢false (sym (eq-eqb t.obj o (a.number ∙ sym e)) ∙ n))
    | inr w ↦ elim w [ inl x ↦ omega (arith, x) | inr x ↦ (let k = i.most in absurd (omega (arith, x, k))) ]
  ];
}

table_finds : (sh : Shape) (R : List Record) (t : TableRecord) (o : ℕ) → TableAllowed sh R t → IsTable (Table t ∷ R) o → (IsTable R o → table_named R (stated_name R o) ≡ Some o) → table_named (Table t ∷ R) (stated_name (Table t ∷ R) o) ≡ Some o
table_finds sh R t o a i h = elim (cases_Bool (eqb t.obj o)) [
  | inl y ↦ subst (λ (m : List ℕ). table_named (Table t ∷ R) m ≡ Some o) (sym (cond-true _ _ _ y)) (cond-true _ _ _ (same_name t.name) ∙ ap (λ (k : ℕ). Some k) (eqb-true t.obj o y))
  | inr n ↦
      let m = stated_name R o in
      let old : table_named R m ≡ Some o = h (table_before sh R t o a i n) in
      let other : is_byte_list t.name m ≡ false = elim (cases_Bool (is_byte_list t.name m)) [
        | inl y ↦ absurd (let z : ◌≡◌ {A = Option ℕ} None (Some o) = sym a.new_name ∙ ap (table_named R) (name_is t.name m y) ∙ old in cc)
        | inr f ↦ f
      ] in
      subst (λ (k : List ℕ). table_named (Table t ∷ R) k ≡ Some o) (sym (cond-false _ _ _ n)) (cond-false _ _ _ other ∙ old)
]

names_find : (sh : Shape) (R : List Record) (o : ℕ) → AreAllowed sh R → IsTable R o → table_named R (stated_name R o) ≡ Some o
names_find sh [] o h i = (let a = i.least in let b = i.most in absurd (omega (arith, a, b)))
names_find sh (Table t ∷ R) o h i = table_finds sh R t o h.1.kind i (names_find sh R o h.0)
names_find sh (_ ∷ R) o h i = names_find sh R o h.0 (record { least = i.least; most = i.most })

header_there : (R : List Record) (es : List CatalogueEntry) (o : ℕ) → Has R es → IsTable R o → blocks.header_of es o ≡ Some (stated_header R o)
header_there R es zero h i = (let l = i.least in absurd (omega (arith, l)))
header_there R es (suc n) h i = header_in es n ∙ ap (λ (e : CatalogueEntry). header_of_table e.table) (h.table n (let l = i.most in omega (arith, l)))

header_none : (R : List Record) (es : List CatalogueEntry) (o : ℕ) → Has R es → (IsTable R o → ⊥) → blocks.header_of es o ≡ None
header_none R es zero h i = refl
header_none R es (suc n) h i = elim (cases_order n (table_count R)) [
  | inl e ↦ header_in es n ∙ ap (λ (x : CatalogueEntry). header_of_table x.table) (h.rest n (omega (arith, e)))
  | inr w ↦ elim w [
    | inl lt ↦ absurd (i (record { least = omega arith; most = omega (arith, lt) }))
    | inr gt ↦ header_in es n ∙ ap (λ (x : CatalogueEntry). header_of_table x.table) (h.rest n (omega (arith, gt)))
  ]
]

tells : (sh : Shape) (R : List Record) (c : Tables) → AreAllowed sh R → 1 ≤ table_count R → Has R c.entries → CatalogueSays sh R c
tells sh R c a some h = record {
  some = some;
  count = h.count;
  table = h.table;
  rest = h.rest;
  tables = h.tables;
  named = h.named;
  names = λ o i. names_find sh R o a i;
  header = λ o i. header_there R c.entries o h i;
  no_header = λ o i. header_none R c.entries o h i;
  place = λ o w i. header_there R c.entries o h i ∙ ap (λ (d : ℕ). Some d) (headers_are_stated sh R o a w i);
}

page_says : (sh : Shape) (R : List Record) (p : Page) → AreAllowed sh R → Keeps R p → SaysCatalogue sh R p
page_says sh R (pages.Zero x) a h = h
page_says sh R (pages.Catalogue x) a h = tells sh R x a h.0 h.1
page_says sh R p a h = absurd h

pub catalogues_say : CataloguesSay
catalogues_say sh R s h = page_says sh R (page_of sh R 2) h (keeps sh R s h)
