-- The parts of a record that is taken back, one by one, and the search of a table.
use Rattle.std.proofs.Common.{◌≡◌, ◌⊎◌, ℕ, zero, suc, ◌+◌, ◌<◌, ◌≤◌, Bool, true, false, leb, List, [], ◌∷◌, ◌++◌, length, take, slice_get, get_or, Option, Some, None, refl, sym, ◌∙◌, ap, subst, arith, inl, inr, leb-true, leb-false, true≢false}
use Rattle.seg_words.proofs.Lemmas.{cases_Bool}
use Rattle.std.specs.Prelude.{Result, Ok, Err, IfOk, IfErr}
use Rattle.seg_words.specs.Types.{Shape, UndoAddr, is_shape}
use Rattle.disk_model.specs.Crash.{Meaning}
use Rattle.redo_model.specs.Records.{Record, RowPart, BackPart}
use Rattle.redo_model.specs.Model.{Step, taken_back, table_count, IsTable, has_extent, extents_of, image, IsLawful}
use Rattle.redo_laws.specs.Apart.{HasExtent}
use Rattle.redo_laws.proofs.space.ApartLaw.{extents_are_apart}
use Rattle.back_laws.specs.Backs.{FirstShows}
use Rattle.version_laws.specs.Types.{as_kept}
use Rattle.end_laws.specs.Types.{held_of, BackTold, extent_number, IsInExtent}
use Rattle.undo_block.specs.declared.part.Part.{Part}
use Rattle.page_set.specs.Folded.{page_of}
use Rattle.page_fit.specs.Headers.{stated_header}
use Rattle.store_core.specs.Store.{Held, IsTrue, has_page}
use Rattle.store_core.specs.Causes.{HasLooked, IsSoundFault}
use Rattle.store_core.specs.declared.fault.StoreFault.{StoreFault}
use Rattle.txn_end.specs.Reading.{row_with, row_in, header_in, extent_in}
use Rattle.txn_end.specs.Owning.{Owns}
use Rattle.txn_end.specs.Backing.{back_part_of, blocks_of_parts, IsFirst, IsFirstOf}
use Rattle.txn_end.proofs.Given.{row_given, header_given, no_header_given, extent_given, header_there, tables_few, rows_there}
use Rattle.store_core.proofs.Lookups.{looked_on, looked_ok, looked_err}
use Rattle.txn_end.proofs.Taking.{told_later}

-- nothing was asked yet
pub looked_start : {D : Type 0} (meaning : Meaning D) (a : Held D) → a.fault ≡ None → HasLooked {T = Unit {0}} meaning a a (Ok tt)
looked_start meaning a n = record {
  loan = record { loan = refl; first = refl; shape = refl; told = (λ h. h, λ h. h); time = λ R h. omega arith; faults = omega arith; reads = refl };
  cause = record { device = λ _ e. absurd (cc e); kept = λ m. m; goes_on = n; answers = λ f s. absurd (let z : ◌≡◌ {A = Option StoreFault} None (Some f) = sym n ∙ s in cc); stays = λ f s. refl };
  list = λ R h. h;
  stays_true = λ R h. h;
  stable = λ R h. omega arith;
  survives = λ since needed R t h. h;
}

-- ---- parts

pub record Gathered {D : Type 0} (meaning : Meaning D) (a b : Held D) (t : ℕ) (at : UndoAddr) (count i : ℕ) (ps : List BackPart) : Type 0 where
  pub looked : HasLooked {T = Unit {0}} meaning a b (Ok tt)
  pub many : length ps ≡ i
  pub parts : (R : List Record) (st : Step) → IsTrue meaning R a → BackTold a.shape R t st → st.undo ≡ at → length st.parts ≡ count → ps ≡ taken_back (take i st.parts)

pub gathered_none : {D : Type 0} (meaning : Meaning D) (a : Held D) (t : ℕ) (at : UndoAddr) (count : ℕ) → a.fault ≡ None → Gathered meaning a a t at count 0 []
gathered_none meaning a t at count n = record { looked = looked_start meaning a n; many = refl; parts = λ R st h told u l. refl }

record Nth (ps : List RowPart) (i : ℕ) : Type 0 where
  part : RowPart
  is : slice_get ps i ≡ Some part

nth : (ps : List RowPart) (i : ℕ) → i < length ps → Nth ps i
nth [] i l = absurd (omega (arith, l))
nth (p ∷ ps) zero l = record { part = p; is = refl }
nth (p ∷ ps) (suc i) l = let x = nth ps i (omega (arith, l)) in record { part = x.part; is = x.is }

take_next : (ps : List RowPart) (i : ℕ) (p : RowPart) → slice_get ps i ≡ Some p → taken_back (take (suc i) ps) ≡ taken_back (take i ps) ++ back_part_of p ∷ []
take_next [] i p e = absurd (let z : ◌≡◌ {A = Option RowPart} None (Some p) = e in cc)
take_next (q ∷ ps) zero p e = let same : q ≡ p = (let z : ◌≡◌ {A = Option RowPart} (Some q) (Some p) = e in cc) in ap (λ (x : RowPart). back_part_of x ∷ []) same
take_next (q ∷ ps) (suc i) p e = ap (λ (xs : List BackPart). back_part_of q ∷ xs) (take_next ps i p e)

take_whole : (ps : List RowPart) (i : ℕ) → length ps ≤ i → take i ps ≡ ps
take_whole [] zero l = refl
take_whole [] (suc i) l = refl
take_whole (p ∷ ps) zero l = absurd (omega (arith, l))
take_whole (p ∷ ps) (suc i) l = ap (λ (xs : List RowPart). p ∷ xs) (take_whole ps i (omega (arith, l)))

pushed : (ps : List BackPart) (q : BackPart) → length (ps ++ q ∷ []) ≡ suc (length ps)
pushed [] q = refl
pushed (p ∷ ps) q = ap suc (pushed ps q)

pub gathered_next : {D : Type 0} (meaning : Meaning D) (a b c : Held D) (t : ℕ) (at : UndoAddr) (count i : ℕ) (ps qs : List BackPart) (q : BackPart) → i < count → Gathered meaning a b t at count i ps → HasLooked {T = BackPart} meaning b c (Ok q)
    → ((R : List Record) (st : Step) (p : RowPart) → IsTrue meaning R b → BackTold b.shape R t st → st.undo ≡ at → slice_get st.parts i ≡ Some p → q ≡ back_part_of p) → qs ≡ ps ++ q ∷ [] → Gathered meaning a c t at count (i + 1) qs
gathered_next meaning a b c t at count i ps qs q less g p says e = record {
  looked = looked_ok meaning a c q tt (looked_on meaning a b c tt (Ok q) g.looked p);
  many = (let n = g.many in let m = ap length e ∙ pushed ps q in omega (arith, n, m));
  parts = λ R st h told u l.
      let x = nth st.parts i (omega (arith, less, l)) in
      let same : q ≡ back_part_of x.part = says R st x.part (g.looked.stays_true R h) (told_later meaning a b R t st g.looked.loan told) u x.is in
      let one : i + 1 ≡ suc i = omega arith in
      e ∙ ap (λ (y : BackPart). ps ++ y ∷ []) same ∙ ap (λ (xs : List BackPart). xs ++ back_part_of x.part ∷ []) (g.parts R st h told u l) ∙ sym (take_next st.parts i x.part x.is) ∙ ap (λ n. taken_back (take n st.parts)) (sym one);
}

pub gathered_fails : {D T : Type 0} (meaning : Meaning D) (a b c : Held D) (t : ℕ) (at : UndoAddr) (count i : ℕ) (ps : List BackPart) (f : StoreFault) → Gathered meaning a b t at count i ps → HasLooked {T = BackPart} meaning b c (Err f) → HasLooked {T = T} meaning a c (Err f)
gathered_fails meaning a b c t at count i ps f g p = looked_on meaning a b c tt (Err f) g.looked (looked_err meaning b c f p)

pub gathered_sound : {D : Type 0} (meaning : Meaning D) (a b : Held D) (t : ℕ) (at : UndoAddr) (count i : ℕ) (ps : List BackPart) (f : StoreFault) (R : List Record) (st : Step) → i < count → Gathered meaning a b t at count i ps
    → ((Q : List Record) (s : Step) (p : RowPart) → IsTrue meaning Q b → BackTold b.shape Q t s → s.undo ≡ at → slice_get s.parts i ≡ Some p → b.fault ≡ None → IsSoundFault f)
    → IsTrue meaning R a → BackTold a.shape R t st → st.undo ≡ at → length st.parts ≡ count → IsSoundFault f
gathered_sound meaning a b t at count i ps f R st less g sound h told u l =
    let x = nth st.parts i (omega (arith, less, l)) in
    sound R st x.part (g.looked.stays_true R h) (told_later meaning a b R t st g.looked.loan told) u x.is (g.looked.cause.kept g.looked.cause.goes_on)

pub gathered_all : {D : Type 0} (meaning : Meaning D) (a b : Held D) (t : ℕ) (at : UndoAddr) (count i : ℕ) (ps : List BackPart) (R : List Record) (st : Step) → count ≤ i → Gathered meaning a b t at count i ps → IsTrue meaning R a → BackTold a.shape R t st → st.undo ≡ at → length st.parts ≡ count → ps ≡ taken_back st.parts
gathered_all meaning a b t at count i ps R st most g h told u l = g.parts R st h told u l ∙ ap taken_back (take_whole st.parts i (omega (arith, most, l)))

-- ---- the first part

pub record FirstFound (sh : Shape) (R : List Record) (st : Step) (x : Part) : Type 0 where
  pub there : has_page sh x.dba ≡ true
  pub row : row_in (page_of sh R x.dba) x.slot x.old.row ≡ Some st.row
  pub from : 37 + sh.undo ≤ x.dba
  pub extent : HasExtent R st.obj (extent_number sh x.dba)

pub first_found : (sh : Shape) (R : List Record) (t : ℕ) (st : Step) (x : Part) → is_shape sh ≡ true → IsLawful sh R → BackTold sh R t st → IsFirst st x → FirstFound sh R st x
first_found sh R t st x s h told first = go st.parts refl first
  where
    go : (ps : List RowPart) → st.parts ≡ ps → IsFirstOf st ps x → FirstFound sh R st x
    go [] e f = absurd f
    go (p ∷ ps) e f =
        let home = (told.part 0 p (ap (λ (qs : List RowPart). slice_get qs 0) e)).home in
        let shows : FirstShows R st.row (p ∷ ps) = subst (FirstShows R st.row) e told.shows in
        let extent : IsInExtent sh R st.obj (p ∷ ps) = subst (IsInExtent sh R st.obj) e told.extent in
        subst (λ (y : Part). FirstFound sh R st y) (sym f) (record {
          there = rows_there sh R st.obj p.dba s h home;
          row = row_given sh R st.obj p.dba p.slot p.old.row s h home ∙ ap (λ (n : ℕ). Some n) (sym shows);
          from = extent.0;
          extent = extent.1;
        })

-- ---- tables

is_table : (R : List Record) (o : ℕ) → IsTable R o ⊎ (IsTable R o → ⊥)
is_table R zero = inr (λ i. let l = i.least in omega (arith, l))
is_table R (suc k) = elim (cases_Bool (leb (suc k) (table_count R))) [
  | inl y ↦ inl (record { least = omega arith; most = leb-true (suc k) (table_count R) y })
  | inr n ↦ inr (λ i. let m = i.most in let l = leb-false (suc k) (table_count R) n in omega (arith, m, l))
]

two_answers : (P : Type 0) (h : ℕ) (o : Option (Option ℕ)) → o ≡ Some None → o ≡ Some (Some h) → P
two_answers P h o e f = absurd (let z : ◌≡◌ {A = Option (Option ℕ)} (Some None) (Some (Some h)) = sym e ∙ f in cc)

same_header : (h k : ℕ) → ◌≡◌ {A = Option (Option ℕ)} (Some (Some h)) (Some (Some k)) → h ≡ k
same_header h k e = cc

same_bool : (x y : Bool) → ◌≡◌ {A = Option Bool} (Some x) (Some y) → x ≡ y
same_bool x y e = cc

-- the catalogue gave the header of a table
pub record HeaderFound (R : List Record) (o h : ℕ) : Type 0 where
  pub table : IsTable R o
  pub is : h ≡ stated_header R o

pub header_found : (sh : Shape) (R : List Record) (o h : ℕ) → is_shape sh ≡ true → IsLawful sh R → header_in (page_of sh R 2) o ≡ Some (Some h) → HeaderFound R o h
header_found sh R o h s l e = elim (is_table R o) [
  | inl i ↦ record { table = i; is = same_header h (stated_header R o) (sym e ∙ header_given sh R o s l i) }
  | inr n ↦ two_answers (HeaderFound R o h) h (header_in (page_of sh R 2) o) (no_header_given sh R o s l n) e
]

-- the catalogue can be asked
pub record CanBeAsked (sh : Shape) (R : List Record) (o : ℕ) : Type 0 where
  pub answer : Option ℕ
  pub is : header_in (page_of sh R 2) o ≡ Some answer

pub can_be_asked : (sh : Shape) (R : List Record) (o : ℕ) → is_shape sh ≡ true → IsLawful sh R → CanBeAsked sh R o
can_be_asked sh R o s l = elim (is_table R o) [
  | inl i ↦ record { answer = Some (stated_header R o); is = header_given sh R o s l i }
  | inr n ↦ record { answer = None; is = no_header_given sh R o s l n }
]

pub owns_none : (sh : Shape) (R : List Record) (o x : ℕ) → is_shape sh ≡ true → IsLawful sh R → header_in (page_of sh R 2) o ≡ Some None → Owns R o x false
owns_none sh R o x s l e = record {
  found = λ y. absurd (true≢false (sym y));
  missing = λ _ i _. two_answers ⊥ (stated_header R o) (header_in (page_of sh R 2) o) e (header_given sh R o s l i);
}

pub owns_told : (sh : Shape) (R : List Record) (o h x : ℕ) (answer : Bool) → is_shape sh ≡ true → IsLawful sh R → HeaderFound R o h → extent_in (page_of sh R h) x ≡ Some answer → Owns R o x answer
owns_told sh R o h x answer s l f e =
    let same : answer ≡ has_extent (extents_of R o) x = same_bool answer _ (sym e ∙ ap (λ d. extent_in (page_of sh R d) x) f.is ∙ extent_given sh R o x s l f.table) in
    record { found = λ y. (f.table, sym same ∙ y); missing = λ n _ has. true≢false (sym has ∙ sym same ∙ n) }

pub owns_there : (sh : Shape) (R : List Record) (o h : ℕ) → is_shape sh ≡ true → IsLawful sh R → HeaderFound R o h → has_page sh h ≡ true
owns_there sh R o h s l f = subst (λ d. has_page sh d ≡ true) (sym f.is) (header_there sh R o s l f.table)

pub owns_asked : (sh : Shape) (R : List Record) (o h x : ℕ) → is_shape sh ≡ true → IsLawful sh R → HeaderFound R o h → extent_in (page_of sh R h) x ≡ Some (has_extent (extents_of R o) x)
owns_asked sh R o h x s l f = ap (λ d. extent_in (page_of sh R d) x) f.is ∙ extent_given sh R o x s l f.table

-- the tables below i don't have the extent
pub record Sought {D : Type 0} (meaning : Meaning D) (a b : Held D) (x i : ℕ) : Type 0 where
  pub looked : HasLooked {T = Unit {0}} meaning a b (Ok tt)
  pub below : (R : List Record) (o : ℕ) → IsTrue meaning R a → IsTable R o → HasExtent R o x → i ≤ o

pub sought_none : {D : Type 0} (meaning : Meaning D) (a : Held D) (x : ℕ) → a.fault ≡ None → Sought meaning a a x 1
sought_none meaning a x n = record { looked = looked_start meaning a n; below = λ R o h i has. i.least }

pub sought_next : {D : Type 0} (meaning : Meaning D) (a b c : Held D) (x i : ℕ) → Sought meaning a b x i → HasLooked {T = Bool} meaning b c (Ok false) → ((R : List Record) → IsTrue meaning R b → Owns R i x false) → Sought meaning a c x (i + 1)
sought_next meaning a b c x i s p says = record {
  looked = looked_ok meaning a c false tt (looked_on meaning a b c tt (Ok false) s.looked p);
  below = λ R o h t has. go R o (says R (s.looked.stays_true R h)) t has (s.below R o h t has);
}
  where
    go : (R : List Record) (o : ℕ) → Owns R i x false → IsTable R o → HasExtent R o x → i ≤ o → i + 1 ≤ o
    go R o w t has l = elim (cases_Bool (leb (i + 1) o)) [
      | inl y ↦ leb-true (i + 1) o y
      | inr n ↦
          let k = leb-false (i + 1) o n in
          let same : o ≡ i = omega (arith, k, l) in
          absurd (w.missing refl (subst (IsTable R) same t) (subst (λ d. HasExtent R d x) same has))
    ]

pub sought_found : {D : Type 0} (meaning : Meaning D) (a b : Held D) (x i : ℕ) (R : List Record) (o : ℕ) → Sought meaning a b x i → ((Q : List Record) → IsTrue meaning Q b → Owns Q i x true) → IsTrue meaning R a → IsTable R o → HasExtent R o x → i ≡ o
sought_found meaning a b x i R o s says h t has =
    let f = (says R (s.looked.stays_true R h)).found refl in
    (extents_are_apart a.shape R h.lawful.allowed).extents.one_table i o x f.0 t f.1 has

pub sought_all : {D P : Type 0} (meaning : Meaning D) (a b : Held D) (x i : ℕ) (R : List Record) (o : ℕ) → 33 ≤ i → Sought meaning a b x i → IsTrue meaning R a → IsTable R o → HasExtent R o x → P
sought_all meaning a b x i R o l s h t has = absurd (let k = s.below R o h t has in let m = tables_few a.shape R o h.list.within h.lawful t in omega (arith, l, k, m))

-- ---- the search of one table

ok_map : {A : Type 0} (P Q : A → Type 0) (r : Result A StoreFault) → ((x : A) → P x → Q x) → IfOk r P → IfOk r Q
ok_map P Q (Ok x) f h = f x h
ok_map P Q (Err e) f h = tt

pub owns_says : {D : Type 0} (meaning : Meaning D) (a b : Held D) (o h x : ℕ) (r : Result Bool StoreFault) (R : List Record) → IsTrue meaning R a → HasLooked {T = Option ℕ} meaning a b (Ok (Some h)) → header_in (page_of a.shape R 2) o ≡ Some (Some h)
    → ((Q : List Record) → IsTrue meaning Q b → IfOk r (λ y. extent_in (page_of b.shape Q h) x ≡ Some y)) → IfOk r (Owns R o x)
owns_says meaning a b o h x r R t p e says =
    let still = p.stays_true R t in
    let f = header_found a.shape R o h t.list.within t.lawful e in
    ok_map _ (Owns R o x) r (λ y i. owns_told b.shape R o h x y still.list.within still.lawful f i) (says R still)

pub owns_sound : {D : Type 0} (meaning : Meaning D) (a b : Held D) (o h x : ℕ) (r : Result Bool StoreFault) (R : List Record) → IsTrue meaning R a → a.fault ≡ None → HasLooked {T = Option ℕ} meaning a b (Ok (Some h)) → header_in (page_of a.shape R 2) o ≡ Some (Some h)
    → ((Q : List Record) (y : Bool) → IsTrue meaning Q b → b.fault ≡ None → has_page b.shape h ≡ true → extent_in (page_of b.shape Q h) x ≡ Some y → IfErr r IsSoundFault) → IfErr r IsSoundFault
owns_sound meaning a b o h x r R t n p e sound =
    let still = p.stays_true R t in
    let f = header_found a.shape R o h t.list.within t.lawful e in
    sound R (has_extent (extents_of R o) x) still (p.cause.kept n) (owns_there b.shape R o h still.list.within still.lawful f) (owns_asked b.shape R o h x still.list.within still.lawful f)

-- ---- the row and the table

pub row_is : (sh : Shape) (R : List Record) (t : ℕ) (st : Step) (x : Part) (n : ℕ) → is_shape sh ≡ true → IsLawful sh R → BackTold sh R t st → IsFirst st x → row_in (page_of sh R x.dba) x.slot x.old.row ≡ Some n → n ≡ st.row
row_is sh R t st x n s h told f e = same_row n st.row (sym e ∙ (first_found sh R t st x s h told f).row)
  where
    same_row : (a b : ℕ) → ◌≡◌ {A = Option ℕ} (Some a) (Some b) → a ≡ b
    same_row a b w = cc

-- the block's extent was found
pub has_found : (sh k : Shape) (R : List Record) (t : ℕ) (st : Step) (x : Part) (n : ℕ) → k ≡ sh → is_shape sh ≡ true → IsLawful sh R → BackTold sh R t st → IsFirst st x → (is_shape k ≡ true → 37 + k.undo ≤ x.dba → ◌≡◌ {A = Option ℕ} (Some n) (Some (extent_number k x.dba))) → HasExtent R st.obj n
has_found sh k R t st x n same s h told f told_number =
    let w = first_found sh R t st x s h told f in
    let e = subst (λ (y : Shape). is_shape y ≡ true → 37 + y.undo ≤ x.dba → ◌≡◌ {A = Option ℕ} (Some n) (Some (extent_number y x.dba))) same told_number s w.from in
    subst (HasExtent R st.obj) (same_row (extent_number sh x.dba) n (sym e)) w.extent
  where
    same_row : (a b : ℕ) → ◌≡◌ {A = Option ℕ} (Some a) (Some b) → a ≡ b
    same_row a b w = cc

pub number_there : {P : Type 0} (sh k : Shape) (R : List Record) (t : ℕ) (st : Step) (x : Part) → k ≡ sh → is_shape sh ≡ true → IsLawful sh R → BackTold sh R t st → IsFirst st x → (is_shape k ≡ true → 37 + k.undo ≤ x.dba → ◌≡◌ {A = Option ℕ} None (Some (extent_number k x.dba))) → P
number_there sh k R t st x same s h told f told_number =
    let w = first_found sh R t st x s h told f in
    let e = subst (λ (y : Shape). is_shape y ≡ true → 37 + y.undo ≤ x.dba → ◌≡◌ {A = Option ℕ} None (Some (extent_number y x.dba))) same told_number s w.from in
    absurd (no_number (extent_number sh x.dba) e)
  where
    no_number : (n : ℕ) → ◌≡◌ {A = Option ℕ} None (Some n) → ⊥
    no_number n w = absurd cc

-- ---- lists

pub blocks_next : (ps : List BackPart) (i : ℕ) (p : BackPart) (bs cs : List ℕ) → i < length ps → p ≡ get_or ps i p → bs ≡ blocks_of_parts (take i ps) → cs ≡ bs ++ p.dba ∷ [] → cs ≡ blocks_of_parts (take (i + 1) ps)
blocks_next ps i p bs cs l e b n = n ∙ ap (λ (xs : List ℕ). xs ++ p.dba ∷ []) b ∙ go ps i l e ∙ ap (λ m. blocks_of_parts (take m ps)) (let z : suc i ≡ i + 1 = omega arith in z)
  where
    go : (ps : List BackPart) (i : ℕ) → i < length ps → p ≡ get_or ps i p → blocks_of_parts (take i ps) ++ p.dba ∷ [] ≡ blocks_of_parts (take (suc i) ps)
    go [] i l e = absurd (omega (arith, l))
    go (q ∷ qs) zero l e = ap (λ (x : BackPart). x.dba ∷ []) e
    go (q ∷ qs) (suc i) l e = ap (λ (xs : List ℕ). q.dba ∷ xs) (go qs i (omega (arith, l)) e)
