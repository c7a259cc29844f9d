-- What the page of the transaction table says of the least active transaction.
use Rattle.std.proofs.Common.{◌≡◌, ◌⊎◌, ℕ, zero, suc, ◌+◌, ◌<◌, ◌≤◌, min, Bool, true, false, cond, List, length, slice_get, Option, Some, None, refl, sym, ◌∙◌, ap, ap₂, subst, arith, inl, inr, eqb, ltb, eqb-true, ltb-true, ltb-false}
use Rattle.std.specs.Prelude.{Result, Ok, Err, IfOk}
use Rattle.std.proofs.lemmas.Option.{slice_get-get_or}
use Rattle.seg_words.proofs.Lemmas.{cond-true, cond-false, cases_Bool, eqb-false}
use Rattle.seg_words.specs.Types.{Shape, TXN_ENTRIES, is_shape}
use Rattle.txn_block.specs.declared.entry.Outcome.TheVariants.{Active}
use Rattle.txn_block.specs.declared.entry.TableEntry.{TableEntry}
use Rattle.txn_block.specs.declared.entry.TableEntry.TheVariants.{Unused}
use Rattle.txn_block.specs.Types.{TxnTable, told, state_of_outcome}
use Rattle.redo_model.specs.Records.{Record}
use Rattle.redo_model.specs.Model.{txn_count, is_active, commit_number, user_of, IsLawful}
use Rattle.redo_laws.proofs.numbers.TxnTable.{txn_table}
use Rattle.page_model.specs.Types.{outcome_when_over, entry_used_by, HoldsTable}
use Rattle.page_set.specs.declared.page.Page.{Page}
use Rattle.page_set.specs.declared.page.Page.TheVariants.{Zero, Txns}
use Rattle.page_set.specs.Folded.{page_of}
use Rattle.store_laws.proofs.KindsLaw.{tables_stand, tables_are_new}
use Rattle.store_laws.proofs.FoundLaw.{active_have_table}
use Rattle.store_core.specs.declared.fault.StoreFault.{StoreFault}
use Rattle.recovery.specs.Next.{active_by, active_in, lesser, least_among, next_in, IsNext}

same_number : (a b : ℕ) → ◌≡◌ {A = Option ℕ} (Some a) (Some b) → a ≡ b
same_number a b e = cc

none_some : (a : ℕ) → ◌≡◌ {A = Option ℕ} None (Some a) → ⊥
none_some a e = absurd cc

-- ---- the loop

pub least_first : (entries : List TableEntry) → None ≡ least_among entries 0
least_first entries = refl

pub least_next : (entries : List TableEntry) (n : ℕ) (least found next : Option ℕ) → least ≡ least_among entries n → found ≡ active_in (told (slice_get entries n)) → next ≡ lesser least found → next ≡ least_among entries (n + 1)
least_next entries n least found next a b c = c ∙ ap₂ lesser a b ∙ ap (least_among entries) (let z : suc n ≡ n + 1 = omega arith in z)

pub least_all : (entries : List TableEntry) (n : ℕ) (least : Option ℕ) → least ≡ least_among entries n → n ≡ length entries → least ≡ least_among entries (length entries)
least_all entries n least a b = a ∙ ap (least_among entries) b

-- ---- what the least of the entries is

abbrev at : List TableEntry → ℕ → Option ℕ
at entries i = active_in (told (slice_get entries i))

-- a transaction that is active by one of the first n entries, none of which has a lesser one
record Leads (entries : List TableEntry) (n t : ℕ) : Type 0 where
  place : ℕ
  within : place < n
  is : at entries place ≡ Some t
  least : (i u : ℕ) → i < n → at entries i ≡ Some u → t ≤ u

abbrev LeadsOf : List TableEntry → ℕ → Option ℕ → Type 0
LeadsOf entries n None = (i u : ℕ) → i < n → at entries i ≡ Some u → ⊥
LeadsOf entries n (Some t) = Leads entries n t

before : (i n : ℕ) → i < suc n → (i ≡ n → ⊥) → i < n
before i n l k = omega (arith, l, k)

cases_le : (a b : ℕ) → (a ≤ b) ⊎ (b ≤ a)
cases_le a b = elim (cases_Bool (ltb b a)) [ inl y ↦ inr (let l = ltb-true b a y in omega (arith, l)) | inr f ↦ inl (ltb-false b a f) ]

leads_next : (entries : List TableEntry) (n : ℕ) (a b : Option ℕ) → at entries n ≡ b → LeadsOf entries n a → LeadsOf entries (suc n) (lesser a b)
leads_next entries n None None e h = λ i u l f. elim (cases_Bool (eqb i n)) [
  | inl y ↦ none_some u (sym e ∙ ap (at entries) (sym (eqb-true i n y)) ∙ f)
  | inr g ↦ h i u (before i n l (eqb-false i n g)) f
]
leads_next entries n None (Some v) e h = record {
  place = n;
  within = omega arith;
  is = e;
  least = λ i u l f. elim (cases_Bool (eqb i n)) [
    | inl y ↦ let same = same_number v u (sym e ∙ ap (at entries) (sym (eqb-true i n y)) ∙ f) in omega (arith, same)
    | inr g ↦ absurd (h i u (before i n l (eqb-false i n g)) f)
  ];
}
leads_next entries n (Some t) None e h = record {
  place = h.place;
  within = (let l = h.within in omega (arith, l));
  is = h.is;
  least = λ i u l f. elim (cases_Bool (eqb i n)) [
    | inl y ↦ absurd (none_some u (sym e ∙ ap (at entries) (sym (eqb-true i n y)) ∙ f))
    | inr g ↦ h.least i u (before i n l (eqb-false i n g)) f
  ];
}
leads_next entries n (Some t) (Some v) e h = elim (cases_le t v) [
  | inl l ↦ subst (λ m. Leads entries (suc n) m) (let m : t ≡ min t v = omega (arith, l) in m) (record {
    place = h.place;
    within = (let w = h.within in omega (arith, w));
    is = h.is;
    least = λ i u b f. elim (cases_Bool (eqb i n)) [
      | inl y ↦ let same = same_number v u (sym e ∙ ap (at entries) (sym (eqb-true i n y)) ∙ f) in omega (arith, same, l)
      | inr g ↦ h.least i u (before i n b (eqb-false i n g)) f
    ];
  })
  | inr l ↦ subst (λ m. Leads entries (suc n) m) (let m : v ≡ min t v = omega (arith, l) in m) (record {
    place = n;
    within = omega arith;
    is = e;
    least = λ i u b f. elim (cases_Bool (eqb i n)) [
      | inl y ↦ let same = same_number v u (sym e ∙ ap (at entries) (sym (eqb-true i n y)) ∙ f) in omega (arith, same)
      | inr g ↦ let k = h.least i u (before i n b (eqb-false i n g)) f in omega (arith, k, l)
    ];
  })
]

leads : (entries : List TableEntry) (n : ℕ) → LeadsOf entries n (least_among entries n)
leads entries zero = λ i u l f. absurd (omega (arith, l))
leads entries (suc n) = leads_next entries n (least_among entries n) (at entries n) refl (leads entries n)

-- ---- and of the list

told_active : (R : List Record) (t : ℕ) (b : Bool) → active_by (state_of_outcome (cond b Active (outcome_when_over (commit_number R t)))) t ≡ cond b (Some t) None
told_active R t true = refl
told_active R t false = over (commit_number R t)
  where
    over : (c : Option ℕ) → active_by (state_of_outcome (outcome_when_over c)) t ≡ None
    over None = refl
    over (Some c) = refl

abbrev of_user : List Record → Option ℕ → Option ℕ
of_user R None = None
of_user R (Some t) = cond (is_active R t) (Some t) None

user_tells : (R : List Record) (o : Option ℕ) → active_in (told (Some (entry_used_by R o))) ≡ of_user R o
user_tells R None = refl
user_tells R (Some t) = told_active R t (is_active R t)

at_tells : (R : List Record) (p : TxnTable) (i : ℕ) → HoldsTable R p → i < TXN_ENTRIES → at p.entries i ≡ of_user R (user_of R i)
at_tells R p i h l =
    let n = h.count in
    ap (λ (o : Option TableEntry). active_in (told o)) (slice_get-get_or p.entries i Unused (omega (arith, n, l)) ∙ ap some_entry (h.entries i l)) ∙ user_tells R (user_of R i)
  where
    some_entry : TableEntry → Option TableEntry
    some_entry x = Some x

user_active : (R : List Record) (o : Option ℕ) (t : ℕ) → of_user R o ≡ Some t → is_active R t ≡ true
user_active R None t e = absurd (none_some t e)
user_active R (Some u) t e = elim (cases_Bool (is_active R u)) [
  | inl y ↦ subst (λ z. is_active R z ≡ true) (same_number u t (sym (cond-true _ _ _ y) ∙ e)) y
  | inr f ↦ absurd (none_some t (sym (cond-false _ _ _ f) ∙ e))
]

-- an active transaction is found in its entry
active_at : (sh : Shape) (R : List Record) (p : TxnTable) (t : ℕ) → IsLawful sh R → HoldsTable R p → is_active R t ≡ true → (i : ℕ) × (i < TXN_ENTRIES) × (at p.entries i ≡ Some t)
active_at sh R p t law h on =
    let k = txn_table sh R law.allowed in
    let w = k.entered t (k.begun t on) in
    (w.0, w.2, at_tells R p w.0 h w.2 ∙ ap (of_user R) (k.user t w.0 w.1 (k.kept t on)) ∙ cond-true _ _ _ on)

table_next : (sh : Shape) (R : List Record) (p : TxnTable) (o : Option ℕ) → IsLawful sh R → HoldsTable R p → LeadsOf p.entries (length p.entries) o → IsNext R o
table_next sh R p None law h none = λ t. elim (cases_Bool (is_active R t)) [
  | inl y ↦
      let w = active_at sh R p t law h y in
      let n = h.count in
      let l = w.1 in
      absurd (none w.0 t (omega (arith, n, l)) w.2)
  | inr f ↦ f
]
table_next sh R p (Some t) law h first = record {
  active = (let l = first.within in let n = h.count in user_active R (user_of R first.place) t (sym (at_tells R p first.place h (omega (arith, l, n))) ∙ first.is));
  least = λ u below. elim (cases_Bool (is_active R u)) [
    | inl y ↦
        let w = active_at sh R p u law h y in
        let n = h.count in
        let l = w.1 in
        let le = first.least w.0 u (omega (arith, n, l)) w.2 in
        absurd (omega (arith, le, below))
    | inr f ↦ f
  ];
}

-- ---- the page

same_option : (a b : Option ℕ) → ◌≡◌ {A = Option (Option ℕ)} (Some a) (Some b) → a ≡ b
same_option a b e = cc

none_option : (b : Option ℕ) → ◌≡◌ {A = Option (Option ℕ)} None (Some b) → ⊥
none_option b e = absurd cc

-- none has begun, or some has
count_cases : (R : List Record) (n : ℕ) → txn_count R ≡ n → (txn_count R ≡ 0) ⊎ (1 ≤ txn_count R)
count_cases R zero c = inl c
count_cases R (suc n) c = inr (omega (arith, c))

zero_txns : (p : TxnTable) → ◌≡◌ {A = Page} (Zero 1) (Txns p) → ⊥
zero_txns p e = absurd cc

pub next_says : (sh : Shape) (R : List Record) (x : Option ℕ) → is_shape sh ≡ true → IsLawful sh R → next_in (page_of sh R 1) ≡ Some x → IsNext R x
next_says sh R x s h e = elim (count_cases R (txn_count R) refl) [
  | inl none ↦
      let new = tables_are_new sh R s h none in
      subst (IsNext R) (same_option None x (sym (ap next_in new.page) ∙ e)) (λ t. nothing t none)
  | inr some ↦
      let has = tables_stand sh R s h.allowed some in
      let is = same_option (least_among has.table.entries (length has.table.entries)) x (sym (ap next_in has.page) ∙ e) in
      subst (IsNext R) is (table_next sh R has.table (least_among has.table.entries (length has.table.entries)) h has.holds (leads has.table.entries (length has.table.entries)))
]
  where
    nothing : (t : ℕ) → txn_count R ≡ 0 → is_active R t ≡ false
    nothing t none = elim (cases_Bool (is_active R t)) [
      | inl y ↦ let has = active_have_table sh R t s h.allowed y in absurd (zero_txns has.table (sym (tables_are_new sh R s h none).page ∙ has.page))
      | inr f ↦ f
    ]

pub next_given : (sh : Shape) (R : List Record) → is_shape sh ≡ true → IsLawful sh R → (x : Option ℕ) × (next_in (page_of sh R 1) ≡ Some x)
next_given sh R s h = elim (count_cases R (txn_count R) refl) [
  | inl none ↦ (None, ap next_in (tables_are_new sh R s h none).page)
  | inr some ↦ let has = tables_stand sh R s h.allowed some in (least_among has.table.entries (length has.table.entries), ap next_in has.page)
]

pub says_any : (sh : Shape) (R : List Record) (r : Result (Option ℕ) StoreFault) → is_shape sh ≡ true → IsLawful sh R → IfOk r (λ x. next_in (page_of sh R 1) ≡ Some x) → IfOk r (IsNext R)
says_any sh R (Ok x) s h e = next_says sh R x s h e
says_any sh R (Err f) s h e = tt
