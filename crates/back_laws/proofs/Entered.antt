-- The list entries of active transactions stay where their records put them.
use Rattle.std.proofs.Common.{◌≡◌, ℕ, ◌<◌, ◌≤◌, Bool, true, false, cond, not, ◌&&◌, ◌||◌, eqb, ltb, leb, List, [], ◌∷◌, length, get_or, Option, Some, None, refl, sym, ◌∙◌, ap, subst, arith, ◌⊎◌, inl, inr, le_trans, true≢false, eqb-true, ne_eqb, eq-eqb, ltb-true, ltb-false, lt-ltb}
use Rattle.seg_words.specs.Types.{position_or_len, Shape, ListEntry, Writer, By, At, Block, new_entry, number_of, entry_as_told, clean_entry, names, is_spare, entry_for, free_of as free_by}
use Rattle.seg_words.proofs.Lemmas.{cases_Bool, eqb-false, cond-true, cond-false, and_parts, and_from, or_cases, or_right, passes_at_first}
use Rattle.std.proofs.lemmas.List.Sums.{position_or_len_is, fails_before_first}
use Rattle.redo_model.specs.Records.{Record, RowPart}
use Rattle.redo_model.specs.Model.{Step, Effect, effect_of, txn_count, is_active, ended_in, is_by, standing, standing_steps, is_place, is_at, entered_in, entered_by, changed_entry, entry, reach_entry, entries_reached, count_entered, changed_entry_count, entry_count, block_of, entries_of, Made, without, makers, AreAllowed}
use Rattle.redo_model.specs.Effects.{Still, Formats, Adds, TakesBack, Cleans}
use Rattle.redo_model.proofs.Bridge.{entry_is, entry_count_is}
use Rattle.redo_laws.specs.Among.{IsOneOf}
use Rattle.redo_laws.specs.Economy.{EachStep}
use Rattle.redo_laws.proofs.lists.Among.{one_has, each_one, each_from}
use Rattle.redo_laws.proofs.lists.Every.{Every, every-map, every-filter}
use Rattle.redo_laws.proofs.steps.OnTop.{is_named, OnTop, head_named, off_named}
use Rattle.redo_laws.proofs.steps.Facts.{BegunBy, HeadSettled, EffectFits}
use Rattle.redo_laws.proofs.steps.Held.{Held, own, effect_held}
use Rattle.redo_laws.proofs.numbers.Known.{turn}
use Rattle.redo_laws.proofs.links.Links.{LinksFit}
use Rattle.redo_laws.proofs.room.RoomKinds.{EntersAt, Enter, StepRoom, EffectRoom, room_of}
use Rattle.redo_laws.proofs.spread.Spread.{by_of, good}
use Rattle.redo_laws.proofs.spread.Views.{NoneByZero, none_by_zero}
use Rattle.redo_laws.proofs.spread.Whole.{whole, record_fits}
use Rattle.back_laws.specs.Backs.{EachPart, EntryStays, StepEntries, EntriesStay}

-- the entry that a transaction uses

entry_case : (p q n i room : ℕ) → cond (ltb p n) (Some p) (cond (ltb q n) (Some q) (cond (ltb n 8 && leb 24 room) (Some n) None)) ≡ Some i → ((p ≡ i) × (i < n)) ⊎ ((n ≤ p) × (((q ≡ i) × (i < n)) ⊎ (n ≡ i)))
entry_case p q n i room e = elim (cases_Bool (ltb p n)) [
  | inl y ↦ (let k : p ≡ i = same p i (sym (cond-true _ _ _ y) ∙ e) in inl (k, (let l = ltb-true p n y in omega (arith, k, l))))
  | inr f ↦ inr (ltb-false p n f, other (sym (cond-false _ _ _ f) ∙ e))
]
  where
    same : (a b : ℕ) → ◌≡◌ {A = Option ℕ} (Some a) (Some b) → a ≡ b
    same a b x = cc

    made : (v : Bool) → cond v (Some n) None ≡ Some i → n ≡ i
    made true x = same n i x
    made false x = absurd (let z : ◌≡◌ {A = Option ℕ} None (Some i) = x in cc)

    other : cond (ltb q n) (Some q) (cond (ltb n 8 && leb 24 room) (Some n) None) ≡ Some i → ((q ≡ i) × (i < n)) ⊎ (n ≡ i)
    other x = elim (cases_Bool (ltb q n)) [
      | inl y ↦ (let k : q ≡ i = same q i (sym (cond-true _ _ _ y) ∙ x) in inl (k, (let l = ltb-true q n y in omega (arith, k, l))))
      | inr f ↦ inr (made (ltb n 8 && leb 24 room) (sym (cond-false _ _ _ f) ∙ x))
    ]

-- none before it names the transaction; it names it, or is spare, or is new
record Uses (ended : ℕ → Bool) (es : List ListEntry) (t i : ℕ) : Type 0 where
  before : (j : ℕ) → j < i → eqb (get_or es j new_entry).txn t ≡ false
  at : i < length es → (eqb (get_or es i new_entry).txn t ≡ true) ⊎ (is_spare ended (get_or es i new_entry) ≡ true)

uses : (ended : ℕ → Bool) (b : Block) (t i : ℕ) → entry_for ended b t ≡ Some i → Uses ended b.entries t i
uses ended b t i e = elim (entry_case (position_or_len (names t) b.entries) (position_or_len (is_spare ended) b.entries) (length b.entries) i (free_by ended b) e) [
  | inl own ↦ record {
    before = λ j l. fails_before_first (names t) b.entries j new_entry (let k = own.0 in omega (arith, l, k));
    at = λ l. inl (subst (λ n. names t (get_or b.entries n new_entry) ≡ true) own.0 (passes_at_first (names t) b.entries new_entry (let k = own.0 in let m = own.1 in omega (arith, k, m))));
  }
  | inr o ↦ elim o.1 [
    | inl sp ↦ record {
      before = λ j l. fails_before_first (names t) b.entries j new_entry (let k = o.0 in let m = sp.1 in omega (arith, l, k, m));
      at = λ l. inr (subst (λ n. is_spare ended (get_or b.entries n new_entry) ≡ true) sp.0 (passes_at_first (is_spare ended) b.entries new_entry (let k = sp.0 in omega (arith, k, l))));
    }
    | inr n ↦ record {
      before = λ j l. fails_before_first (names t) b.entries j new_entry (let k = o.0 in omega (arith, l, k, n));
      at = λ l. absurd (omega (arith, l, n));
    }
  ]
]

-- by the list

uses_in : (R : List Record) (b t i : ℕ) → entry_for (ended_in R) (block_of R b) t ≡ Some i → ((j : ℕ) → j < i → eqb (entry R b j).txn t ≡ false) × (i < entry_count R b → (eqb (entry R b i).txn t ≡ true) ⊎ (is_spare (ended_in R) (entry R b i) ≡ true))
uses_in R b t i e =
    let u = uses (ended_in R) (block_of R b) t i e in
    ((λ j l. ap (λ (x : ListEntry). eqb x.txn t) (sym (entry_is R b j)) ∙ u.before j l), (λ l. subst (λ (x : ListEntry). (eqb x.txn t ≡ true) ⊎ (is_spare (ended_in R) x ≡ true)) (entry_is R b i) (u.at (subst (λ n. i < n) (sym (entry_count_is R b)) l))))

-- the entry i of block b is the first one that names t
record IsFirst (R : List Record) (t b i : ℕ) : Type 0 where
  within : i < entry_count R b
  names_it : (entry R b i).txn ≡ t
  first : (j : ℕ) → j < i → eqb (entry R b j).txn t ≡ false

used_is : (R : List Record) (t b i : ℕ) → IsFirst R t b i → entry_for (ended_in R) (block_of R b) t ≡ Some i
used_is R t b i h =
    let len = entry_count_is R b in
    let pos : position_or_len (names t) (entries_of R b) ≡ i = position_or_len_is (names t) (entries_of R b) i new_entry (let l = h.within in omega (arith, l, len))
    (λ k l. ap (λ (x : ListEntry). eqb x.txn t) (entry_is R b k) ∙ h.first k l) (λ l. ap (λ (x : ListEntry). eqb x.txn t) (entry_is R b i) ∙ eq-eqb _ t h.names_it) in
    cond-true _ _ _ (lt_is (position_or_len (names t) (entries_of R b)) (length (entries_of R b)) (let l = h.within in omega (arith, l, len, pos))) ∙ ap (λ n. Some n) pos
  where
    lt_is : (a b : ℕ) → a < b → ltb a b ≡ true
    lt_is a b l = lt-ltb a b l

-- another transaction uses another entry
others_entry : (R : List Record) (t u b i : ℕ) → 1 ≤ t → is_active R t ≡ true → (u ≡ t → ⊥) → IsFirst R t b i → entry_for (ended_in R) (block_of R b) u ≡ Some i → ⊥
others_entry R t u b i one on ne h e = elim ((uses_in R b u i e).1 h.within) [
  | inl y ↦ ne (sym (eqb-true _ u y) ∙ h.names_it)
  | inr s ↦ elim (or_cases (eqb (entry R b i).txn 0) (ended_in R (entry R b i).txn) s) [
    | inl z ↦ (let k : (entry R b i).txn ≡ 0 = eqb-true _ 0 z in let m = h.names_it in omega (arith, one, k, m))
    | inr z ↦ true≢false (sym z ∙ ap (λ n. not (is_active R n)) h.names_it ∙ ap not on)
  ]
]

-- parts that enter

abbrev Matches : ℕ → ℕ → RowPart → Type 0
Matches b i p = (eqb p.dba b && is_at p.entry i) ≡ true

abbrev NoMatch : ℕ → ℕ → RowPart → Type 0
NoMatch b i p = (eqb p.dba b && is_at p.entry i) ≡ false

record Entering (R : List Record) (u b i : ℕ) (old new : ListEntry) : Type 0 where
  used : entry_for (ended_in R) (block_of R b) u ≡ Some i
  txn_is : new.txn ≡ u

at_some : (o : Option ℕ) (i e : ℕ) → is_at o i ≡ true → o ≡ Some e → e ≡ i
at_some o i e h x = eqb-true e i (ap (λ z. is_at z i) (sym x) ∙ h)

entered_cases : (R : List Record) (u b i : ℕ) (ps : List RowPart) (old : ListEntry) → Every (EntersAt R u) ps → Entering R u b i old (entered_in ps u b i old) ⊎ ((entered_in ps u b i old ≡ old) × Every (NoMatch b i) ps)
entered_cases R u b i [] old h = inr (refl, tt)
entered_cases R u b i (p ∷ ps) old h = elim (cases_Bool (eqb p.dba b && is_at p.entry i)) [
  | inl y ↦
      let q = and_parts (eqb p.dba b) (is_at p.entry i) y in
      let same : h.0.entry ≡ i = at_some p.entry i h.0.entry q.1 h.0.entry_is in
      inl (record {
        used = subst (λ n. entry_for (ended_in R) (block_of R b) u ≡ Some n) same (subst (λ d. entry_for (ended_in R) (block_of R d) u ≡ Some h.0.entry) (eqb-true p.dba b q.0) h.0.for_it);
        txn_is = ap (λ (x : ListEntry). x.txn) (cond-true _ _ _ y);
      })
  | inr f ↦ elim (entered_cases R u b i ps old h.1) [
    | inl z ↦ inl (record { used = z.used; txn_is = ap (λ (x : ListEntry). x.txn) (cond-false _ _ _ f) ∙ z.txn_is })
    | inr z ↦ inr (cond-false _ _ _ f ∙ z.0, (f, z.1))
  ]
]

reach_more : (o : Option ℕ) (n : ℕ) → n ≤ reach_entry o n
reach_more None n = omega arith
reach_more (Some i) n = omega arith

reached_more : (ps : List RowPart) (b n : ℕ) → n ≤ entries_reached ps b n
reached_more [] b n = omega arith
reached_more (p ∷ ps) b n = elim (eqb p.dba b) as (λ v. n ≤ cond v (reach_entry p.entry (entries_reached ps b n)) (entries_reached ps b n)) [
  | true ↦ le_trans (reached_more ps b n) (reach_more p.entry (entries_reached ps b n))
  | false ↦ reached_more ps b n
]

-- a first entry that names t, by how entries and counts are
record FirstIn (en : ℕ → ListEntry) (count t i : ℕ) : Type 0 where
  within : i < count
  names_it : (en i).txn ≡ t
  first : (j : ℕ) → j < i → eqb (en j).txn t ≡ false

same_entry : (i j : ℕ) (o : Option ℕ) → o ≡ Some i → o ≡ Some j → i ≡ j
same_entry i j o e f = let z : ◌≡◌ {A = Option ℕ} (Some i) (Some j) = sym e ∙ f in cc

adds_first : (R : List Record) (t u b i : ℕ) (ps : List RowPart) → 1 ≤ t → is_active R t ≡ true → Every (EntersAt R u) ps → IsFirst R t b i → FirstIn (λ j. entered_in ps u b j (entry R b j)) (entries_reached ps b (entry_count R b)) t i
adds_first R t u b i ps one on en h = record {
  within = (let m = reached_more ps b (entry_count R b) in let l = h.within in omega (arith, m, l));
  names_it = elim (entered_cases R u b i ps (entry R b i) en) [
    | inl z ↦ elim (cases_Bool (eqb u t)) [
      | inl y ↦ z.txn_is ∙ eqb-true u t y
      | inr n ↦ absurd (others_entry R t u b i one on (eqb-false u t n) h z.used)
    ]
    | inr z ↦ ap (λ (x : ListEntry). x.txn) z.0 ∙ h.names_it
  ];
  first = λ j l. elim (entered_cases R u b j ps (entry R b j) en) [
    | inl z ↦ elim (cases_Bool (eqb u t)) [
      | inl y ↦
          let same : i ≡ j = same_entry i j _ (used_is R t b i h) (subst (λ x. entry_for (ended_in R) (block_of R b) x ≡ Some j) (eqb-true u t y) z.used) in
          absurd (omega (arith, l, same))
      | inr n ↦ ap (λ x. eqb x t) z.txn_is ∙ n
    ]
    | inr z ↦ ap (λ (x : ListEntry). eqb x.txn t) z.0 ∙ h.first j l
  ];
}

-- the entries of the step's own parts

reached_own : (ps : List RowPart) (p : RowPart) (n e : ℕ) → IsOneOf p ps → p.entry ≡ Some e → e < entries_reached ps p.dba n
reached_own [] p n e m x = absurd m
reached_own (q ∷ ps) p n e m x = elim (cases_Bool (eqb q.dba p.dba)) [
  | inl y ↦ subst (λ k. e < k) (sym (cond-true _ _ _ y)) (elim m [
    | inl z ↦ subst (λ o. e < reach_entry o (entries_reached ps p.dba n)) (sym (ap (λ (r : RowPart). r.entry) z ∙ x)) (omega arith)
    | inr z ↦ (let l = reached_own ps p n e z x in let k = reach_more q.entry (entries_reached ps p.dba n) in omega (arith, l, k))
  ])
  | inr f ↦ subst (λ k. e < k) (sym (cond-false _ _ _ f)) (elim m [
    | inl z ↦ absurd (eqb-false q.dba p.dba f (ap (λ (r : RowPart). r.dba) z))
    | inr z ↦ reached_own ps p n e z x
  ])
]

own_first : (R : List Record) (t : ℕ) (ps : List RowPart) (p : RowPart) (e : ℕ) → Every (EntersAt R t) ps → IsOneOf p ps → p.entry ≡ Some e → entry_for (ended_in R) (block_of R p.dba) t ≡ Some e
    → FirstIn (λ j. entered_in ps t p.dba j (entry R p.dba j)) (entries_reached ps p.dba (entry_count R p.dba)) t e
own_first R t ps p e en m x u = record {
  within = reached_own ps p (entry_count R p.dba) e m x;
  names_it = elim (entered_cases R t p.dba e ps (entry R p.dba e) en) [
    | inl z ↦ z.txn_is
    | inr z ↦ absurd (true≢false (sym (and_from (eqb p.dba p.dba) (is_at p.entry e) (eq-eqb p.dba p.dba refl) (ap (λ o. is_at o e) x ∙ eq-eqb e e refl)) ∙ one_has (NoMatch p.dba e) p ps m z.1))
  ];
  first = λ j l. elim (entered_cases R t p.dba j ps (entry R p.dba j) en) [
    | inl z ↦ absurd (let same : e ≡ j = same_entry e j _ u z.used in omega (arith, l, same))
    | inr z ↦ ap (λ (y : ListEntry). eqb y.txn t) z.0 ∙ (uses_in R p.dba t e u).0 j l
  ];
}

-- a part's entry, as it is kept

record Kept (en : ℕ → ℕ → ListEntry) (count : ℕ → ℕ) (t : ℕ) (p : RowPart) : Type 0 where
  place : ℕ
  place_is : p.entry ≡ Some place
  at : FirstIn (en p.dba) (count p.dba) t place

abbrev KeptStep : (ℕ → Bool) → (ℕ → ℕ → ListEntry) → (ℕ → ℕ) → Step → Type 0
KeptStep active en count st = (t : ℕ) → st.by ≡ By t → active t ≡ true → Every (Kept en count t) st.parts

to_first : (R : List Record) (t b i : ℕ) → FirstIn (entry R b) (entry_count R b) t i → IsFirst R t b i
to_first R t b i h = record { within = h.within; names_it = h.names_it; first = h.first }

-- an entry that is cleaned
clean_names : (R : List Record) (cs : List (ℕ × ℕ)) (e : ListEntry) (t : ℕ) → ((u m : ℕ) → number_of cs u ≡ Some m → is_active R u ≡ false) → is_active R t ≡ true → e.txn ≡ t → (clean_entry cs e).txn ≡ t
clean_names R cs e t f on h = go (number_of cs e.txn) refl
  where
    go : (o : Option ℕ) → number_of cs e.txn ≡ o → (entry_as_told e o).txn ≡ t
    go None x = h
    go (Some m) x = absurd (true≢false (sym on ∙ ap (is_active R) (sym h) ∙ f e.txn m x))

clean_other : (e : ListEntry) (o : Option ℕ) (t : ℕ) → 1 ≤ t → eqb e.txn t ≡ false → eqb (entry_as_told e o).txn t ≡ false
clean_other e None t one h = h
clean_other e (Some m) t one h = ne_eqb 0 t (λ x. omega (arith, one, x))

-- the newest maker of a slot that an active transaction's step names

pub record HeadBy (u : ℕ) (ms : List Made) : Type 0 where
  pub made : Made
  pub rest : List Made
  pub list : ms ≡ made ∷ rest
  pub by_is : made.by ≡ By u

abbrev pub NamedIn : List Step → ℕ → ℕ → Type 0
NamedIn [] b k = ⊥
NamedIn (s ∷ us) b k = (is_named s.parts b k ≡ true) ⊎ NamedIn us b k

pub head_by : (us : List Step) (u b k : ℕ) (ms : ℕ → ℕ → List Made) → Every (λ (s : Step). s.by ≡ By u) us → OnTop us ms → NamedIn us b k → HeadBy u (ms b k)
head_by [] u b k ms own top h = absurd h
head_by (s ∷ us) u b k ms own top h = elim (cases_Bool (is_named s.parts b k)) [
  | inl y ↦ let w = head_named s 0 s.parts b k (without s.undo (ms b k)) y in record { made = w.made; rest = without s.undo (ms b k); list = top.0 b k ∙ w.list; by_is = w.by_is ∙ own.0 }
  | inr n ↦
      let w = head_by us u b k (λ c l. without s.undo (ms c l)) own.1 top.1 (elim h [ inl y ↦ absurd (true≢false (sym y ∙ n)) | inr z ↦ z ]) in
      record { made = w.made; rest = w.rest; list = top.0 b k ∙ off_named s 0 s.parts b k (without s.undo (ms b k)) n ∙ w.list; by_is = w.by_is }
]

pub all_own : (u : ℕ) (ss : List Step) → Every (λ (s : Step). s.by ≡ By u) (own u ss)
all_own u [] = tt
all_own u (s ∷ ss) = (elim (is_by s.by u) as (λ v. is_by s.by u ≡ v → Every (λ (s : Step). s.by ≡ By u) (cond v (s ∷ own u ss) (own u ss))) [ true ↦ λ e. (by_of s.by u e, all_own u ss) | false ↦ λ e. all_own u ss ]) refl

pub one_named : (ss : List Step) (u b k : ℕ) (st : Step) → IsOneOf st ss → st.by ≡ By u → is_named st.parts b k ≡ true → NamedIn (own u ss) b k
one_named [] u b k st m by h = absurd m
one_named (s ∷ ss) u b k st m by h = elim m [
  | inl e ↦
      let mine : is_by s.by u ≡ true = ap (λ (z : Step). is_by z.by u) e ∙ ap (λ w. is_by w u) by ∙ eq-eqb u u refl in
      subst (λ us. NamedIn us b k) (sym (cond-true (is_by s.by u) (s ∷ own u ss) (own u ss) mine)) (inl (subst (λ (z : Step). is_named z.parts b k ≡ true) (sym e) h))
  | inr z ↦ elim (is_by s.by u) as (λ v. NamedIn (cond v (s ∷ own u ss) (own u ss)) b k) [ true ↦ inr (one_named ss u b k st z by h) | false ↦ one_named ss u b k st z by h ]
]

pub part_named : (ps : List RowPart) (p : RowPart) → IsOneOf p ps → is_named ps p.dba p.slot ≡ true
part_named [] p m = absurd m
part_named (q ∷ ps) p m = elim m [
  | inl e ↦ subst (λ (r : RowPart). is_named (q ∷ ps) r.dba r.slot ≡ true) e (ap (λ v. v || is_named ps q.dba q.slot) (and_from _ _ (eq-eqb q.dba q.dba refl) (eq-eqb q.slot q.slot refl)))
  | inr z ↦ or_right (is_place q.dba q.slot p.dba p.slot) _ (part_named ps p z)
]

-- a block with a standing part of an active transaction isn't formatted
not_formatted : (R : List Record) (d t : ℕ) (st : Step) (p : RowPart) → EffectFits R (Formats d) → Held (is_active R) (txn_count R) (standing R) (makers R) → IsOneOf st (standing R) → st.by ≡ By t → is_active R t ≡ true → IsOneOf p st.parts → eqb d p.dba ≡ false
not_formatted R d t st p f h m by on q = elim (cases_Bool (eqb d p.dba)) [
  | inr n ↦ n
  | inl y ↦
      let w = head_by (own t (standing R)) t p.dba p.slot (makers R) (all_own t (standing R)) (h.top t on) (one_named (standing R) t p.dba p.slot st m by (part_named st.parts p q)) in
      let s : HeadSettled (is_active R) (makers R p.dba p.slot) = subst (λ x. HeadSettled (is_active R) (makers R x p.slot)) (eqb-true d p.dba y) (f p.slot).1 in
      absurd (true≢false (sym on ∙ (subst (HeadSettled (is_active R)) w.list s) t w.by_is))
]

from_one : (n : ℕ) (R : List Record) (ss : List Step) (st : Step) (t : ℕ) → NoneByZero ss → IsOneOf st ss → st.by ≡ By t → 1 ≤ t
from_one n R [] st t z m by = absurd m
from_one n R (s ∷ ss) st t z m by = elim m [
  | inl e ↦ (let q : eqb t 0 ≡ false = ap (λ w. is_by w 0) (sym by) ∙ ap (λ (x : Step). is_by x.by 0) (sym e) ∙ z.0 in let k = eqb-false t 0 q in pos t k)
  | inr y ↦ from_one n R ss st t z.1 y by
]
  where
    pos : (t : ℕ) → (t ≡ 0 → ⊥) → 1 ≤ t
    pos t k = omega (arith, k)

abbrev KeptAll : (ℕ → Bool) → List Step → (ℕ → ℕ → ListEntry) → (ℕ → ℕ) → Type 0
KeptAll active ss en count = Every (KeptStep active en count) ss

adds_kept : (R : List Record) (st : Step) → StepRoom R st → NoneByZero (standing R) → KeptAll (is_active R) (standing R) (entry R) (entry_count R)
    → KeptAll (is_active R) (st ∷ standing R) (λ b i. changed_entry (Adds st) b i (entry R b i)) (λ b. changed_entry_count (Adds st) b (entry_count R b))
adds_kept R st x z h = go st.by refl x.entries
  where
    go : (w : Writer) → st.by ≡ w → Enter R w st.parts → KeptAll (is_active R) (st ∷ standing R) (λ b i. entered_by st.by st.parts b i (entry R b i)) (λ b. count_entered st.by st.parts b (entry_count R b))
    go (At m) e en = subst (λ v. KeptAll (is_active R) (st ∷ standing R) (λ b i. entered_by v st.parts b i (entry R b i)) (λ b. count_entered v st.parts b (entry_count R b))) (sym e)
        ((λ t by on. absurd (let q : At m ≡ By t = sym e ∙ by in cc)), h)
    go (By u) e en = subst (λ v. KeptAll (is_active R) (st ∷ standing R) (λ b i. entered_by v st.parts b i (entry R b i)) (λ b. count_entered v st.parts b (entry_count R b))) (sym e) (
      (λ t by on.
          let same : u ≡ t = (let q : By u ≡ By t = sym e ∙ by in cc) in
          let ent : Every (EntersAt R t) st.parts = subst (λ v. Every (EntersAt R v) st.parts) same en in
          subst (λ v. Every (Kept (λ b i. entered_in st.parts v b i (entry R b i)) (λ b. entries_reached st.parts b (entry_count R b)) t) st.parts) (sym same)
          (each_one _ st.parts (λ p m. let y = one_has (EntersAt R t) p st.parts m ent in record { place = y.entry; place_is = y.entry_is; at = own_first R t st.parts p y.entry ent m y.entry_is y.for_it }))),
      each_from _ _ (standing R) (λ s m k t by on. every-map _ _ s.parts (λ p y. record { place = y.place; place_is = y.place_is; at = adds_first R t u p.dba y.place st.parts (from_one 0 R (standing R) s t z m by) on en (to_first R t p.dba y.place y.at) }) (k t by on)) h,
    )

effect_kept : (R : List Record) (ef : Effect) → EffectFits R ef → LinksFit R ef → EffectRoom R ef → Held (is_active R) (txn_count R) (standing R) (makers R) → NoneByZero (standing R) → KeptAll (is_active R) (standing R) (entry R) (entry_count R)
    → KeptAll (is_active R) (standing_steps ef (standing R)) (λ b i. changed_entry ef b i (entry R b i)) (λ b. changed_entry_count ef b (entry_count R b))
effect_kept R Still f l x g z h = h
effect_kept R (TakesBack y) f l x g z h = every-filter _ _ (standing R) h
effect_kept R (Adds st) f l x g z h = adds_kept R st x z h
effect_kept R (Formats d) f l x g z h = each_from _ _ (standing R) (λ s m k t by on. each_one _ s.parts (λ p q.
    let y = one_has _ p s.parts q (k t by on) in
    let off = not_formatted R d t s p f g m by on q in
    record {
      place = y.place;
      place_is = y.place_is;
      at = subst (λ v. FirstIn (λ i. cond v new_entry (entry R p.dba i)) (cond v 2 (entry_count R p.dba)) t y.place) (sym off) y.at;
    })) h
effect_kept R (Cleans d cs) f l x g z h = each_from _ _ (standing R) (λ s m k t by on. every-map _ _ s.parts (λ p y. record {
  place = y.place;
  place_is = y.place_is;
  at = elim (eqb d p.dba) as (λ v. FirstIn (λ i. cond v (clean_entry cs (entry R p.dba i)) (entry R p.dba i)) (entry_count R p.dba) t y.place) [
    | true ↦ record {
      within = y.at.within;
      names_it = clean_names R cs (entry R p.dba y.place) t l on y.at.names_it;
      first = λ j lt. clean_other (entry R p.dba j) (number_of cs (entry R p.dba j).txn) t (from_one 0 R (standing R) s t z m by) (y.at.first j lt);
    }
    | false ↦ y.at
  ];
}) (k t by on)) h

pub begun_one : (n : ℕ) (ss : List Step) (st : Step) (t : ℕ) → Every (λ (s : Step). BegunBy n s.by) ss → IsOneOf st ss → st.by ≡ By t → t ≤ n
begun_one n [] st t h m by = absurd m
begun_one n (s ∷ ss) st t h m by = elim m [ inl e ↦ subst (BegunBy n) (ap (λ (x : Step). x.by) e ∙ by) h.0 | inr z ↦ begun_one n ss st t h.1 z by ]

kept_all : (sh : Shape) (R : List Record) → AreAllowed sh R → KeptAll (is_active R) (standing R) (entry R) (entry_count R)
kept_all sh [] h = tt
kept_all sh (r ∷ R) h =
    let w = whole sh R h.0 in
    let g = good sh R w.fit in
    let f = record_fits sh R r h in
    let after = effect_held R (effect_of r) f.effect g.held in
    let t = turn sh R r h.1.kind in
    let k = effect_kept R (effect_of r) f.effect f.links (room_of sh R r h.1.kind) g.held (none_by_zero sh R w.fit) (kept_all sh R h.0) in
    each_from _ _ (standing (r ∷ R)) (λ s m y u by on. elim (t.live u on) [
      | inl was ↦ y u by was
      | inr new ↦ absurd (let l = begun_one (txn_count R) (standing (r ∷ R)) s u after.begun m by in omega (arith, l, new))
    ]) k

parts_stay : (R : List Record) (t : ℕ) (ps : List RowPart) → Every (Kept (entry R) (entry_count R) t) ps → EachPart (EntryStays R t) ps
parts_stay R t [] h = tt
parts_stay R t (p ∷ ps) h = (
  record {
    place = h.0.place;
    place_is = h.0.place_is;
    within = h.0.at.within;
    names_it = h.0.at.names_it;
    first = λ j l e. true≢false (sym (eq-eqb (entry R p.dba j).txn t e) ∙ h.0.at.first j l);
    used = used_is R t p.dba h.0.place (to_first R t p.dba h.0.place h.0.at) ∙ sym h.0.place_is;
  },
  parts_stay R t ps h.1,
)

each_step : (R : List Record) (ss : List Step) → KeptAll (is_active R) ss (entry R) (entry_count R) → EachStep (StepEntries R) ss
each_step R [] h = tt
each_step R (s ∷ ss) h = ((λ t by on. parts_stay R t s.parts (h.0 t by on)), each_step R ss h.1)

pub entries_stay : EntriesStay
entries_stay sh R h = each_step R (standing R) (kept_all sh R h)
