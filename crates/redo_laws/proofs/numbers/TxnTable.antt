-- The table of transactions in a lawful list: whose entries are taken.
use Rattle.std.proofs.Common.{◌≡◌, ◌⊎◌, ℕ, suc, ◌<◌, ◌≤◌, Bool, true, false, cond, not, ◌||◌, eqb, List, [], ◌∷◌, Option, Some, None, refl, sym, ◌∙◌, ap, subst, arith, inl, inr, le_trans, eqb-true, ne_eqb, eq-eqb, true≢false}
use Rattle.seg_words.proofs.Lemmas.{cond-true, cond-false, cases_Bool, eqb-false, or_cases, or_parts, or_left, or_right, and_parts, and_from, and_left, and_right}
use Rattle.seg_words.specs.Types.{Shape, TXN_ENTRIES}
use Rattle.redo_model.specs.Records.{Record, Begin, Commit, Ended, Move, BeginRecord, CommitRecord, EndedRecord}
use Rattle.redo_model.specs.Model.{commit_count, txn_count, is_active, has_begun, commit_number, has_rolled_back, control_number, entry_of, user_of, is_entry, is_forgotten, EntryState, state_of_user, state_when_over, entry_state, TakesEntry, BeginAllowed, CommitAllowed, IsKindAllowed, AreAllowed}
use Rattle.redo_model.specs.AllowedTransactions.{Unused, InUse, Committed, RolledBack, takes_unused, takes_rolled_back, takes_committed}
use Rattle.redo_laws.specs.Forgotten.{ForgottenHavePassed}

pub record TxnTable (R : List Record) : Type 0 where
  pub most : (t : ℕ) → has_begun R t ≡ true → t ≤ txn_count R
  pub begun : (t : ℕ) → is_active R t ≡ true → has_begun R t ≡ true
  pub entered : (t : ℕ) → has_begun R t ≡ true → (i : ℕ) × (entry_of R t ≡ Some i) × (i < TXN_ENTRIES)
  pub entry_begun : (t i : ℕ) → entry_of R t ≡ Some i → has_begun R t ≡ true
  pub forgotten_begun : (t : ℕ) → is_forgotten R t ≡ true → has_begun R t ≡ true
  pub user : (t i : ℕ) → entry_of R t ≡ Some i → is_forgotten R t ≡ false → user_of R i ≡ Some t
  pub last : (t i : ℕ) → user_of R i ≡ Some t → (entry_of R t ≡ Some i) × (is_forgotten R t ≡ false)
  pub kept : (t : ℕ) → is_active R t ≡ true → is_forgotten R t ≡ false
  pub fate : (t : ℕ) → has_begun R t ≡ true → (is_active R t ≡ true) ⊎ (((c : ℕ) × (commit_number R t ≡ Some c)) ⊎ (has_rolled_back R t ≡ true))
  pub done : (t c : ℕ) → commit_number R t ≡ Some c → (is_active R t ≡ false) × (has_begun R t ≡ true) × (c ≤ commit_count R)
  pub low : (t c : ℕ) → commit_number R t ≡ Some c → is_forgotten R t ≡ true → c ≤ control_number R
  pub high : (t c : ℕ) → commit_number R t ≡ Some c → is_forgotten R t ≡ false → control_number R ≤ c
  pub control : control_number R ≤ commit_count R

-- a Begin

not_yet : (R : List Record) (t n : ℕ) → TxnTable R → n ≡ suc (txn_count R) → t ≡ n → has_begun R t ≡ false
not_yet R t n h e f = elim (cases_Bool (has_begun R t)) [ inl y ↦ (let m : t ≤ txn_count R = h.most t y in absurd (omega arith)) | inr g ↦ g ]

none_entry : (R : List Record) (t : ℕ) → TxnTable R → has_begun R t ≡ false → entry_of R t ≡ None
none_entry R t h f = go (entry_of R t) refl
  where
    go : (o : Option ℕ) → entry_of R t ≡ o → o ≡ None
    go None e = refl
    go (Some i) e = absurd (true≢false (sym (h.entry_begun t i e) ∙ f))

not_forgotten : (R : List Record) (t : ℕ) → TxnTable R → has_begun R t ≡ false → is_forgotten R t ≡ false
not_forgotten R t h f = elim (cases_Bool (is_forgotten R t)) [ inl y ↦ absurd (true≢false (sym (h.forgotten_begun t y) ∙ f)) | inr n ↦ n ]

-- what a taken entry says of the transaction that had it
pub record Passed (R : List Record) (t control : ℕ) : Type 0 where
  pub ended : is_active R t ≡ false
  pub low : (c : ℕ) → commit_number R t ≡ Some c → c ≤ control

over_state : (o : Option ℕ) (c : ℕ) → state_when_over o ≡ Committed c → o ≡ Some c
over_state None c e = absurd (let x : RolledBack ≡ Committed c = e in cc)
over_state (Some d) c e = (let x : Committed d ≡ Committed c = e in cc)

rolled_state : (o : Option ℕ) → state_when_over o ≡ RolledBack → o ≡ None
rolled_state None e = refl
rolled_state (Some d) e = absurd (let x : Committed d ≡ RolledBack = e in cc)

at_user : (R : List Record) (t i : ℕ) → user_of R i ≡ Some t → entry_state R i ≡ cond (is_active R t) InUse (state_when_over (commit_number R t))
at_user R t i e = ap (state_of_user R) e

not_used : (R : List Record) (t i : ℕ) → user_of R i ≡ Some t → entry_state R i ≡ Unused → ⊥
not_used R t i e f = go (is_active R t) (commit_number R t) (sym (at_user R t i e) ∙ f)
  where
    go : (b : Bool) (o : Option ℕ) → cond b InUse (state_when_over o) ≡ Unused → ⊥
    go true o x = cc
    go false None x = cc
    go false (Some c) x = cc

over_of : (R : List Record) (t i : ℕ) (s : EntryState) → user_of R i ≡ Some t → entry_state R i ≡ s → (InUse ≡ s → ⊥) → (is_active R t ≡ false) × (state_when_over (commit_number R t) ≡ s)
over_of R t i s e f n = elim (cases_Bool (is_active R t)) [
  | inl y ↦ absurd (n (sym (cond-true _ _ _ y) ∙ sym (at_user R t i e) ∙ f))
  | inr g ↦ (g, sym (cond-false _ _ _ g) ∙ sym (at_user R t i e) ∙ f)
]

pub same_some : (c d : ℕ) → ◌≡◌ {A = Option ℕ} (Some c) (Some d) → c ≡ d
same_some c d e = cc

passed : (R : List Record) (t i control : ℕ) → user_of R i ≡ Some t → TakesEntry R i control → Passed R t control
passed R t i control u (takes_unused a) = absurd (not_used R t i u a.unused)
passed R t i control u (takes_rolled_back a) =
    let q = over_of R t i RolledBack u a.rolled_back (λ e. cc) in
    record { ended = q.0; low = λ c e. absurd (let x : ◌≡◌ {A = Option ℕ} None (Some c) = sym (rolled_state (commit_number R t) q.1) ∙ e in cc) }
passed R t i control u (takes_committed a) =
    let q = over_of R t i (Committed control) u a.committed (λ e. cc) in
    record { ended = q.0; low = λ c e. let s : control ≡ c = same_some control c (sym (over_state (commit_number R t) control q.1) ∙ e) in omega arith }

-- the control number rises, to at most each commit number whose entry stays
pub record Rises (R : List Record) (i control : ℕ) : Type 0 where
  pub more : control_number R ≤ control
  pub most : control ≤ commit_count R
  pub below : (t c j : ℕ) → entry_of R t ≡ Some j → is_forgotten R t ≡ false → commit_number R t ≡ Some c → control ≤ c

least_of_all : (R : List Record) (t c j control : ℕ) → TxnTable R → user_of R j ≡ Some t → commit_number R t ≡ Some c → entry_state R j ≡ Committed c
least_of_all R t c j control h u e = at_user R t j u ∙ cond-false _ _ _ (h.done t c e).0 ∙ ap state_when_over e

pub rises : (R : List Record) (i control : ℕ) → TxnTable R → TakesEntry R i control → Rises R i control
rises R i control h (takes_unused a) = record { more = omega (arith, a.control_stays); most = let c = h.control in omega (arith, a.control_stays); below = λ t c j e f g. let l = h.high t c g f in omega (arith, a.control_stays) }
rises R i control h (takes_rolled_back a) = record { more = omega (arith, a.control_stays); most = let c = h.control in omega (arith, a.control_stays); below = λ t c j e f g. let l = h.high t c g f in omega (arith, a.control_stays) }
rises R i control h (takes_committed a) = go (user_of R i) refl
  where
    go : (o : Option ℕ) → user_of R i ≡ o → Rises R i control
    go None e = absurd (let x : Unused ≡ Committed control = sym (ap (state_of_user R) e) ∙ a.committed in cc)
    go (Some u) e =
        let q = over_of R u i (Committed control) e a.committed (λ x. cc) in
        let n = over_state (commit_number R u) control q.1 in
        let l = h.last u i e in
        record {
          more = h.high u control n l.1;
          most = (h.done u control n).2;
          below = λ t c j f g k.
              let w = h.entered t (h.entry_begun t j f) in
              let same : w.0 ≡ j = same_some w.0 j (sym w.1 ∙ f) in
              a.least j c (subst (λ x. x < TXN_ENTRIES) same w.2) (least_of_all R t c j control h (h.user t j f g) k);
        }

begin_table : (R : List Record) (g : BeginRecord) → BeginAllowed R g → TxnTable R → TxnTable (Begin g ∷ R)
begin_table R g a h =
    let new : has_begun R g.txn ≡ false = not_yet R g.txn g.txn h a.number refl in
    let none : entry_of R g.txn ≡ None = none_entry R g.txn h new in
    let fresh : is_forgotten R g.txn ≡ false = not_forgotten R g.txn h new in
    let r = rises R g.entry g.control h a.entry in
    let other : (t : ℕ) → has_begun R t ≡ true → eqb g.txn t ≡ false = λ t b. ne_eqb g.txn t (λ e. true≢false (sym b ∙ ap (has_begun R) (sym e) ∙ new)) in
    record {
      most = λ t b. elim (or_cases (eqb g.txn t) (has_begun R t) b) [ inl y ↦ (let e : g.txn ≡ t = eqb-true _ _ y in let n : g.txn ≡ suc (txn_count R) = a.number in omega arith) | inr z ↦ (let m = h.most t z in omega arith) ];
      begun = λ t b. elim (or_cases (eqb g.txn t) (is_active R t) b) [ inl y ↦ or_left _ _ y | inr z ↦ or_right (eqb g.txn t) _ (h.begun t z) ];
      entered = λ t b. elim (cases_Bool (eqb g.txn t)) [
        | inl y ↦ (g.entry, cond-true _ _ _ y, taken_within a.entry)
        | inr n ↦ let w = h.entered t (rest t n b) in (w.0, cond-false _ _ _ n ∙ w.1, w.2)
      ];
      entry_begun = λ t i e. elim (cases_Bool (eqb g.txn t)) [ inl y ↦ or_left _ _ y | inr n ↦ or_right (eqb g.txn t) _ (h.entry_begun t i (sym (cond-false _ _ _ n) ∙ e)) ];
      forgotten_begun = λ t f. or_right (eqb g.txn t) _ (elim (or_cases (is_entry (entry_of R t) g.entry) (is_forgotten R t) f) [ inl y ↦ entry_some t y | inr z ↦ h.forgotten_begun t z ]);
      user = λ t i e f.
          let p = or_parts (is_entry (entry_of R t) g.entry) (is_forgotten R t) f in
          elim (cases_Bool (eqb g.txn t)) [
            | inl y ↦ let same : g.entry ≡ i = same_some g.entry i (sym (cond-true _ _ _ y) ∙ e) in cond-true _ _ _ (eq-eqb g.entry i same) ∙ ap Some (eqb-true g.txn t y)
            | inr n ↦ let was : entry_of R t ≡ Some i = sym (cond-false _ _ _ n) ∙ e in
                cond-false _ _ _ (ne_eqb g.entry i (λ x. true≢false (sym (eq-eqb i g.entry (sym x)) ∙ sym (ap (λ (o : Option ℕ). is_entry o g.entry) was) ∙ p.0))) ∙ h.user t i was p.1
          ];
      last = λ t i e. elim (cases_Bool (eqb g.entry i)) [
        | inl y ↦ let same : g.txn ≡ t = same_some g.txn t (sym (cond-true _ _ _ y) ∙ e) in
            subst (λ x. (cond (eqb g.txn x) (Some g.entry) (entry_of R x) ≡ Some i) × ((is_entry (entry_of R x) g.entry || is_forgotten R x) ≡ false)) same
            (cond-true _ _ _ (eq-eqb g.txn g.txn refl) ∙ ap Some (eqb-true g.entry i y), ap (λ (o : Option ℕ). is_entry o g.entry || is_forgotten R g.txn) none ∙ fresh)
        | inr n ↦
            let q = h.last t i (sym (cond-false _ _ _ n) ∙ e) in (
              cond-false _ _ _ (other t (h.entry_begun t i q.0)) ∙ q.0,
              ap (λ (o : Option ℕ). is_entry o g.entry || is_forgotten R t) q.0 ∙ ap (λ v. v || is_forgotten R t) (ne_eqb i g.entry (λ x. eqb-false g.entry i n (sym x))) ∙ q.1,
            )
      ];
      kept = λ t b. elim (cases_Bool (eqb g.txn t)) [
        | inl y ↦ subst (λ x. (is_entry (entry_of R x) g.entry || is_forgotten R x) ≡ false) (eqb-true g.txn t y) (ap (λ (o : Option ℕ). is_entry o g.entry || is_forgotten R g.txn) none ∙ fresh)
        | inr n ↦
            let on : is_active R t ≡ true = elim (or_cases (eqb g.txn t) (is_active R t) b) [ inl y ↦ absurd (true≢false (sym y ∙ n)) | inr z ↦ z ] in
            or_off (is_entry (entry_of R t) g.entry) (is_forgotten R t) (not_taken t on) (h.kept t on)
      ];
      fate = λ t b. elim (cases_Bool (eqb g.txn t)) [
        | inl y ↦ inl (or_left _ _ y)
        | inr n ↦ elim (h.fate t (rest t n b)) [ inl on ↦ inl (or_right (eqb g.txn t) _ on) | inr z ↦ inr z ]
      ];
      done = λ t c e. let q = h.done t c e in (or_off (eqb g.txn t) (is_active R t) (other t q.1) q.0, or_right (eqb g.txn t) _ q.1, q.2);
      low = λ t c e f. elim (cases_Bool (is_forgotten R t)) [
        | inl y ↦ le_trans (h.low t c e y) r.more
        | inr n ↦ (passed_by t n (elim (or_cases (is_entry (entry_of R t) g.entry) (is_forgotten R t) f) [ inl z ↦ z | inr z ↦ absurd (true≢false (sym z ∙ n)) ])).low c e
      ];
      high = λ t c e f.
          let p = or_parts (is_entry (entry_of R t) g.entry) (is_forgotten R t) f in
          let w = h.entered t (h.done t c e).1 in
          r.below t c w.0 w.1 p.1 e;
      control = r.most;
    }
  where
    rest : (t : ℕ) → eqb g.txn t ≡ false → (eqb g.txn t || has_begun R t) ≡ true → has_begun R t ≡ true
    rest t n b = elim (or_cases (eqb g.txn t) (has_begun R t) b) [ inl y ↦ absurd (true≢false (sym y ∙ n)) | inr z ↦ z ]

    or_off : (x y : Bool) → x ≡ false → y ≡ false → (x || y) ≡ false
    or_off x y p q = rw (p, q) refl

    taken_within : TakesEntry R g.entry g.control → g.entry < TXN_ENTRIES
    taken_within (takes_unused x) = x.within
    taken_within (takes_rolled_back x) = x.within
    taken_within (takes_committed x) = x.within

    entry_is : (o : Option ℕ) (i : ℕ) → is_entry o i ≡ true → o ≡ Some i
    entry_is None i e = absurd (true≢false (sym e))
    entry_is (Some j) i e = ap Some (eqb-true j i e)

    entry_some : (t : ℕ) → is_entry (entry_of R t) g.entry ≡ true → has_begun R t ≡ true
    entry_some t e = h.entry_begun t g.entry (entry_is (entry_of R t) g.entry e)

    passed_by : (t : ℕ) → is_forgotten R t ≡ false → is_entry (entry_of R t) g.entry ≡ true → Passed R t g.control
    passed_by t n e = passed R t g.entry g.control (h.user t g.entry (entry_is (entry_of R t) g.entry e) n) a.entry

    not_taken : (t : ℕ) → is_active R t ≡ true → is_entry (entry_of R t) g.entry ≡ false
    not_taken t on = elim (cases_Bool (is_entry (entry_of R t) g.entry)) [
      | inl y ↦ absurd (true≢false (sym on ∙ (passed_by t (h.kept t on) y).ended))
      | inr n ↦ n
    ]

-- a Commit, a rollback, a Move

commit_table : (R : List Record) (c : CommitRecord) → CommitAllowed R c → TxnTable R → TxnTable (Commit c ∷ R)
commit_table R c a h = record {
  most = h.most;
  begun = λ t b. h.begun t (and_parts (not (eqb c.txn t)) (is_active R t) b).1;
  entered = h.entered;
  entry_begun = h.entry_begun;
  forgotten_begun = h.forgotten_begun;
  user = h.user;
  last = h.last;
  kept = λ t b. h.kept t (and_parts (not (eqb c.txn t)) (is_active R t) b).1;
  fate = λ t b. elim (cases_Bool (eqb c.txn t)) [
    | inl y ↦ inr (inl (suc (commit_count R), cond-true _ _ _ y))
    | inr n ↦ elim (h.fate t b) [ inl on ↦ inl (and_from _ _ (ap not n) on) | inr z ↦ elim z [ inl w ↦ inr (inl (w.0, cond-false _ _ _ n ∙ w.1)) | inr w ↦ inr (inr w) ] ]
  ];
  done = λ t k e. elim (cases_Bool (eqb c.txn t)) [
    | inl y ↦ (and_left _ _ (ap not y), subst (λ x. has_begun R x ≡ true) (eqb-true c.txn t y) (h.begun c.txn a.active), (let s : suc (commit_count R) ≡ k = same_some _ k (sym (cond-true _ _ _ y) ∙ e) in omega arith))
    | inr n ↦ let q = h.done t k (sym (cond-false _ _ _ n) ∙ e) in (and_right (not (eqb c.txn t)) _ q.0, q.1, (let l : k ≤ commit_count R = q.2 in omega arith))
  ];
  low = λ t k e f. elim (cases_Bool (eqb c.txn t)) [
    | inl y ↦ absurd (true≢false (sym f ∙ h.kept t (subst (λ x. is_active R x ≡ true) (eqb-true c.txn t y) a.active)))
    | inr n ↦ h.low t k (sym (cond-false _ _ _ n) ∙ e) f
  ];
  high = λ t k e f. elim (cases_Bool (eqb c.txn t)) [
    | inl y ↦ (let s : suc (commit_count R) ≡ k = same_some _ k (sym (cond-true _ _ _ y) ∙ e) in let l = h.control in omega arith)
    | inr n ↦ h.high t k (sym (cond-false _ _ _ n) ∙ e) f
  ];
  control = (let l = h.control in omega arith);
}

ended_table : (R : List Record) (x : EndedRecord) → TxnTable R → TxnTable (Ended x ∷ R)
ended_table R x h = record {
  most = h.most;
  begun = λ t b. h.begun t (and_parts (not (eqb x.txn t)) (is_active R t) b).1;
  entered = h.entered;
  entry_begun = h.entry_begun;
  forgotten_begun = h.forgotten_begun;
  user = h.user;
  last = h.last;
  kept = λ t b. h.kept t (and_parts (not (eqb x.txn t)) (is_active R t) b).1;
  fate = λ t b. elim (cases_Bool (eqb x.txn t)) [
    | inl y ↦ inr (inr (or_left _ _ y))
    | inr n ↦ elim (h.fate t b) [ inl on ↦ inl (and_from _ _ (ap not n) on) | inr z ↦ elim z [ inl w ↦ inr (inl w) | inr w ↦ inr (inr (or_right (eqb x.txn t) _ w)) ] ]
  ];
  done = λ t k e. let q = h.done t k e in (and_right (not (eqb x.txn t)) _ q.0, q.1, q.2);
  low = h.low;
  high = h.high;
  control = h.control;
}

move_table : (R : List Record) (m : _) → TxnTable R → TxnTable (Move m ∷ R)
move_table R m h = record {
  most = h.most;
  begun = h.begun;
  entered = h.entered;
  entry_begun = h.entry_begun;
  forgotten_begun = h.forgotten_begun;
  user = h.user;
  last = h.last;
  kept = h.kept;
  fate = h.fate;
  done = λ t k e. let q = h.done t k e in (q.0, q.1, (let l : k ≤ commit_count R = q.2 in omega arith));
  low = h.low;
  high = h.high;
  control = (let l = h.control in omega arith);
}

table_step : (sh : Shape) (R : List Record) (r : Record) → IsKindAllowed sh R r → TxnTable R → TxnTable (r ∷ R)
table_step sh R (Begin g) a h = begin_table R g a h
table_step sh R (Commit c) a h = commit_table R c a h
table_step sh R (Ended x) a h = ended_table R x h
table_step sh R (Move m) a h = move_table R m h
table_step sh R _ a h = record { most = h.most; begun = h.begun; entered = h.entered; entry_begun = h.entry_begun; forgotten_begun = h.forgotten_begun; user = h.user; last = h.last; kept = h.kept; fate = h.fate; done = h.done; low = h.low; high = h.high; control = h.control }

no_entry : (i t : ℕ) → ◌≡◌ {A = Option ℕ} None (Some i) → (P : Type 0) → P
no_entry i t e P = absurd cc

pub txn_table : (sh : Shape) (R : List Record) → AreAllowed sh R → TxnTable R
txn_table sh [] h = record {
  most = λ t b. absurd (true≢false (sym b));
  begun = λ t b. absurd (true≢false (sym b));
  entered = λ t b. absurd (true≢false (sym b));
  entry_begun = λ t i e. no_entry i t e _;
  forgotten_begun = λ t b. absurd (true≢false (sym b));
  user = λ t i e f. no_entry i t e _;
  last = λ t i e. no_entry t i e _;
  kept = λ t b. absurd (true≢false (sym b));
  fate = λ t b. absurd (true≢false (sym b));
  done = λ t c e. no_entry c t e _;
  low = λ t c e f. no_entry c t e _;
  high = λ t c e f. no_entry c t e _;
  control = omega arith;
}
txn_table sh (r ∷ R) h = table_step sh R r h.1.kind (txn_table sh R h.0)

pub forgotten_have_passed : ForgottenHavePassed
forgotten_have_passed sh R t h f =
    let w = txn_table sh R h in
    let b = w.forgotten_begun t f in
    let off : is_active R t ≡ false = elim (cases_Bool (is_active R t)) [ inl y ↦ absurd (true≢false (sym f ∙ w.kept t y)) | inr n ↦ n ] in
    record {
      ended = and_from _ _ b (ap not off);
      fate = elim (w.fate t b) [ inl on ↦ absurd (true≢false (sym on ∙ off)) | inr z ↦ z ];
      low = λ c e. w.low t c e f;
    }
