-- Few are active, so a session can begin.
use Rattle.std.proofs.Common.{◌≡◌, ◌⊎◌, ℕ, zero, suc, ◌-◌, ◌≤◌, ◌<◌, Bool, true, false, eqb, List, [], ◌∷◌, Option, Some, None, refl, sym, ◌∙◌, ap, arith, inl, inr, eqb-true, true≢false}
use Rattle.seg_words.proofs.Lemmas.{cond-false, cases_Bool, eqb-false}
use Rattle.seg_words.specs.Types.{Shape, TXN_ENTRIES, MOST_SESSIONS}
use Rattle.redo_model.specs.Records.{Record, Table, Reuse, Begin}
use Rattle.redo_model.specs.Model.{txn_count, is_active, commit_number, control_number, user_of, EntryState, state_when_over, state_of_user, entry_state, is_unused, is_rolled_back, IsCalledFor, AreAllowed, is_whole}
use Rattle.redo_model.specs.AllowedTransactions.{Unused, InUse, Committed, RolledBack, takes_unused, takes_rolled_back, takes_committed}
use Rattle.redo_laws.proofs.lists.Bools.{clash}
use Rattle.redo_laws.proofs.numbers.TxnTable.{TxnTable, txn_table}
use Rattle.session_laws.specs.Sessions.{own_of}
use Rattle.session_laws.proofs.Own.{whose, same_some}
use Rattle.open_laws.specs.Begins.{count_below, EntryToTake, FewAreActive, SessionsCanBegin}
use Rattle.open_laws.proofs.Counting.{Least, NoneSo, search, count_all, count_few, Into, OneToOne}

-- sessions, numbered from 0

abbrev OfSession : List Record → ℕ → ℕ → Type 0
OfSession R t w = own_of R (suc w) ≡ Some t

into_session : (sh : Shape) (R : List Record) (t : ℕ) → AreAllowed sh R → is_active R t ≡ true → (w : ℕ) × (w < MOST_SESSIONS) × OfSession R t w
into_session sh R t h on =
    let s = whose sh R t h on in
    let same : s.session ≡ suc (s.session - 1) = (let l = s.from in omega (arith, l)) in
    (s.session - 1, (let l = s.from in let u = s.to in omega (arith, l, u)), ap (own_of R) (sym same) ∙ s.own)

few : (sh : Shape) (R : List Record) (n : ℕ) → AreAllowed sh R → count_below (is_active R) n ≤ MOST_SESSIONS
few sh R n h = count_few (is_active R) (OfSession R) MOST_SESSIONS n (λ t on. into_session sh R t h on) (λ s t w e f. same_some s t (sym e ∙ f))

-- entries in use

abbrev is_in_use : EntryState → Bool
is_in_use InUse = true
is_in_use _ = false

abbrev in_use : List Record → ℕ → Bool
in_use R i = is_in_use (entry_state R i)

over_not : (o : Option ℕ) → is_in_use (state_when_over o) ≡ false
over_not None = refl
over_not (Some c) = refl

-- the user of an entry in use
user_on : (R : List Record) (i : ℕ) → in_use R i ≡ true → (t : ℕ) × (user_of R i ≡ Some t) × (is_active R t ≡ true)
user_on R i y = go (user_of R i) refl
  where
    live : (t : ℕ) → user_of R i ≡ Some t → is_active R t ≡ true
    live t e = elim (cases_Bool (is_active R t)) [
      | inl on ↦ on
      | inr n ↦ absurd (clash (in_use R i) y (ap (λ o. is_in_use (state_of_user R o)) e ∙ ap is_in_use (cond-false _ _ _ n) ∙ over_not (commit_number R t)))
    ]

    go : (o : Option ℕ) → user_of R i ≡ o → (t : ℕ) × (user_of R i ≡ Some t) × (is_active R t ≡ true)
    go None e = absurd (clash (in_use R i) y (ap (λ o. is_in_use (state_of_user R o)) e))
    go (Some t) e = (t, e, live t e)

abbrev EntryOf : List Record → ℕ → ℕ → Type 0
EntryOf R i w = (t : ℕ) × (user_of R i ≡ Some t) × OfSession R t w

into_entry : (sh : Shape) (R : List Record) → AreAllowed sh R → Into (in_use R) (EntryOf R) MOST_SESSIONS
into_entry sh R h i y =
    let u = user_on R i y in
    let s = into_session sh R u.0 h u.2 in
    (s.0, s.1, (u.0, u.1, s.2))

one_entry : (R : List Record) → TxnTable R → OneToOne (EntryOf R)
one_entry R table i j w e f =
    let same : e.0 ≡ f.0 = same_some e.0 f.0 (sym e.2 ∙ f.2) in
    same_some i j (sym (table.last e.0 i e.1).0 ∙ (table.last e.0 j (f.1 ∙ ap (λ (x : ℕ). Some x) (sym same))).0)

abbrev not_in_use : List Record → ℕ → Bool
not_in_use R i = elim (in_use R i) [ true ↦ false | false ↦ true ]

not_of : (R : List Record) (i : ℕ) → not_in_use R i ≡ true → in_use R i ≡ false
not_of R i e = (elim (in_use R i) as (λ v. elim v as (λ _. Bool) [ true ↦ false | false ↦ true ] ≡ true → v ≡ false) [ true ↦ λ x. absurd (true≢false (sym x)) | false ↦ λ x. refl ]) e

is_of : (R : List Record) (i : ℕ) → not_in_use R i ≡ false → in_use R i ≡ true
is_of R i e = (elim (in_use R i) as (λ v. elim v as (λ _. Bool) [ true ↦ false | false ↦ true ] ≡ false → v ≡ true) [ true ↦ λ x. refl | false ↦ λ x. absurd (true≢false x) ]) e

-- an entry that isn't in use
spare : (sh : Shape) (R : List Record) → AreAllowed sh R → Least (not_in_use R) TXN_ENTRIES
spare sh R h = elim (search (not_in_use R) TXN_ENTRIES) [
  | inl y ↦ y
  | inr none ↦
      let all : count_below (in_use R) TXN_ENTRIES ≡ TXN_ENTRIES = count_all (in_use R) TXN_ENTRIES (λ j l. is_of R j (none j l)) in
      let most : count_below (in_use R) TXN_ENTRIES ≤ MOST_SESSIONS = count_few (in_use R) (EntryOf R) MOST_SESSIONS TXN_ENTRIES (into_entry sh R h) (one_entry R (txn_table sh R h)) in
      absurd (omega (arith, all, most))
]

-- the committed entry with the least number

record LeastCommitted (R : List Record) (n : ℕ) : Type 0 where
  at : ℕ
  number : ℕ
  below : at < n
  state : entry_state R at ≡ Committed number
  least : (j c : ℕ) → j < n → entry_state R j ≡ Committed c → number ≤ c

abbrev NoCommitted : List Record → ℕ → Type 0
NoCommitted R n = (j c : ℕ) → j < n → entry_state R j ≡ Committed c → ⊥

same_number : (c d : ℕ) → Committed c ≡ Committed d → c ≡ d
same_number c d e = cc

last_or : (j n : ℕ) → j < suc n → (j ≡ n) ⊎ (j < n)
last_or j n l = elim (cases_Bool (eqb j n)) [ inl y ↦ inl (eqb-true j n y) | inr z ↦ inr (less j n l (eqb-false j n z)) ]
  where
    less : (j n : ℕ) → j < suc n → (j ≡ n → ⊥) → j < n
    less j n l k = omega (arith, l, k)

-- with one more entry, which is committed with this number
one_more : (R : List Record) (n d : ℕ) → entry_state R n ≡ Committed d → LeastCommitted R n ⊎ NoCommitted R n → LeastCommitted R (suc n)
one_more R n d e (inr none) = record {
  at = n;
  number = d;
  below = omega arith;
  state = e;
  least = λ j c l f. elim (last_or j n l) [ inl q ↦ (let k = same_number d c (sym e ∙ ap (entry_state R) (sym q) ∙ f) in omega (arith, k)) | inr q ↦ absurd (none j c q f) ];
}
one_more R n d e (inl b) = elim (cases_Bool (eqb d b.number)) [
  | inl y ↦ record {
    at = b.at;
    number = b.number;
    below = (let l = b.below in omega (arith, l));
    state = b.state;
    least = λ j c l f. elim (last_or j n l) [
      | inl q ↦ (let k = same_number d c (sym e ∙ ap (entry_state R) (sym q) ∙ f) in let m = eqb-true d b.number y in omega (arith, k, m))
      | inr q ↦ b.least j c q f
    ];
  }
  | inr z ↦ lesser (eqb-false d b.number z) (order d b.number)
]
  where
    order : (m n : ℕ) → (m ≤ n) ⊎ (n ≤ m)
    order zero n = inl (omega arith)
    order (suc m) zero = inr (omega arith)
    order (suc m) (suc n) = elim (order m n) [ inl l ↦ inl (omega (arith, l)) | inr l ↦ inr (omega (arith, l)) ]

    lesser : (d ≡ b.number → ⊥) → (d ≤ b.number) ⊎ (b.number ≤ d) → LeastCommitted R (suc n)
    lesser ne (inl l) = record {
      at = n;
      number = d;
      below = omega arith;
      state = e;
      least = λ j c k f. elim (last_or j n k) [ inl q ↦ (let m = same_number d c (sym e ∙ ap (entry_state R) (sym q) ∙ f) in omega (arith, m)) | inr q ↦ (let m = b.least j c q f in omega (arith, l, m)) ];
    }
    lesser ne (inr l) = record {
      at = b.at;
      number = b.number;
      below = (let k = b.below in omega (arith, k));
      state = b.state;
      least = λ j c k f. elim (last_or j n k) [ inl q ↦ (let m = same_number d c (sym e ∙ ap (entry_state R) (sym q) ∙ f) in omega (arith, l, m)) | inr q ↦ b.least j c q f ];
    }

-- with one more entry, which isn't committed
none_more : (R : List Record) (n : ℕ) → ((c : ℕ) → entry_state R n ≡ Committed c → ⊥) → LeastCommitted R n ⊎ NoCommitted R n → LeastCommitted R (suc n) ⊎ NoCommitted R (suc n)
none_more R n not_it (inl b) = inl (record {
  at = b.at;
  number = b.number;
  below = (let l = b.below in omega (arith, l));
  state = b.state;
  least = λ j c l f. elim (last_or j n l) [ inl q ↦ absurd (not_it c (ap (entry_state R) (sym q) ∙ f)) | inr q ↦ b.least j c q f ];
})
none_more R n not_it (inr none) = inr (λ j c l f. elim (last_or j n l) [ inl q ↦ not_it c (ap (entry_state R) (sym q) ∙ f) | inr q ↦ none j c q f ])

with_entry : (R : List Record) (n : ℕ) (s : EntryState) → entry_state R n ≡ s → LeastCommitted R n ⊎ NoCommitted R n → LeastCommitted R (suc n) ⊎ NoCommitted R (suc n)
with_entry R n Unused e before = none_more R n (λ c f. absurd (let x : Unused ≡ Committed c = sym e ∙ f in cc)) before
with_entry R n InUse e before = none_more R n (λ c f. absurd (let x : InUse ≡ Committed c = sym e ∙ f in cc)) before
with_entry R n (Committed d) e before = inl (one_more R n d e before)
with_entry R n RolledBack e before = none_more R n (λ c f. absurd (let x : RolledBack ≡ Committed c = sym e ∙ f in cc)) before

least_committed : (R : List Record) (n : ℕ) → LeastCommitted R n ⊎ NoCommitted R n
least_committed R zero = inr (λ j c l f. absurd (omega (arith, l)))
least_committed R (suc n) = with_entry R n (entry_state R n) refl (least_committed R n)

-- the entry that a Begin takes

state_unused : (s : EntryState) → is_unused s ≡ true → s ≡ Unused
state_unused Unused e = refl
state_unused InUse e = absurd (true≢false (sym e))
state_unused (Committed c) e = absurd (true≢false (sym e))
state_unused RolledBack e = absurd (true≢false (sym e))

state_rolled_back : (s : EntryState) → is_rolled_back s ≡ true → s ≡ RolledBack
state_rolled_back Unused e = absurd (true≢false (sym e))
state_rolled_back InUse e = absurd (true≢false (sym e))
state_rolled_back (Committed c) e = absurd (true≢false (sym e))
state_rolled_back RolledBack e = refl

state_else : (s : EntryState) → is_unused s ≡ false → is_rolled_back s ≡ false → is_in_use s ≡ false → (c : ℕ) × (s ≡ Committed c)
state_else Unused a b d = absurd (true≢false a)
state_else InUse a b d = absurd (true≢false d)
state_else (Committed c) a b d = (c, refl)
state_else RolledBack a b d = absurd (true≢false b)

committed_entry : (sh : Shape) (R : List Record) → AreAllowed sh R → NoneSo (λ j. is_unused (entry_state R j)) TXN_ENTRIES → NoneSo (λ j. is_rolled_back (entry_state R j)) TXN_ENTRIES → EntryToTake R
committed_entry sh R h none_unused none_back = elim (least_committed R TXN_ENTRIES) [
  | inl b ↦ record { entry = b.at; control = b.number; takes = takes_committed (record { within = b.below; no_unused = none_unused; no_rolled_back = none_back; committed = b.state; least = b.least }) }
  | inr none ↦
      let s = spare sh R h in
      let c = state_else (entry_state R s.at) (none_unused s.at s.below) (none_back s.at s.below) (not_of R s.at s.is_so) in
      absurd (none s.at c.0 s.below c.1)
]

pub entry_to_take : (sh : Shape) (R : List Record) → AreAllowed sh R → EntryToTake R
entry_to_take sh R h = elim (search (λ j. is_unused (entry_state R j)) TXN_ENTRIES) [
  | inl u ↦ record { entry = u.at; control = control_number R; takes = takes_unused (record { within = u.below; unused = state_unused (entry_state R u.at) u.is_so; least = u.least; control_stays = refl }) }
  | inr none ↦ elim (search (λ j. is_rolled_back (entry_state R j)) TXN_ENTRIES) [
    | inl u ↦ record { entry = u.at; control = control_number R; takes = takes_rolled_back (record { within = u.below; no_unused = none; rolled_back = state_rolled_back (entry_state R u.at) u.is_so; least = u.least; control_stays = refl }) }
    | inr none_back ↦ committed_entry sh R h none none_back
  ]
]

pub few_are_active : FewAreActive
few_are_active sh R h = record { few = few sh R (suc (txn_count R)) h; take = entry_to_take sh R h }

pub called_begin : (R : List Record) (g : _) → is_whole R ≡ true → IsCalledFor R (Begin g)
called_begin [] g w = tt
called_begin (Table t ∷ R) g w = absurd (true≢false (sym w))
called_begin (Reuse q ∷ R) g w = absurd (true≢false (sym w))
called_begin (_ ∷ R) g w = tt

pub sessions_can_begin : SessionsCanBegin
sessions_can_begin sh R n h from to none =
    let e = entry_to_take sh R h.allowed in
    record {
      begin = record { session = n; txn = suc (txn_count R); entry = e.entry; control = e.control };
      session = refl;
      allowed = record { called_for = called_begin R _ h.whole; kind = record { number = refl; session_from = from; session_to = to; none_open = none; entry = e.takes } };
    }
