-- Whose transactions and records are, and what a record of another session leaves.
use Rattle.std.proofs.Common.{◌≡◌, ◌≢◌, ℕ, suc, ◌≤◌, true, false, cond, ◌||◌, List, ◌∷◌, Option, Some, None, refl, sym, ◌∙◌, ap, arith, inl, inr, ne_eqb}
use Rattle.seg_words.proofs.Lemmas.{cond-false}
use Rattle.seg_words.specs.Types.{Shape}
use Rattle.redo_model.specs.Records.{Record, Begin, Insert, Update, Migrate, Return, Delete, Commit, Back, Ended}
use Rattle.redo_model.specs.Model.{effect_of, txn_count, is_backed, is_active, is_open, has_open, AreAllowed}
use Rattle.redo_laws.specs.Stays.{IsNotOf}
use Rattle.redo_laws.specs.Views.{IsOpen}
use Rattle.redo_laws.proofs.spread.Whole.{record_fits}
use Rattle.session_laws.specs.Sessions.{without_txn, own_of, txn_or_zero, own_number, backed_of, IsOf, is_same, own_rows, own_begins}
use Rattle.session_laws.specs.Owners.{SessionOf, is_one, OwnOf, SessionsOwnTransactions, RecordsHaveSessions, OthersLeaveSessions}
use Rattle.session_laws.proofs.Own.{Tidy, tidy, own_active, own_last, whose, none_opened}

-- a session and its transaction

own_is : (sh : Shape) (R : List Record) (w : ℕ) → AreAllowed sh R → OwnOf R w
own_is sh R w h =
    let d = tidy sh R h in
    record {
      active = λ t e. own_active R w t e;
      last = λ t e. own_last R w t e;
      least = λ t e. d.least w t e;
      most = λ t e. d.most w t e;
      from = λ t e. d.from w t e;
      to = λ t e. d.to w t e;
      opened = opened (own_of R w) refl;
      is_open = opens (own_of R w) refl;
    }
  where
    opened : (o : Option ℕ) → own_of R w ≡ o → has_open R w ≡ is_one (own_of R w)
    opened None e = none_opened sh R w h e ∙ sym (ap is_one e)
    opened (Some t) e = ap (is_open R) (own_last R w t e) ∙ own_active R w t e ∙ sym (ap is_one e)

    opens : (o : Option ℕ) → own_of R w ≡ o → IsOpen R (own_number R w)
    opens None e = inl (ap txn_or_zero e)
    opens (Some t) e = inr (ap (λ x. is_active R (txn_or_zero x)) e ∙ own_active R w t e)

pub sessions_own_transactions : SessionsOwnTransactions
sessions_own_transactions sh R h = record {
  each = λ w. own_is sh R w h;
  one = λ v w t e f. (tidy sh R h).one v w t e f;
  whose = λ t on. whose sh R t h on;
}

-- a record and its session

of_txn : (sh : Shape) (R : List Record) (t : ℕ) → AreAllowed sh R → is_active R t ≡ true → SessionOf R t
of_txn sh R t h on = whose sh R t h on

pub records_have_sessions : RecordsHaveSessions
records_have_sessions sh R (Begin g) h = record { session = g.session; from = h.1.kind.session_from; to = h.1.kind.session_to; of = refl }
records_have_sessions sh R (Insert x) h = let s = of_txn sh R x.txn h.0 ((record_fits sh R (Insert x) h).effect.live x.txn refl) in record { session = s.session; from = s.from; to = s.to; of = s.own }
records_have_sessions sh R (Update x) h = let s = of_txn sh R x.txn h.0 ((record_fits sh R (Update x) h).effect.live x.txn refl) in record { session = s.session; from = s.from; to = s.to; of = s.own }
records_have_sessions sh R (Migrate x) h = let s = of_txn sh R x.txn h.0 ((record_fits sh R (Migrate x) h).effect.live x.txn refl) in record { session = s.session; from = s.from; to = s.to; of = s.own }
records_have_sessions sh R (Return x) h = let s = of_txn sh R x.txn h.0 ((record_fits sh R (Return x) h).effect.live x.txn refl) in record { session = s.session; from = s.from; to = s.to; of = s.own }
records_have_sessions sh R (Delete x) h = let s = of_txn sh R x.txn h.0 ((record_fits sh R (Delete x) h).effect.live x.txn refl) in record { session = s.session; from = s.from; to = s.to; of = s.own }
records_have_sessions sh R (Commit c) h = let s = of_txn sh R c.txn h.0 h.1.kind.active in record { session = s.session; from = s.from; to = s.to; of = s.own }
records_have_sessions sh R (Back k) h = let s = of_txn sh R k.txn h.0 h.1.kind.active in record { session = s.session; from = s.from; to = s.to; of = s.own }
records_have_sessions sh R (Ended e) h = let s = of_txn sh R e.txn h.0 h.1.kind.active in record { session = s.session; from = s.from; to = s.to; of = s.own }
records_have_sessions sh R _ h = record { session = 1; from = omega arith; to = omega arith; of = tt }

-- what another session's record leaves

without_left : (u : ℕ) (o : Option ℕ) → (o ≡ Some u → ⊥) → without_txn u o ≡ o
without_left u None f = refl
without_left u (Some x) f = cond-false _ _ _ (ne_eqb u x (λ e. f (ap (λ (z : ℕ). Some z) (sym e))))

same_not : (u : ℕ) (o : Option ℕ) → (o ≡ Some u → ⊥) → is_same (Some u) o ≡ false
same_not u None f = refl
same_not u (Some x) f = ne_eqb u x (λ e. f (ap (λ (z : ℕ). Some z) (sym e)))

-- sessions v and w are two, each with what it has
abbrev Two : List Record → ℕ → ℕ → Type 0
Two R v w = Tidy (λ x. own_of R x) (txn_count R) × (v ≡ w → ⊥)

not_own : (R : List Record) (v w u : ℕ) → Two R v w → own_of R v ≡ Some u → own_of R w ≡ Some u → ⊥
not_own R v w u h e f = h.1 (h.0.one v w u e f)

not_number : (R : List Record) (v w u : ℕ) → Two R v w → own_of R v ≡ Some u → u ≢ own_number R w
not_number R v w u h e = go (own_of R w) refl
  where
    go : (o : Option ℕ) → own_of R w ≡ o → u ≡ own_number R w → ⊥
    go None g k = (let l : 1 ≤ u = h.0.least v u e in let z : u ≡ 0 = k ∙ ap txn_or_zero g in absurd (omega (arith, l, z)))
    go (Some t) g k = not_own R v w u h e (g ∙ ap (λ (x : ℕ). Some x) (sym (k ∙ ap txn_or_zero g)))

own_left : (R : List Record) (v w : ℕ) (r : Record) → Two R v w → IsOf R v r → own_of (r ∷ R) w ≡ own_of R w
own_left R v w (Begin g) h e = cond-false _ _ _ (ne_eqb g.session w (λ f. h.1 (sym e ∙ f)))
own_left R v w (Commit c) h e = without_left c.txn (own_of R w) (not_own R v w c.txn h e)
own_left R v w (Ended c) h e = without_left c.txn (own_of R w) (not_own R v w c.txn h e)
own_left R v w _ h e = refl

row_left : (R : List Record) (v w u : ℕ) → Two R v w → own_of R v ≡ Some u → cond (is_same (Some u) (own_of R w)) (suc (own_rows R w)) (own_rows R w) ≡ own_rows R w
row_left R v w u h e = cond-false _ _ _ (same_not u (own_of R w) (not_own R v w u h e))

rows_left : (R : List Record) (v w : ℕ) (r : Record) → Two R v w → IsOf R v r → own_rows (r ∷ R) w ≡ own_rows R w
rows_left R v w (Insert x) h e = row_left R v w x.txn h e
rows_left R v w (Update x) h e = row_left R v w x.txn h e
rows_left R v w (Migrate x) h e = row_left R v w x.txn h e
rows_left R v w (Return x) h e = row_left R v w x.txn h e
rows_left R v w (Delete x) h e = row_left R v w x.txn h e
rows_left R v w _ h e = refl

begins_left : (R : List Record) (v w : ℕ) (r : Record) → Two R v w → IsOf R v r → own_begins (r ∷ R) w ≡ own_begins R w
begins_left R v w (Begin g) h e = cond-false _ _ _ (ne_eqb g.session w (λ f. h.1 (sym e ∙ f)))
begins_left R v w _ h e = refl

-- what is taken back of a transaction that isn't the record's
backed_same : (R : List Record) (v w : ℕ) (r : Record) (o : Option ℕ) → own_of R w ≡ o → Two R v w → IsOf R v r → backed_of (r ∷ R) o ≡ backed_of R o
backed_same R v w r None g h e = refl
backed_same R v w (Back k) (Some t) g h e = ap (λ b. b || is_backed R t) (ne_eqb k.txn t (λ f. not_own R v w k.txn h e (g ∙ ap (λ (x : ℕ). Some x) (sym f))))
backed_same R v w r (Some t) g h e = refl

not_by : (R : List Record) (v w : ℕ) (r : Record) → Two R v w → IsOf R v r → IsNotOf (effect_of r) (own_number R w)
not_by R v w (Insert x) h e = not_number R v w x.txn h e
not_by R v w (Update x) h e = not_number R v w x.txn h e
not_by R v w (Migrate x) h e = not_number R v w x.txn h e
not_by R v w (Return x) h e = not_number R v w x.txn h e
not_by R v w (Delete x) h e = not_number R v w x.txn h e
not_by R v w (Back k) h e = not_number R v w k.txn h e
not_by R v w _ h e = tt

pub others_leave_sessions : OthersLeaveSessions
others_leave_sessions sh R r v w h two e =
    let d : Two R v w = (tidy sh R h, two) in
    let o = own_left R v w r d e in
    record {
      own = o;
      rows = rows_left R v w r d e;
      begins = begins_left R v w r d e;
      backed = ap (backed_of (r ∷ R)) o ∙ backed_same R v w r (own_of R w) refl d e;
      not_of = not_by R v w r d e;
    }
