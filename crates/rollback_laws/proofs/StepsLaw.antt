-- Steps of an opening lead to the same list.
use Rattle.std.proofs.Common.{◌≡◌, ℕ, zero, suc, ◌<◌, ◌≤◌, Bool, true, false, cond, not, ◌&&◌, eqb, List, ◌∷◌, refl, sym, ◌∙◌, ap, ap₂, subst, arith, inl, inr, eqb-true, ne_eqb, eq-eqb}
use Rattle.seg_words.proofs.Lemmas.{cond-true, cond-false, cases_Bool, eqb-false}
use Rattle.seg_words.specs.Types.{Shape}
use Rattle.redo_model.specs.Records.{Record, Ended}
use Rattle.redo_model.specs.Model.{txn_count, is_active, IsLawful}
use Rattle.redo_laws.proofs.numbers.TxnTable.{TxnTable, txn_table}
use Rattle.open_laws.specs.Begins.{count_below}
use Rattle.end_laws.specs.Types.{ended_of, backed}
use Rattle.rollback_laws.proofs.Counts.{one_less}
use Rattle.rollback_laws.specs.Closing.{rolled_back, closed_below, closed, IsFirst, ClosedStay, StepsClose, RollbacksClose}
use Rattle.rollback_laws.proofs.Rolling.{backed_active, backed_count, rolled_active, rolled_count, rolled_lawful, one_fewer, zero_none, rest_backed, all_whole, backed_adds, rolled_adds, rolled_may_end, adds_extend}

-- two lists that are the same below t, and in which the same transactions from t on are active, are the same below each n
same_from : (Q R : List Record) (t n : ℕ) → ((m : ℕ) → t ≤ m → is_active Q m ≡ is_active R m) → closed_below Q t ≡ closed_below R t → t ≤ n → closed_below Q n ≡ closed_below R n
same_from Q R t zero h e l = subst (λ z. closed_below Q z ≡ closed_below R z) (let z : t ≡ 0 = omega (arith, l) in z) e
same_from Q R t (suc n) h e l = elim (cases_Bool (eqb t (suc n))) [
  | inl y ↦ subst (λ z. closed_below Q z ≡ closed_below R z) (eqb-true t (suc n) y) e
  | inr f ↦ let k : t ≤ n = below_last t n l (eqb-false t (suc n) f) in ap₂ (λ (b : Bool) (X : List Record). cond b (rolled_back X n) X) (h n k) (same_from Q R t n h e k)
]
  where
    below_last : (t n : ℕ) → t ≤ suc n → (t ≡ suc n → ⊥) → t ≤ n
    below_last t n l k = omega (arith, l, k)

-- where none below n is active, none is taken back
pub stays_below : (R : List Record) (n : ℕ) → ((u : ℕ) → u < n → is_active R u ≡ false) → closed_below R n ≡ R
stays_below R zero h = refl
stays_below R (suc n) h = cond-false _ _ _ (h n (omega arith)) ∙ stays_below R n (λ u l. h u (omega (arith, l)))

pub closed_stay : ClosedStay
closed_stay R h = stays_below R (suc (txn_count R)) (λ u l. h u)

-- the least one that is active is the first
first_closed : (R : List Record) (t : ℕ) → IsFirst R t → closed_below R (suc t) ≡ rolled_back R t
first_closed R t f = cond-true _ _ _ f.active ∙ ap (λ (X : List Record). rolled_back X t) (stays_below R t f.least)

pub has_begun_by : (sh : Shape) (R : List Record) (t : ℕ) → IsLawful sh R → is_active R t ≡ true → t ≤ txn_count R
has_begun_by sh R t h on = let table : TxnTable R = txn_table sh R h.allowed in table.most t (table.begun t on)

same_closed : (Q R : List Record) (t : ℕ) → txn_count Q ≡ txn_count R → ((m : ℕ) → suc t ≤ m → is_active Q m ≡ is_active R m) → closed_below Q (suc t) ≡ closed_below R (suc t) → t ≤ txn_count R → closed Q ≡ closed R
same_closed Q R t count h e l = ap (λ n. closed_below Q (suc n)) count ∙ same_from Q R (suc t) (suc (txn_count R)) h e (omega (arith, l))

-- ---- a step

first_stays : (R : List Record) (t : ℕ) → IsFirst R t → IsFirst (backed R t) t
first_stays R t f = record { active = backed_active R t t ∙ f.active; least = λ u l. backed_active R t u ∙ f.least u l }

pub steps_close : StepsClose
steps_close sh R t h f =
    let next = first_stays R t f in
    let rest = rest_backed sh R t h f.active in
    record {
      extends = adds_extend R (backed R t) (backed_adds R t);
      back = same_closed (backed R t) R t (backed_count R t) (λ m l. backed_active R t m) (first_closed (backed R t) t next ∙ ap (λ (X : List Record). Ended (ended_of X t) ∷ X) rest ∙ sym (first_closed R t f)) (has_begun_by sh R t h f.active);
      still_first = next;
      rest = rest;
      fewer = λ st e. one_fewer sh R t st h f.active e;
      none_left = zero_none R t;
      whole = all_whole R t;
    }

-- ---- a whole rollback

pub and_off : (b : Bool) → (b && false) ≡ false
and_off true = refl
and_off false = refl

pub own_ended : (R : List Record) (t : ℕ) → is_active (rolled_back R t) t ≡ false
own_ended R t = rolled_active R t t ∙ ap (λ v. not v && is_active R t) (eq-eqb t t refl)

pub others_stay : (R : List Record) (t u : ℕ) → (u ≡ t → ⊥) → is_active (rolled_back R t) u ≡ is_active R u
others_stay R t u ne = rolled_active R t u ∙ ap (λ v. not v && is_active R u) (ne_eqb t u (λ e. ne (sym e)))

none_until : (R : List Record) (t : ℕ) → IsFirst R t → (u : ℕ) → u < suc t → is_active (rolled_back R t) u ≡ false
none_until R t f u l = elim (cases_Bool (eqb u t)) [
  | inl y ↦ subst (λ z. is_active (rolled_back R t) z ≡ false) (sym (eqb-true u t y)) (own_ended R t)
  | inr n ↦ rolled_active R t u ∙ ap (λ v. not (eqb t u) && v) (f.least u (before u t l (eqb-false u t n))) ∙ and_off (not (eqb t u))
]
  where
    before : (u t : ℕ) → u < suc t → (u ≡ t → ⊥) → u < t
    before u t l k = omega (arith, l, k)

pub rollbacks_close : RollbacksClose
rollbacks_close sh R t h f = record {
  may_end = rolled_may_end sh R t h f.active;
  lawful = rolled_lawful sh R t h f.active;
  extends = adds_extend R (rolled_back R t) (rolled_adds R t);
  closes = same_closed (rolled_back R t) R t (rolled_count R t) (λ m l. others_stay R t m (above t m l))
      (stays_below (rolled_back R t) (suc t) (none_until R t f) ∙ sym (first_closed R t f)) (has_begun_by sh R t h f.active);
  own = own_ended R t;
  others = others_stay R t;
  fewer = sym (ap (λ n. suc (count_below (is_active (rolled_back R t)) (suc n))) (rolled_count R t)
      ∙ one_less (is_active R) (is_active (rolled_back R t)) t (suc (txn_count R)) (let l = has_begun_by sh R t h f.active in omega (arith, l)) f.active (own_ended R t) (others_stay R t));
}
  where
    above : (t m : ℕ) → suc t ≤ m → m ≡ t → ⊥
    above t m l e = omega (arith, l, e)
