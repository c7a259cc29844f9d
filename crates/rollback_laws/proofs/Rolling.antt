-- One transaction that is taken back.
use Rattle.std.proofs.Common.{◌≡◌, ℕ, zero, suc, true, false, cond, not, ◌&&◌, eqb, List, [], ◌∷◌, length, Option, Some, None, refl, sym, ◌∙◌, ap, subst, arith}
use Rattle.seg_words.specs.Types.{Shape}
use Rattle.redo_model.specs.Records.{Record, Back, Ended}
use Rattle.redo_model.specs.Lists.{same, more}
use Rattle.redo_model.specs.Model.{Step, Extends, txn_count, is_active, is_by, standing, newest_of, IsLawful}
use Rattle.redo_laws.proofs.steps.Held.{own, own_newest}
use Rattle.open_laws.specs.Backs.{own_steps}
use Rattle.open_laws.proofs.BacksLaw.{backs_take_one}
use Rattle.end_laws.specs.Types.{MayEnd, ended_of, back_of, backed_with, backed}
use Rattle.end_laws.proofs.Allowed.{backs_are_allowed, ends_are_allowed}
use Rattle.rollback_laws.specs.Closing.{backed_times, all_backed, rolled_back, AddsEnds, adds_none, adds_back, adds_ended, SameTables}

-- ---- what only takes back and ends

pub adds_more : (P Q R : List Record) → AddsEnds P Q → AddsEnds Q R → AddsEnds P R
adds_more P Q _ x adds_none = x
adds_more P Q (Back _ ∷ R) x (adds_back k y) = adds_back k (adds_more P Q R x y)
adds_more P Q (Ended _ ∷ R) x (adds_ended e y) = adds_ended e (adds_more P Q R x y)

pub adds_extend : (R Q : List Record) → AddsEnds R Q → Extends R Q
adds_extend R _ adds_none = same
adds_extend R (Back _ ∷ Q) (adds_back k y) = more (Back k) (adds_extend R Q y)
adds_extend R (Ended _ ∷ Q) (adds_ended e y) = more (Ended e) (adds_extend R Q y)

pub adds_same : (R Q : List Record) → AddsEnds R Q → SameTables R Q
adds_same R _ adds_none = record { commits = refl; tables = λ o s n. refl }
adds_same R (Back _ ∷ Q) (adds_back k y) = let h = adds_same R Q y in record { commits = h.commits; tables = h.tables }
adds_same R (Ended _ ∷ Q) (adds_ended e y) = let h = adds_same R Q y in record { commits = h.commits; tables = h.tables }

-- ---- one step

pub backed_some : (R : List Record) (t : ℕ) (st : Step) → newest_of (standing R) t ≡ Some st → backed R t ≡ Back (back_of R t st) ∷ R
backed_some R t st e = ap (backed_with R t) e

pub backed_none : (R : List Record) (t : ℕ) → newest_of (standing R) t ≡ None → backed R t ≡ R
backed_none R t e = ap (backed_with R t) e

pub backed_active : (R : List Record) (t u : ℕ) → is_active (backed R t) u ≡ is_active R u
backed_active R t u = go (newest_of (standing R) t)
  where
    go : (o : Option Step) → is_active (backed_with R t o) u ≡ is_active R u
    go None = refl
    go (Some st) = refl

pub backed_count : (R : List Record) (t : ℕ) → txn_count (backed R t) ≡ txn_count R
backed_count R t = go (newest_of (standing R) t)
  where
    go : (o : Option Step) → txn_count (backed_with R t o) ≡ txn_count R
    go None = refl
    go (Some st) = refl

pub backed_adds : (R : List Record) (t : ℕ) → AddsEnds R (backed R t)
backed_adds R t = go (newest_of (standing R) t)
  where
    go : (o : Option Step) → AddsEnds R (backed_with R t o)
    go None = adds_none
    go (Some st) = adds_back (back_of R t st) adds_none

none_own : (ss : List Step) (t : ℕ) → newest_of ss t ≡ None → own t ss ≡ []
none_own [] t e = refl
none_own (x ∷ ss) t e =
    (elim (is_by x.by t) as (λ v. cond v (Some x) (newest_of ss t) ≡ None → cond v (x ∷ own t ss) (own t ss) ≡ []) [
      | true ↦ λ f. absurd (let y : ◌≡◌ {A = Option Step} (Some x) None = f in cc)
      | false ↦ λ f. none_own ss t f
    ]) e

pub none_left : (R : List Record) (t : ℕ) → newest_of (standing R) t ≡ None → length (own_steps R t) ≡ 0
none_left R t e = ap (λ (us : List Step). length us) (none_own (standing R) t e)

-- one step fewer is left
pub one_fewer : (sh : Shape) (R : List Record) (t : ℕ) (st : Step) → IsLawful sh R → is_active R t ≡ true → newest_of (standing R) t ≡ Some st → length (own_steps R t) ≡ suc (length (own_steps (backed R t) t))
one_fewer sh R t st h on e =
    let eq = backed_some R t st e in
    let next : IsLawful sh (Back (back_of R t st) ∷ R) = subst (IsLawful sh) eq (backs_are_allowed sh R t h on) in
    let takes = backs_take_one sh R (back_of R t st) next.allowed in
    ap (λ (us : List Step). length us) takes.own ∙ ap (λ (X : List Record). suc (length (own_steps X t))) (sym eq)

pub zero_none : (R : List Record) (t : ℕ) → length (own_steps R t) ≡ 0 → newest_of (standing R) t ≡ None
zero_none R t l = go (newest_of (standing R) t) refl
  where
    go : (o : Option Step) → newest_of (standing R) t ≡ o → o ≡ None
    go None e = refl
    go (Some st) e =
        let w = own_newest (standing R) t st e in
        let many : length (own_steps R t) ≡ suc (length w.0) = ap (λ (us : List Step). length us) w.1 in
        absurd (omega (arith, many, l))

-- ---- all steps

pub times_active : (n : ℕ) (R : List Record) (t u : ℕ) → is_active (backed_times n R t) u ≡ is_active R u
times_active zero R t u = refl
times_active (suc n) R t u = times_active n (backed R t) t u ∙ backed_active R t u

pub times_count : (n : ℕ) (R : List Record) (t : ℕ) → txn_count (backed_times n R t) ≡ txn_count R
times_count zero R t = refl
times_count (suc n) R t = times_count n (backed R t) t ∙ backed_count R t

times_adds : (n : ℕ) (R : List Record) (t : ℕ) → AddsEnds R (backed_times n R t)
times_adds zero R t = adds_none
times_adds (suc n) R t = adds_more R (backed R t) (backed_times n (backed R t) t) (backed_adds R t) (times_adds n (backed R t) t)

times_lawful : (sh : Shape) (n : ℕ) (R : List Record) (t : ℕ) → IsLawful sh R → is_active R t ≡ true → IsLawful sh (backed_times n R t)
times_lawful sh zero R t h on = h
times_lawful sh (suc n) R t h on = times_lawful sh n (backed R t) t (backs_are_allowed sh R t h on) (backed_active R t t ∙ on)

times_none : (sh : Shape) (n : ℕ) (R : List Record) (t : ℕ) → IsLawful sh R → is_active R t ≡ true → length (own_steps R t) ≡ n → newest_of (standing (backed_times n R t)) t ≡ None
times_none sh zero R t h on l = zero_none R t l
times_none sh (suc n) R t h on l = go (newest_of (standing R) t) refl (times_none sh n (backed R t) t (backs_are_allowed sh R t h on) (backed_active R t t ∙ on))
  where
    go : (o : Option Step) → newest_of (standing R) t ≡ o → (length (own_steps (backed R t) t) ≡ n → newest_of (standing (backed_times n (backed R t) t)) t ≡ None) → newest_of (standing (backed_times n (backed R t) t)) t ≡ None
    go None e rest = let none = none_left R t e in absurd (omega (arith, none, l))
    go (Some st) e rest = let fewer = one_fewer sh R t st h on e in rest (omega (arith, fewer, l))

-- ---- and its end

pub rolled_may_end : (sh : Shape) (R : List Record) (t : ℕ) → IsLawful sh R → is_active R t ≡ true → MayEnd (all_backed R t) t
rolled_may_end sh R t h on = let n = length (own_steps R t) in record { active = times_active n R t t ∙ on; none_left = times_none sh n R t h on refl }

pub rolled_lawful : (sh : Shape) (R : List Record) (t : ℕ) → IsLawful sh R → is_active R t ≡ true → IsLawful sh (rolled_back R t)
rolled_lawful sh R t h on = ends_are_allowed sh (all_backed R t) t (times_lawful sh (length (own_steps R t)) R t h on) (rolled_may_end sh R t h on)

pub rolled_active : (R : List Record) (t u : ℕ) → is_active (rolled_back R t) u ≡ (not (eqb t u) && is_active R u)
rolled_active R t u = ap (λ v. not (eqb t u) && v) (times_active (length (own_steps R t)) R t u)

pub rolled_count : (R : List Record) (t : ℕ) → txn_count (rolled_back R t) ≡ txn_count R
rolled_count R t = times_count (length (own_steps R t)) R t

pub rolled_adds : (R : List Record) (t : ℕ) → AddsEnds R (rolled_back R t)
rolled_adds R t = adds_ended (ended_of (all_backed R t) t) (times_adds (length (own_steps R t)) R t)

-- after one step the whole of it is what it was
pub rest_backed : (sh : Shape) (R : List Record) (t : ℕ) → IsLawful sh R → is_active R t ≡ true → all_backed (backed R t) t ≡ all_backed R t
rest_backed sh R t h on = go (newest_of (standing R) t) refl
  where
    go : (o : Option Step) → newest_of (standing R) t ≡ o → all_backed (backed R t) t ≡ all_backed R t
    go None e = ap (λ (X : List Record). all_backed X t) (backed_none R t e)
    go (Some st) e = sym (ap (λ n. backed_times n R t) (one_fewer sh R t st h on e))

-- and where none is left there is nothing to take back
pub all_whole : (R : List Record) (t : ℕ) → newest_of (standing R) t ≡ None → all_backed R t ≡ R
all_whole R t e = ap (λ n. backed_times n R t) (none_left R t e)
