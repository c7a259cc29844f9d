-- What the transaction table tells of an image's writer is whether its maker counts, or that this isn't known.
use Rattle.std.proofs.Common.{◌≡◌, ◌⊎◌, ℕ, ◌≤◌, List, Bool, true, false, cond, not, eqb, leb, ltb, nat_le, Option, Some, None, refl, sym, ◌∙◌, ap, subst, arith, inl, inr, true≢false, eqb-true, eq-eqb, ne_eqb, leb-true, leb-false, lt-ltb, ltb-true}
use Rattle.seg_words.proofs.Lemmas.{cases_Bool, and_from, and_left, and_right, or_left}
use Rattle.seg_words.specs.Types.{Shape, Writer, By, At}
use Rattle.redo_model.specs.Records.{Record}
use Rattle.redo_model.specs.Model.{is_active, has_begun, commit_number, has_rolled_back, is_forgotten, control_number, counts, AreAllowed}
use Rattle.redo_laws.specs.Writers.{TxnTells}
use Rattle.redo_laws.proofs.numbers.TxnTable.{txn_table}
use Rattle.txn_block.specs.declared.entry.State.TheVariants.{Forgotten}
use Rattle.txn_block.specs.Types.{state_of_outcome, TxnTable}
use Rattle.version_laws.specs.Types.{HoldsTable, outcome_of, outcome_when_over, state_known, state_of, is_unknown}
use Rattle.version_laws.proofs.SlotLaw.{begun_from_one}
use Rattle.version_laws.proofs.TableLaw.{tables_tell}
use Rattle.version_read.specs.declared.version.Tells.{Tells}
use Rattle.version_read.specs.declared.version.Tells.TheVariants.{Counts, Passes, Unknown}
use Rattle.version_read.specs.Looking.{counts_at, by_state, is_own, tells_by, tells}
use Rattle.version_read.specs.Walking.{txn_or_none}
use Rattle.txn_block.specs.declared.entry.Outcome.TheVariants as outcome

-- what is told of a writer, of which it is known whether it counts
abbrev pub IsTold : List Record → ℕ → ℕ → Bool → Writer → Tells → Type 0
IsTold R s t c w Counts = (is_unknown R s t w ≡ false) × (c ≡ true)
IsTold R s t c w Passes = (is_unknown R s t w ≡ false) × (c ≡ false)
IsTold R s t c w (Unknown u) = (w ≡ By u) × (is_unknown R s t w ≡ true)

number_tells : (R : List Record) (s t n : ℕ) (c : Bool) (w : Writer) → is_unknown R s t w ≡ false → c ≡ leb n s → IsTold R s t c w (counts_at n s)
number_tells R s t n c w k e = (elim (leb n s) as (λ v. leb n s ≡ v → IsTold R s t c w (cond v Counts Passes)) [ true ↦ λ y. (k, e ∙ y) | false ↦ λ y. (k, e ∙ y) ]) refl

not_above : (R : List Record) (s : ℕ) → control_number R ≤ s → ltb s (control_number R) ≡ false
not_above R s l = elim (cases_Bool (ltb s (control_number R))) [ inl y ↦ absurd (let m = ltb-true s (control_number R) y in omega (arith, l, m)) | inr f ↦ f ]

state_tells : (R : List Record) (s t u : ℕ) → (has_begun R u ≡ true → (is_active R u ≡ true) ⊎ (((c : ℕ) × (commit_number R u ≡ Some c)) ⊎ (has_rolled_back R u ≡ true))) → has_begun R u ≡ true → TxnTells R s t u → eqb u t ≡ false
    → IsTold R s t (counts R s t (By u)) (By u) (by_state (control_number R) u s (state_known R u))
state_tells R s t u fate b h other =
    (elim (is_forgotten R u) as (λ v. is_forgotten R u ≡ v → IsTold R s t (counts R s t (By u)) (By u) (by_state (control_number R) u s (cond v Forgotten (state_of_outcome (outcome_of R u))))) [
      | true ↦ λ f. forgotten f
      | false ↦ λ f. known (and_right (not (eqb u t)) _ (and_left (is_forgotten R u) _ f))
    ]) refl
  where
    forgotten : is_forgotten R u ≡ true → IsTold R s t (counts R s t (By u)) (By u) (cond (nat_le (control_number R) s) Counts (Unknown u))
    forgotten f = (elim (leb (control_number R) s) as (λ v. leb (control_number R) s ≡ v → IsTold R s t (counts R s t (By u)) (By u) (cond v Counts (Unknown u))) [
      | true ↦ λ y. let l = leb-true (control_number R) s y in (and_right (not (eqb u t)) _ (and_right (is_forgotten R u) _ (not_above R s l)), h.forgotten f l)
      | false ↦ λ y. (refl, and_from (not (eqb u t)) _ (ap not other) (and_from (is_forgotten R u) _ f (lt-ltb s (control_number R) (leb-false (control_number R) s y))))
    ]) refl

    over : (o : Option ℕ) → is_unknown R s t (By u) ≡ false → commit_number R u ≡ o → is_active R u ≡ false → IsTold R s t (counts R s t (By u)) (By u) (by_state (control_number R) u s (state_of_outcome (outcome_when_over o)))
    over (Some c) k e n = number_tells R s t c (counts R s t (By u)) (By u) k (h.committed c e)
    over None k e n = elim (fate b) [
      | inl on ↦ absurd (true≢false (sym on ∙ n))
      | inr z ↦ elim z [
        | inl c ↦ absurd (let x : ◌≡◌ {A = Option ℕ} None (Some c.0) = sym e ∙ c.1 in cc)
        | inr r ↦ absurd (true≢false (sym r ∙ h.not_back))
      ]
    ]

    known : is_unknown R s t (By u) ≡ false → IsTold R s t (counts R s t (By u)) (By u) (by_state (control_number R) u s (state_of_outcome (outcome_of R u)))
    known k = (elim (is_active R u) as (λ v. is_active R u ≡ v → IsTold R s t (counts R s t (By u)) (By u) (by_state (control_number R) u s (state_of_outcome (cond v outcome.Active (outcome_when_over (commit_number R u)))))) [
      | true ↦ λ on. (k, h.active on ∙ other)
      | false ↦ λ n. over (commit_number R u) k refl n
    ]) refl

not_own : (sh : Shape) (R : List Record) (own : Option ℕ) (u : ℕ) → AreAllowed sh R → has_begun R u ≡ true → is_own own u ≡ false → eqb u (txn_or_none own) ≡ false
not_own sh R None u a b e = ne_eqb u 0 (λ z. let l = begun_from_one sh R u a b in absurd (omega (arith, l, z)))
not_own sh R (Some t) u a b e = ne_eqb u t (λ z. true≢false (sym (eq-eqb t u (sym z)) ∙ e))

own_told : (R : List Record) (s : ℕ) (own : Option ℕ) (u : ℕ) → is_own own u ≡ true → IsTold R s (txn_or_none own) (counts R s (txn_or_none own) (By u)) (By u) Counts
own_told R s None u e = absurd (true≢false (sym e))
own_told R s (Some t) u e = let q = eq-eqb u t (sym (eqb-true t u e)) in (and_left (not (eqb u t)) _ (ap not q), or_left (eqb u t) _ q)

pub writer_tells : (sh : Shape) (R : List Record) (p : TxnTable) (s : ℕ) (own : Option ℕ) (w v : Writer) → AreAllowed sh R → HoldsTable R p
    → ((c : ℕ) → w ≡ At c → counts R s (txn_or_none own) v ≡ leb c s) → ((u : ℕ) → w ≡ By u → v ≡ By u) → ((u : ℕ) → v ≡ By u → TxnTells R s (txn_or_none own) u) → ((u : ℕ) → v ≡ By u → has_begun R u ≡ true)
    → IsTold R s (txn_or_none own) (counts R s (txn_or_none own) v) w (tells p s own w)
writer_tells sh R p s own (At c) v a h at by txn begun = number_tells R s (txn_or_none own) c _ (At c) refl (at c refl)
writer_tells sh R p s own (By u) v a h at by txn begun =
    subst (λ x. IsTold R s (txn_or_none own) (counts R s (txn_or_none own) x) (By u) (tells_by p s own u)) (sym (by u refl))
    ((elim (is_own own u) as (λ z. is_own own u ≡ z → IsTold R s (txn_or_none own) (counts R s (txn_or_none own) (By u)) (By u) (cond z Counts (by_state p.control u s (state_of p u)))) [
      | true ↦ λ y. own_told R s own u y
      | false ↦ λ n. let b = begun u (by u refl) in
          subst (λ st. IsTold R s (txn_or_none own) (counts R s (txn_or_none own) (By u)) (By u) (by_state p.control u s st)) (sym ((tables_tell sh R p a h).state u b))
          (subst (λ k. IsTold R s (txn_or_none own) (counts R s (txn_or_none own) (By u)) (By u) (by_state k u s (state_known R u))) (sym h.control)
          (state_tells R s (txn_or_none own) u ((txn_table sh R a).fate u) b (txn u (by u refl)) (not_own sh R own u a b n)))
    ]) refl)
