-- The least number with a property, and the least free extent.
use Rattle.std.proofs.Common.{◌≡◌, ℕ, zero, suc, ◌+◌, ◌*◌, ◌<◌, ◌≤◌, Bool, true, false, not, eqb, List, Option, Some, None, refl, sym, ◌∙◌, subst, arith, inl, inr, eqb-true, true≢false, leb-true}
use Rattle.seg_words.proofs.Lemmas.{cond-true, cond-false, cases_Bool, and_parts, eqb-false}
use Rattle.seg_words.specs.Types.{Shape, first_block, is_extent, is_shape, MOST_TABLES}
use Rattle.redo_model.specs.Records.{Record}
use Rattle.redo_model.specs.Model.{is_taken, is_free_extent, IsLeastFree}
use Rattle.redo_laws.proofs.lists.Bools.{off}
use Rattle.redo_laws.proofs.numbers.Bounds.{limits}
use Rattle.mark_laws.specs.Movements.{least_from, least_free}

pub none_not_some : {A : Type 0} (x : A) → ◌≡◌ {A = Option A} None (Some x) → ⊥
none_not_some x e = cc

pub some_same : {A : Type 0} (x y : A) → ◌≡◌ {A = Option A} (Some x) (Some y) → x ≡ y
some_same x y e = cc

record LeastFrom (p : ℕ → Bool) (x n y : ℕ) : Type 0 where
  from : x ≤ y
  below : y < x + n
  holds : p y ≡ true
  least : (z : ℕ) → x ≤ z → z < y → p z ≡ false

least_is : (p : ℕ → Bool) (x n y : ℕ) → least_from p x n ≡ Some y → LeastFrom p x n y
least_is p x zero y h = absurd (none_not_some y h)
least_is p x (suc n) y h = elim (cases_Bool (p x)) [
  | inl t ↦
      let same : x ≡ y = some_same x y (sym (cond-true _ _ _ t) ∙ h) in
      record { from = omega (arith, same); below = omega (arith, same); holds = subst (λ z. p z ≡ true) same t; least = λ z l u. absurd (omega (arith, same, l, u)) }
  | inr f ↦
      let r = least_is p (suc x) n y (sym (cond-false _ _ _ f) ∙ h) in
      let a = r.from in
      let b = r.below in
      record {
        from = omega (arith, a);
        below = omega (arith, b);
        holds = r.holds;
        least = λ z l u. elim (cases_Bool (eqb x z)) [
          | inl e ↦ subst (λ w. p w ≡ false) (eqb-true x z e) f
          | inr e ↦ (let ne : x ≡ z → ⊥ = eqb-false x z e in r.least z (omega (arith, ne, l)) u)
        ];
      }
]

least_none : (p : ℕ → Bool) (x n z : ℕ) → least_from p x n ≡ None → x ≤ z → z < x + n → p z ≡ false
least_none p x zero z h l u = absurd (omega (arith, l, u))
least_none p x (suc n) z h l u = elim (cases_Bool (p x)) [
  | inl t ↦ absurd (none_not_some x (sym h ∙ cond-true _ _ _ t))
  | inr f ↦ elim (cases_Bool (eqb x z)) [
    | inl e ↦ subst (λ w. p w ≡ false) (eqb-true x z e) f
    | inr e ↦ (let ne : x ≡ z → ⊥ = eqb-false x z e in least_none p (suc x) n z (sym (cond-false _ _ _ f) ∙ h) (omega (arith, ne, l)) (omega (arith, u)))
  ]
]

least_found : (p : ℕ → Bool) (x n y : ℕ) → x ≤ y → y < x + n → p y ≡ true → ((z : ℕ) → x ≤ z → z < y → p z ≡ false) → least_from p x n ≡ Some y
least_found p x zero y l u t h = absurd (omega (arith, l, u))
least_found p x (suc n) y l u t h = elim (cases_Bool (eqb x y)) [
  | inl e ↦ (let same : x ≡ y = eqb-true x y e in cond-true _ _ _ (subst (λ w. p w ≡ true) (sym same) t) ∙ subst (λ w. ◌≡◌ {A = Option ℕ} (Some x) (Some w)) same refl)
  | inr e ↦
      let ne : x ≡ y → ⊥ = eqb-false x y e in
      let lt : x < y = omega (arith, ne, l) in
      cond-false _ _ _ (h x (omega arith) lt) ∙ least_found p (suc x) n y (omega (arith, lt)) (omega (arith, u)) t (λ z a b. h z (omega (arith, a)) b)
]

least_empty : (p : ℕ → Bool) (x n : ℕ) → ((z : ℕ) → p z ≡ false) → least_from p x n ≡ None
least_empty p x zero h = refl
least_empty p x (suc n) h = cond-false _ _ _ (h x) ∙ least_empty p (suc x) n h

-- extents

grows : (x n : ℕ) → 1 ≤ n → x ≤ x * n
grows x zero l = absurd (omega (arith, l))
grows x (suc n) l = omega arith

-- a free extent has a number below the count of blocks
free_below : (sh : Shape) (R : List Record) (x : ℕ) → is_shape sh ≡ true → is_free_extent sh R x ≡ true → x < sh.blocks
free_below sh R x s h =
    let whole = leb-true (first_block sh x + sh.extent) sh.blocks (and_parts (is_extent sh x) (not (is_taken R MOST_TABLES x)) h).0 in
    let from = (limits sh s).extent_from in
    let up = grows x sh.extent (omega (arith, from)) in
    omega (arith, whole, from, up)

pub least_free_is : (sh : Shape) (R : List Record) (x : ℕ) → least_free sh R ≡ Some x → IsLeastFree sh R x
least_free_is sh R x h = let r = least_is (is_free_extent sh R) 0 sh.blocks x h in record { free = r.holds; least = λ y l. r.least y (omega arith) (omega (arith, l)) }

pub least_free_found : (sh : Shape) (R : List Record) (x : ℕ) → is_shape sh ≡ true → IsLeastFree sh R x → least_free sh R ≡ Some x
least_free_found sh R x s h = let b = free_below sh R x s h.free in least_found (is_free_extent sh R) 0 sh.blocks x (omega arith) (omega (arith, b)) h.free (λ z l u. h.least z (omega (arith, u)))

pub least_free_none : (sh : Shape) (R : List Record) → is_shape sh ≡ true → least_free sh R ≡ None → (x : ℕ) → is_free_extent sh R x ≡ false
least_free_none sh R s h x = off (is_free_extent sh R x) (λ t.
    let b = free_below sh R x s t in
    true≢false (sym t ∙ least_none (is_free_extent sh R) 0 sh.blocks x h (omega arith) (omega (arith, b))))

pub least_free_empty : (sh : Shape) (R : List Record) → ((x : ℕ) → is_free_extent sh R x ≡ false) → least_free sh R ≡ None
least_free_empty sh R h = least_empty (is_free_extent sh R) 0 sh.blocks h
