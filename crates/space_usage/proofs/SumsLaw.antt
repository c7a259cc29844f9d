-- The counts of usage add up.
use Rattle.std.proofs.Common.{◌≡◌, ℕ, zero, suc, ◌+◌, ◌<◌, ◌≤◌, Bool, true, false, cond, not, ◌&&◌, eqb, List, [], ◌∷◌, length, slice_get, Option, Some, refl, sym, subst, arith}
use Rattle.seg_words.specs.Types.{Class as BlockClass, Unformatted, Full, Fs1, Fs2, Fs3, Fs4, Shape, class_code}
use Rattle.redo_model.specs.Records.{Record}
use Rattle.redo_model.specs.Model.{data_blocks, high_mark, is_formatted, kept_class, AreAllowed}
use Rattle.space_laws.proofs.MarksLaw.{marks_are_in_order, tables_are_few}
use Rattle.mark_laws.proofs.ThereLaw.{codes_tell}
use Rattle.space_usage.specs.Counting.{passes_at, count_to, keeps}
use Rattle.space_usage.specs.Sums.{UsagesAddUp}

-- a block is counted once
six : (f : Bool) (k : BlockClass) → (f ≡ true → 1 ≤ class_code k)
    → cond (not f) 1 0 + cond (f && eqb (class_code k) (class_code Fs1)) 1 0 + cond (f && eqb (class_code k) (class_code Fs2)) 1 0 + cond (f && eqb (class_code k) (class_code Fs3)) 1 0 + cond (f && eqb (class_code k) (class_code Fs4)) 1 0 + cond (f && eqb (class_code k) (class_code Full)) 1 0 ≡ 1
six false k h = refl
six true Unformatted h = absurd (let l = h refl in omega (arith, l))
six true Full h = refl
six true Fs1 h = refl
six true Fs2 h = refl
six true Fs3 h = refl
six true Fs4 h = refl

kept_code : (sh : Shape) (R : List Record) (b : ℕ) → AreAllowed sh R → is_formatted sh R b ≡ true → 1 ≤ class_code (kept_class R b)
kept_code sh R b h y = let k = (codes_tell sh R b h).formatted y in subst (λ n. 1 ≤ n) k.1 k.0

slice_there : (bs : List ℕ) (n : ℕ) → n < length bs → (b : ℕ) × (slice_get bs n ≡ Some b)
slice_there [] n l = absurd (omega (arith, l))
slice_there (b ∷ bs) zero l = (b, refl)
slice_there (b ∷ bs) (suc n) l = slice_there bs n (omega (arith, l))

one_more : (n a b c d e f u v w x y z : ℕ) → a + b + c + d + e + f ≡ n → u + v + w + x + y + z ≡ 1 → (a + u) + (b + v) + (c + w) + (d + x) + (e + y) + (f + z) ≡ suc n
one_more n a b c d e f u v w x y z p q = omega (arith, p, q)

add_to : (sh : Shape) (R : List Record) (bs : List ℕ) (n : ℕ) → AreAllowed sh R → n ≤ length bs
    → count_to (λ b. not (is_formatted sh R b)) bs n + count_to (keeps sh R Fs1) bs n + count_to (keeps sh R Fs2) bs n + count_to (keeps sh R Fs3) bs n + count_to (keeps sh R Fs4) bs n + count_to (keeps sh R Full) bs n ≡ n
add_to sh R bs zero h l = refl
add_to sh R bs (suc n) h l =
    let at = slice_there bs n (omega (arith, l)) in
    let one = subst (λ (o : Option ℕ). passes_at (λ b. not (is_formatted sh R b)) o + passes_at (keeps sh R Fs1) o + passes_at (keeps sh R Fs2) o + passes_at (keeps sh R Fs3) o + passes_at (keeps sh R Fs4) o + passes_at (keeps sh R Full) o ≡ 1) (sym at.1) (six (is_formatted sh R at.0) (kept_class R at.0) (kept_code sh R at.0 h)) in
    one_more n _ _ _ _ _ _ _ _ _ _ _ _ (add_to sh R bs n h (omega (arith, l))) one

pub usages_add_up : UsagesAddUp
usages_add_up sh R o u h t w =
    let most = t.most in
    let few = tables_are_few sh R h in
    let within = (marks_are_in_order sh R o h t.least (omega (arith, most, few))).within in
    let sum = add_to sh R (data_blocks sh R o) (high_mark R o) h within in
    let a = w.unformatted in
    let b = w.fs1 in
    let c = w.fs2 in
    let d = w.fs3 in
    let e = w.fs4 in
    let f = w.full in
    let high = w.high in
    omega (arith, sum, a, b, c, d, e, f, high)
