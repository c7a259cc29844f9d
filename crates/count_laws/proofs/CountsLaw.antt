-- A count by position is a count over the list of the blocks, and a block is counted as the code in its bitmap says.
use Rattle.std.proofs.Common.{◌≡◌, ℕ, zero, suc, ◌+◌, ◌≤◌, Bool, true, false, cond, not, ◌&&◌, eqb, List, [], ◌∷◌, take, slice_get, refl, ap, subst, arith, ◌∙◌}
use Rattle.seg_words.specs.Types.{Class as BlockClass, Unformatted, Full, Fs1, Fs2, Fs3, Fs4, Shape, class_code}
use Rattle.redo_model.specs.Records.{Record}
use Rattle.redo_model.specs.Model.{data_blocks, high_mark, is_formatted, kept_class, code_of, AreAllowed}
use Rattle.mark_laws.proofs.ThereLaw.{codes_tell}
use Rattle.space_usage.specs.Counting.{passes_at, count_to, keeps}
use Rattle.history_model.specs.TableMeans.{count_kept, kept_as}
use Rattle.count_laws.specs.Counts.{UsagesMean}

-- ---- by position and by list

none_to : (p : ℕ → Bool) (n : ℕ) → count_to p [] n ≡ 0
none_to p zero = refl
none_to p (suc n) = let k = none_to p n in omega (arith, k)

first_to : (p : ℕ → Bool) (b : ℕ) (bs : List ℕ) (n : ℕ) → count_to p (b ∷ bs) (suc n) ≡ cond (p b) 1 0 + count_to p bs n
first_to p b bs zero = let z : 0 + cond (p b) 1 0 ≡ cond (p b) 1 0 + 0 = omega arith in z
first_to p b bs (suc n) = plus (count_to p (b ∷ bs) (suc n)) (cond (p b) 1 0) (count_to p bs n) (passes_at p (slice_get bs n)) (first_to p b bs n)
  where
    plus : (c v d w : ℕ) → c ≡ v + d → c + w ≡ v + (d + w)
    plus c v d w e = omega (arith, e)

one_more : (v : Bool) (c d : ℕ) → c ≡ d → cond v 1 0 + c ≡ cond v (suc d) d
one_more true c d e = omega (arith, e)
one_more false c d e = omega (arith, e)

-- those of the first n blocks that pass are those of the list of them with this code, where that says so of each block
to_kept : (sh : Shape) (R : List Record) (c : BlockClass) (p : ℕ → Bool) → ((b : ℕ) → p b ≡ eqb (code_of sh R b) (class_code c)) → (bs : List ℕ) (n : ℕ) → count_to p bs n ≡ count_kept sh R c (take n bs)
to_kept sh R c p same bs zero = refl
to_kept sh R c p same [] (suc n) = none_to p (suc n)
to_kept sh R c p same (b ∷ bs) (suc n) =
    first_to p b bs n
    ∙ one_more (p b) (count_to p bs n) (count_kept sh R c (take n bs)) (to_kept sh R c p same bs n)
    ∙ ap (λ (v : Bool). cond v (suc (count_kept sh R c (take n bs))) (count_kept sh R c (take n bs))) (same b)

-- ---- a block and its code

kept_same : (f : Bool) (k c : BlockClass) → 1 ≤ class_code c → (f && eqb (class_code k) (class_code c)) ≡ eqb (cond f (class_code k) 0) (class_code c)
kept_same true k c l = refl
kept_same false k Unformatted l = absurd (omega (arith, l))
kept_same false k Full l = refl
kept_same false k Fs1 l = refl
kept_same false k Fs2 l = refl
kept_same false k Fs3 l = refl
kept_same false k Fs4 l = refl

none_same : (f : Bool) (k : BlockClass) → (f ≡ true → 1 ≤ class_code k) → not f ≡ eqb (cond f (class_code k) 0) (class_code Unformatted)
none_same false k h = refl
none_same true Unformatted h = absurd (let l = h refl in omega (arith, l))
none_same true Full h = refl
none_same true Fs1 h = refl
none_same true Fs2 h = refl
none_same true Fs3 h = refl
none_same true Fs4 h = refl

kept_code : (sh : Shape) (R : List Record) (b : ℕ) → AreAllowed sh R → is_formatted sh R b ≡ true → 1 ≤ class_code (kept_class R b)
kept_code sh R b h y = let k = (codes_tell sh R b h).formatted y in subst (λ n. 1 ≤ n) k.1 k.0

-- ---- the counts

kept_is : (sh : Shape) (R : List Record) (o : ℕ) (c : BlockClass) → 1 ≤ class_code c → count_to (keeps sh R c) (data_blocks sh R o) (high_mark R o) ≡ kept_as sh R o c
kept_is sh R o c l = to_kept sh R c (keeps sh R c) (λ b. kept_same (is_formatted sh R b) (kept_class R b) c l) (data_blocks sh R o) (high_mark R o)

none_is : (sh : Shape) (R : List Record) (o : ℕ) → AreAllowed sh R → count_to (λ b. not (is_formatted sh R b)) (data_blocks sh R o) (high_mark R o) ≡ kept_as sh R o Unformatted
none_is sh R o h = to_kept sh R Unformatted (λ b. not (is_formatted sh R b)) (λ b. none_same (is_formatted sh R b) (kept_class R b) (kept_code sh R b h)) (data_blocks sh R o) (high_mark R o)

pub usages_mean : UsagesMean
usages_mean sh x name o u h table ends is = record {
  obj = o;
  table = table;
  unformatted = is.unformatted ∙ none_is sh x.ended o h;
  full = is.full ∙ kept_is sh x.ended o Full (omega arith);
  fs1 = is.fs1 ∙ kept_is sh x.ended o Fs1 (omega arith);
  fs2 = is.fs2 ∙ kept_is sh x.ended o Fs2 (omega arith);
  fs3 = is.fs3 ∙ kept_is sh x.ended o Fs3 (omega arith);
  fs4 = is.fs4 ∙ kept_is sh x.ended o Fs4 (omega arith);
  low = is.low;
  high = is.high;
  extents = is.extents;
  ends = ends;
}
