-- What is there of a table, and where its first unformatted block is found.
use Rattle.std.proofs.Common.{◌≡◌, ℕ, zero, suc, ◌<◌, ◌≤◌, true, false, cond, eqb, List, [], ◌∷◌, take, drop, slice_get, Option, Some, None, refl, sym, ◌∙◌, ap, subst, arith, inl, inr}
use Rattle.seg_words.proofs.Lemmas.{cond-true, cond-false, cases_Bool}
use Rattle.seg_words.specs.Types.{Shape, class_code, Fs4}
use Rattle.redo_model.specs.Records.{Record, FormatBlock, Class}
use Rattle.redo_model.specs.Model.{data_blocks, is_formatted, under_high, low_mark, high_mark, first_unformatted, kept_class, IsKindAllowed, AreAllowed}
use Rattle.redo_laws.proofs.space.LowMark.{low}
use Rattle.redo_laws.proofs.space.Places.{segments, a_table}
use Rattle.redo_laws.proofs.space.ApartLaw.{placed}
use Rattle.mark_laws.specs.There.{TablesHaveExtents, CodesTell, UnformattedFromLow}
use Rattle.mark_laws.proofs.TablesThere.{has_one}

pub tables_have_extents : TablesHaveExtents
tables_have_extents sh R o h t = let p = placed sh R o h.allowed in record { one = has_one sh R o h.allowed h.whole t; few = p.few; whole = p.whole }

-- kept classes are classes of formatted blocks

class_step : (sh : Shape) (R : List Record) (r : Record) (b : ℕ) → IsKindAllowed sh R r → 1 ≤ class_code (kept_class R b) → 1 ≤ class_code (kept_class (r ∷ R) b)
class_step sh R (FormatBlock f) b a h = elim (eqb f.dba b) as (λ v. 1 ≤ class_code (cond v Fs4 (kept_class R b))) [ true ↦ omega arith | false ↦ h ]
class_step sh R (Class k) b a h = elim (eqb k.dba b) as (λ v. 1 ≤ class_code (cond v k.class (kept_class R b))) [ true ↦ a.formatted_class | false ↦ h ]
class_step sh R _ b a h = h

class_kept : (sh : Shape) (R : List Record) (b : ℕ) → AreAllowed sh R → 1 ≤ class_code (kept_class R b)
class_kept sh [] b h = omega arith
class_kept sh (r ∷ R) b h = class_step sh R r b h.1.kind (class_kept sh R b h.0)

pub codes_tell : CodesTell
codes_tell sh R b h = record {
  formatted = λ y. (subst (λ n. 1 ≤ n) (sym (cond-true _ _ _ y)) (class_kept sh R b h), cond-true _ _ _ y);
  unformatted = λ f. cond-false _ _ _ f;
}

-- the first unformatted block

first_here : (sh : Shape) (R : List Record) (b : ℕ) (bs : List ℕ) → is_formatted sh R b ≡ false → first_unformatted sh R (b ∷ bs) ≡ Some b
first_here sh R b bs f = cond-false _ _ _ f

first_past : (sh : Shape) (R : List Record) (b : ℕ) (bs : List ℕ) → is_formatted sh R b ≡ true → first_unformatted sh R (b ∷ bs) ≡ first_unformatted sh R bs
first_past sh R b bs y = cond-true _ _ _ y

past_front : (sh : Shape) (R : List Record) (n m : ℕ) (bs : List ℕ) → n ≤ m → first_unformatted sh R (take n bs) ≡ None → first_unformatted sh R (drop n (take m bs)) ≡ first_unformatted sh R (take m bs)
past_front sh R zero m bs l h = refl
past_front sh R (suc n) zero bs l h = absurd (omega (arith, l))
past_front sh R (suc n) (suc m) [] l h = refl
past_front sh R (suc n) (suc m) (b ∷ bs) l h = elim (cases_Bool (is_formatted sh R b)) [
  | inl y ↦ past_front sh R n m bs (omega (arith, l)) (sym (first_past sh R b (take n bs) y) ∙ h) ∙ sym (first_past sh R b (take m bs) y)
  | inr f ↦ absurd (let x : Some b ≡ None = sym (first_here sh R b (take n bs) f) ∙ h in cc)
]

-- the blocks from a position on
from_here : (n m b : ℕ) (bs : List ℕ) → slice_get bs n ≡ Some b → n < m → drop n (take m bs) ≡ b ∷ drop (suc n) (take m bs)
from_here n zero b bs h l = absurd (omega (arith, l))
from_here zero (suc m) b [] h l = absurd (let x : ◌≡◌ {A = Option ℕ} None (Some b) = h in cc)
from_here zero (suc m) b (c ∷ bs) h l = let same : c ≡ b = (let x : ◌≡◌ {A = Option ℕ} (Some c) (Some b) = h in cc) in ap (λ (d : ℕ). d ∷ take m bs) same
from_here (suc n) (suc m) b [] h l = absurd (let x : ◌≡◌ {A = Option ℕ} None (Some b) = h in cc)
from_here (suc n) (suc m) b (c ∷ bs) h l = from_here n m b bs h (omega (arith, l))

past_all : (n m : ℕ) (bs : List ℕ) → m ≤ n → drop n (take m bs) ≡ []
past_all zero zero bs l = refl
past_all (suc n) zero bs l = refl
past_all zero (suc m) bs l = absurd (omega (arith, l))
past_all (suc n) (suc m) [] l = refl
past_all (suc n) (suc m) (b ∷ bs) l = past_all n m bs (omega (arith, l))

pub unformatted_from_low : UnformattedFromLow
unformatted_from_low sh R o h t =
    let n = a_table sh R o (segments sh R h) t in
    let marks = low sh R o h n.least n.most in
    record {
      low = past_front sh R (low_mark R o) (high_mark R o) (data_blocks sh R o) marks.order marks.formatted;
      next = λ n b at l y. ap (first_unformatted sh R) (from_here n (high_mark R o) b (data_blocks sh R o) at l) ∙ first_past sh R b (drop (suc n) (under_high sh R o)) y;
      here = λ n b at l f. ap (first_unformatted sh R) (from_here n (high_mark R o) b (data_blocks sh R o) at l) ∙ first_here sh R b (drop (suc n) (under_high sh R o)) f;
      end = λ n l. ap (first_unformatted sh R) (past_all n (high_mark R o) (data_blocks sh R o) l);
    }
