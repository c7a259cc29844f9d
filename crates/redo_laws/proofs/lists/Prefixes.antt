-- The first records of a list.
use Rattle.std.proofs.Common.{◌≡◌, ℕ, suc, ◌≤◌, ltb, List, [], ◌∷◌, length, refl, sym, ◌∙◌, ap, subst, arith, inl, inr, le_trans, le-ltb, lt-ltb, ltb-true, ltb-false}
use Rattle.seg_words.proofs.Lemmas.{cond-true, cond-false, cases_Bool}
use Rattle.redo_model.specs.Records.{Record}
use Rattle.redo_model.specs.Model.{prefix, Extends}
use Rattle.redo_model.specs.Lists.{same, more}
use Rattle.redo_laws.specs.Prefixes.{PrefixesStay}

pub prefix_all : (R : List Record) (n : ℕ) → length R ≤ n → prefix R n ≡ R
prefix_all [] n l = refl
prefix_all (r ∷ R) n l = cond-true _ _ _ (lt-ltb (length R) n l)

pub prefix_more : (R : List Record) (r : Record) (n : ℕ) → n ≤ length R → prefix (r ∷ R) n ≡ prefix R n
prefix_more R r n l = cond-false _ _ _ (le-ltb (length R) n l)

pub prefix_size : (R : List Record) (n : ℕ) → n ≤ length R → length (prefix R n) ≡ n
prefix_size [] n l = omega (arith, l)
prefix_size (r ∷ R) n l = elim (cases_Bool (ltb (length R) n)) [
  | inl y ↦ let k = ltb-true (length R) n y in ap length (prefix_all (r ∷ R) n k) ∙ equal (length R) n k l
  | inr f ↦ let k = ltb-false (length R) n f in ap length (prefix_more R r n k) ∙ prefix_size R n k
]
  where
    equal : (m n : ℕ) → suc m ≤ n → n ≤ suc m → suc m ≡ n
    equal m n a b = omega (arith, a, b)

pub prefix_twice : (R : List Record) (m n : ℕ) → m ≤ n → prefix (prefix R n) m ≡ prefix R m
prefix_twice [] m n l = refl
prefix_twice (r ∷ R) m n l = elim (cases_Bool (ltb (length R) n)) [
  | inl y ↦ ap (λ z. prefix z m) (prefix_all (r ∷ R) n (ltb-true (length R) n y))
  | inr f ↦ let k = ltb-false (length R) n f in ap (λ z. prefix z m) (prefix_more R r n k) ∙ prefix_twice R m n l ∙ sym (prefix_more R r m (le_trans l k))
]

pub prefix_extends : (R : List Record) (n : ℕ) → Extends (prefix R n) R
prefix_extends [] n = same
prefix_extends (r ∷ R) n = elim (cases_Bool (ltb (length R) n)) [
  | inl y ↦ subst (λ z. Extends z (r ∷ R)) (sym (prefix_all (r ∷ R) n (ltb-true (length R) n y))) same
  | inr f ↦ subst (λ z. Extends z (r ∷ R)) (sym (prefix_more R r n (ltb-false (length R) n f))) (more r (prefix_extends R n))
]

pub extends_length : (Q R : List Record) → Extends Q R → length Q ≤ length R
extends_length Q _ same = omega arith
extends_length Q (r ∷ R) (more _ x) = let l = extends_length Q R x in omega (arith, l)

pub prefix_longer : (Q R : List Record) (n : ℕ) → Extends Q R → n ≤ length Q → prefix R n ≡ prefix Q n
prefix_longer Q _ n same l = refl
prefix_longer Q (r ∷ R) n (more _ x) l = prefix_more R r n (le_trans l (extends_length Q R x)) ∙ prefix_longer Q R n x l

pub prefix_first : (Q R : List Record) → Extends Q R → prefix R (length Q) ≡ Q
prefix_first Q R x = prefix_longer Q R (length Q) x (omega arith) ∙ prefix_all Q (length Q) (omega arith)

pub prefixes_stay : PrefixesStay
prefixes_stay R = record {
  all = λ n l. prefix_all R n l;
  more = λ r n l. prefix_more R r n l;
  size = λ n l. prefix_size R n l;
  twice = λ m n l. prefix_twice R m n l;
  extends = λ n. prefix_extends R n;
  shorter = λ Q x. extends_length Q R x;
  first = λ Q x. prefix_first Q R x;
  longer = λ Q n x l. prefix_longer Q R n x l;
}
