-- A Clean that names one transaction, where a test that computes says that the block names no other.
use Rattle.std.proofs.Common.{◌≡◌, ◌⊎◌, ℕ, Bool, true, false, ◌&&◌, ◌||◌, eqb, List, [], ◌∷◌, Option, Some, None, sym, ◌∙◌, ap, subst, inl, inr, eqb-true, true≢false, eq-eqb}
use Rattle.seg_words.proofs.Lemmas.{or_cases, cases_Bool, cond-true, cond-false, and_parts}
use Rattle.seg_words.specs.Types.{Shape, Slot, ListEntry, Writer, By, At}
use Rattle.redo_model.specs.Records.{Record}
use Rattle.redo_model.specs.Model.{has_ended, is_by, block_of, IsRowBlock, slots_name, entries_name, is_named_in, stated_number, Names, CleanAllowed}

abbrev pub writer_only : ℕ → Writer → Bool
writer_only u (By t) = eqb t u
writer_only u (At c) = true

abbrev pub slots_only : ℕ → List Slot → Bool
slots_only u [] = true
slots_only u (s ∷ ss) = writer_only u s.writer && slots_only u ss

abbrev pub entries_only : ℕ → List ListEntry → Bool
entries_only u [] = true
entries_only u (e ∷ es) = (eqb e.txn u || eqb e.txn 0) && entries_only u es

writer_is : (u t : ℕ) (w : Writer) → writer_only u w ≡ true → is_by w t ≡ true → t ≡ u
writer_is u t (By v) h e = sym (eqb-true v t e) ∙ eqb-true v u h
writer_is u t (At c) h e = absurd (true≢false (sym e))

slot_is : (u t : ℕ) (ss : List Slot) → slots_only u ss ≡ true → slots_name ss t ≡ true → t ≡ u
slot_is u t [] h e = absurd (true≢false (sym e))
slot_is u t (s ∷ ss) h e =
    let p = and_parts (writer_only u s.writer) (slots_only u ss) h in
    elim (or_cases (is_by s.writer t) (slots_name ss t) e) [ inl y ↦ writer_is u t s.writer p.0 y | inr z ↦ slot_is u t ss p.1 z ]

entry_is : (u t : ℕ) (es : List ListEntry) → entries_only u es ≡ true → entries_name es t ≡ true → (t ≡ u) ⊎ (t ≡ 0)
entry_is u t [] h e = absurd (true≢false (sym e))
entry_is u t (x ∷ es) h e =
    let p = and_parts (eqb x.txn u || eqb x.txn 0) (entries_only u es) h in
    elim (or_cases (eqb x.txn t) (entries_name es t) e) [
      | inl y ↦ elim (or_cases (eqb x.txn u) (eqb x.txn 0) p.0) [
        | inl m ↦ inl (sym (eqb-true x.txn t y) ∙ eqb-true x.txn u m)
        | inr o ↦ inr (sym (eqb-true x.txn t y) ∙ eqb-true x.txn 0 o)
      ]
      | inr z ↦ entry_is u t es p.1 z
    ]

named_is : (R : List Record) (b u t : ℕ) → slots_only u (block_of R b).slots ≡ true → entries_only u (block_of R b).entries ≡ true → is_named_in (block_of R b) t ≡ true → (t ≡ u) ⊎ (t ≡ 0)
named_is R b u t s e h =
    elim (or_cases (slots_name (block_of R b).slots t) (entries_name (block_of R b).entries t) h) [ inl y ↦ inl (slot_is u t (block_of R b).slots s y) | inr z ↦ entry_is u t (block_of R b).entries e z ]

same_number : (n m : ℕ) → Some n ≡ Some m → n ≡ m
same_number n m e = cc

-- one transaction, named and ended
pub clean_one : (sh : Shape) (R : List Record) (o b u n : ℕ) → IsRowBlock sh R o b
    → slots_only u (block_of R b).slots ≡ true → entries_only u (block_of R b).entries ≡ true → is_named_in (block_of R b) u ≡ true
    → has_ended R u ≡ true → has_ended R 0 ≡ false → n ≡ stated_number R u
    → CleanAllowed sh R (record { dba = b; ended = (u, n) ∷ [] })
clean_one sh R o b u n here s e named ended never number = record {
  obj = o;
  here = here;
  rising = tt;
  each = λ t m h. elim (cases_Bool (eqb u t)) [
    | inl y ↦
        let same : u ≡ t = eqb-true u t y in
        let is : n ≡ m = same_number n m (sym (cond-true (eqb u t) (Some n) None y) ∙ h) in
        subst (λ x. Names R b x m) same (record { named = named; ended = ended; number = sym is ∙ number })
    | inr f ↦ absurd (let x : ◌≡◌ {A = Option ℕ} None (Some m) = sym (cond-false (eqb u t) (Some n) None f) ∙ h in cc)
  ];
  all = λ t h x. elim (named_is R b u t s e h) [
    | inl y ↦ cond-true (eqb u t) (Some n) None (eq-eqb u t (sym y)) ∙ ap Some (number ∙ ap (stated_number R) (sym y))
    | inr z ↦ absurd (true≢false (sym x ∙ ap (has_ended R) z ∙ never))
  ];
}
