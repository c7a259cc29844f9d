-- When a settling is called for.
use Rattle.std.proofs.Common.{◌≡◌, ℕ, zero, suc, ◌<◌, Bool, true, false, not, List, [], ◌∷◌, get_or, Option, Some, None, refl, sym, ◌∙◌, ap, subst, arith, inl, inr, true≢false, eq-eqb, eqb-true, lt-ltb, ltb-true}
use Rattle.seg_words.proofs.Lemmas.{cond-true, cond-false, cases_Bool, or_cases, or_parts}
use Rattle.seg_words.specs.Types.{Class as BlockClass, Unformatted, Full, Fs1, Fs2, Fs3, Fs4, Slot, Writer, By, At, new_slot, class_code, class_from}
use Rattle.redo_model.specs.Records.{Record}
use Rattle.redo_model.specs.Model.{commit_number, is_forgotten, number_or_zero, stated_number, slots_of, image, kept_class}
use Rattle.redo_model.proofs.Bridge.{image_is}
use Rattle.redo_laws.proofs.lists.Bools.{clash}
use Rattle.settle_laws.proofs.CleanedLaw.{number_from, stated_is}
use Rattle.usage_laws.specs.Named.{is_known, names_known}
use Rattle.usage_laws.specs.Drafts.{calls_for_clean, ruled_class, calls_for_class}
use Rattle.usage_laws.specs.Settling.{CallsFor, CallsAreMeant}

-- a transaction whose number is stated

stated_some : (R : List Record) (t : ℕ) → 0 < stated_number R t → (d : ℕ) × (commit_number R t ≡ Some d) × (is_forgotten R t ≡ false)
stated_some R t l = elim (cases_Bool (is_forgotten R t)) [
  | inl y ↦ absurd (let z : stated_number R t ≡ 0 = cond-true _ _ _ y in omega (arith, l, z))
  | inr n ↦ let q = some (commit_number R t) (subst (λ x. 0 < x) (cond-false (is_forgotten R t) 0 (number_or_zero (commit_number R t)) n) l) in (q.0, q.1, n)
]
  where
    some : (o : Option ℕ) → 0 < number_or_zero o → (d : ℕ) × (o ≡ Some d)
    some None l = absurd (omega (arith, l))
    some (Some d) l = (d, refl)

-- a slot that names one

known_writer : (stated : ℕ → ℕ) (w : Writer) → is_known stated w ≡ true → (t : ℕ) × (w ≡ By t) × (0 < stated t)
known_writer stated (By t) h = (t, refl, ltb-true 0 (stated t) h)
known_writer stated (At c) h = absurd (true≢false (sym h))

known_slot : (stated : ℕ → ℕ) (ss : List Slot) → names_known stated ss ≡ true → (k : ℕ) × (is_known stated (get_or ss k new_slot).writer ≡ true)
known_slot stated [] h = absurd (true≢false (sym h))
known_slot stated (s ∷ ss) h = elim (or_cases (is_known stated s.writer) (names_known stated ss) h) [ inl y ↦ (0, y) | inr z ↦ let q = known_slot stated ss z in (suc q.0, q.1) ]

none_known : (stated : ℕ → ℕ) (ss : List Slot) (k : ℕ) → names_known stated ss ≡ false → is_known stated (get_or ss k new_slot).writer ≡ false
none_known stated [] k h = refl
none_known stated (s ∷ ss) zero h = (or_parts (is_known stated s.writer) (names_known stated ss) h).0
none_known stated (s ∷ ss) (suc k) h = none_known stated ss k (or_parts (is_known stated s.writer) (names_known stated ss) h).1

pub calls_for : (R : List Record) (b : ℕ) → calls_for_clean R b ≡ true → CallsFor R b
calls_for R b h =
    let q = known_slot (stated_number R) (slots_of R b) h in
    let w = known_writer (stated_number R) (image R b q.0).writer (ap (λ (s : Slot). is_known (stated_number R) s.writer) (sym (image_is R b q.0)) ∙ q.1) in
    let d = stated_some R w.0 w.2 in
    record { slot = q.0; txn = w.0; number = d.0; writer = w.1; committed = d.1; known = d.2 }

pub calls_not : (R : List Record) (b : ℕ) → calls_for_clean R b ≡ false → CallsFor R b → ⊥
calls_not R b h c =
    let number = stated_is R c.txn c.number c.committed c.known in
    let from = number_from R c.txn c.number c.committed in
    let known : is_known (stated_number R) (By c.txn) ≡ true = lt-ltb 0 (stated_number R c.txn) (omega (arith, number, from)) in
    clash (is_known (stated_number R) (image R b c.slot).writer) (ap (is_known (stated_number R)) c.writer ∙ known)
    (ap (λ (s : Slot). is_known (stated_number R) s.writer) (sym (image_is R b c.slot)) ∙ none_known (stated_number R) (slots_of R b) c.slot h)

-- without a slot that calls for one no Clean is called for
pub calls_off : (R : List Record) (b : ℕ) → (CallsFor R b → ⊥) → calls_for_clean R b ≡ false
calls_off R b f = elim (cases_Bool (calls_for_clean R b)) [ inl y ↦ absurd (f (calls_for R b y)) | inr n ↦ n ]

-- a class by its code

code_back : (c : BlockClass) → class_from (class_code c) ≡ Some c
code_back Unformatted = refl
code_back Full = refl
code_back Fs1 = refl
code_back Fs2 = refl
code_back Fs3 = refl
code_back Fs4 = refl

same_class : (c d : BlockClass) → class_code c ≡ class_code d → c ≡ d
same_class c d e = same (sym (code_back c) ∙ ap class_from e ∙ code_back d)
  where
    same : ◌≡◌ {A = Option BlockClass} (Some c) (Some d) → c ≡ d
    same x = cc

not_false : (v : Bool) → not v ≡ false → v ≡ true
not_false true h = refl
not_false false h = absurd (true≢false h)

pub class_is : (R : List Record) (o b : ℕ) → calls_for_class R o b ≡ false → kept_class R b ≡ ruled_class R o b
class_is R o b h = sym (same_class (ruled_class R o b) (kept_class R b) (eqb-true _ _ (not_false _ h)))

pub class_off : (R : List Record) (o b : ℕ) → kept_class R b ≡ ruled_class R o b → calls_for_class R o b ≡ false
class_off R o b e = ap not (eq-eqb (class_code (ruled_class R o b)) (class_code (kept_class R b)) (ap class_code (sym e)))

pub calls_are_meant : CallsAreMeant
calls_are_meant sh R o b h = record {
  clean = calls_for R b;
  no_clean = calls_not R b;
  class = λ y e. true≢false (sym y ∙ class_off R o b e);
  no_class = class_is R o b;
}
