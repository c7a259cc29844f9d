-- A settling, record by record.
use Rattle.std.proofs.Common.{◌≡◌, ℕ, true, false, cond, not, eqb, List, ◌∷◌, refl, ◌∙◌, ap, ap₂, eq-eqb}
use Rattle.seg_words.proofs.Lemmas.{cond-true, cond-false}
use Rattle.seg_words.specs.Types.{Shape, class_code}
use Rattle.redo_model.specs.Records.{Record, Class, Clean}
use Rattle.redo_model.specs.Model.{IsTable, IsRowBlock, pctfree_of, kept_class, IsLawful}
use Rattle.settle_laws.proofs.CleanedLaw.{cleans_settle}
use Rattle.usage_laws.specs.Drafts.{drafted_clean, calls_for_clean, with_clean, ruled_class, drafted_class, calls_for_class, with_class, settled, NeedsNothing}
use Rattle.usage_laws.specs.Settling.{SettledIsLawful, CallsFor, SettledNeedsNothing, SettledAddsWhat, SettledAgain}
use Rattle.usage_laws.proofs.CleanLaw.{cleans_are_allowed}
use Rattle.usage_laws.proofs.CallsLaw.{calls_not, calls_off, class_is, class_off}
use Rattle.usage_laws.proofs.ClassLaw.{classes_are_allowed, class_after_clean}

-- after the Clean, where one is called for

pub clean_lawful : (sh : Shape) (R : List Record) (o b : ℕ) → IsLawful sh R → IsRowBlock sh R o b → IsLawful sh (with_clean R b)
clean_lawful sh R o b h here = elim (calls_for_clean R b) as (λ v. IsLawful sh (cond v (Clean (drafted_clean R b) ∷ R) R)) [ true ↦ cleans_are_allowed sh R o b h here | false ↦ h ]

clean_table : (R : List Record) (o b : ℕ) → IsTable R o → IsTable (with_clean R b) o
clean_table R o b t = elim (calls_for_clean R b) as (λ v. IsTable (cond v (Clean (drafted_clean R b) ∷ R) R) o) [ true ↦ record { least = t.least; most = t.most } | false ↦ t ]

clean_here : (sh : Shape) (R : List Record) (o b : ℕ) → IsRowBlock sh R o b → IsRowBlock sh (with_clean R b) o b
clean_here sh R o b here = elim (calls_for_clean R b) as (λ v. IsRowBlock sh (cond v (Clean (drafted_clean R b) ∷ R) R) o b) [ true ↦ record { here = here.here; formatted = here.formatted } | false ↦ here ]

-- it leaves no slot that calls for one
cleaned : (sh : Shape) (R : List Record) (o b : ℕ) → IsLawful sh R → IsRowBlock sh R o b → CallsFor (with_clean R b) b → ⊥
cleaned sh R o b h here =
    (elim (calls_for_clean R b) as (λ v. calls_for_clean R b ≡ v → CallsFor (cond v (Clean (drafted_clean R b) ∷ R) R) b → ⊥) [
      | true ↦ λ y c. (cleans_settle sh R (drafted_clean R b) (cleans_are_allowed sh R o b h here).allowed).slots c.slot c.txn c.number c.writer c.committed c.known
      | false ↦ λ n c. calls_not R b n c
    ]) refl

-- and what the block counts as it was
pub ruled_same : (sh : Shape) (R : List Record) (o b : ℕ) → IsLawful sh R → IsRowBlock sh R o b → ruled_class (with_clean R b) o b ≡ ruled_class R o b
ruled_same sh R o b h here = elim (calls_for_clean R b) as (λ v. ruled_class (cond v (Clean (drafted_clean R b) ∷ R) R) o b ≡ ruled_class R o b) [
  | true ↦ (cleans_settle sh R (drafted_clean R b) (cleans_are_allowed sh R o b h here).allowed).class (pctfree_of R o) b
  | false ↦ refl
]

pub kept_same : (R : List Record) (b : ℕ) → kept_class (with_clean R b) b ≡ kept_class R b
kept_same R b = elim (calls_for_clean R b) as (λ v. kept_class (cond v (Clean (drafted_clean R b) ∷ R) R) b ≡ kept_class R b) [ true ↦ refl | false ↦ refl ]

class_call_same : (sh : Shape) (R : List Record) (o b : ℕ) → IsLawful sh R → IsRowBlock sh R o b → calls_for_class (with_clean R b) o b ≡ calls_for_class R o b
class_call_same sh R o b h here = ap₂ (λ k l. not (eqb (class_code k) (class_code l))) (ruled_same sh R o b h here) (kept_same R b)

-- after both

pub settled_is_lawful : SettledIsLawful
settled_is_lawful sh R o b h t here =
    (elim (calls_for_class (with_clean R b) o b) as (λ v. calls_for_class (with_clean R b) o b ≡ v → IsLawful sh (cond v (Class (drafted_class sh (with_clean R b) o b) ∷ with_clean R b) (with_clean R b))) [
      | true ↦ λ y. classes_are_allowed sh (with_clean R b) o b (clean_lawful sh R o b h here) (clean_table R o b t) (clean_here sh R o b here) y
      | false ↦ λ n. clean_lawful sh R o b h here
    ]) refl

classed : (sh : Shape) (S : List Record) (o b : ℕ) → (CallsFor S b → ⊥) → NeedsNothing (with_class sh S o b) o b
classed sh S o b f =
    (elim (calls_for_class S o b) as (λ v. calls_for_class S o b ≡ v → NeedsNothing (cond v (Class (drafted_class sh S o b) ∷ S) S) o b) [
      | true ↦ λ y. record {
        slots = λ k t d w c n. f (record { slot = k; txn = t; number = d; writer = w; committed = c; known = n });
        class = cond-true _ _ _ (eq-eqb b b refl);
      }
      | false ↦ λ n. record { slots = λ k t d w c x. f (record { slot = k; txn = t; number = d; writer = w; committed = c; known = x }); class = class_is S o b n }
    ]) refl

pub settled_needs_nothing : SettledNeedsNothing
settled_needs_nothing sh R o b h t here = classed sh (with_clean R b) o b (cleaned sh R o b h here)

-- which records it adds

add_none : (sh : Shape) (R S : List Record) (o b : ℕ) → with_clean R b ≡ S → calls_for_class (with_clean R b) o b ≡ false → settled sh R o b ≡ S
add_none sh R S o b e n = cond-false _ _ _ n ∙ e

add_class : (sh : Shape) (R S : List Record) (o b : ℕ) → with_clean R b ≡ S → calls_for_class (with_clean R b) o b ≡ true → settled sh R o b ≡ Class (drafted_class sh S o b) ∷ S
add_class sh R S o b e y = cond-true _ _ _ y ∙ ap (λ (T : List Record). Class (drafted_class sh T o b) ∷ T) e

pub settled_adds_what : SettledAddsWhat
settled_adds_what sh R o b h here =
    let same = class_call_same sh R o b h here in
    let settles = cleans_settle sh R (drafted_clean R b) (cleans_are_allowed sh R o b h here).allowed in
    let other = class_after_clean sh R (drafted_clean R b) o b (settles.class (pctfree_of R o) b) in
    record {
      none = λ m n. add_none sh R R o b (cond-false _ _ _ m) (same ∙ n);
      clean = λ m n. add_none sh R (Clean (drafted_clean R b) ∷ R) o b (cond-true _ _ _ m) (same ∙ n);
      class = λ m n. add_class sh R R o b (cond-false _ _ _ m) (same ∙ n);
      both = λ m n. add_class sh R (Clean (drafted_clean R b) ∷ R) o b (cond-true _ _ _ m) (same ∙ n) ∙ ap (λ k. Class k ∷ Clean (drafted_clean R b) ∷ R) other;
    }

-- once

nothing : (sh : Shape) (R : List Record) (o b : ℕ) → NeedsNothing R o b → settled sh R o b ≡ R
nothing sh R o b n =
    let first : with_clean R b ≡ R = cond-false _ _ _ (calls_off R b (λ c. n.slots c.slot c.txn c.number c.writer c.committed c.known)) in
    ap (λ (S : List Record). with_class sh S o b) first ∙ cond-false _ _ _ (class_off R o b n.class)

pub settled_again : SettledAgain
settled_again sh R o b h t here = record { nothing = nothing sh R o b; again = nothing sh (settled sh R o b) o b (settled_needs_nothing sh R o b h t here) }
