-- Blocks of a repair.
use Rattle.std.proofs.Common.{◌≡◌, ℕ, Bool, true, false, not, eqb, eqb-true, eq-eqb, List, length, None, refl, sym, ◌∙◌, ap, subst, inl, inr}
use Rattle.std.specs.Prelude.{Result, Ok, Err}
use Rattle.seg_words.proofs.Lemmas.{cases_Bool}
use Rattle.seg_words.specs.Types.{Shape, class_code}
use Rattle.disk_model.specs.Crash.{Meaning}
use Rattle.redo_model.specs.Records.{Record}
use Rattle.redo_model.specs.Model.{kept_class, IsTable, IsRowBlock, IsLawful}
use Rattle.usage_laws.specs.Types.{drafted_clean, calls_for_clean, with_clean, drafted_class, calls_for_class, settled}
use Rattle.usage_laws.proofs.SettledLaw.{settled_adds_what, settled_needs_nothing}
use Rattle.usage_laws.proofs.StaysLaw.{settled_blocks}
use Rattle.history_model.specs.TableMeans.{Settles, settles_nothing, settles_clean, settles_class, settles_both}
use Rattle.session_model.specs.Done.{tidy_none}
use Rattle.store_core.specs.Store.{Held, HasList, SameLoan}
use Rattle.store_core.specs.declared.fault.StoreFault.{StoreFault}
use Rattle.space_usage.specs.Settles.{HasBlock, Settles as HasSettles}
use Rattle.session_core.specs.Repairing.{HasRepaired}
use Rattle.session_core.proofs.Settlings.{stands_tidied, settled_tidies, clean_tidies}
use Rattle.session_core.proofs.Fixings.{same_class}

settles_so : (sh : Shape) (R : List Record) (o b : ℕ) → IsLawful sh R → IsRowBlock sh R o b → Settles b R (settled sh R o b)
settles_so sh R o b h here =
    let a = settled_adds_what sh R o b h here in
    elim (cases_Bool (calls_for_clean R b)) [
      | inl c ↦ elim (cases_Bool (calls_for_class R o b)) [
        | inl k ↦ subst (Settles b R) (sym (a.both c k)) (settles_both (drafted_clean R b) (drafted_class sh R o b) refl refl)
        | inr k ↦ subst (Settles b R) (sym (a.clean c k)) (settles_clean (drafted_clean R b) refl)
      ]
      | inr c ↦ elim (cases_Bool (calls_for_class R o b)) [
        | inl k ↦ subst (Settles b R) (sym (a.class c k)) (settles_class (drafted_class sh R o b) refl)
        | inr k ↦ subst (Settles b R) (sym (a.none c k)) settles_nothing
      ]
    ]

changes_so : (sh : Shape) (R : List Record) (o b : ℕ) → IsLawful sh R → IsTable R o → IsRowBlock sh R o b → calls_for_class R o b ≡ not (eqb (class_code (kept_class R b)) (class_code (kept_class (settled sh R o b) b)))
changes_so sh R o b h t here =
    let s = settled_blocks sh R o b h t here in
    elim (cases_Bool (calls_for_class R o b)) [
      | inl y ↦ y ∙ sym (ap not (other (eqb (class_code (kept_class R b)) (class_code (kept_class (settled sh R o b) b))) refl (s.class_changed y)))
      | inr n ↦ n ∙ sym (ap not (eq-eqb (class_code (kept_class R b)) (class_code (kept_class (settled sh R o b) b)) (ap class_code (sym (s.class_same n)))))
    ]
  where
    other : (v : Bool) → eqb (class_code (kept_class R b)) (class_code (kept_class (settled sh R o b) b)) ≡ v → (kept_class (settled sh R o b) b ≡ kept_class R b → ⊥) → eqb (class_code (kept_class R b)) (class_code (kept_class (settled sh R o b) b)) ≡ false
    other true e f = absurd (f (sym (same_class (kept_class R b) (kept_class (settled sh R o b) b) (eqb-true _ _ e))))
    other false e f = e

pub repaired_block : {D : Type 0} (meaning : Meaning D) (R : List Record) (o d before after : ℕ) (y : Bool) (a b : Held D) → HasBlock meaning R o d a → SameLoan meaning a b → before ≡ length R → ((S : List Record) → HasList meaning S b → after ≡ length S) → HasSettles meaning R o d a b (Ok y)
    → HasRepaired meaning R o d a b (Ok (record { settled = record { block = d; before = before; after = after }; changed = y }))
repaired_block meaning R o d before after y a b h loan e f s = record {
  tidies = stands_tidied meaning R (settled a.shape R o d) a b h.holds loan s.settles (settled_tidies a.shape R o d) s.stable;
  settles = settles_so a.shape R o d h.holds.lawful h.here;
  exact = (settled_needs_nothing a.shape R o d h.holds.lawful h.table h.here).class;
  told = record { block = refl; before = e; after = f (settled a.shape R o d) s.settles.list.list; changed = s.changed ∙ changes_so a.shape R o d h.holds.lawful h.table h.here };
  sound = tt;
}

pub unrepaired_block : {D : Type 0} (meaning : Meaning D) (R : List Record) (o d : ℕ) (f : StoreFault) (a b : Held D) → a.fault ≡ None → HasBlock meaning R o d a → SameLoan meaning a b → HasSettles meaning R o d a b (Err f) → HasRepaired meaning R o d a b (Err f)
unrepaired_block meaning R o d f a b n h loan s = elim s.left [
  | inl q ↦ record { tidies = stands_tidied meaning R R a b h.holds loan q tidy_none s.stable; settles = tt; exact = tt; told = tt; sound = s.sound n }
  | inr q ↦ record { tidies = stands_tidied meaning R (with_clean R d) a b h.holds loan q (clean_tidies R d) s.stable; settles = tt; exact = tt; told = tt; sound = s.sound n }
]
