-- What is added to the list, and what is answered.
use Rattle.std.proofs.Common.{◌≡◌, ℕ, ◌<◌, ◌≤◌, true, false, List, ◌∷◌, length, None, sym, ◌∙◌, ap, subst, arith, lt-ltb, le-ltb}
use Rattle.std.specs.Prelude.{Result, Ok, IfOk}
use Rattle.seg_words.proofs.Lemmas.{cond-true, cond-false}
use Rattle.seg_words.specs.Types.{Shape}
use Rattle.disk_model.specs.Crash.{Meaning}
use Rattle.redo_model.specs.Records.{Record, Lower, LowerRecord}
use Rattle.redo_model.specs.Model.{extents_of, high_mark, IsLawful}
use Rattle.store_core.specs.Store.{Held}
use Rattle.store_core.specs.Adding.{Adds, HasTried}
use Rattle.store_core.specs.declared.fault.StoreFault.{StoreFault}
use Rattle.store_core.specs.declared.lowered.Lowered.{Lowered}
use Rattle.store_core.proofs.Lookups.{looked_same}
use Rattle.store_core.proofs.Additions.{adds_same}
use Rattle.lower_laws.specs.Drafts.{kept_extents, releases, lower_to, drafted_lower, with_lower}
use Rattle.lower_laws.proofs.LowersLaw.{lowers_are_allowed, with_none, with_some}
use Rattle.lowering.specs.declared.ground.Ground.{Ground}
use Rattle.lowering.specs.Answered.{answer_of, lowered, none_released}
use Rattle.lowering.specs.Known.{Knows}

-- ---- nothing is released

none_when : {D : Type 0} (meaning : Meaning D) (s : Held D) (R : List Record) (o kept : ℕ) (g : Ground) → Knows meaning R o s g → kept ≡ kept_extents s.shape R o → g.segment.extents ≤ kept → releases s.shape R o ≡ false
none_when meaning s R o kept g k e l = (let c = k.segment.extents in le-ltb (kept_extents s.shape R o) (length (extents_of R o)) (omega (arith, l, e, c)))

pub none_added : {D : Type 0} (meaning : Meaning D) (s : Held D) (R : List Record) (o kept : ℕ) (g : Ground) (x : Lowered) → Knows meaning R o s g → kept ≡ kept_extents s.shape R o → g.segment.extents ≤ kept → s.fault ≡ None → Adds {T = Lowered} meaning R (with_lower s.shape R o) s s (Ok x)
none_added meaning s R o kept g x k e l n =
    subst (λ (Q : List Record). Adds {T = Lowered} meaning R Q s s (Ok x)) (sym (with_none s.shape R o (none_when meaning s R o kept g k e l)))
    (adds_same meaning s s x x R k.holds (looked_same meaning s x n))

pub none_answered : {D : Type 0} (meaning : Meaning D) (s : Held D) (R : List Record) (o kept : ℕ) (g : Ground) (x : Lowered) → Knows meaning R o s g → kept ≡ kept_extents s.shape R o → g.segment.extents ≤ kept → x ≡ none_released g.segment.high → x ≡ lowered s.shape R o
none_answered meaning s R o kept g x k e l is =
    is ∙ ap none_released k.segment.high ∙ sym (cond-false (releases s.shape R o) (answer_of (drafted_lower s.shape R o)) (none_released (high_mark R o)) (none_when meaning s R o kept g k e l))

pub tried_same : {D T : Type 0} (meaning : Meaning D) (s : Held D) (x : T) → s.fault ≡ None → HasTried {T = T} meaning s s (Ok x)
tried_same meaning s x n =
    let p = looked_same meaning s x n in
    record { refused = λ R t. tt; survives_refused = λ since needed R t h. tt; stable = p.stable; loan = p.loan; cause = p.cause }

-- ---- some are

some_when : {D : Type 0} (meaning : Meaning D) (s : Held D) (R : List Record) (o kept : ℕ) (g : Ground) → Knows meaning R o s g → kept ≡ kept_extents s.shape R o → kept < g.segment.extents → releases s.shape R o ≡ true
some_when meaning s R o kept g k e l = (let c = k.segment.extents in lt-ltb (kept_extents s.shape R o) (length (extents_of R o)) (omega (arith, l, e, c)))

lower_lawful : {D : Type 0} (meaning : Meaning D) (s : Held D) (R : List Record) (o kept : ℕ) (g : Ground) → Knows meaning R o s g → kept ≡ kept_extents s.shape R o → kept < g.segment.extents → IsLawful s.shape (Lower (lower_to s.shape R o kept) ∷ R)
lower_lawful meaning s R o kept g k e l =
    subst (λ (n : ℕ). IsLawful s.shape (Lower (lower_to s.shape R o n) ∷ R)) (sym e) ((lowers_are_allowed s.shape R o k.holds.lawful k.table).lawful (some_when meaning s R o kept g k e l))

pub some_added : {D : Type 0} (meaning : Meaning D) (s b : Held D) (R : List Record) (o kept : ℕ) (g : Ground) (r : Result Lowered StoreFault) → Knows meaning R o s g → kept ≡ kept_extents s.shape R o → kept < g.segment.extents
    → (kept ≤ g.segment.extents → IsLawful s.shape (Lower (lower_to s.shape R o kept) ∷ R) → Adds meaning R (Lower (lower_to s.shape R o kept) ∷ R) s b r) → Adds meaning R (with_lower s.shape R o) s b r
some_added meaning s b R o kept g r k e l adds =
    subst (λ (Q : List Record). Adds meaning R Q s b r) (ap (λ (n : ℕ). Lower (lower_to s.shape R o n) ∷ R) e ∙ sym (with_some s.shape R o (some_when meaning s R o kept g k e l)))
    (adds (omega (arith, l)) (lower_lawful meaning s R o kept g k e l))

pub some_answered : {D : Type 0} (meaning : Meaning D) (s : Held D) (R : List Record) (o kept : ℕ) (g : Ground) (r : Result Lowered StoreFault) → Knows meaning R o s g → kept ≡ kept_extents s.shape R o → kept < g.segment.extents
    → (kept ≤ g.segment.extents → IfOk r (λ x. x ≡ answer_of (lower_to s.shape R o kept))) → IfOk r (λ x. x ≡ lowered s.shape R o)
some_answered meaning s R o kept g r k e l says =
    subst (λ (y : Lowered). IfOk r (λ x. x ≡ y))
    (ap (λ (n : ℕ). answer_of (lower_to s.shape R o n)) e ∙ sym (cond-true (releases s.shape R o) (answer_of (drafted_lower s.shape R o)) (none_released (high_mark R o)) (some_when meaning s R o kept g k e l)))
    (says (omega (arith, l)))

-- ---- by what was read before

pub kept_there : (sh k : Shape) (R : List Record) (o kept : ℕ) → sh ≡ k → kept ≡ kept_extents sh R o → kept ≡ kept_extents k R o
kept_there sh k R o kept e h = h ∙ ap (λ (s : Shape). kept_extents s R o) e

-- the record that was drafted
pub told_lower : (sh k : Shape) (R : List Record) (o kept : ℕ) (rec : LowerRecord) → sh ≡ k → rec ≡ lower_to sh R o kept → rec ≡ lower_to k R o kept
told_lower sh k R o kept rec e h = h ∙ ap (λ (s : Shape). lower_to s R o kept) e
