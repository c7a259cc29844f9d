-- How many extents are kept, looked for from the last one down.
use Rattle.std.proofs.Common.{◌≡◌, ℕ, suc, ◌+◌, ◌-◌, ◌<◌, ◌≤◌, Bool, true, false, leb, List, length, Some, None, Ok, sym, ◌∙◌, subst, arith, inl, inr, leb-true, leb-false}
use Rattle.seg_words.proofs.Lemmas.{cases_Bool}
use Rattle.disk_model.specs.Crash.{Meaning}
use Rattle.redo_model.specs.Records.{Record}
use Rattle.redo_model.specs.Model.{Extent, extent_at, extents_of, is_vacant}
use Rattle.sort_laws.proofs.SortsLaw.{at_exists}
use Rattle.store_core.specs.Store.{Held}
use Rattle.store_core.specs.Causes.{HasLooked, IsSoundFault}
use Rattle.store_core.specs.declared.fault.StoreFault.{StoreFault}
use Rattle.store_core.proofs.Lookups.{looked_on, looked_ok, looked_same}
use Rattle.lower_laws.specs.Drafts.{kept_extents}
use Rattle.lower_laws.specs.Kept.{AreVacantFrom}
use Rattle.lower_laws.proofs.KeptLaw.{kept_is_told}
use Rattle.lowering.specs.declared.ground.Ground.{Ground}
use Rattle.lowering.specs.Known.{Knows}
use Rattle.lowering.proofs.Knowing.{knows_later}
use Rattle.lowering.proofs.Places.{at_below}

-- the extents that were passed, from the last one down, are vacant
pub record Passed {D : Type 0} (meaning : Meaning D) (start now : Held D) (g : Ground) (passed : ℕ) : Type 0 where
  pub looked : HasLooked {T = Unit {0}} meaning start now (Ok tt)
  pub least : 1 ≤ passed
  pub vacant : (R : List Record) (o : ℕ) → Knows meaning R o start g → AreVacantFrom g.shape R o (g.segment.extents + 1 - passed)

pub passed_none : {D : Type 0} (meaning : Meaning D) (s : Held D) (g : Ground) → s.fault ≡ None → Passed meaning s s g 1
passed_none meaning s g n = record {
  looked = looked_same meaning s tt n;
  least = omega arith;
  vacant = λ R o k i e l at. (let m = at_below (extents_of R o) i e at in let c = k.segment.extents in absurd (omega (arith, l, m, c)));
}

-- what the code says of one extent
abbrev pub Says : {D : Type 0} → Meaning D → Held D → Ground → ℕ → Bool → Type 0
Says meaning s g index y = (R : List Record) (o : ℕ) (e : Extent) → Knows meaning R o s g → extent_at (extents_of R o) index ≡ Some e → y ≡ is_vacant g.shape R index e.number

pub passed_more : {D : Type 0} (meaning : Meaning D) (start mid now : Held D) (g : Ground) (passed : ℕ) (y : Bool) → passed < g.segment.extents → Passed meaning start mid g passed → HasLooked {T = Bool} meaning mid now (Ok y) → y ≡ true → Says meaning mid g (g.segment.extents - passed) y → Passed meaning start now g (passed + 1)
passed_more meaning start mid now g passed y less d p is says = record {
  looked = looked_on meaning start mid now tt (Ok tt) d.looked (looked_ok meaning mid now y tt p);
  least = omega arith;
  vacant = λ R o k i e l at. elim (cases_Bool (leb (g.segment.extents + 1 - passed) i)) [
    | inl t ↦ d.vacant R o k i e (leb-true _ i t) at
    | inr f ↦
        let below = leb-false (g.segment.extents + 1 - passed) i f in
        let same : g.segment.extents - passed ≡ i = omega (arith, l, below, less) in
        subst (λ (n : ℕ). is_vacant g.shape R n e.number ≡ true) same
        (sym (says R o e (knows_later meaning start mid R o g (Ok tt) d.looked k) (subst (λ (n : ℕ). extent_at (extents_of R o) n ≡ Some e) (sym same) at)) ∙ is)
  ];
}

pub passed_found : {D : Type 0} (meaning : Meaning D) (start mid : Held D) (R : List Record) (o : ℕ) (g : Ground) (passed : ℕ) (y : Bool) → passed < g.segment.extents → Passed meaning start mid g passed → y ≡ false → Says meaning mid g (g.segment.extents - passed) y → Knows meaning R o start g
    → g.segment.extents - passed + 1 ≡ kept_extents g.shape R o
passed_found meaning start mid R o g passed y less d is says k =
    let c = k.segment.extents in
    let least = d.least in
    let e = at_exists (extents_of R o) (g.segment.extents - passed) (omega (arith, less, least, c)) in
    let busy = sym (says R o e.0 (knows_later meaning start mid R o g (Ok tt) d.looked k) e.1) ∙ is in
    let next : g.segment.extents + 1 - passed ≡ suc (g.segment.extents - passed) = omega (arith, less) in
    let told = (kept_is_told g.shape R o).last (g.segment.extents - passed) e.0 (omega (arith, less)) e.1 busy (subst (λ (n : ℕ). AreVacantFrom g.shape R o n) next (d.vacant R o k)) in
    (let z : g.segment.extents - passed + 1 ≡ suc (g.segment.extents - passed) = omega arith in z) ∙ sym told

pub passed_all : {D : Type 0} (meaning : Meaning D) (start mid : Held D) (R : List Record) (o : ℕ) (g : Ground) (passed : ℕ) → g.segment.extents ≤ passed → Passed meaning start mid g passed → Knows meaning R o start g → 1 ≡ kept_extents g.shape R o
passed_all meaning start mid R o g passed end d k = sym ((kept_is_told g.shape R o).first (λ i e l at. d.vacant R o k i e (omega (arith, l, end)) at))

pub passed_fails : {D : Type 0} (meaning : Meaning D) (start mid : Held D) (R : List Record) (o : ℕ) (g : Ground) (passed : ℕ) (fault : StoreFault) → passed < g.segment.extents → Passed meaning start mid g passed
    → ((Q : List Record) (p : ℕ) → Knows meaning Q p mid g → g.segment.extents - passed < length (extents_of Q p) → mid.fault ≡ None → IsSoundFault fault) → Knows meaning R o start g → IsSoundFault fault
passed_fails meaning start mid R o g passed fault less d sound k =
    let c = k.segment.extents in
    let least = d.least in
    sound R o (knows_later meaning start mid R o g (Ok tt) d.looked k) (omega (arith, less, least, c)) (d.looked.cause.kept d.looked.cause.goes_on)
