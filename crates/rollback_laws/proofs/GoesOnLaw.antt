-- An opening that was cut off is gone on with.
use Rattle.std.proofs.Common.{◌≡◌, ℕ, zero, suc, ◌+◌, ◌-◌, ◌≤◌, List, ◌∷◌, length, Option, Some, None, refl, sym, ◌∙◌, ap, subst, arith, inl, inr}
use Rattle.seg_words.specs.Types.{Shape}
use Rattle.redo_model.specs.Records.{Record, Back, Ended}
use Rattle.redo_model.specs.Model.{Step, Extends, txn_count, is_active, standing, newest_of, IsLawful}
use Rattle.redo_laws.proofs.lists.Prefixes.{prefix_all, prefix_extends, extends_length, prefix_longer, prefix_first}
use Rattle.open_laws.proofs.Counting.{search}
use Rattle.end_laws.specs.Types.{back_of, ended_of}
use Rattle.end_laws.proofs.Allowed.{backs_are_allowed}
use Rattle.rollback_laws.specs.Closing.{closed, rolled_back, AddsEnds, adds_none, adds_back, adds_ended, IsFirst, ClosingGoesOn}
use Rattle.rollback_laws.proofs.Rolling.{adds_more, adds_same, backed_some}
use Rattle.rollback_laws.proofs.StepsLaw.{stays_below, steps_close, rollbacks_close}
use Rattle.rollback_laws.proofs.ClosingLaw.{lists_close}

-- of two first parts of a list the shorter one is a first part of the other
both_begin : (P Q R : List Record) → Extends P R → Extends Q R → length P ≤ length Q → Extends P Q
both_begin P Q R x y l = subst (λ z. Extends z Q) (sym (prefix_longer Q R (length P) y l) ∙ prefix_first P R x) (prefix_extends Q (length P))

as_long : (P Q : List Record) → Extends P Q → length Q ≤ length P → P ≡ Q
as_long P Q x l = sym (prefix_first P Q x) ∙ prefix_all Q (length P) l

-- the next record of an opening, after which it goes on to the same list
record Next (sh : Shape) (R : List Record) : Type 0 where
  list : List Record
  longer : length list ≡ suc (length R)
  lawful : IsLawful sh list
  closes : closed list ≡ closed R
  only : AddsEnds R list

next_of : (sh : Shape) (R : List Record) (t : ℕ) → IsLawful sh R → IsFirst R t → Next sh R
next_of sh R t h f = go (newest_of (standing R) t) refl
  where
    go : (o : Option Step) → newest_of (standing R) t ≡ o → Next sh R
    go None e =
        let is : rolled_back R t ≡ Ended (ended_of R t) ∷ R = ap (λ (X : List Record). Ended (ended_of X t) ∷ X) ((steps_close sh R t h f).whole e) in
        let whole = rollbacks_close sh R t h f in
        record {
          list = Ended (ended_of R t) ∷ R;
          longer = refl;
          lawful = subst (IsLawful sh) is whole.lawful;
          closes = ap closed (sym is) ∙ whole.closes;
          only = adds_ended (ended_of R t) adds_none;
        }
    go (Some st) e =
        let is = backed_some R t st e in
        record {
          list = Back (back_of R t st) ∷ R;
          longer = refl;
          lawful = subst (IsLawful sh) is (backs_are_allowed sh R t h f.active);
          closes = ap closed (sym is) ∙ (steps_close sh R t h f).back;
          only = adds_back (back_of R t st) adds_none;
        }

-- what is between a list and what an opening makes of it
record Between (sh : Shape) (R Q : List Record) : Type 0 where
  lawful : IsLawful sh Q
  closes : closed Q ≡ closed R
  only : AddsEnds R Q

between : (sh : Shape) (d : ℕ) (R Q : List Record) → IsLawful sh R → Extends R Q → Extends Q (closed R) → length Q ≡ d + length R → Between sh R Q
between sh zero R Q h x y l = subst (Between sh R) (as_long R Q x (omega (arith, l))) (record { lawful = h; closes = refl; only = adds_none })
between sh (suc d) R Q h x y l = elim (search (is_active R) (suc (txn_count R))) [
  | inl f ↦ step (next_of sh R f.at h (record { active = f.is_so; least = f.least })) (λ S. between sh d S Q)
  | inr n ↦
      let short : length Q ≤ length R = subst (λ (z : List Record). length Q ≤ length z) (stays_below R (suc (txn_count R)) n) (extends_length Q (closed R) y) in
      absurd (omega (arith, short, l))
]
  where
    step : Next sh R → ((S : List Record) → IsLawful sh S → Extends S Q → Extends Q (closed S) → length Q ≡ d + length S → Between sh S Q) → Between sh R Q
    step s rest =
        let longer = s.longer in
        let size : length s.list ≤ length Q = omega (arith, longer, l) in
        let part : Extends s.list (closed R) = subst (Extends s.list) s.closes (lists_close sh s.list s.lawful).extends in
        let b = rest s.list s.lawful (both_begin s.list Q (closed R) part y size) (subst (Extends Q) (sym s.closes) y) (omega (arith, longer, l)) in
        record { lawful = b.lawful; closes = b.closes ∙ s.closes; only = adds_more R s.list Q s.only b.only }

pub closing_goes_on : ClosingGoesOn
closing_goes_on sh R Q h x y =
    let l = extends_length R Q x in
    let b = between sh (length Q - length R) R Q h x y (omega (arith, l)) in
    record { lawful = b.lawful; closes = b.closes; same = adds_same R Q b.only }
