-- The places of open scans.
use Rattle.std.proofs.Common.{◌≡◌, ◌≢◌, ℕ, ◌-◌, Bool, cond, ◌≤◌, true, false, List, [], ◌∷◌, length, Option, Some, None, refl, sym, ◌∙◌, ap, subst, arith}
use Rattle.std.specs.Prelude.{Result, Ok, Err, slice_set, IsSome}
use Rattle.std.proofs.lemmas.List.{get_or-set_same, get_or-set_other}
use Rattle.seg_words.specs.Types.{Shape}
use Rattle.redo_model.specs.Records.{Record}
use Rattle.redo_model.specs.Model.{AreAllowed, IsTable}
use Rattle.version_read.specs.Walking.{IsOwn}
use Rattle.scan_table.specs.declared.answer.ScanFault.{ScanFault}
use Rattle.scan_table.specs.declared.answer.ScanFault.TheVariants as faults
use Rattle.scan_table.specs.declared.answer.ScanStep.{ScanStep}
use Rattle.scan_table.specs.declared.answer.ScanStep.TheVariants as steps
use Rattle.scan_table.specs.declared.scan.OpenScan.{OpenScan}
use Rattle.scan_table.specs.Standing.{Advances, HoldsScan, IsOpened, IsSettled, LeavesOff}
use Rattle.scan_table.specs.Places.{Begins, IsAfter, IsBegun, IsOpenAfter, Steps, left_by, place, stays_open}
use Rattle.scan_table.proofs.Advancing.{opened_stands}
use Rattle.scan_table.proofs.Staying.{all_gathered}

apart : (v w : ℕ) → 1 ≤ v → 1 ≤ w → v ≢ w → (v - 1) ≢ (w - 1)
apart v w l m n = λ e. n (omega (arith, l, m, e))

pub other_place : (places : List (Option OpenScan)) (x : Option OpenScan) (v who : ℕ) → 1 ≤ v → 1 ≤ who → v ≢ who → place v (slice_set places (who - 1) x) ≡ place v places
other_place places x v who l m n = get_or-set_other places (who - 1) (v - 1) x None (apart v who l m n)

pub own_place : (places : List (Option OpenScan)) (x : Option OpenScan) (who : ℕ) → 1 ≤ who → who ≤ length places → place who (slice_set places (who - 1) x) ≡ x
own_place places x who l m = get_or-set_same places (who - 1) x None (omega (arith, l, m))

-- a scan that begins

pub begins_told : (sh : Shape) (R : List Record) (o : ℕ) (own : Option ℕ) (s : OpenScan) (x : Option OpenScan) (step : ScanStep) → AreAllowed sh R → IsTable R o → IsOwn R own → IsOpened sh R o own s → IsBegun s x step → Begins sh R o own x (Ok step)
begins_told sh R o own s x steps.More a i w h b = record { scan = s; open_now = b.0; obj_is = h.obj_is; own_is = h.own_is; none_read = h.none_read; stands = opened_stands sh R o own s h i w b.1 }
begins_told sh R o own s x (steps.Done d) a i w h b =
    let none = h.none_read in
    let l : length s.blocks ≤ 0 = (let m = b.2 in omega (arith, m, none)) in
    let empty : s.blocks ≡ [] = nothing s.blocks l in (
      b.0,
      record {
        none_listed = sym h.list ∙ empty;
        at_is = b.1 ∙ h.number;
        rows_are = all_gathered sh R o own s.blocks 0 s.rows d.rows a i w h.list l h.no_rows b.3;
      },
    )
  where
    nothing : (xs : List ℕ) → length xs ≤ 0 → xs ≡ []
    nothing [] l = refl
    nothing (x ∷ xs) l = absurd (omega (arith, l))

pub begun_more : (s u : OpenScan) (x : Option OpenScan) → LeavesOff s u steps.More → x ≡ Some u → IsBegun s x steps.More
begun_more s u x h e = (e ∙ ap (λ (z : OpenScan). Some z) h.0, h.1)

pub open_after : (s : OpenScan) (x : Option OpenScan) (step : ScanStep) → IsBegun s x step → IsOpenAfter x (Ok step)
open_after s x steps.More b = subst (λ (o : Option OpenScan). IsSome o) (sym b.0) refl
open_after s x (steps.Done d) b = b.0

-- a scan's event

pub after_told : (s u : OpenScan) (x : Option OpenScan) (r : Result ScanStep ScanFault) → IsSettled s u r → x ≡ left_by r u → IsAfter s x r
after_told s u x (Ok steps.More) h e = (h, subst (λ (o : Option OpenScan). IsSome o) (sym e) refl)
after_told s u x (Ok (steps.Done d)) h e = (h, e)
after_told s u x (Err (faults.TooOld a)) h e = (h.0, e)
after_told s u x (Err (faults.TooOldEntry t)) h e = (h.0, e)
after_told s u x (Err (faults.Gone y n)) h e = (h, e)
after_told s u x (Err (faults.Store f)) h e = (h.0, e ∙ ap (λ (z : OpenScan). Some z) h.1)

pub steps_told : (B R : List Record) (s u : OpenScan) (x : Option OpenScan) (r : Result ScanStep ScanFault) → Advances B R s u r → x ≡ left_by r u → Steps B R s x r
steps_told B R s u x (Ok steps.More) h e = record { scan = u; open_now = e; more = h }
steps_told B R s u x (Ok (steps.Done d)) h e = h
steps_told B R s u x (Err f) h e = h

some_inside : (s u : OpenScan) → ◌≡◌ {A = Option OpenScan} (Some s) (Some u) → s ≡ u
some_inside s u e = cc e

pub taken_is : (places : List (Option OpenScan)) (who : ℕ) (taken : Option OpenScan) (s u : OpenScan) → taken ≡ place who places → taken ≡ Some u → place who places ≡ Some s → u ≡ s
taken_is places who taken s u e f p = some_inside u s (sym f ∙ (e ∙ p))

pub steps_taken : (sh : Shape) (B R : List Record) (s t u : OpenScan) (x : Option OpenScan) (r : Result ScanStep ScanFault) → t ≡ s → (HoldsScan sh B R t → Advances B R t u r) → x ≡ left_by r u → HoldsScan sh B R s → Steps B R s x r
steps_taken sh B R s t u x r same f e h = subst (λ (z : OpenScan). Steps B R z x r) same (steps_told B R t u x r (f (subst (λ (z : OpenScan). HoldsScan sh B R z) (sym same) h)) e)

pub after_taken : (s t u : OpenScan) (x : Option OpenScan) (r : Result ScanStep ScanFault) → t ≡ s → IsSettled t u r → x ≡ left_by r u → IsAfter s x r
after_taken s t u x r same f e = subst (λ (z : OpenScan). IsAfter z x r) same (after_told t u x r f e)

pub put_open : (r : Result ScanStep ScanFault) (u : OpenScan) (v : Bool) (x : Option OpenScan) → v ≡ stays_open r → v ≡ true → x ≡ Some u → x ≡ left_by r u
put_open r u v x e y p = p ∙ ap (λ (w : Bool). cond w (Some u) None) (sym y ∙ e)

pub put_closed : (r : Result ScanStep ScanFault) (u : OpenScan) (v : Bool) (x : Option OpenScan) → v ≡ stays_open r → v ≡ false → x ≡ None → x ≡ left_by r u
put_closed r u v x e y p = p ∙ ap (λ (w : Bool). cond w (Some u) None) (sym y ∙ e)
