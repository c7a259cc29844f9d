-- Taking back goes on.
use Rattle.std.proofs.Common.{◌≡◌, ℕ, true, not, List, [], ◌∷◌, Option, Some, None, refl, sym, ◌∙◌, ap, subst, true≢false}
use Rattle.redo_model.specs.Records.{Record, Table, Reuse, Back, Ended, BackRecord, EndedRecord}
use Rattle.redo_model.specs.Model.{Step, entry_of, standing, newest_of, undo_of_step, without_step, taken_back, IsCalledFor, is_whole}
use Rattle.redo_laws.proofs.lists.Every.{every-map, filter-all, filter-swap}
use Rattle.redo_laws.proofs.steps.Facts.{BackFits}
use Rattle.redo_laws.proofs.steps.Held.{Tops, tops, own, own_newest, others_own, Distinct, distinct_filter}
use Rattle.redo_laws.proofs.steps.OnTop.{addr_self}
use Rattle.redo_laws.proofs.spread.Spread.{good}
use Rattle.redo_laws.proofs.numbers.TxnTable.{TxnTable, txn_table}
use Rattle.redo_laws.proofs.spread.Whole.{record_fits, whole}
use Rattle.open_laws.specs.Backs.{RollbackGoesOn, backs, ends, RollbacksGoOn, BacksTakeOne, EndedEndsOne}

called_back : (R : List Record) (k : BackRecord) → is_whole R ≡ true → IsCalledFor R (Back k)
called_back [] k w = tt
called_back (Table t ∷ R) k w = absurd (true≢false (sym w))
called_back (Reuse q ∷ R) k w = absurd (true≢false (sym w))
called_back (_ ∷ R) k w = tt

called_ended : (R : List Record) (e : EndedRecord) → is_whole R ≡ true → IsCalledFor R (Ended e)
called_ended [] e w = tt
called_ended (Table t ∷ R) e w = absurd (true≢false (sym w))
called_ended (Reuse q ∷ R) e w = absurd (true≢false (sym w))
called_ended (_ ∷ R) e w = tt

-- the Back of a step

abbrev back_of : List Record → ℕ → ℕ → Step → BackRecord
back_of R t i st = record {
  txn = t;
  entry = i;
  obj = st.obj;
  row = st.row;
  undo = st.undo;
  previous = st.previous;
  parts = taken_back st.parts;
  last = undo_of_step (newest_of (without_step st.undo (standing R)) t);
}

pub rollbacks_go_on : RollbacksGoOn
rollbacks_go_on sh R t h on = go (newest_of (standing R) t) refl
  where
    table : TxnTable R
    table = txn_table sh R h.allowed

    at : (i : ℕ) × (entry_of R t ≡ Some i)
    at = let w = table.entered t (table.begun t on) in (w.0, w.1)

    go : (o : Option Step) → newest_of (standing R) t ≡ o → RollbackGoesOn sh R t
    go None e = ends (record { txn = t; entry = at.0 }) e refl (record { called_for = called_ended R _ h.whole; kind = record { active = on; entry = at.1; none_left = e } })
    go (Some st) e = backs (back_of R t at.0 st) st e refl refl (record {
      called_for = called_back R _ h.whole;
      kind = record { active = on; entry = at.1; step = st; newest = e; obj = refl; row = refl; undo = refl; previous = refl; parts = refl; last = refl };
    })

-- what a Back takes

pub backs_take_one : BacksTakeOne
backs_take_one sh R k h =
    let f : BackFits R k = (record_fits sh R (Back k) h).effect in
    let held = (good sh R (whole sh R h.0).fit).held in
    let ss = standing R in
    let t : Tops k.undo k.txn ss = subst (λ x. Tops x k.txn ss) (sym f.undo) (tops ss k.txn f.step held.distinct f.newest) in
    let o = own_newest ss k.txn f.step f.newest in
    let d : Distinct (f.step ∷ o.0) = subst Distinct o.1 (distinct_filter _ ss held.distinct) in
    let tail : without_step k.undo (own k.txn ss) ≡ o.0 =
    ap (without_step k.undo) o.1 ∙ ap (λ x. without_step x (f.step ∷ o.0)) f.undo ∙ rw (addr_self f.step.undo) (filter-all _ o.0 (every-map _ _ o.0 (λ s x. ap not x) d.0)) in
    record {
      step = f.step;
      newest = f.newest;
      own = o.1 ∙ ap (λ (us : List Step). f.step ∷ us) (sym tail ∙ filter-swap _ _ ss);
      others = λ u ne. sym (filter-swap _ _ ss) ∙ filter-all _ (own u ss) (every-map _ _ _ (λ s x. ap not x) (others_own k.undo k.txn u ss ne t));
      active = λ u. refl;
    }

pub ended_ends_one : EndedEndsOne
ended_ends_one R e = record { active = λ u. refl; steps = λ u. refl }
