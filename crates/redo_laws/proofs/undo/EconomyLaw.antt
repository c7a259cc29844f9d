-- Undo is enough in a lawful list.
use Rattle.std.proofs.Common.{◌≡◌, suc, ◌<◌, true, false, ◌&&◌, eqb, ltb, List, [], ◌∷◌, sym, ◌∙◌, ap, subst, arith, inl, inr, eqb-true, true≢false, ltb-true}
use Rattle.seg_words.proofs.Lemmas.{cond-true, cond-false, cases_Bool, and_parts, or_cases}
use Rattle.seg_words.specs.Types.{Shape, UndoAddr}
use Rattle.redo_model.specs.Records.{Record, Reuse}
use Rattle.redo_model.specs.Model.{Step, part_addr, is_active, is_addr, standing, IsKindAllowed, AreAllowed, undo_sequence, undo_parts, is_reused}
use Rattle.redo_laws.proofs.lists.Every.{Every}
use Rattle.redo_laws.specs.Economy.{EachStep, HaveOwnUndo, IsKept, UndoIsEnough}
use Rattle.redo_laws.proofs.steps.Held.{Distinct}
use Rattle.redo_laws.proofs.spread.Spread.{good}
use Rattle.redo_laws.proofs.undo.Economy.{InUse}
use Rattle.redo_laws.proofs.spread.Whole.{whole}

each_step : (P Q : Step → Type 0) (ss : List Step) → ((s : Step) → P s → Q s) → Every P ss → EachStep Q ss
each_step P Q [] f h = tt
each_step P Q (s ∷ ss) f h = (f s h.0, each_step P Q ss f h.1)

own_undo : (ss : List Step) → Distinct ss → HaveOwnUndo ss
own_undo [] h = tt
own_undo (s ∷ ss) h = (each_step (λ x. is_addr x.undo s.undo ≡ false) (λ x. is_addr x.undo s.undo ≡ false) ss (λ x f. f) h.0, own_undo ss h.1)

-- what is reused is of an earlier use of its block
reused_early : (sh : Shape) (R : List Record) (a : UndoAddr) → AreAllowed sh R → is_reused R a ≡ true → a.seq < undo_sequence R a.block
reused_early sh [] a h e = absurd (true≢false (sym e))
reused_early sh (r ∷ R) a h e = go r h.1.kind e (λ f. reused_early sh R a h.0 f)
  where
    go : (r : Record) → IsKindAllowed sh R r → is_reused (r ∷ R) a ≡ true → (is_reused R a ≡ true → a.seq < undo_sequence R a.block) → a.seq < undo_sequence (r ∷ R) a.block
    go (Reuse q) k e rest =
        elim (cases_Bool (eqb q.block a.block)) [
          | inl y ↦ subst (λ n. a.seq < n) (sym (cond-true _ _ _ y)) (elim (or_cases (eqb q.block a.block && ltb a.seq q.sequence) (is_reused R a) e) [
            | inl z ↦ let l : a.seq < q.sequence = ltb-true _ _ (and_parts (eqb q.block a.block) (ltb a.seq q.sequence) z).1 in
                let s : q.sequence ≡ suc (undo_sequence R a.block) = k.sequence ∙ ap (λ b. suc (undo_sequence R b)) (eqb-true q.block a.block y) in omega arith
            | inr z ↦ let l = rest z in omega arith
          ])
          | inr n ↦ subst (λ m. a.seq < m) (sym (cond-false _ _ _ n)) (rest (elim (or_cases (eqb q.block a.block && ltb a.seq q.sequence) (is_reused R a) e) [
            | inl z ↦ absurd (true≢false (sym (and_parts (eqb q.block a.block) (ltb a.seq q.sequence) z).0 ∙ n))
            | inr z ↦ z
          ]))
        ]
    go _ k e rest = rest e

kept_step : (sh : Shape) (R : List Record) (st : Step) → AreAllowed sh R → InUse (is_active R) (undo_sequence R) (undo_parts R) st → IsKept R st
kept_step sh R st h f = λ u j e on. elim (cases_Bool (is_reused R (part_addr st.undo j))) [
  | inl y ↦ let l = reused_early sh R (part_addr st.undo j) h y in let s : st.undo.seq ≡ undo_sequence R st.undo.block = (f u e on).0 in absurd (omega arith)
  | inr n ↦ n
]

pub undo_is_enough : UndoIsEnough
undo_is_enough sh R h =
    let w = whole sh R h in
    record {
      distinct = own_undo (standing R) (good sh R w.fit).held.distinct;
      kept = each_step _ _ (standing R) (λ s f. kept_step sh R s h f) w.undo.in_use;
      full = w.undo.full;
    }
