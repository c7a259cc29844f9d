-- The drafted records are allowed, and no others.
use Rattle.std.proofs.Common.{◌≡◌, ℕ, zero, suc, ◌<◌, Bool, true, List, [], ◌∷◌, ◌++◌, length, take, Some, None, refl, sym, ◌∙◌, ap, subst, arith, eqb-true, eq-eqb, true≢false}
use Rattle.seg_words.proofs.Lemmas.{cond-true}
use Rattle.seg_words.specs.Types.{Shape, is_shape}
use Rattle.redo_model.specs.Records.{Record, Table, Movement, Extend, FormatBlock, Advance, TableRecord, MovementRecord, ExtendRecord, FormatBlockRecord, AdvanceRecord}
use Rattle.redo_model.specs.Model.{Extent, extents_of, data_blocks, high_mark, under_high, first_unformatted, table_count, IsTable, IsLeastFree, header_of, l2_of, l3_of, group_start, best_in_l1, best_in_l2, FormatAllowed, AdvanceAllowed, ExtendAllowed, TableAllowed, MovementAllowed, IsAllowed, IsLawful, AreAllowed, is_whole}
use Rattle.mark_laws.specs.declared.step.MarkStep.{MarkStep}
use Rattle.mark_laws.specs.declared.step.MarkStep.TheVariants as step
use Rattle.mark_laws.specs.Movements.{IsFull, MayAdvance, MayExtend, IsNextMark}
use Rattle.mark_laws.specs.Drafts.{drafted_format, drafted_advance, with_extent, drafted_extend, mark_record, drafted_movement, drafted_table, drafted_first}
use Rattle.mark_laws.specs.Moves.{moves_marks, IsMarkRecord, MarksAreAllowed, MayMake, MakesTable, IsDraftedTable, TablesAreMade, MovementsAreAllowed}
use Rattle.mark_laws.proofs.Numbers.{least_free_is, least_free_found}
use Rattle.mark_laws.proofs.MovementsLaw.{next_marks_mean}
use Rattle.mark_laws.proofs.FormatBests.{both_best}
use Rattle.mark_laws.proofs.SameRecords.{format_same, advance_same, extend_same, table_same, movement_same}
use Rattle.mark_laws.proofs.TablesThere.{whole_calls, fresh_extents, has_one, least_after}

take_whole : (bs : List ℕ) (n : ℕ) → n ≡ length bs → take n bs ≡ bs
take_whole [] zero e = refl
take_whole [] (suc n) e = refl
take_whole (b ∷ bs) zero e = absurd (omega (arith, e))
take_whole (b ∷ bs) (suc n) e = ap (λ (xs : List ℕ). b ∷ xs) (take_whole bs n (omega (arith, e)))

-- where all is full, no data block is unformatted
all_formatted : (sh : Shape) (R : List Record) (o : ℕ) → IsFull sh R o → first_unformatted sh R (data_blocks sh R o) ≡ None
all_formatted sh R o f = ap (first_unformatted sh R) (sym (take_whole (data_blocks sh R o) (high_mark R o) f.high)) ∙ f.formatted

extended : (R : List Record) (e : ExtendRecord) → extents_of (Extend e ∷ R) e.obj ≡ with_extent R e.obj e.extent
extended R e = cond-true _ _ _ (eq-eqb e.obj e.obj refl)

-- what is allowed

format_allowed : (sh : Shape) (R : List Record) (o b : ℕ) → AreAllowed sh R → IsTable R o → first_unformatted sh R (under_high sh R o) ≡ Some b → FormatAllowed sh R (drafted_format sh R o b)
format_allowed sh R o b h t first =
    let best = both_best sh R (drafted_format sh R o b) h t first in
    record {
      table = t;
      first = first;
      bitmaps = record { index_is = refl; l2_is = refl; l3_is = refl };
      bests = record { l1 = sym best.l1; l2 = sym best.l2 };
    }

advance_allowed : (sh : Shape) (R : List Record) (o : ℕ) → IsTable R o → MayAdvance sh R o → AdvanceAllowed sh R (drafted_advance sh R o)
advance_allowed sh R o t m = record { table = t; header = refl; formatted = m.formatted; room = m.room; low = refl; high = refl }

extend_allowed : (sh : Shape) (R : List Record) (o x : ℕ) → IsTable R o → MayExtend sh R o x → ExtendAllowed sh R (drafted_extend sh R o x)
extend_allowed sh R o x t m =
    let e : ExtendRecord = drafted_extend sh R o x in
    let es : extents_of (Extend e ∷ R) o ≡ with_extent R o x = extended R e in
    record {
      table = t;
      extent = m.extent;
      index = refl;
      few = m.few;
      full = λ l. m.full.high;
      formatted = λ l. all_formatted sh R o m.full;
      header = ap (header_of sh) (sym es);
      l2 = ap (λ (xs : List Extent). l2_of sh xs (length (extents_of R o))) (sym es);
      l3 = ap (l3_of sh) (sym es);
    }

mark_allowed : (sh : Shape) (R : List Record) (o : ℕ) (m : MarkStep) → IsLawful sh R → IsTable R o → IsNextMark sh R o m → IsAllowed sh R (mark_record sh R o m)
mark_allowed sh R o (step.Format b) h t k = record { called_for = whole_calls R _ h.whole; kind = format_allowed sh R o b h.allowed t k }
mark_allowed sh R o step.Advance h t k = record { called_for = whole_calls R _ h.whole; kind = advance_allowed sh R o t k }
mark_allowed sh R o (step.Extend x) h t k = record { called_for = whole_calls R _ h.whole; kind = extend_allowed sh R o x t k }

mark_whole : (sh : Shape) (R : List Record) (o : ℕ) (m : MarkStep) → is_whole (mark_record sh R o m ∷ R) ≡ true
mark_whole sh R o (step.Format b) = refl
mark_whole sh R o step.Advance = refl
mark_whole sh R o (step.Extend x) = refl

-- no others are

only_format : (sh : Shape) (R : List Record) (f : FormatBlockRecord) → AreAllowed sh R → FormatAllowed sh R f → f ≡ drafted_format sh R f.obj f.dba
only_format sh R f h a =
    let best = both_best sh R f h a.table a.first in
    let index = a.bitmaps.index_is in
    format_same f (drafted_format sh R f.obj f.dba) refl refl
    (a.bitmaps.l2_is ∙ ap (l2_of sh (extents_of R f.obj)) index)
    a.bitmaps.l3_is
    index
    (subst (λ n. f.best_of_l1 ≡ best_in_l1 sh (FormatBlock f ∷ R) f.obj n) index a.bests.l1 ∙ best.l1)
    (subst (λ n. f.best_of_l2 ≡ best_in_l2 sh (FormatBlock f ∷ R) f.obj (group_start n)) index a.bests.l2 ∙ best.l2)

only_advance : (sh : Shape) (R : List Record) (a : AdvanceRecord) → AdvanceAllowed sh R a → a ≡ drafted_advance sh R a.obj
only_advance sh R a k = advance_same a (drafted_advance sh R a.obj) refl k.header k.low k.high

only_extend : (sh : Shape) (R : List Record) (e : ExtendRecord) → ExtendAllowed sh R e → e ≡ drafted_extend sh R e.obj e.extent
only_extend sh R e k =
    let es : extents_of (Extend e ∷ R) e.obj ≡ with_extent R e.obj e.extent = extended R e in
    extend_same e (drafted_extend sh R e.obj e.extent) refl
    (k.header ∙ ap (header_of sh) es)
    k.index
    refl
    (k.l2 ∙ ap (λ (xs : List Extent). l2_of sh xs e.index) es ∙ ap (l2_of sh (with_extent R e.obj e.extent)) k.index)
    (k.l3 ∙ ap (l3_of sh) es)

may_extend : (sh : Shape) (R : List Record) (e : ExtendRecord) → IsLawful sh R → ExtendAllowed sh R e → MayExtend sh R e.obj e.extent
may_extend sh R e h k =
    let one = has_one sh R e.obj h.allowed h.whole k.table in
    let index = k.index in
    let few = k.few in
    let later : 0 < e.index = omega (arith, one, index) in
    let high = k.full later in
    record {
      full = record { formatted = ap (first_unformatted sh R) (take_whole (data_blocks sh R e.obj) (high_mark R e.obj) high) ∙ k.formatted later; high = high };
      few = omega (arith, index, few);
      extent = k.extent;
    }

only_mark : (sh : Shape) (R : List Record) (o : ℕ) (r : Record) → is_shape sh ≡ true → IsLawful sh R → IsTable R o → moves_marks r o ≡ true → IsAllowed sh R r → IsMarkRecord sh R o r
only_mark sh R o (FormatBlock f) s h t y a =
    let same : f.obj ≡ o = eqb-true f.obj o y in
    subst (λ n. IsMarkRecord sh R n (FormatBlock f)) same (record {
      move = step.Format f.dba;
      next = (next_marks_mean sh R f.obj s h.allowed a.kind.table).tells (step.Format f.dba) a.kind.first;
      is = ap (λ x. FormatBlock x) (only_format sh R f h.allowed a.kind);
    })
only_mark sh R o (Advance f) s h t y a =
    let same : f.obj ≡ o = eqb-true f.obj o y in
    subst (λ n. IsMarkRecord sh R n (Advance f)) same (record {
      move = step.Advance;
      next = (next_marks_mean sh R f.obj s h.allowed a.kind.table).tells step.Advance (record { formatted = a.kind.formatted; room = a.kind.room });
      is = ap (λ x. Advance x) (only_advance sh R f a.kind);
    })
only_mark sh R o (Extend f) s h t y a =
    let same : f.obj ≡ o = eqb-true f.obj o y in
    subst (λ n. IsMarkRecord sh R n (Extend f)) same (record {
      move = step.Extend f.extent;
      next = (next_marks_mean sh R f.obj s h.allowed a.kind.table).tells (step.Extend f.extent) (may_extend sh R f h a.kind);
      is = ap (λ x. Extend x) (only_extend sh R f a.kind);
    })
only_mark sh R o _ s h t y a = absurd (true≢false (sym y))

pub marks_are_allowed : MarksAreAllowed
marks_are_allowed sh R o s h t =
    let mean = next_marks_mean sh R o s h.allowed t in
    record {
      allowed = λ m e. mark_allowed sh R o m h t (mean.is m e);
      lawful = λ m e. record { allowed = (h.allowed, mark_allowed sh R o m h t (mean.is m e)); whole = mark_whole sh R o m };
      only = λ r y a. only_mark sh R o r s h t y a;
    }

-- row movement

movement_allowed : (sh : Shape) (R : List Record) (o : ℕ) (on : Bool) → IsLawful sh R → IsTable R o → IsAllowed sh R (Movement (drafted_movement sh R o on))
movement_allowed sh R o on h t = record { called_for = whole_calls R _ h.whole; kind = record { table = t; header = refl } }

only_movement : (sh : Shape) (R : List Record) (m : MovementRecord) → MovementAllowed sh R m → m ≡ drafted_movement sh R m.obj m.on
only_movement sh R m a = movement_same m (drafted_movement sh R m.obj m.on) refl a.header refl

pub movements_are_allowed : MovementsAreAllowed
movements_are_allowed sh R o h t = record {
  allowed = λ on. movement_allowed sh R o on h t;
  lawful = λ on. record { allowed = (h.allowed, movement_allowed sh R o on h t); whole = refl };
  only = λ m e a. subst (λ n. m ≡ drafted_movement sh R n m.on) e (only_movement sh R m a.kind);
}

-- new tables

table_allowed : (sh : Shape) (R : List Record) (name : List ℕ) (pctfree x : ℕ) → IsLawful sh R → MayMake R name pctfree → IsLeastFree sh R x → IsAllowed sh R (Table (drafted_table sh R name pctfree x))
table_allowed sh R name pctfree x h m l = record {
  called_for = whole_calls R _ h.whole;
  kind = record { named = m.named; new_name = m.new_name; few = m.few; pctfree = m.pctfree; number = refl; extent = x; room = l; header = refl };
}

no_such : (R : List Record) → IsTable R (suc (table_count R)) → ⊥
no_such R i = let m = i.most in omega (arith, m)

first_allowed : (sh : Shape) (R : List Record) (name : List ℕ) (pctfree x : ℕ) → AreAllowed sh R → IsLeastFree sh R x → IsAllowed sh (Table (drafted_table sh R name pctfree x) ∷ R) (Extend (drafted_first sh R x))
first_allowed sh R name pctfree x h l =
    let Q : List Record = Table (drafted_table sh R name pctfree x) ∷ R in
    let e : ExtendRecord = drafted_first sh R x in
    let none : extents_of R e.obj ≡ [] = fresh_extents sh R (suc (table_count R)) h (no_such R) in
    let new : Extent = record { number = x; incarnation = suc (length Q) } in
    let es : extents_of (Extend e ∷ Q) e.obj ≡ new ∷ [] = extended Q e ∙ ap (λ (xs : List Extent). xs ++ new ∷ []) none in
    record {
      called_for = (refl, refl);
      kind = record {
        table = record { least = omega arith; most = omega arith };
        extent = least_after sh (drafted_table sh R name pctfree x) R x l;
        index = ap (λ (xs : List Extent). length xs) (sym none);
        few = omega arith;
        full = λ z. absurd (omega (arith, z));
        formatted = λ z. absurd (omega (arith, z));
        header = ap (header_of sh) (sym es);
        l2 = ap (λ (xs : List Extent). l2_of sh xs 0) (sym es);
        l3 = ap (l3_of sh) (sym es);
      };
    }

makes_table : (sh : Shape) (R : List Record) (name : List ℕ) (pctfree x : ℕ) → IsLawful sh R → MayMake R name pctfree → IsLeastFree sh R x → MakesTable sh R name pctfree x
makes_table sh R name pctfree x h m l =
    let a = table_allowed sh R name pctfree x h m l in
    let b = first_allowed sh R name pctfree x h.allowed l in
    record { table = a; first = b; lawful = record { allowed = ((h.allowed, a), b); whole = refl } }

only_table : (sh : Shape) (R : List Record) (t : TableRecord) → is_shape sh ≡ true → TableAllowed sh R t → IsDraftedTable sh R t
only_table sh R t s a = record {
  extent = a.extent;
  least = least_free_found sh R a.extent s a.room;
  is = table_same t (drafted_table sh R t.name t.pctfree a.extent) a.number a.header refl refl;
}

pub tables_are_made : TablesAreMade
tables_are_made sh R s h = record {
  made = λ name pctfree x m e. makes_table sh R name pctfree x h m (least_free_is sh R x e);
  only = λ t a. only_table sh R t s a.kind;
}
