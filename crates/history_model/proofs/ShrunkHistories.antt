-- A shrink that stops at once, one that lowers, and three that are none.
use Rattle.std.proofs.Common.{◌≡◌, ℕ, zero, suc, ◌<◌, ◌≤◌, true, false, ◌||◌, eqb, eqb-true, List, [], ◌∷◌, slice_get, Some, refl, sym, subst, arith, lit<, lit≤, true≢false, inl, inr}
use Rattle.seg_words.proofs.Lemmas.{and_parts, or_cases}
use Rattle.seg_words.specs.Types.{Slot, Row, Head, is_empty}
use Rattle.redo_model.specs.Records.{Record, Reuse}
use Rattle.redo_model.specs.Model.{at_place, is_place, slot_count}
use Rattle.redo_model.specs.Worked.{small, returned, moved, lowered}
use Rattle.redo_laws.proofs.steps.Beyond.{beyond}
use Rattle.shrink_laws.specs.Stops.{IsAt, IsFull}
use Rattle.history_text.specs.declared.outcome.Stop.{Stop}
use Rattle.history_text.specs.declared.outcome.Stop.TheVariants.{NoFit, Bottom}
use Rattle.history_model.specs.Stopping.{HasCome, AreMovedAt}
use Rattle.history_model.specs.ShrinkMeans.{StopIs, CompactMeans, ShrinkMeans}
use Rattle.history_model.specs.Worked.{name_t}
use Rattle.history_model.specs.WorkedShrink.{shrink_span, extended, Stops, ShrinksAreShown}
use Rattle.history_model.proofs.Targets.{same_some}
use Rattle.history_model.proofs.OneHistory.{none_some}

row_no_head : Row ≡ Head → ⊥
row_no_head e = cc

-- behind its slots a block is empty
none_behind : (R : List Record) (b j : ℕ) → slot_count R b ≤ j → IsFull R b j → ⊥
none_behind R b j l f = true≢false (subst (λ (i : Slot). is_empty i.kind ≡ false) ((beyond R b j l).0) f)

none_above_one : (A : Type 0) (i : ℕ) → 1 < i → i ≤ 1 → A
none_above_one A i l m = absurd (omega (arith, l, m))

stops : Stops (NoFit (at_place 44 2))
stops = record {
  obj = 1;
  moves = record {
    table = refl;
    from = lit≤ tt;
    to = lit≤ tt;
    moves = refl;
    none_after = refl;
    count = refl;
    skipped_so = tt;
    skipped_at = tt;
    moved_at = tt;
    stops = record {
      place = 1;
      come = record {
        here = refl;
        not_first = lit≤ tt;
        within = lit≤ tt;
        full = refl;
        fresh = refl;
        greater = λ j l f. absurd (none_behind returned 44 j l f);
        higher = λ i b k l m a f. none_above_one _ i l m;
      };
      over = refl;
      not_down = λ h. row_no_head h.head;
      none_takes = refl;
    };
  };
  unlowered = refl;
}

-- positions 2 and 3 hold blocks without a slot
empty_above : (i b k : ℕ) → 1 < i → i ≤ 3 → IsAt small extended 1 i b → IsFull extended b k → ⊥
empty_above zero b k l m a f = omega (arith, l)
empty_above (suc zero) b k l m a f = omega (arith, l)
empty_above (suc (suc zero)) b k l m a f = none_behind extended 45 k (omega arith) (subst (λ z. IsFull extended z k) (sym (same_some 45 b a)) f)
empty_above (suc (suc (suc zero))) b k l m a f = none_behind extended 46 k (omega arith) (subst (λ z. IsFull extended z k) (sym (same_some 46 b a)) f)
empty_above (suc (suc (suc (suc i)))) b k l m a f = omega (arith, m)

-- the one Move came before it
before_it : (A : Type 0) → 34 ≤ 30 → A
before_it A l = absurd (omega (arith, l))

lowers : ShrinkMeans small (shrink_span extended lowered) name_t 0 0 (NoFit (at_place 44 2)) 1 4 [] 34
lowers = record {
  obj = 1;
  moves = record {
    table = refl;
    from = lit≤ tt;
    to = lit≤ tt;
    moves = refl;
    none_after = refl;
    count = refl;
    skipped_so = tt;
    skipped_at = tt;
    moved_at = (λ e l. before_it _ l, tt);
    stops = record {
      place = 1;
      come = record {
        here = refl;
        not_first = lit≤ tt;
        within = lit≤ tt;
        full = refl;
        fresh = refl;
        greater = λ j l f. absurd (none_behind extended 44 j l f);
        higher = λ i b k l m a f. absurd (empty_above i b k l m a f);
      };
      over = refl;
      not_down = λ h. row_no_head h.head;
      none_takes = refl;
    };
  };
  lowered = inl (record { before = extended; lower = _; table = refl; count = refl; ends = refl; only = refl });
  high_is = refl;
}

-- it is of table 1
stop_of : (o : ℕ) (stop : Stop) → Some 1 ≡ Some o → StopIs small returned returned o [] stop → StopIs small returned returned 1 [] stop
stop_of o stop e h = subst (λ z. StopIs small returned returned z [] stop) (sym (same_some 1 o e)) h

lower_named : Stops (NoFit (at_place 44 1)) → ⊥
lower_named m = let s = stop_of m.obj (NoFit (at_place 44 1)) m.moves.table m.moves.stops in true≢false (sym (s.come.greater 2 (lit< tt) refl))

bottom : Stops Bottom → ⊥
bottom m = let s = stop_of m.obj Bottom m.moves.table m.moves.stops in true≢false (sym (s 1 44 2 (lit< tt) (lit≤ tt) refl refl))

-- block 43 is at the first position alone
not_first_at : (i : ℕ) → 1 ≤ i → slice_get {X = ℕ} (43 ∷ 44 ∷ 45 ∷ 46 ∷ []) i ≡ Some 43 → ⊥
not_first_at zero l e = omega (arith, l)
not_first_at (suc zero) l e = let n : 44 ≡ 43 = same_some 44 43 e in omega (arith, n)
not_first_at (suc (suc zero)) l e = let n : 45 ≡ 43 = same_some 45 43 e in omega (arith, n)
not_first_at (suc (suc (suc zero))) l e = let n : 46 ≡ 43 = same_some 46 43 e in omega (arith, n)
not_first_at (suc (suc (suc (suc i)))) l e = none_some 43 e

-- of the slots that the Move names neither is the one to which the shrink had come
abbrev Before : List Record
Before = Reuse (record { block = 38; sequence = 1 }) ∷ returned

at_44 : (place : ℕ) → HasCome small returned Before 1 [] place 44 1 → ⊥
at_44 place c = true≢false (sym (c.greater 2 (lit< tt) refl))

at_43 : (place slot : ℕ) → HasCome small returned Before 1 [] place 43 slot → ⊥
at_43 place slot c = not_first_at place c.not_first c.here

is_neither : (place b k : ℕ) → (is_place 44 1 b k || (is_place 43 1 b k || false)) ≡ true → HasCome small returned Before 1 [] place b k → ⊥
is_neither place b k n c =
    elim (or_cases (is_place 44 1 b k) (is_place 43 1 b k || false) n) [
      | inl y ↦
          let p = and_parts (eqb 44 b) (eqb 1 k) y in
          at_44 place (subst (λ z. HasCome small returned Before 1 [] place 44 z) (sym (eqb-true 1 k p.1)) (subst (λ z. HasCome small returned Before 1 [] place z k) (sym (eqb-true 44 b p.0)) c))
      | inr z ↦ elim (or_cases (is_place 43 1 b k) false z) [
        | inl y ↦ at_43 place k (subst (λ z. HasCome small returned Before 1 [] place z k) (sym (eqb-true 43 b (and_parts (eqb 43 b) (eqb 1 k) y).0)) c)
        | inr f ↦ true≢false (sym f)
      ]
    ]

moved_past : (stop : Stop) → CompactMeans small (shrink_span returned moved) name_t 1 0 stop [] 31 → ⊥
moved_past stop m =
    let all : AreMovedAt small returned 1 [] moved = subst (λ z. AreMovedAt small returned z [] moved) (sym (same_some 1 m.obj m.moves.table)) m.moves.moved_at in
    let a = all.0 refl (lit≤ tt) in
    is_neither a.place a.block a.slot a.names a.come

pub shrinks_are_shown : ShrinksAreShown
shrinks_are_shown = record { stops_at_the_last_row = stops; releases_the_second_extent = lowers; lower_slot_named = lower_named; stopped_at_the_bottom = bottom; moved_past_a_greater_slot = moved_past }
