-- The second small history is legal: two sessions whose events alternate.
use Rattle.std.proofs.Common.{◌≡◌, ℕ, zero, suc, ◌<◌, ◌≤◌, Bool, true, false, List, [], drop, length, Option, Some, None, refl, sym, ◌∙◌, ap, subst, arith, lit<, lit≤, true≢false, ◌⊎◌, inl, inr}
use Rattle.seg_words.proofs.Lemmas.{agree_below, agree_below_at}
use Rattle.redo_model.specs.Records.{Record}
use Rattle.redo_model.specs.Model.{control_number, IsTable, table_count, table_named, TakesEntry, is_unused, entry_state, AreAllowed, IsLawful}
use Rattle.redo_model.specs.AllowedTransactions.{takes_unused, Unused}
use Rattle.redo_model.proofs.Cleaned.{clean_one}
use Rattle.redo_model.specs.Worked.{small}
use Rattle.script_text.specs.declared.statement.Target.{Target}
use Rattle.script_text.specs.declared.statement.Target.TheVariants.{Label}
use Rattle.history_text.specs.declared.refusal.Refusal.{Refusal}
use Rattle.history_text.specs.declared.refusal.Refusal.TheVariants as why
use Rattle.history_model.specs.declared.limit.TheConstants.{NEW_WORK_RECORDS}
use Rattle.history_model.specs.History.{Task, IsSession, statement_of, owner, bound}
use Rattle.history_model.specs.Spans.{Span}
use Rattle.history_model.specs.Order.{bars}
use Rattle.history_model.specs.Causes.{Cause, IsOnRow, row_seen}
use Rattle.history_model.specs.Makes.{Makes}
use Rattle.history_model.specs.Legal.{Belongs, BelongsTo, IsCalledBy, AreMade, made_none, made_one, AreTold, IsLegal}
use Rattle.history_model.specs.Worked.{name_t, label_a, text_one, text_two, text_three, update_a, two_scripts, two_records, two_history, one_inserted}
use Rattle.history_model.proofs.Targets.{one_obj, one_row}
use Rattle.history_model.proofs.Passing.{passes_first}
use Rattle.history_model.specs.Passing.{FirstPass}
use Rattle.history_model.proofs.OneHistory.{span_at, some_none, none_some, not_full, none_formatted, table_passes, insert_passes, commit_passes, scan_passes}

-- its records are lawful

there : {R : List Record} → 1 ≤ table_count R → IsTable R 1
there h = record { least = lit≤ tt; most = h }

below : (n : ℕ) (p : ℕ → Bool) → agree_below p (λ j. false) n ≡ true → (j : ℕ) → j < n → p j ≡ false
below n p h j l = agree_below_at p (λ j. false) n j h l

least_unused : (R : List Record) (i c : ℕ) → i < 96 → entry_state R i ≡ Unused → agree_below (λ j. is_unused (entry_state R j)) (λ j. false) i ≡ true → c ≡ control_number R → TakesEntry R i c
least_unused R i c l u h e = takes_unused (record { within = l; unused = u; least = below i (λ j. is_unused (entry_state R j)) h; control_stays = e })

with_table : AreAllowed small (drop 16 two_records)
with_table = (tt, record { called_for = tt; kind = record { named = refl; new_name = refl; few = lit< tt; pctfree = lit≤ tt; number = refl; extent = 0; room = record { free = refl; least = λ y l. absurd (omega (arith, l)) }; header = refl } })

with_extend : AreAllowed small (drop 15 two_records)
with_extend = (with_table, record { called_for = (refl, refl); kind = record { table = there (lit≤ tt); extent = record { free = refl; least = λ y l. absurd (omega (arith, l)) }; index = refl; few = lit< tt; full = λ h. absurd (omega arith); formatted = λ h. absurd (omega arith); header = refl; l2 = refl; l3 = refl } })

with_advance : AreAllowed small (drop 14 two_records)
with_advance = (with_extend, record { called_for = tt; kind = record { table = there (lit≤ tt); header = refl; formatted = refl; room = lit< tt; low = refl; high = refl } })

with_format : AreAllowed small (drop 13 two_records)
with_format = (with_advance, record { called_for = tt; kind = record { table = there (lit≤ tt); first = refl; bitmaps = record { index_is = refl; l2_is = refl; l3_is = refl }; bests = record { l1 = refl; l2 = refl } } })

with_begin : AreAllowed small (drop 12 two_records)
with_begin = (with_format, record { called_for = tt; kind = record { number = refl; session_from = lit≤ tt; session_to = lit≤ tt; none_open = refl; entry = least_unused (drop 13 two_records) 0 0 (lit< tt) refl refl refl } })

with_reuse : AreAllowed small (drop 11 two_records)
with_reuse = (with_begin, record { called_for = tt; kind = record { block = record { next = refl }; sequence = refl } })

with_insert : AreAllowed small (drop 10 two_records)
with_insert = (with_reuse, record { called_for = tt; kind = record { change = record { table = there (lit≤ tt); active = refl; entry = refl; undo = record { current = refl; sequence = refl; place = refl; fits = refl }; previous = refl }; number = refl; bytes = text_one; size = record { least = lit≤ tt; most = lit≤ tt }; block = 43; here = record { here = (0, lit< tt, refl); formatted = refl }; takes = refl; entry = 0; enters = record { entry_is = refl }; parts = refl } })

with_commit : AreAllowed small (drop 9 two_records)
with_commit = (with_insert, record { called_for = tt; kind = record { active = refl; number = refl; entry = refl; whole = refl } })

with_clean : AreAllowed small (drop 8 two_records)
with_clean = (with_commit, record { called_for = tt; kind = clean_one small (drop 9 two_records) 1 43 1 1 (record { here = (0, lit< tt, refl); formatted = refl }) refl refl refl refl refl refl })

with_begin_2 : AreAllowed small (drop 7 two_records)
with_begin_2 = (with_clean, record { called_for = tt; kind = record { number = refl; session_from = lit≤ tt; session_to = lit≤ tt; none_open = refl; entry = least_unused (drop 8 two_records) 1 0 (lit< tt) refl refl refl } })

with_update_2 : AreAllowed small (drop 6 two_records)
with_update_2 = (with_begin_2, record { called_for = tt; kind = record { change = record { change = record { table = there (lit≤ tt); active = refl; entry = refl; undo = record { current = refl; sequence = refl; place = refl; fits = refl }; previous = refl }; was = text_one; there = refl; free = λ h. absurd (true≢false (sym h)) }; bytes = text_two; size = record { least = lit≤ tt; most = lit≤ tt }; block = 43; slot = 0; holds = refl; row = refl; fits = refl; entry = 0; enters = record { entry_is = refl }; parts = refl } })

with_commit_2 : AreAllowed small (drop 5 two_records)
with_commit_2 = (with_update_2, record { called_for = tt; kind = record { active = refl; number = refl; entry = refl; whole = refl } })

with_clean_2 : AreAllowed small (drop 4 two_records)
with_clean_2 = (with_commit_2, record { called_for = tt; kind = clean_one small (drop 5 two_records) 1 43 2 2 (record { here = (0, lit< tt, refl); formatted = refl }) refl refl refl refl refl refl })

with_begin_3 : AreAllowed small (drop 3 two_records)
with_begin_3 = (with_clean_2, record { called_for = tt; kind = record { number = refl; session_from = lit≤ tt; session_to = lit≤ tt; none_open = refl; entry = least_unused (drop 4 two_records) 2 0 (lit< tt) refl refl refl } })

with_update_3 : AreAllowed small (drop 2 two_records)
with_update_3 = (with_begin_3, record { called_for = tt; kind = record { change = record { change = record { table = there (lit≤ tt); active = refl; entry = refl; undo = record { current = refl; sequence = refl; place = refl; fits = refl }; previous = refl }; was = text_two; there = refl; free = λ h. absurd (true≢false (sym h)) }; bytes = text_three; size = record { least = lit≤ tt; most = lit≤ tt }; block = 43; slot = 0; holds = refl; row = refl; fits = refl; entry = 0; enters = record { entry_is = refl }; parts = refl } })

with_commit_3 : AreAllowed small (drop 1 two_records)
with_commit_3 = (with_update_3, record { called_for = tt; kind = record { active = refl; number = refl; entry = refl; whole = refl } })

with_clean_3 : AreAllowed small (drop 0 two_records)
with_clean_3 = (with_commit_3, record { called_for = tt; kind = clean_one small (drop 1 two_records) 1 43 3 3 (record { here = (0, lit< tt, refl); formatted = refl }) refl refl refl refl refl refl })

two_lawful : IsLawful small two_records
two_lawful = record { allowed = with_clean_3; whole = refl }

-- which statement each record belongs to: the other session has no statement in whose range the record stands

one_of_two : (v : ℕ) → IsSession two_scripts v → (v ≡ 1) ⊎ (v ≡ 2)
one_of_two zero s = let l = s.from in absurd (omega (arith, l))
one_of_two (suc zero) s = inl refl
one_of_two (suc (suc zero)) s = inr refl
one_of_two (suc (suc (suc v))) s = let l : suc (suc (suc v)) ≤ 2 = s.to in absurd (omega (arith, l))

not_owner : (Q : List Record) (r : Record) (v : ℕ) → owner two_history v (length Q) ≡ None → BelongsTo small two_scripts two_history Q r v → ⊥
not_owner Q r v e b = none_some b.task (sym e ∙ b.owned)

by_1 : (Q : List Record) (r : Record) (task : Task) → owner two_history 1 (length Q) ≡ Some task → owner two_history 2 (length Q) ≡ None → Makes small two_scripts task.past 1 (statement_of two_scripts 1 task.place) Q r → Belongs small two_scripts two_history Q r
by_1 Q r task o e m = record {
  session = 1;
  to = record { session = record { from = lit≤ tt; to = lit≤ tt }; task = task; owned = o; makes = m };
  alone = λ v b. elim (one_of_two v b.session) [ inl y ↦ y | inr y ↦ absurd (not_owner Q r v (subst (λ k. owner two_history k (length Q) ≡ None) (sym y) e) b) ];
}

by_2 : (Q : List Record) (r : Record) (task : Task) → owner two_history 2 (length Q) ≡ Some task → owner two_history 1 (length Q) ≡ None → Makes small two_scripts task.past 2 (statement_of two_scripts 2 task.place) Q r → Belongs small two_scripts two_history Q r
by_2 Q r task o e m = record {
  session = 2;
  to = record { session = record { from = lit≤ tt; to = lit≤ tt }; task = task; owned = o; makes = m };
  alone = λ v b. elim (one_of_two v b.session) [ inl y ↦ absurd (not_owner Q r v (subst (λ k. owner two_history k (length Q) ≡ None) (sym y) e) b) | inr y ↦ y ];
}

called_by : (Q : List Record) (r : Record) (task : Task) → owner two_history 1 (length Q) ≡ Some task → Makes small two_scripts task.past 1 (statement_of two_scripts 1 task.place) Q r → IsCalledBy small two_scripts two_history Q r
called_by Q r task o m = record { session = 1; to = record { session = record { from = lit≤ tt; to = lit≤ tt }; task = task; owned = o; makes = m } }

abbrev Made : List Record → Type 0
Made R = AreMade small two_scripts two_history [] R

made_first : Made (drop 8 two_records)
made_first =
    made_one _ (made_one _ (made_one _ (made_one _ (made_one _ (made_one _ (made_one _ (made_one _ (made_one _ made_none
    (by_1 _ _ _ refl refl (record { named = refl; share = refl })))
    (inl refl))
    (called_by _ _ _ refl (record { table = refl; none = λ b h. none_formatted _ b _ _ refl h })))
    (called_by _ _ _ refl (record { table = refl; none = λ b h. none_formatted _ b _ _ refl h })))
    (by_1 _ _ _ refl refl refl))
    tt)
    (by_1 _ _ _ refl refl (record { own = refl; table = refl }, refl)))
    (by_1 _ _ _ refl refl refl))
    (record { slot = 0; there = lit< tt; txn = 1; names = refl; number = 1; committed = refl; known = refl })

made_second : Made (drop 4 two_records)
made_second =
    made_one _ (made_one _ (made_one _ (made_one _ made_first
    (by_1 _ _ _ refl refl refl))
    (by_1 _ _ _ refl refl (record { row = record { own = refl; table = refl }; meant = refl }, refl)))
    (by_1 _ _ _ refl refl refl))
    (record { slot = 0; there = lit< tt; txn = 2; names = refl; number = 2; committed = refl; known = refl })

made : Made two_records
made =
    made_one _ (made_one _ (made_one _ (made_one _ made_second
    (by_2 _ _ _ refl refl refl))
    (by_2 _ _ _ refl refl (record { row = record { own = refl; table = refl }; meant = refl }, refl)))
    (by_2 _ _ _ refl refl refl))
    (record { slot = 0; there = lit< tt; txn = 3; names = refl; number = 3; committed = refl; known = refl })

-- causes that are passed over

abbrev label_in : Option Target → List ℕ
label_in (Some (Label l)) = l
label_in _ = []

-- by an update, where its table is there and its label stands for a row
update_passes : (x : Span) (text : List ℕ) (o n : ℕ) → table_named x.begun name_t ≡ Some o → bound x.scripts x.past label_a ≡ Some n → length x.begun < NEW_WORK_RECORDS → FirstPass small x (update_a text)
update_passes x text o n e b l = record {
  table = λ h. some_none o (sym e ∙ h);
  new_name = λ h. h;
  few_tables = λ h. h;
  movement = λ h. h;
  no_transaction = λ h. h;
  unshrunk = λ v h. h;
  log = λ h. not_full (length x.begun) l h;
  data_block = λ b h. h;
  value = λ v h. h;
  label = λ k h. some_none n (sym b ∙ (ap (λ t. bound x.scripts x.past (label_in t)) h.0 ∙ h.1));
}

on_row : (x : Span) (text : List ℕ) (o n : ℕ) → table_named x.begun name_t ≡ Some o → bound x.scripts x.past label_a ≡ Some n → IsOnRow x (update_a text) o n
on_row x text o n e b = record { name = name_t; named = refl; table = e; target = Label label_a; targeted = refl; row = b }

-- and, where the row is seen too, by one that is refused as busy
busy_passes : (x : Span) (text : List ℕ) (o n u : ℕ) (was : List ℕ) → FirstPass small x (update_a text) → IsOnRow x (update_a text) o n → row_seen x o n ≡ Some was → (y : Refusal) → bars y (why.Busy u) ≡ true → Cause small x (update_a text) 0 y → ⊥
busy_passes x text o n u was f on s why.NoTable t h = f.table h
busy_passes x text o n u was f on s why.TableExists t h = f.new_name h
busy_passes x text o n u was f on s why.TooManyTables t h = f.few_tables h
busy_passes x text o n u was f on s why.MovementOff t h = f.movement h
busy_passes x text o n u was f on s why.TransactionOpen t h = f.no_transaction h
busy_passes x text o n u was f on s (why.ShrinkBusy v) t h = f.unshrunk v h
busy_passes x text o n u was f on s why.LogFull t h = f.log h
busy_passes x text o n u was f on s (why.NotDataBlock b) t h = f.data_block b h
busy_passes x text o n u was f on s (why.BadValue v) t h = f.value v h
busy_passes x text o n u was f on s (why.Unbound l) t h = f.label l h
busy_passes x text o n u was f on s (why.NoRow m) t h =
    some_none was (sym (subst (λ k. row_seen x k m ≡ Some was) (one_obj x _ o n h.obj m on h.on) (subst (λ k. row_seen x o k ≡ Some was) (one_row x _ o n h.obj m on h.on) s)) ∙ h.none)
busy_passes x text o n u was f on s y t h = true≢false (sym t)

-- the history

told_inserted : AreTold small two_scripts 0 two_records one_inserted
told_inserted = (
  record {
    task = _;
    started = refl;
    begins = refl;
    ordinal = refl;
    order = lit≤ tt;
    grows = lit≤ tt;
    within = lit≤ tt;
    means = record { before = _; body = _; change = record { table = refl; own = refl; one = refl; event = drop 13 two_records; idle = record { own = refl; rows = refl; begins = refl }; begin = Some (record { txn = 1; session = 1; entry = 0; control = 0 }); reuse = Some (record { block = 37; sequence = 1 }); before_is = refl }; number = refl; text_is = refl; block = 43; is_found = record { sought = _; seeks = record { obj = 1; table = refl; sought = refl }; hint = None; found_is = refl }; at = refl; ends = refl };
    passes = passes_first small (span_at two_scripts two_records 1 1 2 (drop 2 one_inserted) 7) _ 0 (insert_passes (span_at two_scripts two_records 1 1 2 (drop 2 one_inserted) 7) text_one 1 refl (lit< tt));
  },
  (
    record { session = record { from = lit≤ tt; to = lit≤ tt }; idle = refl; place = lit≤ tt; closing = λ e. absurd (some_none _ e); order = lit≤ tt; within = lit≤ tt },
    (
      record {
        task = _;
        started = refl;
        begins = refl;
        ordinal = refl;
        order = lit≤ tt;
        grows = lit≤ tt;
        within = lit≤ tt;
        means = (refl, record { table = _; extend = _; named = refl; share = refl; ends = refl });
        passes = passes_first small (span_at two_scripts two_records 1 0 0 [] 2) _ 0 (table_passes (span_at two_scripts two_records 1 0 0 [] 2) refl);
      },
      (
        record { session = record { from = lit≤ tt; to = lit≤ tt }; idle = refl; place = lit≤ tt; closing = λ e. absurd (some_none _ e); order = lit≤ tt; within = lit≤ tt },
        tt,
      ),
    ),
  ),
)

told_busy : AreTold small two_scripts 0 two_records (drop 7 two_history)
told_busy = (
  record { session = record { from = lit≤ tt; to = lit≤ tt }; idle = refl; place = lit≤ tt; closing = λ e. absurd (some_none _ e); order = lit≤ tt; within = lit≤ tt },
  (
    record {
      task = _;
      started = refl;
      begins = refl;
      ordinal = refl;
      order = lit≤ tt;
      grows = lit≤ tt;
      within = lit≤ tt;
      means = record {
        keeps = refl;
        cause = record { obj = 1; row = 1; on = on_row (span_at two_scripts two_records 2 0 11 (drop 10 two_history) 11) text_three 1 1 refl refl; was = text_one; there = refl; busy = record { step = _; newest = refl; by_is = refl; active = refl; other = λ e. absurd (omega (arith, e)) } };
        at_once = λ e. absurd (true≢false (sym e));
        so_far = record { own = refl; rows = refl; begins = refl };
      };
      passes = busy_passes (span_at two_scripts two_records 2 0 11 (drop 10 two_history) 11) text_three 1 1 2 text_one (update_passes (span_at two_scripts two_records 2 0 11 (drop 10 two_history) 11) text_three 1 1 refl refl (lit< tt)) (on_row (span_at two_scripts two_records 2 0 11 (drop 10 two_history) 11) text_three 1 1 refl refl) refl;
    },
    (
      record { session = record { from = lit≤ tt; to = lit≤ tt }; idle = refl; place = lit≤ tt; closing = λ e. absurd (some_none _ e); order = lit≤ tt; within = lit≤ tt },
      (
        record {
          task = _;
          started = refl;
          begins = refl;
          ordinal = refl;
          order = lit≤ tt;
          grows = lit≤ tt;
          within = lit≤ tt;
          means = record { before = _; body = _; change = record { table = refl; own = refl; one = refl; event = drop 8 two_records; idle = record { own = refl; rows = refl; begins = refl }; begin = Some (record { txn = 2; session = 1; entry = 1; control = 0 }); reuse = None; before_is = refl }; number = refl; meant = refl; text_is = refl; made = _; kind = refl; goes = tt; ends = refl };
          passes = passes_first small (span_at two_scripts two_records 1 3 9 (drop 12 two_history) 11) _ 0 (update_passes (span_at two_scripts two_records 1 3 9 (drop 12 two_history) 11) text_two 1 1 refl refl (lit< tt));
        },
        (
          record { session = record { from = lit≤ tt; to = lit≤ tt }; idle = refl; place = lit≤ tt; closing = λ e. absurd (some_none _ e); order = lit≤ tt; within = lit≤ tt },
          (
            record {
              task = _;
              started = refl;
              begins = refl;
              ordinal = refl;
              order = lit≤ tt;
              grows = lit≤ tt;
              within = lit≤ tt;
              means = record { commit = _; own = refl; number_is = refl; ends = refl };
              passes = passes_first small (span_at two_scripts two_records 1 2 7 one_inserted 8) _ 0 (commit_passes (span_at two_scripts two_records 1 2 7 one_inserted 8));
            },
            (
              record { session = record { from = lit≤ tt; to = lit≤ tt }; idle = refl; place = lit≤ tt; closing = λ e. absurd (some_none _ e); order = lit≤ tt; within = lit≤ tt },
              told_inserted,
            ),
          ),
        ),
      ),
    ),
  ),
)

told : AreTold small two_scripts 0 two_records two_history
told = (
  record {
    task = _;
    started = refl;
    begins = refl;
    ordinal = refl;
    order = lit≤ tt;
    grows = lit≤ tt;
    within = lit≤ tt;
    means = (refl, record { obj = 1; table = refl; number = refl; each = refl; there = refl });
    passes = passes_first small (span_at two_scripts two_records 2 3 17 (drop 2 two_history) 17) _ 0 (scan_passes (span_at two_scripts two_records 2 3 17 (drop 2 two_history) 17) 1 refl);
  },
  (
    record { session = record { from = lit≤ tt; to = lit≤ tt }; idle = refl; place = lit≤ tt; closing = λ e. absurd (some_none _ e); order = lit≤ tt; within = lit≤ tt },
    (
      record {
        task = _;
        started = refl;
        begins = refl;
        ordinal = refl;
        order = lit≤ tt;
        grows = lit≤ tt;
        within = lit≤ tt;
        means = record { commit = _; own = refl; number_is = refl; ends = refl };
        passes = passes_first small (span_at two_scripts two_records 2 2 15 (drop 4 two_history) 16) _ 0 (commit_passes (span_at two_scripts two_records 2 2 15 (drop 4 two_history) 16));
      },
      (
        record { session = record { from = lit≤ tt; to = lit≤ tt }; idle = refl; place = lit≤ tt; closing = λ e. absurd (some_none _ e); order = lit≤ tt; within = lit≤ tt },
        (
          record {
            task = _;
            started = refl;
            begins = refl;
            ordinal = refl;
            order = lit≤ tt;
            grows = lit≤ tt;
            within = lit≤ tt;
            means = record { before = _; body = _; change = record { table = refl; own = refl; one = refl; event = drop 4 two_records; idle = record { own = refl; rows = refl; begins = refl }; begin = Some (record { txn = 3; session = 2; entry = 2; control = 0 }); reuse = None; before_is = refl }; number = refl; meant = refl; text_is = refl; made = _; kind = refl; goes = tt; ends = refl };
            passes = passes_first small (span_at two_scripts two_records 2 1 13 (drop 6 two_history) 15) _ 0 (update_passes (span_at two_scripts two_records 2 1 13 (drop 6 two_history) 15) text_three 1 1 refl refl (lit< tt));
          },
          (
            record { session = record { from = lit≤ tt; to = lit≤ tt }; idle = refl; place = lit≤ tt; closing = λ e. absurd (some_none _ e); order = lit≤ tt; within = lit≤ tt },
            (
              record {
                task = _;
                started = refl;
                begins = refl;
                ordinal = refl;
                order = lit≤ tt;
                grows = lit≤ tt;
                within = lit≤ tt;
                means = record { commit = _; own = refl; number_is = refl; ends = refl };
                passes = passes_first small (span_at two_scripts two_records 1 4 11 (drop 8 two_history) 12) _ 0 (commit_passes (span_at two_scripts two_records 1 4 11 (drop 8 two_history) 12));
              },
              told_busy,
            ),
          ),
        ),
      ),
    ),
  ),
)

pub two_legal : IsLegal small two_scripts [] two_records two_history
two_legal = record { lawful = two_lawful; made = made; told = told }
