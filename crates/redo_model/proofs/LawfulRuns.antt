-- The small runs are lawful: each of the nineteen kinds is allowed where it stands in them.
use Rattle.std.proofs.Common.{◌≡◌, ℕ, ◌<◌, ◌≤◌, Bool, true, false, List, [], drop, refl, sym, arith, lit<, lit≤, true≢false}
use Rattle.seg_words.proofs.Lemmas.{agree_below, agree_below_at}
use Rattle.redo_model.specs.Records.{Record}
use Rattle.redo_model.specs.Model.{control_number, IsTable, table_count, IsLeastFree, is_free_extent, TakesEntry, is_unused, entry_state, AreAllowed, IsLawful}
use Rattle.redo_model.specs.AllowedTransactions.{takes_unused, Unused}
use Rattle.redo_model.proofs.Cleaned.{clean_one}
use Rattle.redo_model.specs.AllowedRows.{migrates_plain, deletes_plain}
use Rattle.redo_model.specs.AllowedMoves.{moves_plain}
use Rattle.redo_model.specs.Worked.{small, letters, hello, nine, three, migrated, backed, migrated_for_good, updated, restored_body, filled, returned, moved, half_deleted, reused, lowered}

-- a test of numbers below n holds at each where it computes
below : (n : ℕ) (p : ℕ → Bool) → agree_below p (λ j. false) n ≡ true → (j : ℕ) → j < n → p j ≡ false
below n p h j l = agree_below_at p (λ j. false) n j h l

-- the least free extent of the first x
least_free : (R : List Record) (x : ℕ) → is_free_extent small R x ≡ true → agree_below (is_free_extent small R) (λ y. false) x ≡ true → IsLeastFree small R x
least_free R x f h = record { free = f; least = λ y l. below x (is_free_extent small R) h y (omega arith) }

-- the least unused entry
least_unused : (R : List Record) (i c : ℕ) → i < 96 → entry_state R i ≡ Unused → agree_below (λ j. is_unused (entry_state R j)) (λ j. false) i ≡ true → c ≡ control_number R → TakesEntry R i c
least_unused R i c l u h e = takes_unused (record { within = l; unused = u; least = below i (λ j. is_unused (entry_state R j)) h; control_stays = e })

pub run_table : AreAllowed small (drop 8 nine)
run_table = (tt, record { called_for = tt; kind = record { named = refl; new_name = refl; few = lit< tt; pctfree = lit≤ tt; number = refl; extent = 0; room = least_free [] 0 refl refl; header = refl } })

pub run_extend : AreAllowed small (drop 7 nine)
run_extend = (
  run_table,
  record {
    called_for = (refl, refl);
    kind = record {
      table = record { least = lit≤ tt; most = lit≤ tt };
      extent = least_free (drop 8 nine) 0 refl refl;
      index = refl;
      few = lit< tt;
      full = λ h. absurd (omega arith);
      formatted = λ h. absurd (omega arith);
      header = refl;
      l2 = refl;
      l3 = refl;
    };
  },
)

pub run_advance : AreAllowed small (drop 6 nine)
run_advance = (run_extend, record { called_for = tt; kind = record { table = record { least = lit≤ tt; most = lit≤ tt }; header = refl; formatted = refl; room = lit< tt; low = refl; high = refl } })

pub run_format : AreAllowed small (drop 5 nine)
run_format = (
  run_advance,
  record {
    called_for = tt;
    kind = record {
      table = record { least = lit≤ tt; most = lit≤ tt };
      first = refl;
      bitmaps = record { index_is = refl; l2_is = refl; l3_is = refl };
      bests = record { l1 = refl; l2 = refl };
    };
  },
)

pub run_begin : AreAllowed small (drop 4 nine)
run_begin = (run_format, record { called_for = tt; kind = record { number = refl; session_from = lit≤ tt; session_to = lit≤ tt; none_open = refl; entry = least_unused (drop 5 nine) 0 0 (lit< tt) refl refl refl } })

pub run_reuse : AreAllowed small (drop 3 nine)
run_reuse = (run_begin, record { called_for = tt; kind = record { block = record { next = refl }; sequence = refl } })

pub run_insert : AreAllowed small (drop 2 nine)
run_insert = (
  run_reuse,
  record {
    called_for = tt;
    kind = record {
      change = record {
        table = record { least = lit≤ tt; most = lit≤ tt };
        active = refl;
        entry = refl;
        undo = record { current = refl; sequence = refl; place = refl; fits = refl };
        previous = refl;
      };
      number = refl;
      bytes = hello;
      size = record { least = lit≤ tt; most = lit≤ tt };
      block = 43;
      here = record { here = (0, lit< tt, refl); formatted = refl };
      takes = refl;
      entry = 0;
      enters = record { entry_is = refl };
      parts = refl;
    };
  },
)

pub run_commit : AreAllowed small (drop 1 nine)
run_commit = (run_insert, record { called_for = tt; kind = record { active = refl; number = refl; entry = refl; whole = refl } })

pub nine_lawful : IsLawful small nine
nine_lawful = record { allowed = (run_commit, record { called_for = tt; kind = clean_one small (drop 1 nine) 1 43 1 1 (record { here = (0, lit< tt, refl); formatted = refl }) refl refl refl refl refl refl }); whole = refl }

-- the second run, up to its three rows

three_table : AreAllowed small (drop 12 three)
three_table = (tt, record { called_for = tt; kind = record { named = refl; new_name = refl; few = lit< tt; pctfree = lit≤ tt; number = refl; extent = 0; room = least_free [] 0 refl refl; header = refl } })

there : {R : List Record} → 1 ≤ table_count R → IsTable R 1
there h = record { least = lit≤ tt; most = h }

three_extend : AreAllowed small (drop 11 three)
three_extend = (
  three_table,
  record {
    called_for = (refl, refl);
    kind = record {
      table = there (lit≤ tt);
      extent = least_free (drop 12 three) 0 refl refl;
      index = refl;
      few = lit< tt;
      full = λ h. absurd (omega arith);
      formatted = λ h. absurd (omega arith);
      header = refl;
      l2 = refl;
      l3 = refl;
    };
  },
)

three_movement : AreAllowed small (drop 10 three)
three_movement = (three_extend, record { called_for = tt; kind = record { table = there (lit≤ tt); header = refl } })

three_advance : AreAllowed small (drop 9 three)
three_advance = (three_movement, record { called_for = tt; kind = record { table = there (lit≤ tt); header = refl; formatted = refl; room = lit< tt; low = refl; high = refl } })

three_format : AreAllowed small (drop 8 three)
three_format = (
  three_advance,
  record {
    called_for = tt;
    kind = record {
      table = there (lit≤ tt);
      first = refl;
      bitmaps = record { index_is = refl; l2_is = refl; l3_is = refl };
      bests = record { l1 = refl; l2 = refl };
    };
  },
)

three_begin : AreAllowed small (drop 7 three)
three_begin = (three_format, record { called_for = tt; kind = record { number = refl; session_from = lit≤ tt; session_to = lit≤ tt; none_open = refl; entry = least_unused (drop 8 three) 0 0 (lit< tt) refl refl refl } })

three_reuse : AreAllowed small (drop 6 three)
three_reuse = (three_begin, record { called_for = tt; kind = record { block = record { next = refl }; sequence = refl } })

three_insert_1 : AreAllowed small (drop 5 three)
three_insert_1 = (
  three_reuse,
  record {
    called_for = tt;
    kind = record {
      change = record { table = there (lit≤ tt); active = refl; entry = refl; undo = record { current = refl; sequence = refl; place = refl; fits = refl }; previous = refl };
      number = refl;
      bytes = letters 100 120;
      size = record { least = lit≤ tt; most = lit≤ tt };
      block = 43;
      here = record { here = (0, lit< tt, refl); formatted = refl };
      takes = refl;
      entry = 0;
      enters = record { entry_is = refl };
      parts = refl;
    };
  },
)

three_insert_2 : AreAllowed small (drop 4 three)
three_insert_2 = (
  three_insert_1,
  record {
    called_for = tt;
    kind = record {
      change = record { table = there (lit≤ tt); active = refl; entry = refl; undo = record { current = refl; sequence = refl; place = refl; fits = refl }; previous = refl };
      number = refl;
      bytes = letters 1800 121;
      size = record { least = lit≤ tt; most = lit≤ tt };
      block = 43;
      here = record { here = (0, lit< tt, refl); formatted = refl };
      takes = refl;
      entry = 0;
      enters = record { entry_is = refl };
      parts = refl;
    };
  },
)

three_insert_3 : AreAllowed small (drop 3 three)
three_insert_3 = (
  three_insert_2,
  record {
    called_for = tt;
    kind = record {
      change = record { table = there (lit≤ tt); active = refl; entry = refl; undo = record { current = refl; sequence = refl; place = refl; fits = refl }; previous = refl };
      number = refl;
      bytes = letters 1790 122;
      size = record { least = lit≤ tt; most = lit≤ tt };
      block = 43;
      here = record { here = (0, lit< tt, refl); formatted = refl };
      takes = refl;
      entry = 0;
      enters = record { entry_is = refl };
      parts = refl;
    };
  },
)

three_commit : AreAllowed small (drop 2 three)
three_commit = (three_insert_3, record { called_for = tt; kind = record { active = refl; number = refl; entry = refl; whole = refl } })

three_clean : AreAllowed small (drop 1 three)
three_clean = (three_commit, record { called_for = tt; kind = clean_one small (drop 2 three) 1 43 1 1 (record { here = (0, lit< tt, refl); formatted = refl }) refl refl refl refl refl refl })

three_class : AreAllowed small three
three_class = (
  three_clean,
  record {
    called_for = tt;
    kind = record {
      table = there (lit≤ tt);
      here = record { here = (0, lit< tt, refl); formatted = refl };
      formatted_class = lit≤ tt;
      another = refl;
      bitmaps = record { index_is = refl; l2_is = refl; l3_is = refl };
      bests = record { l1 = refl; l2 = refl };
    };
  },
)

-- the migration, its rollback, its commit

migrated_format : AreAllowed small (drop 2 migrated)
migrated_format = (
  three_class,
  record {
    called_for = tt;
    kind = record {
      table = there (lit≤ tt);
      first = refl;
      bitmaps = record { index_is = refl; l2_is = refl; l3_is = refl };
      bests = record { l1 = refl; l2 = refl };
    };
  },
)

migrated_begin : AreAllowed small (drop 1 migrated)
migrated_begin = (migrated_format, record { called_for = tt; kind = record { number = refl; session_from = lit≤ tt; session_to = lit≤ tt; none_open = refl; entry = least_unused (drop 2 migrated) 1 0 (lit< tt) refl refl refl } })

migrated_row : AreAllowed small migrated
migrated_row = (
  migrated_begin,
  record {
    called_for = tt;
    kind = migrates_plain (record {
      change = record {
        change = record { table = there (lit≤ tt); active = refl; entry = refl; undo = record { current = refl; sequence = refl; place = refl; fits = refl }; previous = refl };
        was = letters 100 120;
        there = refl;
        free = λ h. absurd (true≢false (sym h));
      };
      bytes = letters 400 119;
      size = record { least = lit≤ tt; most = lit≤ tt };
      block = 43;
      slot = 0;
      plain = record { kind = refl; row = refl };
      no_room = refl;
      entry = 0;
      enters = record { entry_is = refl };
      target = 44;
      target_entry = 0;
      target_allowed = record { here = record { here = (1, lit< tt, refl); formatted = refl }; takes = refl; enters = record { entry_is = refl } };
      other = λ e. absurd (omega arith);
      parts = refl;
    });
  },
)

backed_back : AreAllowed small (drop 1 backed)
backed_back = (migrated_row, record { called_for = tt; kind = record { active = refl; entry = refl; step = _; newest = refl; obj = refl; row = refl; undo = refl; previous = refl; parts = refl; last = refl } })

pub backed_lawful : IsLawful small backed
backed_lawful = record { allowed = (backed_back, record { called_for = tt; kind = record { active = refl; entry = refl; none_left = refl } }); whole = refl }

for_good : AreAllowed small migrated_for_good
for_good = (migrated_row, record { called_for = tt; kind = record { active = refl; number = refl; entry = refl; whole = refl } })

-- an update in place, its rollback

updated_begin : AreAllowed small (drop 1 updated)
updated_begin = (for_good, record { called_for = tt; kind = record { number = refl; session_from = lit≤ tt; session_to = lit≤ tt; none_open = refl; entry = least_unused migrated_for_good 2 0 (lit< tt) refl refl refl } })

updated_row : AreAllowed small updated
updated_row = (
  updated_begin,
  record {
    called_for = tt;
    kind = record {
      change = record {
        change = record { table = there (lit≤ tt); active = refl; entry = refl; undo = record { current = refl; sequence = refl; place = refl; fits = refl }; previous = refl };
        was = letters 400 119;
        there = refl;
        free = λ h. absurd (true≢false (sym h));
      };
      bytes = letters 500 118;
      size = record { least = lit≤ tt; most = lit≤ tt };
      block = 44;
      slot = 0;
      holds = refl;
      row = refl;
      fits = refl;
      entry = 0;
      enters = record { entry_is = refl };
      parts = refl;
    };
  },
)

restored_back : AreAllowed small (drop 1 restored_body)
restored_back = (updated_row, record { called_for = tt; kind = record { active = refl; entry = refl; step = _; newest = refl; obj = refl; row = refl; undo = refl; previous = refl; parts = refl; last = refl } })

restored_ended : AreAllowed small restored_body
restored_ended = (restored_back, record { called_for = tt; kind = record { active = refl; entry = refl; none_left = refl } })

-- a delete, two inserts

filled_begin : AreAllowed small (drop 4 filled)
filled_begin = (restored_ended, record { called_for = tt; kind = record { number = refl; session_from = lit≤ tt; session_to = lit≤ tt; none_open = refl; entry = least_unused restored_body 3 0 (lit< tt) refl refl refl } })

filled_delete : AreAllowed small (drop 3 filled)
filled_delete = (
  filled_begin,
  record {
    called_for = tt;
    kind = deletes_plain (record {
      change = record {
        change = record { table = there (lit≤ tt); active = refl; entry = refl; undo = record { current = refl; sequence = refl; place = refl; fits = refl }; previous = refl };
        was = letters 1800 121;
        there = refl;
        free = λ h. absurd (true≢false (sym h));
      };
      block = 43;
      slot = 1;
      plain = record { kind = refl; row = refl };
      entry = 0;
      enters = record { entry_is = refl };
      parts = refl;
    });
  },
)

filled_insert_4 : AreAllowed small (drop 2 filled)
filled_insert_4 = (
  filled_delete,
  record {
    called_for = tt;
    kind = record {
      change = record { table = there (lit≤ tt); active = refl; entry = refl; undo = record { current = refl; sequence = refl; place = refl; fits = refl }; previous = refl };
      number = refl;
      bytes = letters 1500 97;
      size = record { least = lit≤ tt; most = lit≤ tt };
      block = 44;
      here = record { here = (1, lit< tt, refl); formatted = refl };
      takes = refl;
      entry = 0;
      enters = record { entry_is = refl };
      parts = refl;
    };
  },
)

filled_insert_5 : AreAllowed small (drop 1 filled)
filled_insert_5 = (
  filled_insert_4,
  record {
    called_for = tt;
    kind = record {
      change = record { table = there (lit≤ tt); active = refl; entry = refl; undo = record { current = refl; sequence = refl; place = refl; fits = refl }; previous = refl };
      number = refl;
      bytes = letters 1800 98;
      size = record { least = lit≤ tt; most = lit≤ tt };
      block = 44;
      here = record { here = (1, lit< tt, refl); formatted = refl };
      takes = refl;
      entry = 0;
      enters = record { entry_is = refl };
      parts = refl;
    };
  },
)

filled_commit : AreAllowed small filled
filled_commit = (filled_insert_5, record { called_for = tt; kind = record { active = refl; number = refl; entry = refl; whole = refl } })

-- the return

returned_begin : AreAllowed small (drop 2 returned)
returned_begin = (filled_commit, record { called_for = tt; kind = record { number = refl; session_from = lit≤ tt; session_to = lit≤ tt; none_open = refl; entry = least_unused filled 4 0 (lit< tt) refl refl refl } })

returned_row : AreAllowed small (drop 1 returned)
returned_row = (
  returned_begin,
  record {
    called_for = tt;
    kind = record {
      change = record {
        change = record { table = there (lit≤ tt); active = refl; entry = refl; undo = record { current = refl; sequence = refl; place = refl; fits = refl }; previous = refl };
        was = letters 400 119;
        there = refl;
        free = λ h. absurd (true≢false (sym h));
      };
      bytes = letters 615 117;
      size = record { least = lit≤ tt; most = lit≤ tt };
      head_block = 43;
      head_slot = 0;
      body_block = 44;
      body_slot = 0;
      migrated = record { head_kind = refl; head_row = refl; head_link = refl; body_kind = refl; body_row = refl; body_link = refl };
      no_room = refl;
      fits = refl;
      head_entry = 0;
      head_enters = record { entry_is = refl };
      body_entry = 0;
      body_enters = record { entry_is = refl };
      parts = refl;
    };
  },
)

returned_commit : AreAllowed small returned
returned_commit = (returned_row, record { called_for = tt; kind = record { active = refl; number = refl; entry = refl; whole = refl } })

-- the move

moved_reuse : AreAllowed small (drop 1 moved)
moved_reuse = (returned_commit, record { called_for = tt; kind = record { block = record { next = refl }; sequence = refl } })

moved_row : AreAllowed small moved
moved_row = (
  moved_reuse,
  record {
    called_for = refl;
    kind = moves_plain (record {
      move = record { table = there (lit≤ tt); movement = refl; number = refl; undo = record { current = refl; sequence = refl; place = refl; fits = refl } };
      block = 44;
      slot = 1;
      here = record { here = (1, lit< tt, refl); formatted = refl };
      plain = record { kind = refl; row = refl };
      over = refl;
      target = 43;
      first = refl;
      parts = refl;
    });
  },
)

-- undo block 37 again

reused_begin : AreAllowed small (drop 1 half_deleted)
reused_begin = (moved_row, record { called_for = tt; kind = record { number = refl; session_from = lit≤ tt; session_to = lit≤ tt; none_open = refl; entry = least_unused moved 5 0 (lit< tt) refl refl refl } })

reused_delete_5 : AreAllowed small half_deleted
reused_delete_5 = (
  reused_begin,
  record {
    called_for = tt;
    kind = deletes_plain (record {
      change = record {
        change = record { table = there (lit≤ tt); active = refl; entry = refl; undo = record { current = refl; sequence = refl; place = refl; fits = refl }; previous = refl };
        was = letters 1800 98;
        there = refl;
        free = λ h. absurd (true≢false (sym h));
      };
      block = 44;
      slot = 2;
      plain = record { kind = refl; row = refl };
      entry = 0;
      enters = record { entry_is = refl };
      parts = refl;
    });
  },
)

reused_block : AreAllowed small (drop 1 reused)
reused_block = (reused_delete_5, record { called_for = tt; kind = record { block = record { next = refl }; sequence = refl } })

pub reused_lawful : IsLawful small reused
reused_lawful = record {
  allowed = (
    reused_block,
    record {
      called_for = refl;
      kind = deletes_plain (record {
        change = record {
          change = record { table = there (lit≤ tt); active = refl; entry = refl; undo = record { current = refl; sequence = refl; place = refl; fits = refl }; previous = refl };
          was = letters 1790 122;
          there = refl;
          free = λ h. absurd (true≢false (sym h));
        };
        block = 43;
        slot = 2;
        plain = record { kind = refl; row = refl };
        entry = 0;
        enters = record { entry_is = refl };
        parts = refl;
      });
    },
  );
  whole = refl;
}

-- the lowering

lowered_format_45 : AreAllowed small (drop 3 lowered)
lowered_format_45 = (
  moved_row,
  record {
    called_for = tt;
    kind = record {
      table = there (lit≤ tt);
      first = refl;
      bitmaps = record { index_is = refl; l2_is = refl; l3_is = refl };
      bests = record { l1 = refl; l2 = refl };
    };
  },
)

lowered_format_46 : AreAllowed small (drop 2 lowered)
lowered_format_46 = (
  lowered_format_45,
  record {
    called_for = tt;
    kind = record {
      table = there (lit≤ tt);
      first = refl;
      bitmaps = record { index_is = refl; l2_is = refl; l3_is = refl };
      bests = record { l1 = refl; l2 = refl };
    };
  },
)

lowered_extend : AreAllowed small (drop 1 lowered)
lowered_extend = (
  lowered_format_46,
  record {
    called_for = tt;
    kind = record {
      table = there (lit≤ tt);
      extent = least_free (drop 2 lowered) 1 refl refl;
      index = refl;
      few = lit< tt;
      full = λ h. refl;
      formatted = λ h. refl;
      header = refl;
      l2 = refl;
      l3 = refl;
    };
  },
)

pub lowered_lawful : IsLawful small lowered
lowered_lawful = record {
  allowed = (
    lowered_extend,
    record {
      called_for = tt;
      kind = record {
        table = there (lit≤ tt);
        header = refl;
        lowering = refl;
        longest = refl;
        not_none = lit< tt;
        released = refl;
        high = refl;
        low = refl;
        l2 = refl;
        l3 = refl;
        bests = refl;
      };
    },
  );
  whole = refl;
}
