-- The store with two tables is lawful, and its catalogue computes.
use Rattle.std.proofs.Common.{◌≡◌, ℕ, true, false, List, drop, refl, arith, lit<, lit≤}
use Rattle.seg_words.proofs.Lemmas.{agree_below, agree_below_at}
use Rattle.redo_model.specs.Records.{Record}
use Rattle.redo_model.specs.Model.{IsLeastFree, is_free_extent, AreAllowed}
use Rattle.redo_model.specs.Worked.{small}
use Rattle.page_says.specs.TwoTables.{two, TwoRight}

-- the least free extent of the first x
least_free : (R : List Record) (x : ℕ) → is_free_extent small R x ≡ true → agree_below (is_free_extent small R) (λ y. false) x ≡ true → IsLeastFree small R x
least_free R x f h = record { free = f; least = λ y l. agree_below_at (is_free_extent small R) (λ j. false) x y h (omega arith) }

first_table : AreAllowed small (drop 3 two)
first_table = (tt, record { called_for = tt; kind = record { named = refl; new_name = refl; few = lit< tt; pctfree = lit≤ tt; number = refl; extent = 0; room = least_free (drop 4 two) 0 refl refl; header = refl } })

first_extent : AreAllowed small (drop 2 two)
first_extent = (
  first_table,
  record {
    called_for = (refl, refl);
    kind = record {
      table = record { least = lit≤ tt; most = lit≤ tt };
      extent = least_free (drop 3 two) 0 refl refl;
      index = refl;
      few = lit< tt;
      full = λ h. absurd (omega arith);
      formatted = λ h. absurd (omega arith);
      header = refl;
      l2 = refl;
      l3 = refl;
    };
  },
)

second_table : AreAllowed small (drop 1 two)
second_table = (first_extent, record { called_for = tt; kind = record { named = refl; new_name = refl; few = lit< tt; pctfree = lit≤ tt; number = refl; extent = 1; room = least_free (drop 2 two) 1 refl refl; header = refl } })

second_extent : AreAllowed small two
second_extent = (
  second_table,
  record {
    called_for = (refl, refl);
    kind = record {
      table = record { least = lit≤ tt; most = lit≤ tt };
      extent = least_free (drop 1 two) 1 refl refl;
      index = refl;
      few = lit< tt;
      full = λ h. absurd (omega arith);
      formatted = λ h. absurd (omega arith);
      header = refl;
      l2 = refl;
      l3 = refl;
    };
  },
)

pub two_right : TwoRight
two_right = record {
  lawful = record { allowed = second_extent; whole = refl };
  before = refl;
  page = refl;
  count = refl;
  count_is = refl;
  first = refl;
  second = refl;
  second_is = refl;
  no_name = refl;
  header = refl;
  header_is = refl;
  no_header = refl;
}
