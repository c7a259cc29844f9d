-- What the definitions compute on small runs.
use Rattle.std.proofs.Common.{refl}
use Rattle.mark_laws.specs.Worked.{NewTableRight, SearchesRight}

pub new_table_right : NewTableRight
new_table_right = record { extent = refl; first = refl; then_format = refl; then_block = refl; next = refl; left_out = refl }

pub searches_right : SearchesRight
searches_right = record {
  extend = refl;
  advance = refl;
  format = refl;
  last = refl;
  records = refl;
  lowest = refl;
  highest = refl;
  end = refl;
  hinted = refl;
  hint_of_no_extent = refl;
  too_long = refl;
  why = refl;
  kept_as_full = refl;
  mark_before_full = refl;
  full_at_last = refl;
  full_but_one = refl;
}
