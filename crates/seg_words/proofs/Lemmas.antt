-- The lemmas of the standard library that proofs cite, from one place; operators and what goes with them stand in
-- Rattle.std.proofs.Common. Declares nothing.
pub use Rattle.std.specs.List.{AllByRecursion, common_prefix_len, list_all, list_any, onto_first, position_or_len}
pub use Rattle.std.specs.Int.{Width, byte_len, from_be_bytes, to_be_bytes}
pub use Rattle.std.proofs.lemmas.Bool.{agree_below, agree_below_at, and_from, and_left, and_parts, and_right, cases_Bool, cases_eq, cases_lt, cases_order, cond-false, cond-true, cond_both, eqb-false, lt-leb, not-false, not-true, or_cases, or_left, or_parts, or_right}
pub use Rattle.std.proofs.lemmas.Bool.Decides.{nat_tests}
pub use Rattle.std.proofs.lemmas.Grind.{common_steps, flat_map-append}
pub use Rattle.std.proofs.lemmas.List.{drop-append-le, drop-replicate, drop_all, drop_more, flat_map_more, get_or-replicate, get_or_past, length-map, length-replicate, length-reverse, map-append, replicate-append-replicate, reverse-append, set-get_or, take-append-le, take-replicate, take_min, take_more, take_more_set, take_rest}
pub use Rattle.std.proofs.lemmas.List.Concat.{flat_map-cons}
pub use Rattle.std.proofs.lemmas.List.Edits.{map_over_more}
pub use Rattle.std.proofs.lemmas.List.Elements.{All-from_recursion, All-push, All-set, filter-append, recursion_from_All}
pub use Rattle.std.proofs.lemmas.List.Folds.{length-flat_map-take, list_all-append}
pub use Rattle.std.proofs.lemmas.List.Sums.{fold-append, fold_more, get_or-le-sum_by, passes_at_first, prefix_len-le-length, sum_by-append, sum_by-cons, sum_by-set, sum_by_push}
pub use Rattle.std.proofs.lemmas.Nat.{be_bytes_2, be_bytes_4, be_bytes_8, from_be_bytes-to_be_bytes_2, from_be_bytes-to_be_bytes_4, from_be_bytes-to_be_bytes_8}
pub use Rattle.std.proofs.Math.Dec.{eqb-suc-suc, eqb-suc-zero, eqb-zero-suc}
pub use Rattle.std.proofs.Math.Seq.{drop-append_seam, get_or-append_seam, take-append-add, take-append_seam, take-set-lt}
