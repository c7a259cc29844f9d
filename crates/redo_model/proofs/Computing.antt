-- The small runs compute to what they are to show.
use Rattle.std.proofs.Common.{refl}
use Rattle.redo_model.specs.Computed.{NineRight, MigratedRight, MovedRight, ReusedRight}

pub nine_right : NineRight
nine_right = record { lsn = refl; commits = refl; table = refl; before = refl; own = refl; ended = refl; number = refl; slots = refl; slot = refl; free = refl; class = refl; kept = refl; entries = refl; entry = refl; low = refl; high = refl; places = refl; formatted = refl; unformatted = refl; free_extents = refl; at_0 = refl; at_1 = refl; images = refl; undo = refl }

pub migrated_right : MigratedRight
migrated_right = record { free_three = refl; class_three = refl; own = refl; others = refl; head = refl; body = refl; free_head = refl; free_body = refl; at_own = refl; at_own_body = refl; at_others = refl; at_others_body = refl; holder = refl; next = refl; used = refl; committed = refl; committed_before = refl; free_committed = refl; back = refl; back_head = refl; back_body = refl; back_at = refl; back_steps = refl; rolled_back = refl }

pub moved_right : MovedRight
moved_right = record { updated_own = refl; updated_others = refl; restored = refl; filled_rows = refl; filled_before = refl; free_filled = refl; returned_row = refl; free_returned = refl; takes = refl; moved_row = refl; moved_from = refl; moved_table = refl; moved_seen = refl; moved_seen_before = refl; moved_not_twice = refl; moved_commits = refl; lowered_extents = refl; lowered_high = refl; lowerings = refl; vacant = refl; not_vacant = refl }

pub reused_right : ReusedRight
reused_right = record { used_before = refl; used_by_move = refl; used_by_both = refl; next = refl; used = refl; still_used = refl; held_before = refl; held = refl; sequence = refl; holder = refl; other_holder = refl; none_next = refl; not_reused_before = refl; reused_now = refl; new_not_reused = refl; gone_first = refl; gone = refl; own = refl; others = refl; needed = refl; needed_by_past = refl; too_old = refl; not_needed = refl }
