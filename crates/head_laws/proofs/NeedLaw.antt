-- An update that needs a block.
use Rattle.std.proofs.Common.{length, Some, None, sym, ◌∙◌, ap, subst}
use Rattle.seg_words.specs.Types.{Slot}
use Rattle.mark_laws.specs.Searches.{find_of}
use Rattle.change_laws.specs.Types.{path_of, updated_blocks, change_by, stand_at, by_change, by_lack, Means, MeansNeeded}
use Rattle.change_laws.proofs.AnswerLaw.{answers_mean, blocks_are_needed, places_answer}
use Rattle.head_laws.specs.Heads.{sought_by}
use Rattle.head_laws.specs.Needs.{NeedsAreMet}
use Rattle.head_laws.proofs.HeadLaw.{located_were_found, born_now, free_are_newest, heads_stay, found_are_targets}

pub needs_are_met : NeedsAreMet
needs_are_met sh R own o n p born undo start head bytes needed s h on w e =
    let len = length bytes in
    let x = stand_at R p in
    let f = located_were_found sh R own o n p born undo start head w in
    let bs = updated_blocks R own x len in
    let change = change_by R o n x bytes None (path_of R own x len) in
    let means : MeansNeeded R own o n p start bs len change needed = subst (Means sh R own o n p start bs len change) e (answers_mean sh R own o n p born undo start bs len change h on f) in
    let free = means.past.free in
    let away = ((blocks_are_needed R own o n x bytes None).needed means.none).0 in
    let top = free_are_newest sh R own o n p born undo start h on f free in
    let at = born_now sh R own o n p born undo start h on f free.unchanged in
    record {
      free = free;
      stands = heads_stay sh R own o n p born undo start head h on w free;
      length_is = means.length_is;
      away = away;
      target = λ hint b q. found_are_targets sh R own o n p born undo start head len hint b s h on w free (ap (λ l. find_of sh R (sought_by own o l head p) hint) (sym means.length_is) ∙ q);
      next = λ b.
          (places_answer sh R own o n p born undo start bs len (change_by R o n x bytes (Some b) (path_of R own x len)) h on f).free at (ap (λ (i : Slot). i.undo) top.seen ∙ top.undo_is) top.undo_is
          ∙ ap (λ l. by_lack R l (by_change sh R len (change_by R o n x bytes (Some b) (path_of R own x len)))) means.past.entries
          ∙ ap (λ w. by_change sh R len (change_by R o n x bytes (Some b) w)) away;
    }
